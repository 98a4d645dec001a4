-- Writing what is read: each combinator, then the image.
use Prim.Native.Nat.{ℕ, zero, suc, ◌+◌, ◌-◌, ◌*◌, ◌/◌, ◌%◌, ◌^◌, ◌<◌, ◌≤◌}
use native.Mathlib.Omega.{arith}
use mathlib.Core.Path.{◌≡◌, refl, sym, ap, ◌∙◌, subst}
use mathlib.Core.Bool.{Bool, true, false}
use mathlib.Core.List.{List, [], ◌∷◌, ◌++◌, append_assoc, append-nil}
use lib.Dec.{ltb}
use lib.ListN.{length, get_or, take, drop, length-drop, length-take, take-append-drop, get_or-eq_default}
use lib.Seq.{get_or-drop, get_or-take, drop-drop}
use borrow.Author.Tests.{ltb-true, ltb-false}
use Rattle.words.specs.Answer.{ok}
use Rattle.words.specs.PointerWord.{pointer_word}
use Rattle.words.proofs.RoundTrips.{pack-unpacked}
use Rattle.image_format.specs.Bytes.{pair_of, pair_bytes, word_of, word_bytes, words_of, words_bytes, joined}
use Rattle.image_format.specs.Chunk.{Read, chunk_bytes}
use Rattle.image_format.specs.Head.{head_bytes, start_word}
use Rattle.image_format.specs.Segment.{Segment, word_count, segment_of, segments_of, segment_bytes, segments_bytes}
use Rattle.image_format.specs.Domain.{Domain, domain_of, domains_of, domain_bytes, domains_bytes}
use Rattle.image_format.specs.Image.{Image, image_of, bytes_of}
use Rattle.image_format.specs.declared.Head.{Head}
use Rattle.image_format.proofs.Bodies.{body-length}
use Rattle.image_format.proofs.Segments.{segment-facts}
use Rattle.image_format.proofs.Images.{image-facts, Ended, end-facts, head-facts, HeadRead, segments-facts, segments-end, segments-count, domains-facts, domains-end, domains-count}
use Rattle.roundtrips.proofs.Good.{domain-facts}
use Rattle.roundtrips.specs.Statements.{Below}

pub below-drop : (n m : ℕ) (xs : List ℕ) → Below n xs → Below n (drop m xs)
below-drop n m xs b k = rw (get_or-drop m xs k 0) (b (m + k))

pub below-take : (n m : ℕ) (xs : List ℕ) → 0 < n → Below n xs → Below n (take m xs)
below-take n m xs p b k = by (ltb k m) refl
  where
    by : (t : Bool) → ltb k m ≡ t → get_or (take m xs) k 0 < n
    by true e = rw (get_or-take m xs k 0 (ltb-true _ _ e)) (b k)
    by false e = rw (get_or-eq_default (take m xs) 0 {n = k} (let h = ltb-false k m e in omega (arith, length-take m xs))) p

-- a list that has one, and four, elements
one_more : (xs : List ℕ) → 1 ≤ length xs → get_or xs 0 0 ∷ drop 1 xs ≡ xs
one_more [] h = absurd (omega arith)
one_more (x ∷ xs) h = refl

four-more : (xs : List ℕ) → 4 ≤ length xs → get_or xs 0 0 ∷ get_or xs 1 0 ∷ get_or xs 2 0 ∷ get_or xs 3 0 ∷ drop 4 xs ≡ xs
four-more [] h = absurd (omega arith)
four-more (a ∷ []) h = absurd (omega arith)
four-more (a ∷ b ∷ []) h = absurd (omega arith)
four-more (a ∷ b ∷ c ∷ []) h = absurd (omega arith)
four-more (a ∷ b ∷ c ∷ d ∷ xs) h = refl

none_left : (xs : List ℕ) → length xs ≡ 0 → xs ≡ []
none_left [] h = refl
none_left (x ∷ xs) h = absurd (omega arith)

pair-bytes : (a b : ℕ) → a < 256 → b < 256 → pair_bytes (a + b * 256) ≡ a ∷ b ∷ []
unfolding pair_bytes
pair-bytes a b ha hb =
    λ j. (let p : (a + b * 256) % 256 ≡ a = omega arith in p) j ∷ (let q : (a + b * 256) / 256 % 256 ≡ b = omega arith in q) j ∷ []

pub pair-forth : (xs : List ℕ) → Below 256 xs → pair_bytes (pair_of xs) ≡ get_or xs 0 0 ∷ get_or xs 1 0 ∷ []
unfolding pair_of
pair-forth xs b = pair-bytes (get_or xs 0 0) (get_or xs 1 0) (b 0) (b 1)

pair_small : (xs : List ℕ) → Below 256 xs → pair_of xs < 65536
unfolding pair_of
pair_small xs b = omega (arith, b 0, b 1)

word_small : (xs : List ℕ) → Below 256 xs → word_of xs < 2 ^ 32
unfolding word_of
word_small xs b = omega (arith, pair_small xs b, pair_small (drop 2 xs) (below-drop 256 2 xs b))

pub word-forth : (xs : List ℕ) → Below 256 xs → word_bytes (word_of xs) ≡ get_or xs 0 0 ∷ get_or xs 1 0 ∷ get_or xs 2 0 ∷ get_or xs 3 0 ∷ []
unfolding word_bytes word_of
word-forth xs b =
    let low = pair_of xs in
    let high = pair_of (drop 2 xs) in
    let small : low < 65536 = pair_small xs b in
    let p : (low + high * 65536) % 65536 ≡ low = omega arith in
    let q : (low + high * 65536) / 65536 ≡ high = omega arith in
    (λ j. pair_bytes (p j) ++ pair_bytes (q j)) ∙ (λ j. pair-forth xs b j ++ pair-forth (drop 2 xs) (below-drop 256 2 xs b) j) ∙
    (λ j. get_or xs 0 0 ∷ get_or xs 1 0 ∷ get_or-drop 2 xs 0 0 j ∷ get_or-drop 2 xs 1 0 j ∷ [])

pub words-forth : (n : ℕ) (xs : List ℕ) → Below 256 xs → length xs ≡ 4 * n → words_bytes (words_of n xs) ≡ xs
unfolding words_of joined
words-forth zero xs b h = sym (none_left xs (omega arith))
words-forth (suc n) xs b h =
    (λ j. word-forth xs b j ++ words-forth n (drop 4 xs) (below-drop 256 4 xs b) (omega (arith, length-drop 4 xs)) j) ∙ four-more xs (omega arith)

-- a chunk
pub chunk-forth : (kind n : ℕ) (bytes : List ℕ) → Below 256 bytes → pair_of bytes ≡ n → pair_of (drop 2 bytes) ≡ kind → 4 + n ≤ length bytes
    → chunk_bytes kind (take n (drop 4 bytes)) ++ drop (4 + n) bytes ≡ bytes
unfolding chunk_bytes
chunk-forth kind n bytes b size kind-is room =
    let body = take n (drop 4 bytes) in
    let p : pair_bytes (length body) ≡ get_or bytes 0 0 ∷ get_or bytes 1 0 ∷ [] = ap pair_bytes (body-length bytes n room ∙ sym size) ∙ pair-forth bytes b in
    let q : pair_bytes kind ≡ get_or bytes 2 0 ∷ get_or bytes 3 0 ∷ [] =
    ap pair_bytes (sym kind-is) ∙ pair-forth (drop 2 bytes) (below-drop 256 2 bytes b) ∙ (λ j. get_or-drop 2 bytes 0 0 j ∷ get_or-drop 2 bytes 1 0 j ∷ []) in
    let r : body ++ drop (4 + n) bytes ≡ drop 4 bytes = ap (λ (ys : List ℕ). body ++ ys) (sym (drop-drop n 4 bytes)) ∙ take-append-drop n (drop 4 bytes) in
    (λ j. (p j ++ (q j ++ body)) ++ drop (4 + n) bytes) ∙ (λ j. get_or bytes 0 0 ∷ get_or bytes 1 0 ∷ get_or bytes 2 0 ∷ get_or bytes 3 0 ∷ r j) ∙ four-more bytes (omega arith)

-- a segment
pub segment-forth : (domains room : ℕ) (bytes : List ℕ) {s : Read Segment} → Below 256 bytes → segment_of domains room bytes ≡ ok s → segment_bytes s.value ++ s.rest ≡ bytes
unfolding segment_bytes
segment-forth domains room bytes {s} b e =
    let p = segment-facts domains room bytes e in
    let n = pair_of bytes in
    let body = take n (drop 4 bytes) in
    let below : Below 256 body = below-take 256 n (drop 4 bytes) (omega arith) (below-drop 256 4 bytes b) in
    let size : length body ≡ n = body-length bytes n p.room-is in
    let some = p.length-is.some in
    let whole = p.length-is.whole in
    let ws : words_bytes (words_of (word_count n) (drop 4 body)) ≡ drop 4 body =
    words-forth (word_count n) (drop 4 body) (below-drop 256 4 body below) (let k : length (drop 4 body) ≡ 4 * ((n - 4) / 4) = omega (arith, length-drop 4 body) in k) in
    let whole-body : pair_bytes (pair_of body) ++ (get_or body 2 0 ∷ 0 ∷ words_bytes (words_of (word_count n) (drop 4 body))) ≡ body =
    (λ j. pair-forth body below j ++ (get_or body 2 0 ∷ sym p.fields-is.unused j ∷ ws j)) ∙ four-more body (omega arith) in
    (λ j. chunk_bytes 2 (pair_bytes (p.gates-is j) ++ (p.domain-is j ∷ 0 ∷ words_bytes (p.words-is j))) ++ p.rest-is j) ∙
    (λ j. chunk_bytes 2 (whole-body j) ++ drop (4 + n) bytes) ∙ chunk-forth 2 n bytes b refl p.kind-is p.room-is

pub record Forth (bytes written rest : List ℕ) : Type 0 where
  pub is : written ++ rest ≡ bytes
  pub below : Below 256 rest

pub segments-forth : (n domains room : ℕ) (bytes : List ℕ) {r : Read (List Segment)} → Below 256 bytes → segments_of n domains room bytes ≡ ok r → Forth bytes (segments_bytes r.value) r.rest
unfolding joined
segments-forth zero domains room bytes b e =
    subst (λ (x : Read (List Segment)). Forth bytes (segments_bytes x.value) x.rest) (segments-end domains room bytes e) (record { is = refl; below = b })
segments-forth (suc n) domains room bytes b e =
    let f = segments-facts n domains room bytes e in
    let p = segment-facts domains room bytes f.first-is in
    let c : Below 256 f.first.rest = subst (λ (x : List ℕ). Below 256 x) (sym p.rest-is) (below-drop 256 (4 + pair_of bytes) bytes b) in
    let g = segments-forth n domains (room - length f.first.value.words) f.first.rest c f.others-is in
    subst (λ (x : Read (List Segment)). Forth bytes (segments_bytes x.value) x.rest) f.is
    (record {
      is = append_assoc (segment_bytes f.first.value) (segments_bytes f.others.value) f.others.rest ∙ ap (λ (ys : List ℕ). segment_bytes f.first.value ++ ys) g.is ∙ segment-forth domains room bytes b f.first-is;
      below = g.below;
    })

-- a domain
pub domain-forth : (segments : ℕ) (bytes : List ℕ) {d : Read Domain} → Below 256 bytes → domain_of segments bytes ≡ ok d → domain_bytes d.value ++ d.rest ≡ bytes
unfolding domain_bytes
domain-forth segments bytes {d} b e =
    let p = domain-facts segments bytes e in
    let body = take (1 + segments) (drop 4 bytes) in
    let size : length body ≡ 1 + segments = body-length bytes (1 + segments) p.room in
    (λ j. domain_bytes (p.value-is j) ++ p.rest-is j) ∙ (λ j. chunk_bytes 3 (one_more body (omega arith) j) ++ drop (4 + (1 + segments)) bytes) ∙
    chunk-forth 3 (1 + segments) bytes b p.size p.chunk.kind-is p.room

pub domains-forth : (n segments : ℕ) (bytes : List ℕ) {r : Read (List Domain)} → Below 256 bytes → domains_of n segments bytes ≡ ok r → Forth bytes (domains_bytes r.value) r.rest
unfolding joined
domains-forth zero segments bytes b e =
    subst (λ (x : Read (List Domain)). Forth bytes (domains_bytes x.value) x.rest) (domains-end segments bytes e) (record { is = refl; below = b })
domains-forth (suc n) segments bytes b e =
    let f = domains-facts n segments bytes e in
    let p = domain-facts segments bytes f.first-is in
    let c : Below 256 f.first.rest = subst (λ (x : List ℕ). Below 256 x) (sym p.rest-is) (below-drop 256 (4 + (1 + segments)) bytes b) in
    let g = domains-forth n segments f.first.rest c f.others-is in
    subst (λ (x : Read (List Domain)). Forth bytes (domains_bytes x.value) x.rest) f.is
    (record {
      is = append_assoc (domain_bytes f.first.value) (domains_bytes f.others.value) f.others.rest ∙ ap (λ (ys : List ℕ). domain_bytes f.first.value ++ ys) g.is ∙ domain-forth segments bytes b f.first-is;
      below = g.below;
    })

-- a head
pub head-forth : (bytes : List ℕ) {h : Read Head} → Below 256 bytes → HeadRead bytes h → head_bytes h.value ++ h.rest ≡ bytes
unfolding head_bytes
head-forth bytes {h} b p =
    let body = take 8 (drop 4 bytes) in
    let below : Below 256 body = below-take 256 8 (drop 4 bytes) (omega arith) (below-drop 256 4 bytes b) in
    let tail : Below 256 (drop 4 body) = below-drop 256 4 body below in
    let size : length body ≡ 8 = body-length bytes 8 p.room in
    let g = p.body in
    let q = g.located-is in
    let start : start_word (record { word = g.pointer.word; segment = g.pointer.segment; domain = get_or body 2 0 }) ≡ word_of (drop 4 body) =
    ap (λ (t : Bool). pointer_word (record { word = g.pointer.word; segment = g.pointer.segment; tag = t })) (sym q.untagged) ∙ pack-unpacked (word_of (drop 4 body)) g.pointer (word_small (drop 4 body) tail) q.is in
    let word : word_bytes (word_of (drop 4 body)) ≡ drop 4 body =
    word-forth (drop 4 body) tail ∙ ap (λ (ys : List ℕ). get_or (drop 4 body) 0 0 ∷ get_or (drop 4 body) 1 0 ∷ get_or (drop 4 body) 2 0 ∷ get_or (drop 4 body) 3 0 ∷ ys) (sym (none_left (drop 4 (drop 4 body)) (omega (arith, length-drop 4 (drop 4 body), length-drop 4 body)))) ∙
    four-more (drop 4 body) (omega (arith, length-drop 4 body)) in
    let whole : get_or body 0 0 ∷ get_or body 1 0 ∷ get_or body 2 0 ∷ 0 ∷ word_bytes (start_word (record { word = g.pointer.word; segment = g.pointer.segment; domain = get_or body 2 0 })) ≡ body =
    (λ j. get_or body 0 0 ∷ get_or body 1 0 ∷ get_or body 2 0 ∷ sym g.unused-zero j ∷ (ap word_bytes start ∙ word) j) ∙ four-more body (omega arith) in
    (λ j. head_bytes (sym g.is j) ++ p.rest-is j) ∙ (λ j. chunk_bytes 1 (whole j) ++ drop 12 bytes) ∙ chunk-forth 1 8 bytes b p.size_is p.kind-is p.room

end-forth : (bytes : List ℕ) → Below 256 bytes → Ended bytes → chunk_bytes 4 [] ≡ bytes
end-forth bytes b f =
    let s = f.size in
    sym (append-nil (chunk_bytes 4 [])) ∙ ap (λ (ys : List ℕ). chunk_bytes 4 [] ++ ys) (sym (none_left (drop 4 bytes) (omega (arith, length-drop 4 bytes)))) ∙
    chunk-forth 4 0 bytes b f.body_is f.kind-is (omega arith)

-- an image
pub image-forth : (bytes : List ℕ) {i : Image} → Below 256 bytes → image_of bytes ≡ ok i → bytes_of i ≡ bytes
unfolding bytes_of
image-forth bytes {i} b e =
    let f = image-facts bytes e in
    let h = head-facts bytes f.head-is in
    let below : Below 256 f.head.rest = subst (λ (x : List ℕ). Below 256 x) (sym h.rest-is) (below-drop 256 12 bytes b) in
    let s = segments-forth _ _ _ f.head.rest below f.segments-is in
    let d = domains-forth _ _ f.segments.rest s.below f.domains-is in
    let k = segments-count _ _ _ _ f.segments-is in
    let l = domains-count _ _ _ f.domains-is in
    ap bytes_of (sym f.is) ∙
    (λ j. head_bytes (record { start = f.head.value.start; segments = k j; domains = l j }) ++ (segments_bytes f.segments.value ++ (domains_bytes f.domains.value ++ end-forth f.domains.rest d.below (end-facts f.domains.rest f.end_is f.none_left) j))) ∙
    ap (λ (ys : List ℕ). head_bytes f.head.value ++ (segments_bytes f.segments.value ++ ys)) d.is ∙
    ap (λ (ys : List ℕ). head_bytes f.head.value ++ ys) s.is ∙ head-forth bytes b h
