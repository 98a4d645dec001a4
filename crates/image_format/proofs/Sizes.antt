-- How long an image is.
use Prim.Native.Nat.{ℕ, zero, suc, ◌+◌, ◌-◌, ◌*◌, ◌<◌, ◌≤◌}
use native.Mathlib.Omega.{arith}
use native.Mathlib.Nat.{suc-mul}
use mathlib.Core.Path.{◌≡◌, refl, sym, ap, ◌∙◌}
use mathlib.Core.List.{List, [], ◌∷◌, ◌++◌, append_assoc}
use lib.ListN.{length, get_or, take, drop, length-append, length-drop}
use lib.Seq.{length-take-le}
use Rattle.state.specs.declared.record.Layout.{Layout}
use Rattle.state.specs.Bases.{base_of, words_in}
use Rattle.state.proofs.Sums.{base-next, base-zero, base-apart}
use Rattle.soundness.proofs.Facts.{LayoutSound}
use Rattle.image_format.specs.Bytes.{pair_bytes, word_bytes, joined}
use Rattle.image_format.specs.Chunk.{chunk_bytes}
use Rattle.image_format.specs.Head.{head_bytes}
use Rattle.image_format.specs.Segment.{Segment, segment_bytes, segments_bytes}
use Rattle.image_format.specs.Domain.{Domain, domain_bytes, domains_bytes}
use Rattle.image_format.specs.Image.{rows_from, segment_at, domain_at, segments_in, domains_in, image_from, bytes_of}
use Rattle.image_format.specs.declared.Head.{Head}
use Rattle.image_format.proofs.Joined.{joined_snoc, rows_next, rows-length}
use Rattle.image_format.proofs.Written.{words_size}

pub head-size : (h : Head) → length (head_bytes h) ≡ 12
unfolding head_bytes chunk_bytes word_bytes pair_bytes
head-size h = refl

pub segment-size : (s : Segment) → length (segment_bytes s) ≡ 8 + 4 * length s.words
unfolding segment_bytes chunk_bytes pair_bytes
segment-size s = omega (arith, words_size s.words)

pub domain-size : (d : Domain) → length (domain_bytes d) ≡ 5 + length d.rights
unfolding domain_bytes chunk_bytes pair_bytes
domain-size d = omega arith

pub base-fits : (l : Layout) → LayoutSound l → (i : ℕ) → i < 16 → base_of l.lengths i + get_or l.lengths i 0 ≤ 8192
base-fits l f i h = omega (arith, base-apart l.lengths i 16 h, f.words)

-- the segments that do not exist have no words
pub base-all : (l : Layout) → LayoutSound l → (n : ℕ) → l.segments + n ≤ 16 → base_of l.lengths (l.segments + n) ≡ base_of l.lengths l.segments
base-all l f zero h = ap (base_of l.lengths) (omega arith)
base-all l f (suc n) h =
    ap (base_of l.lengths) (let e : l.segments + suc n ≡ l.segments + n + 1 = omega arith in e) ∙ base-next l.lengths (l.segments + n) ∙
    (let z = f.unused (l.segments + n) (omega arith) (omega arith) in let r = base-all l f n (omega arith) in omega arith)

pub words-all : (l : Layout) → LayoutSound l → base_of l.lengths l.segments ≡ words_in l.lengths
words-all l f = sym (base-all l f (16 - l.segments) (omega (arith, f.segments))) ∙ ap (base_of l.lengths) (let e : l.segments + (16 - l.segments) ≡ 16 = omega (arith, f.segments) in e)

module _ (l : Layout) (words : List ℕ) (f : LayoutSound l) (enough : 8192 ≤ length words) where
  pub segment-words : (i : ℕ) → i < 16 → length (take (get_or l.lengths i 0) (drop (base_of l.lengths i) words)) ≡ get_or l.lengths i 0
  segment-words i h = length-take-le _ (drop (base_of l.lengths i) words) (omega (arith, base-fits l f i h, length-drop (base_of l.lengths i) words))

  pub segments-size : (i : ℕ) → i ≤ 16 → length (segments_bytes (rows_from (segment_at l.lengths l.gates l.gatedomains words) 0 i)) ≡ 8 * i + 4 * base_of l.lengths i
  unfolding rows_from joined
  segments-size zero h = let z = base-zero l.lengths in omega arith
  segments-size (suc i) h =
      let row = segment_at l.lengths l.gates l.gatedomains words in
      let one : rows_from row 0 (suc i) ≡ rows_from row 0 i ++ (row i ∷ []) = ap (rows_from row 0) (let e : suc i ≡ i + 1 = omega arith in e) ∙ rows_next row i in
      ap segments_length one ∙ ap length (joined_snoc segment_bytes (rows_from row 0 i) (row i)) ∙ length-append (segments_bytes (rows_from row 0 i)) (segment_bytes (row i)) ∙
      (let a = segments-size i (omega arith) in let b = segment-size (row i) in let c = segment-words i (omega arith) in
      let d : base_of l.lengths (suc i) ≡ base_of l.lengths i + get_or l.lengths i 0 = ap (base_of l.lengths) (let e : suc i ≡ i + 1 = omega arith in e) ∙ base-next l.lengths i in
      omega arith)
    where
      segments_length : List Segment → ℕ
      segments_length ss = length (segments_bytes ss)

one_more : (i m : ℕ) {a b : ℕ} → a ≡ i * m → b ≡ m → a + b ≡ suc i * m
one_more i m p q = (λ j. p j + q j) ∙ sym (suc-mul i m)

pub end-size : length (chunk_bytes 4 []) ≡ 4
unfolding chunk_bytes pair_bytes
end-size = refl

module _ (l : Layout) (f : LayoutSound l) (wide : length l.rights ≡ 128) where
  pub domain-rights : (i : ℕ) → i < 8 → length (take l.segments (drop (16 * i) l.rights)) ≡ l.segments
  domain-rights i h = length-take-le l.segments (drop (16 * i) l.rights) (omega (arith, f.segments, wide, length-drop (16 * i) l.rights))

  pub domains-size : (i : ℕ) → i ≤ 8 → length (domains_bytes (rows_from (domain_at l.segments l.stacks l.rights) 0 i)) ≡ i * (5 + l.segments)
  unfolding rows_from joined
  domains-size zero h = omega arith
  domains-size (suc i) h =
      let row = domain_at l.segments l.stacks l.rights in
      let one : rows_from row 0 (suc i) ≡ rows_from row 0 i ++ (row i ∷ []) = ap (rows_from row 0) (let e : suc i ≡ i + 1 = omega arith in e) ∙ rows_next row i in
      ap domains_length one ∙ ap length (joined_snoc domain_bytes (rows_from row 0 i) (row i)) ∙ length-append (domains_bytes (rows_from row 0 i)) (domain_bytes (row i)) ∙
      one_more i (5 + l.segments) (domains-size i (omega arith)) (domain-size (row i) ∙ ap (λ (n : ℕ). 5 + n) (domain-rights i (omega arith)))
    where
      domains_length : List Domain → ℕ
      domains_length ds = length (domains_bytes ds)

-- the parts of an image
pub bytes-size : (l : Layout) (words : List ℕ) → length (bytes_of (image_from l words)) ≡ 12 + (length (segments_bytes (segments_in l words)) + (length (domains_bytes (domains_in l)) + 4))
unfolding bytes_of
bytes-size l words =
    let head : Head = record { start = l.start; segments = length (segments_in l words); domains = length (domains_in l) } in
    let s = segments_bytes (segments_in l words) in
    let d = domains_bytes (domains_in l) in
    omega (arith, length-append (head_bytes head) (s ++ (d ++ chunk_bytes 4 [])), length-append s (d ++ chunk_bytes 4 []), length-append d (chunk_bytes 4 []), head-size head, end-size)

pub bytes-are : (l : Layout) (words : List ℕ)
    → ((head_bytes (record { start = l.start; segments = l.segments; domains = l.domains }) ++ segments_bytes (segments_in l words)) ++ domains_bytes (domains_in l)) ++ (pair_bytes 0 ++ pair_bytes 4) ≡ bytes_of (image_from l words)
unfolding bytes_of chunk_bytes pair_bytes
bytes-are l words =
    let s = segments_bytes (segments_in l words) in
    let d = domains_bytes (domains_in l) in
    let e = chunk_bytes 4 [] in
    let h : Head = record { start = l.start; segments = l.segments; domains = l.domains } in
    append_assoc (head_bytes h ++ s) d e ∙ append_assoc (head_bytes h) s (d ++ e) ∙
    (λ j. head_bytes (record { start = l.start; segments = sym (rows-length (segment_at l.lengths l.gates l.gatedomains words) 0 l.segments) j; domains = sym (rows-length (domain_at l.segments l.stacks l.rights) 0 l.domains) j }) ++ (s ++ (d ++ e)))

pub image-size : (l : Layout) (words : List ℕ) → LayoutSound l → 8192 ≤ length words → length l.rights ≡ 128 → length (bytes_of (image_from l words)) ≡ 16 + 8 * l.segments + 4 * words_in l.lengths + l.domains * (5 + l.segments)
image-size l words f enough wide =
    omega (arith, bytes-size l words, segments-size l words f enough l.segments f.segments, domains-size l f wide l.domains f.domains, words-all l f)
