-- Images whose fields are all in their ranges.
use Prim.Native.Nat.{ℕ, zero, suc, ◌+◌, ◌-◌, ◌*◌, ◌/◌, ◌<◌, ◌≤◌}
use native.Mathlib.Omega.{arith}
use native.Mathlib.Nat.{suc-mul}
use mathlib.Core.Path.{◌≡◌, sym, ap, ◌∙◌, subst}
use mathlib.Core.Bool.{true}
use mathlib.Core.List.{List, [], ◌∷◌}
use lib.Dec.{ltb}
use lib.ListN.{length, get_or, take, drop, length-append, length-drop}
use borrow.Author.Tests.{ltb-true}
use Rattle.words.specs.Answer.{ok, ◌>>◌, require}
use Rattle.image_format.specs.Bytes.{pair_of, joined}
use Rattle.image_format.specs.Chunk.{Read, chunk_at, chunk_of, exactly}
use Rattle.image_format.specs.Segment.{Segment, segments_of, all_words}
use Rattle.image_format.specs.Domain.{Domain, all_rights, domain_body, domain_read, domain_of, domains_of}
use Rattle.image_format.specs.Image.{Image}
use Rattle.image_format.proofs.Answers.{passed, test, after, bound, the_value}
use Rattle.image_format.proofs.Bodies.{body-length}
use Rattle.image_format.proofs.Chunks.{Chunked, chunk-facts, exact-size}
use Rattle.image_format.proofs.Segments.{segment-facts, segment-count}
use Rattle.image_format.proofs.Images.{segments-facts, segments-end, domains-facts, domains-end}

-- each element of a list
abbrev pub All : {A : Type 0} → (A → Type 0) → List A → Type 0
All P [] = Unit {0}
All P (x ∷ xs) = P x × All P xs

pub all-at : {A : Type 0} (P : A → Type 0) (xs : List A) (d : A) → All P xs → (i : ℕ) → i < length xs → P (get_or xs i d)
all-at P [] d a i h = absurd (omega arith)
all-at P (x ∷ xs) d a zero h = a.0
all-at P (x ∷ xs) d a (suc i) h = all-at P xs d a.1 i (omega arith)

pub record GoodSegment (domains : ℕ) (s : Segment) : Type 0 where
  pub some : 1 ≤ length s.words
  pub most : length s.words ≤ 4096
  pub gates : s.gates ≤ length s.words
  pub domain : s.domain < domains

pub record GoodDomain (segments : ℕ) (d : Domain) : Type 0 where
  pub stack : d.stack < segments
  pub count : length d.rights ≡ segments
  pub rights : all_rights d.rights ≡ true

pub record Good (i : Image) : Type 0 where
  pub some-segments : 1 ≤ length i.segments
  pub segments-most : length i.segments ≤ 16
  pub some-domains : 1 ≤ length i.domains
  pub domains-most : length i.domains ≤ 8
  pub start-domain : i.start.domain < length i.domains
  pub start-segment : i.start.segment < length i.segments
  pub start_word : i.start.word ≤ 4095
  pub segments : All (GoodSegment (length i.domains)) i.segments
  pub domains : All (GoodDomain (length i.segments)) i.domains
  pub words : length (all_words i.segments) ≤ 8192

-- segments that are read, and how many bytes they take
pub record GoodSegments (domains room : ℕ) (bytes : List ℕ) (r : Read (List Segment)) : Type 0 where
  pub all : All (GoodSegment domains) r.value
  pub fits : length (all_words r.value) ≤ room
  pub taken : length bytes ≡ 8 * length r.value + 4 * length (all_words r.value) + length r.rest

pub good-segments : (n domains room : ℕ) (bytes : List ℕ) {r : Read (List Segment)} → segments_of n domains room bytes ≡ ok r → GoodSegments domains room bytes r
unfolding joined
good-segments zero domains room bytes {r} e =
    let z = segments-end domains room bytes e in
    subst (λ (x : Read (List Segment)). GoodSegments domains room bytes x) z (record { all = tt; fits = omega arith; taken = omega arith })
good-segments (suc n) domains room bytes {r} e =
    let f = segments-facts n domains room bytes e in
    let p = segment-facts domains room bytes f.first-is in
    let c = segment-count domains room bytes p in
    let g = good-segments n domains (room - length f.first.value.words) f.first.rest f.others-is in
    let k : length f.first.value.words ≡ (pair_of bytes - 4) / 4 = c in
    let some = p.length-is.some in
    let most = p.length-is.most in
    let whole = p.length-is.whole in
    let fits : (pair_of bytes - 4) / 4 ≤ room = p.length-is.fits in
    let more = g.fits in
    let there = p.room-is in
    let left : length f.first.rest ≡ length bytes - (4 + pair_of bytes) = ap length p.rest-is ∙ length-drop (4 + pair_of bytes) bytes in
    let rest = g.taken in
    let sum = length-append f.first.value.words (all_words f.others.value) in
    subst (λ (x : Read (List Segment)). GoodSegments domains room bytes x) f.is
    (record {
      all = (
        record {
          some = omega arith;
          most = omega arith;
          gates = rw (p.gates-is, c) p.fields-is.gates;
          domain = rw p.domain-is p.fields-is.domain;
        },
        g.all,
      );
      fits = omega arith;
      taken = omega arith;
    })

pub record DomainPassed (segments : ℕ) (bytes : List ℕ) (d : Read Domain) : Type 0 where
  pub chunk : Chunked 3 (exactly (1 + segments)) bytes (chunk_at (1 + segments) bytes)
  pub size : pair_of bytes ≡ 1 + segments
  pub room : 4 + (1 + segments) ≤ length bytes
  pub good : GoodDomain segments d.value
  pub value-is : d.value ≡ record { stack = get_or (take (1 + segments) (drop 4 bytes)) 0 0; rights = drop 1 (take (1 + segments) (drop 4 bytes)) }
  pub rest-is : d.rest ≡ drop (4 + (1 + segments)) bytes

pub domain-facts : (segments : ℕ) (bytes : List ℕ) {d : Read Domain} → domain_of segments bytes ≡ ok d → DomainPassed segments bytes d
unfolding domain_of domain_body
domain-facts segments bytes {d} e =
    let b = bound (chunk_of 3 (exactly (1 + segments)) bytes) (domain_read segments) e in
    let k = chunk-facts 3 (exactly (1 + segments)) bytes b.is in
    let n = exact-size 3 (1 + segments) bytes k in
    let c : b.value ≡ chunk_at (1 + segments) bytes = sym k.is ∙ ap (λ (m : ℕ). chunk_at m bytes) n in
    let body = take (1 + segments) (drop 4 bytes) in
    let r = subst (λ (x : Read (List ℕ)). domain_read segments x ≡ ok d) c b.next in
    let g = bound (domain_body segments body) _ r in
    let t = after (require (ltb (get_or body 0 0) segments) 4 >> require (all_rights (drop 1 body)) 4) _ g.is in
    let u = passed (ltb (get_or body 0 0) segments) 4 _ t.0 in
    let v : d.value ≡ record { stack = get_or body 0 0; rights = drop 1 body } = sym (ap (λ (x : Read Domain). x.value) (the_value g.next)) ∙ sym (the_value t.1) in
    let room : 4 + (1 + segments) ≤ length bytes = subst (λ (m : ℕ). 4 + m ≤ length bytes) n k.room in
    let size : length (drop 1 body) ≡ segments = length-drop 1 body ∙ (let w : length body - 1 ≡ segments = omega (arith, body-length bytes (1 + segments) room) in w) in
    record {
      chunk = subst (λ (x : Read (List ℕ)). Chunked 3 (exactly (1 + segments)) bytes x) c k;
      size = n;
      room = room;
      good = subst (λ (x : Domain). GoodDomain segments x) (sym v) (record { stack = ltb-true _ _ u.0; count = size; rights = test _ 4 u.1 });
      value-is = v;
      rest-is = sym (ap (λ (x : Read Domain). x.rest) (the_value g.next));
    }

pub record GoodDomains (segments : ℕ) (bytes : List ℕ) (r : Read (List Domain)) : Type 0 where
  pub all : All (GoodDomain segments) r.value
  pub taken : length bytes ≡ length r.value * (5 + segments) + length r.rest

taken_more : (n s a b c : ℕ) → b ≡ n * (5 + s) + c → a ≡ 5 + s + b → a ≡ suc n * (5 + s) + c
taken_more n s a b c p q = let z = suc-mul n (5 + s) in omega arith

pub good-domains : (n segments : ℕ) (bytes : List ℕ) {r : Read (List Domain)} → domains_of n segments bytes ≡ ok r → GoodDomains segments bytes r
good-domains zero segments bytes {r} e =
    subst (λ (x : Read (List Domain)). GoodDomains segments bytes x) (domains-end segments bytes e) (record { all = tt; taken = omega arith })
good-domains (suc n) segments bytes {r} e =
    let f = domains-facts n segments bytes e in
    let p = domain-facts segments bytes f.first-is in
    let g = good-domains n segments f.first.rest f.others-is in
    let left : length f.first.rest ≡ length bytes - (4 + (1 + segments)) = ap length p.rest-is ∙ length-drop (4 + (1 + segments)) bytes in
    subst (λ (x : Read (List Domain)). GoodDomains segments bytes x) f.is
    (record { all = (p.good, g.all); taken = taken_more (length f.others.value) segments (length bytes) (length f.first.rest) (length f.others.rest) g.taken (omega (arith, p.room)) })
