-- The refusals of an image are the numbers 1-6 and 10.
use Prim.Native.Nat.{ℕ, zero, suc, ◌+◌, ◌-◌, ◌%◌, ◌≤◌}
use native.Mathlib.Omega.{arith}
use mathlib.Core.Bool.{Bool, true, false, not}
use mathlib.Core.List.{List}
use mathlib.Core.Logic.{inl, inr}
use mathlib.Core.Path.{◌≡◌, refl, subst}
use lib.Dec.{eqb, leb, ltb}
use lib.ListN.{length, get_or, drop}
use Rattle.words.specs.Answer.{Answer, refuse, ok, ◌>>=◌, ◌>>◌, require}
use Rattle.words.specs.PointerWord.{pointer_of}
use Rattle.words.specs.declared.pointer.Pointer.{Pointer}
use Rattle.image_format.specs.Bytes.{pair_of}
use Rattle.image_format.specs.Chunk.{chunk_at, header_of, chunk_of, exactly}
use Rattle.image_format.specs.Head.{located, head_fields, head_body, head_read, head_of}
use Rattle.image_format.specs.Segment.{word_count, segment_length, segment_fields, segment_body, segment_read, segment_of, segments_of}
use Rattle.image_format.specs.Domain.{all_rights, domain_body, domain_read, domain_of, domains_of}
use Rattle.image_format.specs.Image.{gates_pass, chunks_of, image_of}
use Rattle.entry.specs.Statements.{Refusal, ImageNumber}

-- an answer that is a value, or refused with a number of which P holds
pub record Refuses (P : ℕ → Type 0) {A : Type 0} (x : Answer A) : Type 0 where
  pub number : (n : ℕ) → x ≡ refuse n → P n

module _ {P : ℕ → Type 0} where
  value : {A : Type 0} (a : A) → Refuses P (ok a)
  value a = record { number = λ n e. absurd (let z : ◌≡◌ {A = ℕ} 0 1 = cc in omega arith) }

  refusal : {A : Type 0} (k : ℕ) → P k → Refuses P {A = A} (refuse k)
  refusal k h = record { number = λ n e. subst P (let q : k ≡ n = cc in q) h }

module _ {P : ℕ → Type 0} {A B : Type 0} where
  bind : (x : Answer A) (f : A → Answer B) → Refuses P x → ((a : A) → Refuses P (f a)) → Refuses P (x >>= f)
  bind (refuse n) f h k = refusal n (h.number n refl)
  bind (ok a) f h k = k a

  past : (x : Answer A) (y : Answer B) → Refuses P x → Refuses P y → Refuses P (x >> y)
  past (refuse n) y h k = refusal n (h.number n refl)
  past (ok a) y h k = k

test : {P : ℕ → Type 0} (t : Bool) (n : ℕ) → P n → Refuses P (require t n)
test true n h = value tt
test false n h = refusal n h

-- the numbers of the chunks' tests
abbrev pub ChunkRefusal : ℕ → Type 0
ChunkRefusal n = (1 ≤ n) × (n ≤ 5)

one : ChunkRefusal 1
one = (omega arith, omega arith)

two : ChunkRefusal 2
two = (omega arith, omega arith)

three : ChunkRefusal 3
three = (omega arith, omega arith)

four : ChunkRefusal 4
four = (omega arith, omega arith)

five : ChunkRefusal 5
five = (omega arith, omega arith)

header-refuses : (kind : ℕ) (bytes : List ℕ) → Refuses ChunkRefusal (header_of kind bytes)
unfolding header_of
header-refuses kind bytes =
    past _ _ (past _ _ (test (leb 4 (length bytes)) 1 one) (test (eqb (pair_of (drop 2 bytes)) kind) 2 two)) (value (pair_of bytes))

chunk-refuses : (kind : ℕ) (allowed : ℕ → Answer (Unit {0})) (bytes : List ℕ) → ((n : ℕ) → Refuses ChunkRefusal (allowed n)) → Refuses ChunkRefusal (chunk_of kind allowed bytes)
unfolding chunk_of
chunk-refuses kind allowed bytes h =
    bind (header_of kind bytes) _ (header-refuses kind bytes)
    (λ n. past _ _ (h n) (past _ _ (test (leb (4 + n) (length bytes)) 1 one) (value (chunk_at n bytes))))

exactly-refuses : (n found : ℕ) → Refuses ChunkRefusal (exactly n found)
exactly-refuses n found = test (eqb found n) 3 three

-- kind 1
located-refuses : (segments : ℕ) (p : Answer Pointer) → Refuses ChunkRefusal (located segments p)
located-refuses segments (refuse n) = refusal 4 four
located-refuses segments (ok p) = past _ _ (past _ _ (test (not p.tag) 4 four) (test (ltb p.segment segments) 4 four)) (value p)

fields-refuse : (segments domains domain unused location : ℕ) → Refuses ChunkRefusal (head_fields segments domains domain unused location)
unfolding head_fields
fields-refuse segments domains domain unused location =
    past _ _
    (past _ _ (past _ _ (past _ _ (past _ _ (past _ _ (test (leb 1 segments) 4 four) (test (leb segments 16) 4 four))
    (test (leb 1 domains) 4 four)) (test (leb domains 8) 4 four)) (test (ltb domain domains) 4 four)) (test (eqb unused 0) 4 four))
    (bind (located segments (pointer_of location)) _ (located-refuses segments (pointer_of location)) (λ p. value _))

head-refuses : (bytes : List ℕ) → Refuses ChunkRefusal (head_of bytes)
unfolding head_of head_body
head-refuses bytes =
    bind (chunk_of 1 (exactly 8) bytes) head_read (chunk-refuses 1 (exactly 8) bytes (exactly-refuses 8))
    (λ c. bind (head_body c.value) _ (fields-refuse _ _ _ _ _) (λ h. value _))

-- kind 2
length-refuses : (room n : ℕ) → Refuses ChunkRefusal (segment_length room n)
unfolding segment_length
length-refuses room n =
    past _ _ (past _ _ (past _ _ (test (leb 8 n) 3 three) (test (leb n 16388) 3 three)) (test (eqb (n % 4) 0) 3 three)) (test (leb (word_count n) room) 5 five)

body-refuses : (domains : ℕ) (body : List ℕ) → Refuses ChunkRefusal (segment_body domains body)
unfolding segment_body segment_fields
body-refuses domains body =
    past _ _
    (past _ _ (past _ _ (test (leb (pair_of body) (word_count (length body))) 4 four) (test (ltb (get_or body 2 0) domains) 4 four)) (test (eqb (get_or body 3 0) 0) 4 four))
    (value _)

segment-refuses : (domains room : ℕ) (bytes : List ℕ) → Refuses ChunkRefusal (segment_of domains room bytes)
unfolding segment_of
segment-refuses domains room bytes =
    bind (chunk_of 2 (segment_length room) bytes) (segment_read domains) (chunk-refuses 2 (segment_length room) bytes (length-refuses room))
    (λ c. bind (segment_body domains c.value) _ (body-refuses domains c.value) (λ s. value _))

segments-refuse : (n domains room : ℕ) (bytes : List ℕ) → Refuses ChunkRefusal (segments_of n domains room bytes)
unfolding segments_of
segments-refuse zero domains room bytes = value _
segments-refuse (suc n) domains room bytes =
    bind (segment_of domains room bytes) _ (segment-refuses domains room bytes)
    (λ s. bind (segments_of n domains (room - length s.value.words) s.rest) _ (segments-refuse n domains _ s.rest) (λ r. value _))

-- kind 3
rights-refuse : (segments : ℕ) (body : List ℕ) → Refuses ChunkRefusal (domain_body segments body)
unfolding domain_body
rights-refuse segments body = past _ _ (past _ _ (test (ltb (get_or body 0 0) segments) 4 four) (test (all_rights (drop 1 body)) 4 four)) (value _)

domain-refuses : (segments : ℕ) (bytes : List ℕ) → Refuses ChunkRefusal (domain_of segments bytes)
unfolding domain_of
domain-refuses segments bytes =
    bind (chunk_of 3 (exactly (1 + segments)) bytes) (domain_read segments) (chunk-refuses 3 (exactly (1 + segments)) bytes (exactly-refuses (1 + segments)))
    (λ c. bind (domain_body segments c.value) _ (rights-refuse segments c.value) (λ d. value _))

domains-refuse : (n segments : ℕ) (bytes : List ℕ) → Refuses ChunkRefusal (domains_of n segments bytes)
unfolding domains_of
domains-refuse zero segments bytes = value _
domains-refuse (suc n) segments bytes =
    bind (domain_of segments bytes) _ (domain-refuses segments bytes)
    (λ d. bind (domains_of n segments d.rest) _ (domains-refuse n segments d.rest) (λ r. value _))

pub chunks-refuse : (bytes : List ℕ) → Refuses ChunkRefusal (chunks_of bytes)
unfolding chunks_of
chunks-refuse bytes =
    bind (head_of bytes) _ (head-refuses bytes)
    (λ h. bind (segments_of h.value.segments h.value.domains 8192 h.rest) _ (segments-refuse h.value.segments h.value.domains 8192 h.rest)
    (λ s. bind (domains_of h.value.domains h.value.segments s.rest) _ (domains-refuse h.value.domains h.value.segments s.rest)
    (λ d. bind (chunk_of 4 (exactly 0) d.rest) _ (chunk-refuses 4 (exactly 0) d.rest (exactly-refuses 0)) (λ e. value _))))

-- the image's own tests come after them
also : {A : Type 0} (x : Answer A) → Refuses ChunkRefusal x → Refuses Refusal x
also x h = record { number = λ n e. let f = h.number n e in (f.0, inl (omega (arith, f.1))) }

image-refuses : (bytes : List ℕ) → Refuses Refusal (image_of bytes)
unfolding image_of
image-refuses bytes =
    bind (chunks_of bytes) _ (also (chunks_of bytes) (chunks-refuse bytes))
    (λ i. past _ _ (past _ _ (test (gates_pass i.value) 10 (omega arith, inr refl)) (test (eqb (length i.rest) 0) 6 (omega arith, inl (omega arith)))) (value _))

-- the number of an image's refusal
pub image-number : ImageNumber
image-number bytes n e = (image-refuses bytes).number n e
