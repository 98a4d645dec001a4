-- Segments that are passed.
use Prim.Native.Nat.{ℕ, ◌+◌, ◌%◌, ◌<◌, ◌≤◌}
use mathlib.Core.Path.{◌≡◌, sym, ap, ◌∙◌, subst}
use mathlib.Core.List.{List}
use borrow.Author.Tests.{leb-true, ltb-true, eqb-true}
use lib.Dec.{leb, ltb, eqb}
use lib.ListN.{length, get_or, take, drop}
use Rattle.words.specs.Answer.{ok, ◌>>◌, require}
use Rattle.image_format.specs.Bytes.{pair_of, words_of}
use Rattle.image_format.specs.Chunk.{Read, chunk_of}
use Rattle.image_format.specs.Segment.{Segment, word_count, segment_length, segment_fields, segment_body, segment_of}
use Rattle.image_format.proofs.Answers.{passed, test, after, bound, the_value}
use Rattle.image_format.proofs.Parts.{words-length}
use Rattle.image_format.proofs.Bodies.{body-length}
use Rattle.image_format.proofs.Chunks.{chunk-facts}

pub record LengthPassed (room n : ℕ) : Type 0 where
  pub some : 8 ≤ n
  pub most : n ≤ 16388
  pub whole : n % 4 ≡ 0
  pub fits : word_count n ≤ room

pub length-facts : (room n : ℕ) → segment_length room n ≡ ok tt → LengthPassed room n
unfolding segment_length
length-facts room n e =
    let p = after ((require (leb 8 n) 3 >> require (leb n 16388) 3) >> require (eqb (n % 4) 0) 3) _ e in
    let q = after (require (leb 8 n) 3 >> require (leb n 16388) 3) _ p.0 in
    let r = passed (leb 8 n) 3 _ q.0 in
    record {
      some = leb-true _ _ r.0;
      most = leb-true _ _ (test _ 3 r.1);
      whole = eqb-true _ _ (test _ 3 q.1);
      fits = leb-true _ _ (test _ 5 p.1);
    }

pub length_some : (room n : ℕ) → segment_length room n ≡ ok tt → 8 ≤ n
length_some room n e = (length-facts room n e).some

pub record FieldsPassed (domains count g d u : ℕ) : Type 0 where
  pub gates : g ≤ count
  pub domain : d < domains
  pub unused : u ≡ 0

pub fields-facts : (domains count gates domain unused : ℕ) → segment_fields domains count gates domain unused ≡ ok tt → FieldsPassed domains count gates domain unused
unfolding segment_fields
fields-facts domains count gates domain unused e =
    let p = after (require (leb gates count) 4 >> require (ltb domain domains) 4) _ e in
    let q = passed (leb gates count) 4 _ p.0 in
    record { gates = leb-true _ _ q.0; domain = ltb-true _ _ (test _ 4 q.1); unused = eqb-true _ _ (test _ 4 p.1) }

-- a segment that is read: its words, and the bytes after it
pub record SegmentPassed (domains room : ℕ) (bytes : List ℕ) (s : Read Segment) : Type 0 where
  pub length-is : LengthPassed room (pair_of bytes)
  pub kind-is : pair_of (drop 2 bytes) ≡ 2
  pub fields-is : FieldsPassed domains (word_count (pair_of bytes)) (pair_of (take (pair_of bytes) (drop 4 bytes))) (get_or (take (pair_of bytes) (drop 4 bytes)) 2 0) (get_or (take (pair_of bytes) (drop 4 bytes)) 3 0)
  pub room-is : 4 + pair_of bytes ≤ length bytes
  pub gates-is : s.value.gates ≡ pair_of (take (pair_of bytes) (drop 4 bytes))
  pub domain-is : s.value.domain ≡ get_or (take (pair_of bytes) (drop 4 bytes)) 2 0
  pub words-is : s.value.words ≡ words_of (word_count (pair_of bytes)) (drop 4 (take (pair_of bytes) (drop 4 bytes)))
  pub rest-is : s.rest ≡ drop (4 + pair_of bytes) bytes

pub segment-facts : (domains room : ℕ) (bytes : List ℕ) {s : Read Segment} → segment_of domains room bytes ≡ ok s → SegmentPassed domains room bytes s
unfolding segment_of segment_body
segment-facts domains room bytes {s} e =
    let b = bound (chunk_of 2 (segment_length room) bytes) _ e in
    let k = chunk-facts 2 (segment_length room) bytes b.is in
    let g = bound (segment_body domains b.value.value) _ b.next in
    let body = take (pair_of bytes) (drop 4 bytes) in
    let size : length body ≡ pair_of bytes = body-length bytes (pair_of bytes) k.room in
    let v : b.value.value ≡ body = sym (ap (λ (c : Read (List ℕ)). c.value) k.is) in
    let f = after (segment_fields domains (word_count (length body)) (pair_of body) (get_or body 2 0) (get_or body 3 0)) _ (subst (λ (x : List ℕ). segment_body domains x ≡ ok g.value) v g.is) in
    let w : s.value ≡ g.value = sym (ap (λ (c : Read Segment). c.value) (the_value g.next)) in
    let t : s.value ≡ record { gates = pair_of body; domain = get_or body 2 0; words = words_of (word_count (length body)) (drop 4 body) } = w ∙ sym (the_value f.1) in
    record {
      length-is = length-facts room _ k.allowed-is;
      kind-is = k.kind-is;
      fields-is = fields-facts _ _ _ _ _ (subst (λ (n : ℕ). segment_fields domains (word_count n) (pair_of body) (get_or body 2 0) (get_or body 3 0) ≡ ok tt) size f.0);
      room-is = k.room;
      gates-is = ap (λ (x : Segment). x.gates) t;
      domain-is = ap (λ (x : Segment). x.domain) t;
      words-is = ap (λ (x : Segment). x.words) t ∙ ap (λ (n : ℕ). words_of (word_count n) (drop 4 body)) size;
      rest-is = sym (ap (λ (c : Read Segment). c.rest) (the_value g.next)) ∙ sym (ap (λ (c : Read (List ℕ)). c.rest) k.is);
    }

-- how many words it has
pub segment-count : (domains room : ℕ) (bytes : List ℕ) {s : Read Segment} → SegmentPassed domains room bytes s → length s.value.words ≡ word_count (pair_of bytes)
segment-count domains room bytes f = ap length f.words-is ∙ words-length _ _
