-- Images that are passed.
use Prim.Native.Nat.{ℕ, zero, suc, ◌+◌, ◌-◌, ◌<◌, ◌≤◌}
use native.Mathlib.Omega.{arith}
use mathlib.Core.Path.{◌≡◌, sym, ap, ◌∙◌, subst}
use mathlib.Core.Bool.{true, false, not}
use mathlib.Core.List.{List, [], ◌∷◌}
use borrow.Author.Tests.{leb-true, ltb-true, eqb-true, not-true}
use lib.Dec.{leb, ltb, eqb}
use lib.ListN.{length, get_or, take, drop, length-drop}
use Rattle.words.specs.Answer.{Answer, refuse, ok, ◌>>◌, require}
use Rattle.words.specs.PointerWord.{pointer_of}
use Rattle.words.specs.declared.pointer.Pointer.{Pointer}
use Rattle.image_format.specs.Bytes.{pair_of, word_of}
use Rattle.image_format.specs.Chunk.{Read, chunk_at, chunk_of, exactly}
use Rattle.image_format.specs.Head.{located, head_fields, head_body, head_read, head_of}
use Rattle.image_format.specs.Segment.{Segment, segment_of, segments_of}
use Rattle.image_format.specs.Domain.{Domain, domain_of, domains_of}
use Rattle.image_format.specs.Image.{Image, gates_pass, chunks_of, image_of}
use Rattle.image_format.specs.declared.Head.{Head}
use Rattle.image_format.proofs.Answers.{no_value, passed, test, after, bound, the_value}
use Rattle.image_format.proofs.Chunks.{chunk-facts, exact-size}

pub record Located (segments : ℕ) (a : Answer Pointer) (p : Pointer) : Type 0 where
  pub is : a ≡ ok p
  pub untagged : p.tag ≡ false
  pub exists : p.segment < segments

located-facts : (segments : ℕ) (a : Answer Pointer) {p : Pointer} → located segments a ≡ ok p → Located segments a p
located-facts segments (refuse n) e = no_value e
located-facts segments (ok q) {p} e =
    let t = after (require (not q.tag) 4 >> require (ltb q.segment segments) 4) _ e in
    let u = passed (not q.tag) 4 _ t.0 in
    let i : q ≡ p = the_value t.1 in
    record { is = ap ok i; untagged = rw (← i) (not-true _ u.0); exists = rw (← i) (ltb-true _ _ (test _ 4 u.1)) }

pub record HeadPassed (segments domains domain unused location : ℕ) (h : Head) : Type 0 where
  pub some-segments : 1 ≤ segments
  pub segments-most : segments ≤ 16
  pub some-domains : 1 ≤ domains
  pub domains-most : domains ≤ 8
  pub domain-exists : domain < domains
  pub unused-zero : unused ≡ 0
  pub pointer : Pointer
  pub located-is : Located segments (pointer_of location) pointer
  pub is : record { start = record { word = pointer.word; segment = pointer.segment; domain = domain }; segments = segments; domains = domains } ≡ h

pub fields-facts : (segments domains domain unused location : ℕ) {h : Head} → head_fields segments domains domain unused location ≡ ok h → HeadPassed segments domains domain unused location h
unfolding head_fields
fields-facts segments domains domain unused location e =
    let t5 = ((((require (leb 1 segments) 4 >> require (leb segments 16) 4) >> require (leb 1 domains) 4) >> require (leb domains 8) 4) >> require (ltb domain domains) 4) >> require (eqb unused 0) 4 in
    let a = after t5 _ e in
    let b = after ((((require (leb 1 segments) 4 >> require (leb segments 16) 4) >> require (leb 1 domains) 4) >> require (leb domains 8) 4) >> require (ltb domain domains) 4) _ a.0 in
    let c = after (((require (leb 1 segments) 4 >> require (leb segments 16) 4) >> require (leb 1 domains) 4) >> require (leb domains 8) 4) _ b.0 in
    let d = after ((require (leb 1 segments) 4 >> require (leb segments 16) 4) >> require (leb 1 domains) 4) _ c.0 in
    let f = after (require (leb 1 segments) 4 >> require (leb segments 16) 4) _ d.0 in
    let g = passed (leb 1 segments) 4 _ f.0 in
    let p = bound (located segments (pointer_of location)) _ a.1 in
    record {
      some-segments = leb-true _ _ g.0;
      segments-most = leb-true _ _ (test _ 4 g.1);
      some-domains = leb-true _ _ (test _ 4 f.1);
      domains-most = leb-true _ _ (test _ 4 d.1);
      domain-exists = ltb-true _ _ (test _ 4 c.1);
      unused-zero = eqb-true _ _ (test _ 4 b.1);
      pointer = p.value;
      located-is = located-facts segments (pointer_of location) p.is;
      is = the_value p.next;
    }

-- a head that is read, and the bytes after it
abbrev pub body_of : List ℕ → List ℕ
body_of bytes = take 8 (drop 4 bytes)

pub record HeadRead (bytes : List ℕ) (h : Read Head) : Type 0 where
  pub kind-is : pair_of (drop 2 bytes) ≡ 1
  pub size_is : pair_of bytes ≡ 8
  pub room : 12 ≤ length bytes
  pub rest-is : h.rest ≡ drop 12 bytes
  pub body : HeadPassed (get_or (body_of bytes) 0 0) (get_or (body_of bytes) 1 0) (get_or (body_of bytes) 2 0) (get_or (body_of bytes) 3 0) (word_of (drop 4 (body_of bytes))) h.value

pub head-facts : (bytes : List ℕ) {h : Read Head} → head_of bytes ≡ ok h → HeadRead bytes h
unfolding head_of head_body
head-facts bytes {h} e =
    let b = bound (chunk_of 1 (exactly 8) bytes) head_read e in
    let k = chunk-facts 1 (exactly 8) bytes b.is in
    let n = exact-size 1 8 bytes k in
    let c : chunk_at 8 bytes ≡ b.value = ap (λ (m : ℕ). chunk_at m bytes) (sym n) ∙ k.is in
    let r = subst (λ (x : Read (List ℕ)). head_read x ≡ ok h) (sym c) b.next in
    let g = bound (head_body (body_of bytes)) _ r in
    let v : g.value ≡ h.value = ap (λ (x : Read Head). x.value) (the_value g.next) in
    record {
      kind-is = k.kind-is;
      size_is = n;
      room = let m = k.room in omega arith;
      rest-is = sym (ap (λ (x : Read Head). x.rest) (the_value g.next));
      body = fields-facts _ _ _ _ _ (g.is ∙ ap ok v);
    }

pub head-ranges : (bytes : List ℕ) {h : Read Head} → head_of bytes ≡ ok h → (h.value.segments ≤ 16) × (h.value.domains ≤ 8)
head-ranges bytes e =
    let f = (head-facts bytes e).body in
    (subst (λ (n : ℕ). n ≤ 16) (ap (λ (h : Head). h.segments) f.is) f.segments-most, subst (λ (n : ℕ). n ≤ 8) (ap (λ (h : Head). h.domains) f.is) f.domains-most)

pub record ImageRead (bytes : List ℕ) (i : Image) : Type 0 where
  pub head : Read Head
  pub head-is : head_of bytes ≡ ok head
  pub segments : Read (List Segment)
  pub segments-is : segments_of head.value.segments head.value.domains 8192 head.rest ≡ ok segments
  pub domains : Read (List Domain)
  pub domains-is : domains_of head.value.domains head.value.segments segments.rest ≡ ok domains
  pub end : Read (List ℕ)
  pub end_is : chunk_of 4 (exactly 0) domains.rest ≡ ok end
  pub none_left : length end.rest ≡ 0
  pub gates-pass : gates_pass i ≡ true
  pub is : record { start = head.value.start; segments = segments.value; domains = domains.value } ≡ i

pub image-facts : (bytes : List ℕ) {i : Image} → image_of bytes ≡ ok i → ImageRead bytes i
unfolding image_of chunks_of
image-facts bytes e =
    let c = bound (chunks_of bytes) _ e in
    let h = bound (head_of bytes) _ c.is in
    let s = bound (segments_of h.value.value.segments h.value.value.domains 8192 h.value.rest) _ h.next in
    let d = bound (domains_of h.value.value.domains h.value.value.segments s.value.rest) _ s.next in
    let k = bound (chunk_of 4 (exactly 0) d.value.rest) _ d.next in
    let r = the_value k.next in
    let t = after (require (gates_pass c.value.value) 10 >> require (eqb (length c.value.rest) 0) 6) _ c.next in
    let p = passed (gates_pass c.value.value) 10 _ t.0 in
    let i = the_value t.1 in
    record {
      head = h.value;
      head-is = h.is;
      segments = s.value;
      segments-is = s.is;
      domains = d.value;
      domains-is = d.is;
      end = k.value;
      end_is = k.is;
      none_left = ap (λ (x : Read Image). length x.rest) r ∙ eqb-true _ 0 (test _ 6 p.1);
      gates-pass = subst (λ (x : Image). gates_pass x ≡ true) i p.0;
      is = ap (λ (x : Read Image). x.value) r ∙ i;
    }

-- kind 4 that is passed, with nothing after it
pub record Ended (bytes : List ℕ) : Type 0 where
  pub kind-is : pair_of (drop 2 bytes) ≡ 4
  pub body_is : pair_of bytes ≡ 0
  pub size : length bytes ≡ 4

pub end-facts : (bytes : List ℕ) {c : Read (List ℕ)} → chunk_of 4 (exactly 0) bytes ≡ ok c → length c.rest ≡ 0 → Ended bytes
end-facts bytes {c} e z =
    let k = chunk-facts 4 (exactly 0) bytes e in
    let n = exact-size 4 0 bytes k in
    let q : drop 4 bytes ≡ c.rest = ap (λ (m : ℕ). drop (4 + m) bytes) (sym n) ∙ ap (λ (x : Read (List ℕ)). x.rest) k.is in
    let r = k.room in
    record { kind-is = k.kind-is; body_is = n; size = omega (arith, ap length q, length-drop 4 bytes) }

pub record Segmented (n domains room : ℕ) (bytes : List ℕ) (r : Read (List Segment)) : Type 0 where
  pub first : Read Segment
  pub first-is : segment_of domains room bytes ≡ ok first
  pub others : Read (List Segment)
  pub others-is : segments_of n domains (room - length first.value.words) first.rest ≡ ok others
  pub is : record { value = first.value ∷ others.value; rest = others.rest } ≡ r

pub segments-facts : (n domains room : ℕ) (bytes : List ℕ) {r : Read (List Segment)} → segments_of (suc n) domains room bytes ≡ ok r → Segmented n domains room bytes r
unfolding segments_of
segments-facts n domains room bytes e =
    let s = bound (segment_of domains room bytes) _ e in
    let t = bound (segments_of n domains (room - length s.value.value.words) s.value.rest) _ s.next in
    record { first = s.value; first-is = s.is; others = t.value; others-is = t.is; is = the_value t.next }

pub segments-end : (domains room : ℕ) (bytes : List ℕ) {r : Read (List Segment)} → segments_of 0 domains room bytes ≡ ok r → record { value = []; rest = bytes } ≡ r
unfolding segments_of
segments-end domains room bytes e = the_value e

pub segments-count : (n domains room : ℕ) (bytes : List ℕ) {r : Read (List Segment)} → segments_of n domains room bytes ≡ ok r → length r.value ≡ n
segments-count zero domains room bytes e = sym (ap (λ (x : Read (List Segment)). length x.value) (segments-end domains room bytes e))
segments-count (suc n) domains room bytes e =
    let f = segments-facts n domains room bytes e in
    sym (ap (λ (x : Read (List Segment)). length x.value) f.is) ∙ ap suc (segments-count n domains _ _ f.others-is)

pub record Domained (n segments : ℕ) (bytes : List ℕ) (r : Read (List Domain)) : Type 0 where
  pub first : Read Domain
  pub first-is : domain_of segments bytes ≡ ok first
  pub others : Read (List Domain)
  pub others-is : domains_of n segments first.rest ≡ ok others
  pub is : record { value = first.value ∷ others.value; rest = others.rest } ≡ r

pub domains-facts : (n segments : ℕ) (bytes : List ℕ) {r : Read (List Domain)} → domains_of (suc n) segments bytes ≡ ok r → Domained n segments bytes r
unfolding domains_of
domains-facts n segments bytes e =
    let s = bound (domain_of segments bytes) _ e in
    let t = bound (domains_of n segments s.value.rest) _ s.next in
    record { first = s.value; first-is = s.is; others = t.value; others-is = t.is; is = the_value t.next }

pub domains-end : (segments : ℕ) (bytes : List ℕ) {r : Read (List Domain)} → domains_of 0 segments bytes ≡ ok r → record { value = []; rest = bytes } ≡ r
unfolding domains_of
domains-end segments bytes e = the_value e

pub domains-count : (n segments : ℕ) (bytes : List ℕ) {r : Read (List Domain)} → domains_of n segments bytes ≡ ok r → length r.value ≡ n
domains-count zero segments bytes e = sym (ap (λ (x : Read (List Domain)). length x.value) (domains-end segments bytes e))
domains-count (suc n) segments bytes e =
    let f = domains-facts n segments bytes e in
    sym (ap (λ (x : Read (List Domain)). length x.value) f.is) ∙ ap suc (domains-count n segments _ f.others-is)
