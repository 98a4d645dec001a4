-- An image that is accepted has its fields in their ranges, and at most 33,080 bytes.
use Prim.Native.Nat.{ℕ, ◌+◌, ◌-◌, ◌<◌, ◌≤◌}
use native.Mathlib.Omega.{arith}
use native.Mathlib.Nat.{mul-le-mul}
use mathlib.Core.Path.{◌≡◌, sym, ap, ◌∙◌, subst}
use mathlib.Core.List.{List}
use lib.Dec.{eqb}
use lib.ListN.{length, length-drop}
use Rattle.words.specs.Answer.{ok, require}
use Rattle.words.specs.Field.{field}
use Rattle.words.specs.PointerWord.{pointer_of}
use Rattle.words.specs.declared.pointer.Pointer.{Pointer}
use Rattle.words.proofs.Fields.{field_lt}
use Rattle.image_format.specs.Segment.{Segment, all_words}
use Rattle.image_format.specs.Domain.{Domain}
use Rattle.image_format.specs.Image.{Image, image_of}
use Rattle.image_format.specs.declared.Head.{Head}
use Rattle.image_format.proofs.Answers.{after, the_value}
use Rattle.image_format.proofs.Images.{ImageRead, image-facts, end-facts, HeadRead, head-facts, segments-count, domains-count}
use Rattle.roundtrips.proofs.Good.{Good, GoodSegment, GoodSegments, GoodDomain, GoodDomains, All, good-segments, good-domains}

-- a pointer that is read has a word number of at most 4,095
pointer_word : (w : ℕ) (p : Pointer) → pointer_of w ≡ ok p → p.word ≤ 4095
unfolding pointer_of
pointer_word w p e =
    let t = after (require (eqb (field 16 15 w) 0) 26) _ e in
    let v : field 0 12 w ≡ p.word = ap (λ (q : Pointer). q.word) (the_value t.1) in
    let h : field 0 12 w < 4096 = field_lt 0 12 w in
    omega arith

module _ (bytes : List ℕ) (i : Image) (e : image_of bytes ≡ ok i) where
  f : ImageRead bytes i
  f = image-facts bytes e

  h : HeadRead bytes f.head
  h = head-facts bytes f.head-is

  segments-is : f.segments.value ≡ i.segments
  segments-is = ap (λ (x : Image). x.segments) f.is

  domains-is : f.domains.value ≡ i.domains
  domains-is = ap (λ (x : Image). x.domains) f.is

  count-segments : f.head.value.segments ≡ length i.segments
  count-segments = sym (segments-count _ _ _ _ f.segments-is) ∙ ap length segments-is

  count-domains : f.head.value.domains ≡ length i.domains
  count-domains = sym (domains-count _ _ _ f.domains-is) ∙ ap length domains-is

  gs : GoodSegments f.head.value.domains 8192 f.head.rest f.segments
  gs = good-segments _ _ _ _ f.segments-is

  gd : GoodDomains f.head.value.segments f.segments.rest f.domains
  gd = good-domains _ _ _ f.domains-is

  pub accepted : Good i
  accepted =
      let g = h.body in
      let hs = ap (λ (x : Head). x.segments) g.is ∙ count-segments in
      let hd = ap (λ (x : Head). x.domains) g.is ∙ count-domains in
      let start = ap (λ (x : Head). x.start) g.is ∙ ap (λ (x : Image). x.start) f.is in
      record {
        some-segments = subst (λ (n : ℕ). 1 ≤ n) hs g.some-segments;
        segments-most = subst (λ (n : ℕ). n ≤ 16) hs g.segments-most;
        some-domains = subst (λ (n : ℕ). 1 ≤ n) hd g.some-domains;
        domains-most = subst (λ (n : ℕ). n ≤ 8) hd g.domains-most;
        start-domain = rw (← start, ← hd) g.domain-exists;
        start-segment = rw (← start, ← hs) g.located-is.exists;
        start_word = rw (← start) (pointer_word _ _ g.located-is.is);
        segments = subst (λ (n : ℕ). All (GoodSegment n) i.segments) count-domains (subst (λ (ss : List Segment). All (GoodSegment f.head.value.domains) ss) segments-is gs.all);
        domains = subst (λ (n : ℕ). All (GoodDomain n) i.domains) count-segments (subst (λ (ds : List Domain). All (GoodDomain f.head.value.segments) ds) domains-is gd.all);
        words = subst (λ (ss : List Segment). length (all_words ss) ≤ 8192) segments-is gs.fits;
      }

  -- an accepted image has at most 33,080 bytes
  pub longest : length bytes ≤ 33080
  longest =
      let g = accepted in
      let a : length f.head.rest ≡ length bytes - 12 = ap length h.rest-is ∙ length-drop 12 bytes in
      let z = (end-facts f.domains.rest f.end_is f.none_left).size in
      let s : length f.segments.value ≤ 16 = subst (λ (ss : List Segment). length ss ≤ 16) (sym segments-is) g.segments-most in
      let d : length f.domains.value ≤ 8 = subst (λ (ds : List Domain). length ds ≤ 8) (sym domains-is) g.domains-most in
      let n : 5 + f.head.value.segments ≤ 21 = omega (arith, count-segments, g.segments-most) in
      let r = mul-le-mul d n in
      omega (arith, h.room, gs.taken, gs.fits, gd.taken, z)
