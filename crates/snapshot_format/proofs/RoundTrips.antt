-- A sound record is read back from its bytes, and the bytes that hold a record are its bytes.
use Prim.Native.Nat.{ℕ, ◌≤◌}
use native.Mathlib.Omega.{arith}
use native.Mathlib.Nat.{zero-add}
use mathlib.Core.Bool.{Bool, true, false, not, ◌&&◌}
use mathlib.Core.List.{List, ◌++◌}
use mathlib.Core.Path.{◌≡◌, refl, sym, ap, ◌∙◌}
use borrow.Author.Tests.{eqb-true, leb-true, le-leb, le-ltb, not-true}
use lib.Dec.{eqb, leb}
use lib.ListN.{length, get_or, drop, replicate, length-append, get_or-replicate, take-append-drop, get_or-append}
use lib.Seq.{ext_get_or}
use Rattle.words.specs.Answer.{ok, ◌>>◌, require}
use Rattle.words.specs.declared.pointer.Pointer.{Pointer}
use Rattle.state.specs.declared.record.Capability.{Capability}
use Rattle.state.specs.declared.record.Frame.{Frame}
use Rattle.state.specs.declared.record.Layout.{Layout}
use Rattle.state.specs.declared.record.Machine.{Machine}
use Rattle.state.specs.Record.{no_pointer, no_capability, no_frame, free_frame, no_register}
use Rattle.layout_soundness.proofs.Tests.{both, join}
use Rattle.layout_soundness.proofs.All.{each}
use Rattle.soundness.specs.Sound.{empty_capability, empty_pointer, empty_frame, sound_test}
use Rattle.soundness.proofs.Facts.{sound-facts}
use Rattle.snapshot_format.specs.RecordForm.{pointer_form, capability_form, frame_form, start_form, layout_form, registers_form, register_form, record_form, record_in, held, record_bytes, with_record, pointer_shape, capability_shape, frame_shape, start_shape, layout_shape, registers_shape, register_shape, record_shape}
use Rattle.snapshot_format.specs.Statements.{FullArrays, RecordRoundTrip, BytesRoundTrip}
use Rattle.snapshot_format.proofs.Laws.{Lawful, Always, Counted, byte_laws, pair-laws, quad-laws, flag-laws, then-laws, seen-laws, rows-laws, counted-laws}

-- a row of zeros is the row that stands for none
pub empty-pointer : (p : Pointer) → empty_pointer p ≡ true → p ≡ no_pointer
unfolding empty_pointer
empty-pointer p e =
    let t = both (eqb p.word 0) _ e in
    let u = both (eqb p.segment 0) _ t.1 in
    λ j. record { word = eqb-true p.word 0 t.0 j; segment = eqb-true p.segment 0 u.0 j; tag = not-true p.tag u.1 j }

pub empty-capability : (c : Capability) → empty_capability c ≡ true → c ≡ no_capability
unfolding empty_capability
empty-capability c e =
    let t = both (eqb c.word 0) _ e in
    let u = both (eqb c.length 0) _ t.1 in
    let v = both (eqb c.segment 0) _ u.1 in
    let w = both (eqb c.source 0) _ v.1 in
    let x = both (not c.read) _ w.1 in
    λ j.
    record {
      word = eqb-true c.word 0 t.0 j;
      length = eqb-true c.length 0 u.0 j;
      segment = eqb-true c.segment 0 v.0 j;
      source = eqb-true c.source 0 w.0 j;
      read = not-true c.read x.0 j;
      write = not-true c.write x.1 j;
    }

pub empty-frame : (f : Frame) → length f.capabilities ≡ 9 → empty_frame f ≡ true → f ≡ free_frame
unfolding empty_frame
empty-frame f l e =
    let t = both (eqb f.count 0) _ e in
    let u = both (eqb f.domain 0) _ t.1 in
    let v = both (empty_pointer f.s) _ u.1 in
    let w = both (empty_pointer f.back) _ v.1 in
    let rows = each 9 (λ j. empty_capability (get_or f.capabilities j no_capability)) w.1 in
    λ j.
    record {
      capabilities = ext_get_or no_capability f.capabilities (replicate 9 no_capability) l (λ k h. empty-capability _ (rows k (omega arith)) ∙ sym (get_or-replicate 9 k no_capability no_capability (omega arith))) j;
      s = empty-pointer f.s v.0 j;
      back = empty-pointer f.back w.0 j;
      count = eqb-true f.count 0 t.0 j;
      domain = eqb-true f.domain 0 u.0 j;
    }

-- the laws of each format of the record
pub pointer_laws : Lawful pointer_form Always Always
pointer_laws =
    seen-laws Always Always pointer_shape
    (then-laws pair-laws (then-laws byte_laws flag-laws)) (λ p l. (tt, (tt, tt))) (λ p l r. (tt, (tt, tt))) (λ p. refl) (λ b i s. refl)

pub capability-laws : Lawful capability_form Always Always
capability-laws =
    seen-laws Always Always
    capability_shape
    (then-laws pair-laws (then-laws pair-laws (then-laws byte_laws (then-laws byte_laws (then-laws flag-laws flag-laws)))))
    (λ c l. (tt, (tt, (tt, (tt, (tt, tt)))))) (λ c l r. (tt, (tt, (tt, (tt, (tt, tt)))))) (λ c. refl) (λ b i s. refl)

abbrev pub FrameArrays : Frame → Type 0
FrameArrays f = length f.capabilities ≡ 9

abbrev pub FrameRows : Frame → Type 0
FrameRows f = Counted 9 no_capability no_capability Always f.count f.capabilities

pub frame-laws : Lawful frame_form FrameArrays FrameRows
frame-laws =
    seen-laws FrameArrays FrameRows
    frame_shape
    (then-laws (counted-laws 9 no_capability no_capability capability-laws) (then-laws pointer_laws (then-laws pointer_laws byte_laws)))
    (λ f l. (record { room = l; rows = λ k h. tt }, (tt, (tt, tt)))) (λ f l r. (r, (tt, (tt, tt)))) (λ f. refl) (λ b i s. refl)

pub start-laws : Lawful start_form Always Always
start-laws =
    seen-laws Always Always start_shape
    (then-laws pair-laws (then-laws byte_laws byte_laws)) (λ p l. (tt, (tt, tt))) (λ p l r. (tt, (tt, tt))) (λ p. refl) (λ b i s. refl)

abbrev pub LayoutArrays : Layout → Type 0
LayoutArrays l =
    (length l.lengths ≡ 16) × (length l.gates ≡ 16) × (length l.gatedomains ≡ 16) × (length l.stacks ≡ 8) × (length l.rights ≡ 128)

pub layout-laws : Lawful layout_form LayoutArrays Always
layout-laws =
    seen-laws LayoutArrays Always
    layout_shape
    (then-laws (rows-laws 16 0 pair-laws) (then-laws (rows-laws 16 0 pair-laws) (then-laws start-laws (then-laws (rows-laws 16 0 byte_laws)
    (then-laws (rows-laws 8 0 byte_laws) (then-laws (rows-laws 128 0 byte_laws) (then-laws byte_laws byte_laws)))))))
    (λ l a. (a.0, (a.1, (tt, (a.2, (a.3, (a.4, (tt, tt)))))))) (λ l a r. (tt, (tt, (tt, (tt, (tt, (tt, (tt, tt)))))))) (λ l. refl) (λ b i s. refl)

pub registers-laws : Lawful registers_form Always Always
registers-laws =
    seen-laws Always Always registers_shape (then-laws quad-laws (then-laws pair-laws (then-laws byte_laws byte_laws)))
    (λ p l. (tt, (tt, (tt, tt)))) (λ p l r. (tt, (tt, (tt, tt)))) (λ p. refl) (λ b i s. refl)

pub register-laws : Lawful register_form Always Always
register-laws =
    seen-laws Always Always register_shape
    (then-laws capability-laws (then-laws byte_laws byte_laws)) (λ r l. (tt, (tt, tt))) (λ r l s. (tt, (tt, tt))) (λ r. refl) (λ b i s. refl)

abbrev pub Tested : Machine → Type 0
Tested m = sound_test m ≡ true

-- what a sound record has in rows that are not in use
sound-rows : (m : Machine) → FullArrays m → Tested m → Counted 8 free_frame no_frame FrameRows m.depth m.frames
sound-rows m w e =
    let s = (sound-facts m e).frames in
    record {
      most = s.most;
      used = λ i h. let u = s.used i h in record { most = u.count; used = λ k l. tt; unused = λ k g l. empty-capability _ (u.unused k g l) };
      unused = λ i g h. empty-frame _ (w.capabilities i h) (s.unused i g h);
    }

pub record-laws : Lawful record_form FullArrays Tested
record-laws =
    seen-laws FullArrays Tested record_shape
    (then-laws layout-laws (then-laws registers-laws (then-laws (rows-laws 8 no_pointer pointer_laws) (then-laws (counted-laws 8 free_frame no_frame frame-laws) (rows-laws 16 no_register register-laws)))))
    (λ m w. ((w.lengths, w.gates, w.gatedomains, w.stacks, w.rights), (tt, (w.pointers, (record { room = w.frames; rows = w.capabilities }, w.recent)))))
    (λ m w e. (tt, (tt, (tt, (sound-rows m w e, tt))))) (λ m. refl) (λ b i s. refl)

pub record-size : record_form.size ≡ 1079
record-size = refl

pub record-long : (m : Machine) → FullArrays m → length (record_bytes m) ≡ 1079
unfolding record_bytes
record-long m w = record-laws.long m w

-- two tests, then the value
given : (a b : Bool) (v m : Machine) (x y : ℕ) → a ≡ true → b ≡ true → v ≡ m → (require a x >> require b y >> ok v) ≡ ok m
given a b v m x y p q e = simp (p, q, e)

asked : (a b : Bool) (v m : Machine) (x y : ℕ) → (require a x >> require b y >> ok v) ≡ ok m → (a ≡ true) × (b ≡ true) × (v ≡ m)
asked true true v m x y e = (refl, refl, cc)
asked true false v m x y e = absurd (let z : ◌≡◌ {A = ℕ} 0 1 = cc in omega arith)
asked false b v m x y e = absurd (let z : ◌≡◌ {A = ℕ} 0 1 = cc in omega arith)

pub record-round-trip : RecordRoundTrip
unfolding held record_in record_bytes
record-round-trip m rest w e =
    let b = record_form.bytes m ++ rest in
    let l : 1079 ≤ length b = omega (arith, record-laws.long m w, length-append (record_form.bytes m) rest) in
    let x = record-laws.back m w e b 0 (λ k h. ap (λ (n : ℕ). get_or b n 0) (zero-add k) ∙ get_or-append (record_form.bytes m) rest 0 k h) in
    given (leb 1079 (length b)) (record_form.proper b 0 && sound_test (record_form.value b 0)) (record_form.value b 0) m _ _ (le-leb 1079 (length b) l)
    (join x.1 (ap sound_test x.0 ∙ e)) x.0

pub bytes-round-trip : BytesRoundTrip
unfolding held record_in record_bytes with_record
bytes-round-trip b m s e =
    let t = asked (leb 1079 (length b)) (record_form.proper b 0 && sound_test (record_form.value b 0)) (record_form.value b 0) m _ _ e in
    let h : 1079 ≤ length b = leb-true 1079 (length b) t.0 in
    let u = both (record_form.proper b 0) (sound_test (record_form.value b 0)) t.1 in
    simp (le-ltb (length b) 1079 h)
    (ap (λ (l : List ℕ). l ++ drop 1079 b) (ap record_form.bytes (sym t.2) ∙ record-laws.forth b 0 s h u.0) ∙ take-append-drop 1079 b)
