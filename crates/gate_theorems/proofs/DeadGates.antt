-- A dead gate is found by the reader, and makes a record unsound.
use Prim.Native.Nat.{ℕ, zero, suc, ◌+◌, ◌<◌}
use native.Mathlib.Omega.{arith}
use mathlib.Core.Bool.{Bool, true, false, ◌&&◌, ◌||◌}
use mathlib.Core.List.{◌++◌}
use mathlib.Core.Path.{◌≡◌, refl, sym, ◌∙◌, subst}
use borrow.Author.Tests.{eqb-false}
use lib.Dec.{eqb}
use lib.ListN.{get_or, length}
use Rattle.words.specs.Answer.{Answer, refuse, ok, ◌>>=◌, ◌>>◌, require}
use Rattle.state.specs.declared.record.Layout.{Layout}
use Rattle.state.specs.declared.record.Machine.{Machine}
use Rattle.references.proofs.Passes.{never}
use Rattle.record_checks.specs.Judged.{judged_static, judged_check}
use Rattle.segments.specs.Segment.{segment_check}
use Rattle.layout_soundness.specs.SoundLayout.{all_from, gate_test, gates_test}
use Rattle.layout_soundness.proofs.Gates.{GatesSound, gates-facts}
use Rattle.soundness.specs.Sound.{sound_test}
use Rattle.soundness.proofs.Facts.{layout-facts, sound-facts}
use Rattle.image_format.specs.Chunk.{Read}
use Rattle.image_format.specs.Image.{Image, layout_of, gates_pass, chunks_of, image_of, image_from, bytes_of}
use Rattle.image_format.proofs.Images.{image-facts}
use Rattle.image_writer.specs.Writer.{write_image, output_after}
use Rattle.roundtrips.proofs.LayoutBack.{good-image, wide-image, layout-back}
use Rattle.roundtrips.proofs.ReadBack.{chunks-back}
use Rattle.entry.proofs.Refusals.{Refuses, ChunkRefusal, chunks-refuse}
use Rattle.runs.specs.Run.{judged, called_of}
use Rattle.processor.specs.Calls.{step_call, run_call, stretch_call}
use Rattle.crossing_log.specs.Log.{log_judged, log_call}
use Rattle.gate_theorems.specs.Statements.{HasDeadGate, FoundDead, DeadTen, DeadWritten, TenDead, AcceptedAlive, DeadRefused}

-- of numbers that do not all pass a test, one fails
record Failing (n i : ℕ) (p : ℕ → Bool) : Type 0 where
  number : ℕ
  below : number < i + n
  fails : p number ≡ false

failing : (n i : ℕ) (p : ℕ → Bool) → all_from n i p ≡ false → Failing n i p
unfolding all_from
failing zero i p e = never (sym e)
failing (suc n) i p e = by (p i) refl (failing n (i + 1) p) e
  where
    by : (t : Bool) → p i ≡ t → (all_from n (i + 1) p ≡ false → Failing n (i + 1) p) → (t && all_from n (i + 1) p) ≡ false → Failing (suc n) i p
    by true q rest e = let f = rest e in record { number = f.number; below = omega (arith, f.below); fails = f.fails }
    by false q rest e = record { number = i; below = omega arith; fails = q }

neither : (a b : Bool) → (a || b) ≡ false → (a ≡ false) × (b ≡ false)
neither true b e = never (sym e)
neither false b e = (refl, e)

-- a test that fails finds a dead gate, and a dead gate fails it
test-dead : (l : Layout) → gates_test l.gates l.gatedomains l.rights ≡ false → HasDeadGate l
unfolding gates_test gate_test
test-dead l e =
    let f = failing 16 0 (λ i. gate_test l.rights i (get_or l.gates i 0) (get_or l.gatedomains i 0)) e in
    let t = neither (eqb (get_or l.gates f.number 0) 0) _ f.fails in
    record { segment = f.number; there = omega (arith, f.below); some = omega (arith, eqb-false (get_or l.gates f.number 0) 0 t.0); lacks = t.1 }

alive : (l : Layout) → GatesSound l.gates l.gatedomains l.rights → HasDeadGate l → ⊥
alive l g d = never (sym d.lacks ∙ g d.segment d.there d.some)

dead-test : (l : Layout) → HasDeadGate l → gates_test l.gates l.gatedomains l.rights ≡ false
dead-test l d = by (gates_test l.gates l.gatedomains l.rights) refl
  where
    by : (t : Bool) → gates_test l.gates l.gatedomains l.rights ≡ t → t ≡ false
    by true e = absurd (alive l (gates-facts _ _ _ e) d)
    by false e = refl

pub dead-ten : DeadTen
unfolding image_of
dead-ten bytes f = simp (f.read, dead-test (layout_of f.chunks.value) f.dead)

pub dead-written : DeadWritten
dead-written l words rest r d a enough below =
    let s = layout-facts l r in
    let i = image_from l words in
    dead-ten (bytes_of i ++ rest)
    (record {
      chunks = record { value = i; rest = rest };
      read = chunks-back i rest (good-image l words s a enough) (wide-image l words s a enough below);
      dead = subst HasDeadGate (sym (layout-back l words s a enough)) d;
    })

pub ten-dead : TenDead
unfolding image_of
ten-dead bytes e = by (chunks_of bytes) refl (chunks-refuse bytes) e
  where
    left : (i : Image) (p z : Bool) → ((require p 10 >> require z 6) >> ok i) ≡ refuse 10 → p ≡ false
    left i false z e = refl
    left i true false e = absurd (let q : ◌≡◌ {A = ℕ} 6 10 = cc in omega arith)
    left i true true e = absurd (let q : ◌≡◌ {A = ℕ} 0 1 = cc in omega arith)

    by : (x : Answer (Read Image)) → chunks_of bytes ≡ x → Refuses ChunkRefusal x
        → (x >>= (λ i. (require (gates_pass i.value) 10 >> require (eqb (length i.rest) 0) 6) >> ok i.value)) ≡ refuse 10 → FoundDead bytes
    by (refuse n) q h e = absurd (let t : n ≡ 10 = cc in omega (arith, t, (h.number n refl).1))
    by (ok c) q h e = record { chunks = c; read = q; dead = test-dead (layout_of c.value) (left c.value (gates_pass c.value) (eqb (length c.rest) 0) e) }

pub accepted-alive : AcceptedAlive
accepted-alive bytes i e = alive _ (gates-facts _ _ _ (image-facts bytes e).gates-pass)

pub dead-unsound : (m : Machine) → HasDeadGate m.layout → sound_test m ≡ false
dead-unsound m d = by (sound_test m) refl
  where
    by : (t : Bool) → sound_test m ≡ t → t ≡ false
    by true e = absurd (alive m.layout (sound-facts m e).gates d)
    by false e = refl

pub dead-refused : DeadRefused
unfolding judged called_of step_call run_call stretch_call log_judged log_call write_image output_after segment_check judged_static judged_check
dead-refused m words d =
    let u = dead-unsound m d in
    record {
      step = simp u;
      run = λ limit. simp u;
      stretch = λ limit. simp u;
      log = λ bytes. simp u;
      write = λ output. simp u;
      output = λ output. simp u;
      segment = λ size number. simp u;
      static = λ domain f segment word. simp u;
      check = λ a p. simp u;
    }
