-- `recent::registers::contents_sound` meets its contract.
use Prim.Native.Nat.{ℕ, ◌-◌, ◌≤◌}
use native.Mathlib.Omega.{arith}
use mathlib.Core.Path.{◌≡◌, sym, refl, ap, ◌∙◌}
use mathlib.Core.Bool.{Bool, true, false, ◌&&◌}
use mathlib.Core.List.{List}
use borrow.Author.Tests.{ne_eqb}
use lib.Dec.{leb}
use lib.ListN.{length, get_or, get_or-eq_default}
use Rattle.state.specs.declared.record.Frame.{Frame}
use Rattle.state.specs.declared.record.Register.{Register}
use Rattle.state.specs.Record.{no_frame, no_register}
use Rattle.recent.specs.Entering.{may_enter}
use Rattle.recent.specs.SoundRegisters.{register_test, contents_test, frame_of_register}
use Rattle.recent.proofs.Logic.{pass, stop, answered-true, answered-false}
use Rattle.recent.proofs.Walk.{next, ended}
use Rattle.recent.proofs.registers.contents_sound.Goals as goal

-- the frames have no row that the register names
nameless : (depth : ℕ) (fs : List Frame) (r : Register) → length fs ≡ 8 → 8 ≤ r.frame - 1 → register_test depth (frame_of_register fs r) r ≡ false
unfolding register_test may_enter
nameless depth fs r e h =
    rw (ne_eqb r.frame 0 (λ q. omega (arith, q, h)), get_or-eq_default fs no_frame {n = r.frame - 1} (omega (arith, e, h))) (none (leb r.frame depth))
  where
    none : (a : Bool) → (a && false) ≡ false
    none true = refl
    none false = refl

-- the register of a slice that is the array, and the row that it names
named : (depth : ℕ) (fs : List Frame) (xs rs : List Register) (i k : ℕ) → xs ≡ rs → k ≡ (get_or xs i no_register).frame - 1
    → register_test depth (get_or fs k no_frame) (get_or xs i no_register) ≡ register_test depth (frame_of_register fs (get_or rs i no_register)) (get_or rs i no_register)
named depth fs xs rs i k e q =
    ap (λ (n : ℕ). register_test depth (get_or fs n no_frame) (get_or xs i no_register)) q ∙
    ap (λ (ys : List Register). register_test depth (frame_of_register fs (get_or ys i no_register)) (get_or ys i no_register)) e

pub loop-r-init : goal.loop-r-init
loop-r-init c = record { rest = refl }

pub returns-then-k-ge8 : goal.returns-then-k-ge8
unfolding contents_test
returns-then-k-ge8 c =
    let far : 8 ≤ (get_or c.args.recent c.loop-r.r-index no_register).frame - 1 =
    omega (arith, c.if-k-ge8.true, c.from-k.ensures, c.saturating_sub.ensures, ap (λ (ys : List Register). (get_or ys c.loop-r.r-index no_register).frame) c.as_slice-r-items.ensures) in
    stop _ (nameless c.args.depth c.args.frames _ c.well_formed.1.0.1.0.1 far) ∙
    sym (next no_register c.loop-r.invariant (omega (arith, c.loop-r-test.true, ap length c.as_slice-r-items.ensures)))

pub returns-then-not-register_sound : goal.returns-then-not-register_sound
unfolding contents_test
returns-then-not-register_sound c =
    let test = named c.args.depth c.args.frames _ _ c.loop-r.r-index _ c.as_slice-r-items.ensures (c.from-k.ensures ∙ c.saturating_sub.ensures) in
    stop _ (answered-false (c.register_sound.ensures ∙ test) c.if-not-register_sound.true) ∙
    sym (next no_register c.loop-r.invariant (omega (arith, c.loop-r-test.true, ap length c.as_slice-r-items.ensures)))

pub loop-r-preserved : goal.loop-r-preserved
unfolding contents_test
loop-r-preserved c =
    let test = named c.args.depth c.args.frames _ _ c.loop-r.r-index _ c.as_slice-r-items.ensures (c.from-k.ensures ∙ c.saturating_sub.ensures) in
    record {
      rest =
          next no_register c.loop-r.invariant (omega (arith, c.loop-r-test.true, ap length c.as_slice-r-items.ensures)) ∙
          sym (pass (answered-true (c.register_sound.ensures ∙ test) c.if-not-register_sound.false) refl);
    }

pub returns : goal.returns
unfolding contents_test
returns c = sym (ended no_register c.loop-r.invariant (omega (arith, c.loop-r-test.false, ap length c.as_slice-r-items.ensures)))
