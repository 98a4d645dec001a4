-- `recent::registers::numbers_sound` meets its contract.
use mathlib.Core.Path.{◌≡◌, sym, refl, ◌∙◌}
use borrow.Author.Tests.{le-leb, lt-leb}
use lib.ListN.{length}
use Rattle.state.specs.Record.{no_register}
use Rattle.recent.specs.SoundRegisters.{numbers_test}
use Rattle.recent.proofs.Logic.{pass, stop, answered-true, answered-false}
use Rattle.recent.proofs.Walk.{next, ended}
use Rattle.recent.proofs.registers.numbers_sound.Goals as goal
use Rattle.recent.proofs.registers.numbers_sound.Goals.{Start, then-r-gt15-via-then-r-gt15, then-r-gt15-via-else-r-gt15+then-not-is_absent}

sixteen : (s : Start) → length s.args.recent ≡ 16
sixteen s = s.well_formed.0.1.0.1

pub returns-then-r-gt15 : goal.returns-then-r-gt15
unfolding numbers_test
returns-then-r-gt15 c =
    let n = sym (next no_register c.loop-i.invariant (rw (c.well_formed.0.1.0.1) c.loop-i-test.true)) in
    elim c.then-r-gt15.branch [
      | then-r-gt15-via-then-r-gt15 w ↦ stop _ (lt-leb _ _ w.if-r-gt15.true) ∙ n
      | then-r-gt15-via-else-r-gt15+then-not-is_absent w ↦ pass (le-leb _ _ w.if-r-gt15.false) (stop _ (answered-false w.is_absent.ensures w.if-not-is_absent.true)) ∙ n
    ]

pub loop-i-preserved : goal.loop-i-preserved
unfolding numbers_test
loop-i-preserved c =
    record {
      rest =
          next no_register c.loop-i.invariant (rw (c.well_formed.0.1.0.1) c.loop-i-test.true) ∙
          sym (pass (le-leb _ _ c.if-r-gt15.false) (pass (answered-true c.is_absent.ensures c.if-not-is_absent.false) refl));
    }

pub returns : goal.returns
unfolding numbers_test
returns c = sym (ended no_register c.loop-i.invariant (rw (c.well_formed.0.1.0.1) c.loop-i-test.false))
