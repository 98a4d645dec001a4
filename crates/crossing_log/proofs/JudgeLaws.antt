-- A call that is judged fit has a sound record, and a log of 6,000 bytes.
use Rattle.std.specs.Prelude.{if◌then◌else◌}
use Prim.Native.Nat.{ℕ, ◌≤◌}
use native.Mathlib.Omega.{arith}
use mathlib.Core.Bool.{Bool, true, false}
use mathlib.Core.List.{List}
use mathlib.Core.Path.{◌≡◌, refl}
use borrow.Author.Tests.{eqb-true, leb-true, eqb-false}
use lib.Dec.{eqb, leb}
use lib.ListN.{length}
use Rattle.state.specs.declared.record.Machine.{Machine}
use Rattle.soundness.specs.Sound.{sound_test}
use Rattle.runs.specs.Run.{judged}
use Rattle.runs.proofs.Judging.{judged-sound}
use Rattle.crossing_log.specs.Log.{log_judged}

both : (n : ℕ) (long judges : Bool) → eqb n 0 ≡ judges → ◌≡◌ {A = ℕ} (if judges then (if long then 0 else 8) else n) 0 → (n ≡ 0) × (long ≡ true)
both n true true e h = (eqb-true n 0 e, refl)
both n false true e h = absurd (omega (arith, h))
both n long false e h = absurd (eqb-false n 0 e h)

pub judged-fit : (m : Machine) (words log : List ℕ) → log_judged m words log ≡ 0 → (sound_test m ≡ true) × (6000 ≤ length log)
unfolding log_judged
judged-fit m words log h =
    let b = both (judged m words) (leb 6000 (length log)) (eqb (judged m words) 0) refl h in
    (judged-sound m words b.0, leb-true _ _ b.1)
