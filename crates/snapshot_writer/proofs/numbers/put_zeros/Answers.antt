-- `snapshot_writer::numbers::put_zeros` meets its contract.
use Prim.Native.Nat.{ℕ, ◌+◌, ◌-◌}
use native.Mathlib.Omega.{arith}
use mathlib.Core.Path.{◌≡◌, ◌∙◌, ap}
use lib.ListN.{length, take, drop, replicate, length-drop, length-replicate}
use lib.Seq.{length-take-le}
use Rattle.snapshot_writer.proofs.Laws.{part-put}
use Rattle.snapshot_writer.proofs.numbers.put_zeros.Goals as goal

pub returns : goal.returns
returns c =
    let a = c.args in
    let part = take (a.from + a.n - a.from) (drop a.from a.output.now) in
    let size : length part ≡ a.n = length-take-le (a.from + a.n - a.from) (drop a.from a.output.now) (omega (arith, length-drop a.from a.output.now, c.requires)) ∙ omega arith in
    part-put a.output.now (replicate a.n 0) a.from _ (c.fill.ensures.after (λ y e. e) ∙ ap (λ (k : ℕ). replicate k 0) size) (length-replicate a.n 0 ∙ omega arith) (omega (arith, c.requires))
