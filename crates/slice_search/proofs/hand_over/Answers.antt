-- `slice_search::hand_over` meets its contract: no more than nine rows are handed over.
use Rattle.std.proofs.Common.{◌≤◌, arith, length, take}
use lib.Seq.{take_all}
use lib.ListN.{length-take}
use Rattle.slice_search.proofs.hand_over.Goals as goal

pub returns : goal.returns
returns c =
    let a = c.args in
    let few : length (take a.n a.capabilities) ≤ 9 = omega (arith, length-take a.n a.capabilities, c.requires) in
    rw (← take_all 9 (take a.n a.capabilities) few) c.first.ensures
