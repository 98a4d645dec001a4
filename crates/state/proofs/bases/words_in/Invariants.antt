-- `state::bases::words_in` meets its contract.
use Rattle.std.proofs.Common.{◌≡◌, ◌*◌, ◌≤◌}
use Rattle.state.specs.Bases.{base_of}
use Rattle.state.proofs.bases.words_in.Given as goal

abbrev pub invariant-loop-length : goal.invariant-loop-length
invariant-loop-length l = (l.sum ≡ base_of l.fn.lengths l.length-index) × (l.sum ≤ 65536 * l.length-index)
