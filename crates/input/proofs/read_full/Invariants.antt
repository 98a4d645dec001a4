-- What was read is what the reader had, and each turn read a byte.
use Rattle.std.proofs.Common.{◌≤◌, length, ◌≡◌, take}
use Rattle.std.specs.Io.KnownBytes.{Consumes}
use Rattle.input.proofs.read_full.Given as goal

abbrev pub invariant-loop : goal.invariant-loop
invariant-loop g l = (l.done ≤ length l.buf) × (length l.buf ≡ length l.initial.buf) × (l.counter ≤ l.done) × Consumes (g.R.Read.remaining l.initial.from) (g.R.Read.remaining l.from) (take l.done l.buf)
