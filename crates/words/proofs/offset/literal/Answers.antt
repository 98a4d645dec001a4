-- `words::offset::literal` meets its contract. The machine works with what it reads back from bits, which are the offset's.
use Rattle.std.proofs.Common.{◌≡◌, ◌^◌, pos, ◌+ℤ◌, nat_abs, sym, ap, ◌∙◌, arith, w32, w64, SFits, to_z, of_z}
use mir.ValLaws.{to_z-of_z}
use Rattle.words.specs.Offset.{literal_of}
use Rattle.words.proofs.Integers.{wrapped, kept, literal-lt}
use Rattle.words.proofs.offset.literal.Goals as goal
use Rattle.words.proofs.offset.literal.Goals.{Else-offset-lt0, Start, Then-offset-lt0}

-- the offset as the machine reads it, at its own width and at twice that
read : (s : Start) → to_z w32 (of_z w32 s.args.offset) ≡ s.args.offset
read s = to_z-of_z w32 s.args.offset s.ranges.offset

wide : (s : Start) → SFits w64 s.args.offset
wide s = record { sfits = omega (arith, s.ranges.offset.sfits) }

pub overflow_cast-result : goal.overflow_cast-result
overflow_cast-result c = rw (read c.before) (wide c.before)

-- the sum as the machine has it: the literal
added : (c : Then-offset-lt0) → to_z w64 (of_z w64 (to_z w32 (of_z w32 c.before.args.offset))) +ℤ pos (2 ^ 32) ≡ pos (literal_of c.before.args.offset)
added c =
    let s = c.before in
    rw (read s, to_z-of_z w64 s.args.offset (wide s)) (sym (wrapped s.args.offset s.ranges.offset.sfits (rw (read s) at c.if-offset-lt0.true)))

small : (c : Then-offset-lt0) → SFits w64 (pos (literal_of c.before.args.offset))
small c = record { sfits = omega (arith, literal-lt c.before.args.offset) }

pub overflow_add-result : goal.overflow_add-result
overflow_add-result c = rw (added c) (small c)

-- the sum as the machine reads it back
at : (c : Then-offset-lt0) → to_z w64 (of_z w64 (to_z w64 (of_z w64 (to_z w32 (of_z w32 c.before.args.offset))) +ℤ pos (2 ^ 32))) ≡ pos (literal_of c.before.args.offset)
at c = rw (added c) (to_z-of_z w64 _ (small c))

pub overflow_cast-result-then-offset-lt0 : goal.overflow_cast-result-then-offset-lt0
overflow_cast-result-then-offset-lt0 c = rw (at c) (tt, record { fits = literal-lt c.before.args.offset })

same : (c : Else-offset-lt0) → to_z w32 (of_z w32 c.before.args.offset) ≡ pos (literal_of c.before.args.offset)
same c = let s = c.before in read s ∙ sym (kept s.args.offset s.ranges.offset.sfits (rw (read s) at c.if-offset-lt0.false))

pub overflow_cast-result-else-offset-lt0 : goal.overflow_cast-result-else-offset-lt0
overflow_cast-result-else-offset-lt0 c = rw (same c) (tt, record { fits = literal-lt c.before.args.offset })

pub returns-then-offset-lt0 : goal.returns-then-offset-lt0
returns-then-offset-lt0 c = ap nat_abs (at c)

pub returns-else-offset-lt0 : goal.returns-else-offset-lt0
returns-else-offset-lt0 c = ap nat_abs (same c)
