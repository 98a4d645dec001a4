-- `words::offset::displace` meets its contract. The machine adds what it reads back from the bits of its operands, which are the operands.
use Rattle.std.proofs.Common.{◌≡◌, ◌<◌, ℤ, pos, ◌+ℤ◌, sym, arith, w32, SFits, to_z, of_z}
use mir.ValLaws.{to_z-of_z, to_z_pos}
use Rattle.words.specs.Offset.{displaced_of}
use Rattle.words.proofs.Integers.{Inside, too-low, too-high, sum-small, negative, above, inside}
use Rattle.words.proofs.offset.displace.Goals as goal
use Rattle.words.proofs.offset.displace.Goals.{Else-at-gt4095, Else-offset-gt4095, Start}

-- the offset as the machine reads it
read : (s : Start) → to_z w32 (of_z w32 s.args.offset) ≡ s.args.offset
read s = to_z-of_z w32 s.args.offset s.ranges.offset

low : (s : Start) → s.args.word < 65536
low s = s.ranges.word.fits

pub returns-then-offset-ltminus65535 : goal.returns-then-offset-ltminus65535
returns-then-offset-ltminus65535 c = let s = c.before in sym (too-low s.args.word s.args.offset (low s) (rw (read s) at c.if-offset-ltminus65535.true))

pub returns-then-offset-gt4095 : goal.returns-then-offset-gt4095
returns-then-offset-gt4095 c = let s = c.before.before in sym (too-high s.args.word s.args.offset (rw (read s) at c.if-offset-gt4095.true))

-- the sum that is asked for
abbrev sum : Else-offset-gt4095 → ℤ
sum c = pos c.before.before.args.word +ℤ c.before.before.args.offset

-- the sum as the machine has it
added : (c : Else-offset-gt4095) → to_z w32 c.before.before.args.word +ℤ to_z w32 (of_z w32 c.before.before.args.offset) ≡ sum c
added c = let s = c.before.before in λ i. to_z_pos w32 s.args.word (omega (arith, low s)) i +ℤ read s i

small : (c : Else-offset-gt4095) → SFits w32 (sum c)
small c =
    let s = c.before.before in
    record { sfits = sum-small s.args.word s.args.offset (low s) (rw (read s) at c.before.if-offset-ltminus65535.false) (rw (read s) at c.if-offset-gt4095.false) }

pub overflow_add-at : goal.overflow_add-at
overflow_add-at c = rw (added c) (small c)

-- the sum as the machine reads it back
at : (c : Else-offset-gt4095) → to_z w32 (of_z w32 (to_z w32 c.before.before.args.word +ℤ to_z w32 (of_z w32 c.before.before.args.offset))) ≡ sum c
at c = rw (added c) (to_z-of_z w32 (sum c) (small c))

pub returns-then-at-lt0 : goal.returns-then-at-lt0
unfolding displaced_of
returns-then-at-lt0 c = sym (negative (sum c.before) (rw (at c.before) at c.if-at-lt0.true))

pub returns-then-at-gt4095 : goal.returns-then-at-gt4095
unfolding displaced_of
returns-then-at-gt4095 c = sym (above (sum c.before.before) (rw (at c.before.before) at c.if-at-gt4095.true))

within : (c : Else-at-gt4095) → Inside (sum c.before.before)
within c = let e = c.before.before in inside (sum e) (rw (at e) at c.before.if-at-lt0.false) (rw (at e) at c.if-at-gt4095.false)

pub overflow_cast-result : goal.overflow_cast-result
overflow_cast-result c = rw (at c.before.before) ((within c).positive, record { fits = omega (arith, (within c).most) })

pub returns : goal.returns
unfolding displaced_of
returns c = rw (at c.before.before) (sym (within c).value)
