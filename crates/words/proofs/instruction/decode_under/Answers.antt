-- `words::instruction::decode_under` meets its contract.
use Rattle.std.proofs.Common.{◌≡◌, ◌^◌, ◌<◌, ◌≢◌, w32, eq-eqb, ne_eqb, le-leb}
use lib.Bits.{bit_and}
use mir.ValLaws.{to_z-of_z}
use Rattle.words.specs.InstructionWord.{instruction_of}
use Rattle.words.proofs.Fields.{common-and}
use Rattle.words.proofs.instruction.decode_under.Goals as goal

pub returns-then-word-mask-ne0 : goal.returns-then-word-mask-ne0
unfolding instruction_of
returns-then-word-mask-ne0 c =
    let s = c.before in
    let h : s.args.word < 2 ^ 32 = s.ranges.word.fits in
    let some : bit_and s.args.word s.args.mask ≢ 0 = c.if-word-mask-ne0.true in
    simp (common-and 32 s.args.word, ← s.requires.same, le-leb _ _ s.requires.known, ne_eqb _ _ some)

-- the fields come last: the mask goes by the opcode as the definition has it
pub returns : goal.returns
unfolding instruction_of
returns c =
    let o = c.before.before.before.before in
    let e = o.before.before in
    let s = e.before in
    let h : s.args.word < 2 ^ 32 = s.ranges.word.fits in
    let none : bit_and s.args.word s.args.mask ≡ 0 = e.if-word-mask-ne0.false in
    simp (common-and 32 s.args.word, ← s.requires.same, le-leb _ _ s.requires.known, eq-eqb _ _ none)
    (simp (← o.before.bits.ensures.0, ← o.signed.ensures, to_z-of_z w32 o.signed.result (record { sfits = o.signed.type_inv }), ← c.before.before.before.bits-2.ensures.0, ← c.before.before.bits-3.ensures.0, ← c.before.bits-4.ensures.0, ← c.bits-5.ensures.0))
