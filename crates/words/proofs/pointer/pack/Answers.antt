-- `words::pointer::pack` meets its contract.
use Rattle.std.proofs.Common.{◌≡◌, ◌%◌, ◌^◌, ◌<◌, Bool, true, false, refl, mod-lt, arith, pow_pos}
use lib.Bits.{and_mask}
use mir.Val.{bool_byte}
use Rattle.words.specs.Bit.{bit}
use Rattle.words.specs.PointerWord.{pointer_word}
use Rattle.words.proofs.Fields.{joined}
use Rattle.words.proofs.pointer.pack.Goals as goal

one_bit : (t : Bool) → bool_byte t < 2 ^ 1
one_bit true = omega arith
one_bit false = omega arith

same_bit : (t : Bool) → bool_byte t ≡ bit t
same_bit true = refl
same_bit false = refl

pub returns : goal.returns
unfolding pointer_word
returns c =
    let p = c.before.before.before.args.p in
    rw (and_mask p.segment 4, and_mask p.word 12, ← same_bit p.tag)
    (joined (bool_byte p.tag) (p.segment % 2 ^ 4) (p.word % 2 ^ 12) (one_bit p.tag) (mod-lt _ (pow_pos 4)) (mod-lt _ (pow_pos 12)))
