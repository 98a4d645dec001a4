-- `addressing::effective` meets its contract.
use mathlib.Core.Path.{◌≡◌, ap, ◌∙◌}
use mir.Syntax.{w32}
use mir.Val.{SFits, to_z, of_z}
use mir.ValLaws.{to_z-of_z}
use Rattle.std.proofs.Common.{ℕ, ℤ}
use Rattle.words.specs.Answer.{Answer}
use Rattle.words.specs.Offset.{displaced_of}
use Rattle.words.specs.Refusal.{answer_of}
use Rattle.words.proofs.Results.{handed_on}
use Rattle.addressing.specs.Effective.{effective_of, displaced_by}
use Rattle.addressing.proofs.effective.Goals as goal

-- what displace answers, of the offset as the machine reads it back
asked : (a : Answer ℕ) (word : ℕ) (offset : ℤ) → SFits w32 offset → a ≡ displaced_of word (to_z w32 (of_z w32 offset)) → a ≡ displaced_of word offset
asked a word offset told h = rw (to_z-of_z w32 offset told) at h

pub returns-in_err-displace : goal.returns-in_err-displace
unfolding effective_of displaced_by
returns-in_err-displace c =
    ap answer_of (handed_on c.from_residual.result _ c.from_residual.ensures.1) ∙
    simp (← c.pointer_at-base.ensures, ← asked _ c.pointer_at-base.result.word c.args.i.offset (record { sfits = c.struct_told-1.given.0.1 }) c.in_err-displace.ensures)

pub returns-then-i : goal.returns-then-i
unfolding effective_of displaced_by
returns-then-i c =
    simp (← c.pointer_at-base.ensures, ← asked _ c.pointer_at-base.result.word c.args.i.offset (record { sfits = c.struct_told-1.given.0.1 }) c.in_ok-displace.ensures, c.if-i.true) c.through.ensures

pub returns-else-i : goal.returns-else-i
unfolding effective_of displaced_by
returns-else-i c =
    simp (← c.pointer_at-base.ensures, ← asked _ c.pointer_at-base.result.word c.args.i.offset (record { sfits = c.struct_told-1.given.0.1 }) c.in_ok-displace.ensures, c.if-i.false)
