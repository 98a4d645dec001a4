-- `memory::write` meets its contract.
use mathlib.Core.Path.{sym, ap, ◌∙◌}
use Rattle.words.specs.Refusal.{status}
use Rattle.words.proofs.Results.{handed_on}
use Rattle.memory.specs.Reader.{written_of}
use Rattle.memory.proofs.Accesses.{reference-refused, reference-passed}
use Rattle.memory.proofs.write.Goals as goal

pub returns-in_err-i : goal.returns-in_err-i
unfolding written_of
returns-in_err-i c =
    let r = handed_on c.from_residual.result _ c.from_residual.ensures.1 in
    record { value = ap status r ∙ reference-refused _ _ _ _ _ _ _ _ _ _ c.in_err-i.ensures; words_after = simp (← c.in_err-i.ensures) }

pub returns : goal.returns
unfolding written_of
returns c =
    record { value = reference-passed _ _ _ _ _ _ _ _ _ _ c.in_ok-i.ensures; words_after = simp (← c.in_ok-i.ensures) c.put_at.ensures }
