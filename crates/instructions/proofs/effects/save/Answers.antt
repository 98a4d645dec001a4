-- `instructions::effects::save` meets its contract.
use mathlib.Core.Path.{refl, sym, ap, ◌∙◌, subst}
use borrow.Author.Tests.{eq-eqb}
use Rattle.words.proofs.Results.{number-ne_0}
use Rattle.instructions.specs.Cycle.{Stays, cycle_answer}
use Rattle.instructions.proofs.Notes.{stay-recent, moved-recent}
use Rattle.instructions.proofs.effects.save.Goals as goal

pub returns-in-Err : goal.returns-in-Err
returns-in-Err c =
    record { cycles = λ ps. ap (cycle_answer ps) c.stay.ensures ∙ simp (← c.in-Err.ensures.value, number-ne_0 c.in-Err.refusal); words_after = c.write.ensures.words_after; stays = subst (Stays _) (sym c.stay.ensures) refl; renews = λ ps. stay-recent _ _ ps _ _ _ c.stay.ensures refl }

pub note-requires : goal.note-requires
note-requires c = c.requires.1

pub returns-in-Ok : goal.returns-in-Ok
returns-in-Ok c =
    record { cycles = λ ps. ap (cycle_answer ps) c.onward.ensures ∙ simp (eq-eqb _ _ (sym c.in-Ok.ensures.value)); words_after = c.write.ensures.words_after; stays = subst (Stays _) (sym c.onward.ensures) tt; renews = λ ps. c.note.ensures ∙ moved-recent _ _ ps _ _ _ c.onward.ensures refl }
