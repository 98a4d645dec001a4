-- `instructions::effects::load` meets its contract.
use mathlib.Core.Path.{refl, sym, ap, ◌∙◌, subst}
use Rattle.instructions.specs.Cycle.{Stays, cycle_answer}
use Rattle.instructions.proofs.Notes.{stay-recent, moved-recent}
use Rattle.instructions.proofs.effects.load.Goals as goal

pub note-requires : goal.note-requires
note-requires c = c.requires.1

pub returns-in-Err : goal.returns-in-Err
returns-in-Err c =
    record { cycles = λ ps. ap (cycle_answer ps) c.stay.ensures ∙ simp (← c.read.ensures, c.in-Err.is); stays = subst (Stays _) (sym c.stay.ensures) refl; renews = λ ps. stay-recent _ _ ps _ _ _ c.stay.ensures refl }

pub returns-in-Ok : goal.returns-in-Ok
returns-in-Ok c =
    record { cycles = λ ps. ap (cycle_answer ps) c.onward.ensures ∙ simp (← c.read.ensures, c.in-Ok.is, c.operate.ensures); stays = subst (Stays _) (sym c.onward.ensures) tt; renews = λ ps. c.note.ensures ∙ moved-recent _ _ ps _ _ _ c.onward.ensures refl }
