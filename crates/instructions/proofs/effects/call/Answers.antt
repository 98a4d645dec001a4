-- `instructions::effects::call` meets its contract.
use mathlib.Core.Path.{refl, sym, ap, ◌∙◌, subst}
use Rattle.instructions.specs.Cycle.{Stays, cycle_answer}
use Rattle.instructions.proofs.effects.call.Goals as goal

pub returns-in-Err : goal.returns-in-Err
returns-in-Err c =
    record { cycles = λ ps. ap (cycle_answer ps) c.stay.ensures ∙ simp (← c.call_way.ensures, c.in-Err.is); stays = subst (Stays _) (sym c.stay.ensures) refl }

pub returns-in-Ok-Gate : goal.returns-in-Ok-Gate
returns-in-Ok-Gate c =
    record { cycles = λ ps. ap (cycle_answer ps) c.stay-in-Ok-Gate.ensures ∙ simp (← c.call_way.ensures, c.in-Ok-Gate.is, c.in-Ok-Gate.field-0-is); stays = subst (Stays _) (sym c.stay-in-Ok-Gate.ensures) refl }

pub returns-in-Ok-Inside : goal.returns-in-Ok-Inside
returns-in-Ok-Inside c =
    record { cycles = λ ps. ap (cycle_answer ps) c.go_to.ensures ∙ simp (← c.call_way.ensures, c.in-Ok-Inside.is, c.in-Ok-Inside.field-0-is, c.stack_of.ensures); stays = subst (Stays _) (sym c.go_to.ensures) tt }
