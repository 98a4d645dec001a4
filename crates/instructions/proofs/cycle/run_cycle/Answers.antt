-- `instructions::cycle::run_cycle` meets its contract.
use mathlib.Core.Path.{refl, sym, ap, ◌∙◌, subst}
use Rattle.instructions.specs.Instruction.{plan_of}
use Rattle.instructions.specs.Cycle.{Stays, cycle_answer, cycle_of, cycle_words, cycle_recent, recent_by}
use Rattle.instructions.proofs.cycle.run_cycle.Goals as goal

pub perform-requires : goal.perform-requires
perform-requires c =
    c.fetch.ensures.by_index _ c.in-Ok.is

pub returns-in-Err : goal.returns-in-Err
unfolding cycle_of cycle_words cycle_recent plan_of
returns-in-Err c =
    simp (← c.fetch.ensures.result_value, c.in-Err.is) (record { result_value = ap (cycle_answer _) c.stay.ensures; words_after = refl; stays = subst (Stays _) (sym c.stay.ensures) refl; recent_after = refl })

pub returns-in-Err-decode : goal.returns-in-Err-decode
unfolding cycle_of cycle_words cycle_recent plan_of
returns-in-Err-decode c =
    simp (← c.fetch.ensures.result_value, c.in-Ok.is, ← c.decode.ensures, c.in-Err-decode.is) (record { result_value = ap (cycle_answer _) c.stay-in-Err-decode.ensures; words_after = refl; stays = subst (Stays _) (sym c.stay-in-Err-decode.ensures) refl; recent_after = refl })

pub returns-in-Ok-decode : goal.returns-in-Ok-decode
unfolding cycle_of cycle_words cycle_recent plan_of
returns-in-Ok-decode c =
    simp (← c.fetch.ensures.result_value, c.in-Ok.is, ← c.decode.ensures, c.in-Ok-decode.is) (record { result_value = c.perform.ensures.result_value; words_after = c.perform.ensures.words_after; stays = c.perform.ensures.stays; recent_after = c.perform.ensures.recent_after ∙ ap (recent_by _ _) c.perform.ensures.result_value })
