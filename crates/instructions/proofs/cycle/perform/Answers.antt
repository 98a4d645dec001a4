-- `instructions::cycle::perform` meets its contract.
use mathlib.Core.Path.{◌≡◌, refl, sym, ap, ◌∙◌, subst}
use Rattle.words.specs.Refusal.{answer_of}
use Rattle.words.specs.declared.pointer.Pointer.{Pointer}
use Rattle.lent_registers.specs.Columns.{registers_of}
use borrow.Author.Tests.{eq-eqb, ne_eqb}
use mir.Syntax.{w32}
use mir.ValLaws.{to_z-of_z}
use Rattle.words.specs.Offset.{literal_of}
use Rattle.instructions.specs.Instruction.{execute_of}
use Rattle.instructions.specs.Cycle.{Stays, cycle_answer}
use Rattle.references.specs.Made.{renewed_all}
use Rattle.instructions.specs.Made.{made_by, made_at}
use Rattle.instructions.proofs.Notes.{stay-recent, move-recent, effective-reached}
use Rattle.instructions.proofs.cycle.perform.Goals as goal

pub returns-then-opcode-eq0 : goal.returns-then-opcode-eq0
unfolding execute_of made_by renewed_all
returns-then-opcode-eq0 c = simp (eq-eqb _ _ c.if-opcode-eq0.true) (record { result_value = ap (cycle_answer _) c.stay.ensures; words_after = refl; stays = subst (Stays _) (sym c.stay.ensures) refl; recent_after = stay-recent _ _ _ _ _ _ c.stay.ensures refl })

pub returns-then-opcode-eq12 : goal.returns-then-opcode-eq12
unfolding execute_of made_by renewed_all
returns-then-opcode-eq12 c =
    let told : c.literal.result ≡ literal_of c.args.i.offset = rw (to_z-of_z w32 _ (record { sfits = c.struct_told-1.given.0.1 })) at c.literal.ensures in
    simp (ne_eqb _ _ c.if-opcode-eq0.false, eq-eqb _ _ c.if-opcode-eq12.true) (record { result_value = ap (cycle_answer _) (rw (told) at c.onward.ensures); words_after = refl; stays = subst (Stays _) (sym c.onward.ensures) tt; recent_after = move-recent (registers_of c.args.recent.now) c.args.pointers c.onward.result })

pub effect-requires : goal.effect-requires
effect-requires c =
    (c.requires, λ t. ap (λ (x : Pointer). x.tag) c.indirect_place.ensures ∙ effective-reached _ _ _ _ (sym c.effective.ensures ∙ ap answer_of c.in-Ok.is) t)

pub returns-in-Err : goal.returns-in-Err
unfolding execute_of made_by renewed_all
returns-in-Err c =
    simp (ne_eqb _ _ c.if-opcode-eq0.false, ne_eqb _ _ c.if-opcode-eq12.false, ← c.effective.ensures, c.in-Err.is) (record { result_value = ap (cycle_answer _) c.stay-in-Err.ensures; words_after = refl; stays = subst (Stays _) (sym c.stay-in-Err.ensures) refl; recent_after = stay-recent _ _ _ _ _ _ c.stay-in-Err.ensures refl })

pub returns-in-Ok : goal.returns-in-Ok
unfolding execute_of made_by made_at renewed_all
returns-in-Ok c =
    simp (ne_eqb _ _ c.if-opcode-eq0.false, ne_eqb _ _ c.if-opcode-eq12.false, ← c.effective.ensures, c.in-Ok.is) (rw c.indirect_place.ensures at c.effect.ensures)
