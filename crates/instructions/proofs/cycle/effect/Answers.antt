-- `instructions::cycle::effect` meets its contract.
use mathlib.Core.Bool.{false}
use mathlib.Core.List.{[], ◌∷◌}
use mathlib.Core.Path.{◌≡◌, refl, sym, ap, ◌∙◌, subst}
use borrow.Author.Tests.{ne_eqb}
use Rattle.words.proofs.Results.{number-ne_0}
use Rattle.lent_registers.specs.Columns.{registers_of}
use Rattle.references.specs.Made.{made_read, renewed_all}
use Rattle.memory.specs.Reader.{read_of}
use Rattle.instructions.specs.Instruction.{is_load, is_store, effect_of}
use Rattle.instructions.specs.Cycle.{Stays, cycle_answer, recent_by}
use Rattle.instructions.proofs.Cycles.{load-settles, jump-settles, call-settles}
use Rattle.instructions.proofs.Jumps.{jumping, moving-on, leaving-by}
use Rattle.instructions.proofs.Notes.{last-noted, untagged-indirect, indirect-noted, nothing-noted, stay-recent, moved-recent, idle-recent, jump-untagged, call-recent}
use Rattle.pointer_registers.specs.Stack.{stack_of}
use Rattle.instructions.proofs.cycle.effect.Goals as goal
use Rattle.instructions.proofs.cycle.effect.Goals.{Else-is_store}

-- an opcode that neither reads into A nor stores
other : (c : Else-is_store) → (is_load c.args.i.opcode ≡ false) × (is_store c.args.i.opcode ≡ false)
other c = (sym c.is_load.ensures ∙ c.if-is_load.false, sym c.is_store.ensures ∙ c.if-is_store.false)

pub load-requires : goal.load-requires
load-requires c = c.requires

pub returns-then-is_load : goal.returns-then-is_load
unfolding effect_of
returns-then-is_load c =
    let a = c.args in
    let s = load-settles a.view.now.layout.lengths a.view.now.layout.gates a.view.now.layout.rights a.view.now.layout.stacks a.view.now.bases a.words.now (registers_of a.recent.now) a.view.now.depth a.view.now.frame a.r a.pointers a.q (read_of a.view.now.layout.lengths a.view.now.layout.rights a.view.now.bases a.words.now a.r.domain (registers_of a.recent.now) a.view.now.depth a.view.now.frame) a.i.opcode a.p in
    simp (sym c.is_load.ensures ∙ c.if-is_load.true) (record { result_value = c.load.ensures.cycles a.pointers ∙ sym s.there; words_after = sym s.words-stay; stays = c.load.ensures.stays; recent_after = c.load.ensures.renews a.pointers })

pub save-requires : goal.save-requires
save-requires c = c.requires

pub returns-then-is_store : goal.returns-then-is_store
unfolding effect_of
returns-then-is_store c =
    let a = c.args in
    let e = rw c.value-v.ensures at c.save.ensures in
    simp (sym c.is_load.ensures ∙ c.if-is_load.false, sym c.is_store.ensures ∙ c.if-is_store.true) (record { result_value = e.cycles a.pointers; words_after = e.words_after; stays = e.stays; recent_after = e.renews a.pointers })

pub returns-in-Err : goal.returns-in-Err
returns-in-Err c =
    let o = other (goal.at.returns-in-Err c).Else-is_store in
    let a = c.args in
    let s = jump-settles a.view.now.layout.lengths a.view.now.layout.gates a.view.now.layout.rights a.view.now.layout.stacks a.view.now.bases a.words.now (registers_of a.recent.now) a.view.now.depth a.view.now.frame a.r a.pointers a.q a.p in
    let d = jumping a.view.now.layout.lengths a.view.now.layout.gates a.view.now.layout.rights a.view.now.layout.stacks a.view.now.depth a.r a.pointers (read_of a.view.now.layout.lengths a.view.now.layout.rights a.view.now.bases a.words.now a.r.domain (registers_of a.recent.now) a.view.now.depth a.view.now.frame) a.i.opcode a.i.register a.p o.0 o.1 (sym c.jumps.ensures ∙ c.if-jumps.true) in
    rw d (record { result_value = ap (cycle_answer a.pointers) c.stay.ensures ∙ simp (s.there, ← c.jump_check.ensures, c.in-Err.is, number-ne_0 c.in-Err.refusal); words_after = sym s.words-stay; stays = subst (Stays _) (sym c.stay.ensures) refl; recent_after = stay-recent _ _ a.pointers _ _ _ c.stay.ensures refl })

pub returns-in-Ok : goal.returns-in-Ok
returns-in-Ok c =
    let o = other (goal.at.returns-in-Ok c).Else-is_store in
    let a = c.args in
    let s = jump-settles a.view.now.layout.lengths a.view.now.layout.gates a.view.now.layout.rights a.view.now.layout.stacks a.view.now.bases a.words.now (registers_of a.recent.now) a.view.now.depth a.view.now.frame a.r a.pointers a.q a.p in
    let d = jumping a.view.now.layout.lengths a.view.now.layout.gates a.view.now.layout.rights a.view.now.layout.stacks a.view.now.depth a.r a.pointers (read_of a.view.now.layout.lengths a.view.now.layout.rights a.view.now.bases a.words.now a.r.domain (registers_of a.recent.now) a.view.now.depth a.view.now.frame) a.i.opcode a.i.register a.p o.0 o.1 (sym c.jumps.ensures ∙ c.if-jumps.true) in
    rw d (record { result_value = ap (cycle_answer a.pointers) c.go_to.ensures ∙ simp (s.there, ← c.jump_check.ensures, c.in-Ok.is); words_after = sym s.words-stay; stays = subst (Stays _) (sym c.go_to.ensures) tt; recent_after = idle-recent _ _ (cycle_answer a.pointers c.go_to.result) (nothing-noted a.i.opcode a.p a.view.now.depth a.view.now.frame (registers_of a.recent.now) a.q o.0 o.1 (c.requires.1 (jump-untagged _ _ _ a.p (sym c.in-Ok.ensures)))) })

pub returns-in-5 : goal.returns-in-5
unfolding effect_of
returns-in-5 c =
    let o = other (goal.at.returns-in-5 c).Else-is_store in
    let a = c.args in
    simp (o.0, o.1) (rw c.in-5.is (record { result_value = ap (cycle_answer a.pointers) c.onward.ensures; words_after = refl; stays = subst (Stays _) (sym c.onward.ensures) tt; recent_after = last-noted _ _ _ _ _ c.note_indirect.ensures ∙ moved-recent _ _ a.pointers _ _ _ c.onward.ensures refl }))

pub returns-in-8 : goal.returns-in-8
unfolding effect_of
returns-in-8 c =
    let o = other (goal.at.returns-in-8 c).Else-is_store in
    let a = c.args in
    let s = call-settles a.view.now.layout.lengths a.view.now.layout.gates a.view.now.layout.rights a.view.now.layout.stacks a.view.now.bases a.words.now (registers_of a.recent.now) a.view.now.depth a.view.now.frame a.r a.pointers a.q a.p in
    let n : a.p.tag ≡ false → renewed_all (registers_of a.recent.now) a.view.now.depth a.view.now.frame (made_read a.q ∷ []) ≡ registers_of a.recent.now = λ t. untagged-indirect a.view.now.depth a.view.now.frame (registers_of a.recent.now) a.q (c.requires.1 t) in
    simp (o.0, o.1) (rw c.in-8.is (record { result_value = c.call.ensures.cycles a.pointers ∙ sym s.there; words_after = sym s.words-stay; stays = c.call.ensures.stays; recent_after = call-recent a.view.now.layout.lengths a.view.now.layout.gates a.view.now.layout.rights a.r.domain a.view.now.depth (stack_of a.view.now.layout.stacks a.r.domain) a.r a.pointers a.p _ _ n ∙ ap (recent_by _ _) (sym (c.call.ensures.cycles a.pointers)) }))

pub returns-in-9 : goal.returns-in-9
returns-in-9 c =
    let o = other (goal.at.returns-in-9 c).Else-is_store in
    let a = c.args in
    let d = leaving-by a.view.now.layout.lengths a.view.now.layout.gates a.view.now.layout.rights a.view.now.layout.stacks a.view.now.depth a.r a.pointers (read_of a.view.now.layout.lengths a.view.now.layout.rights a.view.now.bases a.words.now a.r.domain (registers_of a.recent.now) a.view.now.depth a.view.now.frame) a.i.opcode a.i.register a.p o.0 o.1 (sym c.jumps.ensures ∙ c.if-jumps.false) c.in-9.is in
    rw d (record { result_value = ap (cycle_answer a.pointers) c.stay-in-9.ensures; words_after = refl; stays = subst (Stays _) (sym c.stay-in-9.ensures) refl; recent_after = stay-recent _ _ a.pointers _ _ _ c.stay-in-9.ensures refl })

pub returns-in_default : goal.returns-in_default
returns-in_default c =
    let o = other (goal.at.returns-in_default c).Else-is_store in
    let a = c.args in
    let n = c.in_default.in_default-own.rest in
    let d = moving-on a.view.now.layout.lengths a.view.now.layout.gates a.view.now.layout.rights a.view.now.layout.stacks a.view.now.depth a.r a.pointers (read_of a.view.now.layout.lengths a.view.now.layout.rights a.view.now.bases a.words.now a.r.domain (registers_of a.recent.now) a.view.now.depth a.view.now.frame) a.i.opcode a.i.register a.p o.0 o.1 (sym c.jumps.ensures ∙ c.if-jumps.false) (ne_eqb _ _ n.0.0.1) (ne_eqb _ _ n.0.1) (ne_eqb _ _ n.1) in
    rw d (record { result_value = ap (cycle_answer a.pointers) c.onward-in_default.ensures; words_after = refl; stays = subst (Stays _) (sym c.onward-in_default.ensures) tt; recent_after = indirect-noted a.i.opcode a.p a.view.now.depth a.view.now.frame (registers_of a.recent.now) a.q o.0 o.1 _ (last-noted _ _ _ _ _ c.note_indirect-in_default.ensures) ∙ moved-recent _ _ a.pointers _ _ _ c.onward-in_default.ensures refl })
