-- What follows a call through a gate: another domain executes, and its fetch gets the gate's word.
use Prim.Native.Nat.{ℕ, ◌<◌, ◌≤◌}
use native.Mathlib.Omega.{arith}
use mathlib.Core.Bool.{true}
use mathlib.Core.List.{List}
use mathlib.Core.Path.{◌≡◌, sym, ap, ◌∙◌}
use borrow.Author.Tests.{lt-ltb}
use lib.ListN.{get_or}
use Rattle.words.specs.Answer.{ok}
use Rattle.words.specs.declared.pointer.Pointer.{Pointer}
use Rattle.state.specs.declared.record.Layout.{Layout}
use Rattle.state.specs.declared.record.Registers.{Registers}
use Rattle.state.specs.declared.record.Machine.{Machine}
use Rattle.state.specs.Record.{of_segment}
use Rattle.state.proofs.Sums.{bases-at}
use Rattle.layout_soundness.proofs.Gates.{GatesSound}
use Rattle.references.specs.declared.flag.Flag.TheVariants as flag
use Rattle.references.specs.Flag.{has}
use Rattle.references.specs.Static.{rights_of, static_of}
use Rattle.references.specs.Reference.{locate_of}
use Rattle.references.proofs.Passes.{never, exists-facts}
use Rattle.memory.specs.Reader.{fetch, fetch_of}
use Rattle.instructions.specs.Plan.{enter}
use Rattle.runs.specs.Step.{crossing, done, decide, commit, execute}
use Rattle.executions.proofs.Says.{said}
use Rattle.executions.proofs.Plans.{Gated}
use Rattle.executions.proofs.Sound.{Planned, planned-sound, whole}
use Rattle.executions.proofs.Made.{call_facts}
use Rattle.executions.specs.Statements.{SoundRecord, CalledTo, CallLeaves, CallFetches}

-- a gate's domain has E on its segment
gate-executes : (l : Layout) → GatesSound l.gates l.gatedomains l.rights → {domain depth : ℕ} (p : Pointer) → Gated l.lengths l.gates l.rights domain depth p
    → has (rights_of l.rights (of_segment l.gatedomains p.segment) p.segment) flag.Execute ≡ true
gate-executes l s p g =
    let there = (exists-facts _ p.segment p.word g.exists-is).0 in
    let gate : p.word < get_or l.gates p.segment 0 = simp (lt-ltb _ _ there) at g.gate in
    let some : 1 ≤ get_or l.gates p.segment 0 = omega (arith, gate) in
    simp (lt-ltb _ _ there, s p.segment there some)

called-executes : (m n : Machine) (words : List ℕ) → CalledTo m words n → execute m words ≡ ok (done n words crossing)
unfolding execute decide commit
called-executes m n words c = simp (c.asked, c.made)

module _ (m n : Machine) (words : List ℕ) (s : SoundRecord m) (c : CalledTo m words n) where
  pub gated : Gated m.layout.lengths m.layout.gates m.layout.rights m.registers.domain m.depth c.gate
  gated = said (Planned m (whole m s)) _ (enter c.gate) (planned-sound m (whole m s) words) c.asked

  executes : has (rights_of m.layout.rights (of_segment m.layout.gatedomains c.gate.segment) c.gate.segment) flag.Execute ≡ true
  executes = gate-executes m.layout (whole m s).sound.gates c.gate gated

pub call-leaves : CallLeaves
call-leaves m n words s c e =
    let d = ap (λ (r : Registers). r.domain) (sym (call_facts m n words c.gate c.made).registers) ∙ e in
    never (sym (gated m n words s c).outside ∙ ap (λ (k : ℕ). has (rights_of m.layout.rights k c.gate.segment) flag.Execute) (sym d) ∙ executes m n words s c)

pub call-fetches : CallFetches
unfolding fetch fetch_of locate_of static_of
call-fetches m n words s c =
    let g = gated m n words s c in
    let f = call_facts m n words c.gate c.made in
    let there = (exists-facts _ c.gate.segment c.gate.word g.exists-is).0 in
    (called-executes m n words c, simp (f.layout, f.registers, g.exists-is, executes m n words s c, bases-at m.layout.lengths c.gate.segment there))
