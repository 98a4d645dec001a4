-- A registered match has the source of the live frame's first match.
use Prim.Native.Nat.{ℕ, zero, suc, ◌+◌, ◌-◌}
use native.Mathlib.Omega.{arith}
use mathlib.Core.Bool.{true, not}
use mathlib.Core.List.{List, [], ◌∷◌}
use mathlib.Core.Path.{◌≡◌, refl, sym, ap, ◌∙◌}
use borrow.Author.Tests.{eqb-true, leb-true, ne_eqb}
use lib.Dec.{eqb, leb}
use lib.ListN.{get_or}
use Rattle.words.specs.Answer.{ok}
use Rattle.state.specs.declared.record.Capability.{Capability}
use Rattle.state.specs.declared.record.Frame.{Frame}
use Rattle.state.specs.declared.record.Register.{Register}
use Rattle.state.specs.Record.{no_capability, no_frame, no_register, in_use}
use Rattle.soundness.proofs.Facts.{sound-facts}
use Rattle.capabilities.specs.Search.{covers_of}
use Rattle.recent.specs.Entering.{may_enter, capabilities_of}
use Rattle.recent.specs.SoundRegisters.{register_test, frame_of_register, contents_test}
use Rattle.recent.proofs.Logic.{both}
use Rattle.recent.proofs.Clear.{covers-clear}
use Rattle.recent.proofs.Agrees.{first-match}
use Rattle.recent.proofs.Contents.{RegisterSound, Holds, empty, full, holds, held}
use Rattle.recent.proofs.Kept.{recent-contents}
use Rattle.references.specs.declared.flag.Access.{Access}
use Rattle.references.specs.Flag.{is_read}
use Rattle.references.specs.Live.{live_match}
use Rattle.recent_theorems.specs.Statements.{allows, MatchSource}
use Rattle.executions.proofs.RecentKept.{in-use}

-- each register is sound, and so is one past the last
contents-at : (depth : ℕ) (fs : List Frame) (rs : List Register) → contents_test depth fs rs ≡ true → (i : ℕ) → RegisterSound depth fs (get_or rs i no_register)
unfolding contents_test
contents-at depth fs [] t i = held depth fs no_register (empty refl refl)
contents-at depth fs (r ∷ rs) t zero = (both (register_test depth (frame_of_register fs r) r) _ t).0
contents-at depth fs (r ∷ rs) t (suc i) = contents-at depth fs rs (both (register_test depth (frame_of_register fs r) r) _ t).1 i

-- an empty register allows nothing
empty-allows : (a : Access) (segment word : ℕ) → allows a segment word no_capability ≡ true → ⊥
unfolding covers_of
empty-allows a segment word e =
    let b = both (eqb 0 segment) _ e in
    let c = both (leb 0 word) _ b.1 in
    let d = leb-true (word + 1) 0 (both (leb (word + 1) 0) _ c.1).0 in
    omega (arith, d)

module _ (a : Access) (segment word : ℕ) (depth : ℕ) (fs : List Frame) (r : Register) where
  abbrev Sourced : Type 0
  Sourced = (c : Capability) × (live_match depth (get_or fs (depth - 1) no_frame) (allows a segment word) ≡ ok c) × (c.source ≡ r.capability.source)

  sourced : Holds depth fs r → r.frame ≡ depth → allows a segment word r.capability ≡ true → Sourced
  unfolding live_match
  sourced (empty z c) f e = absurd (empty-allows a segment word (ap (allows a segment word) (sym c) ∙ e))
  sourced (full some l m) f e =
      let k = covers-clear segment word 1 (omega arith) (is_read a) (not (is_read a)) in
      let m' : may_enter (capabilities_of (get_or fs (depth - 1) no_frame)) r.capability ≡ true = ap (λ (d : ℕ). may_enter (capabilities_of (get_or fs (d - 1) no_frame)) r.capability) (sym f) ∙ m in
      let t = first-match (allows a segment word) k r.capability e (capabilities_of (get_or fs (depth - 1) no_frame)) m' in
      (t.0, rw (ne_eqb depth 0 (λ q. omega (arith, q, some, f))) t.1, t.2)

pub match-source : MatchSource
match-source m s a segment word i e =
    let f = sound-facts m s in
    let r = get_or m.recent i no_register in
    let few = f.frames.most in
    let u = in-use m.depth few in
    let b = both (eqb r.frame (in_use m.depth)) _ e in
    let h = holds m.depth m.frames r (contents-at m.depth m.frames m.recent (recent-contents m.depth m.frames m.recent f.recent) i) in
    rw u (sourced a segment word m.depth m.frames r h (eqb-true _ _ b.0 ∙ u) b.1)
