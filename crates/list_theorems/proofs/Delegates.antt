-- Where the capabilities of a call's frame come from.
use Rattle.std.specs.Prelude.{if◌then◌else◌}
use Prim.Native.Nat.{ℕ, ◌≤◌}
use native.Mathlib.Omega.{arith}
use mathlib.Core.Bool.{Bool, true, false}
use mathlib.Core.Logic.{◌⊎◌, inl, inr}
use mathlib.Core.Path.{◌≡◌, refl, sym, ap, subst}
use borrow.Author.Tests.{eqb-false}
use lib.Dec.{eqb, leb}
use lib.ListN.{get_or, take}
use Rattle.words.specs.Answer.{Answer, refuse, ok}
use Rattle.words.specs.ModeWord.{mode_of}
use Rattle.words.specs.declared.pointer.Pointer.{Pointer}
use Rattle.words.specs.declared.mode.Mode.{Mode}
use Rattle.state.specs.declared.record.Capability.{Capability}
use Rattle.state.specs.declared.record.Frame.{Frame}
use Rattle.state.specs.declared.record.Machine.{Machine}
use Rattle.state.specs.Record.{no_pointer, no_capability, in_use}
use Rattle.capabilities.specs.Search.{covers_of, first_of}
use Rattle.references.specs.Live.{live_match, passed_of}
use Rattle.memory.specs.Reader.{Reader, read_word}
use Rattle.arguments.specs.ArgumentList.{list_word, list_pointer, source_of, capability_on, capability_of, argument_of, list_mode, list_capability}
use Rattle.executions.proofs.Says.{Says, said, says-bind, says_then, says_if, says-weaker}
use Rattle.executions.proofs.Arguments.{first-is}
use Rattle.executions.proofs.FrameParts.{row-added, parts_held}
use Rattle.list_theorems.proofs.Calls.{call-parts}
use Rattle.list_theorems.specs.Statements.{list_at, live, ListSource, PassedOn, CallDelegates, ListDelegates}

some-depth : (depth : ℕ) → (in_use depth ≡ 0 → ⊥) → 1 ≤ depth
some-depth depth h = by (leb depth 8) h
  where
    by : (t : Bool) → ((if t then depth else 0) ≡ 0 → ⊥) → 1 ≤ depth
    by true k = omega (arith, k)
    by false k = absurd (k refl)

module _ (m : Machine) where
  abbrev caller : ℕ
  caller = m.registers.domain

  -- the caller's own, or passed on
  abbrev Delegated : Capability → Type 0
  Delegated c = (c.source ≡ caller) ⊎ PassedOn m c

  -- what is passed on is a part of what the live frame has
  passed_on : (p : Pointer) (mode : Mode) → Says (λ d. PassedOn m (capability_on p mode d)) (passed_of (in_use m.depth) (live m) p.segment p.word mode.length mode.read mode.write)
  unfolding passed_of live_match
  passed_on p mode =
      says-bind Found (λ d. PassedOn m (capability_on p mode d)) (live_match (in_use m.depth) (live m) fits) (λ c. ok c.source)
      (says_if Found (eqb (in_use m.depth) 0) (refuse 24) (first_of fits (take (live m).count (live m).capabilities)) (λ _. tt)
      (λ e. first-is Found fits (live m).count (live m).capabilities (λ j l f. record { row = j; used = l; some = some-depth m.depth (eqb-false _ 0 e); source = refl; within = f })))
      (λ c h. h)
    where
      Found : Capability → Type 0
      Found c = PassedOn m (capability_on p mode c.source)

      fits : Capability → Bool
      fits = covers_of p.segment p.word mode.length mode.read mode.write

  source-delegated : (p : Pointer) (mode : Mode) → Says (λ d. Delegated (capability_on p mode d)) (source_of caller (in_use m.depth) (live m) p mode)
  unfolding source_of
  source-delegated p mode =
      says_if (λ d. Delegated (capability_on p mode d)) p.tag passed (ok caller)
      (λ _. says-weaker (λ d. PassedOn m (capability_on p mode d)) (λ d. Delegated (capability_on p mode d)) passed (passed_on p mode) (λ d h. inr h))
      (λ _. inl refl)
    where
      passed : Answer ℕ
      passed = passed_of (in_use m.depth) (live m) p.segment p.word mode.length mode.read mode.write

  argument-delegated : (read : Reader) (a : Pointer) (i : ℕ) → Says Delegated (argument_of read a caller (in_use m.depth) (live m) i)
  unfolding argument_of capability_of
  argument-delegated read a i =
      says_then Delegated (list_pointer read a _) _ (λ p.
      says_then Delegated (list_word read a _) _ (λ v.
      says_then Delegated (mode_of v p.word) _ (λ mode.
      says-bind (λ d. Delegated (capability_on p mode d)) Delegated (source_of caller (in_use m.depth) (live m) p mode) _ (source-delegated p mode) (λ d h. h))))

pub call-delegates : CallDelegates
call-delegates m n words s c j l =
    let P : ℕ → Capability → Type 0 = λ j c. Delegated m c in
    let p = call-parts m words n s c in
    let held = parts_held (read_word m words) (list_at m) (get_or m.pointers 1 no_pointer) (caller m) (in_use m.depth) (live m) P (argument-delegated m (read_word m words) (list_at m)) (live n) p in
    let list = said (λ d. Delegated m (list_capability (list_at m) d p.arguments)) _ p.source (source-delegated m (list_at m) (list_mode p.arguments)) p.sourced in
    let rows = row-added P p.arguments p.rows (list_capability (list_at m) p.source p.arguments) (omega (arith, p.few)) list held in
    subst (λ (f : Frame). Delegated m (get_or f.capabilities j no_capability)) (sym p.made) (rows.used j (rw (ap (λ (f : Frame). f.count) p.made) at l))

pub list-delegates : ListDelegates
unfolding passed_of
list-delegates m n words s c l t =
    said (λ d. PassedOn m (list_capability (list_at m) d l.arguments)) _ l.source (passed_on m (list_at m) (list_mode l.arguments))
    (subst (λ (t : Bool). ListSource m l.arguments t l.source) t l.whose)
