-- The called domain's reads of its list.
use Rattle.std.specs.Prelude.{if◌then◌else◌}
use Prim.Native.Nat.{ℕ, suc, ◌+◌, ◌*◌, ◌<◌}
use native.Mathlib.Omega.{arith}
use native.Mathlib.Numerals.{add-one}
use mathlib.Core.Bool.{Bool, true, false, ◌&&◌}
use mathlib.Core.List.{List}
use mathlib.Core.Path.{◌≡◌, refl, sym, ap, ◌∙◌}
use borrow.Author.Tests.{le-leb, eq-eqb, ne_eqb}
use lib.Dec.{eqb, leb}
use lib.ListN.{get_or, take}
use Rattle.words.specs.Answer.{Answer, refuse, ok, ◌>>=◌}
use Rattle.words.specs.declared.pointer.Pointer.{Pointer}
use Rattle.state.specs.declared.record.Capability.{Capability}
use Rattle.state.specs.declared.record.Machine.{Machine}
use Rattle.state.specs.Record.{no_capability, in_use}
use Rattle.state.specs.Bases.{bases_of}
use Rattle.capabilities.specs.Search.{covers_of, first_of}
use Rattle.references.specs.declared.flag.Flag.TheVariants as flag
use Rattle.references.specs.declared.flag.Access.TheVariants as access
use Rattle.references.specs.Static.{static_of}
use Rattle.references.specs.Live.{live_match, sourced, live_of}
use Rattle.references.specs.Reference.{index_of, accept, verdict_of, locate_of, reference_of}
use Rattle.references.specs.Check.{static_check}
use Rattle.memory.specs.Reader.{read_of, read_word}
use Rattle.arguments.specs.ArgumentList.{list_capability}
use Rattle.runs.specs.Step.{crossing, done}
use Rattle.executions.specs.Statements.{SoundRecord, CalledTo}
use Rattle.executions.proofs.Fit.{Fit, sound-fit}
use Rattle.executions.proofs.Through.{live_same}
use Rattle.executions.proofs.Sound.{step-sound}
use Rattle.executions.proofs.Gates.{gated, call-fetches}
use Rattle.executions.proofs.Made.{call_facts}
use Rattle.list_theorems.proofs.Rows.{first-at, first_some}
use Rattle.list_theorems.specs.Statements.{list_at, live, Listed, read_by, list_place, reads, ListRead, ListMatched}

-- each word of a list is read by its capability, and by no empty row
list-reads : (a : Pointer) (source n k : ℕ) → k < 3 + 2 * n → reads (list_capability a source n) (record { word = a.word + k; segment = a.segment; tag = true }) ≡ true
unfolding covers_of
list-reads a source n k h = simp (eq-eqb a.segment a.segment refl, le-leb a.word (a.word + k) (omega arith), le-leb (a.word + k + 1) (a.word + (3 + 2 * n)) (omega arith))

empty-reads : (p : Pointer) → reads no_capability p ≡ false
unfolding covers_of
empty-reads p = by (eqb 0 p.segment) (leb 0 p.word) (leb (p.word + 1) 0)
  where
    by : (x y z : Bool) → (x && (y && (z && (false && true)))) ≡ false
    by true true true = refl
    by true true false = refl
    by true false z = refl
    by false y z = refl

module _ (m n : Machine) (words : List ℕ) (s : SoundRecord m) (c : CalledTo m words n) (l : Listed m words n) (k : ℕ) (h : k < 3 + 2 * l.arguments) where
  abbrev at : Pointer
  at = list_place m k

  abbrev fits : Capability → Bool
  fits = λ d. reads d at

  -- a frame is in use after the call
  some : eqb (in_use n.depth) 0 ≡ false
  some =
      let deep = (call_facts m n words c.gate c.made).depth in
      let free = (gated m n words s c).free in
      rw deep (simp (le-leb (m.depth + 1) 8 (omega arith)) (ne_eqb (m.depth + 1) 0 (λ e. omega (arith, e))))

  last_fits : fits (get_or (live n).capabilities l.arguments no_capability) ≡ true
  last_fits = rw l.last (list-reads (list_at m) l.source l.arguments k h)

  counted : (live n).count ≡ suc l.arguments
  counted = l.count ∙ add-one l.arguments

  -- the record after the call is sound, so its registers change no read
  after : Fit n
  after = sound-fit n (step-sound m words s (done n words crossing) (call-fetches m n words s c).0).0

  -- what the search of the live frame answers, as a read
  abbrev read_as : Answer Capability → Answer ℕ
  read_as x =
      accept (sourced m.layout.lengths m.layout.rights access.Read at.segment at.word x) (index_of (bases_of m.layout.lengths) at.segment at.word) >>= (λ i. ok (get_or words i 0))

  searched : read_word n words at ≡ read_as (first_of fits (take (suc l.arguments) (live n).capabilities))
  unfolding read_word read_of reference_of verdict_of live_of live_match
  searched = rw (live_same n after access.Read at.segment at.word) (simp (some, counted, (call_facts m n words c.gate c.made).layout))

  -- it is read by the rights of the source of what was found
  by-source : (d : Capability) → read_as (ok d) ≡ read_by words (static_check m d.source flag.Read at.segment at.word)
  unfolding static_check locate_of
  by-source d = by (eqb (static_of m.layout.lengths m.layout.rights d.source flag.Read at.segment at.word) 0) _ _
    where
      by : (t : Bool) (x i : ℕ) → (accept (if t then 0 else 25) i >>= (λ j. ok (get_or words j 0))) ≡ read_by words (if t then ok i else refuse x)
      by true x i = refl
      by false x i = refl

  25-alone : (x : Answer ℕ) (number : ℕ) → read_by words x ≡ refuse number → number ≡ 25
  25-alone (refuse k) number e = cc
  25-alone (ok i) number e = absurd (let z : ◌≡◌ {A = ℕ} 0 1 = cc in omega arith)

  matched : (x : Answer Capability) → ((k : ℕ) → x ≡ refuse k → ⊥) → (number : ℕ) → read_as x ≡ refuse number → number ≡ 25
  matched (refuse k) never-none number e = absurd (never-none k refl)
  matched (ok d) never-none number e = 25-alone (static_check m d.source flag.Read at.segment at.word) number (sym (by-source d) ∙ e)

pub list_read : ListRead
list_read m n words s c l k h before =
    searched m n words s c l k h
    ∙ ap (read_as m n words s c l k h) (first-at (fits m n words s c l k h) (empty-reads (list_place m k)) l.arguments (live n).capabilities (λ j i. before j (omega (arith, i))) (last_fits m n words s c l k h) ∙ ap ok l.last)
    ∙ by-source m n words s c l k h (list_capability (list_at m) l.source l.arguments)

pub list-matched : ListMatched
list-matched m n words s c l k h number e =
    matched m n words s c l k h _ (first_some (fits m n words s c l k h) (empty-reads (list_place m k)) l.arguments (live n).capabilities (last_fits m n words s c l k h)) number
    (sym (searched m n words s c l k h) ∙ e)
