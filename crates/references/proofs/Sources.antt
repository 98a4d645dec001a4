-- The source that a search gives, as an answer and as a number.
use Rattle.std.specs.Prelude.{if◌then◌else◌}
use Prim.Native.Nat.{ℕ}
use mathlib.Core.Path.{◌≡◌, refl, ap, ◌∙◌}
use mathlib.Core.Bool.{Bool, not}
use mathlib.Core.List.{List}
use borrow.Author.Tests.{eq-eqb, ne_eqb}
use lib.Dec.{eqb}
use Rattle.words.specs.Answer.{Answer, refuse, ok, ◌>>=◌}
use Rattle.words.specs.Numbers.{no_match, source_fails}
use Rattle.state.specs.declared.record.Capability.{Capability}
use Rattle.state.specs.declared.record.Frame.{Frame}
use Rattle.state.specs.declared.record.Register.{Register}
use Rattle.capabilities.specs.Search.{covers_of, first_of}
use Rattle.recent.specs.Entering.{capabilities_of}
use Rattle.recent.specs.Found.{Found, held_of, noted, by_held, found_of}
use Rattle.references.specs.declared.flag.Access.{Access}
use Rattle.references.specs.Flag.{flag_of, is_read}
use Rattle.references.specs.Static.{static_of}
use Rattle.references.specs.Live.{live_match, live_of, live_through, passed_of, sourced}
use Rattle.references.specs.Private.{found_source}

-- after a search for the source: its static check
abbrev pub sourced_by : List ℕ → List ℕ → Access → ℕ → ℕ → Answer ℕ → ℕ
sourced_by lengths rights access segment word (refuse n) = n
sourced_by lengths rights access segment word (ok d) =
    if eqb (static_of lengths rights d (flag_of access) segment word) 0 then 0 else source_fails

-- the live check asks for the source of one word
pub live-passed : (lengths rights : List ℕ) (depth : ℕ) (frame : Frame) (access : Access) (segment word : ℕ) →
    live_of lengths rights depth frame access segment word ≡ sourced_by lengths rights access segment word (passed_of depth frame segment word 1 (is_read access) (not (is_read access)))
unfolding live_of passed_of
live-passed lengths rights depth frame access segment word = go (live_match depth frame (covers_of segment word 1 (is_read access) (not (is_read access))))
  where
    go : (a : Answer Capability) → sourced lengths rights access segment word a ≡ sourced_by lengths rights access segment word (a >>= (λ c. ok c.source))
    go (refuse n) = refl
    go (ok c) = refl

-- and so through the registers
pub through-found : (lengths rights : List ℕ) (recent : List Register) (depth : ℕ) (frame : Frame) (access : Access) (segment word : ℕ) →
    live_through lengths rights recent depth frame access segment word ≡ sourced_by lengths rights access segment word (found_source recent depth frame segment word (is_read access))
unfolding live_through found_source
through-found lengths rights recent depth frame access segment word = go (found_of recent depth frame (covers_of segment word 1 (is_read access) (not (is_read access))))
  where
    go : (a : Answer Found) → sourced lengths rights access segment word (a >>= (λ f. ok f.capability)) ≡ sourced_by lengths rights access segment word (a >>= (λ f. ok f.capability.source))
    go (refuse n) = refl
    go (ok f) = refl

module _ (recent : List Register) (depth : ℕ) (frame : Frame) (segment word : ℕ) (read : Bool) where
  abbrev fits : Capability → Bool
  fits = covers_of segment word 1 read (not read)

  pub found_none : depth ≡ 0 → found_source recent depth frame segment word read ≡ refuse no_match
  unfolding found_source found_of
  found_none e = rw (eq-eqb depth 0 e)

  module _ (ne : depth ≡ 0 → ⊥) where
    by-held : (a : Answer Register) → held_of depth fits recent ≡ a
        → found_source recent depth frame segment word read ≡ (by_held depth fits (capabilities_of frame) recent a >>= (λ f. ok f.capability.source))
    unfolding found_source found_of
    by-held a e = rw (ne_eqb depth 0 ne) (ap (λ (x : Answer Register). by_held depth fits (capabilities_of frame) recent x >>= (λ f. ok f.capability.source)) e)

    pub found-held : (r : Register) → held_of depth fits recent ≡ ok r → found_source recent depth frame segment word read ≡ ok r.capability.source
    found-held r e = by-held (ok r) e

    pub found-searched : (n : ℕ) → held_of depth fits recent ≡ refuse n → found_source recent depth frame segment word read ≡ passed_of depth frame segment word 1 read (not read)
    unfolding passed_of live_match
    found-searched n e = by-held (refuse n) e ∙ rw (ne_eqb depth 0 ne) (go (first_of fits (capabilities_of frame)))
      where
        go : (a : Answer Capability) → ((a >>= (λ c. ok (record { capability = c; registers = noted depth (capabilities_of frame) recent c }))) >>= (λ (f : Found). ok f.capability.source)) ≡ (a >>= (λ c. ok c.source))
        go (refuse k) = refl
        go (ok c) = refl
