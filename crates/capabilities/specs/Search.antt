-- The search of a run of capabilities.
use Rattle.std.specs.Prelude.{ℕ, ◌+◌, Bool, true, ◌&&◌, List, [], ◌∷◌, Option, Some, None, leb, eqb, if◌then◌else◌}
use Rattle.words.specs.Answer.{Answer, refuse, ok}
use Rattle.words.specs.Numbers.{no_match}
use Rattle.state.specs.declared.record.Capability.{Capability}

-- a flag that is asked is there
abbrev pub granted : Bool → Bool → Bool
granted asked there = if asked then there else true

-- the capability is on the segment, covers length words from word up, and has the flags asked
unfoldable pub covers_of : ℕ → ℕ → ℕ → Bool → Bool → Capability → Bool
covers_of segment word length read write c =
    eqb c.segment segment && (leb c.word word && (leb (word + length) (c.word + c.length) && (granted read c.read && granted write c.write)))

-- the first capability that fits
unfoldable pub first_of : (Capability → Bool) → List Capability → Answer Capability
first_of fits [] = refuse no_match
first_of fits (c ∷ cs) = if fits c then ok c else first_of fits cs

-- what the code's option stands for
abbrev pub capability_answer : Option Capability → Answer Capability
capability_answer (Some c) = ok c
capability_answer None = refuse no_match
