-- The first capability that fits, as `find` comes to it.
use Rattle.std.specs.Prelude.{if◌then◌else◌}
use Rattle.std.proofs.Common.{◌≡◌, refl, Bool, true, false, cond, List, [], ◌∷◌, Some}
use Rattle.std.specs.List.{find}
use Rattle.words.specs.Answer.{ok}
use Rattle.state.specs.declared.record.Capability.{Capability}
use Rattle.capabilities.specs.Search.{first_of, capability_answer}

pub first-found : (fits : Capability → Bool) (cs : List Capability) → capability_answer (find fits cs) ≡ first_of fits cs
unfolding first_of
first-found fits [] = refl
first-found fits (c ∷ cs) = by (fits c) (first-found fits cs)
  where
    by : (t : Bool) → capability_answer (find fits cs) ≡ first_of fits cs → capability_answer (cond t (Some c) (find fits cs)) ≡ (if t then ok c else first_of fits cs)
    by true e = refl
    by false e = e
