-- `recent::entering::all_yield` meets its contract.
use Rattle.std.proofs.Common.{◌≡◌, ◌∙◌, refl, ap, take, rules, tests, Bool, List, [], ◌∷◌, ◌&&◌}
use Rattle.std.specs.List.{list_all}
use Rattle.std.proofs.lemmas.Iterator.{YieldsList-from_slice, YieldsList-from_take}
use Rattle.std.proofs.lemmas.Iterator.Consumers.{YieldsList-at}
use Rattle.std.proofs.lemmas.Iterator.Search.{all_from_yields_List}
use Rattle.state.specs.declared.record.Capability.{Capability}
use Rattle.recent.specs.Entering.{yields, all_yield}
use Rattle.recent.proofs.entering.all_yield.Goals as goal

each-yields : (c : Capability) (cs : List Capability) → list_all (λ x. yields x c) cs ≡ all_yield cs c
unfolding all_yield
each-yields c [] = refl
each-yields c (x ∷ xs) = ap (λ (b : Bool). yields x c && b) (each-yields c xs)

pub returns : goal.returns
returns c =
    let a = c.args in
    let listed = YieldsList-from_take a.n (YieldsList-at c.take.ensures.source (YieldsList-from_slice a.capabilities (cc))) (cc) in
    all_from_yields_List (λ x. yields x a.c) _ _ c.all.result c.all.ensures.ran listed (λ x b q k. search (rules, tests)) ∙ each-yields a.c (take a.n a.capabilities)
