-- `recent::registers::is_absent` meets its contract.
use Rattle.std.proofs.Common.{◌≡◌, ◌∙◌, refl, ap, drop, rules, tests, ℕ, Bool, not, nat_eq, List, [], ◌∷◌, ◌&&◌}
use Rattle.std.specs.List.{list_all}
use Rattle.std.proofs.lemmas.Iterator.{YieldsList-from_slice}
use Rattle.std.proofs.lemmas.Iterator.Adapters.{YieldsList-from_skip}
use Rattle.std.proofs.lemmas.Iterator.Consumers.{YieldsList-at}
use Rattle.std.proofs.lemmas.Iterator.Search.{all_from_yields_List}
use Rattle.state.specs.declared.record.Register.{Register}
use Rattle.recent.specs.SoundRegisters.{absent}
use Rattle.recent.proofs.registers.is_absent.Goals as goal

each_other : (n : ℕ) (rs : List Register) → list_all (λ r. not (nat_eq r.recency n)) rs ≡ absent n rs
unfolding absent
each_other n [] = refl
each_other n (r ∷ rs) = ap (λ (b : Bool). not (nat_eq r.recency n) && b) (each_other n rs)

pub returns : goal.returns
returns c =
    let a = c.args in
    let listed = YieldsList-from_skip a.from (YieldsList-at c.skip.ensures.source (YieldsList-from_slice a.recent (cc))) (cc) in
    all_from_yields_List (λ r. not (nat_eq r.recency a.n)) _ _ c.all.result c.all.ensures.ran listed (λ x b q k. search (rules, tests)) ∙ each_other a.n (drop a.from a.recent)
