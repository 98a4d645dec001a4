-- `image_reader::domain::are_rights` meets its contract.
use Rattle.std.proofs.Common.{ℕ, ◌+◌, ◌-◌, ◌≡◌, arith, ◌&&◌, List, leb, refl, sym, ap, ◌∙◌, take, drop, rules, tests}
use Rattle.std.specs.List.{list_all}
use Rattle.std.proofs.lemmas.Iterator.{YieldsList-from_slice}
use Rattle.std.proofs.lemmas.Iterator.Search.{all_from_yields_List}
use Rattle.std.proofs.lemmas.List.Recursion.{same_from_clauses}
use Rattle.image_format.specs.Domain.{all_rights}
use Rattle.image_reader.proofs.domain.are_rights.Goals as goal

rights-are : (xs : List ℕ) → all_rights xs ≡ list_all (λ r. leb r 15) xs
unfolding all_rights
rights-are = same_from_clauses all_rights (list_all (λ r. leb r 15)) (λ r b. leb r 15 && b) refl (λ _ _. refl) (λ _ _. refl)

pub returns : goal.returns
returns c =
    let a = c.args in
    let xs = drop a.at a.image.now in
    all_from_yields_List {all = take (a.at + a.n - a.at) xs} (λ r. leb r 15) _ _ _ c.all.ensures.ran (YieldsList-from_slice _ cc) (λ x b q k. search (rules, tests)) ∙ sym (rights-are _) ∙
    ap (λ (k : ℕ). all_rights (take k xs)) (let e : a.at + a.n - a.at ≡ a.n = omega arith in e)
