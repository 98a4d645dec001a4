-- `slice_search::first` meets its contract.
use Rattle.std.proofs.Common.{◌∙◌, ap, take, rules, tests}
use Rattle.std.proofs.lemmas.Iterator.{YieldsList-from_slice, YieldsList-from_take}
use Rattle.std.proofs.lemmas.Iterator.Consumers.{YieldsList-at}
use Rattle.std.proofs.lemmas.Iterator.Search.{find_from_yields_List}
use Rattle.capabilities.specs.Search.{covers_of, capability_answer}
use Rattle.capabilities.proofs.First.{first-found}
use Rattle.slice_search.proofs.first.Goals as goal

pub returns : goal.returns
returns c =
    let a = c.args in
    let fits = covers_of a.segment a.word a.length a.read a.write in
    let listed = YieldsList-from_take 9 (YieldsList-at c.take.ensures.source (YieldsList-from_slice a.capabilities.now (cc))) (cc) in
    let found = find_from_yields_List fits _ _ c.find.result c.find.ensures.ran listed (λ x b q k. search (rules, tests)) in
    ap capability_answer (c.copied.ensures ∙ found) ∙ first-found fits (take 9 a.capabilities.now)
