use Rattle.std.proofs.Common.{◌∙◌, rules, tests}
use Rattle.std.proofs.lemmas.Iterator.{YieldsList-from_slice}
use Rattle.std.proofs.lemmas.Iterator.Search.{all_from_yields_List}
use Rattle.grading.specs.Cards.{is_single_card, different_cards}
use Rattle.grading.proofs.Each.{list_all_is_each}
use Rattle.grading.proofs.cards.are_different_cards.Goals as goal

pub returns : goal.returns
unfolding different_cards
returns c =
    let cs = c.args.cards.now in
    all_from_yields_List (is_single_card cs) _ _ c.all.result c.all.ensures.ran (YieldsList-from_slice cs cc) (λ x b q k. search (rules, tests))
    ∙ list_all_is_each (is_single_card cs) cs
