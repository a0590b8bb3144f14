use Rattle.std.proofs.Common.{eqb, ◌∙◌, rules, tests}
use Rattle.std.proofs.lemmas.Iterator.{YieldsList-from_slice}
use Rattle.std.proofs.lemmas.Iterator.Search.{all_from_yields_List}
use Rattle.grading.specs.Cards.{suit_of}
use Rattle.grading.proofs.Each.{list_all_is_each}
use Rattle.grading.proofs.cards.are_of_suit.Goals as goal

pub returns : goal.returns
returns c =
    let cs = c.args.cards.now in
    all_from_yields_List (λ x. eqb (suit_of x) c.args.suit) _ _ c.all.result c.all.ensures.ran (YieldsList-from_slice cs cc) (λ x b q k. search (rules, tests))
    ∙ list_all_is_each (λ x. eqb (suit_of x) c.args.suit) cs
