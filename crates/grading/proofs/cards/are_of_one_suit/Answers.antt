use Rattle.std.proofs.Common.{◌≡◌, ◌||◌, [], ◌∷◌, ap, ◌∙◌, rules, tests}
use Rattle.std.proofs.Math.Bool.{or-false}
use Rattle.std.proofs.lemmas.Iterator.{YieldsList-from_slice}
use Rattle.std.proofs.lemmas.Iterator.Search.{any_from_yields_List}
use Rattle.std.specs.List.{list_any}
use Rattle.grading.specs.Cards.{all_of_suit}
use Rattle.grading.proofs.cards.are_of_one_suit.Goals as goal

pub returns : goal.returns
returns c =
    let cs = c.args.cards.now in
    let h : c.any.result ≡ list_any (λ s. all_of_suit s cs) (0 ∷ 1 ∷ 2 ∷ 3 ∷ []) =
    any_from_yields_List (λ s. all_of_suit s cs) _ _ c.any.result c.any.ensures.ran (YieldsList-from_slice (0 ∷ 1 ∷ 2 ∷ 3 ∷ []) cc) (λ x b q k. search (rules, tests)) in
    h ∙ ap (λ d. all_of_suit 0 cs || (all_of_suit 1 cs || (all_of_suit 2 cs || d))) (or-false (all_of_suit 3 cs))
