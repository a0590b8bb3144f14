use Rattle.std.proofs.Common.{rules, tests}
use Rattle.std.proofs.lemmas.Iterator.{YieldsList-from_slice}
use Rattle.std.proofs.lemmas.Iterator.Search.{any_from_yields_List}
use Rattle.grading.specs.Cards.{is_of}
use Rattle.grading.proofs.cards.hold.Goals as goal

pub returns : goal.returns
returns c = any_from_yields_List (is_of c.args.rank c.args.suit) _ _ c.any.result c.any.ensures.ran (YieldsList-from_slice c.args.cards.now cc) (λ x b q k. search (rules, tests))
