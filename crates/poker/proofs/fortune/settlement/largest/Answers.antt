-- The fold over five odds, place by place.
use Rattle.std.proofs.Common.{◌≡◌, max, fold, ap, ◌∙◌, arith, rules, tests}
use Rattle.std.proofs.lemmas.Iterator.{YieldsList-from_slice}
use Rattle.std.proofs.lemmas.Iterator.Consumers.{fold_from_yields_List}
use Rattle.game.proofs.Five.{five_places}
use Rattle.poker.proofs.fortune.settlement.largest.Goals as goal

pub returns : goal.returns
returns c =
    let folded : c.fold.result ≡ fold (λ m n. max m n) 0 c.args.odds.now =
    fold_from_yields_List _ (λ m n. max m n) 0 c.fold.result c.fold.ensures.ran (YieldsList-from_slice c.args.odds.now cc) (λ a x b q k. search (rules, tests)) in
    omega (arith, folded ∙ ap (fold (λ m n. max m n) 0) (five_places c.args.odds.now c.told-odds))
