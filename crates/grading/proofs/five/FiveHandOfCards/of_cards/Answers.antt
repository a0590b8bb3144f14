use Rattle.std.proofs.Common.{◌≡◌, sym, ap, ◌∙◌}
use Rattle.grading.specs.Five.{five_hand, deciding_suit}
use Rattle.grading.specs.declared.five.FiveHand.{FiveHand}
use Rattle.grading.proofs.Shuffles.{five_hand_shuffled}
use Rattle.grading.proofs.five.FiveHandOfCards.of_cards.Goals as goal

pub returns : goal.returns
unfolding five_hand
returns c =
    let cs = c.args.cards.now in
    let ranked = c.ranks_of-ranked.ensures.ranked in
    let suit = c.deciding_suit-suit.ensures ∙ ap (λ x. deciding_suit x cs) ranked in
    let hand : ◌≡◌ {A = FiveHand} _ (five_hand cs) = λ i. record { class = (ranked i).class; ranks = (ranked i).ranks; suit = suit i } in
    record {
      hand = hand;
      any_order = λ es moved. five_hand_shuffled cs es moved ∙ sym hand;
      only = c.ranks_of-ranked.ensures.only;
    }
