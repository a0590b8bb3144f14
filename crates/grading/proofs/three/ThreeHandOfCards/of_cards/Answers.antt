use Rattle.std.proofs.Common.{sym, ◌∙◌, subst}
use Rattle.grading.specs.Laws.{ThreeOnly}
use Rattle.grading.specs.Steps.{three_sorted}
use Rattle.grading.proofs.InOrder.{three_sorted_is_hand, three_only}
use Rattle.grading.proofs.Shuffles.{three_hand_shuffled}
use Rattle.grading.proofs.three.ThreeHandOfCards.of_cards.Goals as goal

pub returns : goal.returns
returns c =
    let cs = c.args.cards.now in
    let s = c.in_order.result in
    let sh = c.in_order.ensures.shuffled in
    let hand =
    c.by_ranks.ensures
    ∙ (λ i. three_sorted (c.rank_of.ensures i) (c.rank_of-2.ensures i) (c.rank_of-3.ensures i) (c.are_of_one_suit.ensures i))
    ∙ three_sorted_is_hand cs s sh c.in_order.ensures.up c.requires in
    record {
      hand = hand;
      any_order = λ es moved. three_hand_shuffled cs es moved ∙ sym hand;
      only = subst (λ h. ThreeOnly cs h.class) (sym hand) (three_only cs s sh c.in_order.ensures.up c.requires);
    }
