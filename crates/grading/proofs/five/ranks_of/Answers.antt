use Rattle.std.proofs.Common.{sym, ◌∙◌, subst}
use Rattle.grading.specs.Laws.{FiveOnly}
use Rattle.grading.specs.Steps.{five_sorted}
use Rattle.grading.proofs.InOrder.{five_sorted_is_ranked, five_only}
use Rattle.grading.proofs.five.ranks_of.Goals as goal

pub returns : goal.returns
returns c =
    let cs = c.args.cards.now in
    let s = c.in_order.result in
    let sh = c.in_order.ensures.shuffled in
    let ranked =
    c.by_ranks.ensures
    ∙ (λ i. five_sorted (c.rank_of.ensures i) (c.rank_of-2.ensures i) (c.rank_of-3.ensures i) (c.rank_of-4.ensures i) (c.rank_of-5.ensures i) (c.are_of_one_suit.ensures i))
    ∙ five_sorted_is_ranked cs s sh c.in_order.ensures.up c.requires in
    record {
      ranked = ranked;
      only = subst (λ h. FiveOnly cs h.class) (sym ranked) (five_only cs s sh c.in_order.ensures.up c.requires);
    }
