use Rattle.std.proofs.Common.{sym, ap, ◌∙◌}
use Rattle.grade.specs.Answers.{one_hand}
use Rattle.grade.proofs.HandStates.{not_true, not_false, one_no_card, one_by_first}
use Rattle.grade.proofs.hand.TypedHand.answer.Goals as goal

pub returns-then-self : goal.returns-then-self
returns-then-self c = λ cards k. sym (one_no_card cards (not_true _ (sym k.faulty ∙ c.if-self.true)))

pub returns : goal.returns
returns c = λ cards k.
    let good = not_false _ (sym k.faulty ∙ c.if-self.false) in
    c.answer_one.ensures ∙ ap one_hand (c.as_slice.ensures ∙ (k.cards good).first) ∙ one_by_first cards good
