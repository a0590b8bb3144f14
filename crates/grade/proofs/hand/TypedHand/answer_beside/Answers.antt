use Rattle.std.proofs.Common.{not, ◌||◌, sym, ap, ◌∙◌}
use Rattle.grading.specs.Cards.{different_cards}
use Rattle.grade.specs.Answers.{two_hands}
use Rattle.grade.proofs.HandStates.{not_false, or_true, two_no_card, two_by_first}
use Rattle.grade.proofs.hand.TypedHand.answer_beside.Goals as goal
use Rattle.grade.proofs.hand.TypedHand.answer_beside.Goals.{then-self-via-then-self, then-self-via-else-self+then-second}

pub returns-then-self : goal.returns-then-self
returns-then-self c = λ cards others k l.
    sym (two_no_card cards others (elim c.then-self.branch [
      | then-self-via-then-self w ↦ ap (λ b. b || not (different_cards others)) (sym k.faulty ∙ w.if-self.true)
      | then-self-via-else-self+then-second w ↦ ap (λ b. not (different_cards cards) || b) (sym l.faulty ∙ w.if-second.true) ∙ or_true (not (different_cards cards))
    ]))

pub returns : goal.returns
returns c = λ cards others k l.
    let good = not_false _ (sym k.faulty ∙ c.if-self.false) in
    let well = not_false _ (sym l.faulty ∙ c.if-second.false) in
    c.answer_two.ensures
    ∙ (λ i. two_hands ((c.as_slice.ensures ∙ (k.cards good).first) i) ((c.as_slice-2.ensures ∙ (l.cards well).first) i))
    ∙ two_by_first cards others good well
