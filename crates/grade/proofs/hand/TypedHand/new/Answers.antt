use Rattle.std.proofs.Common.{[], ◌∙◌, sym, refl, false, arith}
use Rattle.std.proofs.lemmas.List.{take_all, get_or-replicate}
use Rattle.grading.specs.Cards.{different_cards}
use Rattle.grade.proofs.hand.TypedHand.new.Goals as goal

pub returns : goal.returns
unfolding different_cards
returns c = record {
  faulty = refl;
  cards = λ _. record {
    first = c.new-first.ensures ∙ sym (take_all 6 [] (omega arith));
    seen = λ card within. get_or-replicate 256 card false false within;
  };
}
