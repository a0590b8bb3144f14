-- The deals that were worked by hand, by computing with the rule of grading.
use Rattle.std.proofs.Common.{◌≡◌, ℕ, true, false, List, Ok, refl, arith}
use Rattle.grading.specs.Cards.{different_cards}
use Rattle.grading.specs.Ranks.{held, sequence}
use Rattle.grading.specs.Three.{three_hand, three_order}
use Rattle.grading.specs.Five.{five_ranked, five_hand, five_order}
use Rattle.grading.specs.Grading.{three_class, three_compared, five_class, five_compared}
use Rattle.grading.specs.declared.comparisons.Comparison.TheVariants.{Lower}
use Rattle.poker.specs.Fortune.{fortune_opens, fortune_rules}
use Rattle.poker.specs.Stud.{stud_rules}
use Rattle.makccarat.specs.Laws.{CheckedDeals as MakccaratDeals}
use Rattle.games.specs.Checked.{CheckedDeals, Brings, four_three_two, three_two_ace, queen_high, jack_high, kings_full, four_nines, two_aces, red_and_black_tens, tens_with_the_spade}

higher_straight : (odds : List ℕ) → Brings (fortune_rules odds) four_three_two three_two_ace 500
unfolding different_cards held sequence three_hand three_order three_class three_compared
higher_straight odds = record { lawful = refl; returned = omega arith }

lower_straight : (odds : List ℕ) → Brings (fortune_rules odds) three_two_ace four_three_two 100
unfolding different_cards held sequence three_hand three_order three_class three_compared
lower_straight odds = record { lawful = refl; returned = omega arith }

queen_opens : fortune_opens queen_high ≡ true
unfolding different_cards held sequence three_hand three_class
queen_opens = refl

jack_does_not : fortune_opens jack_high ≡ false
unfolding different_cards held sequence three_hand three_class
jack_does_not = refl

full_house : (cap : ℕ) → Brings (stud_rules cap) kings_full two_aces 1800
unfolding different_cards held sequence five_ranked five_hand five_order five_class five_compared
full_house cap = record { lawful = refl; returned = refl }

capped_four : Brings (stud_rules 3000) four_nines two_aces 3400
unfolding different_cards held sequence five_ranked five_hand five_order five_class five_compared
capped_four = record { lawful = refl; returned = refl }

tens_compared : five_compared red_and_black_tens tens_with_the_spade ≡ Ok Lower
unfolding different_cards held sequence five_ranked five_hand five_order five_compared
tens_compared = refl

tens_lose : (cap : ℕ) → Brings (stud_rules cap) red_and_black_tens tens_with_the_spade 0
unfolding different_cards held sequence five_ranked five_hand five_order five_class five_compared
tens_lose cap = record { lawful = refl; returned = refl }

pub checked : MakccaratDeals → CheckedDeals
checked makccarat = record {
  higher_straight = higher_straight;
  lower_straight = lower_straight;
  queen_opens = queen_opens;
  jack_does_not = jack_does_not;
  full_house = full_house;
  capped_four = capped_four;
  tens_compared = tens_compared;
  tens_lose = tens_lose;
  makccarat = makccarat;
}
