-- Deals that were worked by hand.
use Rattle.std.specs.Prelude.{◌≡◌, ℕ, ◌+◌, ◌*◌, true, false, List, [], ◌∷◌, ◌++◌, Ok}
use Rattle.grading.specs.Grading.{five_compared}
use Rattle.grading.specs.declared.comparisons.Comparison.TheVariants.{Lower}
use Rattle.game.specs.Rules.{Rules, Deal, deal}
use Rattle.game.specs.declared.choice.Choice.TheVariants.{Raised}
use Rattle.poker.specs.Fortune.{fortune_opens, fortune_rules}
use Rattle.poker.specs.Stud.{stud_rules}
use Rattle.makccarat.specs.Laws.{CheckedDeals as MakccaratDeals}

-- the cards of a suit, by their rank
abbrev pub diamond : ℕ → ℕ
diamond rank = 16 * rank

abbrev pub club : ℕ → ℕ
club rank = 16 * rank + 1

abbrev pub heart : ℕ → ℕ
heart rank = 16 * rank + 2

abbrev pub spade : ℕ → ℕ
spade rank = 16 * rank + 3

-- the deal to seat 1, which alone stakes, and the bank
abbrev pub heads_up : List ℕ → List ℕ → Deal
heads_up own bank = deal (true ∷ false ∷ false ∷ false ∷ false ∷ false ∷ false ∷ []) (own ++ bank)

-- with these cards against the bank's, a lawful deal, an ante of 100 that is raised returns this much
pub record Brings (R : Rules) (own bank : List ℕ) (amount : ℕ) : Type 0 where
  pub lawful : R.deals (heads_up own bank) ≡ Ok tt
  pub returned : R.returns 0 (100 ∷ 0 ∷ 0 ∷ 0 ∷ 0 ∷ []) Raised (heads_up own bank) ≡ amount

-- the hands, of mixed suits
abbrev pub four_three_two : List ℕ
four_three_two = diamond 4 ∷ club 3 ∷ heart 2 ∷ []

abbrev pub three_two_ace : List ℕ
three_two_ace = spade 3 ∷ diamond 2 ∷ club 14 ∷ []

abbrev pub queen_high : List ℕ
queen_high = diamond 12 ∷ club 4 ∷ heart 2 ∷ []

abbrev pub jack_high : List ℕ
jack_high = diamond 11 ∷ club 10 ∷ heart 8 ∷ []

abbrev pub kings_full : List ℕ
kings_full = diamond 13 ∷ club 13 ∷ heart 13 ∷ spade 5 ∷ diamond 5 ∷ []

abbrev pub four_nines : List ℕ
four_nines = diamond 9 ∷ club 9 ∷ heart 9 ∷ spade 9 ∷ club 4 ∷ []

abbrev pub two_aces : List ℕ
two_aces = spade 14 ∷ heart 14 ∷ club 10 ∷ diamond 7 ∷ spade 2 ∷ []

abbrev pub red_and_black_tens : List ℕ
red_and_black_tens = heart 10 ∷ club 10 ∷ diamond 9 ∷ club 7 ∷ spade 6 ∷ []

abbrev pub tens_with_the_spade : List ℕ
tens_with_the_spade = spade 10 ∷ diamond 10 ∷ heart 9 ∷ spade 7 ∷ club 6 ∷ []

-- the deals: in Fortune at any odds, in Stud at any cap unless one is named, in Makccarat in any suits
pub record CheckedDeals : Type 0 where
  -- 4-3-2 beats 3-2-A, the lowest straight: ante and raise twice, and the bonus
  pub higher_straight : (odds : List ℕ) → Brings (fortune_rules odds) four_three_two three_two_ace 500
  -- it loses to 4-3-2, and has its bonus all the same
  pub lower_straight : (odds : List ℕ) → Brings (fortune_rules odds) three_two_ace four_three_two 100
  -- Fortune's bank opens with Q-4-2, and not with J-10-8
  pub queen_opens : fortune_opens queen_high ≡ true
  pub jack_does_not : fortune_opens jack_high ≡ false
  -- Stud pays a full house 7 to 1 on the raise
  pub full_house : (cap : ℕ) → Brings (stud_rules cap) kings_full two_aces 1800
  -- four of a kind would be paid 4,000; the cap holds what is paid, and not the stakes
  pub capped_four : Brings (stud_rules 3000) four_nines two_aces 3400
  -- of level pairs with level cards beside them the one with the higher suit wins
  pub tens_compared : five_compared red_and_black_tens tens_with_the_spade ≡ Ok Lower
  pub tens_lose : (cap : ℕ) → Brings (stud_rules cap) red_and_black_tens tens_with_the_spade 0
  -- ranks 4, 2, 3, 3, 2, 9 in Makccarat: banker 7 to 6 in the first way, the wrong count in the second
  pub makccarat : MakccaratDeals
