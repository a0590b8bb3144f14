-- Laws of Fortune: what a hand brings by itself, and what a bank that does not open pays.
use Rattle.std.specs.Prelude.{◌≡◌, ℕ, ◌+◌, ◌*◌, ◌≤◌, false, List, Ok}
use Rattle.grading.specs.Grading.{three_class}
use Rattle.game.specs.Rules.{Deal}
use Rattle.game.specs.declared.choice.Choice.TheVariants.{Open, Raised}
use Rattle.poker.specs.Dealing.{seat_hand, bank_hand}
use Rattle.poker.specs.Fortune.{fortune_opens, fortune_rules, bonus, pair_plus_return}
use Rattle.poker.specs.Laws.{OrderDoesNotCount, Stakes}
use Rattle.poker.specs.Stakes.{ante_stake, pair_plus_stake}

-- what a seat's hand wins by its class alone: the bonus on the ante, and Pair Plus
abbrev pub won_by_class : List ℕ → List ℕ → List ℕ → ℕ
won_by_class odds stakes own = bonus (three_class own) (ante_stake stakes) + pair_plus_return odds (three_class own) (pair_plus_stake stakes)

-- what holds of every round of Fortune at these odds
pub record FortuneLaws (odds : List ℕ) : Type 0 where
  -- a seat that makes no choice, which is one without an ante, gets what Pair Plus wins by its hand, whatever the bank holds
  pub pair_plus_alone : (seat : ℕ) (stakes : List ℕ) (d : Deal) → (fortune_rules odds).returns seat stakes Open d ≡ pair_plus_return odds (three_class (seat_hand 3 seat d)) (pair_plus_stake stakes)
  -- a seat that raised gets at least what its hand wins by its class, whatever the bank holds
  pub by_class : (seat : ℕ) (stakes : List ℕ) (d : Deal) → won_by_class odds stakes (seat_hand 3 seat d) ≤ (fortune_rules odds).returns seat stakes Raised d
  -- where the bank does not open, a seat that raised gets, besides, its ante twice and its raise, whatever its hand is
  pub unopened :
      (seat : ℕ) (stakes : List ℕ) (d : Deal)
      → (fortune_rules odds).deals d ≡ Ok tt → Stakes d seat → fortune_opens (bank_hand 3 d) ≡ false
      → (fortune_rules odds).returns seat stakes Raised d ≡ 2 * ante_stake stakes + (fortune_rules odds).raise stakes + won_by_class odds stakes (seat_hand 3 seat d)
  -- the order in which the cards of a hand lie does not count
  pub any_order : OrderDoesNotCount 3 (fortune_rules odds)
