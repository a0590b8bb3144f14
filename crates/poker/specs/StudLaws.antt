-- Laws of Stud: what the cap holds, and what a bank that does not open pays.
use Rattle.std.specs.Prelude.{◌≡◌, ℕ, ◌+◌, ◌*◌, ◌≤◌, false, List, Ok}
use Rattle.grading.specs.FiveClasses.{five_below}
use Rattle.grading.specs.Grading.{five_class}
use Rattle.grading.specs.declared.five_classes.FiveClass.{FiveClass}
use Rattle.grading.specs.declared.five_classes.FiveClass.TheVariants.{Four}
use Rattle.game.specs.Rules.{Deal}
use Rattle.game.specs.declared.choice.Choice.{Choice}
use Rattle.game.specs.declared.choice.Choice.TheVariants.{Raised}
use Rattle.poker.specs.Dealing.{seat_hand, bank_hand}
use Rattle.poker.specs.Laws.{OrderDoesNotCount, Stakes}
use Rattle.poker.specs.Stakes.{ante_stake}
use Rattle.poker.specs.Stud.{stud_opens, stud_rules}

-- what holds of every round of Stud at this cap
pub record StudLaws (cap : ℕ) : Type 0 where
  -- with four of a kind or better a seat gets back at most its ante twice, its raise and the cap
  pub capped :
      (seat : ℕ) (stakes : List ℕ) (c : Choice) (d : Deal) (k : FiveClass)
      → five_class (seat_hand 5 seat d) ≡ Ok k → five_below Four ≤ five_below k
      → (stud_rules cap).returns seat stakes c d ≤ 2 * ante_stake stakes + (stud_rules cap).raise stakes + cap
  -- where the bank does not open, a seat that raised gets its ante twice and its raise, whatever its hand is
  pub unopened :
      (seat : ℕ) (stakes : List ℕ) (d : Deal)
      → (stud_rules cap).deals d ≡ Ok tt → Stakes d seat → stud_opens (bank_hand 5 d) ≡ false
      → (stud_rules cap).returns seat stakes Raised d ≡ 2 * ante_stake stakes + (stud_rules cap).raise stakes
  -- the order in which the cards of a hand lie does not count
  pub any_order : OrderDoesNotCount 5 (stud_rules cap)
