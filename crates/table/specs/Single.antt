-- Being sound has one proof at most, so that a table can carry it.
use Rattle.std.specs.Prelude.{◌≡◌, ℕ, List}
use Rattle.std.specs.Coded.{Coded-set, coded_ℕ, coded_bool, coded_result, Unit-prop, ×_prop, Π_prop, le_prop}
use base.Stored.{coded_unit}
use Rattle.game.specs.declared.choice.Choice.{Choice}
use Rattle.game.specs.declared.choice.Choice.TheVariants.{Open, Raised, Left}
use Rattle.game.specs.contracts.choice.Choice.{the_row as choices}
use Rattle.game.specs.contracts.dealing.Misdeal.{the_row as misdeals}
use Rattle.game.specs.Rules as game
use Rattle.game.specs.Rules.{Rules, Small, Fair}
use Rattle.books.specs.declared.seat.Seat.{Seat}
use Rattle.books.specs.declared.stage.Stage.{Stage}
use Rattle.books.specs.declared.stage.Stage.TheVariants.{Betting, Dealt}
use Rattle.books.specs.declared.table_books.Books.{Books}
use Rattle.table.specs.Soundness.{Chosen, SeatSound, StageSound, Sound}

number_one : (a b : ℕ) → IsProp (a ≡ b)
number_one = Coded-set coded_ℕ

small_one : (stakes : List ℕ) → IsProp (Small stakes)
small_one stakes p q = λ i. record { five = number_one _ _ p.five q.five i; each = λ k. le_prop (p.each k) (q.each k) i }

fair_one : (R : Rules) (d : game.Deal) → IsProp (Fair R d)
fair_one R d p q = λ i. record { seven = number_one _ _ p.seven q.seven i; lawful = Coded-set (coded_result coded_unit misdeals.coded) _ _ p.lawful q.lawful i }

chosen_one : (R : Rules) (s : Seat) (c : Choice) → IsProp (Chosen R s c)
chosen_one R s Open = Unit-prop
chosen_one R s Raised = Coded-set coded_bool _ _
chosen_one R s Left = ×_prop (Coded-set coded_bool _ _) (Coded-set coded_bool _ _)

seat_one : (R : Rules) (s : Seat) → IsProp (SeatSound R s)
seat_one R s p q = λ i. record {
  small = small_one s.stakes p.small q.small i;
  raise = number_one _ _ p.raise q.raise i;
  chosen = chosen_one R s s.choice p.chosen q.chosen i;
}

stage_one : (R : Rules) (b : Books) (g : Stage) → IsProp (StageSound R b g)
stage_one R b Betting = Π_prop (λ k. Π_prop (λ lt. Coded-set choices.coded _ _))
stage_one R b (Dealt r) = fair_one R r

pub sound_one : (R : Rules) (b : Books) → IsProp (Sound R b)
sound_one R b p q = λ i. record {
  seven = number_one _ _ p.seven q.seven i;
  seats = λ k lt. seat_one R _ (p.seats k lt) (q.seats k lt) i;
  within = le_prop p.within q.within i;
  covered = le_prop p.covered q.covered i;
  counted = le_prop p.counted q.counted i;
  least = le_prop p.least q.least i;
  bounds = le_prop p.bounds q.bounds i;
  most = le_prop p.most q.most i;
  stands = stage_one R b b.stage p.stands q.stands i;
}
