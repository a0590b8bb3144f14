-- What every table keeps: opening establishes it, every call keeps it, and no other code can touch a table.
use Rattle.std.specs.Prelude.{◌≡◌, ℕ, ◌<◌, ◌≤◌, true, length}
use Rattle.game.specs.declared.choice.Choice.{Choice}
use Rattle.game.specs.declared.choice.Choice.TheVariants.{Open, Raised, Left}
use Rattle.game.specs.Rules.{Rules, Small, Fair, added}
use Rattle.books.specs.declared.seat.Seat.{Seat}
use Rattle.books.specs.declared.stage.Stage.{Stage}
use Rattle.books.specs.declared.stage.Stage.TheVariants.{Betting, Dealt}
use Rattle.books.specs.declared.table_books.Books.{Books}
use Rattle.books.specs.Books.{seat_at}
use Rattle.table.specs.Holdings.{limit, most_rounds, total, ceilings}

-- a choice that was made is one that the game allows
abbrev pub Chosen : Rules → Seat → Choice → Type 0
Chosen R s Open = Unit {0}
Chosen R s Raised = R.chooses s.stakes ≡ true
Chosen R s Left = (R.chooses s.stakes ≡ true) × (R.leaves s.stakes ≡ true)

-- what a seat keeps: stakes within bounds, the raise exactly where it raised, and an allowed choice
pub record SeatSound (R : Rules) (s : Seat) : Type 0 where
  pub small : Small s.stakes
  pub raise : s.raised ≡ added R s.stakes s.choice
  pub chosen : Chosen R s s.choice

-- while betting no choice is made; while dealt the deal is lawful
abbrev pub StageSound : Rules → Books → Stage → Type 0
StageSound R b Betting = (k : ℕ) → k < 7 → (seat_at b k).choice ≡ Open
StageSound R b (Dealt r) = Fair R r

pub record Sound (R : Rules) (b : Books) : Type 0 where
  pub seven : length b.seats ≡ 7
  pub seats : (k : ℕ) → k < 7 → SeatSound R (seat_at b k)
  pub within : total b ≤ limit
  pub covered : ceilings R b.seats ≤ b.tray
  pub counted : b.rounds ≤ most_rounds
  pub least : 1 ≤ b.minimum
  pub bounds : b.minimum ≤ b.maximum
  pub most : b.maximum ≤ 1000000
  pub stands : StageSound R b b.stage
