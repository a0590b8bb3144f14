-- The books of a table, and what moving chips does to them.
use Rattle.std.specs.Prelude.{ℕ, ◌+◌, ◌-◌, List, [], ◌∷◌, Some, None, Option, sum, slice_index_or, slice_set}
use Rattle.game.specs.declared.choice.Choice.TheVariants.{Open}
use Rattle.books.specs.declared.seat.Seat.{Seat}
use Rattle.game.specs.Rules.{Deal}
use Rattle.books.specs.declared.stage.Stage.{Stage}
use Rattle.books.specs.declared.stage.Stage.TheVariants.{Betting, Dealt}
use Rattle.books.specs.declared.table_books.Books.{Books}

-- five spaces without a stake
abbrev pub empty : List ℕ
empty = 0 ∷ 0 ∷ 0 ∷ 0 ∷ 0 ∷ []

-- what stands for a seat that a table does not have
abbrev pub nobody : Seat
nobody = record { rack = 0; stakes = []; raised = 0; choice = Open }

-- the seat k, counted from 0
abbrev pub seat_at : Books → ℕ → Seat
seat_at b k = slice_index_or b.seats k nobody

-- the chips on a seat's spaces: its stakes and its raise
abbrev pub laid : Seat → ℕ
laid s = sum s.stakes + s.raised

-- a seat's chips: its rack and its spaces
abbrev pub chips : Seat → ℕ
chips s = s.rack + laid s

-- the deal on the table
abbrev pub deal_on : Stage → Option Deal
deal_on Betting = None
deal_on (Dealt d) = Some d

-- the books with another tray, another seat, another stage
abbrev pub with_tray : Books → ℕ → Books
with_tray b n = record { tray = n; seats = b.seats; stage = b.stage; rounds = b.rounds; minimum = b.minimum; maximum = b.maximum }

abbrev pub with_seat : Books → ℕ → Seat → Books
with_seat b k s = record { tray = b.tray; seats = slice_set b.seats k s; stage = b.stage; rounds = b.rounds; minimum = b.minimum; maximum = b.maximum }

abbrev pub with_stage : Books → Stage → Books
with_stage b g = record { tray = b.tray; seats = b.seats; stage = g; rounds = b.rounds; minimum = b.minimum; maximum = b.maximum }

-- a seat with another rack; one with no chips on its spaces; one with no choice made
abbrev pub with_rack : Seat → ℕ → Seat
with_rack s n = record { rack = n; stakes = s.stakes; raised = s.raised; choice = s.choice }

abbrev pub lifted : Seat → Seat
lifted s = record { rack = s.rack; stakes = empty; raised = 0; choice = s.choice }

abbrev pub unchosen : Seat → Seat
unchosen s = record { rack = s.rack; stakes = s.stakes; raised = s.raised; choice = Open }

-- a seat whose spaces are empty, with so much in its rack, and no choice made
abbrev pub cleared : ℕ → Seat
cleared n = record { rack = n; stakes = empty; raised = 0; choice = Open }

-- the books after the tray took what a seat laid and paid it so much, which ends its choice
abbrev pub served : Books → ℕ → ℕ → Books
served b k n = let s = seat_at b k in with_tray (with_seat b k (cleared (s.rack + n))) (b.tray + laid s - n)
