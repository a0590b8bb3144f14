-- A round settled seat by seat, as the code goes; public contracts say it of all seats at once.
use Rattle.std.specs.Prelude.{ℕ, zero, suc, cond, List, [], ◌∷◌}
use Rattle.game.specs.Rules as game
use Rattle.game.specs.Rules.{Rules, Allowed}
use Rattle.ledger.specs.declared.entries.Entry.{Entry}
use Rattle.books.specs.declared.seat.Seat.{Seat}
use Rattle.books.specs.declared.table_books.Books.{Books}
use Rattle.books.specs.Books.{seat_at, served}
use Rattle.table.specs.Effects.{return_to}
use Rattle.table.specs.Entries.{entry_of}
use Rattle.table.specs.Holdings.{does_stake}

-- one seat settled: the tray takes what it laid and pays what the game returns into its rack
abbrev pub settle_seat : Rules → game.Deal → Books → ℕ → Books
settle_seat R d b k = served b k (return_to R d k (seat_at b k))

-- the first so many seats settled
abbrev pub settle_to : Rules → game.Deal → ℕ → Books → Books
settle_to R d zero b = b
settle_to R d (suc n) b = settle_seat R d (settle_to R d n b) n

-- the entry of a seat, if it stakes
abbrev pub entry_at : Rules → ℕ → game.Deal → ℕ → Seat → List Entry
entry_at R round d k s = cond (does_stake s) (entry_of R round d k s ∷ []) []

-- a seat whose choice is one that the game allows
abbrev pub May : Rules → Seat → Type 0
May R s = Allowed R s.stakes s.choice
