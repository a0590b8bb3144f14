-- The entries that a settlement writes: one for each seat that stakes, in the order of the seats.
use Rattle.std.specs.Prelude.{ℕ, ◌+◌, List, [], map, filter}
use Rattle.commands.specs.Calls.{Call, Open, Buy, Cash, Fill, Draw, Bet, Deal, Raise, Leave, Settle, Void}
use Rattle.game.specs.Rules as game
use Rattle.game.specs.Rules.{Rules}
use Rattle.ledger.specs.declared.entries.Entry.{Entry}
use Rattle.ledger.specs.Entries.{entered}
use Rattle.books.specs.declared.seat.Seat.{Seat}
use Rattle.books.specs.declared.stage.Stage.{Stage}
use Rattle.books.specs.declared.stage.Stage.TheVariants.{Betting, Dealt}
use Rattle.books.specs.declared.table_books.Books.{Books}
use Rattle.books.specs.Books.{seat_at, laid}
use Rattle.table.specs.Effects.{return_to}
use Rattle.table.specs.Holdings.{every, does_stake}

-- the entry of the seat k: the round, the seat's number, what it laid, and what the game returns to it
abbrev pub entry_of : Rules → ℕ → game.Deal → ℕ → Seat → Entry
entry_of R round d k s = entered round (k + 1) (laid s) (return_to R d k s)

-- the entries of some seats
abbrev pub entries_of : Rules → Books → game.Deal → List ℕ → List Entry
entries_of R b d ks = map (λ k. entry_of R b.rounds d k (seat_at b k)) (filter (λ k. does_stake (seat_at b k)) ks)

abbrev pub entries_in : Rules → Books → Stage → List Entry
entries_in R b Betting = []
entries_in R b (Dealt r) = entries_of R b r every

-- the entries that an accepted call writes
abbrev pub writes : Rules → Books → Call → List Entry
writes R b (Open conditions tray) = []
writes R b (Buy s n) = []
writes R b (Cash s n) = []
writes R b (Fill n) = []
writes R b (Draw n) = []
writes R b (Bet s j n) = []
writes R b (Deal cards) = []
writes R b (Raise s) = []
writes R b (Leave s) = []
writes R b Settle = entries_in R b b.stage
writes R b Void = []
