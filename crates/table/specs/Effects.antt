-- What an accepted call does to the table.
use Rattle.std.specs.Prelude.{ℕ, ◌+◌, ◌-◌, map, sum}
use Rattle.commands.specs.Calls.{Call, Open, Buy, Cash, Fill, Draw, Bet, Deal, Raise, Leave, Settle, Void}
use Rattle.game.specs.declared.choice.Choice.TheVariants.{Raised, Left}
use Rattle.game.specs.Rules as game
use Rattle.game.specs.Rules.{Rules, deal}
use Rattle.books.specs.declared.seat.Seat.{Seat}
use Rattle.books.specs.declared.stage.Round.{Round}
use Rattle.books.specs.declared.stage.Stage.{Stage}
use Rattle.books.specs.declared.stage.Stage.TheVariants.{Betting, Dealt}
use Rattle.books.specs.declared.table_books.Books.{Books}
use Rattle.books.specs.Books.{seat_at, laid, cleared, with_tray, with_seat, with_rack}
use Rattle.table.specs.Causes.{with_bet}
use Rattle.table.specs.Holdings.{every, staking}

-- a seat that raised: the raise goes from its rack to the raise space
abbrev pub with_raise : Seat → ℕ → Seat
with_raise s n = record { rack = s.rack - n; stakes = s.stakes; raised = n; choice = Raised }

abbrev pub with_leave : Seat → Seat
with_leave s = record { rack = s.rack; stakes = s.stakes; raised = s.raised; choice = Left }

-- the books once a round is dealt, which is counted
abbrev pub with_round : Books → Round → Books
with_round b r = record { tray = b.tray; seats = b.seats; stage = Dealt r; rounds = b.rounds + 1; minimum = b.minimum; maximum = b.maximum }

-- what the game returns to the seat k
abbrev pub return_to : Rules → game.Deal → ℕ → Seat → ℕ
return_to R d k s = R.returns k s.stakes s.choice d

-- a table whose round is settled: the tray took what every seat laid and paid what the game returns to each into its rack; spaces and choices are empty
abbrev pub settled : Rules → Books → game.Deal → Books
settled R b d = record {
  tray = b.tray + sum (map (λ k. laid (seat_at b k)) every) - sum (map (λ k. return_to R d k (seat_at b k)) every);
  seats = map (λ k. cleared ((seat_at b k).rack + return_to R d k (seat_at b k))) every;
  stage = Betting;
  rounds = b.rounds;
  minimum = b.minimum;
  maximum = b.maximum;
}

abbrev pub settled_in : Rules → Books → Stage → Books
settled_in R b Betting = b
settled_in R b (Dealt r) = settled R b r

-- a voided seat: what it laid is back in its rack, and its choice is over
abbrev pub voided_seat : Seat → Seat
voided_seat s = cleared (s.rack + laid s)

-- a table whose round is voided: all that was laid is back in the racks; spaces and choices are empty
abbrev pub voided : Books → Books
voided b = record {
  tray = b.tray;
  seats = map (λ k. voided_seat (seat_at b k)) every;
  stage = Betting;
  rounds = b.rounds;
  minimum = b.minimum;
  maximum = b.maximum;
}

-- the table after an accepted call
abbrev pub after : Rules → Books → Call → Books
after R b (Open conditions tray) = b
after R b (Buy s n) = with_seat b (s - 1) (with_rack (seat_at b (s - 1)) ((seat_at b (s - 1)).rack + n))
after R b (Cash s n) = with_seat b (s - 1) (with_rack (seat_at b (s - 1)) ((seat_at b (s - 1)).rack - n))
after R b (Fill n) = with_tray b (b.tray + n)
after R b (Draw n) = with_tray b (b.tray - n)
after R b (Bet s j n) = with_seat b (s - 1) (with_bet (seat_at b (s - 1)) j n)
after R b (Deal cards) = with_round b (deal (staking b) cards)
after R b (Raise s) = with_seat b (s - 1) (with_raise (seat_at b (s - 1)) (R.raise (seat_at b (s - 1)).stakes))
after R b (Leave s) = with_seat b (s - 1) (with_leave (seat_at b (s - 1)))
after R b Settle = settled_in R b b.stage
after R b Void = voided b
