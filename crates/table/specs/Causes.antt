-- Why a call is refused: for each call its causes, as conditions on the table before it, in the order in which they go first.
use Rattle.std.specs.Prelude.{ℕ, ◌+◌, ◌-◌, Bool, true, false, cond, not, ◌&&◌, ◌||◌, List, [], ◌∷◌, Some, None, Ok, Err, is_some, unwrap_or, Option, Result, ◌==◌, nat_le, nat_lt, slice_index, slice_set}
use Rattle.refusals.specs.declared.Cause.{Cause}
use Rattle.refusals.specs.declared.Cause.TheVariants.{WrongStage, NoSuchSeat, NoBets, BadAmount, SpaceTaken, NoCompanion, RackTooSmall, TrayTooSmall, TotalTooLarge, NoStakes, NoRoundsLeft, NoCard, WrongCount, NoChoiceOpen, LeavingBarred, ChoiceMissing, NoPlaceFree}
use Rattle.refusals.specs.declared.Refusal.{Refusal}
use Rattle.refusals.specs.Refusals.{first_cause, number_of, refused}
use Rattle.commands.specs.Calls.{Call, Open, Buy, Cash, Fill, Draw, Bet, Deal, Raise, Leave, Settle, Void, seat_named}
use Rattle.game.specs.declared.taking.Barred.{Barred}
use Rattle.game.specs.declared.taking.Barred.TheVariants.{NoBets as Bars, NoCompanion as Lacks}
use Rattle.game.specs.declared.dealing.Misdeal.{Misdeal}
use Rattle.game.specs.declared.dealing.Misdeal.TheVariants.{NoCard as Strange, WrongCount as Miscounted}
use Rattle.game.specs.Rules.{Rules, deal, other_stakes}
use Rattle.books.specs.declared.seat.Seat.{Seat}
use Rattle.books.specs.declared.table_books.Books.{Books}
use Rattle.books.specs.Books.{seat_at}
use Rattle.table.specs.Holdings.{limit, most_rounds, total, ceilings, staking, stakers, due, missing, is_betting, bad_seat, bad_space}

abbrev pub does_bar : Result (Unit {0}) Barred → Bool
does_bar (Ok takes) = false
does_bar (Err Bars) = true
does_bar (Err Lacks) = false

abbrev pub does_lack : Result (Unit {0}) Barred → Bool
does_lack (Ok takes) = false
does_lack (Err Bars) = false
does_lack (Err Lacks) = true

abbrev pub is_strange : Result (Unit {0}) Misdeal → Bool
is_strange (Ok lawful) = false
is_strange (Err Strange) = true
is_strange (Err Miscounted) = false

abbrev pub is_miscounted : Result (Unit {0}) Misdeal → Bool
is_miscounted (Ok lawful) = false
is_miscounted (Err Strange) = false
is_miscounted (Err Miscounted) = true

-- a seat after a stake on a space, moved from its rack
abbrev pub with_bet : Seat → ℕ → ℕ → Seat
with_bet s j n = record { rack = s.rack - n; stakes = slice_set s.stakes (j - 1) n; raised = s.raised; choice = s.choice }

-- the causes of a call; the last number is of the free places in the ledger that is handed in
abbrev pub causes : Rules → Books → Call → ℕ → List (Bool × Cause)
causes R b (Open conditions tray) free = (true, WrongStage) ∷ []
causes R b (Buy s n) free = (bad_seat s, NoSuchSeat) ∷ ((n == 0), BadAmount) ∷ (nat_lt limit (total b + n), TotalTooLarge) ∷ []
causes R b (Cash s n) free = (bad_seat s, NoSuchSeat) ∷ ((n == 0), BadAmount) ∷ (nat_lt (seat_at b (s - 1)).rack n, RackTooSmall) ∷ []
causes R b (Fill n) free = ((n == 0), BadAmount) ∷ (nat_lt limit (total b + n), TotalTooLarge) ∷ []
causes R b (Draw n) free = ((n == 0), BadAmount) ∷ (nat_lt b.tray (ceilings R b.seats + n), TrayTooSmall) ∷ []
causes R b (Bet s j n) free =
    (not (is_betting b.stage), WrongStage)
    ∷ (bad_seat s, NoSuchSeat)
    ∷ (bad_space j || does_bar (R.takes (other_stakes (seat_at b (s - 1)).stakes j) j), NoBets)
    ∷ (n == 0 || (nat_lt n b.minimum || nat_lt b.maximum n), BadAmount)
    ∷ (not (slice_index (seat_at b (s - 1)).stakes (j - 1) == 0), SpaceTaken)
    ∷ (does_lack (R.takes (other_stakes (seat_at b (s - 1)).stakes j) j), NoCompanion)
    ∷ (nat_lt (seat_at b (s - 1)).rack n, RackTooSmall)
    ∷ (nat_lt b.tray (ceilings R (slice_set b.seats (s - 1) (with_bet (seat_at b (s - 1)) j n))), TrayTooSmall) ∷ []
causes R b (Deal cards) free =
    (not (is_betting b.stage), WrongStage)
    ∷ ((stakers b == 0), NoStakes)
    ∷ (nat_le most_rounds b.rounds, NoRoundsLeft)
    ∷ (is_strange (R.deals (deal (staking b) cards)), NoCard)
    ∷ (is_miscounted (R.deals (deal (staking b) cards)), WrongCount) ∷ []
causes R b (Raise s) free =
    (is_betting b.stage, WrongStage)
    ∷ (bad_seat s, NoSuchSeat)
    ∷ (due R (seat_at b (s - 1)) && nat_lt (seat_at b (s - 1)).rack (R.raise (seat_at b (s - 1)).stakes), RackTooSmall)
    ∷ (not (due R (seat_at b (s - 1))), NoChoiceOpen) ∷ []
causes R b (Leave s) free =
    (is_betting b.stage, WrongStage)
    ∷ (bad_seat s, NoSuchSeat)
    ∷ (not (due R (seat_at b (s - 1))), NoChoiceOpen)
    ∷ (not (R.leaves (seat_at b (s - 1)).stakes), LeavingBarred) ∷ []
causes R b Settle free =
    (is_betting b.stage, WrongStage)
    ∷ (is_some (missing R b), ChoiceMissing)
    ∷ (nat_lt free (stakers b), NoPlaceFree) ∷ []
causes R b Void free = (is_betting b.stage, WrongStage) ∷ []

-- the refusal for a cause: it names the seat that the call named, or the lowest seat whose choice is missing
abbrev pub refusal : Rules → Books → Call → Cause → Refusal
refusal R b c x = refused x (cond (number_of x == 16) (unwrap_or (missing R b) 0) (seat_named c))

abbrev pub judged : Option Cause → (Cause → Refusal) → Result (Unit {0}) Refusal
judged None f = Ok tt
judged (Some x) f = Err (f x)

-- what a call is answered: the refusal of the first cause that holds, and else that it is done
abbrev pub verdict : Rules → Books → Call → ℕ → Result (Unit {0}) Refusal
verdict R b c free = judged (first_cause (causes R b c free)) (refusal R b c)
