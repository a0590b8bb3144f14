-- What a table holds: its total, the ceilings it has to cover, who stakes, and which choices are due.
use Rattle.std.specs.Prelude.{ℕ, ◌+◌, Bool, true, false, cond, ◌&&◌, ◌||◌, List, [], ◌∷◌, map, Some, None, sum_by, sum, Option, ◌==◌, nat_lt}
use Rattle.game.specs.declared.choice.Choice.{Choice}
use Rattle.game.specs.declared.choice.Choice.TheVariants.{Open, Raised, Left}
use Rattle.game.specs.Rules.{Rules}
use Rattle.books.specs.declared.seat.Seat.{Seat}
use Rattle.books.specs.declared.stage.Stage.{Stage}
use Rattle.books.specs.declared.stage.Stage.TheVariants.{Betting, Dealt}
use Rattle.books.specs.declared.table_books.Books.{Books}
use Rattle.books.specs.Books.{chips, seat_at}

-- the most chips that a table holds
abbrev pub limit : ℕ
limit = 1000000000000

-- the most rounds that are dealt
abbrev pub most_rounds : ℕ
most_rounds = 1000000

-- tray, racks and spaces
abbrev pub total : Books → ℕ
total b = b.tray + sum_by chips b.seats

-- the ceilings of all seats, added
abbrev pub ceilings : Rules → List Seat → ℕ
ceilings R seats = sum_by (λ s. R.ceiling s.stakes) seats

-- the seven seats, counted from 0
abbrev pub every : List ℕ
every = 0 ∷ 1 ∷ 2 ∷ 3 ∷ 4 ∷ 5 ∷ 6 ∷ []

-- a seat stakes where it has a stake on any space
abbrev pub does_stake : Seat → Bool
does_stake s = nat_lt 0 (sum s.stakes)

-- who stakes, from the first seat on
abbrev pub staking : Books → List Bool
staking b = map (λ k. does_stake (seat_at b k)) every

abbrev pub one_if : Bool → ℕ
one_if b = cond b 1 0

-- how many seats stake
abbrev pub stakers : Books → ℕ
stakers b = sum (map (λ k. one_if (does_stake (seat_at b k))) every)

abbrev pub is_open : Choice → Bool
is_open Open = true
is_open Raised = false
is_open Left = false

-- a choice is due at a seat: the game tells one, and it is not made
abbrev pub due : Rules → Seat → Bool
due R s = is_open s.choice && R.chooses s.stakes

-- the number of the first of some seats that a test picks
abbrev pub first_seat : (ℕ → Bool) → List ℕ → Option ℕ
first_seat p [] = None
first_seat p (k ∷ ks) = cond (p k) (Some (k + 1)) (first_seat p ks)

-- the lowest seat whose choice is missing
abbrev pub missing : Rules → Books → Option ℕ
missing R b = first_seat (λ k. due R (seat_at b k)) every

abbrev pub is_betting : Stage → Bool
is_betting Betting = true
is_betting (Dealt r) = false

-- no seat of the table has this number
abbrev pub bad_seat : ℕ → Bool
bad_seat s = s == 0 || nat_lt 7 s

-- no space has this number
abbrev pub bad_space : ℕ → Bool
bad_space j = j == 0 || nat_lt 5 j
