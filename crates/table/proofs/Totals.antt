-- A seat's ceiling within the sum over all seats, and what writing one seat does to the sums.
use Rattle.std.proofs.Common.{◌≡◌, ℕ, ◌+◌, ◌<◌, ◌≤◌, length, set, arith}
use Rattle.std.proofs.lemmas.List.Sums.{sum_by-set, get_or-le-sum_by}
use Rattle.game.specs.Rules.{Rules}
use Rattle.books.specs.declared.seat.Seat.{Seat}
use Rattle.books.specs.declared.table_books.Books.{Books}
use Rattle.books.specs.Books.{nobody, seat_at, chips, with_seat}
use Rattle.table.specs.Holdings.{total, ceilings}

pub total_set : (b : Books) (k : ℕ) (s : Seat) → length b.seats ≡ 7 → k < 7 → total (with_seat b k s) + chips (seat_at b k) ≡ total b + chips s
total_set b k s e lt = let h : k < length b.seats = omega arith in omega (arith, sum_by-set chips b.seats k s nobody h)

module _ (R : Rules) where
  abbrev pub ceil : Seat → ℕ
  ceil s = R.ceiling s.stakes

  pub ceilings_set : (b : Books) (k : ℕ) (s : Seat) → length b.seats ≡ 7 → k < 7 → ceilings R (set b.seats k s) + ceil (seat_at b k) ≡ ceilings R b.seats + ceil s
  ceilings_set b k s e lt = let h : k < length b.seats = omega arith in sum_by-set ceil b.seats k s nobody h

  pub ceil_within : (b : Books) (k : ℕ) → length b.seats ≡ 7 → k < 7 → ceil (seat_at b k) ≤ ceilings R b.seats
  ceil_within b k e lt = let h : k < length b.seats = omega arith in get_or-le-sum_by ceil b.seats k nobody h
