-- A part of the chips of the seats so far, with the next seat's, fits eight bytes: no table holds more.
use Rattle.std.proofs.Common.{◌≡◌, ℕ, ◌+◌, ◌<◌, ◌≤◌, length, get_or, take, sum_by, arith}
use Rattle.std.proofs.lemmas.List.Sums.{sum_by_more_le_part}
use Rattle.game.specs.Rules.{Rules}
use Rattle.books.specs.declared.seat.Seat.{Seat}
use Rattle.books.specs.declared.table_books.Books.{Books}
use Rattle.books.specs.Books.{chips}
use Rattle.table.specs.Soundness.{Sound}

pub part_fits : (R : Rules) (b : Books) (f : Seat → ℕ) (i sum next : ℕ) (d : Seat) → Sound R b → ((s : Seat) → f s ≤ chips s) → i < 7 → sum ≡ sum_by f (take i b.seats) → next ≡ f (get_or b.seats i d) → sum + next < 18446744073709551616
part_fits R b f i sum next d sound part lt e n =
    let h : i < length b.seats = omega (arith, sound.seven) in
    omega (arith, e, n, sum_by_more_le_part f chips b.seats i d h part, sound.within, part (get_or b.seats i d))
