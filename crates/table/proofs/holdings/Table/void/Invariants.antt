use Rattle.std.proofs.Common.{◌≡◌, ℕ, ◌<◌, ◌≤◌, get_or}
use Rattle.books.specs.Books.{nobody, seat_at}
use Rattle.table.specs.Effects.{voided_seat}
use Rattle.table.proofs.holdings.Table.void.Given as goal

abbrev pub invariant-loop-seat : goal.invariant-loop-seat
invariant-loop-seat g l = record {
  done : (k : ℕ) → k < l.seat-index → get_or l.seat-items k nobody ≡ voided_seat (seat_at l.self.books k);
  left : (k : ℕ) → l.seat-index ≤ k → get_or l.seat-items k nobody ≡ seat_at l.self.books k;
}
