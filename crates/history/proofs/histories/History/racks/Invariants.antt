use Rattle.std.proofs.Common.{◌≡◌, take, sum_by}
use Rattle.history.proofs.histories.History.racks.Given as goal

abbrev pub invariant-loop-seat : goal.invariant-loop-seat
invariant-loop-seat g l = l.racks ≡ sum_by (λ s. s.rack) (take l.seat-index l.self.table.books.seats)
