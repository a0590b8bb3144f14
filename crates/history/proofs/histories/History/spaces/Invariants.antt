use Rattle.std.proofs.Common.{◌≡◌, take, sum_by}
use Rattle.books.specs.Books.{laid}
use Rattle.history.proofs.histories.History.spaces.Given as goal

abbrev pub invariant-loop-seat : goal.invariant-loop-seat
invariant-loop-seat g l = l.spaces ≡ sum_by laid (take l.seat-index l.self.table.books.seats)
