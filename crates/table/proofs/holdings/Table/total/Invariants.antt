use Rattle.std.proofs.Common.{◌≡◌, ◌+◌, take, sum_by}
use Rattle.books.specs.Books.{chips}
use Rattle.table.proofs.holdings.Table.total.Given as goal

abbrev pub invariant-loop-seat : goal.invariant-loop-seat
invariant-loop-seat g l = l.total ≡ l.self.books.tray + sum_by chips (take l.seat-index l.self.books.seats)
