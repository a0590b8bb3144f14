-- Racks and spaces are all chips of the seats.
use Rattle.std.proofs.Common.{ap, arith}
use Rattle.open_table.proofs.Summing.{parts_add_up}
use Rattle.open_table.proofs.open_table.OpenTable.closing.Goals as goal

pub returns-clause-total : goal.returns-clause-total
returns-clause-total c =
    omega (arith, parts_add_up c.args.self.now.table.books.seats, c.chips_in.ensures, c.chips_in-2.ensures, ap (λ b. b.tray) c.books.ensures)
