-- The views have the sum of the seats, which no open table's holdings make too large.
use Rattle.std.proofs.Common.{◌≡◌, ◌∙◌, pos, arith}
use Rattle.std.proofs.lemmas.Grind.{common_steps}
use Rattle.ledger.specs.Sums.{summed}
use Rattle.open_table.specs.Sums.{in_part}
use Rattle.open_table.specs.Tables.{books_at}
use Rattle.open_table.proofs.Summing.{seats_exact, seats_few}
use Rattle.open_table.proofs.open_table.OpenTable.sum_of_seats.Goals as goal

pub returns-clause-exact : goal.returns-clause-exact
returns-clause-exact c =
    let s = c.args.self.now.table.sound in
    let told : c.sum.result ≡ summed (λ z. pos (in_part c.args.part z)) (books_at c.args.self.now).seats = grind (arith, common_steps) in
    told ∙ seats_exact c.args.part _ s.seven (seats_few _ _ s)
