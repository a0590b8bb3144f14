-- The first command opened the table, and its sheet was run.
use Rattle.std.proofs.Common.{Ok, subst}
use Rattle.open_table.specs.Firsts.{FirstCommand}
use Rattle.open_table.specs.Tables.{SheetRun}
use Rattle.open_table.proofs.Beginning.{begun_runs}
use Rattle.open_table.proofs.begun.begin.Goals as goal

pub returns-clause-begun : goal.returns-clause-begun
returns-clause-begun c =
    let first = subst (λ o. FirstCommand c.args.reader.now.sheet.now c.args.reader.now.place.at (Ok o) c.first_command.new.reader.place.at) c.in-Some.is c.in_ok-table.ensures.first in
    let ran = subst (λ r. SheetRun c.in-Some.table c.first_command.new.reader.sheet.now c.first_command.new.reader.place.at c.args.rolls.now.ledger c.args.rolls.now.notes r c.run.new.self c.run.new.reader.place.at c.run.new.rolls.ledger c.run.new.rolls.notes) c.unwrap-ended.ensures c.run.ensures.run in
    begun_runs c.args.reader.now.sheet.now c.args.reader.now.place.at _ _ first c.args.rolls.now.ledger c.args.rolls.now.notes c.unwrap-ended.result _ _ _ _
    (subst (λ s. SheetRun c.in-Some.table s.now c.first_command.new.reader.place.at c.args.rolls.now.ledger c.args.rolls.now.notes (Ok c.unwrap-ended.result) c.run.new.self c.run.new.reader.place.at c.run.new.rolls.ledger c.run.new.rolls.notes) c.in_ok-table.ensures.sheet ran)
