-- Where a record is not printed, the page is as the records before it left it.
use Rattle.lines.proofs.Joined.{in_part, on_any_err}
use Rattle.lines.proofs.printed.print_all.Goals as goal

pub returns-in_err-print-clause-part : goal.returns-in_err-print-clause-part
returns-in_err-print-clause-part g c =
    on_any_err c.from_residual.result
    (in_part g.R.Printed.line_of c.args.records.now c.loop-record.record-index c.args.page.now.items c.loop-record.page.items c.print.new.page.items c.loop-record-test.true c.loop-record.invariant c.in_err-print.ensures)
