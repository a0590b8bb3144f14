-- The three lines stand one behind another.
use Rattle.lines.specs.Lines.{with_feed}
use Rattle.trace.specs.Lines.{piles_line, seats_line, sums_line, seats_in}
use Rattle.trace.proofs.Appending.{last_line}
use Rattle.trace.proofs.steps.print_position.Goals as goal

pub returns : goal.returns
returns c =
    let p = c.args.position in
    last_line c.print-3.result c.args.page.now.items (with_feed (piles_line p)) (with_feed (seats_line (seats_in p))) (with_feed (sums_line p))
    c.print.new.page.items c.print-2.new.page.items c.print-3.new.page.items c.in_ok-print.ensures c.in_ok-print-2.ensures c.print-3.ensures
