-- Runs are printed until one does not stop for want of room, and then the closing line.
use Rattle.std.proofs.Common.{◌∙◌}
use Rattle.lines.specs.Lines.{printed_closing}
use Rattle.open_table.specs.Sums.{closing_of}
use Rattle.open_table.specs.Tables.{books_at}
use Rattle.terminal.proofs.Parts.{on_any_err}
use Rattle.terminal.proofs.Going.{one_more, one_wanting, all_gone, all_led, last_wanting, where_printed, where_wanting, on_any_ok}
use Rattle.terminal.proofs.go_on.Goals as goal

pub loop-ended-smaller : goal.loop-ended-smaller
loop-ended-smaller c =
    let i = c.loop-ended.invariant in
    let p = c.in_ok-print_run.ensures in
    (one_more c.args.reader.now.sheet _ i.sheet c.requires.short _ _ _ _ _ _ _ _ c.in-NoRoom.is i.going _ _ i.ready c.run_further-ended.result _ _ _ _ c.run_further-ended.ensures.run _ _ _ p.printed p.ledger p.notes).nearer

pub loop-ended-preserved : goal.loop-ended-preserved
loop-ended-preserved c =
    let i = c.loop-ended.invariant in
    let p = c.in_ok-print_run.ensures in
    let o = one_more c.args.reader.now.sheet _ i.sheet c.requires.short _ _ _ _ _ _ _ _ c.in-NoRoom.is i.going _ _ i.ready c.run_further-ended.result _ _ _ _ c.run_further-ended.ensures.run _ _ _ p.printed p.ledger p.notes in
    record { sheet = c.run_further-ended.ensures.sheet ∙ i.sheet; ready = o.ready; going = o.going }

pub returns-in_err-print_run-clause-in_part : goal.returns-in_err-print_run-clause-in_part
returns-in_err-print_run-clause-in_part c =
    let i = c.loop-ended.invariant in
    on_any_err c.from_residual.result
    (one_wanting c.args.reader.now.sheet _ i.sheet c.requires.short _ _ _ _ _ _ _ _ c.in-NoRoom.is i.going _ _ i.ready c.run_further-ended.result _ _ _ _ c.run_further-ended.ensures.run _ c.in_err-print_run.ensures.in_part)

pub returns : goal.returns
returns c =
    let i = c.loop-ended.invariant in
    let sheet = c.args.reader.now.sheet.now in
    let line = printed_closing (closing_of (books_at c.loop-ended.table)) in
    let over = c.in_default.not-NoRoom in
    record {
      printed = where_printed c.print_closing.result c.loop-ended.page.items _ line c.print_closing.ensures (λ e. all_gone sheet _ _ _ _ _ _ _ _ _ i.going over e);
      led_on = on_any_ok c.print_closing.result (all_led sheet _ _ _ _ _ _ _ c.loop-ended.page.items c.loop-ended.page.items i.going over);
      in_part = where_wanting c.print_closing.result c.loop-ended.page.items _ line c.print_closing.ensures (λ e. last_wanting sheet _ _ _ _ _ _ _ _ _ i.going over e);
    }
