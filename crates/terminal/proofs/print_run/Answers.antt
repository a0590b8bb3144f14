-- Entries and then notes: where either is printed in part, the lines of the run are.
use Rattle.std.proofs.Common.{◌≡◌, ◌++◌, subst}
use Rattle.std.specs.List.{concat}
use Rattle.ledger.specs.Rolls.{kept}
use Rattle.terminal.specs.SheetLines.{run_lines}
use Rattle.terminal.specs.Pages.{PrintedInPart}
use Rattle.terminal.proofs.Parts.{run_printed, entries_wanting, notes_wanting, on_any_err}
use Rattle.terminal.proofs.print_run.Goals as goal

pub returns-in_err-print_all-clause-in_part : goal.returns-in_err-print_all-clause-in_part
returns-in_err-print_all-clause-in_part c =
    let before = c.args.page.now.items in
    let notes = kept c.args.rolls.now.notes in
    on_any_err c.from_residual.result
    (subst (λ es. PrintedInPart (run_lines es notes) before c.print_all.new.page.items) c.records.ensures (entries_wanting c.records.result.now notes before c.print_all.new.page.items c.in_err-print_all.ensures.part))

pub returns-in_err-print_all-2-clause-in_part : goal.returns-in_err-print_all-2-clause-in_part
returns-in_err-print_all-2-clause-in_part c =
    let before = c.args.page.now.items in
    let after = c.print_all-2.new.page.items in
    on_any_err c.from_residual-in_err-print_all-2.result
    (subst (λ es. PrintedInPart (run_lines es (kept c.args.rolls.now.notes)) before after) c.records.ensures
    (subst (λ ns. PrintedInPart (run_lines c.records.result.now ns) before after) c.records-2.ensures
    (notes_wanting c.records.result.now c.records-2.result.now before c.print_all.new.page.items after c.in_ok-print_all.ensures.lines c.in_err-print_all-2.ensures.part)))

pub returns-clause-printed : goal.returns-clause-printed
returns-clause-printed c =
    let before = c.args.page.now.items in
    let after = c.print_all-2.new.page.items in
    subst (λ es. after ≡ before ++ concat (run_lines es (kept c.args.rolls.now.notes))) c.records.ensures
    (subst (λ ns. after ≡ before ++ concat (run_lines c.records.result.now ns)) c.records-2.ensures
    (run_printed c.records.result.now c.records-2.result.now before c.print_all.new.page.items after c.in_ok-print_all.ensures.lines c.in_ok-print_all-2.ensures.lines))
