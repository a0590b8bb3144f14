-- The page grows by what is printed of the sheet, or by the first few of its lines.
use Rattle.std.proofs.Common.{◌≡◌, [], ◌++◌, ap, ◌∙◌, subst, Ok, Err, Result, OnOk, OnErr}
use Rattle.std.specs.List.{concat}
use Rattle.lines.specs.Lines.{printed_note}
use Rattle.open_table.specs.Tables.{rules_at, books_at}
use Rattle.terminal.specs.Pages.{Ready, runs_after, lines_after, LedOn, PrintedInPart}
use Rattle.terminal.proofs.Going.{where_printed, where_wanting}
use Rattle.terminal.proofs.Parts.{on_any_err}
use Rattle.terminal.proofs.Sheets.{one_text, all_printed, later_wanting, first_wanting, none_printed, note_printed, note_wanting, begun_whole}
use Rattle.terminal.proofs.settle.Goals as goal

-- two facts that hold where an answer is right
both_ok : {T E P Q S : Type 0} (r : Result T E) → (P → Q → S) → OnOk r P → OnOk r Q → OnOk r S
both_ok (Ok x) f p q = f p q
both_ok (Err e) f p q = tt

one_err : {T E P Q : Type 0} (r : Result T E) → (P → Q) → OnErr r P → OnErr r Q
one_err (Ok x) f p = tt
one_err (Err e) f p = f p

pub returns-in_err-print_run-in-Ok-Some-clause-one_text : goal.returns-in_err-print_run-in-Ok-Some-clause-one_text
returns-in_err-print_run-in-Ok-Some-clause-one_text c = one_text c.args.sheet.now

pub returns-in_ok-print_run-in-Ok-Some-clause-one_text : goal.returns-in_ok-print_run-in-Ok-Some-clause-one_text
returns-in_ok-print_run-in-Ok-Some-clause-one_text c = one_text c.args.sheet.now

pub returns-in-Ok-None-clause-one_text : goal.returns-in-Ok-None-clause-one_text
returns-in-Ok-None-clause-one_text c = one_text c.args.sheet.now

pub returns-in-Err-clause-one_text : goal.returns-in-Err-clause-one_text
returns-in-Err-clause-one_text c = one_text c.args.sheet.now

pub returns-in_err-print_run-in-Ok-Some-clause-in_part : goal.returns-in_err-print_run-in-Ok-Some-clause-in_part
returns-in_err-print_run-in-Ok-Some-clause-in_part c =
    let here = c.new-reader.ensures in
    let b = c.in-Ok-Some.begun in
    let begun = begun_whole c.args.sheet _ _ here.sheet here.place c.new.result c.new-2.result _ _ _ _ _ (c.in-Ok-Some.is ∙ ap Ok c.in-Ok-Some.field-0-is) c.begin.ensures.begun in
    let ready : Ready c.new.result c.new-2.result = record { no_entries = c.new.ensures.kept; no_notes = c.new-2.ensures.kept; entries = c.new.ensures.places; notes = c.new-2.ensures.places } in
    on_any_err _ (first_wanting c.args.sheet.now _ _ b.table b.ended _ _ _ ready begun c.args.page.now.items c.print_run.new.page.items [] c.in_err-print_run-in-Ok-Some.ensures.in_part)

pub returns-in_ok-print_run-in-Ok-Some-clause-printed : goal.returns-in_ok-print_run-in-Ok-Some-clause-printed
returns-in_ok-print_run-in-Ok-Some-clause-printed c =
    let here = c.new-reader.ensures in
    let b = c.in-Ok-Some.begun in
    let place = c.begin.new.reader.place.at in
    let page = c.print_run.new.page.items in
    let after = c.go_on.new.page.items in
    let begun = begun_whole c.args.sheet _ _ here.sheet here.place c.new.result c.new-2.result _ _ _ _ _ (c.in-Ok-Some.is ∙ ap Ok c.in-Ok-Some.field-0-is) c.begin.ensures.begun in
    let ready : Ready c.new.result c.new-2.result = record { no_entries = c.new.ensures.kept; no_notes = c.new-2.ensures.kept; entries = c.new.ensures.places; notes = c.new-2.ensures.places } in
    let still = c.in-Ok-Some.ensures.sheet ∙ here.sheet in
    both_ok c.go_on.result
    (λ printed led.
    all_printed c.args.sheet.now _ _ b.table b.ended _ _ _ ready begun c.args.page.now.items page after c.in_ok-print_run-in-Ok-Some.ensures.printed
    (subst (λ s. after ≡ page ++ concat (lines_after (rules_at b.table) s.now b.ended (books_at b.table) place)) still printed)
    (subst (λ s. LedOn (rules_at b.table) s.now (books_at b.table) place b.ended (runs_after (rules_at b.table) s.now b.ended (books_at b.table) place)) still led))
    c.go_on.ensures.printed c.go_on.ensures.led_on

pub returns-in_ok-print_run-in-Ok-Some-clause-in_part : goal.returns-in_ok-print_run-in-Ok-Some-clause-in_part
returns-in_ok-print_run-in-Ok-Some-clause-in_part c =
    let here = c.new-reader.ensures in
    let b = c.in-Ok-Some.begun in
    let place = c.begin.new.reader.place.at in
    let page = c.print_run.new.page.items in
    let after = c.go_on.new.page.items in
    let begun = begun_whole c.args.sheet _ _ here.sheet here.place c.new.result c.new-2.result _ _ _ _ _ (c.in-Ok-Some.is ∙ ap Ok c.in-Ok-Some.field-0-is) c.begin.ensures.begun in
    let ready : Ready c.new.result c.new-2.result = record { no_entries = c.new.ensures.kept; no_notes = c.new-2.ensures.kept; entries = c.new.ensures.places; notes = c.new-2.ensures.places } in
    let still = c.in-Ok-Some.ensures.sheet ∙ here.sheet in
    one_err c.go_on.result
    (λ part.
    later_wanting c.args.sheet.now _ _ b.table b.ended _ _ _ ready begun c.args.page.now.items page after c.in_ok-print_run-in-Ok-Some.ensures.printed
    (subst (λ s. PrintedInPart (lines_after (rules_at b.table) s.now b.ended (books_at b.table) place) page after) still part))
    c.go_on.ensures.in_part

pub returns-in-Ok-None-clause-printed : goal.returns-in-Ok-None-clause-printed
returns-in-Ok-None-clause-printed c =
    let here = c.new-reader.ensures in
    let begun = begun_whole c.args.sheet _ _ here.sheet here.place c.new.result c.new-2.result _ _ _ _ _ (c.in-Ok-None.is ∙ ap Ok c.in-Ok-None.field-0-is) c.begin.ensures.begun in
    none_printed c.args.sheet.now c.args.page.now.items begun.0

pub returns-in-Err-clause-printed : goal.returns-in-Err-clause-printed
returns-in-Err-clause-printed c =
    let here = c.new-reader.ensures in
    let begun = begun_whole c.args.sheet _ _ here.sheet here.place c.new.result c.new-2.result _ _ _ _ _ c.in-Err.is c.begin.ensures.begun in
    where_printed c.print.result c.args.page.now.items _ (printed_note c.in-Err.note) c.print.ensures (note_printed c.args.sheet.now _ _ c.in-Err.note begun.0 begun.1)

pub returns-in-Err-clause-in_part : goal.returns-in-Err-clause-in_part
returns-in-Err-clause-in_part c =
    let here = c.new-reader.ensures in
    let begun = begun_whole c.args.sheet _ _ here.sheet here.place c.new.result c.new-2.result _ _ _ _ _ c.in-Err.is c.begin.ensures.begun in
    where_wanting c.print.result c.args.page.now.items _ (printed_note c.in-Err.note) c.print.ensures (note_wanting c.args.sheet.now _ _ c.in-Err.note begun.0 begun.1)
