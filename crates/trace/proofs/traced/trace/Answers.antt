-- The page has grown by the trace, whatever the first command is.
use Rattle.std.proofs.Common.{◌≡◌, None, Ok, IfSome, refl, subst}
use Rattle.std.specs.Prelude.{IfNone}
use Rattle.sheet.specs.Reading.{read_at}
use Rattle.trace.specs.Begun.{BegunAt}
use Rattle.trace.proofs.Whole.{all_traced, none_traced, note_traced}
use Rattle.trace.proofs.traced.trace.Goals as goal

pub returns-in_ok-print_position-in-Ok-Some : goal.returns-in_ok-print_position-in-Ok-Some
returns-in_ok-print_position-in-Ok-Some c =
    let here = c.new-reader.ensures in
    let first = c.in-Ok-Some.ensures in
    all_traced c.trace_commands.result _ (λ x. refl) c.in-Ok-Some.history c.args.sheet _ _ here.sheet first.sheet _ _ _ here.place
    (subst (λ o. IfSome o (λ h. BegunAt c.new-reader.result.sheet.now c.new-reader.result.place.at h.table.game h.opening h.calls.items h.table.books c.first_command.new.reader.place.at)) c.in-Ok-Some.field-0-is first.opened)
    c.new-ledger.ensures.places
    _ c.position.ensures.position _ _ _ c.in_ok-print_position-in-Ok-Some.ensures c.trace_commands.ensures

pub returns-in-Ok-None : goal.returns-in-Ok-None
returns-in-Ok-None c =
    let here = c.new-reader.ensures in
    none_traced c.args.sheet _ here.sheet _ here.place c.args.page.now.items
    (subst (λ o. IfNone o (read_at c.new-reader.result.sheet.now c.new-reader.result.place.at ≡ Ok None)) c.in-Ok-None.field-0-is c.in-Ok-None.ensures.nothing)

pub returns-in-Err : goal.returns-in-Err
returns-in-Err c =
    let here = c.new-reader.ensures in
    let first = c.in-Err.ensures in
    note_traced c.print.result c.args.sheet _ here.sheet _ here.place c.in-Err.note first.place first.refused _ _ c.print.ensures
