-- Each line is that of what is read at the place.
use Rattle.std.proofs.Common.{ap, ◌∙◌}
use Rattle.commands.specs.Calls.{call_of}
use Rattle.listing.proofs.Listing.{no_more, note_printed, note_wanting, command_printed, command_wanting, on_ok, on_err, on_any_err}
use Rattle.listing.proofs.listed.list_commands.Goals as goal

pub returns-in-Ok-None-clause-listed : goal.returns-in-Ok-None-clause-listed
returns-in-Ok-None-clause-listed c =
    let l = c.loop-command in
    no_more c.args.sheet.now l.reader.sheet.now c.requires l.invariant.sheet l.reader.place.at l.page.items c.args.page.now.items l.invariant.so_far (rw c.in-Ok-None.field-0-is at c.in-Ok-None.ensures.answer)

pub returns-in-Err : goal.returns-in-Err
returns-in-Err c =
    let l = c.loop-command in
    let x = c.in-Err.refusal in
    record {
      listed = on_ok c.print_fault.result l.page.items c.print_fault.new.page.items _ c.print_fault.ensures
          (λ e. e ∙ note_printed c.args.sheet.now l.reader.sheet.now c.requires l.invariant.sheet l.reader.place.at l.page.items c.args.page.now.items l.invariant.so_far x c.in-Err.ensures.answer);
      in_part = on_err c.print_fault.result l.page.items c.print_fault.new.page.items _ c.print_fault.ensures
          (note_wanting c.args.sheet.now l.reader.sheet.now c.requires l.invariant.sheet l.reader.place.at l.page.items c.args.page.now.items l.invariant.so_far x c.in-Err.ensures.answer c.print_fault.new.page.items);
    }

pub returns-in_err-print-in-Ok-Some-clause-in_part : goal.returns-in_err-print-in-Ok-Some-clause-in_part
returns-in_err-print-in-Ok-Some-clause-in_part c =
    let l = c.loop-command in
    let read = rw c.in-Ok-Some.field-0-is at c.in-Ok-Some.ensures in
    on_any_err c.from_residual.result
    (command_wanting c.args.sheet.now l.reader.sheet.now c.requires l.invariant.sheet l.reader.place.at l.page.items c.args.page.now.items l.invariant.so_far (call_of c.in-Ok-Some.command) read.answer c.print.new.page.items c.in_err-print-in-Ok-Some.ensures)

pub loop-command-preserved : goal.loop-command-preserved
loop-command-preserved c =
    let l = c.loop-command in
    let read = rw c.in-Ok-Some.field-0-is at c.in-Ok-Some.ensures in
    record {
      sheet = ap (λ r. r.now) c.read.ensures.sheet ∙ l.invariant.sheet;
      so_far = command_printed c.args.sheet.now l.reader.sheet.now c.requires l.invariant.sheet l.reader.place.at l.page.items c.args.page.now.items l.invariant.so_far
          (call_of c.in-Ok-Some.command) c.name-name.result.now c.name-name.ensures read.answer c.read.new.self.place.at read.place c.print.new.page.items c.in_ok-print-in-Ok-Some.ensures;
    }
