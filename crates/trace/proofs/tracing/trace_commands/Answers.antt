-- Each command is printed, and less is left.
use Rattle.std.proofs.Common.{◌≤◌, length, Ok, sym, ap, ◌∙◌, subst}
use Rattle.commands.specs.Calls.{call_of}
use Rattle.sheet.specs.Reading.{longest, calls, behind}
use Rattle.trace.proofs.Remaining.{left_steps, left_ends, left_faults}
use Rattle.trace.proofs.tracing.trace_commands.Goals as goal

pub loop-command-preserved : goal.loop-command-preserved
loop-command-preserved g c =
    let l = c.loop-command in
    let same = ap (λ s. s.now) c.read.ensures.sheet in
    record {
      short = subst (λ s. length s ≤ longest) (sym same) l.invariant.short;
      left = left_steps g.G.Game _ l.reader.sheet.now l.invariant.short l.history l.reader.place.at l.page.items _ l.invariant.left (call_of c.in-Ok-Some.command) c.step.new.history _ _ _ c.step.new.page.items
          (sym (ap (λ o. calls (Ok o)) c.in-Ok-Some.field-0-is) ∙ c.in-Ok-Some.ensures.answer) c.in_ok-step-in-Ok-Some.ensures.history c.in_ok-step-in-Ok-Some.ensures.printed c.step.ensures.places same
          (c.in-Ok-Some.ensures.place ∙ ap (λ o. behind (calls (Ok o)) l.reader.place.at) c.in-Ok-Some.field-0-is);
    }

pub returns-in-Ok-None : goal.returns-in-Ok-None
returns-in-Ok-None g c =
    let l = c.loop-command in
    left_ends g.G.Game _ l.reader.sheet.now l.invariant.short l.history l.reader.place.at l.page.items _ l.invariant.left (sym (ap (λ o. calls (Ok o)) c.in-Ok-None.field-0-is) ∙ c.in-Ok-None.ensures.answer)

pub returns-in-Err : goal.returns-in-Err
returns-in-Err g c =
    let l = c.loop-command in
    left_faults g.G.Game _ l.reader.sheet.now l.invariant.short l.history l.reader.place.at l.page.items _ l.invariant.left c.print.result c.in-Err.refusal c.print.new.page.items c.in-Err.ensures.answer c.print.ensures
