use Rattle.std.proofs.Common.{◌≡◌, ◌-◌, ◌≤◌, ◌++◌, length}
use Rattle.ledger.specs.Rolls.{places}
use Rattle.sheet.specs.Reading.{longest}
use Rattle.trace.specs.Traces.{text_from}
use Rattle.trace.proofs.tracing.trace_commands.Given as goal

abbrev pub invariant-loop-command : goal.invariant-loop-command
invariant-loop-command g l = record {
  short : length l.reader.sheet.now ≤ longest;
  left : l.page.items ++ text_from g.G.Game l.history (places l.ledger) l.reader.sheet.now l.reader.place.at ≡ l.initial.page.items ++ text_from g.G.Game l.initial.history (places l.initial.ledger) l.initial.reader.sheet.now l.initial.reader.place.at;
}

abbrev pub decreases-loop-command : goal.decreases-loop-command
decreases-loop-command g l = length l.reader.sheet.now - l.reader.place.at
