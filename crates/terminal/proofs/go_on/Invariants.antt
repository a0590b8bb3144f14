use Rattle.std.proofs.Common.{◌≡◌, vec_items}
use Rattle.terminal.specs.Pages.{Ready}
use Rattle.terminal.proofs.Going.{Going, turns_left}
use Rattle.terminal.proofs.go_on.Given as goal

abbrev pub invariant-loop-ended : goal.invariant-loop-ended
invariant-loop-ended l = record {
  sheet : l.reader.sheet ≡ l.initial.reader.sheet;
  ready : Ready l.rolls.ledger l.rolls.notes;
  going : Going l.initial.reader.sheet.now l.initial.table l.initial.reader.place.at l.initial.ended (vec_items l.initial.page) l.table l.reader.place.at l.ended (vec_items l.page);
}

abbrev pub decreases-loop-ended : goal.decreases-loop-ended
decreases-loop-ended l = turns_left l.initial.reader.sheet.now l.reader.place.at l.ended
