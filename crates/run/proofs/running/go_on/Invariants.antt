use Rattle.std.proofs.Common.{◌≡◌, ◌-◌, length}
use Rattle.run.proofs.Going.{Going}
use Rattle.run.proofs.running.go_on.Given as goal

abbrev pub invariant-loop-ended : goal.invariant-loop-ended
invariant-loop-ended g l = record {
  game : l.table.game ≡ l.initial.table.game;
  sheet : l.reader.sheet ≡ l.initial.reader.sheet;
  going : Going (g.G.Game.rules l.initial.table.game) l.initial.reader.sheet.now l.initial.table.books l.initial.reader.place.at l.initial.rolls.ledger l.initial.rolls.notes l.table.books l.reader.place.at l.rolls.ledger l.rolls.notes;
}

abbrev pub decreases-loop-ended : goal.decreases-loop-ended
decreases-loop-ended g l = length l.initial.reader.sheet.now - l.reader.place.at
