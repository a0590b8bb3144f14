-- The run goes on from command to command, and each moves the place.
use Rattle.std.proofs.Common.{refl, ◌∙◌}
use Rattle.run.proofs.Going.{going_starts, on_again, at_last}
use Rattle.run.proofs.running.go_on.Goals as goal

pub loop-ended-init : goal.loop-ended-init
loop-ended-init g c = record { game = refl; sheet = refl; going = going_starts _ _ c.requires _ _ _ _ c.args.table.now.sound }

pub returns-in-Some-clause-ran : goal.returns-in-Some-clause-ran
returns-in-Some-clause-ran g c =
    let i = c.loop-ended.invariant in
    at_last g.G.Game.rules c.args.table.now.game c.args.reader.now.sheet c.requires c.args.table.now.books c.args.reader.now.place.at c.args.rolls.now.ledger c.args.rolls.now.notes _ i.game _ i.sheet
    _ _ _ _ _ _ _ _ i.going c.in-Some.ended c.in-Some.ensures.stepped

pub loop-ended-preserved : goal.loop-ended-preserved
loop-ended-preserved g c =
    let i = c.loop-ended.invariant in
    record {
      game = c.in_default.ensures.game ∙ i.game;
      sheet = c.in_default.ensures.sheet ∙ i.sheet;
      going = on_again g.G.Game.rules c.args.table.now.game c.args.reader.now.sheet c.requires c.args.table.now.books c.args.reader.now.place.at c.args.rolls.now.ledger c.args.rolls.now.notes _ i.game _ i.sheet
          _ _ _ _ _ _ _ _ i.going c.in_default.ensures.stepped;
    }
