-- The rack pays, and the table stays sound.
use Rattle.std.proofs.Common.{Ok, rules}
use Rattle.commands.specs.Calls.{Cash}
use Rattle.table.proofs.Accepted.{did_sound}
use Rattle.table.proofs.holdings.Table.cash.Goals as goal

pub invariant_of-self : goal.invariant_of-self
invariant_of-self g c =
    let t = c.args.self.now in
    record { sound = did_sound _ (g.met.G.Game.facts t.game) t.books _ (Cash c.args.seat c.args.amount) 0 (Ok tt) t.sound (search rules) }
