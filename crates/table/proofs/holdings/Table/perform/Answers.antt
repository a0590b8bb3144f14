-- Each arm hands on what its call did, or that the call does not belong to the stage.
use Rattle.std.proofs.Common.{refl, ap}
use Rattle.commands.specs.Calls.{call_of}
use Rattle.ledger.proofs.Writing.{written_none}
use Rattle.table.proofs.Performed.{performed, performed_aside, open_again, late_bet, late_deal, early_raise, early_leave, early_settle, early_void}
use Rattle.table.proofs.holdings.Table.perform.Goals as goal

pub returns-in_default-Buy-clause-performed : goal.returns-in_default-Buy-clause-performed
returns-in_default-Buy-clause-performed g c =
    let t = c.args.self.now in
    performed_aside (g.met.G.Game.facts t.game) t.sound c.args.ledger.now (ap call_of c.in_default-Buy.is-1) refl refl c.buy.ensures.did

pub returns-in_default-Cash-clause-performed : goal.returns-in_default-Cash-clause-performed
returns-in_default-Cash-clause-performed g c =
    let t = c.args.self.now in
    performed_aside (g.met.G.Game.facts t.game) t.sound c.args.ledger.now (ap call_of c.in_default-Cash.is-1) refl refl c.cash.ensures.did

pub returns-in_default-Fill-clause-performed : goal.returns-in_default-Fill-clause-performed
returns-in_default-Fill-clause-performed g c =
    let t = c.args.self.now in
    performed_aside (g.met.G.Game.facts t.game) t.sound c.args.ledger.now (ap call_of c.in_default-Fill.is-1) refl refl c.fill.ensures.did

pub returns-in_default-Draw-clause-performed : goal.returns-in_default-Draw-clause-performed
returns-in_default-Draw-clause-performed g c =
    let t = c.args.self.now in
    performed_aside (g.met.G.Game.facts t.game) t.sound c.args.ledger.now (ap call_of c.in_default-Draw.is-1) refl refl c.draw.ensures.did

pub returns-in-Betting-Bet-clause-performed : goal.returns-in-Betting-Bet-clause-performed
returns-in-Betting-Bet-clause-performed g c =
    let t = c.args.self.now in
    performed_aside (g.met.G.Game.facts t.game) t.sound c.args.ledger.now (ap call_of c.in-Betting-Bet.is-1) refl refl c.bet.ensures.did

pub returns-in-Betting-Deal-clause-performed : goal.returns-in-Betting-Deal-clause-performed
returns-in-Betting-Deal-clause-performed g c =
    let t = c.args.self.now in
    performed_aside (g.met.G.Game.facts t.game) t.sound c.args.ledger.now (ap call_of c.in-Betting-Deal.is-1) refl refl c.deal.ensures.did

pub returns-in-Dealt-Raise-clause-performed : goal.returns-in-Dealt-Raise-clause-performed
returns-in-Dealt-Raise-clause-performed g c =
    let t = c.args.self.now in
    performed_aside (g.met.G.Game.facts t.game) t.sound c.args.ledger.now (ap call_of c.in-Dealt-Raise.is-1) refl refl c.raise.ensures.did

pub returns-in-Dealt-Leave-clause-performed : goal.returns-in-Dealt-Leave-clause-performed
returns-in-Dealt-Leave-clause-performed g c =
    let t = c.args.self.now in
    performed_aside (g.met.G.Game.facts t.game) t.sound c.args.ledger.now (ap call_of c.in-Dealt-Leave.is-1) refl refl c.leave.ensures.did

pub returns-in-Dealt-Void-clause-performed : goal.returns-in-Dealt-Void-clause-performed
returns-in-Dealt-Void-clause-performed g c =
    let t = c.args.self.now in
    performed_aside (g.met.G.Game.facts t.game) t.sound c.args.ledger.now (ap call_of c.in-Dealt-Void.is-1) refl refl c.void.ensures.did

pub returns-in-Dealt-Settle-clause-performed : goal.returns-in-Dealt-Settle-clause-performed
returns-in-Dealt-Settle-clause-performed g c =
    let t = c.args.self.now in
    performed (g.met.G.Game.facts t.game) t.sound c.args.ledger.now (ap call_of c.in-Dealt-Settle.is-1) c.settle.new.ledger c.settle.ensures.did c.settle.ensures.ledger

pub returns-in_default-Open-clause-performed : goal.returns-in_default-Open-clause-performed
returns-in_default-Open-clause-performed g c =
    let t = c.args.self.now in
    performed_aside (g.met.G.Game.facts t.game) t.sound c.args.ledger.now (ap call_of c.in_default-Open.is-1) refl refl (open_again c.new.ensures)

pub returns-in-Dealt-Bet-clause-performed : goal.returns-in-Dealt-Bet-clause-performed
returns-in-Dealt-Bet-clause-performed g c =
    let t = c.args.self.now in
    performed_aside (g.met.G.Game.facts t.game) t.sound c.args.ledger.now (ap call_of c.in-Dealt-Bet.is-1) refl refl (late_bet c.in-Dealt-Bet.is-0 c.new-in-Dealt-Bet.ensures)

pub returns-in-Dealt-Deal-clause-performed : goal.returns-in-Dealt-Deal-clause-performed
returns-in-Dealt-Deal-clause-performed g c =
    let t = c.args.self.now in
    performed_aside (g.met.G.Game.facts t.game) t.sound c.args.ledger.now (ap call_of c.in-Dealt-Deal.is-1) refl refl (late_deal c.in-Dealt-Deal.is-0 c.new-in-Dealt-Deal.ensures)

pub returns-in-Betting-Raise-clause-performed : goal.returns-in-Betting-Raise-clause-performed
returns-in-Betting-Raise-clause-performed g c =
    let t = c.args.self.now in
    performed_aside (g.met.G.Game.facts t.game) t.sound c.args.ledger.now (ap call_of c.in-Betting-Raise.is-1) refl refl (early_raise c.in-Betting-Raise.is-0 c.new-in-Betting-Raise.ensures)

pub returns-in-Betting-Leave-clause-performed : goal.returns-in-Betting-Leave-clause-performed
returns-in-Betting-Leave-clause-performed g c =
    let t = c.args.self.now in
    performed_aside (g.met.G.Game.facts t.game) t.sound c.args.ledger.now (ap call_of c.in-Betting-Leave.is-1) refl refl (early_leave c.in-Betting-Leave.is-0 c.new-in-Betting-Leave.ensures)

pub returns-in-Betting-Void-clause-performed : goal.returns-in-Betting-Void-clause-performed
returns-in-Betting-Void-clause-performed g c =
    let t = c.args.self.now in
    performed_aside (g.met.G.Game.facts t.game) t.sound c.args.ledger.now (ap call_of c.in-Betting-Void.is-1) refl refl (early_void c.in-Betting-Void.is-0 c.new-in-Betting-Void.ensures)

pub returns-in-Betting-Settle-clause-performed : goal.returns-in-Betting-Settle-clause-performed
returns-in-Betting-Settle-clause-performed g c =
    let t = c.args.self.now in
    performed (g.met.G.Game.facts t.game) t.sound c.args.ledger.now (ap call_of c.in-Betting-Settle.is-1) c.args.ledger.now (early_settle c.in-Betting-Settle.is-0 c.new-in-Betting-Settle.ensures) (written_none c.args.ledger.now)
