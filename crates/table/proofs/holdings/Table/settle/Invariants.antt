use Rattle.std.proofs.Common.{◌≡◌}
use Rattle.game.specs.Rules.{deal_of}
use Rattle.table.proofs.Settling.{Settling}
use Rattle.table.proofs.holdings.Table.settle.Given as goal

abbrev pub invariant-loop-k : goal.invariant-loop-k
invariant-loop-k g l =
    (l.self.game ≡ l.initial.self.game)
    × Settling (g.G.Game.rules l.initial.self.game) (deal_of l.deal) l.initial.self.books l.initial.ledger l.k l.self.books l.ledger
