use Rattle.std.proofs.Common.{◌≡◌, ◌*◌, ◌≤◌, take}
use Rattle.table.specs.Holdings.{ceilings}
use Rattle.table.proofs.holdings.Table.ceilings.Given as goal

abbrev pub invariant-loop-seat : goal.invariant-loop-seat
invariant-loop-seat g l = record { so_far : l.ceilings ≡ ceilings (g.G.Game.rules l.self.game) (take l.seat-index l.seats); small : l.ceilings ≤ l.seat-index * 10000000000 }
