use Rattle.std.proofs.Common.{◌≡◌, ◌*◌, ◌^◌, ◌≤◌, take, sum}
use Rattle.books.proofs.seat.Seat.staked.Given as goal

abbrev pub invariant-loop-stake : goal.invariant-loop-stake
invariant-loop-stake l = record { so_far : l.staked ≡ sum (take l.stake-index l.self.stakes); small : l.staked ≤ l.stake-index * 2 ^ 32 }
