-- The count so far is that of the seats so far.
use Rattle.std.proofs.Common.{◌≡◌, ◌≤◌, take}
use Rattle.poker.specs.Dealing.{stakers}
use Rattle.poker.proofs.dealing.stakers.Given as goal

abbrev pub invariant-loop-stakes : goal.invariant-loop-stakes
invariant-loop-stakes l = (l.count ≤ l.stakes-index) × (l.count ≡ stakers (take l.stakes-index l.seats))
