use Rattle.census.proofs.Tallied.{no_hands}
use Rattle.census.proofs.tally.Tally.new.Goals as goal

pub invariant_of-result : goal.invariant_of-result
invariant_of-result g c = λ k unseen. no_hands 256 (g.K.HandClass.lower k)

pub returns : goal.returns
returns g c = λ k. no_hands 256 (g.K.HandClass.lower k)
