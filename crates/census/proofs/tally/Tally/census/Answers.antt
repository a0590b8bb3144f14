use Rattle.std.proofs.Common.{◌≡◌, ◌∷◌, arith}
use Rattle.std.proofs.lemmas.Grind.{common_steps}
use Rattle.std.proofs.lemmas.Bool.Decides.{nat_tests}
use Rattle.std.proofs.lemmas.Map.Iter.{rest_more}
use Rattle.std.specs.Map.Iter.{deref}
use Rattle.census.proofs.tally.Tally.census.Goals as goal

pub loop-class-preserved : goal.loop-class-preserved
loop-class-preserved g c =
    let left : c.loop-class.class-iterator ≡ c.in-Some.class.now ∷ c.next.new.self = rest_more deref c.loop-class.class-iterator c.next.new.self c.next.result c.in-Some.class c.in-Some.is c.next.ensures.steps in
    λ k. grind (arith, common_steps, nat_tests, left, c.loop-class.invariant k, g.met.K.HandClass.upward k c.in-Some.class.now, g.met.K.HandClass.upward c.in-Some.class.now k)
