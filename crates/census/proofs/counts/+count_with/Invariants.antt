use Rattle.std.proofs.Common.{◌≡◌, ◌-◌, ◌∷◌, drop}
use Rattle.std.specs.List.{flat_map}
use Rattle.census.specs.Counts.{Counts, card_at, hands_with, places, tallied}
use Rattle.census.proofs.counts.+count_with.Given as goal

abbrev pub decreases-count_with : goal.decreases-count_with
decreases-count_with g l = l.more

abbrev pub invariant-loop-place : goal.invariant-loop-place
invariant-loop-place g l = record {
  counted : Counts g.H.Class.Ord.cmp g.H.Hand.classed (tallied g.H.Class.HandClass.lower l.fn.tally) (tallied g.H.Class.HandClass.lower l.tally) (flat_map (λ p. hands_with (l.more - 1) p (card_at p ∷ drop l.more l.fn.hand)) (places l.place));
  kept : drop l.more l.hand ≡ drop l.more l.fn.hand;
}
