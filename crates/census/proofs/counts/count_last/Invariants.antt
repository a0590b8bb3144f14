use Rattle.std.proofs.Common.{◌≡◌, ◌∷◌, drop}
use Rattle.std.specs.List.{flat_map}
use Rattle.census.specs.Counts.{Counts, card_at, hands_with, places, tallied}
use Rattle.census.proofs.counts.count_last.Given as goal

abbrev pub invariant-loop-place : goal.invariant-loop-place
invariant-loop-place g l = record {
  counted : Counts g.H.Class.Ord.cmp g.H.Hand.classed (tallied g.H.Class.HandClass.lower l.fn.tally) (tallied g.H.Class.HandClass.lower l.tally) (flat_map (λ p. hands_with 0 p (card_at p ∷ drop 1 l.fn.hand)) (places l.place));
  kept : drop 1 l.hand ≡ drop 1 l.fn.hand;
}
