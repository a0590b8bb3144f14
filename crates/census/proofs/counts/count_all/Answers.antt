use Rattle.std.proofs.Common.{ℕ, ◌∙◌, List, length, subst}
use Rattle.std.proofs.Math.Seq.{drop-length}
use Rattle.census.specs.Counts.{Counts, hands_with, all_hands, tallied}
use Rattle.census.proofs.Counted.{all_counted}
use Rattle.census.proofs.counts.count_all.Goals as goal

pub returns : goal.returns
returns g c =
    let size : ℕ = length c.args.hand.now in
    let cmp = g.H.Class.Ord.cmp in
    let classed = g.H.Hand.classed in
    let tally : List ℕ → g.row.H-Class.Denot → ℕ = tallied g.H.Class.HandClass.lower in
    let all : Counts cmp classed (tally c.new-tally.result) (tally c.count_with.new.tally) (all_hands size) =
    subst (λ cards. Counts cmp classed (tally c.new-tally.result) (tally c.count_with.new.tally) (hands_with size 52 cards)) (drop-length c.args.hand.now) c.in_ok-count_with.ensures.counts in
    λ k. c.in_ok-census.ensures k ∙ all_counted cmp classed (tally c.new-tally.result) (tally c.count_with.new.tally) (all_hands size) c.new-tally.ensures all k
