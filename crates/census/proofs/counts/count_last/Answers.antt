use Rattle.std.proofs.Common.{◌≡◌, ℕ, ◌≤◌, [], ◌∷◌, ◌∙◌, List, length, drop, set, ap, subst, arith}
use Rattle.std.proofs.lemmas.List.{drop-set-lt}
use Rattle.census.specs.Counts.{Counts, card_at, hands_with, tallied}
use Rattle.census.proofs.Counted.{place_counted, chosen}
use Rattle.census.proofs.counts.count_last.Goals as goal

pub loop-place-preserved : goal.loop-place-preserved
loop-place-preserved g c =
    let room : 1 ≤ length c.loop-place.hand = omega arith in
    let base : List ℕ = drop 1 c.args.hand.now in
    let f : ℕ → List (List ℕ) = λ p. hands_with 0 p (card_at p ∷ base) in
    let cmp = g.H.Class.Ord.cmp in
    let classed = g.H.Hand.classed in
    let tally : List ℕ → g.row.H-Class.Denot → ℕ = tallied g.H.Class.HandClass.lower in
    let cards : set c.loop-place.hand 0 c.card_at.result ≡ card_at c.loop-place.place ∷ base =
    chosen c.loop-place.hand c.args.hand.now 1 c.card_at.result (omega arith) room c.loop-place.invariant.kept ∙ ap (λ card. card ∷ base) c.card_at.ensures in
    let one : Counts cmp classed (tally c.loop-place.tally) (tally c.note.new.tally) (f c.loop-place.place) =
    subst (λ xs. Counts cmp classed (tally c.loop-place.tally) (tally c.note.new.tally) (xs ∷ [])) cards c.in_ok-note.ensures in
    record {
      counted = place_counted cmp classed (tally c.args.tally.now) (tally c.loop-place.tally) (tally c.note.new.tally) f c.loop-place.place c.loop-place.invariant.counted one;
      kept = drop-set-lt 1 c.loop-place.hand 0 c.card_at.result (omega arith) ∙ c.loop-place.invariant.kept;
    }
