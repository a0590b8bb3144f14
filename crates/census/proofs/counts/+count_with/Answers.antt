use Rattle.std.proofs.Common.{◌≡◌, ℕ, ◌-◌, ◌<◌, ◌≤◌, ◌∷◌, ◌∙◌, List, OnOk, length, drop, set, sym, ap, subst, arith}
use Rattle.std.specs.List.{flat_map}
use Rattle.census.specs.Counts.{Counts, card_at, hands_with, places, tallied}
use Rattle.census.proofs.Counted.{place_counted, some_more, chosen, kept_behind}
use Rattle.census.proofs.counts.+count_with.Goals as goal

pub returns-in_err-count_with-clause-kept : goal.returns-in_err-count_with-clause-kept
returns-in_err-count_with-clause-kept g t c =
    let some : 0 < c.args.more = omega (arith, c.if-more-eq0.false) in
    kept_behind c.count_with.new.hand c.loop-place.hand c.args.hand.now c.args.more c.card_at.result some c.count_with.ensures.kept c.loop-place.invariant.kept

pub loop-place-preserved : goal.loop-place-preserved
loop-place-preserved g t c =
    let some : 0 < c.args.more = omega (arith, c.if-more-eq0.false) in
    let room : c.args.more ≤ length c.loop-place.hand = omega arith in
    let base : List ℕ = drop c.args.more c.args.hand.now in
    let f : ℕ → List (List ℕ) = λ p. hands_with (c.args.more - 1) p (card_at p ∷ base) in
    let cmp = g.H.Class.Ord.cmp in
    let classed = g.H.Hand.classed in
    let tally : List ℕ → g.row.H-Class.Denot → ℕ = tallied g.H.Class.HandClass.lower in
    let cards : drop (c.args.more - 1) (set c.loop-place.hand (c.args.more - 1) c.card_at.result) ≡ card_at c.loop-place.place ∷ base =
    chosen c.loop-place.hand c.args.hand.now c.args.more c.card_at.result some room c.loop-place.invariant.kept ∙ ap (λ card. card ∷ base) c.card_at.ensures in
    let more : Counts cmp classed (tally c.loop-place.tally) (tally c.count_with.new.tally) (f c.loop-place.place) =
    subst (λ xs. Counts cmp classed (tally c.loop-place.tally) (tally c.count_with.new.tally) (hands_with (c.args.more - 1) c.loop-place.place xs)) cards c.in_ok-count_with.ensures.counts in
    record {
      counted = place_counted cmp classed (tally c.args.tally.now) (tally c.loop-place.tally) (tally c.count_with.new.tally) f c.loop-place.place c.loop-place.invariant.counted more;
      kept = kept_behind c.count_with.new.hand c.loop-place.hand c.args.hand.now c.args.more c.card_at.result some c.count_with.ensures.kept c.loop-place.invariant.kept;
    }

pub returns-clause-counts : goal.returns-clause-counts
returns-clause-counts g t c =
    let some : 0 < c.args.more = omega (arith, c.if-more-eq0.false) in
    let base : List ℕ = drop c.args.more c.args.hand.now in
    let f : ℕ → List (List ℕ) = λ p. hands_with (c.args.more - 1) p (card_at p ∷ base) in
    let done : c.loop-place.place ≡ c.args.bound = omega arith in
    subst (Counts g.H.Class.Ord.cmp g.H.Hand.classed (tallied g.H.Class.HandClass.lower c.args.tally.now) (tallied g.H.Class.HandClass.lower c.loop-place.tally))
    (ap (λ b. flat_map f (places b)) done ∙ sym (some_more c.args.more c.args.bound base some))
    c.loop-place.invariant.counted

pub returns-then-more-eq1-clause-counts : goal.returns-then-more-eq1-clause-counts
returns-then-more-eq1-clause-counts g t c =
    let tally : List ℕ → g.row.H-Class.Denot → ℕ = tallied g.H.Class.HandClass.lower in
    subst (λ m. OnOk c.count_last.result (Counts g.H.Class.Ord.cmp g.H.Hand.classed (tally c.args.tally.now) (tally c.count_last.new.tally) (hands_with m c.args.bound (drop m c.args.hand.now))))
    (sym c.if-more-eq1.true)
    c.count_last.ensures.counts
