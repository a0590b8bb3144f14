use Rattle.std.proofs.Common.{◌≡◌, ℕ, ◌+◌, Bool, eqb, take, count_by, ap, ◌∙◌, arith}
use Rattle.std.proofs.lemmas.List.{take_all}
use Rattle.std.proofs.lemmas.List.Sums.{count_by_more_yes, count_by_more_no}
use Rattle.std.proofs.lemmas.Bool.{eq-eqb, ne_eqb}
use Rattle.grading.proofs.cards.copies.Goals as goal
use Rattle.grading.proofs.cards.copies.Goals.{then-other-card, else-other-card}

pub loop-other-preserved : goal.loop-other-preserved
loop-other-preserved c =
    let p : ℕ → Bool = λ d. eqb d c.args.card in
    let xs = c.args.cards.now in
    let i = c.loop-other.other-index in
    let inside = c.loop-other-test.true in
    elim c.if-other-card.branch [
      | then-other-card w ↦
          let more : count_by p (take (i + 1) xs) ≡ count_by p (take i xs) + 1 = count_by_more_yes p xs i 0 inside (eq-eqb _ _ w.if-other-card.true) in
          (omega (arith, w.count-is), omega (arith, w.count-is, more))
      | else-other-card w ↦
          let same : count_by p (take (i + 1) xs) ≡ count_by p (take i xs) = count_by_more_no p xs i 0 inside (ne_eqb _ _ w.if-other-card.false) in
          (omega (arith, w.count-is), omega (arith, w.count-is, same))
    ]

pub returns : goal.returns
returns c =
    let p : ℕ → Bool = λ d. eqb d c.args.card in
    c.loop-other.invariant.1 ∙ ap (λ xs. count_by p xs) (take_all c.loop-other.other-index c.args.cards.now c.loop-other-test.false)
