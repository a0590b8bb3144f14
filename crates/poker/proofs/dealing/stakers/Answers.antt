-- Each staking seat adds one.
use Rattle.std.proofs.Common.{◌≡◌, ◌+◌, Bool, false, take, count_by, ap, ◌∙◌, arith}
use Rattle.std.proofs.lemmas.List.{take_all}
use Rattle.std.proofs.lemmas.List.Sums.{count_by_more_yes, count_by_more_no}
use Rattle.poker.specs.Dealing.{stakers}
use Rattle.poker.proofs.dealing.stakers.Goals as goal
use Rattle.poker.proofs.dealing.stakers.Goals.{then-stakes, else-stakes}

pub loop-stakes-preserved : goal.loop-stakes-preserved
loop-stakes-preserved c =
    let p : Bool → Bool = λ b. b in
    let xs = c.args.seats.now in
    let i = c.loop-stakes.stakes-index in
    let inside = c.loop-stakes-test.true in
    elim c.if-stakes.branch [
      | then-stakes w ↦
          let more : count_by p (take (i + 1) xs) ≡ count_by p (take i xs) + 1 = count_by_more_yes p xs i false inside w.if-stakes.true in
          (omega (arith, w.count-is), omega (arith, w.count-is, more))
      | else-stakes w ↦
          let same : count_by p (take (i + 1) xs) ≡ count_by p (take i xs) = count_by_more_no p xs i false inside w.if-stakes.false in
          (omega (arith, w.count-is), omega (arith, w.count-is, same))
    ]

pub returns : goal.returns
returns c =
    record {
      count = c.loop-stakes.invariant.1 ∙ ap stakers (take_all c.loop-stakes.stakes-index c.args.seats.now c.loop-stakes-test.false);
      bound = omega (arith, c.loop-stakes.auto);
    }
