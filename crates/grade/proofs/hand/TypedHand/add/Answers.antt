use Rattle.std.proofs.Common.{◌≡◌, ◌<◌, ◌≤◌, Bool, true, false, not, ◌||◌, length, get_or, sym, refl, ap, ◌∙◌, arith}
use Rattle.grading.specs.Cards.{is_card}
use Rattle.grade.proofs.HandStates.{at_fault, one_more, or_true}
use Rattle.grade.proofs.hand.TypedHand.add.Goals as goal
use Rattle.grade.proofs.hand.TypedHand.add.Goals.{then-not-is_card-via-then-not-is_card, then-not-is_card-via-else-not-is_card+then-self-card}

pub returns-then-not-is_card : goal.returns-then-not-is_card
returns-then-not-is_card c =
    let within : c.args.card < 256 = omega arith in
    let seen : Bool = get_or c.args.self.now.seen c.args.card false in
    let test : (not (is_card c.args.card) || seen) ≡ true = elim c.then-not-is_card.branch [
      | then-not-is_card-via-then-not-is_card w ↦ ap (λ b. not b || seen) (sym c.is_card.ensures ∙ w.if-not-is_card.true)
      | then-not-is_card-via-else-not-is_card+then-self-card w ↦ ap (λ b. not (is_card c.args.card) || b) w.if-self-card.true ∙ or_true (not (is_card c.args.card))
    ] in
    λ cards k. at_fault c.args.self.now _ cards c.args.card refl within test k

pub returns : goal.returns
returns c =
    let within : c.args.card < 256 = omega arith in
    let room : 256 ≤ length c.args.self.now.seen = omega arith in
    let card : is_card c.args.card ≡ true = sym c.is_card.ensures ∙ c.if-not-is_card.false in
    λ cards k. one_more c.args.self.now _ cards c.args.card within room refl refl c.push.ensures (λ i. not (card i) || c.if-self-card.false i) k
