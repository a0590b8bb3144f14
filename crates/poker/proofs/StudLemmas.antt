-- The laws of Stud, and how a round ends against a bank that does not open.
use Rattle.std.specs.List.Sorted.{IsPermutation}
use Rattle.std.proofs.lemmas.List.Sorted.{list_any-IsPermutation}
use Rattle.std.proofs.Common.{◌≡◌, ℕ, ◌+◌, ◌*◌, ◌≤◌, false, ◌&&◌, ◌||◌, List, [], ◌∷◌, Ok, Err, Result, sum, sym, refl, ap, ◌∙◌, arith}
use Rattle.refusals.specs.declared.Refusal.{Refusal}
use Rattle.grading.specs.FiveClasses.{five_below}
use Rattle.grading.specs.Grading.{five_class, five_compared}
use Rattle.grading.specs.declared.five_classes.FiveClass.{FiveClass}
use Rattle.grading.specs.declared.five_classes.FiveClass.TheVariants.{RoyalFlush, StraightFlush, Four, FullHouse, Flush, Straight, Three, TwoPairs, Pair, OddCards}
use Rattle.grading.proofs.Laws.{five_class_any_order, five_compared_given, five_compared_any_orders}
use Rattle.game.specs.Rules.{Deal}
use Rattle.game.specs.declared.choice.Choice.{Choice}
use Rattle.game.specs.declared.choice.Choice.TheVariants.{Open, Raised, Left}
use Rattle.poker.specs.declared.outcome.Outcome.{Outcome}
use Rattle.poker.specs.declared.outcome.Outcome.TheVariants.{Unopened}
use Rattle.poker.specs.Bounds.{ante_return_le, raise_return_le}
use Rattle.poker.specs.Dealing.{seat_hand, bank_hand, dealing}
use Rattle.poker.specs.Laws.{OrderDoesNotCount, Stakes}
use Rattle.poker.specs.Ranks.{between, one_between}
use Rattle.poker.specs.Payment.{if_raised}
use Rattle.poker.specs.Outcome.{outcome, ante_return, raise_return}
use Rattle.poker.specs.Stakes.{ante_stake}
use Rattle.poker.specs.Stud.{opens_at, pair_or_better, raise_of, stud_opens, stud_outcome, raise_pays, stud_rules}
use Rattle.poker.specs.StudLaws.{StudLaws}
use Rattle.poker.proofs.DealtOut.{seat_of_lawful, bank_of_lawful}

-- against a bank that does not open, hands of a lawful deal end the round so
unopened_outcome : (seat : ℕ) (d : Deal) → dealing 5 d ≡ Ok tt → Stakes d seat → stud_opens (bank_hand 5 d) ≡ false → stud_outcome (seat_hand 5 seat d) (bank_hand 5 d) ≡ Unopened
unopened_outcome seat d lawful stakes closed =
    ap (λ o. outcome (five_compared (seat_hand 5 seat d) (bank_hand 5 d)) o) closed
    ∙ ap (λ r. outcome r false) (five_compared_given (seat_hand 5 seat d) (bank_hand 5 d) (seat_of_lawful 5 d lawful seat stakes) (bank_of_lawful 5 d lawful))

-- whether the bank opens does not depend on the order of its cards
opens_any_order : (bank other : List ℕ) → IsPermutation bank other → stud_opens bank ≡ stud_opens other
opens_any_order bank other shuffled =
    ap (λ r. opens_at r bank) (sym (five_class_any_order bank other shuffled)) ∙ ace_and_king (five_class other)
  where
    ace_and_king : (r : Result FiveClass Refusal) → opens_at r bank ≡ opens_at r other
    ace_and_king (Ok k) =
        ap (λ b. pair_or_better k || (b && one_between 13 13 bank)) (list_any-IsPermutation (between 14 14) bank other shuffled)
        ∙ ap (λ b. pair_or_better k || (one_between 14 14 other && b)) (list_any-IsPermutation (between 13 13) bank other shuffled)
    ace_and_king (Err e) = refl

-- what the spaces bring, by how the round ends and the class of the seat's hand
abbrev brings : ℕ → List ℕ → Choice → Outcome → Result FiveClass Refusal → ℕ
brings cap stakes c o k =
    sum
    (if_raised c (ante_return o (ante_stake stakes))
    ∷ if_raised c (raise_return o (raise_of (ante_stake stakes)) (raise_pays cap k (raise_of (ante_stake stakes))))
    ∷ [])

module _ (cap : ℕ) where
  -- from four of a kind up the raise is paid at most the cap
  paid_within : (k : FiveClass) (raise : ℕ) → five_below Four ≤ five_below k → raise_pays cap (Ok k) raise ≤ cap
  paid_within RoyalFlush raise high = omega arith
  paid_within StraightFlush raise high = omega arith
  paid_within Four raise high = omega arith
  paid_within FullHouse raise high = absurd (omega (arith, high))
  paid_within Flush raise high = absurd (omega (arith, high))
  paid_within Straight raise high = absurd (omega (arith, high))
  paid_within Three raise high = absurd (omega (arith, high))
  paid_within TwoPairs raise high = absurd (omega (arith, high))
  paid_within Pair raise high = absurd (omega (arith, high))
  paid_within OddCards raise high = absurd (omega (arith, high))

  capped : (seat : ℕ) (stakes : List ℕ) (c : Choice) (d : Deal) (k : FiveClass) → five_class (seat_hand 5 seat d) ≡ Ok k → five_below Four ≤ five_below k → (stud_rules cap).returns seat stakes c d ≤ 2 * ante_stake stakes + raise_of (ante_stake stakes) + cap
  capped seat stakes Open d k class high = omega arith
  capped seat stakes Raised d k class high =
      let paid : raise_pays cap (five_class (seat_hand 5 seat d)) (raise_of (ante_stake stakes)) ≤ cap = rw class (paid_within k (raise_of (ante_stake stakes)) high) in
      omega (
        arith,
        ante_return_le (stud_outcome (seat_hand 5 seat d) (bank_hand 5 d)) (ante_stake stakes),
        raise_return_le (stud_outcome (seat_hand 5 seat d) (bank_hand 5 d)) (raise_of (ante_stake stakes)) (raise_pays cap (five_class (seat_hand 5 seat d)) (raise_of (ante_stake stakes))),
        paid,
      )
  capped seat stakes Left d k class high = omega arith

  any_order : OrderDoesNotCount 5 (stud_rules cap)
  any_order seat other stakes c d e own bank =
      let class : five_class (seat_hand 5 seat d) ≡ five_class (seat_hand 5 other e) = sym (five_class_any_order (seat_hand 5 seat d) (seat_hand 5 other e) own) in
      let ends : stud_outcome (seat_hand 5 seat d) (bank_hand 5 d) ≡ stud_outcome (seat_hand 5 other e) (bank_hand 5 e) =
      ap (λ r. outcome r (stud_opens (bank_hand 5 d))) (sym (five_compared_any_orders (seat_hand 5 seat d) (bank_hand 5 d) (seat_hand 5 other e) (bank_hand 5 e) own bank))
      ∙ ap (outcome (five_compared (seat_hand 5 other e) (bank_hand 5 e))) (opens_any_order (bank_hand 5 d) (bank_hand 5 e) bank) in
      ap (λ o. brings cap stakes c o (five_class (seat_hand 5 seat d))) ends ∙ ap (brings cap stakes c (stud_outcome (seat_hand 5 other e) (bank_hand 5 e))) class

  pub stud_laws : StudLaws cap
  stud_laws = record {
    capped = capped;
    unopened = λ seat stakes d lawful staking closed.
        let ends : stud_outcome (seat_hand 5 seat d) (bank_hand 5 d) ≡ Unopened = unopened_outcome seat d lawful staking closed in
        let ante : ante_return (stud_outcome (seat_hand 5 seat d) (bank_hand 5 d)) (ante_stake stakes) ≡ 2 * ante_stake stakes = ap (λ o. ante_return o (ante_stake stakes)) ends in
        let raise : raise_return (stud_outcome (seat_hand 5 seat d) (bank_hand 5 d)) (raise_of (ante_stake stakes)) (raise_pays cap (five_class (seat_hand 5 seat d)) (raise_of (ante_stake stakes))) ≡ raise_of (ante_stake stakes) = ap (λ o. raise_return o (raise_of (ante_stake stakes)) (raise_pays cap (five_class (seat_hand 5 seat d)) (raise_of (ante_stake stakes)))) ends in
        omega (arith, ante, raise);
    any_order = any_order;
  }
