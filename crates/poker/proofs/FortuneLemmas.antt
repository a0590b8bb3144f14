-- The laws of Fortune, and how a round ends against a bank that does not open.
use Rattle.std.specs.List.Sorted.{IsPermutation}
use Rattle.std.proofs.lemmas.List.Sorted.{list_any-IsPermutation}
use Rattle.std.proofs.Common.{◌≡◌, ℕ, ◌+◌, ◌*◌, false, ◌||◌, List, [], ◌∷◌, Ok, Err, Result, sum, sym, refl, ap, ◌∙◌, arith}
use Rattle.refusals.specs.declared.Refusal.{Refusal}
use Rattle.grading.specs.Grading.{three_class, three_compared}
use Rattle.grading.specs.declared.three_classes.ThreeClass.{ThreeClass}
use Rattle.grading.proofs.Laws.{three_class_any_order, three_compared_given, three_compared_any_orders}
use Rattle.game.specs.Rules.{Deal}
use Rattle.game.specs.declared.choice.Choice.{Choice}
use Rattle.poker.specs.declared.outcome.Outcome.{Outcome}
use Rattle.poker.specs.declared.outcome.Outcome.TheVariants.{Unopened}
use Rattle.poker.specs.Dealing.{seat_hand, bank_hand, dealing}
use Rattle.poker.specs.Fortune.{opens_at, pair_or_better, fortune_rules, fortune_opens, fortune_outcome, bonus, pair_plus_return}
use Rattle.poker.specs.FortuneLaws.{FortuneLaws}
use Rattle.poker.specs.Laws.{OrderDoesNotCount, Stakes}
use Rattle.poker.specs.Ranks.{between}
use Rattle.poker.specs.Payment.{if_raised, unless_left}
use Rattle.poker.specs.Outcome.{outcome, ante_return, raise_return}
use Rattle.poker.specs.Stakes.{ante_stake, pair_plus_stake}
use Rattle.poker.proofs.DealtOut.{seat_of_lawful, bank_of_lawful}

-- against a bank that does not open, hands of a lawful deal end the round so
unopened_outcome : (seat : ℕ) (d : Deal) → dealing 3 d ≡ Ok tt → Stakes d seat → fortune_opens (bank_hand 3 d) ≡ false → fortune_outcome (seat_hand 3 seat d) (bank_hand 3 d) ≡ Unopened
unopened_outcome seat d lawful stakes closed =
    ap (λ o. outcome (three_compared (seat_hand 3 seat d) (bank_hand 3 d)) o) closed
    ∙ ap (λ r. outcome r false) (three_compared_given (seat_hand 3 seat d) (bank_hand 3 d) (seat_of_lawful 3 d lawful seat stakes) (bank_of_lawful 3 d lawful))

-- whether the bank opens does not depend on the order of its cards
opens_any_order : (bank other : List ℕ) → IsPermutation bank other → fortune_opens bank ≡ fortune_opens other
opens_any_order bank other shuffled =
    ap (λ r. opens_at r bank) (sym (three_class_any_order bank other shuffled)) ∙ headed (three_class other)
  where
    headed : (r : Result ThreeClass Refusal) → opens_at r bank ≡ opens_at r other
    headed (Ok k) = ap (λ b. pair_or_better k || b) (list_any-IsPermutation (between 12 14) bank other shuffled)
    headed (Err e) = refl

-- what the spaces bring, by how the round ends and the class of the seat's hand
abbrev brings : List ℕ → List ℕ → Choice → Outcome → Result ThreeClass Refusal → ℕ
brings odds stakes c o k =
    sum
    (if_raised c (ante_return o (ante_stake stakes) + bonus k (ante_stake stakes))
    ∷ if_raised c (raise_return o (ante_stake stakes) (ante_stake stakes))
    ∷ unless_left c (pair_plus_return odds k (pair_plus_stake stakes))
    ∷ [])

any_order : (odds : List ℕ) → OrderDoesNotCount 3 (fortune_rules odds)
any_order odds seat other stakes c d e own bank =
    let class : three_class (seat_hand 3 seat d) ≡ three_class (seat_hand 3 other e) = sym (three_class_any_order (seat_hand 3 seat d) (seat_hand 3 other e) own) in
    let ends : fortune_outcome (seat_hand 3 seat d) (bank_hand 3 d) ≡ fortune_outcome (seat_hand 3 other e) (bank_hand 3 e) =
    ap (λ r. outcome r (fortune_opens (bank_hand 3 d))) (sym (three_compared_any_orders (seat_hand 3 seat d) (bank_hand 3 d) (seat_hand 3 other e) (bank_hand 3 e) own bank))
    ∙ ap (outcome (three_compared (seat_hand 3 other e) (bank_hand 3 e))) (opens_any_order (bank_hand 3 d) (bank_hand 3 e) bank) in
    ap (λ o. brings odds stakes c o (three_class (seat_hand 3 seat d))) ends ∙ ap (brings odds stakes c (fortune_outcome (seat_hand 3 other e) (bank_hand 3 e))) class

pub fortune_laws : (odds : List ℕ) → FortuneLaws odds
fortune_laws odds = record {
  pair_plus_alone = λ seat stakes d. omega arith;
  by_class = λ seat stakes d. omega arith;
  unopened = λ seat stakes d lawful staking closed.
      let ends : fortune_outcome (seat_hand 3 seat d) (bank_hand 3 d) ≡ Unopened = unopened_outcome seat d lawful staking closed in
      let ante : ante_return (fortune_outcome (seat_hand 3 seat d) (bank_hand 3 d)) (ante_stake stakes) ≡ 2 * ante_stake stakes = ap (λ o. ante_return o (ante_stake stakes)) ends in
      let raise : raise_return (fortune_outcome (seat_hand 3 seat d) (bank_hand 3 d)) (ante_stake stakes) (ante_stake stakes) ≡ ante_stake stakes = ap (λ o. raise_return o (ante_stake stakes) (ante_stake stakes)) ends in
      omega (arith, ante, raise);
  any_order = any_order odds;
}
