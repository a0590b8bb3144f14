-- The front parts of a row of cards: which of them is a lawful deal.
use Rattle.std.proofs.Common.{◌≡◌, ℕ, ◌<◌, ◌≤◌, true, List, length, take, None, Ok, sym, ap, ◌∙◌, subst, ⊎_elim, arith}
use Rattle.std.proofs.lemmas.List.{get_or-take, length-take-le}
use Rattle.std.proofs.lemmas.Bool.{cases_lt}
use Rattle.makccarat.specs.declared.way.Way.{Way}
use Rattle.makccarat.specs.Cards.{are_cards, points}
use Rattle.makccarat.specs.Round.{adder, called, called_after, dealing}
use Rattle.makccarat.specs.Laws.{OneFront}
use Rattle.makccarat.proofs.Alike.{Alike, adder_alike, called_alike}
use Rattle.makccarat.proofs.Cards.{cards_take}
use Rattle.makccarat.specs.Counts.{four_to_six, four_adds_none, lawful_deal, deal_lawful}

module _ (w : Way) (row : List ℕ) where
  -- a front part has the row's cards
  alike_take : (n : ℕ) → Alike n (take n row) row
  alike_take n i l = ap points (get_or-take n row i 0 l)

  -- the first four cards decide who adds first
  adder_take : (n : ℕ) → 4 ≤ n → adder (take n row) ≡ adder row
  adder_take n h = adder_alike (take n row) row (λ i l. alike_take n i (omega arith))

  -- a front part calls for as many cards as the row, if it holds all that decide
  called_take : (n : ℕ) → 4 ≤ n → (n ≤ 4 → adder row ≡ None) → called w (take n row) ≡ called w row
  called_take n h four =
      ⊎_elim
      (λ (l : 4 < n). called_alike (take n row) row (λ i k. alike_take n i (omega arith)) w)
      (λ (l : n ≤ 4). ap (called_after w (take n row)) (adder_take n h ∙ four l) ∙ sym (ap (called_after w row) (four l)))
      (cases_lt 4 n)

  -- of a row of at least six cards exactly one front part is a lawful deal
  one_front : 6 ≤ length row → are_cards row ≡ true → OneFront w row (called w row)
  one_front long all = record { within = within; lawful = lawful; alone = alone }
    where
      within : called w row ≤ length row
      within = omega (arith, (four_to_six w row).1)

      lawful : dealing w (take (called w row) row) ≡ Ok tt
      lawful =
          deal_lawful w (take (called w row) row) (cards_take (called w row) row all)
          (length-take-le (called w row) row within ∙ sym (called_take (called w row) (four_to_six w row).0 (four_adds_none w row (adder row))))

      alone : (m : ℕ) → m ≤ length row → dealing w (take m row) ≡ Ok tt → m ≡ called w row
      alone m short fair =
          let count : m ≡ called w (take m row) = sym (length-take-le m row short) ∙ (lawful_deal w (take m row) fair).1 in
          let four : 4 ≤ m = omega (arith, (four_to_six w (take m row)).0) in
          let adds : m ≤ 4 → adder row ≡ None = λ l. sym (adder_take m four) ∙ four_adds_none w (take m row) (adder (take m row)) (omega arith) in
          count ∙ called_take m four adds

  -- the same of a number that is the one called for
  pub one_front_of : (n : ℕ) → n ≡ called w row → 6 ≤ length row → true ≡ are_cards row → OneFront w row n
  one_front_of n e long all = subst (OneFront w row) (sym e) (one_front long (sym all))
