-- A hand in rising order: the code's class and ranks of it are the rule's of the cards as they came.
use Rattle.std.proofs.Common.{◌≡◌, ℕ, ◌/◌, ◌<◌, ◌≤◌, true, ◌&&◌, eqb, leb, List, [], ◌∷◌, length, get_or, sym, refl, ap, ◌∙◌, subst, arith}
use mathlib.Core.Path.{fun_ext}
use Rattle.std.specs.List.Sorted.{IsPermutation, IsNonDecreasing}
use Rattle.std.proofs.lemmas.List.Sorted.{length_permutation}
use Rattle.std.proofs.lemmas.Bool.{and_parts, eqb-true, leb-true}
use Rattle.grading.specs.Admission.{is_hand}
use Rattle.grading.specs.Cards.{rank_of, suit_of, is_card, copies_of, is_single_card, different_cards, one_suit, tally}
use Rattle.grading.specs.Five.{five_ranked, five_ranked_by, five_of}
use Rattle.grading.specs.Laws.{ThreeOnly, FiveOnly}
use Rattle.grading.specs.Ranks.{held, runs_of_three, runs_of_five, sequence}
use Rattle.grading.specs.Steps.{three_sorted, five_sorted}
use Rattle.grading.specs.Three.{three_hand, three_hand_by, three_of}
use Rattle.grading.proofs.Each.{at_each}
use Rattle.grading.proofs.Finite.{among}
use Rattle.grading.proofs.FiveChecked as OfFive
use Rattle.grading.proofs.Shuffles.{different_cards_shuffled, tally_shuffled}
use Rattle.grading.proofs.ThreeChecked as of_three

card_rank : (c : ℕ) → is_card c ≡ true → (2 ≤ rank_of c) × (rank_of c ≤ 14)
card_rank c h =
    let p = and_parts (leb 2 (rank_of c)) (leb (rank_of c) 14 && leb (suit_of c) 3) h in
    let q = and_parts (leb (rank_of c) 14) (leb (suit_of c) 3) p.1 in
    (leb-true 2 (rank_of c) p.0, leb-true (rank_of c) 14 q.0)

-- the byte at i, of different cards, is a card
pub card_at : (cs : List ℕ) (i : ℕ) → different_cards cs ≡ true → i < length cs → is_card (get_or cs i 0) ≡ true
unfolding different_cards
card_at cs i all h = (and_parts (is_card (get_or cs i 0)) (eqb (copies_of (get_or cs i 0) cs) 1) (at_each (is_single_card cs) cs i all h)).0

rank_at : (cs : List ℕ) (i : ℕ) → different_cards cs ≡ true → i < length cs → (2 ≤ rank_of (get_or cs i 0)) × (rank_of (get_or cs i 0) ≤ 14)
rank_at cs i all h = card_rank (get_or cs i 0) (card_at cs i all h)

pub hand_length : (n : ℕ) (cs : List ℕ) → is_hand n cs ≡ true → length cs ≡ n
hand_length n cs h = eqb-true (length cs) n (and_parts (different_cards cs) (eqb (length cs) n) h).1

pub hand_cards : (n : ℕ) (cs : List ℕ) → is_hand n cs ≡ true → different_cards cs ≡ true
hand_cards n cs h = (and_parts (different_cards cs) (eqb (length cs) n) h).0

-- a list of three, by its places
pub three_places : (cs : List ℕ) → length cs ≡ 3 → cs ≡ get_or cs 0 0 ∷ get_or cs 1 0 ∷ get_or cs 2 0 ∷ []
three_places [] h = absurd (omega arith)
three_places (a ∷ []) h = absurd (omega arith)
three_places (a ∷ b ∷ []) h = absurd (omega arith)
three_places (a ∷ b ∷ c ∷ []) h = refl
three_places (a ∷ b ∷ c ∷ d ∷ ds) h = absurd (omega arith)

-- a list of five, by its places
pub five_places : (cs : List ℕ) → length cs ≡ 5 → cs ≡ get_or cs 0 0 ∷ get_or cs 1 0 ∷ get_or cs 2 0 ∷ get_or cs 3 0 ∷ get_or cs 4 0 ∷ []
five_places [] h = absurd (omega arith)
five_places (a ∷ []) h = absurd (omega arith)
five_places (a ∷ b ∷ []) h = absurd (omega arith)
five_places (a ∷ b ∷ c ∷ []) h = absurd (omega arith)
five_places (a ∷ b ∷ c ∷ d ∷ []) h = absurd (omega arith)
five_places (a ∷ b ∷ c ∷ d ∷ e ∷ []) h = refl
five_places (a ∷ b ∷ c ∷ d ∷ e ∷ f ∷ fs) h = absurd (omega arith)

-- ranks counted from either end
three_turned : (a b c r : ℕ) → among ((c / 16) ∷ (b / 16) ∷ (a / 16) ∷ []) r ≡ tally (a ∷ b ∷ c ∷ []) r
three_turned a b c r = omega arith

five_turned : (a b c d e r : ℕ) → among ((e / 16) ∷ (d / 16) ∷ (c / 16) ∷ (b / 16) ∷ (a / 16) ∷ []) r ≡ tally (a ∷ b ∷ c ∷ d ∷ e ∷ []) r
five_turned a b c d e r = omega arith

module _ (cs s : List ℕ) (sh : IsPermutation cs s) (up : IsNonDecreasing s) where
  cards_in_order : different_cards cs ≡ true → different_cards s ≡ true
  cards_in_order h = different_cards_shuffled cs s sh ∙ h

  three_falling : is_hand 3 cs ≡ true → of_three.Falling (get_or s 2 0 / 16) (get_or s 1 0 / 16) (get_or s 0 0 / 16)
  three_falling hand =
      let n : length s ≡ 3 = length_permutation cs s sh ∙ hand_length 3 cs hand in
      let good = cards_in_order (hand_cards 3 cs hand) in
      let u0 : get_or s 0 0 ≤ get_or s 1 0 = up 0 1 0 (omega arith) (omega arith) in
      let u1 : get_or s 1 0 ≤ get_or s 2 0 = up 1 2 0 (omega arith) (omega arith) in
      record {
        highest = (rank_at s 2 good (omega arith)).1;
        b_falls = omega arith;
        c_falls = omega arith;
        lowest = (rank_at s 0 good (omega arith)).0;
      }

  three_tally : is_hand 3 cs ≡ true → among ((get_or s 2 0 / 16) ∷ (get_or s 1 0 / 16) ∷ (get_or s 0 0 / 16) ∷ []) ≡ tally cs
  three_tally hand =
      let n : length s ≡ 3 = length_permutation cs s sh ∙ hand_length 3 cs hand in
      fun_ext (λ r. three_turned (get_or s 0 0) (get_or s 1 0) (get_or s 2 0) r) ∙ ap tally (sym (three_places s n)) ∙ tally_shuffled cs s sh

  -- three cards in rising order
  pub three_sorted_is_hand : is_hand 3 cs ≡ true → three_sorted (get_or s 2 0 / 16) (get_or s 1 0 / 16) (get_or s 0 0 / 16) (one_suit cs) ≡ three_hand cs
  unfolding three_hand
  three_sorted_is_hand hand =
      of_three.sorted_is_rule (one_suit cs) (get_or s 2 0 / 16) (get_or s 1 0 / 16) (get_or s 0 0 / 16) (three_falling hand)
      ∙ (λ i. three_hand_by (sequence runs_of_three (held (three_tally hand i)).ones) (held (three_tally hand i)) (one_suit cs))

  -- the cards are of the class that the rule gives them, and of no other
  pub three_only : is_hand 3 cs ≡ true → ThreeOnly cs (three_hand cs).class
  unfolding three_hand three_of
  three_only hand =
      let only : of_three.Only (one_suit cs) (held (tally cs)) =
      subst (λ t. of_three.Only (one_suit cs) (held t)) (three_tally hand) (of_three.of_one_class (one_suit cs) (get_or s 2 0 / 16) (get_or s 1 0 / 16) (get_or s 0 0 / 16) (three_falling hand)) in
      record { is = only.is_of; no_other = only.no_other }

  five_falling : is_hand 5 cs ≡ true → OfFive.Falling (get_or s 4 0 / 16) (get_or s 3 0 / 16) (get_or s 2 0 / 16) (get_or s 1 0 / 16) (get_or s 0 0 / 16)
  five_falling hand =
      let n : length s ≡ 5 = length_permutation cs s sh ∙ hand_length 5 cs hand in
      let good = cards_in_order (hand_cards 5 cs hand) in
      let u0 : get_or s 0 0 ≤ get_or s 1 0 = up 0 1 0 (omega arith) (omega arith) in
      let u1 : get_or s 1 0 ≤ get_or s 2 0 = up 1 2 0 (omega arith) (omega arith) in
      let u2 : get_or s 2 0 ≤ get_or s 3 0 = up 2 3 0 (omega arith) (omega arith) in
      let u3 : get_or s 3 0 ≤ get_or s 4 0 = up 3 4 0 (omega arith) (omega arith) in
      record {
        highest = (rank_at s 4 good (omega arith)).1;
        b_falls = omega arith;
        c_falls = omega arith;
        d_falls = omega arith;
        e_falls = omega arith;
        lowest = (rank_at s 0 good (omega arith)).0;
      }

  five_tally : is_hand 5 cs ≡ true → among ((get_or s 4 0 / 16) ∷ (get_or s 3 0 / 16) ∷ (get_or s 2 0 / 16) ∷ (get_or s 1 0 / 16) ∷ (get_or s 0 0 / 16) ∷ []) ≡ tally cs
  five_tally hand =
      let n : length s ≡ 5 = length_permutation cs s sh ∙ hand_length 5 cs hand in
      fun_ext (λ r. five_turned (get_or s 0 0) (get_or s 1 0) (get_or s 2 0) (get_or s 3 0) (get_or s 4 0) r) ∙ ap tally (sym (five_places s n)) ∙ tally_shuffled cs s sh

  -- five cards in rising order
  pub five_sorted_is_ranked : is_hand 5 cs ≡ true → five_sorted (get_or s 4 0 / 16) (get_or s 3 0 / 16) (get_or s 2 0 / 16) (get_or s 1 0 / 16) (get_or s 0 0 / 16) (one_suit cs) ≡ five_ranked cs
  unfolding five_ranked
  five_sorted_is_ranked hand =
      OfFive.sorted_is_rule (one_suit cs) (get_or s 4 0 / 16) (get_or s 3 0 / 16) (get_or s 2 0 / 16) (get_or s 1 0 / 16) (get_or s 0 0 / 16) (five_falling hand)
      ∙ (λ i. five_ranked_by (sequence runs_of_five (held (five_tally hand i)).ones) (held (five_tally hand i)) (one_suit cs))

  -- the cards are of the class that the rule gives them, and of no other
  pub five_only : is_hand 5 cs ≡ true → FiveOnly cs (five_ranked cs).class
  unfolding five_ranked five_of
  five_only hand =
      let only : OfFive.Only (one_suit cs) (held (tally cs)) =
      subst (λ t. OfFive.Only (one_suit cs) (held t)) (five_tally hand) (OfFive.of_one_class (one_suit cs) (get_or s 4 0 / 16) (get_or s 3 0 / 16) (get_or s 2 0 / 16) (get_or s 1 0 / 16) (get_or s 0 0 / 16) (five_falling hand)) in
      record { is = only.is_of; no_other = only.no_other }
