-- What a list of cards holds does not depend on their order.
use Rattle.std.proofs.Common.{◌≡◌, ℕ, ◌+◌, ◌*◌, Bool, cond, not, ◌&&◌, ◌||◌, eqb, List, get_or, count_by, ap, ◌∙◌}
use mathlib.Core.Path.{fun_ext}
use Rattle.std.specs.List.Sorted.{IsPermutation}
use Rattle.std.proofs.lemmas.List.Sorted.{sum_by-IsPermutation, length_permutation}
use Rattle.grading.specs.Cards.{is_card, suit_of, rank_of, each, is_single_card, different_cards, all_of_suit, one_suit, tally, holds, highest_suit}
use Rattle.grading.specs.Five.{five_ranked, five_ranked_by, suit_counts, deciding_suit, five_hand}
use Rattle.grading.specs.Ranks.{held, runs_of_three, runs_of_five, sequence}
use Rattle.grading.specs.Three.{three_hand, three_hand_by}

module _ (cs ds : List ℕ) (sh : IsPermutation cs ds) where
  pub count_by_shuffled : (p : ℕ → Bool) → count_by p ds ≡ count_by p cs
  count_by_shuffled p = sum_by-IsPermutation (λ c. cond (p c) 1 0) cs ds sh

  each_shuffled : (p : ℕ → Bool) → each p ds ≡ each p cs
  each_shuffled p = λ i. eqb (count_by_shuffled p i) (length_permutation cs ds sh i)

  single_shuffled : is_single_card ds ≡ is_single_card cs
  single_shuffled = fun_ext (λ c. ap (λ n. is_card c && eqb n 1) (count_by_shuffled (λ d. eqb d c)))

  pub different_cards_shuffled : different_cards ds ≡ different_cards cs
  unfolding different_cards
  different_cards_shuffled = ap (λ p. each p ds) single_shuffled ∙ each_shuffled (is_single_card cs)

  pub one_suit_shuffled : one_suit ds ≡ one_suit cs
  one_suit_shuffled =
      let suits : (s : ℕ) → all_of_suit s ds ≡ all_of_suit s cs = λ s. each_shuffled (λ c. eqb (suit_of c) s) in
      λ i. suits 0 i || (suits 1 i || (suits 2 i || suits 3 i))

  pub tally_shuffled : tally ds ≡ tally cs
  tally_shuffled = fun_ext (λ r. count_by_shuffled (λ c. eqb (rank_of c) r))

  highest_suit_shuffled : (r : ℕ) → highest_suit ds r ≡ highest_suit cs r
  highest_suit_shuffled r =
      let held_too : (s : ℕ) → holds ds r s ≡ holds cs r s = λ s. ap (λ n. not (eqb n 0)) (count_by_shuffled (λ d. eqb d (16 * r + s))) in
      λ i. cond (held_too 3 i) 3 (cond (held_too 2 i) 2 (cond (held_too 1 i) 1 0))

  pub three_hand_shuffled : three_hand ds ≡ three_hand cs
  unfolding three_hand
  three_hand_shuffled = λ i. three_hand_by (sequence runs_of_three (held (tally_shuffled i)).ones) (held (tally_shuffled i)) (one_suit_shuffled i)

  five_ranked_shuffled : five_ranked ds ≡ five_ranked cs
  unfolding five_ranked
  five_ranked_shuffled = λ i. five_ranked_by (sequence runs_of_five (held (tally_shuffled i)).ones) (held (tally_shuffled i)) (one_suit_shuffled i)

  pub five_hand_shuffled : five_hand ds ≡ five_hand cs
  unfolding five_hand
  five_hand_shuffled =
      let suits : deciding_suit (five_ranked ds) ds ≡ deciding_suit (five_ranked cs) cs =
      (λ i. cond (suit_counts (five_ranked_shuffled i).class) (fun_ext highest_suit_shuffled i (get_or (five_ranked_shuffled i).ranks 0 0)) 0) in
      λ i. record { class = (five_ranked_shuffled i).class; ranks = (five_ranked_shuffled i).ranks; suit = suits i }
