-- Why bytes have no class, and why two lists of them do not compare, by whether they are different cards and how many they are.
use Rattle.std.proofs.Common.{◌≡◌, ℕ, true, false, not, ◌||◌, eqb, List, [], ◌∷◌, length, Err, ap}
use Rattle.refusals.specs.Refusals.{refused, first_cause}
use Rattle.refusals.specs.declared.Cause.TheVariants.{NoCard, WrongCount}
use Rattle.grading.specs.Admission.{hand_causes, hands_causes, unless}
use Rattle.grading.specs.Cards.{different_cards}
use Rattle.grading.specs.Grading.{three_class, three_compared, five_class, five_compared}

module _ {X : Type 0} (n : ℕ) (x : X) where
  no_card : (cs : List ℕ) → different_cards cs ≡ false → unless (first_cause (hand_causes n cs)) x ≡ Err (refused NoCard 0)
  no_card cs d = ap (λ b. unless (first_cause ((not b, NoCard) ∷ (not (eqb (length cs) n), WrongCount) ∷ [])) x) d

  wrong_count : (cs : List ℕ) → different_cards cs ≡ true → eqb (length cs) n ≡ false → unless (first_cause (hand_causes n cs)) x ≡ Err (refused WrongCount 0)
  wrong_count cs d k = λ i. unless (first_cause ((not (d i), NoCard) ∷ (not (k i), WrongCount) ∷ [])) x

  no_cards : (cs ds : List ℕ) → (not (different_cards cs) || not (different_cards ds)) ≡ true → unless (first_cause (hands_causes n cs ds)) x ≡ Err (refused NoCard 0)
  no_cards cs ds d = ap (λ b. unless (first_cause ((b, NoCard) ∷ (not (eqb (length cs) n) || not (eqb (length ds) n), WrongCount) ∷ [])) x) d

  wrong_counts : (cs ds : List ℕ) → different_cards cs ≡ true → different_cards ds ≡ true → (not (eqb (length cs) n) || not (eqb (length ds) n)) ≡ true → unless (first_cause (hands_causes n cs ds)) x ≡ Err (refused WrongCount 0)
  wrong_counts cs ds d e k = λ i. unless (first_cause ((not (d i) || not (e i), NoCard) ∷ (k i, WrongCount) ∷ [])) x

pub three_class_no_card : (cs : List ℕ) → different_cards cs ≡ false → three_class cs ≡ Err (refused NoCard 0)
unfolding three_class
three_class_no_card cs d = no_card 3 _ cs d

pub five_class_no_card : (cs : List ℕ) → different_cards cs ≡ false → five_class cs ≡ Err (refused NoCard 0)
unfolding five_class
five_class_no_card cs d = no_card 5 _ cs d

pub three_class_wrong_count : (cs : List ℕ) → different_cards cs ≡ true → eqb (length cs) 3 ≡ false → three_class cs ≡ Err (refused WrongCount 0)
unfolding three_class
three_class_wrong_count cs d k = wrong_count 3 _ cs d k

pub five_class_wrong_count : (cs : List ℕ) → different_cards cs ≡ true → eqb (length cs) 5 ≡ false → five_class cs ≡ Err (refused WrongCount 0)
unfolding five_class
five_class_wrong_count cs d k = wrong_count 5 _ cs d k

pub three_compared_no_card : (cs ds : List ℕ) → (not (different_cards cs) || not (different_cards ds)) ≡ true → three_compared cs ds ≡ Err (refused NoCard 0)
unfolding three_compared
three_compared_no_card cs ds d = no_cards 3 _ cs ds d

pub five_compared_no_card : (cs ds : List ℕ) → (not (different_cards cs) || not (different_cards ds)) ≡ true → five_compared cs ds ≡ Err (refused NoCard 0)
unfolding five_compared
five_compared_no_card cs ds d = no_cards 5 _ cs ds d

pub three_compared_wrong_count : (cs ds : List ℕ) → different_cards cs ≡ true → different_cards ds ≡ true → (not (eqb (length cs) 3) || not (eqb (length ds) 3)) ≡ true → three_compared cs ds ≡ Err (refused WrongCount 0)
unfolding three_compared
three_compared_wrong_count cs ds d e k = wrong_counts 3 _ cs ds d e k

pub five_compared_wrong_count : (cs ds : List ℕ) → different_cards cs ≡ true → different_cards ds ≡ true → (not (eqb (length cs) 5) || not (eqb (length ds) 5)) ≡ true → five_compared cs ds ≡ Err (refused WrongCount 0)
unfolding five_compared
five_compared_wrong_count cs ds d e k = wrong_counts 5 _ cs ds d e k
