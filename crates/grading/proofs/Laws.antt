-- Laws of grading, for hands of n cards of any kind, and what they say at three cards and at five.
use Rattle.std.proofs.Common.{◌≡◌, ℕ, ◌<◌, true, not, ◌||◌, eqb, List, [], ◌∷◌, Some, None, Ok, Err, Option, Result, sym, refl, ap, ◌∙◌}
use Rattle.std.specs.List.Sorted.{IsPermutation}
use Rattle.std.proofs.lemmas.List.Sorted.{length_permutation}
use Rattle.refusals.specs.Refusals.{first_cause}
use Rattle.refusals.specs.declared.Cause.{Cause}
use Rattle.refusals.specs.declared.Cause.TheVariants.{NoCard, WrongCount}
use Rattle.refusals.specs.declared.Refusal.{Refusal}
use Rattle.grading.specs.Admission.{is_hand, hand_causes, hands_causes, unless}
use Rattle.grading.specs.Grading.{IsClassed, IsCompared, three_class, three_compared, five_class, five_compared}
use Rattle.grading.specs.Five.{five_hand, five_order}
use Rattle.grading.specs.FiveClasses.{five_below}
use Rattle.grading.specs.Three.{three_hand, three_order}
use Rattle.grading.specs.ThreeClasses.{three_below}
use Rattle.grading.specs.contracts.five.FiveHandHand.TheImpl.Laws as at_five
use Rattle.grading.specs.contracts.five.FiveHandOrder.TheImpl.Laws as of_five
use Rattle.grading.specs.contracts.three.ThreeHandHand.TheImpl.Laws as at_three
use Rattle.grading.specs.contracts.three.ThreeHandOrder.TheImpl.Laws as of_three
use Rattle.grading.specs.declared.five_classes.FiveClass.{FiveClass}
use Rattle.grading.specs.declared.three_classes.ThreeClass.{ThreeClass}
use Rattle.grading.specs.Laws.{InAnyOrder, InAnyOrders, HigherClassWins, swapped}
use Rattle.grading.specs.Order.{turned_about}
use Rattle.grading.specs.declared.comparisons.Comparison.{Comparison}
use Rattle.grading.specs.declared.comparisons.Comparison.TheVariants.{Higher}
use Rattle.grading.proofs.Admitted.{admitted, answered, both_admitted, both_answered, refused_too, causes_swapped}
use Rattle.grading.proofs.Shuffles.{different_cards_shuffled, three_hand_shuffled, five_hand_shuffled}

causes_shuffled : (n : ℕ) (cs es : List ℕ) → IsPermutation cs es → first_cause (hand_causes n es) ≡ first_cause (hand_causes n cs)
causes_shuffled n cs es sh =
    λ i. first_cause ((not (different_cards_shuffled cs es sh i), NoCard) ∷ (not (eqb (length_permutation cs es sh i) n), WrongCount) ∷ [])

both_causes_shuffled : (n : ℕ) (cs ds es fs : List ℕ) → IsPermutation cs es → IsPermutation ds fs → first_cause (hands_causes n es fs) ≡ first_cause (hands_causes n cs ds)
both_causes_shuffled n cs ds es fs sh sk =
    λ i. first_cause
    ((not (different_cards_shuffled cs es sh i) || not (different_cards_shuffled ds fs sk i), NoCard)
    ∷ (not (eqb (length_permutation cs es sh i) n) || not (eqb (length_permutation ds fs sk i) n), WrongCount)
    ∷ [])

-- the order of the cards does not matter to the hand
abbrev Shuffled : {H : Type 0} → (List ℕ → H) → Type 0
Shuffled hand = (cs es : List ℕ) → IsPermutation cs es → hand es ≡ hand cs

swapped_unless : (o : Option Cause) (a : Comparison) → unless o (turned_about a) ≡ swapped (unless o a)
swapped_unless None a = refl
swapped_unless (Some cause) a = refl

module _ {H K : Type 0} (n : ℕ) (hand : List ℕ → H) (class : H → K) (f : List ℕ → Result K Refusal) (is : IsClassed n hand class f) where
  -- n different cards have the class of their hand
  pub class_given : (cs : List ℕ) → is_hand n cs ≡ true → f cs ≡ Ok (class (hand cs))
  class_given cs good = is cs ∙ answered n cs (class (hand cs)) good

  -- and only they have one
  pub class_of_hand : (cs : List ℕ) (k : K) → f cs ≡ Ok k → (is_hand n cs ≡ true) × (class (hand cs) ≡ k)
  class_of_hand cs k e = admitted n cs (class (hand cs)) k (sym (is cs) ∙ e)

  -- the order of the cards does not matter to the class
  pub class_in_any_order : (cs : List ℕ) (h : H) → is_hand n cs ≡ true → InAnyOrder hand cs h → InAnyOrder f cs (Ok (class h))
  class_in_any_order cs h good same es sh =
      is es ∙ (λ i. unless (causes_shuffled n cs es sh i) (class (same es sh i))) ∙ answered n cs (class h) good

  -- nor to a refusal
  pub refused_in_any_order : {X : Type 0} (cs : List ℕ) (x : X) (why : Refusal) → Err why ≡ unless (first_cause (hand_causes n cs)) x → InAnyOrder f cs (Err why)
  refused_in_any_order cs x why e es sh =
      is es
      ∙ (λ i. unless (causes_shuffled n cs es sh i) (class (hand es)))
      ∙ sym (refused_too (first_cause (hand_causes n cs)) x (class (hand es)) why e)

  -- the order of the cards does not matter, where it does not to the hand
  pub class_any_order : Shuffled hand → (cs : List ℕ) → InAnyOrder f cs (f cs)
  class_any_order shuffled cs es sh = is es ∙ (λ i. unless (causes_shuffled n cs es sh i) (class (shuffled cs es sh i))) ∙ sym (is cs)

module _ {H : Type 0} (n : ℕ) (hand : List ℕ → H) (order : H → H → Comparison) (f : List ℕ → List ℕ → Result Comparison Refusal) (is : IsCompared n hand order f) where
  -- two hands of n different cards are compared
  pub compared_given : (cs ds : List ℕ) → is_hand n cs ≡ true → is_hand n ds ≡ true → f cs ds ≡ Ok (order (hand cs) (hand ds))
  compared_given cs ds good well = is cs ds ∙ both_answered n cs ds (order (hand cs) (hand ds)) good well

  -- and only they are
  pub compared_of_hands : (cs ds : List ℕ) (a : Comparison) → f cs ds ≡ Ok a → (is_hand n cs ≡ true) × (is_hand n ds ≡ true)
  compared_of_hands cs ds a e = both_admitted n cs ds (order (hand cs) (hand ds)) a (sym (is cs ds) ∙ e)

  -- the order of the cards does not matter, where it does not to the hands
  pub compared_any_orders : Shuffled hand → (cs ds : List ℕ) → InAnyOrders f cs ds (f cs ds)
  compared_any_orders shuffled cs ds es fs sh sk =
      is es fs ∙ (λ i. unless (both_causes_shuffled n cs ds es fs sh sk i) (order (shuffled cs es sh i) (shuffled ds fs sk i))) ∙ sym (is cs ds)

  -- the order of the cards does not matter to the comparison
  pub compared_in_any_orders : (cs ds : List ℕ) (x y : H) → is_hand n cs ≡ true → is_hand n ds ≡ true → InAnyOrder hand cs x → InAnyOrder hand ds y → InAnyOrders f cs ds (Ok (order x y))
  compared_in_any_orders cs ds x y good well same alike es fs sh sk =
      is es fs ∙ (λ i. unless (both_causes_shuffled n cs ds es fs sh sk i) (order (same es sh i) (alike fs sk i))) ∙ both_answered n cs ds (order x y) good well

  -- nor to a refusal
  pub refused_in_any_orders : {X : Type 0} (cs ds : List ℕ) (x : X) (why : Refusal) → Err why ≡ unless (first_cause (hands_causes n cs ds)) x → InAnyOrders f cs ds (Err why)
  refused_in_any_orders cs ds x why e es fs sh sk =
      is es fs
      ∙ (λ i. unless (both_causes_shuffled n cs ds es fs sh sk i) (order (hand es) (hand fs)))
      ∙ sym (refused_too (first_cause (hands_causes n cs ds)) x (order (hand es) (hand fs)) why e)

  -- swapping the hands turns the answer about
  pub compared_swapped : ((x y : H) → order x y ≡ turned_about (order y x)) → (cs ds : List ℕ) → f ds cs ≡ swapped (f cs ds)
  compared_swapped turned cs ds =
      is ds cs
      ∙ (λ i. unless (causes_swapped n cs ds i) (turned (hand ds) (hand cs) i))
      ∙ swapped_unless (first_cause (hands_causes n cs ds)) (order (hand cs) (hand ds))
      ∙ ap swapped (sym (is cs ds))

  -- a higher class beats a lower one
  pub higher_class_wins : {K : Type 0} (class : H → K) (below : K → ℕ) (g : List ℕ → Result K Refusal) → IsClassed n hand class g → ((x y : H) → below (class y) < below (class x) → order x y ≡ Higher) → (cs ds : List ℕ) (r : Result Comparison Refusal) → r ≡ f cs ds → HigherClassWins below g cs ds r
  higher_class_wins class below g gives wins cs ds r e j k p q lower =
      let x = admitted n cs (class (hand cs)) j (sym (gives cs) ∙ p) in
      let y = admitted n ds (class (hand ds)) k (sym (gives ds) ∙ q) in
      e ∙ is cs ds ∙ both_answered n cs ds (order (hand cs) (hand ds)) x.0 y.0 ∙ ap Ok (wins (hand cs) (hand ds) (rw (x.1, y.1) lower))

-- ---- at three cards and at five

three_classes : IsClassed 3 three_hand (λ h. h.class) three_class
unfolding three_class
three_classes cs = refl

three_compares : IsCompared 3 three_hand three_order three_compared
unfolding three_compared
three_compares cs ds = refl

pub three_class_given : (cs : List ℕ) → is_hand 3 cs ≡ true → three_class cs ≡ Ok (three_hand cs).class
three_class_given = class_given 3 three_hand (λ h. h.class) three_class three_classes

pub three_class_of_hand : (cs : List ℕ) (k : ThreeClass) → three_class cs ≡ Ok k → (is_hand 3 cs ≡ true) × ((three_hand cs).class ≡ k)
three_class_of_hand = class_of_hand 3 three_hand (λ h. h.class) three_class three_classes

pub three_class_any_order : (cs : List ℕ) → InAnyOrder three_class cs (three_class cs)
three_class_any_order = class_any_order 3 three_hand (λ h. h.class) three_class three_classes three_hand_shuffled

pub three_compared_given : (cs ds : List ℕ) → is_hand 3 cs ≡ true → is_hand 3 ds ≡ true → three_compared cs ds ≡ Ok (three_order (three_hand cs) (three_hand ds))
three_compared_given = compared_given 3 three_hand three_order three_compared three_compares

pub three_compared_of_hands : (cs ds : List ℕ) (a : Comparison) → three_compared cs ds ≡ Ok a → (is_hand 3 cs ≡ true) × (is_hand 3 ds ≡ true)
three_compared_of_hands = compared_of_hands 3 three_hand three_order three_compared three_compares

pub three_compared_any_orders : (cs ds : List ℕ) → InAnyOrders three_compared cs ds (three_compared cs ds)
three_compared_any_orders = compared_any_orders 3 three_hand three_order three_compared three_compares three_hand_shuffled

pub three_compared_swapped : (cs ds : List ℕ) → three_compared ds cs ≡ swapped (three_compared cs ds)
three_compared_swapped = compared_swapped 3 three_hand three_order three_compared three_compares of_three.turned-law

pub three_higher_class_wins : (cs ds : List ℕ) → HigherClassWins three_below three_class cs ds (three_compared cs ds)
three_higher_class_wins cs ds = higher_class_wins 3 three_hand three_order three_compared three_compares (λ h. h.class) three_below three_class three_classes at_three.by_class-law cs ds (three_compared cs ds) refl

five_classes : IsClassed 5 five_hand (λ h. h.class) five_class
unfolding five_class
five_classes cs = refl

five_compares : IsCompared 5 five_hand five_order five_compared
unfolding five_compared
five_compares cs ds = refl

pub five_class_given : (cs : List ℕ) → is_hand 5 cs ≡ true → five_class cs ≡ Ok (five_hand cs).class
five_class_given = class_given 5 five_hand (λ h. h.class) five_class five_classes

pub five_class_of_hand : (cs : List ℕ) (k : FiveClass) → five_class cs ≡ Ok k → (is_hand 5 cs ≡ true) × ((five_hand cs).class ≡ k)
five_class_of_hand = class_of_hand 5 five_hand (λ h. h.class) five_class five_classes

pub five_class_any_order : (cs : List ℕ) → InAnyOrder five_class cs (five_class cs)
five_class_any_order = class_any_order 5 five_hand (λ h. h.class) five_class five_classes five_hand_shuffled

pub five_compared_given : (cs ds : List ℕ) → is_hand 5 cs ≡ true → is_hand 5 ds ≡ true → five_compared cs ds ≡ Ok (five_order (five_hand cs) (five_hand ds))
five_compared_given = compared_given 5 five_hand five_order five_compared five_compares

pub five_compared_of_hands : (cs ds : List ℕ) (a : Comparison) → five_compared cs ds ≡ Ok a → (is_hand 5 cs ≡ true) × (is_hand 5 ds ≡ true)
five_compared_of_hands = compared_of_hands 5 five_hand five_order five_compared five_compares

pub five_compared_any_orders : (cs ds : List ℕ) → InAnyOrders five_compared cs ds (five_compared cs ds)
five_compared_any_orders = compared_any_orders 5 five_hand five_order five_compared five_compares five_hand_shuffled

pub five_compared_swapped : (cs ds : List ℕ) → five_compared ds cs ≡ swapped (five_compared cs ds)
five_compared_swapped = compared_swapped 5 five_hand five_order five_compared five_compares of_five.turned-law

pub five_higher_class_wins : (cs ds : List ℕ) → HigherClassWins five_below five_class cs ds (five_compared cs ds)
five_higher_class_wins cs ds = higher_class_wins 5 five_hand five_order five_compared five_compares (λ h. h.class) five_below five_class five_classes at_five.by_class-law cs ds (five_compared cs ds) refl
