-- What grading answers for any bytes, at three cards and at five.
use Rattle.std.specs.Prelude.{◌≡◌, ℕ, List, Result}
use Rattle.refusals.specs.Refusals.{first_cause}
use Rattle.refusals.specs.declared.Refusal.{Refusal}
use Rattle.grading.specs.Admission.{hand_causes, hands_causes, unless}
use Rattle.grading.specs.Five.{five_hand, five_order}
use Rattle.grading.specs.Three.{three_hand, three_order}
use Rattle.grading.specs.declared.comparisons.Comparison.{Comparison}
use Rattle.grading.specs.declared.five.FiveHand.{FiveHand}
use Rattle.grading.specs.declared.five_classes.FiveClass.{FiveClass}
use Rattle.grading.specs.declared.three.ThreeHand.{ThreeHand}
use Rattle.grading.specs.declared.three_classes.ThreeClass.{ThreeClass}

module _ {H : Type 0} (n : ℕ) (hand : List ℕ → H) where
  -- the graded hand of n cards
  abbrev pub graded : List ℕ → Result H Refusal
  graded cs = unless (first_cause (hand_causes n cs)) (hand cs)

  -- the class of n cards
  abbrev pub classed : {K : Type 0} → (H → K) → List ℕ → Result K Refusal
  classed class cs = unless (first_cause (hand_causes n cs)) (class (hand cs))

  -- how the first of two hands of n cards compares with the second
  abbrev pub compared : (H → H → Comparison) → List ℕ → List ℕ → Result Comparison Refusal
  compared order cs ds = unless (first_cause (hands_causes n cs ds)) (order (hand cs) (hand ds))

  abbrev pub IsGraded : (List ℕ → Result H Refusal) → Type 0
  IsGraded f = (cs : List ℕ) → f cs ≡ graded cs

  abbrev pub IsClassed : {K : Type 0} → (H → K) → (List ℕ → Result K Refusal) → Type 0
  IsClassed class f = (cs : List ℕ) → f cs ≡ classed class cs

  abbrev pub IsCompared : (H → H → Comparison) → (List ℕ → List ℕ → Result Comparison Refusal) → Type 0
  IsCompared order f = (cs ds : List ℕ) → f cs ds ≡ compared order cs ds

-- the graded hand of three cards
unfoldable pub three_graded : List ℕ → Result ThreeHand Refusal
three_graded cs = graded 3 three_hand cs

-- the class of three cards
unfoldable pub three_class : List ℕ → Result ThreeClass Refusal
three_class cs = classed 3 three_hand (λ h. h.class) cs

-- how the first of two hands of three cards compares with the second
unfoldable pub three_compared : List ℕ → List ℕ → Result Comparison Refusal
three_compared cs ds = compared 3 three_hand three_order cs ds

-- the graded hand of five cards
unfoldable pub five_graded : List ℕ → Result FiveHand Refusal
five_graded cs = graded 5 five_hand cs

-- the class of five cards
unfoldable pub five_class : List ℕ → Result FiveClass Refusal
five_class cs = classed 5 five_hand (λ h. h.class) cs

-- how the first of two hands of five cards compares with the second
unfoldable pub five_compared : List ℕ → List ℕ → Result Comparison Refusal
five_compared cs ds = compared 5 five_hand five_order cs ds
