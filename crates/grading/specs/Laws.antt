-- Laws of grading: the order of the cards does not matter, each hand is of one class only, and a higher class beats a lower one.
use Rattle.std.specs.Prelude.{◌≡◌, ℕ, ◌<◌, Bool, true, false, List, Some, None, Ok, Err, Option, Result, IfErr, MatchResult}
use Rattle.std.specs.List.Sorted.{IsPermutation}
use Rattle.refusals.specs.Refusals.{Answers}
use Rattle.refusals.specs.declared.Cause.{Cause}
use Rattle.refusals.specs.declared.Refusal.{Refusal}
use Rattle.grading.specs.Admission.{is_hand}
use Rattle.grading.specs.Five.{five_of}
use Rattle.grading.specs.Order.{turned_about}
use Rattle.grading.specs.Three.{three_of}
use Rattle.grading.specs.declared.comparisons.Comparison.{Comparison}
use Rattle.grading.specs.declared.comparisons.Comparison.TheVariants.{Higher}
use Rattle.grading.specs.declared.five_classes.FiveClass.{FiveClass}
use Rattle.grading.specs.declared.three_classes.ThreeClass.{ThreeClass}

-- the answer for these cards is the answer for them in any other order
abbrev pub InAnyOrder : {X : Type 0} → (List ℕ → X) → List ℕ → X → Type 0
InAnyOrder f cs r = (es : List ℕ) → IsPermutation cs es → f es ≡ r

-- the answer for these two hands is the answer for them with each in any other order
abbrev pub InAnyOrders : {X : Type 0} → (List ℕ → List ℕ → X) → List ℕ → List ℕ → X → Type 0
InAnyOrders f cs ds r = (es fs : List ℕ) → IsPermutation cs es → IsPermutation ds fs → f es fs ≡ r

-- cards are of the class k, and of no other
pub record Only {K : Type 0} (is_of : K → List ℕ → Bool) (cs : List ℕ) (k : K) : Type 0 where
  pub is : is_of k cs ≡ true
  pub no_other : (j : K) → is_of j cs ≡ true → j ≡ k

-- three cards are of the class k, and of no other
abbrev pub ThreeOnly : List ℕ → ThreeClass → Type 0
ThreeOnly cs k = Only three_of cs k

-- five cards are of the class k, and of no other
abbrev pub FiveOnly : List ℕ → FiveClass → Type 0
FiveOnly cs k = Only five_of cs k

-- n different cards have a class of which alone they are, and any other bytes have none
abbrev pub OfOneClass : {K : Type 0} → (List ℕ → K → Type 0) → ℕ → List ℕ → Result K Refusal → Type 0
OfOneClass Only n cs r = MatchResult r (λ k. (is_hand n cs ≡ true) × Only cs k) (λ _. is_hand n cs ≡ false)

-- a hand of a higher class is higher
abbrev pub HigherClassWins : {K : Type 0} → (K → ℕ) → (List ℕ → Result K Refusal) → List ℕ → List ℕ → Result Comparison Refusal → Type 0
HigherClassWins {K} below class cs ds r = (j k : K) → class cs ≡ Ok j → class ds ≡ Ok k → below k < below j → r ≡ Ok Higher

-- the cause that an answer names, if it is a refusal
abbrev pub cause_named : {X : Type 0} → Result X Refusal → Option Cause
cause_named (Ok x) = None
cause_named (Err refusal) = Some refusal.cause

-- of several causes the least is refused, and where none holds there is an answer; a refusal names no seat
pub record LeastRefused {X : Type 0} (causes : List (Bool × Cause)) (r : Result X Refusal) : Type 0 where
  pub answers : Answers causes (cause_named r)
  pub no_seat : IfErr r (λ refusal. refusal.seat ≡ 0)

-- an answer with the two hands swapped; a refusal stays
abbrev pub swapped : Result Comparison Refusal → Result Comparison Refusal
swapped (Ok answer) = Ok (turned_about answer)
swapped (Err refusal) = Err refusal
