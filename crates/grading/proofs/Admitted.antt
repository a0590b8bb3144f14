-- Whether bytes are admitted as hands, and the answer that follows.
use Rattle.std.proofs.Common.{◌≡◌, ℕ, Bool, true, false, not, ◌&&◌, ◌||◌, eqb, List, [], ◌∷◌, length, Some, None, Ok, Err, Option, Result, refl, ap, arith}
use mathlib.Core.Bool.{false≢true}
use Rattle.refusals.specs.Refusals.{refused, first_cause}
use Rattle.refusals.specs.declared.Cause.{Cause}
use Rattle.refusals.specs.declared.Cause.TheVariants.{NoCard, WrongCount}
use Rattle.refusals.specs.declared.Refusal.{Refusal}
use Rattle.grading.specs.Admission.{is_hand, hand_causes, hands_causes, unless}
use Rattle.grading.specs.Cards.{different_cards}

module _ {X Y : Type 0} where
  -- the same cause refuses another answer
  pub refused_too : (o : Option Cause) (x : X) (y : Y) (e : Refusal) → Err e ≡ unless o x → Err e ≡ unless o y
  refused_too None x y e h = let z : ◌≡◌ {A = ℕ} 0 1 = cc in absurd (omega arith)
  refused_too (Some cause) x y e h = let same : e ≡ refused cause 0 = cc in ap Err same

  -- where one answer is given, so is another
  pub given_too : (o : Option Cause) (x z : X) (y : Y) → Ok z ≡ unless o x → Ok y ≡ unless o y
  given_too None x z y h = refl
  given_too (Some cause) x z y h = let w : ◌≡◌ {A = ℕ} 0 1 = cc in absurd (omega arith)

-- by whether the bytes are different cards, and whether they are as many as called for
abbrev by_tests : {X : Type 0} → Bool → Bool → X → Result X Refusal
by_tests cards count x = unless (first_cause ((not cards, NoCard) ∷ (not count, WrongCount) ∷ [])) x

module _ {X : Type 0} where
  hand_from : (cards count : Bool) (x y : X) → by_tests cards count x ≡ Ok y → ((cards && count) ≡ true) × (x ≡ y)
  hand_from true true x y h = let e : x ≡ y = cc in (refl, e)
  hand_from true false x y h = let w : ◌≡◌ {A = ℕ} 0 1 = cc in absurd (omega arith)
  hand_from false count x y h = let w : ◌≡◌ {A = ℕ} 0 1 = cc in absurd (omega arith)

  no_hand_from : (cards count : Bool) (x : X) (e : Refusal) → by_tests cards count x ≡ Err e → (cards && count) ≡ false
  no_hand_from true true x e h = let w : ◌≡◌ {A = ℕ} 0 1 = cc in absurd (omega arith)
  no_hand_from true false x e h = refl
  no_hand_from false count x e h = refl

  given_from : (cards count : Bool) (x : X) → (cards && count) ≡ true → by_tests cards count x ≡ Ok x
  given_from true true x h = refl
  given_from true false x h = absurd (false≢true h)
  given_from false count x h = absurd (false≢true h)

  -- an answer is given only for n different cards, and is the one for them
  pub admitted : (n : ℕ) (cs : List ℕ) (x y : X) → unless (first_cause (hand_causes n cs)) x ≡ Ok y → (is_hand n cs ≡ true) × (x ≡ y)
  admitted n cs x y h = hand_from (different_cards cs) (eqb (length cs) n) x y h

  -- a refusal comes only where the bytes are not n different cards
  pub not_admitted : (n : ℕ) (cs : List ℕ) (x : X) (e : Refusal) → unless (first_cause (hand_causes n cs)) x ≡ Err e → is_hand n cs ≡ false
  not_admitted n cs x e h = no_hand_from (different_cards cs) (eqb (length cs) n) x e h

  -- for n different cards the answer is given
  pub answered : (n : ℕ) (cs : List ℕ) (x : X) → is_hand n cs ≡ true → unless (first_cause (hand_causes n cs)) x ≡ Ok x
  answered n cs x h = given_from (different_cards cs) (eqb (length cs) n) x h

  both_tests : (c c' n n' : Bool) (x : X) → (c && n) ≡ true → (c' && n') ≡ true → unless (first_cause ((not c || not c', NoCard) ∷ (not n || not n', WrongCount) ∷ [])) x ≡ Ok x
  both_tests true true true true x h k = refl
  both_tests true true true false x h k = absurd (false≢true k)
  both_tests true false true n' x h k = absurd (false≢true k)
  both_tests true c' false n' x h k = absurd (false≢true h)
  both_tests false c' n n' x h k = absurd (false≢true h)

  -- for two hands of n different cards the answer is given
  pub both_answered : (n : ℕ) (cs ds : List ℕ) (x : X) → is_hand n cs ≡ true → is_hand n ds ≡ true → unless (first_cause (hands_causes n cs ds)) x ≡ Ok x
  both_answered n cs ds x h k = both_tests (different_cards cs) (different_cards ds) (eqb (length cs) n) (eqb (length ds) n) x h k

  tests_of_both : (c c' n n' : Bool) (x y : X) → unless (first_cause ((not c || not c', NoCard) ∷ (not n || not n', WrongCount) ∷ [])) x ≡ Ok y → ((c && n) ≡ true) × ((c' && n') ≡ true)
  tests_of_both true true true true x y h = (refl, refl)
  tests_of_both true true true false x y h = let w : ◌≡◌ {A = ℕ} 0 1 = cc in absurd (omega arith)
  tests_of_both true true false n' x y h = let w : ◌≡◌ {A = ℕ} 0 1 = cc in absurd (omega arith)
  tests_of_both true false n n' x y h = let w : ◌≡◌ {A = ℕ} 0 1 = cc in absurd (omega arith)
  tests_of_both false c' n n' x y h = let w : ◌≡◌ {A = ℕ} 0 1 = cc in absurd (omega arith)

  -- an answer for two hands is given only where both are n different cards
  pub both_admitted : (n : ℕ) (cs ds : List ℕ) (x y : X) → unless (first_cause (hands_causes n cs ds)) x ≡ Ok y → (is_hand n cs ≡ true) × (is_hand n ds ≡ true)
  both_admitted n cs ds x y h = tests_of_both (different_cards cs) (different_cards ds) (eqb (length cs) n) (eqb (length ds) n) x y h

or_comm : (a b : Bool) → (a || b) ≡ (b || a)
or_comm true true = refl
or_comm true false = refl
or_comm false true = refl
or_comm false false = refl

-- the causes do not depend on which hand comes first
pub causes_swapped : (n : ℕ) (cs ds : List ℕ) → first_cause (hands_causes n ds cs) ≡ first_cause (hands_causes n cs ds)
causes_swapped n cs ds =
    let cards = or_comm (not (different_cards ds)) (not (different_cards cs)) in
    let counts = or_comm (not (eqb (length ds) n)) (not (eqb (length cs) n)) in
    λ i. first_cause ((cards i, NoCard) ∷ (counts i, WrongCount) ∷ [])
