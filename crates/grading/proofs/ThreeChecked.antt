-- At all ranks of three cards, from the highest: the code's class and ranks are the rule's, and the cards are of that class and of no other.
use Rattle.std.proofs.Common.{◌≡◌, ℕ, zero, suc, ◌+◌, ◌-◌, ◌<◌, ◌≤◌, Bool, true, false, T, eqb, [], ◌∷◌, Option, refl, subst, arith, lit<, eqb→eq}
use Rattle.grading.specs.Ranks.{Held, held, runs_of_three, sequence}
use Rattle.grading.specs.Steps.{three_sorted}
use Rattle.grading.specs.Three.{three_is, three_class_by, three_hand_at, three_hand_by}
use Rattle.grading.specs.ThreeClasses.{three_below}
use Rattle.grading.specs.declared.three.ThreeHand.{ThreeHand}
use Rattle.grading.specs.declared.three_classes.ThreeClass.{ThreeClass}
use Rattle.grading.specs.declared.three_classes.ThreeClass.TheVariants.{StraightFlush, Three, Straight, Flush, Pair, OddCards}
use Rattle.grading.proofs.Alone.{Alone, Counted, tested, class_from_lower, alone}
use Rattle.grading.proofs.Finite.{both, both_left, both_right, below, below_at, same_list, list_from_same, among}

abbrev numbered : ℕ → ThreeClass
numbered zero = OddCards
numbered (suc zero) = Pair
numbered (suc (suc zero)) = Flush
numbered (suc (suc (suc zero))) = Straight
numbered (suc (suc (suc (suc zero)))) = Three
numbered (suc (suc (suc (suc (suc n))))) = StraightFlush

back : (k : ThreeClass) → numbered (three_below k) ≡ k
back StraightFlush = refl
back Three = refl
back Straight = refl
back Flush = refl
back Pair = refl
back OddCards = refl

few : (k : ThreeClass) → three_below k < 6
few StraightFlush = lit< tt
few Three = lit< tt
few Straight = lit< tt
few Flush = lit< tt
few Pair = lit< tt
few OddCards = lit< tt

counted : Counted three_below numbered 6
counted = record { back = back; few = few }

abbrev same : ThreeHand → ThreeHand → Bool
same g h = both (eqb (three_below g.class) (three_below h.class)) (same_list g.ranks h.ranks)

from_same : (g h : ThreeHand) → T (same g h) → g ≡ h
from_same g h t =
    let class : g.class ≡ h.class = class_from_lower three_below numbered 6 counted _ _ (eqb→eq _ _ (both_left _ _ t)) in
    let ranks : g.ranks ≡ h.ranks = list_from_same _ _ (both_right _ _ t) in
    λ i. record { class = class i; ranks = ranks i }

abbrev agrees_at : Bool → ℕ → ℕ → ℕ → Option ℕ → Held → ThreeClass → Bool
agrees_at level a b c head h k = both (same (three_sorted a b c level) (three_hand_at k head h)) (tested three_below numbered 6 (λ j. three_is j head h level) k)

abbrev agrees_by : Bool → ℕ → ℕ → ℕ → Option ℕ → Held → Bool
agrees_by level a b c head h = agrees_at level a b c head h (three_class_by head h level)

abbrev agrees_of : Bool → ℕ → ℕ → ℕ → Held → Bool
agrees_of level a b c h = agrees_by level a b c (sequence runs_of_three h.ones) h

abbrev agrees : Bool → ℕ → ℕ → ℕ → Bool
agrees level a b c = agrees_of level a b c (held (among (a ∷ b ∷ c ∷ [])))

abbrev at_c : Bool → ℕ → ℕ → ℕ → Bool
at_c level a b c = agrees level (a + 2) (b + 2) (c + 2)

abbrev at_b : Bool → ℕ → ℕ → Bool
at_b level a b = below (suc b) (at_c level a b)

abbrev at_a : Bool → ℕ → Bool
at_a level a = below (suc a) (at_b level a)

-- the test, at the 455 choices of three ranks from the highest; cards of one suit apart, since the steps of a declaration are limited
suited : T (below 13 (at_a true))
unfolding held sequence
suited = tt

mixed : T (below 13 (at_a false))
unfolding held sequence
mixed = tt

every : (level : Bool) → T (below 13 (at_a level))
every true = suited
every false = mixed

-- ranks from the highest
pub record Falling (a b c : ℕ) : Type 0 where
  pub highest : a ≤ 14
  pub b_falls : b ≤ a
  pub c_falls : c ≤ b
  pub lowest : 2 ≤ c

at_ranks : (level : Bool) (a b c : ℕ) → Falling a b c → T (agrees level a b c)
at_ranks level a b c f =
    let back_up : (n : ℕ) → 2 ≤ n → n - 2 + 2 ≡ n = λ n h. omega arith in
    let t_a : T (at_a level (a - 2)) = below_at 13 (at_a level) (every level) (a - 2) (omega arith) in
    let t_b : T (at_b level (a - 2) (b - 2)) = below_at (suc (a - 2)) (at_b level (a - 2)) t_a (b - 2) (omega arith) in
    let t_c : T (at_c level (a - 2) (b - 2) (c - 2)) = below_at (suc (b - 2)) (at_c level (a - 2) (b - 2)) t_b (c - 2) (omega arith) in
    let s_a = subst (λ x. T (agrees level x (b - 2 + 2) (c - 2 + 2))) (back_up a (omega arith)) t_c in
    let s_b = subst (λ x. T (agrees level a x (c - 2 + 2))) (back_up b (omega arith)) s_a in
    subst (λ x. T (agrees level a b x)) (back_up c (omega arith)) s_b

-- cards that hold these ranks are of the class that the rule gives them, and of no other
abbrev pub Only : Bool → Held → Type 0
Only level h = Alone (λ j. three_is j (sequence runs_of_three h.ones) h level) (three_class_by (sequence runs_of_three h.ones) h level)

-- the code's class and ranks are the rule's
pub sorted_is_rule : (level : Bool) (a b c : ℕ) → Falling a b c → three_sorted a b c level ≡ three_hand_by (sequence runs_of_three (held (among (a ∷ b ∷ c ∷ []))).ones) (held (among (a ∷ b ∷ c ∷ []))) level
sorted_is_rule level a b c f = from_same _ _ (both_left _ _ (at_ranks level a b c f))

-- the cards are of the class that the rule gives them, and of no other
pub of_one_class : (level : Bool) (a b c : ℕ) → Falling a b c → Only level (held (among (a ∷ b ∷ c ∷ [])))
of_one_class level a b c f = alone three_below numbered 6 counted _ _ (both_right _ _ (at_ranks level a b c f))
