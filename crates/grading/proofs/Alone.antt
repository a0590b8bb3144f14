-- Classes told by how many are lower: what a test of all of them says.
use Rattle.std.proofs.Common.{◌≡◌, ℕ, ◌<◌, Bool, T, true, eqb, sym, ap, ◌∙◌, subst, eqb→eq}
use Rattle.grading.proofs.Finite.{both, both_left, both_right, implies, implied, true_from_T, below, below_at}

-- cards of the class k, and of no other
pub record Alone {K : Type 0} (is : K → Bool) (k : K) : Type 0 where
  pub is_of : is k ≡ true
  pub no_other : (j : K) → is j ≡ true → j ≡ k

-- as many classes as are counted, each with its number
pub record Counted {K : Type 0} (lower : K → ℕ) (numbered : ℕ → K) (count : ℕ) : Type 0 where
  pub back : (k : K) → numbered (lower k) ≡ k
  pub few : (k : K) → lower k < count

module _ {K : Type 0} (lower : K → ℕ) (numbered : ℕ → K) (count : ℕ) where
  -- cards of the class j are of the class k
  abbrev within : (K → Bool) → K → K → Bool
  within is k j = implies (is j) (eqb (lower j) (lower k))

  -- cards are of the class k, and of whatever class they are, it is k
  abbrev pub tested : (K → Bool) → K → Bool
  tested is k = both (is k) (below count (λ n. within is k (numbered n)))

  module _ (counted : Counted lower numbered count) where
    -- classes above equally many are one class
    pub class_from_lower : (j k : K) → lower j ≡ lower k → j ≡ k
    class_from_lower j k e = sym (counted.back j) ∙ ap numbered e ∙ counted.back k

    pub alone : (is : K → Bool) (k : K) → T (tested is k) → Alone is k
    alone is k t =
        let none = both_right (is k) (below count (λ n. within is k (numbered n))) t in
        let at : (j : K) → T (within is k j) = λ j. subst (λ x. T (within is k x)) (counted.back j) (below_at count (λ n. within is k (numbered n)) none (lower j) (counted.few j)) in
        record {
          is_of = true_from_T (is k) (both_left (is k) (below count (λ n. within is k (numbered n))) t);
          no_other = λ j e. class_from_lower j k (eqb→eq (lower j) (lower k) (implied (is j) (eqb (lower j) (lower k)) (at j) e));
        }
