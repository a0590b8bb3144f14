-- A test over all numbers below a bound, computed, and what it says of each of them.
use Rattle.std.proofs.Common.{◌≡◌, ℕ, zero, suc, ◌<◌, Bool, true, false, T, eqb, List, [], ◌∷◌, count_by, refl, subst, ⊎_elim, not-suc-le-zero, arith, eqb→eq}
use Rattle.std.proofs.lemmas.Bool.{cases_lt}

abbrev pub both : Bool → Bool → Bool
both true b = b
both false b = false

pub both_left : (a b : Bool) → T (both a b) → T a
both_left true b t = tt
both_left false b t = t

pub both_right : (a b : Bool) → T (both a b) → T b
both_right true b t = t
both_right false b t = absurd t

abbrev pub implies : Bool → Bool → Bool
implies true b = b
implies false b = true

pub implied : (a b : Bool) → T (implies a b) → a ≡ true → T b
implied a b t e = subst (λ (x : Bool). T (implies x b)) e t

pub true_from_T : (a : Bool) → T a → a ≡ true
true_from_T true t = refl
true_from_T false t = absurd t

-- f passes at each number below n
abbrev pub below : ℕ → (ℕ → Bool) → Bool
below zero f = true
below (suc n) f = both (f n) (below n f)

pub below_at : (n : ℕ) (f : ℕ → Bool) → T (below n f) → (k : ℕ) → k < n → T (f k)
below_at zero f t k h = absurd (not-suc-le-zero h)
below_at (suc n) f t k h =
    ⊎_elim
    (λ lt. below_at n f (both_right (f n) (below n f) t) k lt)
    (λ ge. let e : n ≡ k = omega arith in subst (λ (m : ℕ). T (f m)) e (both_left (f n) (below n f) t))
    (cases_lt k n)

-- equal lists of numbers, by a test
abbrev pub same_list : List ℕ → List ℕ → Bool
same_list [] [] = true
same_list [] (y ∷ ys) = false
same_list (x ∷ xs) [] = false
same_list (x ∷ xs) (y ∷ ys) = both (eqb x y) (same_list xs ys)

pub list_from_same : (xs ys : List ℕ) → T (same_list xs ys) → xs ≡ ys
list_from_same [] [] t = refl
list_from_same [] (y ∷ ys) t = absurd t
list_from_same (x ∷ xs) [] t = absurd t
list_from_same (x ∷ xs) (y ∷ ys) t =
    let e : x ≡ y = eqb→eq x y (both_left (eqb x y) (same_list xs ys) t) in
    let es : xs ≡ ys = list_from_same xs ys (both_right (eqb x y) (same_list xs ys) t) in
    cc

-- how often a rank is among these
abbrev pub among : List ℕ → ℕ → ℕ
among rs r = count_by (λ x. eqb x r) rs
