-- One card more, and whether the cards are different still.
use Rattle.std.proofs.Common.{◌≡◌, ℕ, ◌+◌, Bool, true, false, cond, ◌&&◌, eqb, List, [], ◌∷◌, ◌++◌, sym, refl, ap, ◌∙◌, add-zero, arith}
use Rattle.std.specs.List.{list_all}
use Rattle.std.proofs.lemmas.Bool.{and_parts}
use Rattle.std.proofs.lemmas.Bool.Decides.{nat_tests}
use Rattle.std.proofs.lemmas.List.{append-nil, append_assoc}
use Rattle.std.proofs.lemmas.List.Folds.{list_all-append}
use Rattle.std.proofs.lemmas.List.Sums.{sum_by-append, sum_by-cons}
use Rattle.grading.specs.Cards.{is_card, copies_of, is_single_card, different_cards}
use Rattle.grading.proofs.Each.{list_all_is_each}

-- a byte more stands there once more, or as often as before
pub copies_snoc : (d c : ℕ) (cs : List ℕ) → copies_of d (cs ++ c ∷ []) ≡ copies_of d cs + cond (eqb c d) 1 0
copies_snoc d c cs =
    sum_by-append (λ x. cond (eqb x d) 1 0) cs (c ∷ [])
    ∙ ap (λ n. copies_of d cs + n) (sum_by-cons (λ x. cond (eqb x d) 1 0) c [] ∙ add-zero (cond (eqb c d) 1 0))

none_here : (t : Bool) (n : ℕ) → cond t 1 0 + n ≡ 0 → (t ≡ false) × (n ≡ 0)
none_here true n e = absurd (omega (arith, e))
none_here false n e = (refl, omega (arith, e))

other_way : (x c : ℕ) → eqb x c ≡ false → eqb c x ≡ false
other_way x c e = grind (arith, nat_tests)

itself : (c : ℕ) → eqb c c ≡ true
itself c = grind (arith, nat_tests)

-- a byte more that is none of these leaves each of them single, or not
apart : (c : ℕ) (cs xs : List ℕ) → copies_of c xs ≡ 0 → list_all (is_single_card (cs ++ c ∷ [])) xs ≡ list_all (is_single_card cs) xs
apart c cs [] e = refl
apart c cs (x ∷ xs) e =
    let parts = none_here (eqb x c) (copies_of c xs) (sym (sum_by-cons (λ d. cond (eqb d c) 1 0) x xs) ∙ e) in
    let same : copies_of x (cs ++ c ∷ []) ≡ copies_of x cs =
    copies_snoc x c cs ∙ ap (λ t. copies_of x cs + cond t 1 0) (other_way x c parts.0) ∙ add-zero (copies_of x cs) in
    λ i. (is_card x && eqb (same i) 1) && apart c cs xs parts.1 i

and_true : (b : Bool) → (b && true) ≡ b
and_true true = refl
and_true false = refl

and_false : (b : Bool) → (b && false) ≡ false
and_false true = refl
and_false false = refl

module _ (cs : List ℕ) (c : ℕ) where
  abbrev single : ℕ → Bool
  single = is_single_card (cs ++ c ∷ [])

  last_single : (t : Bool) → eqb (copies_of c cs) 0 ≡ t → eqb (copies_of c (cs ++ c ∷ [])) 1 ≡ t
  last_single t e =
      ap (λ n. eqb n 1) (copies_snoc c c cs ∙ ap (λ u. copies_of c cs + cond u 1 0) (itself c))
      ∙ (let one_more : (n : ℕ) → eqb (n + 1) 1 ≡ eqb n 0 = λ n. grind (arith, nat_tests) in one_more (copies_of c cs))
      ∙ e

  all_single : (t : Bool) → eqb (copies_of c cs) 0 ≡ t → list_all single (cs ++ c ∷ []) ≡ (list_all (is_single_card cs) cs && (is_card c && t))
  all_single true e =
      let none : copies_of c cs ≡ 0 = grind (arith, nat_tests) in
      list_all-append single cs (c ∷ [])
      ∙ (λ i. apart c cs cs none i && ((is_card c && last_single true e i) && true))
      ∙ ap (λ b. list_all (is_single_card cs) cs && b) (and_true (is_card c && true))
  all_single false e =
      list_all-append single cs (c ∷ [])
      ∙ (λ i. list_all single cs && ((is_card c && last_single false e i) && true))
      ∙ (λ i. list_all single cs && (and_false (is_card c) i && true))
      ∙ and_false (list_all single cs)
      ∙ sym (and_false (list_all (is_single_card cs) cs))
      ∙ ap (λ b. list_all (is_single_card cs) cs && b) (sym (and_false (is_card c)))

  -- cards and one more are different where the cards are, and it is a card that is none of them
  pub different_snoc : different_cards (cs ++ c ∷ []) ≡ (different_cards cs && (is_card c && eqb (copies_of c cs) 0))
  unfolding different_cards
  different_snoc =
      sym (list_all_is_each single (cs ++ c ∷ []))
      ∙ all_single (eqb (copies_of c cs) 0) refl
      ∙ ap (λ b. b && (is_card c && eqb (copies_of c cs) 0)) (list_all_is_each (is_single_card cs) cs)

-- the first of different cards are different
pub different_front : (xs ys : List ℕ) → different_cards (xs ++ ys) ≡ true → different_cards xs ≡ true
different_front xs [] e = ap different_cards (sym (append-nil xs)) ∙ e
different_front xs (y ∷ ys) e =
    let longer : different_cards (xs ++ y ∷ []) ≡ true = different_front (xs ++ y ∷ []) ys (ap different_cards (append_assoc xs (y ∷ []) ys) ∙ e) in
    (and_parts (different_cards xs) (is_card y && eqb (copies_of y xs) 0) (sym (different_snoc xs y) ∙ longer)).0
