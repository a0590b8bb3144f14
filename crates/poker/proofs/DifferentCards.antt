-- A part of different cards is different cards.
use Rattle.std.proofs.Common.{if◌then◌else◌, ◌==◌, nat_eq, ◌≡◌, ℕ, ◌+◌, ◌<◌, ◌≤◌, Bool, true, false, List, [], ◌∷◌, length, take, drop, count_by, refl, ap, ◌∙◌, arith}
use Rattle.std.proofs.lemmas.List.{length-take, length-drop}
use Rattle.std.proofs.lemmas.List.Sums.{count_by-le-length, sum_by-cons, sum_by-take-drop}
use Rattle.std.proofs.lemmas.Bool.{and_parts, and_from, eqb-true, eq-eqb}
use Rattle.grading.specs.Cards.{is_card, copies_of, is_single_card, different_cards}

-- one element more counts one more, if it passes
count_next : (p : ℕ → Bool) (x : ℕ) (xs : List ℕ) → count_by p (x ∷ xs) ≡ (if p x then 1 else 0) + count_by p xs
count_next p x xs = sum_by-cons (λ y. if p y then 1 else 0) x xs

-- a part holds an element at most as often as the whole
count_of_part : (p : ℕ → Bool) (m n : ℕ) (xs : List ℕ) → count_by p (take n (drop m xs)) ≤ count_by p xs
count_of_part p m n xs =
    omega (
      arith,
      sum_by-take-drop (λ x. if p x then 1 else 0) xs m,
      sum_by-take-drop (λ x. if p x then 1 else 0) (drop m xs) n,
    )

-- if all of a list pass, so do all of a part of it
all_of_part : (p : ℕ → Bool) (m n : ℕ) (xs : List ℕ) → count_by p xs ≡ length xs → count_by p (take n (drop m xs)) ≡ length (take n (drop m xs))
all_of_part p m n xs all =
    omega (
      arith,
      all,
      sum_by-take-drop (λ x. if p x then 1 else 0) xs m,
      sum_by-take-drop (λ x. if p x then 1 else 0) (drop m xs) n,
      count_by-le-length p (take m xs),
      count_by-le-length p (take n (drop m xs)),
      count_by-le-length p (drop n (drop m xs)),
      length-take m xs,
      length-drop m xs,
      length-take n (drop m xs),
      length-drop n (drop m xs),
    )

-- if all of a list pass one test, and what stands in it and passes that test passes another, all pass the other
all_pass_too : (p q : ℕ → Bool) (xs : List ℕ) → ((x : ℕ) → 0 < copies_of x xs → p x ≡ true → q x ≡ true) → count_by p xs ≡ length xs → count_by q xs ≡ length xs
all_pass_too p q [] so all = refl
all_pass_too p q (x ∷ xs) so all =
    let more : (y : ℕ) → copies_of y xs ≤ copies_of y (x ∷ xs) = λ y. omega (arith, count_next (λ z. nat_eq z y) x xs) in
    let here : 0 < copies_of x (x ∷ xs) = omega (arith, count_next (λ z. nat_eq z x) x xs ∙ ap (λ b. (if b then 1 else 0) + copies_of x xs) (eq-eqb x x refl)) in
    first_passes (p x) refl (so x here) (all_pass_too p q xs (λ y some. so y (omega (arith, more y, some))))
  where
    first_passes : (b : Bool) → p x ≡ b → (p x ≡ true → q x ≡ true) → (count_by p xs ≡ length xs → count_by q xs ≡ length xs) → count_by q (x ∷ xs) ≡ length (x ∷ xs)
    first_passes true passes too rest =
        let one : count_by p (x ∷ xs) ≡ 1 + count_by p xs = count_next p x xs ∙ ap (λ b. (if b then 1 else 0) + count_by p xs) passes in
        let other : count_by q (x ∷ xs) ≡ 1 + count_by q xs = count_next q x xs ∙ ap (λ b. (if b then 1 else 0) + count_by q xs) (too passes) in
        omega (arith, other, rest (omega (arith, one, all)))
    first_passes false fails too rest =
        let none : count_by p (x ∷ xs) ≡ 0 + count_by p xs = count_next p x xs ∙ ap (λ b. (if b then 1 else 0) + count_by p xs) fails in
        absurd (omega (arith, none, all, count_by-le-length p xs))

-- a part of different cards is different cards
pub different_in_part : (m n : ℕ) (cs : List ℕ) → different_cards cs ≡ true → different_cards (take n (drop m cs)) ≡ true
unfolding different_cards
different_in_part m n cs different =
    let all : count_by (is_single_card cs) cs ≡ length cs = eqb-true (count_by (is_single_card cs) cs) (length cs) different in
    let still : (c : ℕ) → 0 < copies_of c (take n (drop m cs)) → is_single_card cs c ≡ true → is_single_card (take n (drop m cs)) c ≡ true
    = λ c some single.
    let p = and_parts (is_card c) (copies_of c cs == 1) single in
    let once : copies_of c (take n (drop m cs)) ≡ 1 = omega (arith, some, eqb-true (copies_of c cs) 1 p.1, count_of_part (λ d. nat_eq d c) m n cs) in
    and_from (is_card c) (copies_of c (take n (drop m cs)) == 1) p.0 (eq-eqb (copies_of c (take n (drop m cs))) 1 once) in
    eq-eqb (count_by (is_single_card (take n (drop m cs))) (take n (drop m cs))) (length (take n (drop m cs)))
    (all_pass_too (is_single_card cs) (is_single_card (take n (drop m cs))) (take n (drop m cs)) still (all_of_part (is_single_card cs) m n cs all))
