-- Each byte passes a test, or one does: as the library's words have it, and as the counts of cards have it.
use Rattle.std.proofs.Common.{◌≡◌, ℕ, suc, ◌+◌, ◌*◌, ◌<◌, ◌≤◌, Bool, true, false, cond, not, ◌&&◌, ◌||◌, eqb, List, [], ◌∷◌, length, get_or, count_by, zero-add, sym, refl, ap, ◌∙◌, ⊎_elim, arith}
use Rattle.std.specs.List.{list_all, list_any}
use Rattle.std.proofs.lemmas.List.Folds.{list_all_at}
use Rattle.std.proofs.lemmas.List.Sums.{count_by-le-length, sum_by-cons}
use Rattle.std.proofs.lemmas.Bool.{both_ways, cases_Bool, ne_eqb}
use Rattle.std.proofs.lemmas.Bool.Decides.{nat_tests}
use Rattle.grading.specs.Cards.{each, copies_of, is_of, holds}

one_more : (b : Bool) (n m : ℕ) → n ≤ m → (b && eqb n m) ≡ eqb (cond b 1 0 + n) (suc m)
one_more true n m h = grind (arith, nat_tests)
one_more false n m h = sym (ne_eqb (0 + n) (suc m) (λ e. omega (arith, e)))

pub list_all_is_each : (p : ℕ → Bool) (cs : List ℕ) → list_all p cs ≡ each p cs
list_all_is_each p [] = refl
list_all_is_each p (c ∷ cs) =
    ap (λ b. p c && b) (list_all_is_each p cs)
    ∙ one_more (p c) (count_by p cs) (length cs) (count_by-le-length p cs)
    ∙ ap (λ n. eqb n (length (c ∷ cs))) (sym (sum_by-cons (λ x. cond (p x) 1 0) c cs))

-- each byte passes, so the byte at i does
pub at_each : (p : ℕ → Bool) (cs : List ℕ) (i : ℕ) → each p cs ≡ true → i < length cs → p (get_or cs i 0) ≡ true
at_each p cs i all h =
    ⊎_elim
    (λ passes. passes)
    (λ fails. absurd (both_ways (list_all p cs) (list_all_at p cs i 0 h fails) (list_all_is_each p cs ∙ all)))
    (cases_Bool (p (get_or cs i 0)))

of_rank_and_suit : (c r s : ℕ) → s < 16 → is_of r s c ≡ eqb c (16 * r + s)
of_rank_and_suit c r s h = grind (arith, nat_tests)

or_more : (b : Bool) (n : ℕ) → (b || not (eqb n 0)) ≡ not (eqb (cond b 1 0 + n) 0)
or_more true n = ap not (sym (ne_eqb (1 + n) 0 (λ e. omega (arith, e))))
or_more false n = ap (λ m. not (eqb m 0)) (sym (zero-add n))

-- a card of this rank and suit is among the cards
pub any_is_held : (r s : ℕ) → s < 16 → (cs : List ℕ) → list_any (is_of r s) cs ≡ holds cs r s
any_is_held r s h [] = refl
any_is_held r s h (c ∷ cs) =
    (λ i. of_rank_and_suit c r s h i || any_is_held r s h cs i)
    ∙ or_more (eqb c (16 * r + s)) (copies_of (16 * r + s) cs)
    ∙ ap (λ n. not (eqb n 0)) (sym (sum_by-cons (λ d. cond (eqb d (16 * r + s)) 1 0) c cs))
