-- The total of signed amounts and their limit, one record on. Assumes nothing.
use Rattle.std.proofs.Common.{◌≡◌, ℕ, suc, ◌+◌, ◌<◌, ◌≤◌, true, ◌&&◌, List, length, get_or, drop, ℤ, pos, negsuc, ◌+ℤ◌, neg_ℤ, ◌≤ℤ◌, sym, ap, ◌∙◌, arith}
use Rattle.std.proofs.lemmas.List.{at_drop_more}
use Rattle.std.proofs.lemmas.Int.{ints}
use Rattle.std.proofs.lemmas.Bool.{leb-true}
use Rattle.ledger.specs.Sums.{most_amount, within, all_within, total_of}

-- an amount within its limit, as two orders
pub within_bounds : (z : ℤ) → within z ≡ true → (neg_ℤ (pos most_amount) ≤ℤ z) × (z ≤ℤ pos most_amount)
within_bounds (pos n) h = let le : n ≤ most_amount = leb-true _ _ h in (omega (arith, ints), omega (arith, ints))
within_bounds (negsuc n) h = let le : suc n ≤ most_amount = leb-true _ _ h in (omega (arith, ints), omega (arith, ints))

module _ {X : Type 0} (amount_of : X → ℤ) (xs : List X) (i : ℕ) (x : X) (lt : i < length xs) (is : x ≡ get_or xs i x) where
  pub total_more : total_of amount_of (drop i xs) ≡ amount_of x +ℤ total_of amount_of (drop (i + 1) xs)
  total_more = at_drop_more (total_of amount_of) xs i x lt ∙ ap (λ y. amount_of y +ℤ total_of amount_of (drop (i + 1) xs)) (sym is)

  pub within_more : within (amount_of x) ≡ true → all_within amount_of (drop i xs) ≡ all_within amount_of (drop (i + 1) xs)
  within_more h = at_drop_more (all_within amount_of) xs i x lt ∙ ap (λ y. within (amount_of y) && all_within amount_of (drop (i + 1) xs)) (sym is) ∙ ap (λ b. b && all_within amount_of (drop (i + 1) xs)) h
