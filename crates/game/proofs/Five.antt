-- Lists of five, place by place.
use Rattle.std.proofs.Common.{◌≡◌, ℕ, List, [], ◌∷◌, length, get_or, refl, arith}

-- five numbers are those at places 0 to 4
pub five_places : (xs : List ℕ) → length xs ≡ 5 → xs ≡ get_or xs 0 0 ∷ get_or xs 1 0 ∷ get_or xs 2 0 ∷ get_or xs 3 0 ∷ get_or xs 4 0 ∷ []
five_places (a ∷ b ∷ c ∷ d ∷ e ∷ []) five = refl
five_places [] five = absurd (omega arith)
five_places (a ∷ []) five = absurd (omega arith)
five_places (a ∷ b ∷ []) five = absurd (omega arith)
five_places (a ∷ b ∷ c ∷ []) five = absurd (omega arith)
five_places (a ∷ b ∷ c ∷ d ∷ []) five = absurd (omega arith)
five_places (a ∷ b ∷ c ∷ d ∷ e ∷ f ∷ xs) five = absurd (omega arith)
