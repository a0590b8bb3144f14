-- The seven seats, and what a sound seat's raise may be.
use Rattle.std.proofs.Common.{◌≡◌, ℕ, zero, suc, ◌<◌, List, [], ◌∷◌, map, length, get_or, refl, ap, ◌∙◌, arith}
use Rattle.std.specs.List.{AllByRecursion as All}
use Rattle.table.specs.Holdings.{every}

-- what holds of the seven holds of each seat
pub seven : (P : ℕ → Type 0) → P 0 × P 1 × P 2 × P 3 × P 4 × P 5 × P 6 → (k : ℕ) → k < 7 → P k
seven P a zero lt = a.0
seven P a (suc zero) lt = a.1
seven P a (suc (suc zero)) lt = a.2
seven P a (suc (suc (suc zero))) lt = a.3
seven P a (suc (suc (suc (suc zero)))) lt = a.4
seven P a (suc (suc (suc (suc (suc zero))))) lt = a.5
seven P a (suc (suc (suc (suc (suc (suc zero)))))) lt = a.6
seven P a (suc (suc (suc (suc (suc (suc (suc k))))))) lt = absurd (omega arith)

pub every_at : (k : ℕ) → k < 7 → get_or every k 0 ≡ k
every_at k lt = seven (λ j. get_or every j 0 ≡ j) (refl, refl, refl, refl, refl, refl, refl) k lt

-- two functions that agree on a list
map_agree : {X Y : Type 0} (f h : X → Y) (xs : List X) → All (λ x. f x ≡ h x) xs → map f xs ≡ map h xs
map_agree f h [] a = refl
map_agree f h (x ∷ xs) a = ap (λ y. y ∷ map f xs) a.0 ∙ ap (λ ys. h x ∷ ys) (map_agree f h xs a.1)

pub every_agree : {Y : Type 0} (f h : ℕ → Y) → ((k : ℕ) → k < 7 → f k ≡ h k) → map f every ≡ map h every
every_agree f h e = map_agree f h every (e 0 (omega arith), (e 1 (omega arith), (e 2 (omega arith), (e 3 (omega arith), (e 4 (omega arith), (e 5 (omega arith), (e 6 (omega arith), tt)))))))

-- a list of seven, by its places
pub seven_places : {X : Type 0} (xs : List X) (d : X) → length xs ≡ 7 → xs ≡ map (λ k. get_or xs k d) every
seven_places [] d e = absurd (omega arith)
seven_places (a ∷ []) d e = absurd (omega arith)
seven_places (a ∷ b ∷ []) d e = absurd (omega arith)
seven_places (a ∷ b ∷ c ∷ []) d e = absurd (omega arith)
seven_places (a ∷ b ∷ c ∷ x ∷ []) d e = absurd (omega arith)
seven_places (a ∷ b ∷ c ∷ x ∷ y ∷ []) d e = absurd (omega arith)
seven_places (a ∷ b ∷ c ∷ x ∷ y ∷ z ∷ []) d e = absurd (omega arith)
seven_places (a ∷ b ∷ c ∷ x ∷ y ∷ z ∷ w ∷ []) d e = refl
seven_places (a ∷ b ∷ c ∷ x ∷ y ∷ z ∷ w ∷ v ∷ us) d e = absurd (omega arith)
