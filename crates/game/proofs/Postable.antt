-- What odds that may be posted are at most.
use Rattle.std.proofs.Common.{◌≡◌, ℕ, zero, suc, ◌≤◌, true, List, [], ◌∷◌, get_or, arith}
use Rattle.std.proofs.lemmas.List.{get_or_past}
use Rattle.std.proofs.lemmas.Bool.{and_parts, leb-true}
use Rattle.std.specs.Prelude.{nat_le}
use Rattle.game.specs.Odds.{postable, all_postable}

-- odds that may be posted are at most 1,000
pub postable_le : (n : ℕ) → postable n ≡ true → n ≤ 1000
postable_le n h = leb-true n 1000 (and_parts (nat_le 1 n) (nat_le n 1000) h).1

-- so is each of some odds that all may be posted
pub postable_at : (odds : List ℕ) → all_postable odds ≡ true → (i : ℕ) → get_or odds i 0 ≤ 1000
postable_at [] h i = omega (arith, get_or_past {X = ℕ} [] i 0 (omega arith))
postable_at (x ∷ xs) h zero = postable_le x (and_parts (postable x) (all_postable xs) h).0
postable_at (x ∷ xs) h (suc i) = postable_at xs (and_parts (postable x) (all_postable xs) h).1 i
