-- A seat's five stakes: their sum by its places, and what it bounds.
use Rattle.std.proofs.Common.{◌≡◌, ℕ, ◌+◌, ◌<◌, ◌≤◌, List, length, get_or, sum, ap, ⊎_elim, arith}
use Rattle.std.proofs.lemmas.List.{get_or_past}
use Rattle.std.proofs.lemmas.List.Sums.{get_or-le-sum_by}
use Rattle.std.proofs.lemmas.Bool.{cases_lt}
use Rattle.game.specs.Rules.{Small}
use Rattle.game.proofs.Five.{five_places}

-- the sum of five stakes, place by place
pub sum_by_places : (stakes : List ℕ) → length stakes ≡ 5 → sum stakes ≡ get_or stakes 0 0 + get_or stakes 1 0 + get_or stakes 2 0 + get_or stakes 3 0 + get_or stakes 4 0
sum_by_places stakes h = omega (arith, ap sum (five_places stakes h))

-- a stake is at most the sum
pub stake_le_sum : (stakes : List ℕ) (i : ℕ) → get_or stakes i 0 ≤ sum stakes
stake_le_sum stakes i =
    ⊎_elim (λ (h : i < length stakes). get_or-le-sum_by (λ x. x) stakes i 0 h) (λ (h : length stakes ≤ i). omega (arith, get_or_past stakes i 0 h)) (cases_lt i (length stakes))

-- a seat without stakes has none at any place
pub no_stake_at : (stakes : List ℕ) → sum stakes ≡ 0 → (i : ℕ) → get_or stakes i 0 ≡ 0
no_stake_at stakes none i = omega (arith, stake_le_sum stakes i)

-- five stakes of at most a million add up to at most five million
pub sum_of_small : (stakes : List ℕ) → Small stakes → sum stakes ≤ 5000000
sum_of_small stakes s =
    omega (arith, sum_by_places stakes s.five, s.each 0, s.each 1, s.each 2, s.each 3, s.each 4)
