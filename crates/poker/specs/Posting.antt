-- The largest of five odds, and caps that may be posted.
use Rattle.std.specs.Prelude.{ℕ, max, Bool, ◌&&◌, List, nat_le, slice_index}

-- the largest of five odds
abbrev pub largest : List ℕ → ℕ
largest odds = max (slice_index odds 0) (max (slice_index odds 1) (max (slice_index odds 2) (max (slice_index odds 3) (slice_index odds 4))))

-- a cap that may be posted: 1 to 1,000,000,000
abbrev pub cap_postable : ℕ → Bool
cap_postable cap = nat_le 1 cap && nat_le cap 1000000000
