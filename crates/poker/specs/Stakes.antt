-- A seat's stakes by their names.
use Rattle.std.specs.Prelude.{ℕ, List, slice_index}

-- the stake on the ante
abbrev pub ante_stake : List ℕ → ℕ
ante_stake stakes = slice_index stakes 0

-- the stake on Pair Plus
abbrev pub pair_plus_stake : List ℕ → ℕ
pair_plus_stake stakes = slice_index stakes 2
