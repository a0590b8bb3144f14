-- Whether cards hold a rank.
use Rattle.std.specs.Prelude.{ℕ, Bool, ◌&&◌, List, nat_le}
use Rattle.std.specs.List.{list_any}
use Rattle.grading.specs.Cards.{rank_of}

-- whether a card's rank is from low to high
abbrev pub between : ℕ → ℕ → ℕ → Bool
between low high c = nat_le low (rank_of c) && nat_le (rank_of c) high

-- whether one of the cards is of a rank from low to high
abbrev pub one_between : ℕ → ℕ → List ℕ → Bool
one_between low high cs = list_any (between low high) cs
