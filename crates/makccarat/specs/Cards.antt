-- Lists of cards, and what a card counts.
use Rattle.std.specs.Prelude.{ℕ, Bool, cond, List, ◌==◌, nat_le}
use Rattle.std.specs.List.{list_all}
use Rattle.grading.specs.Cards.{rank_of, is_card}

-- whether every byte is a card
abbrev pub are_cards : List ℕ → Bool
are_cards bs = list_all is_card bs

-- the points of a card: an ace 1, a rank up to 9 as it is, the rest nothing
abbrev pub points : ℕ → ℕ
points b = cond (rank_of b == 14) 1 (cond (nat_le (rank_of b) 9) (rank_of b) 0)
