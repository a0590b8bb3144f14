-- A round of Makccarat: how many cards it calls for, the final totals and who wins. A card that is not there counts no points.
use Rattle.std.specs.Prelude.{ℕ, ◌%◌, Bool, false, cond, ◌||◌, List, [], ◌∷◌, ◌++◌, length, Some, None, sum_by, Option, Result, ◌==◌, nat_le, nat_lt, slice_index}
use Rattle.game.specs.declared.dealing.Misdeal.{Misdeal}
use Rattle.game.specs.Dealing.{judged}
use Rattle.grading.specs.Cards.{rank_of}
use Rattle.makccarat.specs.declared.side.Side.{Side}
use Rattle.makccarat.specs.declared.side.Side.TheVariants.{Player, Banker}
use Rattle.makccarat.specs.declared.way.Way.{Way}
use Rattle.makccarat.specs.Cards.{are_cards, points}
use Rattle.makccarat.specs.Sides.{other, same}
use Rattle.makccarat.specs.Ways.{adds_when_level}

-- the total of a hand: the last digit of its points
abbrev pub total : List ℕ → ℕ
total hand = sum_by points hand % 10

-- the first two cards of a side: cards come player, banker, player, banker
abbrev pub first_two : List ℕ → Side → List ℕ
first_two cs Player = slice_index cs 0 ∷ slice_index cs 2 ∷ []
first_two cs Banker = slice_index cs 1 ∷ slice_index cs 3 ∷ []

-- a side's total over its first two cards
abbrev pub first_total : List ℕ → Side → ℕ
first_total cs s = total (first_two cs s)

-- the fifth card and the sixth: those that are added
abbrev pub fifth : List ℕ → ℕ
fifth cs = slice_index cs 4

abbrev pub sixth : List ℕ → ℕ
sixth cs = slice_index cs 5

-- who adds a card first, by the first totals: no one where a side has 8 or 9, else the lower, and the player where they are equal
abbrev pub first_adder : ℕ → ℕ → Option Side
first_adder player banker = cond (nat_le 8 player || nat_le 8 banker) None (Some (cond (nat_le player banker) Player Banker))

-- whether the other side adds a card too, by the adder's total before its card and after it and the other's total: where they were equal at first, or the adder is now higher, or now level in the first way
abbrev pub answers : Way → ℕ → ℕ → ℕ → Bool
answers w before after across = before == across || nat_lt across after || cond (after == across) (adds_when_level w) false

-- whether the other side adds a card too, once this side has added the fifth
abbrev pub answered : Way → List ℕ → Side → Bool
answered w cs s = answers w (first_total cs s) (total (first_two cs s ++ fifth cs ∷ [])) (first_total cs (other s))

-- who adds a card first
abbrev pub adder : List ℕ → Option Side
adder cs = first_adder (first_total cs Player) (first_total cs Banker)

-- the number of cards that are called for, by who adds first
abbrev pub called_after : Way → List ℕ → Option Side → ℕ
called_after w cs None = 4
called_after w cs (Some s) = cond (answered w cs s) 6 5

-- the number of cards that a round calls for
abbrev pub called : Way → List ℕ → ℕ
called w cs = called_after w cs (adder cs)

-- the cards that a side adds, by who adds first: that one the fifth, the other the sixth if it adds one too
abbrev pub added_after : Way → List ℕ → Side → Option Side → List ℕ
added_after w cs s None = []
added_after w cs s (Some t) = cond (same s t) (fifth cs ∷ []) (cond (answered w cs t) (sixth cs ∷ []) [])

-- a side's total over all its cards
abbrev pub final_total : Way → List ℕ → Side → ℕ
final_total w cs s = total (first_two cs s ++ added_after w cs s (adder cs))

-- the side with the higher total; none at a tie
abbrev pub higher : ℕ → ℕ → Option Side
higher player banker = cond (nat_lt banker player) (Some Player) (cond (nat_lt player banker) (Some Banker) None)

-- who wins: the higher final total
abbrev pub winner : Way → List ℕ → Option Side
winner w cs = higher (final_total w cs Player) (final_total w cs Banker)

-- whether a side's first two cards are a pair: of one rank
abbrev pub pair : List ℕ → Side → Bool
pair cs Player = rank_of (slice_index cs 0) == rank_of (slice_index cs 2)
pair cs Banker = rank_of (slice_index cs 1) == rank_of (slice_index cs 3)

-- whether the cards are a lawful deal: all of them cards, and as many as are called for
abbrev pub dealing : Way → List ℕ → Result (Unit {0}) Misdeal
dealing w cs = judged (are_cards cs) (length cs) (called w cs)
