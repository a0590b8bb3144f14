-- The two ways: how they add a card, and their odds.
use Rattle.std.specs.Prelude.{ℕ, Bool, true, false, ◌&&◌, List, ◌==◌, slice_index}
use Rattle.game.specs.Odds.{postable}
use Rattle.makccarat.specs.declared.way.Way.{Way}
use Rattle.makccarat.specs.declared.way.Way.TheVariants.{First, Second}

-- whether a side that is level with the one that just added adds a card itself
abbrev pub adds_when_level : Way → Bool
adds_when_level First = true
adds_when_level Second = false

-- whether a way may pay these odds on a tie and on pairs: 14 and 11 in the first way, posted ones in the second
abbrev pub lawful_odds : Way → ℕ → ℕ → Bool
lawful_odds First tie pairs = tie == 14 && pairs == 11
lawful_odds Second tie pairs = postable tie && postable pairs

-- a field that is not in use holds 0
abbrev pub unused : List ℕ → ℕ → Bool
unused odds i = slice_index odds i == 0

-- what a way asks of cap and odds at opening: nothing given in the first way; in the second the odds of a tie and of pairs, and nothing else
abbrev pub conditions : Way → ℕ → List ℕ → Bool
conditions First cap odds = cap == 0 && unused odds 0 && unused odds 1 && unused odds 2 && unused odds 3 && unused odds 4
conditions Second cap odds = cap == 0 && postable (slice_index odds 0) && postable (slice_index odds 1) && unused odds 2 && unused odds 3 && unused odds 4

-- the odds that a way pays on a tie, by those given at opening
abbrev pub tie_odds : Way → List ℕ → ℕ
tie_odds First odds = 14
tie_odds Second odds = slice_index odds 0

-- the odds that it pays on a pair
abbrev pub pair_odds : Way → List ℕ → ℕ
pair_odds First odds = 11
pair_odds Second odds = slice_index odds 1
