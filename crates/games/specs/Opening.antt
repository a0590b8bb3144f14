-- Opening a game by its number from the conditions of a table.
use Rattle.std.specs.Prelude.{◌≡◌, ℕ, Bool, ◌&&◌, ◌||◌, List, Result, MatchResult, ◌==◌}
use Rattle.refusals.specs.declared.Refusal.{Refusal}
use Rattle.game.specs.Opening.{Refuses}
use Rattle.poker.specs.FortuneOpening.{fortune_conditions, Opens as FortuneOpens}
use Rattle.poker.specs.StudOpening.{stud_conditions, Opens as StudOpens}
use Rattle.makccarat.specs.Opening.{Opens as MakccaratOpens}
use Rattle.makccarat.specs.Ways.{conditions as makccarat_conditions}
use Rattle.makccarat.specs.declared.way.Way.{Way}
use Rattle.makccarat.specs.declared.way.Way.TheVariants.{First, Second}
use Rattle.games.specs.declared.any_game.AnyGame.{AnyGame}
use Rattle.games.specs.declared.any_game.AnyGame.TheVariants.{Fortune, Stud, Makccarat}

-- Makccarat's number, by its way
abbrev pub way_number : Way → ℕ
way_number First = 3
way_number Second = 4

-- whether cap and odds are what the game of this number asks; there are no numbers but 1 to 4
abbrev pub conditions : ℕ → ℕ → List ℕ → Bool
conditions number cap odds =
    (number == 1 && fortune_conditions cap odds)
    || ((number == 2 && stud_conditions cap odds)
    || ((number == way_number First && makccarat_conditions First cap odds)
    || (number == way_number Second && makccarat_conditions Second cap odds)))

-- the game that is opened is the one of this number, at conditions that it asks for; Fortune grades by the rule
abbrev pub Opens : ℕ → ℕ → List ℕ → AnyGame → Type 0
Opens number cap odds (Fortune g) = (number ≡ 1) × FortuneOpens g.grading cap odds g
Opens number cap odds (Stud g) = (number ≡ 2) × StudOpens cap odds g
Opens number cap odds (Makccarat g) = (number ≡ way_number g.way) × MakccaratOpens g.way cap odds g

-- what opening answers
abbrev pub Opened : ℕ → ℕ → List ℕ → Result AnyGame Refusal → Type 0
Opened number cap odds r = MatchResult r (Opens number cap odds) (Refuses (conditions number cap odds))
