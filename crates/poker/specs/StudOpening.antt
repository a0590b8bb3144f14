-- Opening a game of Stud from the conditions of a table.
use Rattle.std.specs.Prelude.{◌≡◌, ℕ, Bool, true, ◌&&◌, List, Result, MatchResult}
use Rattle.refusals.specs.declared.Refusal.{Refusal}
use Rattle.game.specs.Opening.{Refuses}
use Rattle.poker.specs.declared.stud.posted.Stud.{Stud}
use Rattle.game.specs.Odds.{all_unused}
use Rattle.poker.specs.Posting.{cap_postable}

-- what Stud asks of cap and odds: a cap that may be posted, and no odds
abbrev pub stud_conditions : ℕ → List ℕ → Bool
stud_conditions cap odds = cap_postable cap && all_unused odds

-- the game that is opened: at this cap
pub record Opens (cap : ℕ) (odds : List ℕ) (g : Stud) : Type 0 where
  pub met : stud_conditions cap odds ≡ true
  pub posts : g.cap ≡ cap

-- what opening answers
abbrev pub Opened : ℕ → List ℕ → Result Stud Refusal → Type 0
Opened cap odds r = MatchResult r (Opens cap odds) (Refuses (stud_conditions cap odds))
