-- Opening a game of Fortune from the conditions of a table.
use Rattle.std.specs.Prelude.{◌≡◌, ℕ, Bool, true, ◌&&◌, List, Result, MatchResult, ◌==◌}
use Rattle.refusals.specs.declared.Refusal.{Refusal}
use Rattle.game.specs.Opening.{Refuses}
use Rattle.poker.specs.declared.fortune.posted.Fortune.{Fortune}
use Rattle.game.specs.Odds.{all_postable}

-- what Fortune asks of cap and odds: no cap, and odds that may all be posted
abbrev pub fortune_conditions : ℕ → List ℕ → Bool
fortune_conditions cap odds = cap == 0 && all_postable odds

-- the game that is opened: at these odds, with this way of grading
pub record Opens {G : Type 0} (grading : G) (cap : ℕ) (odds : List ℕ) (g : Fortune G) : Type 0 where
  pub met : fortune_conditions cap odds ≡ true
  pub graded : g.grading ≡ grading
  pub posts : g.odds ≡ odds

-- what opening answers
abbrev pub Opened : {G : Type 0} → G → ℕ → List ℕ → Result (Fortune G) Refusal → Type 0
Opened grading cap odds r = MatchResult r (Opens grading cap odds) (Refuses (fortune_conditions cap odds))
