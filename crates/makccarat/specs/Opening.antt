-- Opening a game of Makccarat from the conditions of a table.
use Rattle.std.specs.Prelude.{◌≡◌, ℕ, true, List, Result, MatchResult}
use Rattle.refusals.specs.declared.Refusal.{Refusal}
use Rattle.game.specs.Opening.{Refuses}
use Rattle.makccarat.specs.declared.posted.Makccarat.{Makccarat}
use Rattle.makccarat.specs.declared.way.Way.{Way}
use Rattle.makccarat.specs.Ways.{conditions, tie_odds, pair_odds}

-- the game that is opened: of this way, at its odds
pub record Opens (w : Way) (cap : ℕ) (odds : List ℕ) (g : Makccarat) : Type 0 where
  pub met : conditions w cap odds ≡ true
  pub way : g.way ≡ w
  pub tie : g.tie ≡ tie_odds w odds
  pub pairs : g.pairs ≡ pair_odds w odds

-- what opening answers
abbrev pub Opened : Way → ℕ → List ℕ → Result Makccarat Refusal → Type 0
Opened w cap odds r = MatchResult r (Opens w cap odds) (Refuses (conditions w cap odds))
