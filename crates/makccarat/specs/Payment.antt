-- What the spaces return and what they may cost the bank.
use Rattle.std.specs.Prelude.{ℕ, ◌*◌, Bool, false, cond, ◌||◌, List, [], ◌∷◌, Some, None, Ok, Err, sum, Option, Result, ◌==◌, nat_lt, slice_index}
use Rattle.game.specs.Odds.{won}
use Rattle.game.specs.Rules.{Rules}
use Rattle.game.specs.declared.taking.Barred.{Barred}
use Rattle.game.specs.declared.taking.Barred.TheVariants.{NoBets, NoCompanion}
use Rattle.makccarat.specs.declared.posted.Makccarat.{Makccarat}
use Rattle.makccarat.specs.declared.side.Side.{Side}
use Rattle.makccarat.specs.declared.side.Side.TheVariants.{Player, Banker}
use Rattle.makccarat.specs.Sides.{same}
use Rattle.makccarat.specs.Round.{winner, pair, dealing}

-- the stake on a space
abbrev pub player_stake : List ℕ → ℕ
player_stake stakes = slice_index stakes 0

abbrev pub banker_stake : List ℕ → ℕ
banker_stake stakes = slice_index stakes 1

abbrev pub tie_stake : List ℕ → ℕ
tie_stake stakes = slice_index stakes 2

abbrev pub player_pair_stake : List ℕ → ℕ
player_pair_stake stakes = slice_index stakes 3

abbrev pub banker_pair_stake : List ℕ → ℕ
banker_pair_stake stakes = slice_index stakes 4

-- the return of a stake on a side: at 1 to 1 if that side wins, the stake at a tie
abbrev pub side_return : Option Side → Side → ℕ → ℕ
side_return None s stake = stake
side_return (Some t) s stake = cond (same t s) (won stake 1) 0

-- the return of a stake on the tie
abbrev pub tie_return : Option Side → ℕ → ℕ → ℕ
tie_return None odds stake = won stake odds
tie_return (Some t) odds stake = 0

-- the return of a stake on a pair, whoever wins
abbrev pub pair_return : Bool → ℕ → ℕ → ℕ
pair_return held odds stake = cond held (won stake odds) 0

-- the returns of the five spaces
abbrev pub space_returns : Makccarat → List ℕ → List ℕ → List ℕ
space_returns g stakes cs =
    side_return (winner g.way cs) Player (player_stake stakes)
    ∷ side_return (winner g.way cs) Banker (banker_stake stakes)
    ∷ tie_return (winner g.way cs) g.tie (tie_stake stakes)
    ∷ pair_return (pair cs Player) g.pairs (player_pair_stake stakes)
    ∷ pair_return (pair cs Banker) g.pairs (banker_pair_stake stakes)
    ∷ []

-- the ceilings of the five spaces: each stake times its odds
abbrev pub space_ceilings : Makccarat → List ℕ → List ℕ
space_ceilings g stakes =
    player_stake stakes * 1
    ∷ banker_stake stakes * 1
    ∷ tie_stake stakes * g.tie
    ∷ player_pair_stake stakes * g.pairs
    ∷ banker_pair_stake stakes * g.pairs
    ∷ []

-- whether a seat has a stake on player, banker or tie, the companion that a pair's stake needs
abbrev pub companion : List ℕ → Bool
companion stakes = nat_lt 0 (player_stake stakes) || nat_lt 0 (banker_stake stakes) || nat_lt 0 (tie_stake stakes)

-- the spaces: player, banker and tie take a stake always, the pairs beside a companion
abbrev pub takes : List ℕ → ℕ → Result (Unit {0}) Barred
takes stakes space =
    cond (space == 1 || space == 2 || space == 3) (Ok tt)
    (cond (space == 4 || space == 5) (cond (companion stakes) (Ok tt) (Err NoCompanion)) (Err NoBets))

-- what Makccarat tells: no choice, and a return and a lawful deal for which it is all one who stakes
abbrev pub rules_of : Makccarat → Rules
rules_of g = record {
  takes = takes;
  deals = λ d. dealing g.way d.cards;
  chooses = λ stakes. false;
  leaves = λ stakes. false;
  raise = λ stakes. 0;
  returns = λ seat stakes c d. sum (space_returns g stakes d.cards);
  ceiling = λ stakes. sum (space_ceilings g stakes);
}
