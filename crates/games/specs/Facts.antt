-- Any of the games keeps what every game promises, as each of them does.
use Rattle.game.specs.Rules.{Facts, RaiseSpace}
use Rattle.poker.specs.FortuneFacts.{facts_of as fortune_facts, raise_space_of as fortune_space}
use Rattle.poker.specs.StudFacts.{facts_of as stud_facts, raise_space_of as stud_space}
use Rattle.makccarat.specs.Facts.{facts_of as makccarat_facts, raise_space_of as makccarat_space}
use Rattle.games.specs.Rules.{rules_of}
use Rattle.games.specs.declared.any_game.AnyGame.{AnyGame}
use Rattle.games.specs.declared.any_game.AnyGame.TheVariants.{Fortune, Stud, Makccarat}

pub facts_of : (g : AnyGame) → Facts (rules_of g)
facts_of (Fortune g) = fortune_facts g
facts_of (Stud g) = stud_facts g
facts_of (Makccarat g) = makccarat_facts g

pub raise_space_of : (g : AnyGame) → RaiseSpace (rules_of g)
raise_space_of (Fortune g) = fortune_space g
raise_space_of (Stud g) = stud_space g
raise_space_of (Makccarat g) = makccarat_space g
