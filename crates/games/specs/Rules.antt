-- What any of the games tells.
use Rattle.game.specs.Rules.{Rules}
use Rattle.poker.specs.Fortune.{rules_of as fortune_of}
use Rattle.poker.specs.Stud.{rules_of as stud_of}
use Rattle.makccarat.specs.Payment.{rules_of as makccarat_of}
use Rattle.games.specs.declared.any_game.AnyGame.{AnyGame}
use Rattle.games.specs.declared.any_game.AnyGame.TheVariants.{Fortune, Stud, Makccarat}

-- what the game at hand tells
abbrev pub rules_of : AnyGame → Rules
rules_of (Fortune g) = fortune_of g
rules_of (Stud g) = stud_of g
rules_of (Makccarat g) = makccarat_of g
