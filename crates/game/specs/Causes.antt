-- Why a game refuses a stake or a deal.
use Rattle.std.specs.Prelude.{Some, None, Ok, Err, Option, Result}
use Rattle.refusals.specs.declared.Cause.{Cause}
use Rattle.refusals.specs.declared.Cause.TheVariants.{NoBets as bets_barred, NoCompanion as companion_missing, NoCard as card_wrong, WrongCount as count_wrong}
use Rattle.game.specs.declared.taking.Barred.{Barred}
use Rattle.game.specs.declared.taking.Barred.TheVariants.{NoBets, NoCompanion}
use Rattle.game.specs.declared.dealing.Misdeal.{Misdeal}
use Rattle.game.specs.declared.dealing.Misdeal.TheVariants.{NoCard, WrongCount}

-- why a stake is refused, if it is
abbrev pub taking_cause : Result (Unit {0}) Barred → Option Cause
taking_cause (Ok takes) = None
taking_cause (Err NoBets) = Some bets_barred
taking_cause (Err NoCompanion) = Some companion_missing

-- why a deal is refused, if it is
abbrev pub dealing_cause : Result (Unit {0}) Misdeal → Option Cause
dealing_cause (Ok lawful) = None
dealing_cause (Err NoCard) = Some card_wrong
dealing_cause (Err WrongCount) = Some count_wrong
