-- Whether cards are a lawful deal.
use Rattle.std.specs.Prelude.{ℕ, Bool, cond, Ok, Err, Result, ◌==◌}
use Rattle.game.specs.declared.dealing.Misdeal.{Misdeal}
use Rattle.game.specs.declared.dealing.Misdeal.TheVariants.{NoCard, WrongCount}

-- the judgement of a deal, by whether each card may stand in it, and how many there are and are called for
abbrev pub judged : Bool → ℕ → ℕ → Result (Unit {0}) Misdeal
judged may_stand count called = cond may_stand (cond (count == called) (Ok tt) (Err WrongCount)) (Err NoCard)
