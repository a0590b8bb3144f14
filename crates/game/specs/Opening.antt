-- What a game asks of the conditions that it is opened with.
use Rattle.std.specs.Prelude.{◌≡◌, Bool, false, Ok, Err, Result, if◌then◌else◌}
use Rattle.refusals.specs.declared.Refusal.{Refusal}
use Rattle.refusals.specs.declared.Cause.TheVariants.{BadConditions}
use Rattle.refusals.specs.Refusals.{refused}

-- the refusal of conditions that are not met, which names no seat
abbrev pub broken_conditions : Refusal
broken_conditions = refused BadConditions 0

-- conditions are admitted where they are met
abbrev pub admitted : Bool → Result (Unit {0}) Refusal
admitted met = if met then Ok tt else Err broken_conditions

-- a refusal of conditions: they are not met, and it is the one of such conditions
pub record Refuses (met : Bool) (e : Refusal) : Type 0 where
  pub broken : met ≡ false
  pub refusal : e ≡ broken_conditions
