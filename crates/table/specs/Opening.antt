-- What opening a table answers: a newly opened table, or why there is none.
use Rattle.std.specs.Prelude.{◌≡◌, ℕ, Bool, ◌||◌, List, [], ◌∷◌, Some, None, Ok, Err, Option, Result, ◌==◌, nat_lt}
use Rattle.game.specs.declared.interface.Game.{Ghosts}
use Rattle.refusals.specs.declared.Cause.{Cause}
use Rattle.refusals.specs.declared.Refusal.{Refusal}
use Rattle.refusals.specs.Refusals.{first_cause, refused}
use Rattle.refusals.specs.declared.Cause.TheVariants.{TotalTooLarge, BadConditions}
use Rattle.table.specs.declared.holdings.Table.{Table}
use Rattle.table.specs.declared.opening.Opening.{Opening}
use Rattle.table.specs.Holdings.{limit}
use Rattle.table.specs.Promise.{opened, Reached}
use Rattle.table.specs.Soundness.{Sound}

-- a stake's bounds are broken: 1 ≤ minimum ≤ maximum ≤ 1,000,000 does not hold
abbrev pub bad_bounds : ℕ → ℕ → Bool
bad_bounds minimum maximum = minimum == 0 || (nat_lt maximum minimum || nat_lt 1000000 maximum)

-- why a table is not opened
abbrev pub open_causes : Opening → List (Bool × Cause)
open_causes o = (nat_lt limit o.tray, TotalTooLarge) ∷ (bad_bounds o.minimum o.maximum, BadConditions) ∷ []

-- the refusal of a cause, if there is one; opening names no seat
abbrev pub refused_by : Option Cause → Option Refusal
refused_by None = None
refused_by (Some c) = Some (refused c 0)

-- a newly opened table, to which the empty history leads; or the refusal of the first cause that holds
abbrev pub Opened : {G : Type 0} (g : Ghosts G) → G → Opening → Result (Table G g) Refusal → Type 0
Opened g game o (Ok t) = (first_cause (open_causes o) ≡ None) × (t.game ≡ game) × (t.books ≡ opened o) × Sound (g.rules t.game) t.books × Reached (g.rules game) o [] t.books
Opened g game o (Err e) = Some e ≡ refused_by (first_cause (open_causes o))
