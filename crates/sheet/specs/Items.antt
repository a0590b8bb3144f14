-- What a sheet means from a place on: its commands with their places, in order; where a command cannot be read, the fault, and nothing behind it.
use Rattle.std.specs.Prelude.{ℕ, zero, suc, ◌+◌, List, [], ◌∷◌, length, Some, None, Ok, Err, Option, Result}
use Rattle.refusals.specs.declared.Refusal.{Refusal}
use Rattle.commands.specs.Calls.{Call}
use Rattle.sheet.specs.Format.{width_of}
use Rattle.sheet.specs.Reading.{read_at}

-- a command at the place of its first byte, or why none can be read there
pub data Item : Type 0 where
  command : ℕ → Call → Item
  fault : ℕ → Refusal → Item

-- what was read at a place, and then the items behind it
abbrev pub item_and : (ℕ → List Item) → ℕ → Result (Option Call) Refusal → List Item
item_and more p (Ok None) = []
item_and more p (Ok (Some c)) = command p c ∷ more (p + width_of c)
item_and more p (Err e) = fault p e ∷ []

-- at most so many items of a sheet, from a place on
abbrev pub items : ℕ → List ℕ → ℕ → List Item
items zero sheet p = []
items (suc n) sheet p = item_and (items n sheet) p (read_at sheet p)

-- all of them: a sheet has no more items than bytes
abbrev pub items_of : List ℕ → ℕ → List Item
items_of sheet p = items (length sheet) sheet p

-- the calls that items make, in order
abbrev pub calls_in : List Item → List Call
calls_in [] = []
calls_in (command p c ∷ is) = c ∷ calls_in is
calls_in (fault p e ∷ is) = calls_in is
