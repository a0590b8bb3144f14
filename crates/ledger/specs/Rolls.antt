-- What a roll keeps, what it has places for, and what keeping a record does to it.
use Rattle.std.specs.Prelude.{◌≡◌, ℕ, ◌-◌, Bool, cond, List, [], ◌∷◌, ◌++◌, length, take, drop, Ok, Err, count_by, Result, ◌==◌, nat_eq, slice_set}
use Rattle.std.specs.Borrow.{GName}
use Rattle.refusals.specs.Refusals.{refused}
use Rattle.refusals.specs.declared.Cause.TheVariants.{NoPlaceFree}
use Rattle.refusals.specs.declared.Refusal.{Refusal}
use Rattle.ledger.specs.declared.rolls.Roll.{Roll}

-- what the lent slice holds, place by place
abbrev pub lent : {R : Type 0} → Roll R → List R
lent r = r.slots.now

-- which slice was lent: the same one from a roll's making to its end
abbrev pub slice_of : {R : Type 0} → Roll R → GName
slice_of r = r.slots.ghost_name

-- the records that a roll keeps, in order
abbrev pub kept : {R : Type 0} → Roll R → List R
kept r = take r.len (lent r)

-- how many records it has places for
abbrev pub places : {R : Type 0} → Roll R → ℕ
places r = length (lent r)

-- how many places are free
abbrev pub free : {R : Type 0} → Roll R → ℕ
free r = places r - length (kept r)

-- whether no place is free
abbrev pub full : {R : Type 0} → Roll R → Bool
full r = free r == 0

-- what is kept after a record was handed in: it goes to the end, but nowhere in a full roll
abbrev pub kept_with : {R : Type 0} → Roll R → R → List R
kept_with r x = cond (full r) (kept r) (kept r ++ x ∷ [])

-- what the lent slice holds then: the record at the place after the last kept one, and every other place as before
abbrev pub lent_with : {R : Type 0} → Roll R → R → List R
lent_with r x = cond (full r) (lent r) (slice_set (lent r) (length (kept r)) x)

-- what the roll answers then
abbrev pub keep_answer : {R : Type 0} → Roll R → Result (Unit {0}) Refusal
keep_answer r = cond (full r) (Err (refused NoPlaceFree 0)) (Ok tt)

-- how many records of a list name this seat, where a record names the seat that is told first
abbrev pub count_of : {R : Type 0} → (R → ℕ) → ℕ → List R → ℕ
count_of seat_of seat rs = count_by (λ x. nat_eq (seat_of x) seat) rs

-- a roll after these records were written behind those it kept: what lies past them is as before, on the same lent slice
pub record Written {R : Type 0} (r r' : Roll R) (xs : List R) : Type 0 where
  pub kept_then : kept r' ≡ kept r ++ xs
  pub beyond : drop (length (kept r')) (lent r') ≡ drop (length (kept r')) (lent r)
  pub as_many : places r' ≡ places r
  pub same_slice : slice_of r' ≡ slice_of r
