-- What the sum of the signed amounts of records is, and when it is refused.
use Rattle.std.specs.Prelude.{ℕ, Bool, true, cond, ◌&&◌, List, [], ◌∷◌, length, ℤ, pos, ◌+ℤ◌, Some, None, Ok, Err, Option, Result, nat_le, unsigned_abs}
use Rattle.refusals.specs.Refusals.{refused}
use Rattle.refusals.specs.declared.Cause.TheVariants.{TotalTooLarge}
use Rattle.refusals.specs.declared.Refusal.{Refusal}

-- the most that one amount may be, either way
abbrev pub most_amount : ℕ
most_amount = 1000000000000

-- the most records that are summed
abbrev pub most_records : ℕ
most_records = 1000000

-- whether an amount stays within its limit, either way
abbrev pub within : ℤ → Bool
within z = nat_le (unsigned_abs z) most_amount

-- whether every record's amount does
abbrev pub all_within : {R : Type 0} → (R → ℤ) → List R → Bool
all_within amount_of [] = true
all_within amount_of (x ∷ xs) = within (amount_of x) && all_within amount_of xs

-- the amounts of all records, added
abbrev pub total_of : {R : Type 0} → (R → ℤ) → List R → ℤ
total_of amount_of [] = pos 0
total_of amount_of (x ∷ xs) = amount_of x +ℤ total_of amount_of xs

-- the sum of records by an amount: the total, or a refusal where there are too many records or one amount passes its limit
abbrev pub summed : {R : Type 0} → (R → ℤ) → List R → Result ℤ Refusal
summed amount_of xs = cond (nat_le (length xs) most_records && all_within amount_of xs) (Ok (total_of amount_of xs)) (Err (refused TotalTooLarge 0))

-- the total, where every amount is within its limit
abbrev pub total_within : {R : Type 0} → (R → ℤ) → List R → Option ℤ
total_within amount_of xs = cond (all_within amount_of xs) (Some (total_of amount_of xs)) None
