-- What writing a command at a place of a buffer answers and leaves.
use Rattle.std.specs.Prelude.{◌≡◌, ℕ, ◌+◌, ◌≤◌, Bool, false, List, [], ◌∷◌, ◌++◌, length, take, drop, Some, None, Ok, Err, Option, Result, nat_lt}
use Rattle.std.specs.Borrow.{Bor}
use Rattle.std.specs.List.{flat_map}
use Rattle.refusals.specs.declared.Cause.{Cause}
use Rattle.refusals.specs.declared.Cause.TheVariants.{CutShort, BadDeal}
use Rattle.refusals.specs.declared.Refusal.{Refusal}
use Rattle.refusals.specs.Refusals.{first_cause}
use Rattle.commands.specs.Calls.{Call, Open, Buy, Cash, Fill, Draw, Bet, Deal, Raise, Leave, Settle, Void}
use Rattle.sheet.specs.Format.{width_of}
use Rattle.sheet.specs.Reading.{longest, read_at, unless}

-- a Deal of more than forty cards cannot be written
abbrev pub too_many : Call → Bool
too_many (Open conditions tray) = false
too_many (Buy seat amount) = false
too_many (Cash seat amount) = false
too_many (Fill amount) = false
too_many (Draw amount) = false
too_many (Bet seat space amount) = false
too_many (Deal cards) = nat_lt 40 (length cards)
too_many (Raise seat) = false
too_many (Leave seat) = false
too_many Settle = false
too_many Void = false

-- what can be wrong with writing a call at a place of a buffer, in the order in which causes go first
abbrev pub write_faults : List ℕ → ℕ → Call → List (Bool × Cause)
write_faults out at c = (nat_lt (length out) (at + width_of c), CutShort) ∷ (too_many c, BadDeal) ∷ []

-- the place behind the call, or a refusal
abbrev pub write_at : List ℕ → ℕ → Call → Result ℕ Refusal
write_at out at c = unless (first_cause (write_faults out at c)) (at + width_of c)

-- parts, one behind another
abbrev pub joined : List (Bor (List ℕ)) → List ℕ
joined parts = flat_map (λ part. part.now) parts

-- a buffer with bytes put at a place, and everything else as before
abbrev pub with_bytes : List ℕ → ℕ → List ℕ → List ℕ
with_bytes out at bs = take at out ++ (bs ++ drop (at + length bs) out)

-- the buffer after an answer: with the bytes put, or as it was
abbrev pub buffer_after : {A : Type 0} → Result A Refusal → List ℕ → ℕ → List ℕ → List ℕ
buffer_after (Ok place) out at bs = with_bytes out at bs
buffer_after (Err e) out at bs = out

-- what was written reads back as the same call, at its place of a sheet that is not too long
abbrev pub ReadsBack : {A : Type 0} → Result A Refusal → List ℕ → ℕ → Call → Type 0
ReadsBack (Ok place) out at c = length out ≤ longest → read_at out at ≡ Ok (Some c)
ReadsBack (Err e) out at c = Unit {0}

-- what was written, in a buffer of any length, is the same call when its bytes alone are read as a sheet
abbrev pub ReadsAlone : {A : Type 0} → Result A Refusal → List ℕ → ℕ → Call → Type 0
ReadsAlone (Ok place) out at c = read_at (take (width_of c) (drop at out)) 0 ≡ Ok (Some c)
ReadsAlone (Err e) out at c = Unit {0}

-- a command that was read is written wherever a buffer has room for it
abbrev pub IsWritable : Result (Option Call) Refusal → Type 0
IsWritable (Ok None) = Unit {0}
IsWritable (Ok (Some c)) = (out : List ℕ) (at : ℕ) → at + width_of c ≤ length out → write_at out at c ≡ Ok (at + width_of c)
IsWritable (Err e) = Unit {0}
