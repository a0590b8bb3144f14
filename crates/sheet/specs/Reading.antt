-- What the bytes of a sheet mean at a place: a command, the end of the sheet, or a refusal.
use Rattle.std.specs.Prelude.{◌≡◌, ℕ, zero, suc, ◌+◌, ◌<◌, Bool, cond, not, ◌&&◌, ◌||◌, List, [], ◌∷◌, ◌++◌, length, take, drop, Some, None, Ok, Err, Option, Result, ◌==◌, nat_le, nat_lt, slice_index}
use Rattle.std.specs.Borrow.{Bor}
use Rattle.std.specs.List.{list_all}
use Rattle.std.specs.Int.Digits.{number_from_digits}
use Rattle.refusals.specs.declared.Cause.{Cause}
use Rattle.refusals.specs.declared.Cause.TheVariants.{CutShort, UnknownByte, BadDeal, SheetTooLong}
use Rattle.refusals.specs.declared.Refusal.{Refusal}
use Rattle.refusals.specs.Refusals.{first_cause, refused}
use Rattle.commands.specs.declared.Conditions.{Conditions}
use Rattle.commands.specs.declared.Command.{Command}
use Rattle.commands.specs.Calls.{Call, Open, Buy, Cash, Fill, Draw, Bet, Deal, Raise, Leave, Settle, Void, call_of}
use Rattle.sheet.specs.Format.{width, width_of, bytes_of}

-- so many bytes from a place on
abbrev pub bytes_at : ℕ → ℕ → List ℕ → List ℕ
bytes_at zero i s = []
bytes_at (suc w) i s = slice_index s i ∷ bytes_at w (suc i) s

-- the number that so many bytes write from a place on
abbrev pub operand : List ℕ → ℕ → ℕ → ℕ
operand s i w = number_from_digits 256 (bytes_at w i s)

-- the number that so many bytes write at the front
abbrev pub number : ℕ → List ℕ → ℕ
number w s = operand s 0 w

-- what the first so many bytes mean, and the bytes behind them; too few bytes are a command cut short
abbrev pub Took : {A : Type 0} → (List ℕ → A) → ℕ → List ℕ → Result (A × Bor (List ℕ)) Cause → Type 0
Took meaning w s (Ok p) = (p.0 ≡ meaning s) × (length p.1.now + w ≡ length s) × (p.1.now ≡ drop w s)
Took meaning w s (Err e) = (length s < w) × (e ≡ CutShort)

-- five odds, two bytes each
abbrev pub odds_in : List ℕ → List ℕ
odds_in s = operand s 0 2 ∷ operand s 2 2 ∷ operand s 4 2 ∷ operand s 6 2 ∷ operand s 8 2 ∷ []

-- the conditions that the operands of an Open write
abbrev pub conditions_in : List ℕ → Conditions
conditions_in s = record {
  game = slice_index s 0;
  minimum = operand s 1 4;
  maximum = operand s 5 4;
  cap = operand s 9 8;
  odds = operand s 17 2 ∷ operand s 19 2 ∷ operand s 21 2 ∷ operand s 23 2 ∷ operand s 25 2 ∷ [];
}

-- the forty card bytes of a Deal, behind its count
abbrev pub row : List ℕ → List ℕ
row s = take 40 (drop 1 s)

abbrev pub all_zero : List ℕ → Bool
all_zero xs = list_all (λ x. x == 0) xs

-- a Deal that counts more than forty cards, or whose bytes behind the counted cards are not all 0
abbrev pub bad_deal : List ℕ → Bool
bad_deal s = nat_lt 40 (slice_index s 0) || not (all_zero (drop (slice_index s 0) (row s)))

-- what can be wrong with the operands of a Deal
abbrev pub deal_faults : List ℕ → List (Bool × Cause)
deal_faults s = (nat_lt (length s) 41, CutShort) ∷ (bad_deal s, BadDeal) ∷ []

-- the cards of a Deal taken from its operands, and how many bytes are left
abbrev pub Drawn : List ℕ → Result (Bor (List ℕ) × Bor (List ℕ)) Cause → Type 0
Drawn s (Ok p) = (first_cause (deal_faults s) ≡ None) × (p.0.now ≡ take (slice_index s 0) (row s)) × (length p.1.now + 41 ≡ length s)
Drawn s (Err e) = first_cause (deal_faults s) ≡ Some e

-- what can be wrong with a first byte and the bytes behind it, in the order in which causes go first
abbrev pub faults : ℕ → List ℕ → List (Bool × Cause)
faults first s =
    (nat_lt (length s + 1) (width first), CutShort)
    ∷ ((width first == 0), UnknownByte)
    ∷ (first == 0x44 && bad_deal s, BadDeal) ∷ []

-- the call that a first byte and its operands mean, where nothing is wrong with them
abbrev pub call_in : ℕ → List ℕ → Call
call_in first s =
    cond (first == 0x54) (Open (conditions_in s) (operand s 27 8))
    (cond (first == 0x49) (Buy (slice_index s 0) (operand s 1 8))
    (cond (first == 0x43) (Cash (slice_index s 0) (operand s 1 8))
    (cond (first == 0x46) (Fill (operand s 0 8))
    (cond (first == 0x57) (Draw (operand s 0 8))
    (cond (first == 0x42) (Bet (slice_index s 0) (slice_index s 1) (operand s 2 4))
    (cond (first == 0x44) (Deal (take (slice_index s 0) (row s)))
    (cond (first == 0x52) (Raise (slice_index s 0))
    (cond (first == 0x4C) (Leave (slice_index s 0))
    (cond (first == 0x53) Settle Void)))))))))

-- the refusal of the first cause that holds, or else the answer
abbrev pub unless : {A : Type 0} → Option Cause → A → Result A Refusal
unless (Some c) a = Err (refused c 0)
unless None a = Ok a

-- what a first byte and the bytes behind it mean
abbrev pub means : ℕ → List ℕ → Result Call Refusal
means first s = unless (first_cause (faults first s)) (call_in first s)

-- a sheet has at most so many bytes
abbrev pub longest : ℕ
longest = 65536

abbrev pub some_call : Result Call Refusal → Result (Option Call) Refusal
some_call (Ok c) = Ok (Some c)
some_call (Err e) = Err e

-- what a sheet means at a place; at its end, or past it, no command
abbrev pub read_at : List ℕ → ℕ → Result (Option Call) Refusal
read_at sheet p =
    cond (nat_lt longest (length sheet)) (Err (refused SheetTooLong 0))
    (cond (nat_le (length sheet) p) (Ok None) (some_call (means (slice_index sheet p) (drop (p + 1) sheet))))

-- what can be wrong with a sheet at a place, in the order in which causes go first: the sheet is too long; or, before its end, what is wrong with the bytes there
abbrev pub sheet_faults : List ℕ → ℕ → List (Bool × Cause)
sheet_faults sheet p =
    (nat_lt longest (length sheet), SheetTooLong)
    ∷ cond (nat_le (length sheet) p) [] (faults (slice_index sheet p) (drop (p + 1) sheet))

-- the cause of a refusal, where there is one
abbrev pub cause_of : {A : Type 0} → Result A Refusal → Option Cause
cause_of (Ok a) = None
cause_of (Err e) = Some e.cause

-- an answer of the reader, with calls for commands
abbrev pub calls : Result (Option Command) Refusal → Result (Option Call) Refusal
calls (Ok None) = Ok None
calls (Ok (Some c)) = Ok (Some (call_of c))
calls (Err e) = Err e

-- an answer with the cause as a refusal, which names no seat
abbrev pub refusing : {A : Type 0} → Result A Cause → Result A Refusal
refusing (Ok a) = Ok a
refusing (Err e) = Err (refused e 0)

-- the place behind what was read: behind the command, and else where it was
abbrev pub behind : Result (Option Call) Refusal → ℕ → ℕ
behind (Ok None) p = p
behind (Ok (Some c)) p = p + width_of c
behind (Err e) p = p

-- what was read is written as the same bytes
abbrev pub SameBytes : List ℕ → ℕ → Result (Option Call) Refusal → Type 0
SameBytes sheet p (Ok None) = Unit {0}
SameBytes sheet p (Ok (Some c)) = drop p sheet ≡ bytes_of c ++ drop (p + width_of c) sheet
SameBytes sheet p (Err e) = Unit {0}

-- a command taken from the front of bytes, and how many bytes are left; or what is wrong with them
abbrev pub Taken : ℕ → List ℕ → Result (Command × Bor (List ℕ)) Cause → Type 0
Taken first s (Ok p) = (first_cause (faults first s) ≡ None) × (call_of p.0 ≡ call_in first s) × (length p.1.now + width first ≡ length s + 1)
Taken first s (Err e) = first_cause (faults first s) ≡ Some e
