-- Of several causes at reading and at writing, the one that goes before all others answers.
use Rattle.std.proofs.Common.{◌≡◌, ℕ, ◌+◌, Bool, true, false, cond, ltb, leb, List, [], ◌∷◌, length, get_or, drop, Some, None, Ok, Err, Option, sym, refl, subst}
use Rattle.refusals.specs.declared.Cause.{Cause}
use Rattle.refusals.specs.declared.Cause.TheVariants.{SheetTooLong}
use Rattle.refusals.specs.Refusals.{first_cause, refused, in_turn, Answers}
use Rattle.refusals.proofs.Causes.{answers}
use Rattle.commands.specs.Calls.{Call}
use Rattle.sheet.specs.Format.{width_of}
use Rattle.sheet.specs.Reading.{faults, sheet_faults, call_in, unless, some_call, longest, read_at, cause_of}
use Rattle.sheet.specs.Writing.{write_faults, write_at}

-- the cause of what is read at a place, by what can be wrong there
read_cause : (long past : Bool) (fs : List (Bool × Cause)) (c : Call)
    → cause_of (cond long (Err (refused SheetTooLong 0)) (cond past (Ok None) (some_call (unless (first_cause fs) c)))) ≡ first_cause ((long, SheetTooLong) ∷ cond past [] fs)
read_cause true past fs c = refl
read_cause false true fs c = refl
read_cause false false fs c = go (first_cause fs)
  where
    go : (o : Option Cause) → cause_of (some_call (unless o c)) ≡ o
    go None = refl
    go (Some x) = refl

read_turns : (long past : Bool) (first : ℕ) (s : List ℕ) → in_turn 0 ((long, SheetTooLong) ∷ cond past [] (faults first s)) ≡ true
read_turns long true first s = refl
read_turns long false first s = refl

pub least_at_reading : (sheet : List ℕ) (p : ℕ) → Answers (sheet_faults sheet p) (cause_of (read_at sheet p))
least_at_reading sheet p =
    let first = get_or sheet p 0 in
    let s = drop (p + 1) sheet in
    let long = ltb longest (length sheet) in
    let past = leb (length sheet) p in
    subst (Answers (sheet_faults sheet p)) (sym (read_cause long past (faults first s) (call_in first s)))
    (answers 0 (sheet_faults sheet p) (read_turns long past first s))

pub least_at_writing : (out : List ℕ) (at : ℕ) (c : Call) → Answers (write_faults out at c) (cause_of (write_at out at c))
least_at_writing out at c = subst (Answers (write_faults out at c)) (sym (go (at + width_of c) (first_cause (write_faults out at c)))) (answers 0 (write_faults out at c) refl)
  where
    go : (place : ℕ) (o : Option Cause) → cause_of (unless o place) ≡ o
    go place None = refl
    go place (Some x) = refl
