-- A command that was read has no more cards than can be written, and so is written wherever there is room for it.
use Rattle.std.proofs.Common.{◌≡◌, ℕ, ◌+◌, Bool, true, false, cond, not, ltb, leb, List, length, get_or, take, drop, Some, None, Ok, Err, Option, refl, arith, ltb-false}
use Rattle.std.proofs.lemmas.Bool.{le-ltb, or_parts}
use Rattle.std.proofs.lemmas.List.{length-take}
use Rattle.refusals.specs.declared.Cause.{Cause}
use Rattle.refusals.specs.declared.Cause.TheVariants.{SheetTooLong}
use Rattle.refusals.specs.Refusals.{first_cause, refused}
use Rattle.refusals.proofs.Causes.{none_holds}
use Rattle.commands.specs.Calls.{Call}
use Rattle.sheet.specs.Format.{width_of}
use Rattle.sheet.specs.Reading.{row, all_zero, faults, call_in, unless, means, some_call, longest, read_at}
use Rattle.sheet.specs.Writing.{too_many, IsWritable}
use Rattle.sheet.proofs.Widths.{by_first}

-- of bytes without a fault, a Deal counts no more than forty cards
few_cards : (s : List ℕ) → first_cause (faults 0x44 s) ≡ None → too_many (call_in 0x44 s) ≡ false
few_cards s none =
    let n = get_or s 0 0 in
    let sound = or_parts (ltb 40 n) (not (all_zero (drop n (row s)))) (none_holds (faults 0x44 s) none).1.1.0 in
    le-ltb 40 (length (take n (row s))) (omega (arith, length-take n (row s), ltb-false 40 n sound.0))

-- the call that bytes without a fault mean has no more cards than can be written
pub few : (first : ℕ) (s : List ℕ) → first_cause (faults first s) ≡ None → too_many (call_in first s) ≡ false
few first s none =
    by_first (λ f. first_cause (faults f s) ≡ None → too_many (call_in f s) ≡ false) first (none_holds (faults first s) none).1.0
    (λ e. refl) (λ e. refl) (λ e. refl) (λ e. refl) (λ e. refl) (λ e. refl) (few_cards s) (λ e. refl) (λ e. refl) (λ e. refl) (λ e. refl) none

-- where there is room, a call with no more cards than can be written is written
written : (c : Call) → too_many c ≡ false → IsWritable (Ok (Some c))
written c h out at room = rw (le-ltb (length out) (at + width_of c) room, h) refl

-- what is read at a place is written wherever there is room
pub writable : (sheet : List ℕ) (p : ℕ) → IsWritable (read_at sheet p)
writable sheet p = by_length (ltb longest (length sheet)) (leb (length sheet) p)
  where
    by_faults : (o : Option Cause) → first_cause (faults (get_or sheet p 0) (drop (p + 1) sheet)) ≡ o → IsWritable (some_call (unless o (call_in (get_or sheet p 0) (drop (p + 1) sheet))))
    by_faults (Some c) e = tt
    by_faults None e = written (call_in (get_or sheet p 0) (drop (p + 1) sheet)) (few (get_or sheet p 0) (drop (p + 1) sheet) e)

    by_length : (long past : Bool) → IsWritable (cond long (Err (refused SheetTooLong 0)) (cond past (Ok None) (some_call (means (get_or sheet p 0) (drop (p + 1) sheet)))))
    by_length true past = tt
    by_length false true = tt
    by_length false false = by_faults (first_cause (faults (get_or sheet p 0) (drop (p + 1) sheet))) refl
