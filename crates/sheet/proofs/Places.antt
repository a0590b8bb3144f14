-- The bytes from a place on, and what a sheet means there.
use Rattle.std.proofs.Common.{◌≡◌, ℕ, ◌+◌, ◌-◌, ◌<◌, ◌≤◌, List, length, get_or, take, drop, Some, None, Ok, Err, sym, ap, ◌∙◌, arith, length-drop}
use Rattle.std.proofs.lemmas.List.{drop-drop, get_or-drop, take_rest}
use Rattle.std.proofs.lemmas.Bool.{le-ltb, lt-leb}
use Rattle.refusals.specs.declared.Cause.{Cause}
use Rattle.refusals.specs.Refusals.{first_cause, refused}
use Rattle.commands.specs.Calls.{Call}
use Rattle.sheet.specs.Reading.{longest, faults, call_in, unless, means, some_call, read_at}

-- before the end of a sheet that is not too long, a byte and those behind it are read
read_inside : (sheet : List ℕ) (p : ℕ) → length sheet ≤ longest → p < length sheet → read_at sheet p ≡ some_call (means (get_or sheet p 0) (drop (p + 1) sheet))
read_inside sheet p short h = rw (le-ltb longest (length sheet) short, lt-leb (length sheet) p h)

-- bytes from a place on, by the first and those behind it
module _ (sheet s : List ℕ) (p : ℕ) (from : s ≡ drop p sheet) where
  place_inside : 1 ≤ length s → p < length sheet
  place_inside h = omega (arith, simp length-drop at (ap length from))

  pub read_of : length sheet ≤ longest → 1 ≤ length s → some_call (means (get_or s 0 0) (take (length s - 1) (drop 1 s))) ≡ read_at sheet p
  read_of short h =
      let first : get_or s 0 0 ≡ get_or sheet p 0 = ap (λ t. get_or t 0 0) from ∙ get_or-drop p sheet 0 0 ∙ ap (λ k. get_or sheet k 0) (omega arith) in
      let behind : take (length s - 1) (drop 1 s) ≡ drop (p + 1) sheet = take_rest s 1 ∙ ap (drop 1) from ∙ drop-drop 1 p sheet in
      (λ i. some_call (means (first i) (behind i))) ∙ sym (read_inside sheet p short (place_inside h))

  -- a cause, as the refusal that is read there
  pub refused_at : length sheet ≤ longest → 1 ≤ length s → (c : Cause) → first_cause (faults (get_or s 0 0) (take (length s - 1) (drop 1 s))) ≡ Some c → Err (refused c 0) ≡ read_at sheet p
  refused_at short h c e =
      let first = get_or s 0 0 in
      let behind = take (length s - 1) (drop 1 s) in
      sym (ap (λ o. some_call (unless o (call_in first behind))) e) ∙ read_of short h

  -- a call that nothing is wrong with, as it is read there
  pub called_at : length sheet ≤ longest → 1 ≤ length s → (k : Call) → first_cause (faults (get_or s 0 0) (take (length s - 1) (drop 1 s))) ≡ None → k ≡ call_in (get_or s 0 0) (take (length s - 1) (drop 1 s)) → Ok (Some k) ≡ read_at sheet p
  called_at short h k none e =
      let first = get_or s 0 0 in
      let behind = take (length s - 1) (drop 1 s) in
      ap (λ x. Ok (Some x)) e ∙ sym (ap (λ o. some_call (unless o (call_in first behind))) none) ∙ read_of short h
