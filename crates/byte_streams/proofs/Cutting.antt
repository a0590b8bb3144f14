-- Input that is cut behind one byte more than a program may read is read as the whole is.
use Rattle.std.proofs.Common.{◌≡◌, ℕ, ◌+◌, ◌<◌, ◌≤◌, List, length, take, Some, None, Ok, Err, Option, Result, IfSome, subst, ⊎_elim, arith}
use Rattle.std.proofs.lemmas.List.{take_all, length-take-le}
use Rattle.std.proofs.lemmas.Bool.{cases_lt}
use Rattle.std.specs.declared.io.Error.{Error}
use Rattle.byte_streams.specs.Streams.{WritesAll, Streams}
use Rattle.byte_streams.specs.declared.error.StreamError.{StreamError}
use Rattle.byte_streams.specs.declared.error.StreamError.TheVariants.{Reading, OutOfMemory, Writing}

module _ (IsOutput : List ℕ → List ℕ → Type 0) (most : ℕ) (same : (bytes bytes' : List ℕ) → most < length bytes → most < length bytes' → (output : List ℕ) → IsOutput bytes output → IsOutput bytes' output) where
  -- what is output of the first bytes, one more than may be read, is output of all
  cut : (bytes output : List ℕ) → IsOutput (take (most + 1) bytes) output → IsOutput bytes output
  cut bytes output h =
      ⊎_elim
      (λ (long : most < length bytes). same (take (most + 1) bytes) bytes (omega (arith, length-take-le (most + 1) bytes (omega arith))) long output h)
      (λ (short : length bytes ≤ most). subst (λ s. IsOutput s output) (take_all (most + 1) bytes (omega arith)) h)
      (cases_lt most (length bytes))

  short_of_cut : (bytes : List ℕ) → length (take (most + 1) bytes) ≤ most → length bytes ≤ most
  short_of_cut bytes h =
      ⊎_elim
      (λ (long : most < length bytes). omega (arith, length-take-le (most + 1) bytes (omega arith)))
      (λ (short : length bytes ≤ most). short)
      (cases_lt most (length bytes))

  -- a program's answer for the bytes read is its answer for all bytes
  pub read_all : (reads writes : Error → Type 0) (known : Option (List ℕ)) (input : List ℕ) → IfSome known (λ bytes. input ≡ take (most + 1) bytes) → (old new : Option (List ℕ)) (r : Result Unit StreamError)
      → Streams IsOutput most (λ e. ⊥) writes (Some input) old new r → Streams IsOutput most reads writes known old new r
  read_all reads writes None input h old new (Ok u) done = tt
  read_all reads writes None input h old new (Err (Reading e)) done = absurd done.0
  read_all reads writes None input h old new (Err OutOfMemory) done = (tt, done.1)
  read_all reads writes None input h old new (Err (Writing e)) done = (done.0, tt)
  read_all reads writes (Some bytes) input h old new (Ok u) done =
      record { output = done.output; is_output = cut bytes done.output (subst (λ s. IsOutput s done.output) h done.is_output); appended = done.appended }
  read_all reads writes (Some bytes) input h old new (Err (Reading e)) done = absurd done.0
  read_all reads writes (Some bytes) input h old new (Err OutOfMemory) done = (short_of_cut bytes (subst (λ s. length s ≤ most) h done.0), done.1)
  read_all reads writes (Some bytes) input h old new (Err (Writing e)) done =
      (done.0, record { output = done.1.output; is_output = cut bytes done.1.output (subst (λ s. IsOutput s done.1.output) h done.1.is_output); appended = done.1.appended })

-- what writing all of some output answers is the answer of the program that made it
pub written : (IsOutput : List ℕ → List ℕ → Type 0) (most : ℕ) (writes : Error → Type 0) (input output : List ℕ) → IsOutput input output → (old new : Option (List ℕ)) (r : Result Unit StreamError)
    → WritesAll writes old new output r → Streams IsOutput most (λ e. ⊥) writes (Some input) old new r
written IsOutput most writes input output is old new (Ok u) done = record { output = output; is_output = is; appended = done }
written IsOutput most writes input output is old new (Err (Reading e)) done = absurd done
written IsOutput most writes input output is old new (Err OutOfMemory) done = absurd done
written IsOutput most writes input output is old new (Err (Writing e)) done = (done.0, record { output = output; is_output = is; appended = done.1 })
