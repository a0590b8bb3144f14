-- What a program that makes output of its input answers, and what its sink then holds.
use Rattle.std.specs.Prelude.{ℕ, ◌<◌, ◌≤◌, List, length, take, Ok, Err, Option, Result, IfSome}
use Rattle.std.specs.Io.KnownBytes.{Appends, Keeps}
use Rattle.std.specs.declared.io.Error.{Error}
use Rattle.byte_streams.specs.declared.error.StreamError.{StreamError}
use Rattle.byte_streams.specs.declared.error.StreamError.TheVariants.{Reading, OutOfMemory, Writing}

-- known contents grow by bytes from the front on, but not by all of them
pub record AppendsPart (old new : Option (List ℕ)) (bytes : List ℕ) : Type 0 where
  pub written : ℕ
  pub fewer : written < length bytes
  pub appended : Appends old new (take written bytes)

-- an error that the source returned
abbrev pub ReadFails : (Error → Type 0) → StreamError → Type 0
ReadFails reads (Reading e) = reads e
ReadFails reads OutOfMemory = ⊥
ReadFails reads (Writing e) = ⊥

-- all bytes were written, or the sink returned an error and not all of them were
abbrev pub WritesAll : (Error → Type 0) → Option (List ℕ) → Option (List ℕ) → List ℕ → Result Unit StreamError → Type 0
WritesAll writes old new bytes (Ok u) = Appends old new bytes
WritesAll writes old new bytes (Err (Reading e)) = ⊥
WritesAll writes old new bytes (Err OutOfMemory) = ⊥
WritesAll writes old new bytes (Err (Writing e)) = writes e × AppendsPart old new bytes

-- some output of this kind was written, all of it
pub record Writes (IsOutput : List ℕ → Type 0) (old new : Option (List ℕ)) : Type 0 where
  pub output : List ℕ
  pub is_output : IsOutput output
  pub appended : Appends old new output

-- of some output of this kind a part was written, from the front on, but not all
pub record WritesPart (IsOutput : List ℕ → Type 0) (old new : Option (List ℕ)) : Type 0 where
  pub output : List ℕ
  pub is_output : IsOutput output
  pub appended : AppendsPart old new output

-- what a program may return that makes output of input of at most so many bytes, and what its sink then holds:
-- all of the output; or nothing new, where the source returned an error or there was no memory, which an input that is longer does not need; or a part, where the sink returned an error
abbrev pub Streams : (IsOutput : List ℕ → List ℕ → Type 0) (most : ℕ) (reads writes : Error → Type 0) (input old new : Option (List ℕ)) → Result Unit StreamError → Type 0
Streams IsOutput most reads writes input old new (Ok u) = IfSome input (λ bytes. Writes (IsOutput bytes) old new)
Streams IsOutput most reads writes input old new (Err (Reading e)) = reads e × Keeps old new
Streams IsOutput most reads writes input old new (Err OutOfMemory) = IfSome input (λ bytes. length bytes ≤ most) × Keeps old new
Streams IsOutput most reads writes input old new (Err (Writing e)) = writes e × IfSome input (λ bytes. WritesPart (IsOutput bytes) old new)
