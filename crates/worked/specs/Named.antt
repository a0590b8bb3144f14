-- What is written of a named sheet.
use Rattle.std.specs.Prelude.{◌≡◌, ℕ, ◌≤◌, List, [], ◌∷◌, ◌++◌, length, codes, Ok, Err, Option, Result, IfSome}
use Rattle.std.specs.Io.KnownBytes.{Appends}
use Rattle.std.specs.declared.io.Error.{Error}
use Rattle.byte_streams.specs.declared.error.StreamError.{StreamError}
use Rattle.byte_streams.specs.declared.error.StreamError.TheVariants.{Reading, OutOfMemory, Writing}
use Rattle.byte_streams.specs.Streams.{AppendsPart, Writes, WritesPart}
use Rattle.sheet.specs.Reading.{longest}
use Rattle.terminal.specs.Printed.{PrintedOf}

-- the line of a name: `== `, the name and a line feed
abbrev pub name_line : List ℕ → List ℕ
name_line name = codes "== " ++ (name ++ 10 ∷ [])

-- the line of the name, and then what is printed of the sheet
pub record NamedOutput (name sheet output : List ℕ) : Type 0 where
  pub text : List ℕ
  pub printed_of : PrintedOf sheet text
  pub named : output ≡ name_line name ++ text

-- a part was written: not all of the line of the name, or more, but not all of the output
pub data NamedPart (name : List ℕ) (input old new : Option (List ℕ)) : Type 0 where
  of_line : AppendsPart old new (name_line name) → NamedPart name input old new
  of_output : IfSome input (λ bytes. WritesPart (NamedOutput name bytes) old new) → NamedPart name input old new

-- what writing a named sheet may return, and what the sink then holds:
-- all of the output; or the line of the name and nothing else, where the source returned an error or there was no memory, which a sheet that is longer does not need; or a part, where the sink returned an error
abbrev pub NamedStreams : (name : List ℕ) (reads writes : Error → Type 0) (input old new : Option (List ℕ)) → Result Unit StreamError → Type 0
NamedStreams name reads writes input old new (Ok u) = IfSome input (λ bytes. Writes (NamedOutput name bytes) old new)
NamedStreams name reads writes input old new (Err (Reading e)) = reads e × Appends old new (name_line name)
NamedStreams name reads writes input old new (Err OutOfMemory) = IfSome input (λ bytes. length bytes ≤ longest) × Appends old new (name_line name)
NamedStreams name reads writes input old new (Err (Writing e)) = writes e × NamedPart name input old new
