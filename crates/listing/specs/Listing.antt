-- What is listed of a sheet: a line for each of its commands, and the note of the refusal where one cannot be read.
use Rattle.std.specs.Prelude.{◌≡◌, ℕ, List, ◌∷◌, ◌++◌, decimal}
use Rattle.commands.specs.Calls.{name_of}
use Rattle.lines.specs.Lines.{with_feed, printed_note, lines_of}
use Rattle.sheet.specs.Items.{Item, command, fault, items_of}

-- the line of a command, its place and its name, or of the fault where none can be read
abbrev pub line_of : Item → List ℕ
line_of (command p c) = with_feed (decimal p ++ 32 ∷ name_of c)
line_of (fault p e) = printed_note record { place = p; refusal = e }

-- the output that lists a sheet
abbrev pub Listing : List ℕ → List ℕ → Type 0
Listing sheet output = output ≡ lines_of line_of (items_of sheet 0)
