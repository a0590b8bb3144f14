-- What is printed of entries, of notes and at the close: the line that is displayed of each, and a line feed.
use Rattle.std.specs.Prelude.{◌≡◌, ℕ, ◌<◌, List, [], ◌∷◌, ◌++◌, length, take}
use Rattle.refusals.specs.declared.Cause.TheVariants.{SheetTooLong}
use Rattle.refusals.specs.Refusals.{refused}
use Rattle.ledger.specs.Lines as displayed
use Rattle.ledger.specs.declared.closings.Closing.{Closing}
use Rattle.ledger.specs.declared.entries.Entry.{Entry}
use Rattle.ledger.specs.declared.notes.Note.{Note}

-- a text with a line feed behind it
abbrev pub with_feed : List ℕ → List ℕ
with_feed text = text ++ 10 ∷ []

-- what is printed of an entry
abbrev pub printed_entry : Entry → List ℕ
printed_entry e = with_feed (displayed.entry_line e)

-- what is printed of a note
abbrev pub printed_note : Note → List ℕ
printed_note n = with_feed (displayed.note_line n)

-- what is printed at the close
abbrev pub printed_closing : Closing → List ℕ
printed_closing c = with_feed (displayed.closing_line c)

-- what is printed of a sheet that is too long: the note at its first byte
abbrev pub too_long_line : List ℕ
too_long_line = printed_note record { place = 0; refusal = refused SheetTooLong 0 }

-- a line for each of some records, in order
abbrev pub lines_of : {R : Type 0} → (R → List ℕ) → List R → List ℕ
lines_of line_of [] = []
lines_of line_of (r ∷ rs) = line_of r ++ lines_of line_of rs

-- a page on which some records are printed in part: the lines of the first few stand behind what it held, and no more
pub record InPart {R : Type 0} (line_of : R → List ℕ) (rs : List R) (before after : List ℕ) : Type 0 where
  pub printed : ℕ
  pub fewer : printed < length rs
  pub page_then : after ≡ before ++ lines_of line_of (take printed rs)
