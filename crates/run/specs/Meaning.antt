-- What the items of a sheet come to on a table, wherever runs stop: each command is performed once, in order, with room for its entries, and each refusal is noted.
use Rattle.std.specs.Prelude.{ℕ, List, [], ◌∷◌, ◌++◌, Ok, Err, Result}
use Rattle.refusals.specs.declared.Refusal.{Refusal}
use Rattle.game.specs.Rules.{Rules}
use Rattle.ledger.specs.declared.entries.Entry.{Entry}
use Rattle.ledger.specs.declared.notes.Note.{Note}
use Rattle.books.specs.declared.table_books.Books.{Books}
use Rattle.sheet.specs.Items.{Item, command, fault}
use Rattle.table.specs.Calls.{either}
use Rattle.table.specs.Causes.{verdict}
use Rattle.table.specs.Effects.{after}
use Rattle.table.specs.Entries.{writes}

-- the note of a refusal at a place
abbrev pub note_of : ℕ → Refusal → Note
note_of p e = record { place = p; refusal = e }

-- what the answer to a command notes: nothing where it was accepted, and else its place and the refusal
abbrev pub noted : ℕ → Result (Unit {0}) Refusal → List Note
noted p (Ok x) = []
noted p (Err e) = note_of p e ∷ []

-- as many places as a settlement needs at most: one a seat
abbrev pub most_entries : ℕ
most_entries = 7

-- the table in the end, and the entries and notes on the way
pub record Told : Type 0 where
  pub books : Books
  pub entries : List Entry
  pub notes : List Note

-- no item: nothing changes
abbrev pub quiet : Books → Told
quiet b = record { books = b; entries = []; notes = [] }

-- some entries and notes, and then what comes after them
abbrev pub and_then : List Entry → List Note → Told → Told
and_then es ns t = record { books = t.books; entries = es ++ t.entries; notes = ns ++ t.notes }

abbrev pub told : Rules → Books → List Item → Told
told R b [] = quiet b
told R b (command p c ∷ is) =
    let r = verdict R b c most_entries in and_then (either r (writes R b c) []) (noted p r) (told R (either r (after R b c) b) is)
told R b (fault p e ∷ is) = and_then [] (note_of p e ∷ []) (quiet b)
