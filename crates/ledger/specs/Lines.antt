-- The lines that are printed of entries, of notes and at the close, each without its line feed.
use Rattle.std.specs.Prelude.{ℕ, List, [], ◌∷◌, ◌++◌, codes, decimal}
use Rattle.std.specs.Fmt.{signed_decimal}
use Rattle.refusals.specs.Refusals.{word_of}
use Rattle.ledger.specs.Notes.{note_number, note_layer}
use Rattle.ledger.specs.declared.closings.Closing.{Closing}
use Rattle.ledger.specs.declared.entries.Entry.{Entry}
use Rattle.ledger.specs.declared.notes.Note.{Note}

-- words with one space between each and the next
abbrev pub spaced : List (List ℕ) → List ℕ
spaced [] = []
spaced (w ∷ []) = w
spaced (w ∷ (v ∷ vs)) = w ++ 32 ∷ spaced (v ∷ vs)

-- the line of an entry: round, seat, staked, return and net, the net with its sign where it is below zero
abbrev pub entry_line : Entry → List ℕ
entry_line e = spaced (codes "E" ∷ decimal e.round ∷ decimal e.seat ∷ decimal e.staked ∷ decimal e.returned ∷ signed_decimal e.net ∷ [])

-- the line of a note: place, number, seat, and the layer as a word
abbrev pub note_line : Note → List ℕ
note_line n = spaced (codes "X" ∷ decimal n.place ∷ decimal (note_number n) ∷ decimal n.refusal.seat ∷ word_of (note_layer n) ∷ [])

-- the closing line: the tray, the racks together, the spaces together
abbrev pub closing_line : Closing → List ℕ
closing_line c = spaced (codes "Z" ∷ decimal c.tray ∷ decimal c.racks ∷ decimal c.spaces ∷ [])
