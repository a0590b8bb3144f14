-- The lines that are printed of a sheet: run by run, and the closing line.
use Rattle.std.specs.Prelude.{◌≡◌, ℕ, zero, suc, List, [], ◌∷◌, ◌++◌, map, length, Some, None, Ok}
use Rattle.std.specs.List.{flat_map}
use Rattle.refusals.specs.declared.Refusal.{Refusal}
use Rattle.refusals.specs.Refusals.{first_cause}
use Rattle.commands.specs.declared.Conditions.{Conditions}
use Rattle.commands.specs.Calls.{Open}
use Rattle.game.specs.Rules.{Rules}
use Rattle.games.specs.declared.any_game.AnyGame.{AnyGame}
use Rattle.games.specs.Opening.{Opens}
use Rattle.games.specs.Rules.{rules_of}
use Rattle.ledger.specs.declared.entries.Entry.{Entry}
use Rattle.ledger.specs.declared.notes.Note.{Note}
use Rattle.books.specs.declared.table_books.Books.{Books}
use Rattle.lines.specs.Lines.{printed_entry, printed_note, printed_closing}
use Rattle.sheet.specs.Format.{width_of}
use Rattle.sheet.specs.Reading.{read_at}
use Rattle.table.specs.Promise.{opened}
use Rattle.run.specs.declared.ended.Ended.{Ended}
use Rattle.run.specs.declared.ended.Ended.TheVariants.{NoRoom}
use Rattle.run.specs.Meaning.{note_of}
use Rattle.run.specs.Runs.{State, run_of}
use Rattle.open_table.specs.Firsts.{first_refusal}
use Rattle.open_table.specs.Sums.{closing_of}
use Rattle.open_table.specs.Tables.{opening_of, opening_causes}

-- the places of each roll
abbrev pub roll_places : ℕ
roll_places = 256

-- a run from a place on, with empty rolls
abbrev pub run_at : Rules → List ℕ → Books → ℕ → State × Ended
run_at R sheet b p = run_of R sheet b p roll_places roll_places

-- a run, and where it stopped for want of room the runs that follow from the table and the place that it left
abbrev pub with_later_runs : (Books → ℕ → List State) → State × Ended → List State
with_later_runs further (s, NoRoom) = s ∷ further s.books s.place
with_later_runs further (s, _) = s ∷ []

-- a run from a place on, and at most so many further ones
abbrev pub runs_up_to : ℕ → Rules → List ℕ → Books → ℕ → List State
runs_up_to zero R sheet b p = (run_at R sheet b p).0 ∷ []
runs_up_to (suc n) R sheet b p = with_later_runs (runs_up_to n R sheet) (run_at R sheet b p)

-- all runs from a place on: each that stops for want of room has moved its place, so that no more follow than a sheet has bytes
abbrev pub all_runs : Rules → List ℕ → Books → ℕ → List State
all_runs R sheet b p = runs_up_to (length sheet) R sheet b p

-- the table that runs leave, one after another
abbrev pub state_after : Books → List State → Books
state_after b [] = b
state_after b (s ∷ rs) = state_after s.books rs

-- the lines of some entries, and then of some notes
abbrev pub run_lines : List Entry → List Note → List (List ℕ)
run_lines entries notes = map printed_entry entries ++ map printed_note notes

-- the lines of runs that began with this table, and then the closing line of the table that they leave
abbrev pub lines_of_runs : Books → List State → List (List ℕ)
lines_of_runs b rs = flat_map (λ s. run_lines s.entries s.notes) rs ++ printed_closing (closing_of (state_after b rs)) ∷ []

-- the lines that are printed of a whole sheet
pub data LinesOf (sheet : List ℕ) : List (List ℕ) → Type 0 where
  -- none of an empty one
  empty : read_at sheet 0 ≡ Ok None → LinesOf sheet []
  -- one note where the first command opens no table
  refused : (e : Refusal) → Some e ≡ first_refusal (read_at sheet 0) → LinesOf sheet (printed_note (note_of 0 e) ∷ [])
  -- and else those of all runs behind the Open, at the game that it names
  played : (c : Conditions) (tray : ℕ) (game : AnyGame) → read_at sheet 0 ≡ Ok (Some (Open c tray)) → first_cause (opening_causes c tray) ≡ None → Opens c.game c.cap c.odds game
      → LinesOf sheet (lines_of_runs (opened (opening_of c tray)) (all_runs (rules_of game) sheet (opened (opening_of c tray)) (width_of (Open c tray))))
