-- A sheet from its first byte through its first run: the whole promise, from opening through the list of the sheet's commands.
use Rattle.std.specs.Prelude.{◌≡◌, ℕ, ◌+◌, List, [], Some, None, Ok, Err, Option, Result}
use Rattle.refusals.specs.Refusals.{first_cause}
use Rattle.commands.specs.declared.Conditions.{Conditions}
use Rattle.commands.specs.Calls.{Open}
use Rattle.games.specs.Opening.{Opens}
use Rattle.ledger.specs.declared.entries.Entry.{Entry}
use Rattle.ledger.specs.declared.notes.Note.{Note}
use Rattle.ledger.specs.declared.rolls.Roll.{Roll}
use Rattle.ledger.specs.Rolls.{free, Written}
use Rattle.sheet.specs.Format.{width_of}
use Rattle.sheet.specs.Reading.{read_at}
use Rattle.table.specs.Promise.{opened, Reached}
use Rattle.run.specs.declared.ended.Ended.{Ended}
use Rattle.run.specs.Runs.{run_of, Ran}
use Rattle.open_table.specs.declared.open_table.OpenTable.{OpenTable}
use Rattle.open_table.specs.declared.begun.Begun.{Begun}
use Rattle.open_table.specs.Firsts.{first_refusal}
use Rattle.open_table.specs.Tables.{opening_of, opening_causes, rules_at, books_at}

-- the table that the command at a place opens, once the sheet behind it was run
pub record RunningFrom (sheet : List ℕ) (p : ℕ) (l : Roll Entry) (n : Roll Note) (t : OpenTable) (ended : Ended) (p' : ℕ) (l' : Roll Entry) (n' : Roll Note) : Type 0 where
  pub conditions : Conditions
  pub tray : ℕ
  pub reads : read_at sheet p ≡ Ok (Some (Open conditions tray))
  pub accepted : first_cause (opening_causes conditions tray) ≡ None
  pub game : Opens conditions.game conditions.cap conditions.odds t.table.game
  pub ran : Ran (rules_at t) sheet (opened (opening_of conditions tray)) (p + width_of (Open conditions tray)) l n ended (books_at t) p' l' n'
  -- whole: the calls that the run performed led from the opening to this table
  pub whole : Reached (rules_at t) (opening_of conditions tray)
      (run_of (rules_at t) sheet (opened (opening_of conditions tray)) (p + width_of (Open conditions tray)) (free l) (free n)).0.turns (books_at t)

-- place and rolls are as they were
pub record Unmoved (p : ℕ) (l : Roll Entry) (n : Roll Note) (p' : ℕ) (l' : Roll Entry) (n' : Roll Note) : Type 0 where
  pub place : p' ≡ p
  pub ledger : Written l l' []
  pub notes : Written n n' []

-- a sheet that was begun, no command, or the note of why no table was opened
abbrev pub SheetBegun : List ℕ → ℕ → Roll Entry → Roll Note → Result (Option Begun) Note → ℕ → Roll Entry → Roll Note → Type 0
SheetBegun sheet p l n (Ok (Some b)) p' l' n' = RunningFrom sheet p l n b.table b.ended p' l' n'
SheetBegun sheet p l n (Ok None) p' l' n' = (read_at sheet p ≡ Ok None) × Unmoved p l n p' l' n'
SheetBegun sheet p l n (Err note) p' l' n' = (note.place ≡ p) × (Some note.refusal ≡ first_refusal (read_at sheet p)) × Unmoved p l n p' l' n'
