-- The whole promise over a sheet: all its commands, through however many runs, led from the opening to the table whose chips the last line tells.
use Rattle.std.specs.Prelude.{◌≡◌, ℕ, ◌+◌, ◌≤◌, List, map, Some, None, Ok}
use Rattle.std.specs.List.{All, flat_map}
use Rattle.refusals.specs.Refusals.{first_cause}
use Rattle.commands.specs.declared.Conditions.{Conditions}
use Rattle.commands.specs.Calls.{Open}
use Rattle.game.specs.Rules.{Rules}
use Rattle.games.specs.declared.any_game.AnyGame.{AnyGame}
use Rattle.games.specs.Opening.{Opens}
use Rattle.games.specs.Rules.{rules_of}
use Rattle.ledger.specs.declared.closings.Closing.{Closing}
use Rattle.books.specs.declared.table_books.Books.{Books}
use Rattle.sheet.specs.Format.{width_of}
use Rattle.sheet.specs.Items.{items_of, calls_in}
use Rattle.sheet.specs.Reading.{read_at}
use Rattle.table.specs.Promise.{opened, Reached}
use Rattle.table.specs.Tally.{Turn, brought, taken}
use Rattle.run.specs.Meaning.{most_entries, Told, told}
use Rattle.run.specs.Runs.{State}
use Rattle.run.specs.StopRule.{entries_in}
use Rattle.open_table.specs.Sums.{closing_of}
use Rattle.open_table.specs.Tables.{opening_of, opening_causes}
use Rattle.terminal.specs.SheetLines.{all_runs, state_after}

-- the chips that a closing line tells, added
abbrev pub told_in : Closing → ℕ
told_in c = c.tray + c.racks + c.spaces

-- the history of runs, one after another
abbrev pub turns_in : List State → List Turn
turns_in rs = flat_map (λ s. s.turns) rs

-- what runs came to that began with this table: the table that they leave, and all entries and notes, in order
abbrev pub outcome : Books → List State → Told
outcome b rs = record { books = state_after b rs; entries = flat_map (λ s. s.entries) rs; notes = flat_map (λ s. s.notes) rs }

-- what is promised of the runs of a sheet that an Open with these conditions and this tray begins
pub record RunsPromised (R : Rules) (sheet : List ℕ) (c : Conditions) (tray : ℕ) (rs : List State) : Type 0 where
  -- the calls are those of the sheet behind the Open: each once, in order
  pub calls : map (λ u. u.call) (turns_in rs) ≡ calls_in (items_of sheet (width_of (Open c tray)))
  -- each was handed a ledger with at least as many places free as a settlement needs
  pub room : All (λ u. most_entries ≤ u.free) (turns_in rs)
  -- they led from the opening to the table that is left, with all that is promised of a history
  pub reached : Reached R (opening_of c tray) (turns_in rs) (state_after (opened (opening_of c tray)) rs)
  -- table, entries and notes are those that the sheet means, wherever its runs stopped
  pub meant : outcome (opened (opening_of c tray)) rs ≡ told R (opened (opening_of c tray)) (items_of sheet (width_of (Open c tray)))
  -- and the entries are those that the calls of the history wrote
  pub written : (outcome (opened (opening_of c tray)) rs).entries ≡ entries_in (turns_in rs)
  -- the last line adds up
  pub adds_up : told_in (closing_of (state_after (opened (opening_of c tray)) rs)) + taken (turns_in rs) ≡ tray + brought (turns_in rs)

-- the promise over a sheet: wherever its first command opens a table, it is kept of all runs
abbrev pub Promised : List ℕ → Type 0
Promised sheet = (c : Conditions) (tray : ℕ) (game : AnyGame) → read_at sheet 0 ≡ Ok (Some (Open c tray)) → first_cause (opening_causes c tray) ≡ None → Opens c.game c.cap c.odds game
    → RunsPromised (rules_of game) sheet c tray (all_runs (rules_of game) sheet (opened (opening_of c tray)) (width_of (Open c tray)))
