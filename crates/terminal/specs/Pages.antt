-- What the functions of the terminal print to the end of a page.
use Rattle.std.specs.Prelude.{◌≡◌, ℕ, ◌<◌, ◌≤◌, List, [], ◌++◌, map, length, take}
use Rattle.std.specs.List.{All, concat}
use Rattle.commands.specs.Calls.{Call}
use Rattle.ledger.specs.declared.entries.Entry.{Entry}
use Rattle.ledger.specs.declared.notes.Note.{Note}
use Rattle.ledger.specs.declared.rolls.Roll.{Roll}
use Rattle.ledger.specs.Rolls.{kept, places}
use Rattle.game.specs.Rules.{Rules}
use Rattle.books.specs.declared.table_books.Books.{Books}
use Rattle.sheet.specs.Items.{items_of, calls_in}
use Rattle.table.specs.declared.opening.Opening.{Opening}
use Rattle.table.specs.Promise.{Reached}
use Rattle.table.specs.Tally.{Turn}
use Rattle.run.specs.declared.ended.Ended.{Ended}
use Rattle.run.specs.declared.ended.Ended.TheVariants.{NoRoom}
use Rattle.run.specs.Meaning.{most_entries}
use Rattle.run.specs.Runs.{State, to_come}
use Rattle.run.specs.StopRule.{entries_in}
use Rattle.terminal.specs.SheetLines.{roll_places, all_runs, state_after, lines_of_runs, LinesOf}
use Rattle.terminal.specs.Promised.{turns_in, outcome}
use Rattle.terminal.specs.Printed.{PrintedOf}

-- a roll that keeps nothing, on as many places as before
pub record Emptied {R : Type 0} (r r' : Roll R) : Type 0 where
  pub none : kept r' ≡ []
  pub as_many : places r' ≡ places r

-- both rolls keep nothing and have their places
pub record Ready (l : Roll Entry) (n : Roll Note) : Type 0 where
  pub no_entries : kept l ≡ []
  pub no_notes : kept n ≡ []
  pub entries : places l ≡ roll_places
  pub notes : places n ≡ roll_places

-- the runs that are still to come after one: where it stopped for want of room, all from its place on; else none
abbrev pub runs_after : Rules → List ℕ → Ended → Books → ℕ → List State
runs_after R sheet NoRoom b p = all_runs R sheet b p
runs_after R sheet _ b p = []

-- and the calls
abbrev pub calls_after : List ℕ → Ended → ℕ → List Call
calls_after sheet NoRoom p = calls_in (items_of sheet p)
calls_after sheet _ p = []

-- what is promised of the runs that are still to come: they lead on to what the rest of the sheet means
pub record LedOn (R : Rules) (sheet : List ℕ) (b : Books) (p : ℕ) (ended : Ended) (rs : List State) : Type 0 where
  pub calls : map (λ u. u.call) (turns_in rs) ≡ calls_after sheet ended p
  pub room : All (λ u. most_entries ≤ u.free) (turns_in rs)
  pub leads : (o : Opening) (us : List Turn) → Reached R o us b → Reached R o (us ++ turns_in rs) (state_after b rs)
  pub meant : outcome b rs ≡ to_come R sheet ended b p
  pub written : (outcome b rs).entries ≡ entries_in (turns_in rs)

-- the lines that are still to come after a run: those of the runs to come, and the closing line
abbrev pub lines_after : Rules → List ℕ → Ended → Books → ℕ → List (List ℕ)
lines_after R sheet ended b p = lines_of_runs b (runs_after R sheet ended b p)

-- a page on which lines are printed in part: the first few stand whole behind what it held, and no more
pub record PrintedInPart (lines : List (List ℕ)) (page page' : List ℕ) : Type 0 where
  pub printed : ℕ
  pub fewer : printed < length lines
  pub page_then : page' ≡ page ++ concat (take printed lines)

-- a sheet settled: the page has grown by what is printed of it
pub record Page (sheet page page' : List ℕ) : Type 0 where
  pub text : List ℕ
  pub printed_of : PrintedOf sheet text
  pub printed : page' ≡ page ++ text

-- a sheet settled in part: of the lines that are printed of it the page has grown by the first few
pub record PageInPart (sheet page page' : List ℕ) : Type 0 where
  pub lines : List (List ℕ)
  pub lines_of : LinesOf sheet lines
  pub in_part : PrintedInPart lines page page'
