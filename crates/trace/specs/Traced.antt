-- The trace of a whole sheet.
use Rattle.std.specs.Prelude.{◌≡◌, ℕ, List, [], ◌++◌, Some, None, Ok}
use Rattle.refusals.specs.declared.Refusal.{Refusal}
use Rattle.refusals.specs.Refusals.{first_cause}
use Rattle.commands.specs.declared.Conditions.{Conditions}
use Rattle.commands.specs.Calls.{Open}
use Rattle.game.specs.Rules.{Rules}
use Rattle.games.specs.declared.any_game.AnyGame.{AnyGame}
use Rattle.games.specs.Opening.{Opens}
use Rattle.games.specs.Rules.{rules_of}
use Rattle.lines.specs.Lines.{printed_note}
use Rattle.sheet.specs.Format.{width_of}
use Rattle.sheet.specs.Items.{items_of}
use Rattle.sheet.specs.Reading.{read_at}
use Rattle.table.specs.declared.opening.Opening.{Opening}
use Rattle.table.specs.Promise.{opened}
use Rattle.run.specs.Meaning.{most_entries, note_of}
use Rattle.open_table.specs.Firsts.{first_refusal}
use Rattle.open_table.specs.Tables.{opening_of, opening_causes}
use Rattle.history.specs.Positions.{position_of}
use Rattle.trace.specs.Lines.{position_text}
use Rattle.trace.specs.Traces.{trace_text}

-- the trace from an opening on: where the chips lie then, and the trace of the items of the sheet from a place on, each command with a ledger of seven free places
abbrev pub text_behind : Rules → Opening → List ℕ → ℕ → List ℕ
text_behind R o sheet p = position_text (position_of o [] (opened o)) ++ trace_text R o most_entries [] (opened o) (items_of sheet p)

pub data TraceOf (sheet : List ℕ) : List ℕ → Type 0 where
  -- nothing of an empty sheet
  empty : read_at sheet 0 ≡ Ok None → TraceOf sheet []
  -- one note where the first command opens no table
  refused : (e : Refusal) → Some e ≡ first_refusal (read_at sheet 0) → TraceOf sheet (printed_note (note_of 0 e))
  -- and else the trace behind the Open, at the game that it names
  performed : (c : Conditions) (tray : ℕ) (game : AnyGame) → read_at sheet 0 ≡ Ok (Some (Open c tray)) → first_cause (opening_causes c tray) ≡ None → Opens c.game c.cap c.odds game
      → TraceOf sheet (text_behind (rules_of game) (opening_of c tray) sheet (width_of (Open c tray)))

-- a page that has grown by the trace of a sheet
pub record Traced (sheet page page' : List ℕ) : Type 0 where
  pub text : List ℕ
  pub trace_of : TraceOf sheet text
  pub printed : page' ≡ page ++ text
