-- What the calls of an open table answer and leave.
use Rattle.std.specs.Prelude.{◌≡◌, ℕ, Bool, not, ◌||◌, List, [], ◌∷◌, Some, None, Ok, Err, Result, nat_lt}
use Rattle.refusals.specs.declared.Cause.{Cause}
use Rattle.refusals.specs.declared.Cause.TheVariants.{TotalTooLarge, BadConditions}
use Rattle.refusals.specs.declared.Refusal.{Refusal}
use Rattle.refusals.specs.Refusals.{first_cause}
use Rattle.commands.specs.declared.Conditions.{Conditions}
use Rattle.commands.specs.Calls.{Call}
use Rattle.game.specs.Rules.{Rules}
use Rattle.games.specs.Opening.{conditions, Opens}
use Rattle.games.specs.Rules.{rules_of}
use Rattle.ledger.specs.declared.entries.Entry.{Entry}
use Rattle.ledger.specs.declared.notes.Note.{Note}
use Rattle.ledger.specs.declared.rolls.Roll.{Roll}
use Rattle.books.specs.declared.table_books.Books.{Books}
use Rattle.table.specs.declared.opening.Opening.{Opening}
use Rattle.table.specs.Holdings.{limit}
use Rattle.table.specs.Opening.{bad_bounds, refused_by}
use Rattle.table.specs.Performing.{Performed}
use Rattle.table.specs.Promise.{opened, Reached}
use Rattle.run.specs.declared.ended.Ended.{Ended}
use Rattle.run.specs.Runs.{Answered}
use Rattle.open_table.specs.declared.open_table.OpenTable.{OpenTable}

-- the rules of the table's game, and its books
abbrev pub rules_at : OpenTable → Rules
rules_at t = rules_of t.table.game

abbrev pub books_at : OpenTable → Books
books_at t = t.table.books

-- the bounds of a stake and the tray with which conditions open a table
abbrev pub opening_of : Conditions → ℕ → Opening
opening_of c tray = record { minimum = c.minimum; maximum = c.maximum; tray = tray }

-- why a table is not opened: its tray, and then its bounds or what its game asks
abbrev pub opening_causes : Conditions → ℕ → List (Bool × Cause)
opening_causes c tray =
    (nat_lt limit tray, TotalTooLarge)
    ∷ (not (conditions c.game c.cap c.odds) || bad_bounds c.minimum c.maximum, BadConditions) ∷ []

-- a newly opened table of the game that was asked for, to which the empty history leads; or the refusal of the first cause that holds
abbrev pub Opened : Conditions → ℕ → Result OpenTable Refusal → Type 0
Opened c tray (Ok t) =
    (first_cause (opening_causes c tray) ≡ None) × Opens c.game c.cap c.odds t.table.game
    × (books_at t ≡ opened (opening_of c tray)) × Reached (rules_at t) (opening_of c tray) [] (books_at t)
Opened c tray (Err e) = Some e ≡ refused_by (first_cause (opening_causes c tray))

-- a command performed: all that performing promises, at the same game
pub record Done (t : OpenTable) (l : Roll Entry) (c : Call) (r : Result (Unit {0}) Refusal) (t' : OpenTable) (l' : Roll Entry) : Type 0 where
  pub performed : Performed (rules_at t) (books_at t) l c r (books_at t') l'
  pub game : t'.table.game ≡ t.table.game

-- a sheet run: all that a run promises, at the same game
pub record SheetRun (t : OpenTable) (sheet : List ℕ) (p : ℕ) (l : Roll Entry) (n : Roll Note) (r : Result Ended Refusal) (t' : OpenTable) (p' : ℕ) (l' : Roll Entry) (n' : Roll Note) : Type 0 where
  pub answered : Answered (rules_at t) sheet (books_at t) p l n r (books_at t') p' l' n'
  pub game : t'.table.game ≡ t.table.game
