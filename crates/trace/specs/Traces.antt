-- What is printed of the items of a sheet on a table that a history led to.
use Rattle.std.specs.Prelude.{◌≡◌, ℕ, List, [], ◌∷◌, ◌++◌}
use Rattle.commands.specs.Calls.{Call, name_of}
use Rattle.game.specs.declared.interface.Game.{Ghosts}
use Rattle.game.specs.Rules.{Rules}
use Rattle.books.specs.declared.table_books.Books.{Books}
use Rattle.lines.specs.Lines.{with_feed, printed_entry, printed_note, lines_of}
use Rattle.sheet.specs.Items.{Item, command, fault, items_of}
use Rattle.table.specs.declared.opening.Opening.{Opening}
use Rattle.table.specs.Calls.{either}
use Rattle.table.specs.Causes.{verdict}
use Rattle.table.specs.Effects.{after}
use Rattle.table.specs.Promise.{turn_of}
use Rattle.table.specs.Tally.{Turn}
use Rattle.history.specs.declared.histories.History.{History}
use Rattle.history.specs.Histories.{rules_at, turns_at}
use Rattle.history.specs.Positions.{position_of}
use Rattle.trace.specs.Lines.{answered_line, position_text}

module _ (R : Rules) (o : Opening) (free : ℕ) where
  -- the turn of a call that is made on this table with an empty ledger
  abbrev pub turn_on : Books → Call → Turn
  turn_on b c = turn_of R b c free (verdict R b c free)

  -- the table after it
  abbrev pub table_after : Books → Call → Books
  table_after b c = either (verdict R b c free) (after R b c) b

  -- what is printed of one command: its answer, the entries that it wrote, and where the chips lie then
  abbrev pub step_text : List Turn → Books → ℕ → Call → List ℕ
  step_text us b p c =
      with_feed (answered_line p (name_of c) (verdict R b c free))
      ++ (lines_of printed_entry (turn_on b c).entries ++ position_text (position_of o (us ++ turn_on b c ∷ []) (table_after b c)))

  -- what is printed of items, one after another; a command that cannot be read is noted, and ends it
  abbrev pub trace_text : List Turn → Books → List Item → List ℕ
  trace_text us b [] = []
  trace_text us b (command p c ∷ is) = step_text us b p c ++ trace_text (us ++ turn_on b c ∷ []) (table_after b c) is
  trace_text us b (fault p e ∷ is) = printed_note (record { place = p; refusal = e })

-- a table with its history after one call that was made with so many free places: the history has this turn more, and all that is promised of a history holds of it by its type
pub record Stepped {G : Type 0} (g : Ghosts G) (h : History G g) (free : ℕ) (c : Call) (h' : History G g) : Type 0 where
  pub game : h'.table.game ≡ h.table.game
  pub opening : h'.opening ≡ h.opening
  pub turns : turns_at g h' ≡ turns_at g h ++ turn_on (rules_at g h) h.opening free h.table.books c ∷ []
  pub books : h'.table.books ≡ table_after (rules_at g h) h.opening free h.table.books c

-- what is printed of a sheet from a place on, on a table with its history
abbrev pub text_from : {G : Type 0} (g : Ghosts G) → History G g → ℕ → List ℕ → ℕ → List ℕ
text_from g h free sheet p = trace_text (rules_at g h) h.opening free (turns_at g h) h.table.books (items_of sheet p)
