-- A table with its history: what opening and performing promise, and where the chips lie.
use Rattle.std.specs.Prelude.{◌≡◌, ℕ, List, [], ◌∷◌, ◌++◌, Some, None, Ok, Err, Result}
use Rattle.refusals.specs.declared.Refusal.{Refusal}
use Rattle.refusals.specs.Refusals.{first_cause}
use Rattle.commands.specs.declared.Command.{Command}
use Rattle.commands.specs.Calls.{call_of}
use Rattle.game.specs.declared.interface.Game.{Ghosts}
use Rattle.game.specs.Rules.{Rules}
use Rattle.table.specs.declared.opening.Opening.{Opening}
use Rattle.table.specs.Opening.{open_causes, refused_by}
use Rattle.table.specs.Promise.{opened, turn_of, Reached}
use Rattle.table.specs.Tally.{Turn}
use Rattle.history.specs.declared.histories.History.{History}
use Rattle.history.specs.Turns.{turns_of}

module _ {G : Type 0} (g : Ghosts G) where
  -- the rules of the table's game, and the turns of its history
  abbrev pub rules_at : History G g → Rules
  rules_at h = g.rules h.table.game

  abbrev pub turns_at : History G g → List Turn
  turns_at h = turns_of (rules_at h) h.opening h.calls.items

  -- a table newly opened, to which the empty history led
  pub record Begins (played : G) (o : Opening) (h : History G g) : Type 0 where
    pub accepted : first_cause (open_causes o) ≡ None
    pub game : h.table.game ≡ played
    pub opening : h.opening ≡ o
    pub calls : h.calls.items ≡ []
    pub books : h.table.books ≡ opened o
    pub reached : Reached (rules_at h) o [] h.table.books

  -- the table that was opened, or the refusal of the first cause that holds
  abbrev pub Opened : G → Opening → Result (History G g) Refusal → Type 0
  Opened game o (Ok h) = Begins game o h
  Opened game o (Err e) = Some e ≡ refused_by (first_cause (open_causes o))

  -- the table is the same, and so is its history
  pub record Same (h h' : History G g) : Type 0 where
    pub table : h'.table ≡ h.table
    pub opening : h'.opening ≡ h.opening
    pub calls : h'.calls.items ≡ h.calls.items

  -- one more call: the history is the old one and then this call, at the same game and from the same opening; and all that is promised of a history holds of it
  pub record Adds (h : History G g) (free : ℕ) (c : Command) (r : Result (Unit {0}) Refusal) (h' : History G g) : Type 0 where
    pub calls : h'.calls.items ≡ h.calls.items ++ record { command = c; free = free; answer = r } ∷ []
    pub turns : turns_at h' ≡ turns_at h ++ turn_of (rules_at h) h.table.books (call_of c) free r ∷ []
    pub game : h'.table.game ≡ h.table.game
    pub opening : h'.opening ≡ h.opening
    pub reached : Reached (rules_at h') h'.opening (turns_at h') h'.table.books
