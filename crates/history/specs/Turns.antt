-- The turns of a history, by the calls that were made and their answers.
use Rattle.std.specs.Prelude.{ℕ, cond, List, [], ◌∷◌, is_ok}
use Rattle.commands.specs.Calls.{call_of}
use Rattle.game.specs.Rules.{Rules}
use Rattle.books.specs.declared.table_books.Books.{Books}
use Rattle.table.specs.declared.opening.Opening.{Opening}
use Rattle.table.specs.Calls.{either}
use Rattle.table.specs.Effects.{after}
use Rattle.table.specs.Promise.{opened, turn_of}
use Rattle.table.specs.Tally.{Turn, brings, takes_away}
use Rattle.history.specs.declared.past_calls.PastCall.{PastCall}

-- the turns of calls that were made one after another on a table
abbrev pub turns_on : Rules → Books → List PastCall → List Turn
turns_on R b [] = []
turns_on R b (p ∷ ps) = turn_of R b (call_of p.command) p.free p.answer ∷ turns_on R (either p.answer (after R b (call_of p.command)) b) ps

-- the turns of calls that were made since an opening
abbrev pub turns_of : Rules → Opening → List PastCall → List Turn
turns_of R o ps = turns_on R (opened o) ps

-- the chips that a call brought to the table, and those that it took away
abbrev pub deposited_by : PastCall → ℕ
deposited_by p = cond (is_ok p.answer) (brings (call_of p.command)) 0

abbrev pub withdrawn_by : PastCall → ℕ
withdrawn_by p = cond (is_ok p.answer) (takes_away (call_of p.command)) 0
