-- What performing a call promises: answer, table and ledger exactly; and that whatever history led here, with this call leads there.
use Rattle.std.specs.Prelude.{List, [], ◌∷◌, ◌++◌, Some, None, Ok, Err, Option, Result}
use Rattle.refusals.specs.declared.Cause.{Cause}
use Rattle.refusals.specs.declared.Refusal.{Refusal}
use Rattle.refusals.specs.Refusals.{Answers}
use Rattle.commands.specs.Calls.{Call}
use Rattle.game.specs.Rules.{Rules}
use Rattle.ledger.specs.declared.entries.Entry.{Entry}
use Rattle.ledger.specs.declared.rolls.Roll.{Roll}
use Rattle.ledger.specs.Rolls.{free, Written}
use Rattle.books.specs.declared.table_books.Books.{Books}
use Rattle.table.specs.declared.opening.Opening.{Opening}
use Rattle.table.specs.Calls.{Did, either}
use Rattle.table.specs.Causes.{causes}
use Rattle.table.specs.Entries.{writes}
use Rattle.table.specs.Promise.{turn_of, Reached}
use Rattle.table.specs.Soundness.{Sound}
use Rattle.table.specs.Tally.{Turn}

-- the cause that an answer names, if it is a refusal
abbrev pub cause_in : {A : Type 0} → Result A Refusal → Option Cause
cause_in (Ok x) = None
cause_in (Err e) = Some e.cause

pub record Performed (R : Rules) (b : Books) (l : Roll Entry) (c : Call) (r : Result (Unit {0}) Refusal) (b' : Books) (l' : Roll Entry) : Type 0 where
  pub did : Did R b c (free l) r b'
  pub ledger : Written l l' (either r (writes R b c) [])
  -- of the causes that hold the least answers, and where none holds the call is done
  pub least : Answers (causes R b c (free l)) (cause_in r)
  pub sound : Sound R b'
  pub leads : (o : Opening) (us : List Turn) → Reached R o us b → Reached R o (us ++ turn_of R b c (free l) r ∷ []) b'
