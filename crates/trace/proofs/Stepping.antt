-- One command performed with an empty ledger: its answer, its entries and the table are those that are printed.
use Rattle.std.proofs.Common.{◌≡◌, ℕ, [], ◌++◌, Result, ap, ◌∙◌}
use Rattle.refusals.specs.declared.Refusal.{Refusal}
use Rattle.commands.specs.Calls.{Call}
use Rattle.game.specs.Rules.{Rules}
use Rattle.ledger.specs.declared.entries.Entry.{Entry}
use Rattle.ledger.specs.declared.rolls.Roll.{Roll}
use Rattle.ledger.specs.Rolls.{kept, free}
use Rattle.books.specs.declared.table_books.Books.{Books}
use Rattle.table.specs.declared.opening.Opening.{Opening}
use Rattle.table.specs.Calls.{either}
use Rattle.table.specs.Causes.{verdict}
use Rattle.table.specs.Effects.{after}
use Rattle.table.specs.Entries.{writes}
use Rattle.table.specs.Performing.{Performed}
use Rattle.table.specs.Promise.{turn_of}
use Rattle.trace.specs.Traces.{turn_on, table_after}

pub record Says (R : Rules) (o : Opening) (n : ℕ) (b : Books) (c : Call) (l l' : Roll Entry) (r : Result (Unit {0}) Refusal) (b' : Books) : Type 0 where
  pub answer : r ≡ verdict R b c n
  pub entries : kept l' ≡ (turn_on R o n b c).entries
  pub turn : turn_of R b c (free l) r ≡ turn_on R o n b c
  pub books : b' ≡ table_after R o n b c

pub says : (R : Rules) (o : Opening) (n : ℕ) (b : Books) (c : Call) (l l' : Roll Entry) (r : Result (Unit {0}) Refusal) (b' : Books) → Performed R b l c r b' l' → kept l ≡ [] → free l ≡ n → Says R o n b c l l' r b'
says R o n b c l l' r b' d none e =
    let answer : r ≡ verdict R b c n = d.did.answer ∙ ap (verdict R b c) e in
    record {
      answer = answer;
      entries = d.ledger.kept_then ∙ ap (λ ks. ks ++ either r (writes R b c) []) none ∙ ap (λ x. either x (writes R b c) []) answer;
      turn = ap (λ k. turn_of R b c k r) e ∙ ap (turn_of R b c n) answer;
      books = d.did.books ∙ ap (λ x. either x (after R b c) b) answer;
    }
