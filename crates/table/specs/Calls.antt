-- What a call answers and leaves, exactly: refused, nothing changes; accepted, the table and the ledger are as the call makes them.
use Rattle.std.specs.Prelude.{◌≡◌, ℕ, Ok, Err, Result}
use Rattle.refusals.specs.declared.Refusal.{Refusal}
use Rattle.commands.specs.Calls.{Call}
use Rattle.game.specs.Rules.{Rules}
use Rattle.books.specs.declared.table_books.Books.{Books}
use Rattle.table.specs.Causes.{verdict}
use Rattle.table.specs.Effects.{after}

-- one thing where a call was accepted, another where it was refused
abbrev pub either : {A : Type 0} → Result (Unit {0}) Refusal → A → A → A
either (Ok u) done left = done
either (Err e) done left = left

pub record Did (R : Rules) (b : Books) (c : Call) (free : ℕ) (r : Result (Unit {0}) Refusal) (b' : Books) : Type 0 where
  pub answer : r ≡ verdict R b c free
  pub books : b' ≡ either r (after R b c) b
