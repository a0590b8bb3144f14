-- A table newly opened from the conditions of a sheet, with no call made on it.
use Rattle.std.specs.Prelude.{◌≡◌, ℕ, ◌+◌, List, [], Some, None, Ok}
use Rattle.refusals.specs.Refusals.{first_cause}
use Rattle.commands.specs.declared.Conditions.{Conditions}
use Rattle.commands.specs.Calls.{Open}
use Rattle.games.specs.declared.any_game.AnyGame.{AnyGame}
use Rattle.games.specs.Opening.{Opens}
use Rattle.books.specs.declared.table_books.Books.{Books}
use Rattle.table.specs.declared.opening.Opening.{Opening}
use Rattle.table.specs.Promise.{opened}
use Rattle.sheet.specs.Format.{width_of}
use Rattle.sheet.specs.Reading.{read_at}
use Rattle.open_table.specs.Tables.{opening_of, opening_causes}
use Rattle.history.specs.declared.past_calls.PastCall.{PastCall}

-- no cause is named, its game is the one asked for, its history is empty, and the table is as opening makes it
pub record Begun (c : Conditions) (tray : ℕ) (game : AnyGame) (o : Opening) (calls : List PastCall) (b : Books) : Type 0 where
  pub accepted : first_cause (opening_causes c tray) ≡ None
  pub plays : Opens c.game c.cap c.odds game
  pub opening : o ≡ opening_of c tray
  pub none_made : calls ≡ []
  pub state : b ≡ opened (opening_of c tray)

-- such a table, opened by the command at a place
pub record BegunAt (sheet : List ℕ) (p : ℕ) (game : AnyGame) (o : Opening) (calls : List PastCall) (b : Books) (p' : ℕ) : Type 0 where
  pub conditions : Conditions
  pub tray : ℕ
  pub reads : read_at sheet p ≡ Ok (Some (Open conditions tray))
  pub begun : Begun conditions tray game o calls b
  pub place : p' ≡ p + width_of (Open conditions tray)
