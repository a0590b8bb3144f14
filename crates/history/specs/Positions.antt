-- Where the chips of a table with its history lie.
use Rattle.std.specs.Prelude.{List, map, sum_by}
use Rattle.game.specs.declared.interface.Game.{Ghosts}
use Rattle.books.specs.Books.{laid, chips, seat_at}
use Rattle.books.specs.declared.table_books.Books.{Books}
use Rattle.table.specs.declared.opening.Opening.{Opening}
use Rattle.table.specs.Holdings.{every}
use Rattle.table.specs.Tally.{Turn, brought, taken}
use Rattle.history.specs.declared.histories.History.{History}
use Rattle.history.specs.declared.positions.Position.{Position}
use Rattle.history.specs.Histories.{turns_at}

-- the opening tray, what the calls of a history brought and took away, and where the chips of the table lie
abbrev pub position_of : Opening → List Turn → Books → Position
position_of o us b = record {
  opening_tray = o.tray;
  deposited = brought us;
  withdrawn = taken us;
  tray = b.tray;
  racks = sum_by (λ s. s.rack) b.seats;
  spaces = sum_by laid b.seats;
  seats = map (λ k. chips (seat_at b k)) every;
}

-- the same of a table with its history
abbrev pub position_at : {G : Type 0} (g : Ghosts G) → History G g → Position
position_at g h = position_of h.opening (turns_at g h) h.table.books
