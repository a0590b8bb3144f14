-- The chips of all seats, by a part of them, and where all chips lie at the close.
use Rattle.std.specs.Prelude.{ℕ, sum_by}
use Rattle.ledger.specs.declared.closings.Closing.{Closing}
use Rattle.books.specs.declared.seat.Seat.{Seat}
use Rattle.books.specs.declared.table_books.Books.{Books}
use Rattle.books.specs.Books.{laid, chips}
use Rattle.open_table.specs.declared.part.Part.{Part}
use Rattle.open_table.specs.declared.part.Part.TheVariants.{Rack, Spaces, Chips}

-- the chips of a seat in its rack, on its spaces with the raise, or both together
abbrev pub in_part : Part → Seat → ℕ
in_part Rack s = s.rack
in_part Spaces s = laid s
in_part Chips s = chips s

-- where all chips lie: tray, racks and spaces
abbrev pub closing_of : Books → Closing
closing_of b = record { tray = b.tray; racks = sum_by (in_part Rack) b.seats; spaces = sum_by (in_part Spaces) b.seats }
