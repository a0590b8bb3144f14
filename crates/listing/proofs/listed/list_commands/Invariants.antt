-- The lines of the items before the place are printed; the bytes that remain are fewer each time.
use Rattle.std.proofs.Common.{◌≡◌, ◌-◌, length, vec_items}
use Rattle.listing.proofs.Listing.{Listed}
use Rattle.listing.proofs.listed.list_commands.Given as goal

abbrev pub invariant-loop-command : goal.invariant-loop-command
invariant-loop-command l = record {
  sheet : l.reader.sheet.now ≡ l.sheet;
  so_far : Listed l.sheet l.reader.place.at (vec_items l.initial.page) (vec_items l.page);
}

abbrev pub decreases-loop-command : goal.decreases-loop-command
decreases-loop-command l = length l.reader.sheet.now - l.reader.place.at
