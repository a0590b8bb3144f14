-- The staking seats are counted in the list of the seats, which has seven places.
use Rattle.std.proofs.Common.{◌≡◌, count_by, ap, ◌∙◌, rules}
use Rattle.books.specs.Books.{nobody}
use Rattle.table.specs.Holdings.{does_stake}
use Rattle.table.proofs.Seats.{seven_places}
use Rattle.table.proofs.holdings.Table.stakers.Goals as goal

pub returns : goal.returns
returns g c =
    let t = c.args.self.now in
    let counted : c.count.result ≡ count_by does_stake t.books.seats = search rules in
    counted ∙ ap (count_by does_stake) (seven_places t.books.seats nobody t.sound.seven)
