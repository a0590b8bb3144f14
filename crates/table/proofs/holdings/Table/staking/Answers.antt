-- Each of the seven places tells whether its seat stakes.
use Rattle.std.proofs.Common.{false, get_or, ◌∙◌, rules}
use Rattle.books.specs.Books.{nobody, seat_at}
use Rattle.table.specs.Holdings.{does_stake}
use Rattle.table.proofs.Seats.{every_agree, seven_places}
use Rattle.table.proofs.holdings.Table.staking.Goals as goal

pub returns : goal.returns
returns g c =
    let t = c.args.self.now in
    seven_places c.map.result false c.map.ensures.items.long
    ∙ every_agree (λ k. get_or c.map.result k false) (λ k. does_stake (seat_at t.books k)) (λ k lt. let called = c.map.ensures.items.at k nobody false lt in search rules)
