-- The racks so far are within the total of the table.
use Rattle.std.proofs.Common.{length, get_or, ap, arith, rules}
use Rattle.books.specs.declared.seat.Seat.{Seat}
use Rattle.books.specs.Books.{nobody}
use Rattle.history.proofs.Room.{part_fits}
use Rattle.history.proofs.histories.History.racks.Goals as goal

pub overflow_add-racks : goal.overflow_add-racks
overflow_add-racks g c =
    let t = c.args.self.now.table in
    let i = c.loop-seat.seat-index in
    let room = part_fits _ t.books (λ s. s.rack) i _ _ nobody t.sound (λ s. omega arith) (omega (arith, c.loop-seat-test.true, ap (λ b. length b.seats) c.books.ensures, t.sound.seven)) c.loop-seat.invariant (ap (λ b. let v : Seat = get_or b.seats i nobody in v.rack) c.books.ensures) in
    search (rules, room)
