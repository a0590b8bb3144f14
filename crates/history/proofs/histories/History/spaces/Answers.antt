-- The spaces so far are within the total of the table.
use Rattle.std.proofs.Common.{◌∙◌, length, get_or, ap, arith, rules}
use Rattle.books.specs.Books.{laid, nobody}
use Rattle.history.proofs.Room.{part_fits}
use Rattle.history.proofs.histories.History.spaces.Goals as goal

pub overflow_add-spaces : goal.overflow_add-spaces
overflow_add-spaces g c =
    let t = c.args.self.now.table in
    let i = c.loop-seat.seat-index in
    let room = part_fits _ t.books laid i _ _ nobody t.sound (λ s. omega arith) (omega (arith, c.loop-seat-test.true, ap (λ b. length b.seats) c.books.ensures, t.sound.seven)) c.loop-seat.invariant (c.laid-spaces.ensures ∙ ap (λ b. laid (get_or b.seats i nobody)) c.books.ensures) in
    search (rules, room)
