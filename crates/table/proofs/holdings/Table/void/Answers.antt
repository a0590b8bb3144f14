-- The seats are voided one after another, and then the table is betting again.
use Rattle.std.proofs.Common.{sym, refl, subst, arith}
use Rattle.table.specs.Soundness.{Sound}
use Rattle.table.proofs.Voiding.{all_voided, voided_sound}
use Rattle.table.proofs.holdings.Table.void.Goals as goal

pub invariant_of-self : goal.invariant_of-self
invariant_of-self g c =
    let t = c.args.self.now in
    let R = g.G.Game.rules t.game in
    let all = all_voided t.books c.loop-seat.seat-items (omega arith) (λ k lt. c.loop-seat.invariant.done k (omega arith)) in
    record { sound = subst (Sound R) (sym all) (voided_sound R (g.met.G.Game.facts t.game) t.books t.sound) }

pub returns-clause-did : goal.returns-clause-did
returns-clause-did g c = record {
  answer = rw c.in_default.is refl;
  books = all_voided c.args.self.now.books c.loop-seat.seat-items (omega arith) (λ k lt. c.loop-seat.invariant.done k (omega arith));
}
