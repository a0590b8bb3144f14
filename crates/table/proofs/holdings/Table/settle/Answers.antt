-- The seats are settled one after another, and then the table is betting again.
use Rattle.std.proofs.Common.{◌≡◌, ◌≤◌, Ok, None, sym, ◌∙◌, subst, arith}
use Rattle.commands.specs.Calls.{Settle}
use Rattle.game.specs.Rules.{deal_of}
use Rattle.ledger.specs.Rolls.{free}
use Rattle.books.specs.declared.stage.Stage.TheVariants.{Betting}
use Rattle.books.specs.Books.{with_stage}
use Rattle.table.specs.Holdings.{missing, stakers}
use Rattle.table.specs.Soundness.{Sound}
use Rattle.table.proofs.Accepted.{did_sound}
use Rattle.table.proofs.Settling.{dealt_stage, asks, goes_on, ends}
use Rattle.table.proofs.holdings.Table.settle.Goals as goal

pub settle_seat-requires : goal.settle_seat-requires
settle_seat-requires g c =
    let t = c.args.self.now in
    let d = deal_of c.in-Some.deal in
    let dealt = dealt_stage t.books.stage d c.in-Some.ensures in
    let none : missing (g.G.Game.rules t.game) t.books ≡ None = sym c.missing.ensures ∙ c.in_default-missing.is in
    asks g.G.Game.rules g.met.G.Game.facts t.game d t.books c.args.ledger.now t.sound dealt none c.loop-k.self.game c.loop-k.k c.loop-k.self.books c.loop-k.ledger c.loop-k-test.true c.loop-k.invariant.0 c.loop-k.invariant.1

pub loop-k-preserved : goal.loop-k-preserved
loop-k-preserved g c =
    let t = c.args.self.now in
    let d = deal_of c.in-Some.deal in
    let dealt = dealt_stage t.books.stage d c.in-Some.ensures in
    let none : missing (g.G.Game.rules t.game) t.books ≡ None = sym c.missing.ensures ∙ c.in_default-missing.is in (
      c.settle_seat.ensures.game ∙ c.loop-k.invariant.0,
      goes_on g.G.Game.rules g.met.G.Game.facts t.game d t.books c.args.ledger.now t.sound dealt none c.loop-k.self.game c.loop-k.k c.loop-k.self.books c.settle_seat.new.self.books c.loop-k.ledger c.settle_seat.new.ledger
          c.loop-k-test.true c.loop-k.invariant.0 c.loop-k.invariant.1 c.settle_seat.ensures.books c.settle_seat.ensures.ledger,
    )

pub invariant_of-self : goal.invariant_of-self
invariant_of-self g c =
    let t = c.args.self.now in
    let d = deal_of c.in-Some.deal in
    let dealt = dealt_stage t.books.stage d c.in-Some.ensures in
    let none : missing (g.G.Game.rules t.game) t.books ≡ None = sym c.missing.ensures ∙ c.in_default-missing.is in
    let enough : stakers t.books ≤ free c.args.ledger.now = omega (arith, c.if-free-stakers.false, c.stakers.ensures, c.free.ensures) in
    let e = ends g.G.Game.rules g.met.G.Game.facts t.game d t.books c.args.ledger.now t.sound dealt none c.loop-k.k c.loop-k.self.books c.loop-k.ledger (free c.args.ledger.now) enough (omega arith) c.loop-k.invariant.1 in
    let b' = with_stage c.loop-k.self.books Betting in
    let sound = did_sound (g.G.Game.rules t.game) (g.met.G.Game.facts t.game) t.books b' Settle (free c.args.ledger.now) (Ok tt) t.sound e.0 in
    record { sound = subst (λ x. Sound (g.G.Game.rules x) b') (sym c.loop-k.invariant.0) sound }

pub returns-clause-did : goal.returns-clause-did
returns-clause-did g c =
    let t = c.args.self.now in
    let d = deal_of c.in-Some.deal in
    let dealt = dealt_stage t.books.stage d c.in-Some.ensures in
    let none : missing (g.G.Game.rules t.game) t.books ≡ None = sym c.missing.ensures ∙ c.in_default-missing.is in
    let enough : stakers t.books ≤ free c.args.ledger.now = omega (arith, c.if-free-stakers.false, c.stakers.ensures, c.free.ensures) in
    (ends g.G.Game.rules g.met.G.Game.facts t.game d t.books c.args.ledger.now t.sound dealt none c.loop-k.k c.loop-k.self.books c.loop-k.ledger (free c.args.ledger.now) enough (omega arith) c.loop-k.invariant.1).0
