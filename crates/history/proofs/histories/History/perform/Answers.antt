-- The history grows by the call, and what is promised of a history holds of it.
use Rattle.std.proofs.Common.{[], ◌∷◌, ◌++◌, refl, ap, ◌∙◌, arith}
use Rattle.history.specs.declared.past_calls.PastCall.{PastCall}
use Rattle.history.proofs.Growing.{grown}
use Rattle.history.proofs.histories.History.perform.Goals as goal

pub invariant_of-self-2 : goal.invariant_of-self-2
invariant_of-self-2 g c =
    let h = c.args.self.now in
    let p : PastCall = record { command = c.args.command; free = c.free-free.result; answer = c.perform-answer.result } in
    let more = c.push_reserved.ensures.items ∙ ap (λ ps. ps ++ p ∷ []) c.in_ok-reserve.ensures.items in
    let k = grown g.G.Game.rules h.table.game _ c.perform-answer.ensures.game h.opening h.calls.items _ p more _ _ c.args.ledger.now _ h.reached c.perform-answer.ensures.performed c.free-free.ensures in
    record {
      reached = k.reached;
      deposits = omega (arith, h.deposits, k.brings, c.deposited.ensures, c.from.ensures);
      withdrawals = omega (arith, h.withdrawals, k.takes, c.withdrawn.ensures, c.from-2.ensures);
      few_deposited = omega (arith, h.few_deposited, k.long, c.deposited.type_inv, c.from.ensures);
      few_withdrawn = omega (arith, h.few_withdrawn, k.long, c.withdrawn.type_inv, c.from-2.ensures);
    }

pub returns-clause-history : goal.returns-clause-history
returns-clause-history g c =
    let h = c.args.self.now in
    let p : PastCall = record { command = c.args.command; free = c.free-free.result; answer = c.perform-answer.result } in
    let more = c.push_reserved.ensures.items ∙ ap (λ ps. ps ++ p ∷ []) c.in_ok-reserve.ensures.items in
    let k = grown g.G.Game.rules h.table.game _ c.perform-answer.ensures.game h.opening h.calls.items _ p more _ _ c.args.ledger.now _ h.reached c.perform-answer.ensures.performed c.free-free.ensures in
    record {
      calls = more ∙ ap (λ n. h.calls.items ++ record { command = c.args.command; free = n; answer = c.perform-answer.result } ∷ []) c.free-free.ensures;
      turns = k.turns;
      game = c.perform-answer.ensures.game;
      opening = refl;
      reached = k.reached;
    }
