-- One record more: its amount goes from what is left to the total.
use Rattle.std.proofs.Common.{◌≡◌, true, sym, ap, ◌∙◌, arith, w64, SFits, rules}
use Rattle.std.proofs.lemmas.Int.{ints, to_z-of_z}
use Rattle.ledger.specs.Sums.{within}
use Rattle.ledger.proofs.Totals.{within_bounds, total_more, within_more}
use Rattle.ledger.proofs.sums.total.Goals as goal

pub loop-record-preserved : goal.loop-record-preserved
loop-record-preserved g c =
    let f = g.R.SignedAmount.amount_of in
    let xs = c.args.records.now in
    let i = c.loop-record.record-index in
    let x = c.record-item.result in
    let fits : SFits w64 c.amount-amount.result = search rules in
    let own : within c.amount-amount.result ≡ true = ap within (sym (to_z-of_z w64 _ fits)) ∙ sym c.if-not-is_within.ensures in
    let bounds = within_bounds c.amount-amount.result own in
    let more = total_more f xs i x c.loop-record-test.true c.record-item.is in
    let same = within_more f xs i x c.loop-record-test.true c.record-item.is (ap within (sym c.amount-amount.ensures) ∙ own) in
    (omega (arith, ints, c.amount-amount.ensures), sym same ∙ c.loop-record.invariant.1, omega (arith, ints), omega (arith, ints))
