-- What is still to be added makes the total whole, and the total so far is no larger than its records allow.
use Rattle.std.proofs.Common.{◌≡◌, ◌*◌, drop, pos, ◌+ℤ◌, neg_ℤ, ◌≤ℤ◌}
use Rattle.ledger.specs.Sums.{most_amount, all_within, total_of}
use Rattle.ledger.proofs.sums.total.Given as goal

abbrev pub invariant-loop-record : goal.invariant-loop-record
invariant-loop-record g l =
    (l.total +ℤ total_of g.R.SignedAmount.amount_of (drop l.record-index l.records) ≡ total_of g.R.SignedAmount.amount_of l.records)
    × (all_within g.R.SignedAmount.amount_of (drop l.record-index l.records) ≡ all_within g.R.SignedAmount.amount_of l.records)
    × (neg_ℤ (pos (l.record-index * most_amount)) ≤ℤ l.total)
    × (l.total ≤ℤ pos (l.record-index * most_amount))
