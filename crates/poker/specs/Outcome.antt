-- How a round ends for a raised seat, and what its ante and its raise then bring.
use Rattle.std.specs.Prelude.{ℕ, ◌+◌, ◌*◌, Bool, cond, Ok, Err, Result}
use Rattle.refusals.specs.declared.Refusal.{Refusal}
use Rattle.grading.specs.declared.comparisons.Comparison.{Comparison}
use Rattle.grading.specs.declared.comparisons.Comparison.TheVariants.{Lower, Alike, Higher}
use Rattle.poker.specs.declared.outcome.Outcome.{Outcome}
use Rattle.poker.specs.declared.outcome.Outcome.TheVariants.{Unopened, Won, Tied, Lost}

-- against a bank that opened, by how the seat's hand compares with the bank's
abbrev pub opened_outcome : Comparison → Outcome
opened_outcome Lower = Lost
opened_outcome Alike = Tied
opened_outcome Higher = Won

-- by how the seat's hand compares with the bank's, and whether the bank opens; hands that cannot be compared bring nothing
abbrev pub outcome : Result Comparison Refusal → Bool → Outcome
outcome (Ok answer) opens = cond opens (opened_outcome answer) Unopened
outcome (Err refusal) opens = Lost

-- the ante pays 1 to 1 where the bank does not open or the seat wins, and comes back at a tie
abbrev pub ante_return : Outcome → ℕ → ℕ
ante_return Unopened ante = 2 * ante
ante_return Won ante = 2 * ante
ante_return Tied ante = ante
ante_return Lost ante = 0

-- the raise comes back where the bank does not open and at a tie; where the seat wins it is paid besides
abbrev pub raise_return : Outcome → ℕ → ℕ → ℕ
raise_return Unopened raise paid = raise
raise_return Won raise paid = raise + paid
raise_return Tied raise paid = raise
raise_return Lost raise paid = 0
