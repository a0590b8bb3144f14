-- What both games share of the facts that every game owes.
use Rattle.std.specs.Prelude.{◌≡◌, ℕ, ◌+◌, ◌*◌, ◌≤◌, Bool, length, Ok}
use Rattle.std.proofs.Common.{arith}
use Rattle.std.proofs.lemmas.Nat.{mul-le}
use Rattle.std.proofs.lemmas.List.Sums.{count_by-le-length}
use Rattle.grading.specs.Cards.{different_cards}
use Rattle.game.specs.Rules.{Deal}
use Rattle.game.proofs.Judged.{judged_lawful}
use Rattle.poker.specs.declared.outcome.Outcome.{Outcome}
use Rattle.poker.specs.declared.outcome.Outcome.TheVariants.{Unopened, Won, Tied, Lost}
use Rattle.poker.specs.Dealing.{stakers, dealing}
use Rattle.poker.specs.Outcome.{ante_return, raise_return}

-- the ante brings at most itself twice
pub ante_return_le : (o : Outcome) (ante : ℕ) → ante_return o ante ≤ 2 * ante
ante_return_le Unopened ante = omega arith
ante_return_le Won ante = omega arith
ante_return_le Tied ante = omega arith
ante_return_le Lost ante = omega arith

-- the raise brings at most itself and what it is paid
pub raise_return_le : (o : Outcome) (raise paid : ℕ) → raise_return o raise paid ≤ raise + paid
raise_return_le Unopened raise paid = omega arith
raise_return_le Won raise paid = omega arith
raise_return_le Tied raise paid = omega arith
raise_return_le Lost raise paid = omega arith

-- hands of at most five cards to at most seven seats and the bank are at most 40 cards
pub forty_cards : (n : ℕ) (d : Deal) → n ≤ 5 → length d.staking ≡ 7 → dealing n d ≡ Ok tt → length d.cards ≤ 40
forty_cards n d small seven h =
    omega (
      arith,
      (judged_lawful (different_cards d.cards) (length d.cards) (n * (stakers d.staking + 1)) h).1,
      mul-le n (stakers d.staking + 1) 5 8 small (omega (arith, count_by-le-length (λ (b : Bool). b) d.staking)),
    )
