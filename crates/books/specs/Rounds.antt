-- How a table keeps a deal: the cards at the head of forty bytes, and zeros behind them.
use Rattle.std.specs.Prelude.{◌≡◌, ◌-◌, ◌≤◌, ◌++◌, length, take, replicate}
use Rattle.std.proofs.Common.{ap, ◌∙◌, length-take-le}
use Rattle.game.specs.Rules.{Deal, deal}
use Rattle.books.specs.declared.stage.Round.TheInside.{Inside}

-- the deal that a round holds: who staked, and the cards
abbrev pub held : Inside → Deal
held r = deal r.staking (take r.count r.bytes)

-- the round that keeps a deal
abbrev pub kept : Deal → Inside
kept d = record { staking = d.staking; bytes = d.cards ++ replicate (40 - length d.cards) 0; count = length d.cards }

pub record IsKept (r : Inside) : Type 0 where
  pub fits : r.count ≤ length r.bytes
  pub zeros : take r.count r.bytes ++ replicate (40 - r.count) 0 ≡ r.bytes

-- what a round holds gives it back
pub kept_back : (r : Inside) → IsKept r → kept (held r) ≡ r
kept_back r h =
    let many : length (take r.count r.bytes) ≡ r.count = length-take-le r.count r.bytes h.fits in
    λ i. record { staking = r.staking; bytes = (ap (λ n. take r.count r.bytes ++ replicate (40 - n) 0) many ∙ h.zeros) i; count = many i }
