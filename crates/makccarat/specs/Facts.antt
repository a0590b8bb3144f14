-- Makccarat keeps what every game promises.
use Rattle.std.specs.Prelude.{◌≡◌, ℕ, ◌+◌, ◌*◌, ◌≤◌, Bool, true, false, cond, List, length, Some, None, sum, Option, ◌==◌, slice_index, refl}
use Rattle.std.proofs.Common.{arith}
use Rattle.std.proofs.lemmas.Nat.{mul-le}
use Rattle.std.proofs.lemmas.Bool.{and_parts, eqb-true, false≢true}
use Rattle.game.specs.Odds.{postable, won}
use Rattle.game.specs.Rules.{Facts, RaiseSpace, Small}
use Rattle.game.proofs.Postable.{postable_le}
use Rattle.game.proofs.Stakes.{sum_by_places, no_stake_at}
use Rattle.makccarat.specs.declared.posted.Makccarat.{Makccarat}
use Rattle.makccarat.specs.declared.side.Side.{Side}
use Rattle.makccarat.specs.declared.side.Side.TheVariants.{Player, Banker}
use Rattle.makccarat.specs.declared.way.Way.{Way}
use Rattle.makccarat.specs.declared.way.Way.TheVariants.{First, Second}
use Rattle.makccarat.specs.Sides.{same}
use Rattle.makccarat.specs.Ways.{lawful_odds}
use Rattle.makccarat.specs.Round.{winner, pair}
use Rattle.makccarat.specs.Payment.{side_return, tie_return, space_returns, space_ceilings, rules_of}
use Rattle.makccarat.specs.Counts.{four_to_six, lawful_deal}

-- a stake that wins or loses returns at most itself and its odds
at_most_won : (b : Bool) (stake odds : ℕ) → cond b (won stake odds) 0 ≤ stake + stake * odds
at_most_won true stake odds = omega arith
at_most_won false stake odds = omega arith

side_return_le : (o : Option Side) (s : Side) (stake : ℕ) → side_return o s stake ≤ stake + stake * 1
side_return_le None s stake = omega arith
side_return_le (Some t) s stake = at_most_won (same t s) stake 1

tie_return_le : (o : Option Side) (odds stake : ℕ) → tie_return o odds stake ≤ stake + stake * odds
tie_return_le None odds stake = omega arith
tie_return_le (Some t) odds stake = omega arith

-- a seat's return is at most its stakes and its ceiling
returns_le : (g : Makccarat) (stakes cs : List ℕ) → length stakes ≡ 5 → sum (space_returns g stakes cs) ≤ sum stakes + sum (space_ceilings g stakes)
returns_le g stakes cs five =
    let o = winner g.way cs in
    omega (
      arith,
      sum_by_places stakes five,
      side_return_le o Player (slice_index stakes 0),
      side_return_le o Banker (slice_index stakes 1),
      tie_return_le o g.tie (slice_index stakes 2),
      at_most_won (pair cs Player) (slice_index stakes 3) g.pairs,
      at_most_won (pair cs Banker) (slice_index stakes 4) g.pairs,
    )

-- odds are at most 1,000
odds_le : (w : Way) (tie pairs : ℕ) → lawful_odds w tie pairs ≡ true → (tie ≤ 1000) × (pairs ≤ 1000)
odds_le First tie pairs h =
    let p = and_parts (tie == 14) (pairs == 11) h in (omega (arith, eqb-true tie 14 p.0), omega (arith, eqb-true pairs 11 p.1))
odds_le Second tie pairs h =
    let p = and_parts (postable tie) (postable pairs) h in
    (postable_le tie p.0, postable_le pairs p.1)

-- no ceiling passes 10,000,000,000
ceiling_le : (g : Makccarat) (stakes : List ℕ) → Small stakes → sum (space_ceilings g stakes) ≤ 10000000000
ceiling_le g stakes s =
    let odds = odds_le g.way g.tie g.pairs g.posted in
    omega (
      arith,
      s.each 0,
      s.each 1,
      mul-le (slice_index stakes 2) g.tie 1000000 1000 (s.each 2) odds.0,
      mul-le (slice_index stakes 3) g.pairs 1000000 1000 (s.each 3) odds.1,
      mul-le (slice_index stakes 4) g.pairs 1000000 1000 (s.each 4) odds.1,
    )

-- without stakes there is nothing to pay
no_ceiling : (g : Makccarat) (stakes : List ℕ) → sum stakes ≡ 0 → sum (space_ceilings g stakes) ≡ 0
no_ceiling g stakes none = rw (no_stake_at stakes none 0, no_stake_at stakes none 1, no_stake_at stakes none 2, no_stake_at stakes none 3, no_stake_at stakes none 4) (omega arith)

pub facts_of : (g : Makccarat) → Facts (rules_of g)
facts_of g = record {
  pays = λ seat stakes c d seven s a f. omega (arith, returns_le g stakes d.cards s.five);
  idle_return = λ seat stakes c d seven s a f none. omega (arith, returns_le g stakes d.cards s.five, no_ceiling g stakes none);
  idle_raise = λ stakes s none. refl;
  idle_ceiling = λ stakes s none. no_ceiling g stakes none;
  ceilings = ceiling_le g;
  cards = λ d f. omega (arith, (four_to_six g.way d.cards).1, (lawful_deal g.way d.cards f.lawful).1);
  raises = λ stakes s. omega arith;
}

-- no choice is ever told
pub raise_space_of : (g : Makccarat) → RaiseSpace (rules_of g)
raise_space_of g stakes others s told t = absurd (false≢true told)
