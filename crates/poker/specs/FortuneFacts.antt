-- Fortune keeps what every game promises.
use Rattle.std.specs.Prelude.{◌≡◌, ℕ, ◌+◌, ◌*◌, ◌≤◌, true, List, length, Ok, Err, sum, Result, refl}
use Rattle.std.proofs.Common.{arith}
use Rattle.std.proofs.lemmas.Nat.{mul-le}
use Rattle.refusals.specs.declared.Refusal.{Refusal}
use Rattle.grading.specs.Grading.{three_class}
use Rattle.grading.specs.declared.three_classes.ThreeClass.{ThreeClass}
use Rattle.grading.specs.declared.three_classes.ThreeClass.TheVariants.{StraightFlush, Three, Straight, Flush, Pair, OddCards}
use Rattle.game.specs.Rules.{Facts, RaiseSpace, added}
use Rattle.game.specs.declared.choice.Choice.{Choice}
use Rattle.game.specs.declared.choice.Choice.TheVariants.{Open, Raised, Left}
use Rattle.game.proofs.Postable.{postable_at}
use Rattle.game.proofs.Stakes.{sum_by_places, no_stake_at}
use Rattle.poker.specs.declared.fortune.posted.Fortune.{Fortune}
use Rattle.game.specs.Odds.{all_postable}
use Rattle.poker.specs.Posting.{largest}
use Rattle.poker.specs.Stakes.{ante_stake, pair_plus_stake}
use Rattle.poker.specs.Dealing.{seat_hand, bank_hand}
use Rattle.poker.specs.Fortune.{fortune_outcome, bonus, posted_odds, pair_plus_return, fortune_spaces, fortune_ceiling, fortune_rules, rules_of}
use Rattle.poker.specs.Bounds.{ante_return_le, raise_return_le, forty_cards}

-- a bonus is at most 5 times the ante
bonus_le : (r : Result ThreeClass Refusal) (ante : ℕ) → bonus r ante ≤ 5 * ante
bonus_le (Ok StraightFlush) ante = omega arith
bonus_le (Ok Three) ante = omega arith
bonus_le (Ok Straight) ante = omega arith
bonus_le (Ok Flush) ante = omega arith
bonus_le (Ok Pair) ante = omega arith
bonus_le (Ok OddCards) ante = omega arith
bonus_le (Err e) ante = omega arith

module _ (odds : List ℕ) where
  -- no class has more than the largest odds
  posted_le : (k : ThreeClass) → posted_odds odds k ≤ largest odds
  posted_le StraightFlush = omega arith
  posted_le Three = omega arith
  posted_le Straight = omega arith
  posted_le Flush = omega arith
  posted_le Pair = omega arith
  posted_le OddCards = omega arith

  -- Pair Plus returns at most itself and the largest odds times itself
  pair_plus_le : (r : Result ThreeClass Refusal) (stake : ℕ) → pair_plus_return odds r stake ≤ stake + stake * largest odds
  pair_plus_le (Ok k) stake = by_class k (mul-le stake (posted_odds odds k) stake (largest odds) (omega arith) (posted_le k))
    where
      by_class : (k : ThreeClass) → stake * posted_odds odds k ≤ stake * largest odds → pair_plus_return odds (Ok k) stake ≤ stake + stake * largest odds
      by_class StraightFlush h = omega arith
      by_class Three h = omega arith
      by_class Straight h = omega arith
      by_class Flush h = omega arith
      by_class Pair h = omega arith
      by_class OddCards h = omega arith
  pair_plus_le (Err e) stake = omega arith

  -- a seat's return is at most its stakes, with the raise if it raised, and its ceiling
  returns_le : (stakes own bank : List ℕ) (c : Choice) → length stakes ≡ 5 → sum (fortune_spaces odds stakes c own bank) ≤ sum stakes + added (fortune_rules odds) stakes c + fortune_ceiling odds stakes
  returns_le stakes own bank Open five =
      omega (arith, sum_by_places stakes five, pair_plus_le (three_class own) (pair_plus_stake stakes))
  returns_le stakes own bank Raised five =
      omega (
        arith,
        sum_by_places stakes five,
        ante_return_le (fortune_outcome own bank) (ante_stake stakes),
        bonus_le (three_class own) (ante_stake stakes),
        raise_return_le (fortune_outcome own bank) (ante_stake stakes) (ante_stake stakes),
        pair_plus_le (three_class own) (pair_plus_stake stakes),
      )
  returns_le stakes own bank Left five = omega arith

  -- without stakes there is nothing to add
  no_ceiling : (stakes : List ℕ) → sum stakes ≡ 0 → fortune_ceiling odds stakes ≡ 0
  no_ceiling stakes none = rw (no_stake_at stakes none 0, no_stake_at stakes none 2) (omega arith)

  no_raise : (stakes : List ℕ) (c : Choice) → sum stakes ≡ 0 → added (fortune_rules odds) stakes c ≡ 0
  no_raise stakes Open none = refl
  no_raise stakes Raised none = no_stake_at stakes none 0
  no_raise stakes Left none = refl

  largest_le : all_postable odds ≡ true → largest odds ≤ 1000
  largest_le h = omega (arith, postable_at odds h 0, postable_at odds h 1, postable_at odds h 2, postable_at odds h 3, postable_at odds h 4)

  fortune_facts : all_postable odds ≡ true → Facts (fortune_rules odds)
  fortune_facts posted = record {
    pays = λ seat stakes c d seven s a f. returns_le stakes (seat_hand 3 seat d) (bank_hand 3 d) c s.five;
    idle_return = λ seat stakes c d seven s a f none. omega (arith, returns_le stakes (seat_hand 3 seat d) (bank_hand 3 d) c s.five, no_ceiling stakes none, no_raise stakes c none);
    idle_raise = λ stakes s none. no_stake_at stakes none 0;
    idle_ceiling = λ stakes s none. no_ceiling stakes none;
    ceilings = λ stakes s. omega (arith, s.each 0, mul-le (pair_plus_stake stakes) (largest odds) 1000000 1000 (s.each 2) (largest_le posted));
    cards = λ d f. forty_cards 3 d (omega arith) f.seven f.lawful;
    raises = λ stakes s. omega (arith, s.each 0);
  }

module _ {G : Type 0} where
  pub facts_of : (g : Fortune G) → Facts (rules_of g)
  facts_of g = fortune_facts g.odds g.posted

  -- space 2 is the raise's
  pub raise_space_of : (g : Fortune G) → RaiseSpace (rules_of g)
  raise_space_of g stakes others s told t = refl
