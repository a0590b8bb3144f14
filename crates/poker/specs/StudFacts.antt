-- Stud keeps what every game promises.
use Rattle.std.specs.Prelude.{◌≡◌, ℕ, ◌+◌, ◌*◌, ◌≤◌, min, max, List, length, Ok, Err, sum, Result, refl}
use Rattle.std.proofs.Common.{arith}
use Rattle.refusals.specs.declared.Refusal.{Refusal}
use Rattle.grading.specs.Grading.{five_class}
use Rattle.grading.specs.declared.five_classes.FiveClass.{FiveClass}
use Rattle.grading.specs.declared.five_classes.FiveClass.TheVariants.{RoyalFlush, StraightFlush, Four, FullHouse, Flush, Straight, Three, TwoPairs, Pair, OddCards}
use Rattle.game.specs.Rules.{Facts, RaiseSpace, added}
use Rattle.game.specs.declared.choice.Choice.{Choice}
use Rattle.game.specs.declared.choice.Choice.TheVariants.{Open, Raised, Left}
use Rattle.game.proofs.Stakes.{sum_by_places, no_stake_at}
use Rattle.poker.specs.declared.stud.posted.Stud.{Stud}
use Rattle.poker.specs.Dealing.{seat_hand, bank_hand}
use Rattle.poker.specs.Stud.{raise_of, stud_outcome, raise_pays, stud_spaces, stud_ceiling, stud_rules, rules_of}
use Rattle.poker.specs.Stakes.{ante_stake}
use Rattle.poker.specs.Bounds.{ante_return_le, raise_return_le, forty_cards}

module _ (cap : ℕ) where
  -- what the raise is paid is at most 7 to 1, or 50 to 1 within the cap
  raise_pays_le : (r : Result FiveClass Refusal) (ante : ℕ) → raise_pays cap r (raise_of ante) ≤ max (14 * ante) (min (100 * ante) cap)
  raise_pays_le (Ok RoyalFlush) ante = omega arith
  raise_pays_le (Ok StraightFlush) ante = omega arith
  raise_pays_le (Ok Four) ante = omega arith
  raise_pays_le (Ok FullHouse) ante = omega arith
  raise_pays_le (Ok Flush) ante = omega arith
  raise_pays_le (Ok Straight) ante = omega arith
  raise_pays_le (Ok Three) ante = omega arith
  raise_pays_le (Ok TwoPairs) ante = omega arith
  raise_pays_le (Ok Pair) ante = omega arith
  raise_pays_le (Ok OddCards) ante = omega arith
  raise_pays_le (Err e) ante = omega arith

  -- a seat's return is at most its stakes, with the raise if it raised, and its ceiling
  returns_le : (stakes own bank : List ℕ) (c : Choice) → length stakes ≡ 5 → sum (stud_spaces cap stakes c own bank) ≤ sum stakes + added (stud_rules cap) stakes c + stud_ceiling cap stakes
  returns_le stakes own bank Open five = omega arith
  returns_le stakes own bank Raised five =
      let raise = raise_of (ante_stake stakes) in
      omega (
        arith,
        sum_by_places stakes five,
        ante_return_le (stud_outcome own bank) (ante_stake stakes),
        raise_return_le (stud_outcome own bank) raise (raise_pays cap (five_class own) raise),
        raise_pays_le (five_class own) (ante_stake stakes),
      )
  returns_le stakes own bank Left five = omega arith

  -- without stakes there is nothing to add
  no_ceiling : (stakes : List ℕ) → sum stakes ≡ 0 → stud_ceiling cap stakes ≡ 0
  no_ceiling stakes none = omega (arith, no_stake_at stakes none 0)

  no_raise : (stakes : List ℕ) (c : Choice) → sum stakes ≡ 0 → added (stud_rules cap) stakes c ≡ 0
  no_raise stakes Open none = refl
  no_raise stakes Raised none = omega (arith, no_stake_at stakes none 0)
  no_raise stakes Left none = refl

  stud_facts : Facts (stud_rules cap)
  stud_facts = record {
    pays = λ seat stakes c d seven s a f. returns_le stakes (seat_hand 5 seat d) (bank_hand 5 d) c s.five;
    idle_return = λ seat stakes c d seven s a f none. omega (arith, returns_le stakes (seat_hand 5 seat d) (bank_hand 5 d) c s.five, no_ceiling stakes none, no_raise stakes c none);
    idle_raise = λ stakes s none. no_raise stakes Raised none;
    idle_ceiling = λ stakes s none. no_ceiling stakes none;
    ceilings = λ stakes s. omega (arith, s.each 0);
    cards = λ d f. forty_cards 5 d (omega arith) f.seven f.lawful;
    raises = λ stakes s. omega (arith, s.each 0);
  }

pub facts_of : (g : Stud) → Facts (rules_of g)
facts_of g = stud_facts g.cap

-- space 2 is the raise's
pub raise_space_of : (g : Stud) → RaiseSpace (rules_of g)
raise_space_of g stakes others s told t = refl
