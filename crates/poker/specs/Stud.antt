-- Stud: when the bank opens, what the spaces bring, and the ceiling.
use Rattle.std.specs.Prelude.{ℕ, ◌+◌, ◌*◌, min, max, Bool, true, false, cond, ◌&&◌, ◌||◌, List, [], ◌∷◌, Ok, Err, sum, Result, ◌==◌, nat_le, nat_lt}
use Rattle.refusals.specs.declared.Refusal.{Refusal}
use Rattle.grading.specs.Grading.{five_class, five_compared}
use Rattle.grading.specs.FiveClasses.{five_below}
use Rattle.grading.specs.declared.five_classes.FiveClass.{FiveClass}
use Rattle.grading.specs.declared.five_classes.FiveClass.TheVariants.{RoyalFlush, StraightFlush, Four, FullHouse, Flush, Straight, Three, TwoPairs, Pair, OddCards}
use Rattle.game.specs.Rules.{Rules}
use Rattle.game.specs.declared.choice.Choice.{Choice}
use Rattle.game.specs.declared.taking.Barred.{Barred}
use Rattle.game.specs.declared.taking.Barred.TheVariants.{NoBets}
use Rattle.poker.specs.declared.stud.posted.Stud.{Stud}
use Rattle.poker.specs.declared.outcome.Outcome.{Outcome}
use Rattle.poker.specs.Dealing.{seat_hand, bank_hand, dealing}
use Rattle.poker.specs.Outcome.{outcome, ante_return, raise_return}
use Rattle.poker.specs.Payment.{if_raised}
use Rattle.poker.specs.Stakes.{ante_stake}
use Rattle.poker.specs.Ranks.{one_between}

-- the raise is twice the ante
abbrev pub raise_of : ℕ → ℕ
raise_of ante = 2 * ante

-- whether a class is a pair or better
abbrev pub pair_or_better : FiveClass → Bool
pair_or_better k = nat_le (five_below Pair) (five_below k)

-- whether the bank opens with cards of a class: a pair or better, or odd cards with both an ace and a king; it does not with cards that have no class
abbrev pub opens_at : Result FiveClass Refusal → List ℕ → Bool
opens_at (Ok k) cs = pair_or_better k || (one_between 14 14 cs && one_between 13 13 cs)
opens_at (Err e) cs = false

-- whether the bank opens with these cards
abbrev pub stud_opens : List ℕ → Bool
stud_opens cs = opens_at (five_class cs) cs

-- how the round ends for a raised seat, by its cards and the bank's
abbrev pub stud_outcome : List ℕ → List ℕ → Outcome
stud_outcome own bank = outcome (five_compared own bank) (stud_opens bank)

-- the odds at which the raise is paid for a class
abbrev pub raise_odds : FiveClass → ℕ
raise_odds RoyalFlush = 50
raise_odds StraightFlush = 50
raise_odds Four = 20
raise_odds FullHouse = 7
raise_odds Flush = 5
raise_odds Straight = 4
raise_odds Three = 3
raise_odds TwoPairs = 2
raise_odds Pair = 1
raise_odds OddCards = 1

-- whether what the raise is paid for a class is held to the posted cap: from four of a kind up
abbrev pub is_capped : FiveClass → Bool
is_capped k = nat_le (five_below Four) (five_below k)

-- what a winning raise is paid above itself
abbrev pub raise_pays : ℕ → Result FiveClass Refusal → ℕ → ℕ
raise_pays cap (Ok k) raise = cond (is_capped k) (min (raise * raise_odds k) cap) (raise * raise_odds k)
raise_pays cap (Err e) raise = 0

-- what the ante brings
abbrev pub ante_part : Choice → List ℕ → List ℕ → ℕ → ℕ
ante_part c own bank ante = if_raised c (ante_return (stud_outcome own bank) ante)

-- what the raise brings
abbrev pub raise_part : ℕ → Choice → List ℕ → List ℕ → ℕ → ℕ
raise_part cap c own bank raise = if_raised c (raise_return (stud_outcome own bank) raise (raise_pays cap (five_class own) raise))

-- what the spaces bring, ante and raise, by the seat's cards and the bank's
abbrev pub stud_spaces : ℕ → List ℕ → Choice → List ℕ → List ℕ → List ℕ
stud_spaces cap stakes c own bank =
    ante_part c own bank (ante_stake stakes) ∷ raise_part cap c own bank (raise_of (ante_stake stakes)) ∷ []

-- the most that the bank may have to add: the ante, and the raise paid either 7 to 1 or 50 to 1 within the cap
abbrev pub stud_ceiling : ℕ → List ℕ → ℕ
stud_ceiling cap stakes = ante_stake stakes + max (14 * ante_stake stakes) (min (100 * ante_stake stakes) cap)

-- the spaces: the ante alone takes a stake
abbrev pub stud_takes : ℕ → Result (Unit {0}) Barred
stud_takes space = cond (space == 1) (Ok tt) (Err NoBets)

-- what Stud tells at its posted cap: a seat with an ante chooses, and may leave
abbrev pub stud_rules : ℕ → Rules
stud_rules cap = record {
  takes = λ stakes space. stud_takes space;
  deals = dealing 5;
  chooses = λ stakes. nat_lt 0 (ante_stake stakes);
  leaves = λ stakes. true;
  raise = λ stakes. raise_of (ante_stake stakes);
  returns = λ seat stakes c d. sum (stud_spaces cap stakes c (seat_hand 5 seat d) (bank_hand 5 d));
  ceiling = stud_ceiling cap;
}

-- what a game of Stud tells
abbrev pub rules_of : Stud → Rules
rules_of g = stud_rules g.cap
