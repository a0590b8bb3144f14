-- Fortune: when the bank opens, what the spaces bring, and the ceiling.
use Rattle.std.specs.Prelude.{ℕ, ◌+◌, ◌*◌, Bool, false, cond, ◌||◌, List, [], ◌∷◌, Ok, Err, sum, Result, ◌==◌, nat_le, nat_lt, slice_index}
use Rattle.refusals.specs.declared.Refusal.{Refusal}
use Rattle.grading.specs.Grading.{three_class, three_compared}
use Rattle.grading.specs.ThreeClasses.{three_below}
use Rattle.grading.specs.declared.three_classes.ThreeClass.{ThreeClass}
use Rattle.grading.specs.declared.three_classes.ThreeClass.TheVariants.{StraightFlush, Three, Straight, Flush, Pair, OddCards}
use Rattle.game.specs.Odds.{won}
use Rattle.game.specs.Rules.{Rules}
use Rattle.game.specs.declared.choice.Choice.{Choice}
use Rattle.game.specs.declared.taking.Barred.{Barred}
use Rattle.game.specs.declared.taking.Barred.TheVariants.{NoBets}
use Rattle.poker.specs.declared.fortune.posted.Fortune.{Fortune}
use Rattle.poker.specs.declared.outcome.Outcome.{Outcome}
use Rattle.poker.specs.Dealing.{seat_hand, bank_hand, dealing}
use Rattle.poker.specs.Posting.{largest}
use Rattle.poker.specs.Stakes.{ante_stake, pair_plus_stake}
use Rattle.poker.specs.Outcome.{outcome, ante_return, raise_return}
use Rattle.poker.specs.Payment.{if_raised, unless_left}
use Rattle.poker.specs.Ranks.{one_between}

-- whether a class is a pair or better
abbrev pub pair_or_better : ThreeClass → Bool
pair_or_better k = nat_le (three_below Pair) (three_below k)

-- whether the bank opens with cards of a class: a pair or better, or odd cards headed by a queen, a king or an ace; it does not with cards that have no class
abbrev pub opens_at : Result ThreeClass Refusal → List ℕ → Bool
opens_at (Ok k) cs = pair_or_better k || one_between 12 14 cs
opens_at (Err e) cs = false

-- whether the bank opens with these cards
abbrev pub fortune_opens : List ℕ → Bool
fortune_opens cs = opens_at (three_class cs) cs

-- how the round ends for a raised seat, by its cards and the bank's
abbrev pub fortune_outcome : List ℕ → List ℕ → Outcome
fortune_outcome own bank = outcome (three_compared own bank) (fortune_opens bank)

-- how many times the ante a class receives besides
abbrev pub bonus_odds : ThreeClass → ℕ
bonus_odds StraightFlush = 5
bonus_odds Three = 4
bonus_odds Straight = 1
bonus_odds Flush = 0
bonus_odds Pair = 0
bonus_odds OddCards = 0

-- what the ante receives besides, whatever the bank holds
abbrev pub bonus : Result ThreeClass Refusal → ℕ → ℕ
bonus (Ok k) ante = ante * bonus_odds k
bonus (Err e) ante = 0

-- the odds that are posted for a class; none for odd cards
abbrev pub posted_odds : List ℕ → ThreeClass → ℕ
posted_odds odds StraightFlush = slice_index odds 0
posted_odds odds Three = slice_index odds 1
posted_odds odds Straight = slice_index odds 2
posted_odds odds Flush = slice_index odds 3
posted_odds odds Pair = slice_index odds 4
posted_odds odds OddCards = 0

-- what Pair Plus wins: at the posted odds with a pair or better, whatever the bank holds
abbrev pub pair_plus_return : List ℕ → Result ThreeClass Refusal → ℕ → ℕ
pair_plus_return odds (Ok k) stake = cond (pair_or_better k) (won stake (posted_odds odds k)) 0
pair_plus_return odds (Err e) stake = 0

-- what the ante brings: for a raised seat what the round's end gives it, and the bonus
abbrev pub ante_part : Choice → List ℕ → List ℕ → ℕ → ℕ
ante_part c own bank ante = if_raised c (ante_return (fortune_outcome own bank) ante + bonus (three_class own) ante)

-- what the raise brings, which is as large as the ante and pays 1 to 1
abbrev pub raise_part : Choice → List ℕ → List ℕ → ℕ → ℕ
raise_part c own bank ante = if_raised c (raise_return (fortune_outcome own bank) ante ante)

-- what Pair Plus brings
abbrev pub pair_plus_part : List ℕ → Choice → List ℕ → ℕ → ℕ
pair_plus_part odds c own stake = unless_left c (pair_plus_return odds (three_class own) stake)

-- what the spaces bring, ante, raise and Pair Plus, by the seat's cards and the bank's
abbrev pub fortune_spaces : List ℕ → List ℕ → Choice → List ℕ → List ℕ → List ℕ
fortune_spaces odds stakes c own bank =
    ante_part c own bank (ante_stake stakes)
    ∷ raise_part c own bank (ante_stake stakes)
    ∷ pair_plus_part odds c own (pair_plus_stake stakes)
    ∷ []

-- the most that the bank may have to add: 7 times the ante, and Pair Plus at the largest posted odds
abbrev pub fortune_ceiling : List ℕ → List ℕ → ℕ
fortune_ceiling odds stakes = 7 * ante_stake stakes + pair_plus_stake stakes * largest odds

-- the spaces: the ante and Pair Plus take a stake, alone or together
abbrev pub fortune_takes : ℕ → Result (Unit {0}) Barred
fortune_takes space = cond (space == 1 || space == 3) (Ok tt) (Err NoBets)

-- what Fortune tells at its posted odds: a seat with an ante chooses, may leave unless it has Pair Plus, and raises as much as its ante
abbrev pub fortune_rules : List ℕ → Rules
fortune_rules odds = record {
  takes = λ stakes space. fortune_takes space;
  deals = dealing 3;
  chooses = λ stakes. nat_lt 0 (ante_stake stakes);
  leaves = λ stakes. (pair_plus_stake stakes == 0);
  raise = ante_stake;
  returns = λ seat stakes c d. sum (fortune_spaces odds stakes c (seat_hand 3 seat d) (bank_hand 3 d));
  ceiling = fortune_ceiling odds;
}

-- what a game of Fortune tells; by which way it grades is all one
abbrev pub rules_of : {G : Type 0} → Fortune G → Rules
rules_of g = fortune_rules g.odds
