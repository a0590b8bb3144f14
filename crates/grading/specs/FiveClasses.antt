-- The classes of five cards: their words in print, and how many classes stand below each.
use Rattle.std.specs.Prelude.{ℕ, List, codes}
use Rattle.grading.specs.declared.five_classes.FiveClass.{FiveClass}
use Rattle.grading.specs.declared.five_classes.FiveClass.TheVariants.{RoyalFlush, StraightFlush, Four, FullHouse, Flush, Straight, Three, TwoPairs, Pair, OddCards}

-- the words for a class
abbrev pub five_word : FiveClass → List ℕ
five_word RoyalFlush = codes "royal flush"
five_word StraightFlush = codes "straight flush"
five_word Four = codes "four of a kind"
five_word FullHouse = codes "full house"
five_word Flush = codes "flush"
five_word Straight = codes "straight"
five_word Three = codes "three of a kind"
five_word TwoPairs = codes "two pairs"
five_word Pair = codes "pair"
five_word OddCards = codes "odd cards"

-- how many classes are lower
abbrev pub five_below : FiveClass → ℕ
five_below RoyalFlush = 9
five_below StraightFlush = 8
five_below Four = 7
five_below FullHouse = 6
five_below Flush = 5
five_below Straight = 4
five_below Three = 3
five_below TwoPairs = 2
five_below Pair = 1
five_below OddCards = 0
