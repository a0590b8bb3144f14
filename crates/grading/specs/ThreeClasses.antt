-- The classes of three cards: their words in print, and how many classes stand below each.
use Rattle.std.specs.Prelude.{ℕ, List, codes}
use Rattle.grading.specs.declared.three_classes.ThreeClass.{ThreeClass}
use Rattle.grading.specs.declared.three_classes.ThreeClass.TheVariants.{StraightFlush, Three, Straight, Flush, Pair, OddCards}

-- the words for a class
abbrev pub three_word : ThreeClass → List ℕ
three_word StraightFlush = codes "straight flush"
three_word Three = codes "three of a kind"
three_word Straight = codes "straight"
three_word Flush = codes "flush"
three_word Pair = codes "pair"
three_word OddCards = codes "odd cards"

-- how many classes are lower
abbrev pub three_below : ThreeClass → ℕ
three_below StraightFlush = 5
three_below Three = 4
three_below Straight = 3
three_below Flush = 2
three_below Pair = 1
three_below OddCards = 0
