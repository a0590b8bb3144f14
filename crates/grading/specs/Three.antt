-- Three cards: of which class they are, and what hands of a class are compared by.
use Rattle.std.specs.Prelude.{ℕ, Bool, cond, not, ◌&&◌, List, [], ◌∷◌, ◌++◌, length, is_some, Option, ◌==◌}
use Rattle.std.specs.Option.{option_to_list}
use Rattle.grading.specs.Cards.{one_suit, tally}
use Rattle.grading.specs.Order.{by_parts}
use Rattle.grading.specs.Ranks.{Held, held, runs_of_three, sequence, padded}
use Rattle.grading.specs.ThreeClasses.{three_below}
use Rattle.grading.specs.declared.comparisons.Comparison.{Comparison}
use Rattle.grading.specs.declared.three.ThreeHand.{ThreeHand}
use Rattle.grading.specs.declared.three_classes.ThreeClass.{ThreeClass}
use Rattle.grading.specs.declared.three_classes.ThreeClass.TheVariants.{StraightFlush, Three, Straight, Flush, Pair, OddCards}

-- whether three cards are of a class: by the head of the sequence that they are, or none, the ranks that they hold, and whether they are of one suit
abbrev pub three_is : ThreeClass → Option ℕ → Held → Bool → Bool
three_is StraightFlush head h level = is_some head && level
three_is Three head h level = length h.threes == 1
three_is Straight head h level = is_some head && not level
three_is Flush head h level = length h.ones == 3 && (not (is_some head) && level)
three_is Pair head h level = length h.twos == 1
three_is OddCards head h level = length h.ones == 3 && (not (is_some head) && not level)

-- the class: the first, downward, of which the cards are; they are of no other
abbrev pub three_class_by : Option ℕ → Held → Bool → ThreeClass
three_class_by head h level =
    cond (three_is StraightFlush head h level) StraightFlush
    (cond (three_is Three head h level) Three
    (cond (three_is Straight head h level) Straight
    (cond (three_is Flush head h level) Flush
    (cond (three_is Pair head h level) Pair OddCards))))

-- the ranks that hands of a class are compared by, from the first: of a sequence its head, of a pair the pair before the third card
abbrev pub three_weighed : ThreeClass → Option ℕ → Held → List ℕ
three_weighed StraightFlush head h = option_to_list head
three_weighed Three head h = h.threes
three_weighed Straight head h = option_to_list head
three_weighed Flush head h = h.ones
three_weighed Pair head h = h.twos ++ h.ones
three_weighed OddCards head h = h.ones

-- the graded hand: its class, and what it is compared by, with 0 in places not in use
abbrev pub three_hand_at : ThreeClass → Option ℕ → Held → ThreeHand
three_hand_at k head h = record { class = k; ranks = padded 3 (three_weighed k head h) }

-- the same, with the class that the rule gives
abbrev pub three_hand_by : Option ℕ → Held → Bool → ThreeHand
three_hand_by head h level = three_hand_at (three_class_by head h level) head h

-- the graded hand of three cards
unfoldable pub three_hand : List ℕ → ThreeHand
three_hand cs = three_hand_by (sequence runs_of_three (held (tally cs)).ones) (held (tally cs)) (one_suit cs)

-- whether three cards are of a class
unfoldable pub three_of : ThreeClass → List ℕ → Bool
three_of k cs = three_is k (sequence runs_of_three (held (tally cs)).ones) (held (tally cs)) (one_suit cs)

-- graded hands are compared by class, and then by ranks from the first; hands of one class and the same ranks are alike
abbrev pub three_parts : ThreeHand → List (List ℕ)
three_parts h = (three_below h.class ∷ []) ∷ h.ranks ∷ []

-- how the first of two graded hands compares with the second
unfoldable pub three_order : ThreeHand → ThreeHand → Comparison
three_order g h = by_parts (three_parts g) (three_parts h)
