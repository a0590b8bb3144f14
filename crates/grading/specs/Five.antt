-- Five cards: of which class they are, and what hands of a class are compared by.
use Rattle.std.specs.Prelude.{ℕ, Bool, true, false, cond, not, ◌&&◌, List, [], ◌∷◌, ◌++◌, length, is_some, Option, ◌==◌, slice_index}
use Rattle.std.specs.Option.{unwrap_or, option_to_list}
use Rattle.grading.specs.Cards.{one_suit, tally, highest_suit}
use Rattle.grading.specs.FiveClasses.{five_below}
use Rattle.grading.specs.Order.{by_parts}
use Rattle.grading.specs.Ranks.{Held, held, runs_of_five, sequence, padded}
use Rattle.grading.specs.declared.comparisons.Comparison.{Comparison}
use Rattle.grading.specs.declared.five.FiveHand.{FiveHand}
use Rattle.grading.specs.declared.five.Ranked.{Ranked}
use Rattle.grading.specs.declared.five_classes.FiveClass.{FiveClass}
use Rattle.grading.specs.declared.five_classes.FiveClass.TheVariants.{RoyalFlush, StraightFlush, Four, FullHouse, Flush, Straight, Three, TwoPairs, Pair, OddCards}

-- a sequence headed by an ace
abbrev pub ace_high : Option ℕ → Bool
ace_high head = unwrap_or head 0 == 14

-- whether five cards are of a class: by the head of the sequence that they are, or none, the ranks that they hold, and whether they are of one suit
abbrev pub five_is : FiveClass → Option ℕ → Held → Bool → Bool
five_is RoyalFlush head h level = ace_high head && level
five_is StraightFlush head h level = is_some head && (not (ace_high head) && level)
five_is Four head h level = length h.fours == 1
five_is FullHouse head h level = length h.threes == 1 && length h.twos == 1
five_is Flush head h level = length h.ones == 5 && (not (is_some head) && level)
five_is Straight head h level = is_some head && not level
five_is Three head h level = length h.threes == 1 && length h.twos == 0
five_is TwoPairs head h level = length h.twos == 2
five_is Pair head h level = length h.twos == 1 && length h.threes == 0
five_is OddCards head h level = length h.ones == 5 && (not (is_some head) && not level)

-- the class: the first, downward, of which the cards are; they are of no other
abbrev pub five_class_by : Option ℕ → Held → Bool → FiveClass
five_class_by head h level =
    cond (five_is RoyalFlush head h level) RoyalFlush
    (cond (five_is StraightFlush head h level) StraightFlush
    (cond (five_is Four head h level) Four
    (cond (five_is FullHouse head h level) FullHouse
    (cond (five_is Flush head h level) Flush
    (cond (five_is Straight head h level) Straight
    (cond (five_is Three head h level) Three
    (cond (five_is TwoPairs head h level) TwoPairs
    (cond (five_is Pair head h level) Pair OddCards))))))))

-- the ranks that hands of a class are compared by, from the first: of a sequence its head, of four, full house and three only the
-- rank held so often, and pairs before the rest
abbrev pub five_weighed : FiveClass → Option ℕ → Held → List ℕ
five_weighed RoyalFlush head h = option_to_list head
five_weighed StraightFlush head h = option_to_list head
five_weighed Four head h = h.fours
five_weighed FullHouse head h = h.threes
five_weighed Flush head h = h.ones
five_weighed Straight head h = option_to_list head
five_weighed Three head h = h.threes
five_weighed TwoPairs head h = h.twos ++ h.ones
five_weighed Pair head h = h.twos ++ h.ones
five_weighed OddCards head h = h.ones

-- whether a suit decides between hands of a class whose ranks are level
abbrev pub suit_counts : FiveClass → Bool
suit_counts RoyalFlush = true
suit_counts StraightFlush = true
suit_counts Four = false
suit_counts FullHouse = false
suit_counts Flush = true
suit_counts Straight = true
suit_counts Three = false
suit_counts TwoPairs = true
suit_counts Pair = true
suit_counts OddCards = true

-- the class and the ranks that the cards are compared by, with 0 in places not in use
abbrev pub five_ranked_at : FiveClass → Option ℕ → Held → Ranked
five_ranked_at k head h = record { class = k; ranks = padded 5 (five_weighed k head h) }

-- the same, with the class that the rule gives
abbrev pub five_ranked_by : Option ℕ → Held → Bool → Ranked
five_ranked_by head h level = five_ranked_at (five_class_by head h level) head h

-- the class and the ranks of five cards
unfoldable pub five_ranked : List ℕ → Ranked
five_ranked cs = five_ranked_by (sequence runs_of_five (held (tally cs)).ones) (held (tally cs)) (one_suit cs)

-- the suit that decides: the highest in which the cards hold the first of the ranks that they are compared by,
-- so the suit of the highest card, of 5-4-3-2-A that of the 5, and the higher suit within the higher pair
abbrev pub deciding_suit : Ranked → List ℕ → ℕ
deciding_suit x cs = cond (suit_counts x.class) (highest_suit cs (slice_index x.ranks 0)) 0

-- the graded hand
unfoldable pub five_hand : List ℕ → FiveHand
five_hand cs = record { class = (five_ranked cs).class; ranks = (five_ranked cs).ranks; suit = deciding_suit (five_ranked cs) cs }

-- whether five cards are of a class
unfoldable pub five_of : FiveClass → List ℕ → Bool
five_of k cs = five_is k (sequence runs_of_five (held (tally cs)).ones) (held (tally cs)) (one_suit cs)

-- graded hands are compared by class, then by ranks from the first, and then by the suit that decides
abbrev pub five_parts : FiveHand → List (List ℕ)
five_parts h = (five_below h.class ∷ []) ∷ h.ranks ∷ (h.suit ∷ []) ∷ []

-- how the first of two graded hands compares with the second
unfoldable pub five_order : FiveHand → FiveHand → Comparison
five_order g h = by_parts (five_parts g) (five_parts h)
