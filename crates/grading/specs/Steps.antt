-- The class and the ranks that decide, by ranks from the highest, as the code finds them; that they are the rule's is proved.
use Rattle.std.specs.Prelude.{ℕ, ◌+◌, ◌-◌, Bool, cond, ◌&&◌, ◌||◌, [], ◌∷◌, Some, None, Option, ◌==◌}
use Rattle.grading.specs.declared.five.Ranked.{Ranked}
use Rattle.grading.specs.declared.five_classes.FiveClass.{FiveClass}
use Rattle.grading.specs.declared.five_classes.FiveClass.TheVariants as OfFive
use Rattle.grading.specs.declared.three.ThreeHand.{ThreeHand}
use Rattle.grading.specs.declared.three_classes.ThreeClass.{ThreeClass}
use Rattle.grading.specs.declared.three_classes.ThreeClass.TheVariants as of_three

-- the head of a sequence of n different ranks, as the code finds it from the highest, the second and the lowest of them:
-- they follow one another, or they are an ace and the ranks from n down to 2, and then n is the head and the ace the lowest
abbrev pub head_at : ℕ → ℕ → ℕ → ℕ → Option ℕ
head_at n highest second lowest =
    cond (highest == lowest + (n - 1)) (Some highest)
    (cond (highest == 14 && second == n) (Some n) None)

-- a class with three ranks
abbrev pub three_at : ThreeClass → ℕ → ℕ → ℕ → ThreeHand
three_at k a b c = record { class = k; ranks = a ∷ b ∷ c ∷ [] }

-- three different ranks, with the head of their sequence
abbrev pub three_apart : Option ℕ → ℕ → ℕ → ℕ → Bool → ThreeHand
three_apart (Some head) a b c level = three_at (cond level of_three.StraightFlush of_three.Straight) head 0 0
three_apart None a b c level = three_at (cond level of_three.Flush of_three.OddCards) a b c

-- three ranks from the highest, of one suit or not
abbrev pub three_sorted : ℕ → ℕ → ℕ → Bool → ThreeHand
three_sorted a b c level =
    cond (a == c) (three_at of_three.Three a 0 0)
    (cond (a == b) (three_at of_three.Pair a c 0)
    (cond (b == c) (three_at of_three.Pair b a 0)
    (three_apart (head_at 3 a b c) a b c level)))

-- a class with five ranks
abbrev pub five_at : FiveClass → ℕ → ℕ → ℕ → ℕ → ℕ → Ranked
five_at k a b c d e = record { class = k; ranks = a ∷ b ∷ c ∷ d ∷ e ∷ [] }

-- five ranks of which some are alike, but no three
abbrev pub five_paired : ℕ → ℕ → ℕ → ℕ → ℕ → Ranked
five_paired a b c d e =
    cond (a == b && c == d) (five_at OfFive.TwoPairs a c e 0 0)
    (cond (a == b && d == e) (five_at OfFive.TwoPairs a d c 0 0)
    (cond (b == c && d == e) (five_at OfFive.TwoPairs b d a 0 0)
    (cond (a == b) (five_at OfFive.Pair a c d e 0)
    (cond (b == c) (five_at OfFive.Pair b a d e 0)
    (cond (c == d) (five_at OfFive.Pair c a b e 0)
    (five_at OfFive.Pair d a b c 0))))))

-- five different ranks, with the head of their sequence
abbrev pub five_apart : Option ℕ → ℕ → ℕ → ℕ → ℕ → ℕ → Bool → Ranked
five_apart (Some head) a b c d e level =
    five_at (cond level (cond (head == 14) OfFive.RoyalFlush OfFive.StraightFlush) OfFive.Straight) head 0 0 0 0
five_apart None a b c d e level = five_at (cond level OfFive.Flush OfFive.OddCards) a b c d e

-- five ranks from the highest, of one suit or not
abbrev pub five_sorted : ℕ → ℕ → ℕ → ℕ → ℕ → Bool → Ranked
five_sorted a b c d e level =
    cond (a == d || b == e) (five_at OfFive.Four c 0 0 0 0)
    (cond ((a == c && d == e) || (a == b && c == e)) (five_at OfFive.FullHouse c 0 0 0 0)
    (cond (a == c || (b == d || c == e)) (five_at OfFive.Three c 0 0 0 0)
    (cond (a == b || (b == c || (c == d || d == e))) (five_paired a b c d e)
    (five_apart (head_at 5 a b e) a b c d e level))))
