-- Cards: a byte is 16 times a rank and a suit. What a list of bytes holds, in whatever order they came.
use Rattle.std.specs.Prelude.{ℕ, ◌+◌, ◌*◌, ◌/◌, ◌%◌, Bool, cond, not, ◌&&◌, ◌||◌, List, length, count_by, ◌==◌, nat_eq, nat_le}

-- the rank: 2 to 10, jack 11, queen 12, king 13, ace 14
abbrev pub rank_of : ℕ → ℕ
rank_of c = c / 16

-- the suit: 0 diamonds, 1 clubs, 2 hearts, 3 spades
abbrev pub suit_of : ℕ → ℕ
suit_of c = c % 16

-- whether a byte is a card
abbrev pub is_card : ℕ → Bool
is_card c = nat_le 2 (rank_of c) && (nat_le (rank_of c) 14 && nat_le (suit_of c) 3)

-- each of the bytes passes
abbrev pub each : (ℕ → Bool) → List ℕ → Bool
each p cs = count_by p cs == length cs

-- how often a byte stands among the bytes
abbrev pub copies_of : ℕ → List ℕ → ℕ
copies_of c cs = count_by (λ d. nat_eq d c) cs

-- a byte is a card that stands among the bytes once
abbrev pub is_single_card : List ℕ → ℕ → Bool
is_single_card cs c = is_card c && copies_of c cs == 1

-- each byte is a card, and none stands there twice
unfoldable pub different_cards : List ℕ → Bool
different_cards cs = each (is_single_card cs) cs

-- each of the cards is of this suit
abbrev pub all_of_suit : ℕ → List ℕ → Bool
all_of_suit s cs = each (λ c. nat_eq (suit_of c) s) cs

-- the cards are of one suit
abbrev pub one_suit : List ℕ → Bool
one_suit cs = all_of_suit 0 cs || (all_of_suit 1 cs || (all_of_suit 2 cs || all_of_suit 3 cs))

-- how many of the cards are of this rank
abbrev pub tally : List ℕ → ℕ → ℕ
tally cs r = count_by (λ c. nat_eq (rank_of c) r) cs

-- a card is of this rank and suit
abbrev pub is_of : ℕ → ℕ → ℕ → Bool
is_of r s c = rank_of c == r && suit_of c == s

-- the card of this rank and suit is among the cards
abbrev pub holds : List ℕ → ℕ → ℕ → Bool
holds cs r s = not (copies_of (16 * r + s) cs == 0)

-- the highest suit in which the cards hold a rank; 0 also where they do not hold it
abbrev pub highest_suit : List ℕ → ℕ → ℕ
highest_suit cs r = cond (holds cs r 3) 3 (cond (holds cs r 2) 2 (cond (holds cs r 1) 1 0))
