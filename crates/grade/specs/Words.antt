-- Cards as people write them: a rank and the letter of a suit, in capital or small letters.
use Rattle.std.specs.Prelude.{ℕ, ◌+◌, ◌-◌, ◌*◌, ◌<◌, cond, ◌&&◌, List, [], ◌∷◌, Some, None, Option, ◌==◌, nat_le}

-- a small letter as a capital, any other byte as it is
abbrev pub capital : ℕ → ℕ
capital b = cond (nat_le 97 b && nat_le b 122) (b - 32) b

-- the rank that a byte names: a digit from 2 to 9, or T, J, Q, K, A
abbrev pub rank_named : ℕ → Option ℕ
rank_named b =
    cond (nat_le 50 b && nat_le b 57) (Some (b - 48))
    (cond (b == 84) (Some 10)
    (cond (b == 74) (Some 11)
    (cond (b == 81) (Some 12)
    (cond (b == 75) (Some 13)
    (cond (b == 65) (Some 14) None)))))

-- the suit that a byte names: D, C, H, S
abbrev pub suit_named : ℕ → Option ℕ
suit_named b =
    cond (b == 68) (Some 0)
    (cond (b == 67) (Some 1)
    (cond (b == 72) (Some 2)
    (cond (b == 83) (Some 3) None)))

-- the card of a rank and a suit, where both are named
abbrev pub card_from : Option ℕ → Option ℕ → Option ℕ
card_from None s = None
card_from (Some r) None = None
card_from (Some r) (Some s) = Some (16 * r + s)

-- the card that a word names: a byte for the rank, or 10, and a byte for the suit
abbrev pub card_named : List ℕ → Option ℕ
card_named [] = None
card_named (a ∷ []) = None
card_named (a ∷ b ∷ []) = card_from (rank_named (capital a)) (suit_named (capital b))
card_named (a ∷ b ∷ c ∷ []) = cond (a == 49 && b == 48) (card_from (Some 10) (suit_named (capital c))) None
card_named (a ∷ b ∷ c ∷ d ∷ ds) = None

-- a number below a bound, if there is one
abbrev pub below : ℕ → Option ℕ → Type 0
below n None = Unit {0}
below n (Some m) = m < n
