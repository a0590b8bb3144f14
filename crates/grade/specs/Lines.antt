-- A line of text: words between blanks, read as cards, and a bar between two hands.
use Rattle.std.specs.Prelude.{ℕ, Bool, cond, not, ◌||◌, List, length, map, Some, None, Option, ◌==◌, nat_lt}
use Rattle.std.specs.List.{slice_split, filter, position_or_len}
use Rattle.std.specs.Option.{unwrap_or}
use Rattle.grade.specs.Words.{card_named}

-- a space, a tab or a carriage return
abbrev pub is_blank : ℕ → Bool
is_blank b = b == 32 || (b == 9 || b == 13)

-- what stands between blanks is a word; between two that are neighbours stands none
abbrev pub is_word : List ℕ → Bool
is_word part = not (length part == 0)

-- the words of a text
abbrev pub words : List ℕ → List (List ℕ)
words text = filter is_word (slice_split is_blank text)

-- the card that a word names, or 0, which is no card
abbrev pub card_read : List ℕ → ℕ
card_read word = unwrap_or (card_named word) 0

-- the cards of a text
unfoldable pub cards_read : List ℕ → List ℕ
cards_read text = map card_read (words text)

-- the place of the first bar, or the end
abbrev pub bar_at : List ℕ → ℕ
bar_at line = position_or_len (λ b. b == 124) line

-- the place of the first bar, if there is one
abbrev pub bar_of : List ℕ → Option ℕ
bar_of line = cond (nat_lt (bar_at line) (length line)) (Some (bar_at line)) None
