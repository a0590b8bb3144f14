-- What is kept of a line while it is typed, and what of its bytes that stands for.
use Rattle.std.specs.Prelude.{◌≡◌, ℕ, ◌<◌, true, false, not, List, [], ◌∷◌, ◌++◌, map, take, Some, None, Option, ◌==◌}
use Rattle.std.specs.List.{list_all, slice_split, filter, slice_index_or}
use Rattle.grading.specs.Cards.{copies_of, different_cards}
use Rattle.grade.specs.Lines.{is_blank, card_read, cards_read, is_word}
use Rattle.grade.specs.declared.first_cards.FirstCards.{FirstCards}
use Rattle.grade.specs.declared.hand.TypedHand.{TypedHand}
use Rattle.grade.specs.declared.line.Line.{Line}
use Rattle.grade.specs.declared.words.Word.{Word}
use Rattle.grade.specs.declared.words.Word.TheVariants.{Empty, One, Two, Three, Longer}

-- what is kept of these bytes of a word
abbrev pub word_of : List ℕ → Word
word_of [] = Empty
word_of (a ∷ []) = One a
word_of (a ∷ b ∷ []) = Two a b
word_of (a ∷ b ∷ c ∷ []) = Three a b c
word_of (a ∷ b ∷ c ∷ d ∷ ds) = Longer

-- the cards that are kept
abbrev pub first_cards_of : FirstCards → List ℕ
first_cards_of first = take first.count first.cards

-- what a hand keeps of these cards, while they are different cards: the first six, and which cards are among them
pub record RecordsCards (hand : TypedHand) (cards : List ℕ) : Type 0 where
  pub first : first_cards_of hand.first ≡ take 6 cards
  pub seen : (card : ℕ) → card < 256 → slice_index_or hand.seen card false ≡ not (copies_of card cards == 0)

-- what a hand keeps of these cards: whether they are different cards, and of such what decides
pub record IsHandAfter (hand : TypedHand) (cs : List ℕ) : Type 0 where
  pub faulty : hand.faulty ≡ not (different_cards cs)
  pub cards : different_cards cs ≡ true → RecordsCards hand cs

-- what a hand keeps of all cards of a text
abbrev pub IsHandAfterText : TypedHand → List ℕ → Type 0
IsHandAfterText hand text = IsHandAfter hand (cards_read text)

-- what is kept of the text of a hand: its cards but for the last word, which is being typed
pub record IsTextState (hand_state : TypedHand) (word_state : Word) (text : List ℕ) : Type 0 where
  pub ended : List (List ℕ)
  pub part : List ℕ
  pub split : slice_split is_blank text ≡ ended ++ part ∷ []
  pub word : word_state ≡ word_of part
  pub hand : IsHandAfter hand_state (map card_read (filter is_word ended))

-- no byte of a text is a bar
abbrev pub NoBar : List ℕ → Type 0
NoBar text = list_all (λ b. not (b == 124)) text ≡ true

-- what is kept of a line with a bar: its first hand, and the second so far
pub record IsLineAfterBar (first_state second_state : TypedHand) (word_state : Word) (bytes : List ℕ) : Type 0 where
  pub left : List ℕ
  pub right : List ℕ
  pub whole : bytes ≡ left ++ 124 ∷ right
  pub no_bar : NoBar left
  pub first : IsHandAfterText first_state left
  pub second : IsTextState second_state word_state right

-- what is kept of a line, by the hand before its bar
abbrev pub IsLineWith : Option TypedHand → TypedHand → Word → List ℕ → Type 0
IsLineWith None hand word bytes = NoBar bytes × IsTextState hand word bytes
IsLineWith (Some first) hand word bytes = IsLineAfterBar first hand word bytes

-- the line is what is kept of these bytes
abbrev pub IsLineAfter : Line → List ℕ → Type 0
IsLineAfter line bytes = IsLineWith line.before line.hand line.word bytes
