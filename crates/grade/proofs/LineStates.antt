-- What is kept of a line decides its answer.
use Rattle.std.proofs.Common.{◌≡◌, ℕ, suc, ◌+◌, Bool, true, false, cond, not, ◌&&◌, eqb, ltb, List, [], ◌∷◌, ◌++◌, length, map, Some, None, Ok, Option, Result, sym, refl, ap, ◌∙◌, subst, arith}
use Rattle.std.specs.List.{list_all, prefix_len, slice_split, filter}
use Rattle.std.specs.Option.{unwrap_or}
use Rattle.std.proofs.Math.Seq.{take-append_seam, drop-append-add}
use Rattle.std.proofs.lemmas.Bool.{and_parts}
use Rattle.std.proofs.lemmas.Bool.Decides.{nat_tests}
use Rattle.std.proofs.lemmas.List.{append_assoc, append-nil, length-append}
use Rattle.std.proofs.lemmas.List.Folds.{list_all-append}
use Rattle.refusals.specs.declared.Refusal.{Refusal}
use Rattle.grade.specs.Answers.{made, one_hand, two_hands, by_bar, text_answer, texts_answer, line_answer}
use Rattle.grade.specs.declared.answers.Answer.{Answer}
use Rattle.grade.specs.Lines.{is_blank, is_word, card_read, cards_read, bar_at, bar_of}
use Rattle.grade.specs.Words.{card_named}
use Rattle.grade.specs.States.{word_of, IsHandAfter, IsHandAfterText, IsTextState, NoBar, IsLineWith}
use Rattle.grade.specs.declared.hand.TypedHand.{TypedHand}
use Rattle.grade.specs.declared.words.Word.{Word}
use Rattle.grade.specs.declared.words.Word.TheVariants.{Empty}
use Rattle.grade.proofs.Parts.{onto_last, onto_last_at, split_ended, split_grown, cards_of_parts}

-- a text of which nothing was typed
pub none_typed : (hand : TypedHand) → IsHandAfter hand [] → IsTextState hand Empty []
none_typed hand k = record { ended = []; part = []; split = refl; word = refl; hand = k }

-- a byte more of the word
pub grown : (hand : TypedHand) (word new : Word) (text : List ℕ) (b : ℕ) → is_blank b ≡ false → ((bytes : List ℕ) → word ≡ word_of bytes → new ≡ word_of (bytes ++ b ∷ [])) → IsTextState hand word text → IsTextState hand new (text ++ b ∷ [])
grown hand word new text b other grows t = record {
  ended = t.ended;
  part = t.part ++ b ∷ [];
  split = split_grown is_blank text b other ∙ ap (onto_last b) t.split ∙ onto_last_at t.ended t.part b;
  word = grows t.part t.word;
  hand = t.hand;
}

-- a blank behind a word that was ended
pub parted : (hand : TypedHand) (text : List ℕ) (b : ℕ) → is_blank b ≡ true → IsHandAfterText hand text → IsTextState hand Empty (text ++ b ∷ [])
unfolding cards_read
parted hand text b blank k = record {
  ended = slice_split is_blank text;
  part = [];
  split = split_ended is_blank text b blank;
  word = refl;
  hand = k;
}

-- the cards of a text: those of the words that were ended, and of the last, if there is one
cards_of : (hand : TypedHand) (word : Word) (text : List ℕ) → (t : IsTextState hand word text) → cards_read text ≡ map card_read (filter is_word t.ended) ++ cond (is_word t.part) (card_read t.part ∷ []) []
unfolding cards_read
cards_of hand word text t = ap (λ parts. map card_read (filter is_word parts)) t.split ∙ cards_of_parts t.ended t.part

word_test : (part : List ℕ) (t : Bool) → eqb (length part) 0 ≡ t → is_word part ≡ not t
word_test part t e = ap not e

-- no word was begun
pub ended_nothing : (hand : TypedHand) (word : Word) (text : List ℕ) → ((bytes : List ℕ) → word ≡ word_of bytes → true ≡ eqb (length bytes) 0) → IsTextState hand word text → IsHandAfterText hand text
ended_nothing hand word text none t =
    subst (IsHandAfter hand)
    (sym (cards_of hand word text t ∙ ap (λ b. map card_read (filter is_word t.ended) ++ cond b (card_read t.part ∷ []) []) (word_test t.part true (sym (none t.part t.word))) ∙ append-nil _))
    t.hand

-- a word was ended
pub ended_word : (hand new : TypedHand) (word : Word) (text : List ℕ) (card : Option ℕ) → ((bytes : List ℕ) → word ≡ word_of bytes → false ≡ eqb (length bytes) 0) → ((bytes : List ℕ) → word ≡ word_of bytes → card ≡ card_named bytes) → ((cards : List ℕ) → IsHandAfter hand cards → IsHandAfter new (cards ++ unwrap_or card 0 ∷ [])) → IsTextState hand word text → IsHandAfterText new text
ended_word hand new word text card some names adds t =
    let more : IsHandAfter new (map card_read (filter is_word t.ended) ++ unwrap_or card 0 ∷ []) = adds (map card_read (filter is_word t.ended)) t.hand in
    subst (IsHandAfter new)
    (ap (λ o. map card_read (filter is_word t.ended) ++ unwrap_or o 0 ∷ []) (names t.part t.word)
    ∙ sym (cards_of hand word text t ∙ ap (λ b. map card_read (filter is_word t.ended) ++ cond b (card_read t.part ∷ []) []) (word_test t.part false (sym (some t.part t.word)))))
    more

-- ---- the bar

no_bar_more : (bytes : List ℕ) (b : ℕ) → eqb b 124 ≡ false → NoBar bytes → NoBar (bytes ++ b ∷ [])
no_bar_more bytes b e free = list_all-append (λ x. not (eqb x 124)) bytes (b ∷ []) ∙ (λ i. free i && (not (e i) && true))

prefix_to_bar : (p : ℕ → Bool) (left : List ℕ) (b : ℕ) (right : List ℕ) → list_all p left ≡ true → p b ≡ false → prefix_len p (left ++ b ∷ right) ≡ length left
prefix_to_bar p [] b right all free = ap (λ t. cond t (1 + prefix_len p right) 0) free
prefix_to_bar p (x ∷ left) b right all free =
    let parts = and_parts (p x) (list_all p left) all in
    ap (λ t. cond t (1 + prefix_len p (left ++ b ∷ right)) 0) parts.0
    ∙ ap (λ n. 1 + n) (prefix_to_bar p left b right parts.1 free)
    ∙ (let same : (n : ℕ) → 1 + n ≡ suc n = λ n. omega arith in same (length left))

prefix_all : (p : ℕ → Bool) (xs : List ℕ) → list_all p xs ≡ true → prefix_len p xs ≡ length xs
prefix_all p [] all = refl
prefix_all p (x ∷ xs) all =
    let parts = and_parts (p x) (list_all p xs) all in
    ap (λ t. cond t (1 + prefix_len p xs) 0) parts.0
    ∙ ap (λ n. 1 + n) (prefix_all p xs parts.1)
    ∙ (let same : (n : ℕ) → 1 + n ≡ suc n = λ n. omega arith in same (length xs))

-- a line with no bar is one hand
pub without_bar : (bytes : List ℕ) → NoBar bytes → line_answer bytes ≡ text_answer bytes
without_bar bytes free =
    let at : bar_at bytes ≡ length bytes = prefix_all (λ x. not (eqb x 124)) bytes free in
    let none : bar_of bytes ≡ None = (let no_less : (n : ℕ) → ltb n n ≡ false = λ n. grind (arith, nat_tests) in ap (λ n. cond (ltb n (length bytes)) (Some n) None) at ∙ ap (λ t. cond t (Some (length bytes)) None) (no_less (length bytes))) in
    ap (by_bar bytes) none

-- a line with a bar is two hands
pub with_bar : (left right : List ℕ) → NoBar left → line_answer (left ++ 124 ∷ right) ≡ texts_answer left right
with_bar left right free =
    let bytes = left ++ 124 ∷ right in
    let at : bar_at bytes ≡ length left = prefix_to_bar (λ x. not (eqb x 124)) left 124 right free refl in
    let within : ltb (length left) (length bytes) ≡ true = (let less : (m n k : ℕ) → n ≡ m + suc k → ltb m n ≡ true = λ m n k e. grind (arith, nat_tests) in less (length left) (length bytes) (length right) (length-append left (124 ∷ right))) in
    let some : bar_of bytes ≡ Some (length left) = ap (λ n. cond (ltb n (length bytes)) (Some n) None) at ∙ ap (λ t. cond t (Some (length left)) None) within in
    ap (by_bar bytes) some
    ∙ (λ i. texts_answer (take-append_seam left (124 ∷ right) i) (drop-append-add left (124 ∷ right) 1 i))

-- ---- a byte more of a line

-- a blank
pub blank_taken : (before : Option TypedHand) (old new : TypedHand) (word : Word) (bytes : List ℕ) (b : ℕ) → is_blank b ≡ true → eqb b 124 ≡ false → ((text : List ℕ) → IsTextState old word text → IsHandAfterText new text) → IsLineWith before old word bytes → IsLineWith before new Empty (bytes ++ b ∷ [])
blank_taken None old new word bytes b blank free ends (none, t) = (no_bar_more bytes b free none, parted new bytes b blank (ends bytes t))
blank_taken (Some first) old new word bytes b blank free ends l = record {
  left = l.left;
  right = l.right ++ b ∷ [];
  whole = ap (λ xs. xs ++ b ∷ []) l.whole ∙ append_assoc l.left (124 ∷ l.right) (b ∷ []);
  no_bar = l.no_bar;
  first = l.first;
  second = parted new l.right b blank (ends l.right l.second);
}

-- the first bar
pub bar_taken : (old first new : TypedHand) (word : Word) (bytes : List ℕ) → ((text : List ℕ) → IsTextState old word text → IsHandAfterText first text) → IsHandAfter new [] → IsLineWith None old word bytes → IsLineWith (Some first) new Empty (bytes ++ 124 ∷ [])
bar_taken old first new word bytes ends fresh (none, t) = record {
  left = bytes;
  right = [];
  whole = refl;
  no_bar = none;
  first = ends bytes t;
  second = none_typed new fresh;
}

-- a byte of a word: no blank, and no bar unless there was one
pub byte_taken : (before : Option TypedHand) (hand : TypedHand) (word new : Word) (bytes : List ℕ) (b : ℕ) → is_blank b ≡ false → (before ≡ None → eqb b 124 ≡ false) → ((text : List ℕ) → word ≡ word_of text → new ≡ word_of (text ++ b ∷ [])) → IsLineWith before hand word bytes → IsLineWith before hand new (bytes ++ b ∷ [])
byte_taken None hand word new bytes b other free grows (none, t) = (no_bar_more bytes b (free refl) none, grown hand word new bytes b other grows t)
byte_taken (Some first) hand word new bytes b other free grows l = record {
  left = l.left;
  right = l.right ++ b ∷ [];
  whole = ap (λ xs. xs ++ b ∷ []) l.whole ∙ append_assoc l.left (124 ∷ l.right) (b ∷ []);
  no_bar = l.no_bar;
  first = l.first;
  second = grown hand word new l.right b other grows l.second;
}

pub blank_no_bar : (b : ℕ) → is_blank b ≡ true → eqb b 124 ≡ false
blank_no_bar b e = grind (arith, nat_tests)

-- ---- the answer

abbrev Ends : TypedHand → TypedHand → Word → Type 0
Ends old new word = (text : List ℕ) → IsTextState old word text → IsHandAfterText new text

-- of two hands
pub answer_of_two : (first old new : TypedHand) (word : Word) (bytes : List ℕ) (r : Result Answer Refusal) → Ends old new word → ((cards others : List ℕ) → IsHandAfter first cards → IsHandAfter new others → r ≡ two_hands cards others) → IsLineWith (Some first) old word bytes → made Some r ≡ line_answer bytes
answer_of_two first old new word bytes r ends says l =
    ap (made Some) (says (cards_read l.left) (cards_read l.right) l.first (ends l.right l.second))
    ∙ sym (with_bar l.left l.right l.no_bar)
    ∙ ap line_answer (sym l.whole)

-- of one
pub answer_of_one : (old new : TypedHand) (word : Word) (bytes : List ℕ) (r : Result Answer Refusal) → Ends old new word → ((cards : List ℕ) → IsHandAfter new cards → false ≡ eqb (length cards) 0) → ((cards : List ℕ) → IsHandAfter new cards → r ≡ one_hand cards) → IsLineWith None old word bytes → made Some r ≡ line_answer bytes
answer_of_one old new word bytes r ends some says (none, t) =
    let k = ends bytes t in
    ap (made Some) (says (cards_read bytes) k)
    ∙ ap (λ b. cond b (Ok None) (made Some (one_hand (cards_read bytes)))) (some (cards_read bytes) k)
    ∙ sym (without_bar bytes none)

-- of a line with no word
pub answer_of_none : (old new : TypedHand) (word : Word) (bytes : List ℕ) → Ends old new word → ((cards : List ℕ) → IsHandAfter new cards → true ≡ eqb (length cards) 0) → IsLineWith None old word bytes → ◌≡◌ {A = Result (Option Answer) Refusal} (Ok None) (line_answer bytes)
answer_of_none old new word bytes ends none_there (none, t) =
    let k = ends bytes t in
    ap (λ b. cond b (Ok None) (made Some (one_hand (cards_read bytes)))) (none_there (cards_read bytes) k)
    ∙ sym (without_bar bytes none)
