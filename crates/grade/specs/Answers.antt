-- The answer for a line: the class of a hand, or the classes of two and which is higher, or why there is none.
use Rattle.std.specs.Prelude.{ℕ, ◌+◌, cond, ◌||◌, List, ◌++◌, length, take, drop, Some, None, Ok, Err, codes, Option, Result, ◌==◌}
use Rattle.refusals.specs.declared.Refusal.{Refusal}
use Rattle.grading.specs.FiveClasses.{five_word}
use Rattle.grading.specs.ThreeClasses.{three_word}
use Rattle.grading.specs.Grading.{three_class, three_compared, five_class, five_compared}
use Rattle.grading.specs.declared.comparisons.Comparison.{Comparison}
use Rattle.grading.specs.declared.comparisons.Comparison.TheVariants.{Lower, Alike, Higher}
use Rattle.grade.specs.Lines.{cards_read, bar_of}
use Rattle.grade.specs.declared.answers.Answer.{Answer}
use Rattle.grade.specs.declared.answers.Answer.TheVariants.{Threes, Fives}
use Rattle.grade.specs.declared.answers.Graded.{Graded}
use Rattle.grade.specs.declared.answers.Graded.TheVariants.{One, Two}

-- what a value is made into; a refusal stays
abbrev pub made : {X Y : Type 0} → (X → Y) → Result X Refusal → Result Y Refusal
made f (Ok x) = Ok (f x)
made f (Err refusal) = Err refusal

-- one hand: its class
abbrev pub one_graded : {K : Type 0} → Result K Refusal → Result (Graded K) Refusal
one_graded k = made One k

-- two hands: refused as their comparison is, and else their classes and the comparison
abbrev pub two_graded : {K : Type 0} → Result Comparison Refusal → Result K Refusal → Result K Refusal → Result (Graded K) Refusal
two_graded (Err refusal) j k = Err refusal
two_graded (Ok comparison) (Err refusal) k = Err refusal
two_graded (Ok comparison) (Ok j) (Err refusal) = Err refusal
two_graded (Ok comparison) (Ok j) (Ok k) = Ok (Two j k comparison)

-- one hand: graded at five cards if it has five, and else at three
abbrev pub one_hand : List ℕ → Result Answer Refusal
one_hand cs = cond (length cs == 5) (made Fives (one_graded (five_class cs))) (made Threes (one_graded (three_class cs)))

-- two hands: graded at five cards if either has five, and else at three
abbrev pub two_hands : List ℕ → List ℕ → Result Answer Refusal
two_hands cs ds =
    cond (length cs == 5 || length ds == 5)
    (made Fives (two_graded (five_compared cs ds) (five_class cs) (five_class ds)))
    (made Threes (two_graded (three_compared cs ds) (three_class cs) (three_class ds)))

-- the text of one hand; none, if there is no word in it
abbrev pub text_answer : List ℕ → Result (Option Answer) Refusal
text_answer text = cond (length (cards_read text) == 0) (Ok None) (made Some (one_hand (cards_read text)))

-- the texts of two hands
abbrev pub texts_answer : List ℕ → List ℕ → Result (Option Answer) Refusal
texts_answer first second = made Some (two_hands (cards_read first) (cards_read second))

-- a line with a bar has two hands; any other has one, and none if it has no word
abbrev pub by_bar : List ℕ → Option ℕ → Result (Option Answer) Refusal
by_bar line (Some bar) = texts_answer (take bar line) (drop (bar + 1) line)
by_bar line None = text_answer line

-- the answer for a line
abbrev pub line_answer : List ℕ → Result (Option Answer) Refusal
line_answer line = by_bar line (bar_of line)

-- the word for the outcome of a comparison
abbrev pub outcome_word : Comparison → List ℕ
outcome_word Lower = codes "second"
outcome_word Alike = codes "tie"
outcome_word Higher = codes "first"

-- what is printed of one hand, and of two, by the words for a class
abbrev pub graded_text : {K : Type 0} → (K → List ℕ) → Graded K → List ℕ
graded_text words (One k) = words k
graded_text words (Two j k comparison) = words j ++ (codes " | " ++ (words k ++ (codes " | " ++ outcome_word comparison)))

-- what is printed of an answer
abbrev pub said : Answer → List ℕ
said (Threes graded) = graded_text three_word graded
said (Fives graded) = graded_text five_word graded
