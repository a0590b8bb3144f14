-- The lines of an input, and what is printed of them.
use Rattle.std.specs.Prelude.{◌≡◌, ℕ, ◌<◌, Bool, cond, ◌&&◌, List, [], ◌∷◌, ◌++◌, length, Some, None, Ok, Err, Option, Result, IfSome, ◌==◌}
use Rattle.std.specs.Io.KnownBytes.{Appends, Consumes}
use Rattle.std.specs.List.{flat_map, onto_first, slice_split}
use Rattle.std.specs.declared.io.Error.{Error}
use Rattle.byte_streams.specs.Streams.{AppendsPart}
use Rattle.byte_streams.specs.declared.error.StreamError.{StreamError}
use Rattle.byte_streams.specs.declared.error.StreamError.TheVariants.{Reading, OutOfMemory, Writing}
use Rattle.refusals.specs.declared.Refusal.{Refusal}
use Rattle.grade.specs.Answers.{line_answer, said}
use Rattle.grade.specs.Faults.{refusal_text}
use Rattle.grade.specs.declared.answers.Answer.{Answer}

-- what is printed of an answer: nothing where there is none
abbrev pub answer_text : Result (Option Answer) Refusal → List ℕ
answer_text (Ok None) = []
answer_text (Ok (Some answer)) = said answer
answer_text (Err refusal) = refusal_text refusal.cause

-- the line that is printed of a line
abbrev pub line_text : List ℕ → List ℕ
line_text line = answer_text (line_answer line) ++ 10 ∷ []

-- the lines of an input: each ends with a line feed, but for the last, if there is anything behind the last line feed
abbrev pub lines_of : List ℕ → List (List ℕ)
lines_of [] = []
lines_of (b ∷ bytes) = cond (b == 10) ([] ∷ lines_of bytes) (onto_first b (lines_of bytes))

-- what is printed of an input: a line for each of its lines
unfoldable pub answers_of : List ℕ → List ℕ
answers_of input = flat_map line_text (lines_of input)

-- an input without the byte-order mark at its head, if there is one
abbrev pub without_mark : List ℕ → List ℕ
without_mark (a ∷ b ∷ c ∷ rest) = cond (a == 239 && (b == 187 && c == 191)) rest (a ∷ b ∷ c ∷ rest)
without_mark input = input

-- whether a byte is a line feed
abbrev pub is_feed : ℕ → Bool
is_feed b = b == 10

-- bytes were read of a source, and then more; of the first of them the lines that ended with a line feed were answered, and nothing else was written
pub record AnswersEnded (source source' sink sink' : Option (List ℕ)) (more : List ℕ) : Type 0 where
  pub read : List ℕ
  pub ended : List (List ℕ)
  pub begun : List ℕ
  pub lines : slice_split is_feed (without_mark read) ≡ ended ++ begun ∷ []
  pub consumed : Consumes source source' (read ++ more)
  pub answered : Appends sink sink' (flat_map line_text ended)

-- whole lines were answered, and some byte was read that stands in none of them
pub record LeavesUnanswered (source source' sink sink' : Option (List ℕ)) : Type 0 where
  pub more : List ℕ
  pub before : AnswersEnded source source' sink sink' more
  pub some : 0 < length (before.begun ++ more)

-- of the answers for the bytes that were read a part was written, from the front on, but not all
pub record AnswersPart (source source' sink sink' : Option (List ℕ)) : Type 0 where
  pub read : List ℕ
  pub consumed : Consumes source source' read
  pub answered : AppendsPart sink sink' (answers_of (without_mark read))

-- what is returned with an error: where the source returned it, the lines that had ended are answered;
-- where there was no memory, not all are that were read; where the sink returned it, a part of the answers is written
abbrev pub Fails : (reads writes : Error → Type 0) (source source' sink sink' : Option (List ℕ)) → StreamError → Type 0
Fails reads writes source source' sink sink' (Reading e) = reads e × AnswersEnded source source' sink sink' []
Fails reads writes source source' sink sink' OutOfMemory = LeavesUnanswered source source' sink sink'
Fails reads writes source source' sink sink' (Writing e) = writes e × AnswersPart source source' sink sink'

-- what is returned for an input: all lines are answered, or there was an error
abbrev pub Grades : (reads writes : Error → Type 0) (source source' sink sink' : Option (List ℕ)) → Result Unit StreamError → Type 0
Grades reads writes source source' sink sink' (Ok u) = IfSome source (λ input. Appends sink sink' (answers_of (without_mark input)))
Grades reads writes source source' sink sink' (Err e) = Fails reads writes source source' sink sink' e
