-- What is kept of an input while it is read, and what of its bytes that stands for.
use Rattle.std.specs.Prelude.{◌≡◌, ℕ, Bool, true, false, cond, List, [], ◌∷◌, ◌++◌, Ok, Err, Option, Result, ◌==◌}
use Rattle.std.specs.Io.KnownBytes.{Appends, Consumes, IsAtEnd}
use Rattle.std.specs.List.{flat_map, slice_split}
use Rattle.std.specs.declared.io.Error.{Error}
use Rattle.byte_streams.specs.declared.error.StreamError.{StreamError}
use Rattle.grade.specs.Lines.{is_word}
use Rattle.grade.specs.States.{IsLineAfter}
use Rattle.grade.specs.Streams.{is_feed, line_text, without_mark, Fails}
use Rattle.grade.specs.declared.input.Head.{Head}
use Rattle.grade.specs.declared.input.Head.TheVariants.{Start, One, Two, Past}
use Rattle.grade.specs.declared.input.Input.{Input}
use Rattle.grade.specs.declared.input.Typed.{Typed}

-- the head of an input with one byte more
abbrev pub head_with : Head → ℕ → Head
head_with Start b = cond (b == 239) One Past
head_with One b = cond (b == 187) Two Past
head_with Two b = Past
head_with Past b = Past

-- whether a byte is the last of a mark
abbrev pub ends_mark : Head → ℕ → Bool
ends_mark Two b = b == 191
ends_mark _ b = false

-- the head of an input of which these bytes were read: how many bytes of a mark they are; past it, what follows belongs to the text
abbrev pub IsHeadOf : Head → List ℕ → Type 0
IsHeadOf Start read = read ≡ []
IsHeadOf One read = read ≡ 239 ∷ []
IsHeadOf Two read = read ≡ 239 ∷ 187 ∷ []
IsHeadOf Past read = (rest : List ℕ) → without_mark (read ++ rest) ≡ without_mark read ++ rest

-- what is kept of these bytes of a text, once the lines that ended were answered with these bytes
pub record IsTypedAfter (typed : Typed) (bytes out : List ℕ) : Type 0 where
  pub ended : List (List ℕ)
  pub current : List ℕ
  pub split : slice_split is_feed bytes ≡ ended ++ current ∷ []
  pub out_is : out ≡ flat_map line_text ended
  pub taken : IsLineAfter typed.line current
  pub begun : typed.begun ≡ is_word current

-- what is kept of these bytes of an input, likewise
pub record IsInputAfter (input : Input) (read out : List ℕ) : Type 0 where
  pub typed : IsTypedAfter input.typed (without_mark read) out
  pub head : IsHeadOf input.head read

-- what was read since a source was as given is what is kept, and its answers were written since a sink was as given
pub record Answering (source source' sink sink' : Option (List ℕ)) (input : Input) : Type 0 where
  pub read : List ℕ
  pub out : List ℕ
  pub consumed : Consumes source source' read
  pub answered : Appends sink sink' out
  pub kept : IsInputAfter input read out

-- after a step: more is read and answered, or there was an error
abbrev pub AnswersMore : (reads writes : Error → Type 0) (source source' sink sink' : Option (List ℕ)) → Input → Result Unit StreamError → Type 0
AnswersMore reads writes source source' sink sink' input (Ok u) = Answering source source' sink sink' input
AnswersMore reads writes source source' sink sink' input (Err e) = Fails reads writes source source' sink sink' e

-- after a read: the source may have more bytes, or it is at its end
abbrev pub ReadsMore : (reads writes : Error → Type 0) (source source' sink sink' : Option (List ℕ)) → Input → Result Bool StreamError → Type 0
ReadsMore reads writes source source' sink sink' input (Ok true) = Answering source source' sink sink' input
ReadsMore reads writes source source' sink sink' input (Ok false) = Answering source source' sink sink' input × IsAtEnd source'
ReadsMore reads writes source source' sink sink' input (Err e) = Fails reads writes source source' sink sink' e
