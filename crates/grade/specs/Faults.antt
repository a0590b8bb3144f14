-- The two causes for which grading refuses, and what each says to a reader.
use Rattle.std.specs.Prelude.{◌≡◌, ℕ, ◌⊎◌, List, [], ◌++◌, Ok, Err, codes, decimal, Result}
use Rattle.refusals.specs.Refusals.{number_of, refused}
use Rattle.refusals.specs.declared.Cause.{Cause}
use Rattle.refusals.specs.declared.Refusal.{Refusal}
use Rattle.grade.specs.declared.faults.Fault.{Fault}
use Rattle.grade.specs.declared.faults.Fault.TheVariants.{NoCard, WrongCount}

-- the cause that a fault is
abbrev pub cause_of : Fault → Cause
cause_of NoCard = Cause.NoCard
cause_of WrongCount = Cause.WrongCount

-- a refusal for one of these causes, that names no seat
pub record FaultRefused (refusal : Refusal) : Type 0 where
  pub cause : (refusal.cause ≡ Cause.NoCard) ⊎ (refusal.cause ≡ Cause.WrongCount)
  pub no_seat : refusal.seat ≡ 0

-- an answer with the refusal that a fault stands for
abbrev pub as_refusal : {X : Type 0} → Result X Fault → Result X Refusal
as_refusal (Ok x) = Ok x
as_refusal (Err fault) = Err (refused (cause_of fault) 0)

-- what each of these causes says to a reader; no other is a cause of grading
abbrev pub meaning_words : Cause → List ℕ
meaning_words Cause.NoCard = codes "a word is no card, or a hand has one card twice"
meaning_words Cause.WrongCount = codes "a hand has neither three nor five cards, or two hands differ in size"
meaning_words _ = []

-- what is printed of a refusal for such a cause
abbrev pub refusal_text : Cause → List ℕ
refusal_text cause = codes "refused " ++ (decimal (number_of cause) ++ (codes ": " ++ meaning_words cause))
