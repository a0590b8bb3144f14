-- Which lists of bytes are hands, and why the others are refused.
use Rattle.std.specs.Prelude.{ℕ, Bool, not, ◌&&◌, ◌||◌, List, [], ◌∷◌, length, Some, None, Ok, Err, Option, Result, ◌==◌}
use Rattle.refusals.specs.Refusals.{refused}
use Rattle.refusals.specs.declared.Cause.{Cause}
use Rattle.refusals.specs.declared.Cause.TheVariants.{NoCard, WrongCount}
use Rattle.refusals.specs.declared.Refusal.{Refusal}
use Rattle.grading.specs.Cards.{different_cards}

-- a hand of n cards: n different cards
abbrev pub is_hand : ℕ → List ℕ → Bool
is_hand n cs = different_cards cs && length cs == n

-- why bytes are no hand of n cards: a byte is no card or stands there twice, or they are not n
abbrev pub hand_causes : ℕ → List ℕ → List (Bool × Cause)
hand_causes n cs = (not (different_cards cs), NoCard) ∷ (not (length cs == n), WrongCount) ∷ []

-- why two lists of bytes are not two hands of n cards: the smaller number of either goes first
abbrev pub hands_causes : ℕ → List ℕ → List ℕ → List (Bool × Cause)
hands_causes n cs ds =
    (not (different_cards cs) || not (different_cards ds), NoCard)
    ∷ (not (length cs == n) || not (length ds == n), WrongCount)
    ∷ []

-- an answer, unless there is a cause to refuse; a refusal by grading names no seat
abbrev pub unless : {X : Type 0} → Option Cause → X → Result X Refusal
unless None x = Ok x
unless (Some cause) x = Err (refused cause 0)
