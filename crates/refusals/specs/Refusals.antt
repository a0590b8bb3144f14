-- Why a call is refused: the number of each cause, its layer, the seat a refusal names, and which of several causes answers.
use Rattle.std.specs.Prelude.{◌≡◌, ℕ, ◌+◌, ◌≤◌, Bool, true, false, cond, ◌&&◌, ◌⊎◌, List, [], ◌∷◌, Some, None, codes, Option, nat_le}
use Rattle.refusals.specs.declared.Cause.{Cause}
use Rattle.refusals.specs.declared.Cause.TheVariants.{WrongStage, NoSuchSeat, NoBets, BadAmount, SpaceTaken, NoCompanion, RackTooSmall, TrayTooSmall, TotalTooLarge, NoStakes, NoRoundsLeft, NoCard, WrongCount, NoChoiceOpen, LeavingBarred, ChoiceMissing, NoPlaceFree, BadConditions, CutShort, UnknownByte, BadDeal, SheetTooLong}
use Rattle.refusals.specs.declared.Layer.{Layer}
use Rattle.refusals.specs.declared.Layer.TheVariants.{Game, Sheet, Table}
use Rattle.refusals.specs.declared.Refusal.{Refusal}

-- the number by which the rules name a cause
abbrev pub number_of : Cause → ℕ
number_of WrongStage = 1
number_of NoSuchSeat = 2
number_of NoBets = 3
number_of BadAmount = 4
number_of SpaceTaken = 5
number_of NoCompanion = 6
number_of RackTooSmall = 7
number_of TrayTooSmall = 8
number_of TotalTooLarge = 9
number_of NoStakes = 10
number_of NoRoundsLeft = 11
number_of NoCard = 12
number_of WrongCount = 13
number_of NoChoiceOpen = 14
number_of LeavingBarred = 15
number_of ChoiceMissing = 16
number_of NoPlaceFree = 17
number_of BadConditions = 18
number_of CutShort = 19
number_of UnknownByte = 20
number_of BadDeal = 21
number_of SheetTooLong = 22

-- the layer that a cause belongs to, whoever hands it on
abbrev pub layer_of : Cause → Layer
layer_of WrongStage = Table
layer_of NoSuchSeat = Table
layer_of NoBets = Game
layer_of BadAmount = Table
layer_of SpaceTaken = Table
layer_of NoCompanion = Game
layer_of RackTooSmall = Table
layer_of TrayTooSmall = Table
layer_of TotalTooLarge = Table
layer_of NoStakes = Table
layer_of NoRoundsLeft = Table
layer_of NoCard = Game
layer_of WrongCount = Game
layer_of NoChoiceOpen = Game
layer_of LeavingBarred = Game
layer_of ChoiceMissing = Table
layer_of NoPlaceFree = Table
layer_of BadConditions = Table
layer_of CutShort = Sheet
layer_of UnknownByte = Sheet
layer_of BadDeal = Sheet
layer_of SheetTooLong = Sheet

-- the word for a layer
abbrev pub word_of : Layer → List ℕ
word_of Game = codes "game"
word_of Sheet = codes "sheet"
word_of Table = codes "table"

-- whether a refusal for this cause names the seat that the call named: not where there is no such seat, nor where the sheet is wrong
abbrev pub names_seat : Cause → Bool
names_seat WrongStage = true
names_seat NoSuchSeat = false
names_seat NoBets = true
names_seat BadAmount = true
names_seat SpaceTaken = true
names_seat NoCompanion = true
names_seat RackTooSmall = true
names_seat TrayTooSmall = true
names_seat TotalTooLarge = true
names_seat NoStakes = true
names_seat NoRoundsLeft = true
names_seat NoCard = true
names_seat WrongCount = true
names_seat NoChoiceOpen = true
names_seat LeavingBarred = true
names_seat ChoiceMissing = true
names_seat NoPlaceFree = true
names_seat BadConditions = true
names_seat CutShort = false
names_seat UnknownByte = false
names_seat BadDeal = false
names_seat SheetTooLong = false

-- the refusal of a call that named this seat, or 0 for none
abbrev pub refused : Cause → ℕ → Refusal
refused c seat = record { cause = c; seat = cond (names_seat c) seat 0 }

-- the turn of a cause among several: a sheet too long, then what else is wrong with a sheet, then by number
abbrev pub turn_of : Cause → ℕ
turn_of c = cond (nat_le 22 (number_of c)) 0 (cond (nat_le 19 (number_of c)) (number_of c) (22 + number_of c))

-- the first cause of a list whose condition holds
abbrev pub first_cause : List (Bool × Cause) → Option Cause
first_cause [] = None
first_cause ((holds, c) ∷ rest) = cond holds (Some c) (first_cause rest)

-- a cause of a list whose condition holds
abbrev pub Holds : List (Bool × Cause) → Cause → Type 0
Holds [] x = ⊥
Holds ((holds, c) ∷ rest) x = ((holds ≡ true) × (c ≡ x)) ⊎ Holds rest x

-- the least of the causes that hold: its turn comes before that of every other
pub record Least (cs : List (Bool × Cause)) (x : Cause) : Type 0 where
  pub holds : Holds cs x
  pub least : (y : Cause) → Holds cs y → turn_of x ≤ turn_of y

-- which cause of a list answers: the least that holds, and none where none holds
abbrev pub Answers : List (Bool × Cause) → Option Cause → Type 0
Answers cs None = (y : Cause) → Holds cs y → ⊥
Answers cs (Some x) = Least cs x

-- the causes of a list stand in the order of their turns, from a turn on
abbrev pub in_turn : ℕ → List (Bool × Cause) → Bool
in_turn n [] = true
in_turn n ((holds, c) ∷ rest) = nat_le n (turn_of c) && in_turn (turn_of c) rest
