-- What holds of both games: whose the cards are, on what a return depends, and what a seat that left gets back.
use Rattle.std.specs.Prelude.{◌≡◌, ℕ, true, false, List, [], ◌∷◌, ◌++◌, flat_map, slice_index_or, if◌then◌else◌}
use Rattle.std.specs.List.Sorted.{IsPermutation}
use Rattle.grading.specs.Admission.{is_hand}
use Rattle.game.specs.Rules.{Rules, Deal}
use Rattle.game.specs.declared.choice.Choice.{Choice}
use Rattle.game.specs.declared.choice.Choice.TheVariants.{Left}
use Rattle.poker.specs.Dealing.{seat_hand, bank_hand}

-- the seven seats in order, counted from 0
abbrev pub seats : List ℕ
seats = 0 ∷ 1 ∷ 2 ∷ 3 ∷ 4 ∷ 5 ∷ 6 ∷ []

-- whether a seat stakes
abbrev pub Stakes : Deal → ℕ → Type 0
Stakes d seat = slice_index_or d.staking seat false ≡ true

-- the cards that a seat is dealt: its hand if it stakes, and else none
abbrev pub dealt_to : ℕ → Deal → ℕ → List ℕ
dealt_to n d seat = if slice_index_or d.staking seat false then seat_hand n seat d else []

-- the cards are, in their order, the hands of the staking seats and then the bank's, and each of these is n different cards, which can be graded
pub record IsDealtOut (n : ℕ) (d : Deal) : Type 0 where
  pub in_order : flat_map (dealt_to n d) seats ++ bank_hand n d ≡ d.cards
  pub seat_is_hand : (seat : ℕ) → Stakes d seat → is_hand n (seat_hand n seat d) ≡ true
  pub bank_is_hand : is_hand n (bank_hand n d) ≡ true

-- with these stakes and this choice every seat, in every deal, that holds these n cards against these of the bank's gets back r:
-- neither the seat's place nor anyone else's stakes, choice or cards count
abbrev pub HandsDecide : ℕ → Rules → List ℕ → Choice → List ℕ → List ℕ → ℕ → Type 0
HandsDecide n R stakes c own bank r =
    (seat : ℕ) (d : Deal) → seat_hand n seat d ≡ own → bank_hand n d ≡ bank → R.returns seat stakes c d ≡ r

-- a seat that left gets back nothing, whatever it staked and whatever was dealt
abbrev pub LeftGetsNothing : Rules → Type 0
LeftGetsNothing R = (seat : ℕ) (stakes : List ℕ) (d : Deal) → R.returns seat stakes Left d ≡ 0

-- the order in which the cards of a hand lie does not count: with the same cards against the same cards of the bank's a return is the same
abbrev pub OrderDoesNotCount : ℕ → Rules → Type 0
OrderDoesNotCount n R =
    (seat other : ℕ) (stakes : List ℕ) (c : Choice) (d e : Deal)
    → IsPermutation (seat_hand n seat d) (seat_hand n other e) → IsPermutation (bank_hand n d) (bank_hand n e)
    → R.returns seat stakes c d ≡ R.returns other stakes c e
