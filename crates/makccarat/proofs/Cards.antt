-- Whether all bytes of a list are cards.
use Rattle.std.proofs.Common.{◌≡◌, ℕ, zero, suc, true, List, [], ◌∷◌, take, refl}
use Rattle.std.proofs.lemmas.Bool.{and_parts, and_from}
use Rattle.grading.specs.Cards.{is_card}
use Rattle.makccarat.specs.Cards.{are_cards}

-- a front part of cards is all cards
pub cards_take : (n : ℕ) (bs : List ℕ) → are_cards bs ≡ true → are_cards (take n bs) ≡ true
cards_take zero bs h = refl
cards_take (suc n) [] h = refl
cards_take (suc n) (b ∷ bs) h =
    let p = and_parts (is_card b) (are_cards bs) h in and_from (is_card b) (are_cards (take n bs)) p.0 (cards_take n bs p.1)
