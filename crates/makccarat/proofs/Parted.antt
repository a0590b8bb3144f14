-- The deal of ranks 4, 2, 3, 3, 2, 9 in the two ways.
use Rattle.std.proofs.Common.{◌≡◌, ℕ, zero, suc, ◌≤◌, true, cond, eqb, leb, List, [], ◌∷◌, sym, refl, ap, ◌∙◌, arith}
use Rattle.std.proofs.lemmas.Bool.{and_from, le-leb}
use Rattle.makccarat.specs.declared.side.Side.TheVariants.{Player, Banker}
use Rattle.makccarat.specs.declared.way.Way.TheVariants.{First, Second}
use Rattle.makccarat.specs.Cards.{are_cards, points}
use Rattle.grading.specs.Cards.{is_card, rank_of, suit_of}
use Rattle.makccarat.specs.Round.{final_total, higher}
use Rattle.makccarat.specs.Laws.{CheckedDeals, card}
use Rattle.makccarat.proofs.Alike.{Alike, called_alike, final_total_alike}
use Rattle.makccarat.specs.Counts.{deal_lawful, deal_wrong_count}

-- a rank from 2 to 14 and a suit from 0 to 3 make a card, before cards
also : (r s : ℕ) → 2 ≤ r → r ≤ 14 → s ≤ 3 → (bs : List ℕ) → are_cards bs ≡ true → are_cards (card r s ∷ bs) ≡ true
also r s low high h bs rest =
    let e : rank_of (card r s) ≡ r = omega arith in
    and_from (is_card (card r s)) (are_cards bs)
    (and_from _ _ (le-leb 2 (rank_of (card r s)) (omega arith))
    (and_from _ _ (le-leb (rank_of (card r s)) 14 (omega arith)) (le-leb (suit_of (card r s)) 3 (omega arith))))
    rest

-- the suit does not count
points_of_rank : (r s : ℕ) → s ≤ 3 → points (card r s) ≡ points (card r 0)
points_of_rank r s h =
    let e : rank_of (card r s) ≡ rank_of (card r 0) = omega arith in ap (λ n. cond (eqb n 14) 1 (cond (leb n 9) n 0)) e

-- the six cards in diamonds
abbrev diamonds : List ℕ
diamonds = card 4 0 ∷ card 2 0 ∷ card 3 0 ∷ card 3 0 ∷ card 2 0 ∷ card 9 0 ∷ []

pub checked : CheckedDeals
checked a b c d e f ha hb hc hd he hf = record {
  first = deal_lawful First cs all (sym (called_alike cs diamonds (λ i l. like i (omega arith)) First));
  player = player;
  banker = banker;
  wins = ap (λ n. higher n (final_total First cs Banker)) player ∙ ap (higher 6) banker;
  second = deal_wrong_count Second cs all (λ n. omega (arith, n, called_alike cs diamonds (λ i l. like i (omega arith)) Second));
}
  where
    cs : List ℕ
    cs = card 4 a ∷ card 2 b ∷ card 3 c ∷ card 3 d ∷ card 2 e ∷ card 9 f ∷ []

    like : Alike 6 cs diamonds
    like zero l = points_of_rank 4 a ha
    like (suc zero) l = points_of_rank 2 b hb
    like (suc (suc zero)) l = points_of_rank 3 c hc
    like (suc (suc (suc zero))) l = points_of_rank 3 d hd
    like (suc (suc (suc (suc zero)))) l = points_of_rank 2 e he
    like (suc (suc (suc (suc (suc zero))))) l = points_of_rank 9 f hf
    like (suc (suc (suc (suc (suc (suc i)))))) l = absurd (omega arith)

    all : are_cards cs ≡ true
    all =
        also 4 a (omega arith) (omega arith) ha (card 2 b ∷ card 3 c ∷ card 3 d ∷ card 2 e ∷ card 9 f ∷ [])
        (also 2 b (omega arith) (omega arith) hb (card 3 c ∷ card 3 d ∷ card 2 e ∷ card 9 f ∷ [])
        (also 3 c (omega arith) (omega arith) hc (card 3 d ∷ card 2 e ∷ card 9 f ∷ [])
        (also 3 d (omega arith) (omega arith) hd (card 2 e ∷ card 9 f ∷ [])
        (also 2 e (omega arith) (omega arith) he (card 9 f ∷ [])
        (also 9 f (omega arith) (omega arith) hf [] refl)))))

    player : final_total First cs Player ≡ 6
    player = final_total_alike cs diamonds like First Player

    banker : final_total First cs Banker ≡ 7
    banker = final_total_alike cs diamonds like First Banker
