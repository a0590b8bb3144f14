-- The cards of a lawful deal, hand by hand.
use Rattle.std.proofs.Common.{if◌then◌else◌, ◌==◌, slice_index_or, ◌≡◌, ℕ, zero, suc, ◌+◌, ◌*◌, ◌≤◌, Bool, true, false, List, [], ◌∷◌, ◌++◌, length, take, drop, flat_map, Ok, Err, Result, OnOk, append_assoc, sym, refl, ap, ◌∙◌, arith}
use Rattle.std.proofs.Math.Seq.{take-length}
use Rattle.std.proofs.lemmas.Nat.{mul-le}
use Rattle.std.proofs.lemmas.Bool.{and_from, eq-eqb}
use Rattle.std.proofs.lemmas.List.{drop-drop, take-append-drop, length-take-le, length-drop}
use Rattle.std.proofs.lemmas.List.Sums.{sum_by-cons, sum_by-take-drop}
use Rattle.game.specs.Rules.{Deal}
use Rattle.game.specs.declared.dealing.Misdeal.{Misdeal}
use Rattle.game.proofs.Judged.{judged_lawful}
use Rattle.grading.specs.Admission.{is_hand}
use Rattle.grading.specs.Cards.{different_cards}
use Rattle.poker.specs.Dealing.{stakers, hand_at, seat_hand, bank_hand, dealing}
use Rattle.poker.specs.Laws.{Stakes, dealt_to, seats, IsDealtOut}
use Rattle.poker.proofs.DifferentCards.{different_in_part}

-- one seat more is one staking seat more, if it stakes
stakers_next : (k : ℕ) (staking : List Bool) → stakers (take (suc k) staking) ≡ stakers (take k staking) + (if slice_index_or staking k false then 1 else 0)
stakers_next zero [] = refl
stakers_next (suc k) [] = refl
stakers_next zero (b ∷ staking) = omega (arith, sum_by-cons (λ (x : Bool). if x then 1 else 0) b [])
stakers_next (suc k) (b ∷ staking) =
    omega (
      arith,
      stakers_next k staking,
      sum_by-cons (λ (x : Bool). if x then 1 else 0) b (take (suc k) staking),
      sum_by-cons (λ (x : Bool). if x then 1 else 0) b (take k staking),
    )

-- the numbers from k on, j of them
abbrev numbers : ℕ → ℕ → List ℕ
numbers k zero = []
numbers k (suc j) = k ∷ numbers (suc k) j

module _ (n : ℕ) (d : Deal) where
  -- the cards from the hand of seat k on
  abbrev cards_from : ℕ → List ℕ
  cards_from k = drop (n * stakers (take k d.staking)) d.cards

  -- a seat's cards are the first of them, and those of the seats behind it follow
  seat_first : (k : ℕ) → dealt_to n d k ++ cards_from (suc k) ≡ cards_from k
  seat_first k = by_stake (slice_index_or d.staking k false) (stakers_next k d.staking)
    where
      before : ℕ
      before = stakers (take k d.staking)

      by_stake : (b : Bool) → stakers (take (suc k) d.staking) ≡ before + (if b then 1 else 0) → (if b then hand_at n before d.cards else []) ++ cards_from (suc k) ≡ cards_from k
      by_stake true next =
          let more : n * before + n ≡ n * stakers (take (suc k) d.staking) = rw next (omega arith) in
          ap (λ l. take n (cards_from k) ++ l) (sym (drop-drop n (n * before) d.cards ∙ ap (λ m. drop m d.cards) more))
          ∙ take-append-drop n (cards_from k)
      by_stake false next = ap (λ m. drop (n * m) d.cards) (omega (arith, next))

  -- so are those of j seats
  seats_first : (j k end : ℕ) → k + j ≡ end → flat_map (dealt_to n d) (numbers k j) ++ cards_from end ≡ cards_from k
  seats_first zero k end e = ap cards_from (omega (arith, e))
  seats_first (suc j) k end e =
      append_assoc (dealt_to n d k) (flat_map (dealt_to n d) (numbers (suc k) j)) (cards_from end)
      ∙ ap (λ l. dealt_to n d k ++ l) (seats_first j (suc k) end (omega (arith, e)))
      ∙ seat_first k

  module _ (lawful : dealing n d ≡ Ok tt) where
    -- a hand for each staking seat and the bank
    count : length d.cards ≡ n * stakers d.staking + n
    count = omega (arith, (judged_lawful (different_cards d.cards) (length d.cards) (n * (stakers d.staking + 1)) lawful).1)

    different : (place : ℕ) → different_cards (hand_at n place d.cards) ≡ true
    different place = different_in_part (n * place) n d.cards (judged_lawful (different_cards d.cards) (length d.cards) (n * (stakers d.staking + 1)) lawful).0

    -- a seat that stakes holds n different cards
    pub seat_of_lawful : (seat : ℕ) → Stakes d seat → is_hand n (seat_hand n seat d) ≡ true
    seat_of_lawful seat stakes =
        let before : stakers (take (suc seat) d.staking) ≡ stakers (take seat d.staking) + 1 = stakers_next seat d.staking ∙ ap (λ b. stakers (take seat d.staking) + (if b then 1 else 0)) stakes in
        let among : stakers (take seat d.staking) + 1 ≤ stakers d.staking = omega (arith, before, sum_by-take-drop (λ (b : Bool). if b then 1 else 0) d.staking (suc seat)) in
        let upto : n * (stakers (take seat d.staking) + 1) ≤ n * stakers d.staking = mul-le n (stakers (take seat d.staking) + 1) n (stakers d.staking) (omega arith) among in
        let whole : length (seat_hand n seat d) ≡ n =
        length-take-le n (drop (n * stakers (take seat d.staking)) d.cards) (omega (arith, length-drop (n * stakers (take seat d.staking)) d.cards, count, upto)) in
        and_from (different_cards (seat_hand n seat d)) (length (seat_hand n seat d) == n) (different (stakers (take seat d.staking))) (eq-eqb (length (seat_hand n seat d)) n whole)

    -- so does the bank
    pub bank_of_lawful : is_hand n (bank_hand n d) ≡ true
    bank_of_lawful =
        let whole : length (bank_hand n d) ≡ n = length-take-le n (drop (n * stakers d.staking) d.cards) (omega (arith, length-drop (n * stakers d.staking) d.cards, count)) in
        and_from (different_cards (bank_hand n d)) (length (bank_hand n d) == n) (different (stakers d.staking)) (eq-eqb (length (bank_hand n d)) n whole)

  module _ (seven : length d.staking ≡ 7) (lawful : dealing n d ≡ Ok tt) where
    none_before : cards_from 0 ≡ d.cards
    none_before = let none : n * 0 ≡ 0 = omega arith in ap (λ m. drop m d.cards) none

    -- the bank's hand is what is left behind all seven seats
    bank_last : bank_hand n d ≡ cards_from 7
    bank_last =
        let all : take 7 d.staking ≡ d.staking = ap (λ m. take m d.staking) (sym seven) ∙ take-length d.staking in
        let whole : length (drop (n * stakers d.staking) d.cards) ≡ n = omega (arith, length-drop (n * stakers d.staking) d.cards, count lawful) in
        ap (λ m. take m (drop (n * stakers d.staking) d.cards)) (sym whole)
        ∙ take-length (drop (n * stakers d.staking) d.cards)
        ∙ ap (λ s. drop (n * stakers s) d.cards) (sym all)

    pub dealt_out : IsDealtOut n d
    dealt_out = record {
      in_order = ap (λ l. flat_map (dealt_to n d) seats ++ l) bank_last ∙ seats_first 7 0 7 refl ∙ none_before;
      seat_is_hand = seat_of_lawful lawful;
      bank_is_hand = bank_of_lawful lawful;
    }

-- a deal that is found lawful is dealt out
pub hands_if_lawful : (n : ℕ) (d : Deal) (r : Result (Unit {0}) Misdeal) → r ≡ dealing n d → length d.staking ≡ 7 → OnOk r (IsDealtOut n d)
hands_if_lawful n d (Ok u) e seven = dealt_out n d seven (sym e)
hands_if_lawful n d (Err misdeal) e seven = tt
