-- What is kept of a hand's cards decides its answer.
use Rattle.std.proofs.Common.{◌≡◌, ℕ, ◌+◌, ◌<◌, ◌≤◌, Bool, true, false, cond, not, ◌&&◌, ◌||◌, eqb, List, [], ◌∷◌, ◌++◌, length, take, drop, set, get_or, Err, add-zero, sym, refl, ap, ◌∙◌, ⊎_elim, ◌⊎◌, inl, inr, arith}
use Rattle.std.proofs.lemmas.Bool.{cases_Bool, cases_lt, cases_eq, ne_eqb, both_ways}
use Rattle.std.proofs.lemmas.Bool.Decides.{nat_tests}
use Rattle.std.proofs.lemmas.List.{take_all, take-append-le, take-append-drop, length-take-le, get_or-set_same, get_or-set_other}
use Rattle.refusals.specs.Refusals.{refused}
use Rattle.refusals.specs.declared.Cause.TheVariants.{NoCard, WrongCount}
use Rattle.grading.specs.Cards.{is_card, copies_of, different_cards}
use Rattle.grading.specs.Grading.{three_class, five_class}
use Rattle.grading.proofs.Different.{copies_snoc, different_snoc, different_front}
use Rattle.grading.proofs.Refused.{three_class_no_card, five_class_no_card, three_class_wrong_count, five_class_wrong_count, three_compared_no_card, five_compared_no_card, three_compared_wrong_count, five_compared_wrong_count}
use Rattle.grade.specs.Answers.{made, one_graded, two_graded, one_hand, two_hands}
use Rattle.grade.specs.States.{IsHandAfter, first_cards_of}
use Rattle.grade.specs.declared.answers.Answer.TheVariants.{Threes, Fives}
use Rattle.grade.specs.declared.hand.TypedHand.{TypedHand}

same_either_way : {X : Type 0} (t : Bool) (x y z : X) → x ≡ z → y ≡ z → cond t x y ≡ z
same_either_way true x y z p q = p
same_either_way false x y z p q = q

-- ---- the answer, where cards are at fault, and where they are too many

pub one_no_card : (cs : List ℕ) → different_cards cs ≡ false → one_hand cs ≡ Err (refused NoCard 0)
one_no_card cs d =
    same_either_way (eqb (length cs) 5) _ _ _
    (ap (λ r. made Fives (one_graded r)) (five_class_no_card cs d))
    (ap (λ r. made Threes (one_graded r)) (three_class_no_card cs d))

pub two_no_card : (cs ds : List ℕ) → (not (different_cards cs) || not (different_cards ds)) ≡ true → two_hands cs ds ≡ Err (refused NoCard 0)
two_no_card cs ds d =
    same_either_way (eqb (length cs) 5 || eqb (length ds) 5) _ _ _
    (ap (λ r. made Fives (two_graded r (five_class cs) (five_class ds))) (five_compared_no_card cs ds d))
    (ap (λ r. made Threes (two_graded r (three_class cs) (three_class ds))) (three_compared_no_card cs ds d))

one_too_many : (cs : List ℕ) → different_cards cs ≡ true → 5 < length cs → one_hand cs ≡ Err (refused WrongCount 0)
one_too_many cs d h =
    same_either_way (eqb (length cs) 5) _ _ _
    (ap (λ r. made Fives (one_graded r)) (five_class_wrong_count cs d (ne_eqb (length cs) 5 (λ e. omega (arith, e, h)))))
    (ap (λ r. made Threes (one_graded r)) (three_class_wrong_count cs d (ne_eqb (length cs) 3 (λ e. omega (arith, e, h)))))

pub or_true : (b : Bool) → (b || true) ≡ true
or_true true = refl
or_true false = refl

-- one of the two is of more than five cards
abbrev OneTooMany : List ℕ → List ℕ → Type 0
OneTooMany cs ds = (5 < length cs) ⊎ (5 < length ds)

either_differs : (n : ℕ) → n ≤ 5 → (cs ds : List ℕ) → OneTooMany cs ds → (not (eqb (length cs) n) || not (eqb (length ds) n)) ≡ true
either_differs n small cs ds many =
    ⊎_elim
    (λ (h : 5 < length cs). ap (λ b. not b || not (eqb (length ds) n)) (ne_eqb (length cs) n (λ e. omega (arith, e, h, small))))
    (λ (h : 5 < length ds). ap (λ b. not (eqb (length cs) n) || not b) (ne_eqb (length ds) n (λ e. omega (arith, e, h, small))) ∙ or_true (not (eqb (length cs) n)))
    many

two_too_many : (cs ds : List ℕ) → different_cards cs ≡ true → different_cards ds ≡ true → OneTooMany cs ds → two_hands cs ds ≡ Err (refused WrongCount 0)
two_too_many cs ds d e many =
    same_either_way (eqb (length cs) 5 || eqb (length ds) 5) _ _ _
    (ap (λ r. made Fives (two_graded r (five_class cs) (five_class ds))) (five_compared_wrong_count cs ds d e (either_differs 5 (omega arith) cs ds many)))
    (ap (λ r. made Threes (two_graded r (three_class cs) (three_class ds))) (three_compared_wrong_count cs ds d e (either_differs 3 (omega arith) cs ds many)))

-- ---- the first six cards decide

front : (cs : List ℕ) → different_cards cs ≡ true → different_cards (take 6 cs) ≡ true
front cs d = different_front (take 6 cs) (drop 6 cs) (ap different_cards (take-append-drop 6 cs) ∙ d)

six : (cs : List ℕ) → 6 ≤ length cs → 5 < length (take 6 cs)
six cs h = omega (arith, length-take-le 6 cs h)

pub one_by_first : (cs : List ℕ) → different_cards cs ≡ true → one_hand (take 6 cs) ≡ one_hand cs
one_by_first cs d =
    ⊎_elim
    (λ (few : length cs < 6). ap one_hand (take_all 6 cs (omega (arith, few))))
    (λ (many : 6 ≤ length cs). one_too_many (take 6 cs) (front cs d) (six cs many) ∙ sym (one_too_many cs d (omega (arith, many))))
    (cases_lt (length cs) 6)

pub two_by_first : (cs ds : List ℕ) → different_cards cs ≡ true → different_cards ds ≡ true → two_hands (take 6 cs) (take 6 ds) ≡ two_hands cs ds
two_by_first cs ds d e =
    let too_many : OneTooMany (take 6 cs) (take 6 ds) → OneTooMany cs ds → two_hands (take 6 cs) (take 6 ds) ≡ two_hands cs ds =
    λ m n. two_too_many (take 6 cs) (take 6 ds) (front cs d) (front ds e) m ∙ sym (two_too_many cs ds d e n) in
    ⊎_elim
    (λ (few : length cs < 6).
    ⊎_elim
    (λ (few_too : length ds < 6). (λ i. two_hands (take_all 6 cs (omega (arith, few)) i) (take_all 6 ds (omega (arith, few_too)) i)))
    (λ (many : 6 ≤ length ds). too_many (inr (six ds many)) (inr (omega (arith, many))))
    (cases_lt (length ds) 6))
    (λ (many : 6 ≤ length cs). too_many (inl (six cs many)) (inl (omega (arith, many))))
    (cases_lt (length cs) 6)

-- ---- a card more

pub not_true : (b : Bool) → not b ≡ true → b ≡ false
not_true true e = cc
not_true false e = refl

pub not_false : (b : Bool) → not b ≡ false → b ≡ true
not_false true e = refl
not_false false e = cc

and_left_false : (a b : Bool) → a ≡ false → (a && b) ≡ false
and_left_false a b e = ap (λ x. x && b) e

-- at a hand with a fault nothing more is kept
faulty_more : (new : TypedHand) (cards : List ℕ) (card : ℕ) → new.faulty ≡ true → different_cards (cards ++ card ∷ []) ≡ false → IsHandAfter new (cards ++ card ∷ [])
faulty_more new cards card f d = record {
  faulty = f ∙ ap not (sym d);
  cards = λ e. absurd (both_ways (different_cards (cards ++ card ∷ [])) d e);
}

-- a byte that is no card, or stands there already
pub at_fault : (old new : TypedHand) (cards : List ℕ) (card : ℕ) → new.faulty ≡ true → card < 256 → (not (is_card card) || get_or old.seen card false) ≡ true → IsHandAfter old cards → IsHandAfter new (cards ++ card ∷ [])
at_fault old new cards card f within test k =
    let whole = different_snoc cards card in
    ⊎_elim
    (λ (good : different_cards cards ≡ true).
    let fails : (is_card card && eqb (copies_of card cards) 0) ≡ false = fault_of (is_card card) (get_or old.seen card false) (eqb (copies_of card cards) 0) ((k.cards good).seen card within) test in
    faulty_more new cards card f (whole ∙ (λ i. good i && fails i)))
    (λ (bad : different_cards cards ≡ false). faulty_more new cards card f (whole ∙ and_left_false (different_cards cards) _ bad))
    (cases_Bool (different_cards cards))
  where
    fault_of : (is seen none : Bool) → seen ≡ not none → (not is || seen) ≡ true → (is && none) ≡ false
    fault_of true seen true e t = let w : ◌≡◌ {A = Bool} false true = sym e ∙ t in cc
    fault_of true seen false e t = refl
    fault_of false seen none e t = refl

take_snoc : (n : ℕ) (xs : List ℕ) (x : ℕ) → take n (take n xs ++ x ∷ []) ≡ take n (xs ++ x ∷ [])
take_snoc n xs x =
    ⊎_elim
    (λ (few : length xs < n). ap (λ ys. take n (ys ++ x ∷ [])) (take_all n xs (omega (arith, few))))
    (λ (many : n ≤ length xs).
    let full = length-take-le n xs many in
    take-append-le n (take n xs) (x ∷ []) (omega (arith, full))
    ∙ take_all n (take n xs) (omega (arith, full))
    ∙ sym (take-append-le n xs (x ∷ []) many))
    (cases_lt (length xs) n)

-- a card that is not there yet
pub one_more : (old new : TypedHand) (cards : List ℕ) (card : ℕ) → card < 256 → 256 ≤ length old.seen → new.faulty ≡ old.faulty → new.seen ≡ set old.seen card true → first_cards_of new.first ≡ take 6 (first_cards_of old.first ++ card ∷ []) → (not (is_card card) || get_or old.seen card false) ≡ false → IsHandAfter old cards → IsHandAfter new (cards ++ card ∷ [])
one_more old new cards card within room f s first test k =
    let whole = different_snoc cards card in
    ⊎_elim
    (λ (good : different_cards cards ≡ true).
    let ks = k.cards good in
    let passes : (is_card card && eqb (copies_of card cards) 0) ≡ true = passes_of (is_card card) (get_or old.seen card false) (eqb (copies_of card cards) 0) (ks.seen card within) test in
    let good_too : different_cards (cards ++ card ∷ []) ≡ true = whole ∙ (λ i. good i && passes i) in
    let result : IsHandAfter new (cards ++ card ∷ []) = record {
      faulty = f ∙ k.faulty ∙ ap not (good ∙ sym good_too);
      cards = λ _. record {
        first = first ∙ ap (λ xs. take 6 (xs ++ card ∷ [])) ks.first ∙ take_snoc 6 cards card;
        seen = λ c below. ap (λ xs. get_or xs c false) s ∙ seen_at c below ks.seen;
      };
    } in result)
    (λ (bad : different_cards cards ≡ false).
    faulty_more new cards card (f ∙ k.faulty ∙ ap not bad) (whole ∙ and_left_false (different_cards cards) _ bad))
    (cases_Bool (different_cards cards))
  where
    passes_of : (is seen none : Bool) → seen ≡ not none → (not is || seen) ≡ false → (is && none) ≡ true
    passes_of true seen none e t = not_false none (sym e ∙ t)
    passes_of false seen none e t = cc

    more : (n : ℕ) → eqb (n + 1) 0 ≡ false
    more n = grind (arith, nat_tests)

    itself : (c : ℕ) → eqb c c ≡ true
    itself c = grind (arith, nat_tests)

    seen_at : (c : ℕ) → c < 256 → ((d : ℕ) → d < 256 → get_or old.seen d false ≡ not (eqb (copies_of d cards) 0)) → get_or (set old.seen card true) c false ≡ not (eqb (copies_of c (cards ++ card ∷ [])) 0)
    seen_at c below seen =
        ⊎_elim
        (λ (same : c ≡ card).
        ap (λ x. get_or (set old.seen card true) x false) same
        ∙ get_or-set_same old.seen card true false (omega (arith, within, room))
        ∙ ap not (sym (more (copies_of c cards)))
        ∙ ap (λ n. not (eqb n 0)) (ap (λ t. copies_of c cards + cond t 1 0) (sym (ap (λ x. eqb card x) same ∙ itself card)) ∙ sym (copies_snoc c card cards)))
        (λ (other : c ≡ card → ⊥).
        get_or-set_other old.seen card c true false other
        ∙ seen c below
        ∙ ap (λ n. not (eqb n 0)) (sym (copies_snoc c card cards ∙ ap (λ t. copies_of c cards + cond t 1 0) (ne_eqb card c (λ e. other (sym e))) ∙ add-zero (copies_of c cards))))
        (cases_eq c card)

-- cards at fault are some cards
pub some_at_fault : (cards : List ℕ) → different_cards cards ≡ false → eqb (length cards) 0 ≡ false
unfolding different_cards
some_at_fault [] d = cc
some_at_fault (card ∷ cards) d = ne_eqb (length (card ∷ cards)) 0 (λ e. omega (arith, e))
