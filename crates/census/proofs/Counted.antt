-- Hands counted one after another.
use Rattle.std.proofs.Common.{◌≡◌, ℕ, zero, suc, ◌+◌, ◌-◌, ◌<◌, ◌≤◌, length, drop, set, List, [], ◌∷◌, ◌++◌, cond, Result, Ordering, add_assoc, add-zero, add-one, zero-add, sym, ap, subst, ◌∙◌, arith}
use Rattle.std.specs.List.{flat_map}
use Rattle.std.proofs.lemmas.Grind.{flat_map-append}
use Rattle.std.proofs.lemmas.List.{append-nil, drop-drop, drop-set, drop-set-lt}
use Rattle.std.proofs.lemmas.List.Sums.{sum_by-append}
use Rattle.refusals.specs.declared.Refusal.{Refusal}
use Rattle.census.specs.Counts.{card_at, places, hands_with, is_class, how_many, Counts}

-- the hands below one place more
pub one_place_more : (f : ℕ → List (List ℕ)) (n : ℕ) → flat_map f (places (n + 1)) ≡ flat_map f (places n) ++ f n
one_place_more f n = ap (λ m. flat_map f (places m)) (add-one n) ∙ flat_map-append f (places n) (n ∷ []) ∙ ap (λ hands. flat_map f (places n) ++ hands) (append-nil (f n))

module _ {K : Type 0} (cmp : K → K → Ordering) (classed : List ℕ → Result K Refusal) where
  -- no hands
  pub none_counted : (m : K → ℕ) → Counts cmp classed m m []
  none_counted m k = sym (add-zero (m k))

  -- more hands
  pub more_counted : (l m n : K → ℕ) (xs ys : List (List ℕ)) → Counts cmp classed l m xs → Counts cmp classed m n ys → Counts cmp classed l n (xs ++ ys)
  more_counted l m n xs ys p q k =
      q k
      ∙ ap (λ c. c + how_many cmp classed k ys) (p k)
      ∙ add_assoc (l k) (how_many cmp classed k xs) (how_many cmp classed k ys)
      ∙ ap (λ c. l k + c) (sym (sum_by-append (λ hand. cond (is_class cmp k (classed hand)) 1 0) xs ys))

  -- the hands at one place more
  pub place_counted : (l m n : K → ℕ) (f : ℕ → List (List ℕ)) (p : ℕ) → Counts cmp classed l m (flat_map f (places p)) → Counts cmp classed m n (f p) → Counts cmp classed l n (flat_map f (places (p + 1)))
  place_counted l m n f p below here = subst (Counts cmp classed l n) (sym (one_place_more f p)) (more_counted l m n (flat_map f (places p)) (f p) below here)

  -- the hands that a tally of none has counted
  pub all_counted : (old new : K → ℕ) (xs : List (List ℕ)) → ((k : K) → old k ≡ 0) → Counts cmp classed old new xs → (k : K) → new k ≡ how_many cmp classed k xs
  all_counted old new xs none counted k = counted k ∙ ap (λ n. n + how_many cmp classed k xs) (none k) ∙ zero-add (how_many cmp classed k xs)

-- the hands with one card more at least
pub some_more : (more bound : ℕ) (cards : List ℕ) → 0 < more → hands_with more bound cards ≡ flat_map (λ p. hands_with (more - 1) p (card_at p ∷ cards)) (places bound)
some_more zero bound cards h = absurd (omega (arith, h))
some_more (suc n) bound cards h =
    let same : (m : ℕ) → m ≡ suc m - 1 = λ m. omega arith in
    ap (λ m. flat_map (λ p. hands_with m p (card_at p ∷ cards)) (places bound)) (same n)

-- a card written before those that were chosen
pub chosen : (hand base : List ℕ) (m card : ℕ) → 0 < m → m ≤ length hand → drop m hand ≡ drop m base → drop (m - 1) (set hand (m - 1) card) ≡ card ∷ drop m base
chosen hand base m card h room kept =
    let back : m - 1 + 1 ≡ m = omega (arith, h) in
    drop-set hand (m - 1) card (omega (arith, h, room))
    ∙ ap (λ i. card ∷ drop i hand) back
    ∙ ap (λ cards. card ∷ cards) kept

-- what stands behind the place of a card stays
pub kept_behind : (new hand base : List ℕ) (m card : ℕ) → 0 < m → drop (m - 1) new ≡ drop (m - 1) (set hand (m - 1) card) → drop m hand ≡ drop m base → drop m new ≡ drop m base
kept_behind new hand base m card h same kept =
    let back : m - 1 + 1 ≡ m = omega (arith, h) in
    let further : (xs : List ℕ) → drop 1 (drop (m - 1) xs) ≡ drop m xs = λ xs. drop-drop 1 (m - 1) xs ∙ ap (λ i. drop i xs) back in
    sym (further new)
    ∙ ap (drop 1) same
    ∙ further (set hand (m - 1) card)
    ∙ drop-set-lt m hand (m - 1) card (omega (arith, h))
    ∙ kept
