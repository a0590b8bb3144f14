-- All hands of a pack, and how many of them are of a class.
use Rattle.std.specs.Prelude.{◌≡◌, ℕ, zero, suc, ◌+◌, ◌*◌, ◌/◌, ◌%◌, Bool, false, List, [], ◌∷◌, ◌++◌, count_by, slice_index, Ok, Err, Result, unwrap_or}
use Rattle.std.specs.BTreeMap.{get, BTreeMap}
use Rattle.std.specs.List.{flat_map}
use Rattle.std.specs.Ordering.{is_eq}
use Rattle.std.specs.declared.cmp.Ordering.{Ordering}
use Rattle.refusals.specs.declared.Refusal.{Refusal}

-- the card at a place of the pack, which is in order of ranks
abbrev pub card_at : ℕ → ℕ
card_at place = 16 * (place / 4 + 2) + place % 4

-- the first n places
abbrev pub places : ℕ → List ℕ
places zero = []
places (suc n) = places n ++ n ∷ []

-- the hands that have these cards and n more, which stand at places below a bound, each lower than the one before
abbrev pub hands_with : ℕ → ℕ → List ℕ → List (List ℕ)
hands_with zero bound cards = cards ∷ []
hands_with (suc n) bound cards = flat_map (λ place. hands_with n place (card_at place ∷ cards)) (places bound)

-- all hands of n cards of a pack
abbrev pub all_hands : ℕ → List (List ℕ)
all_hands n = hands_with n 52 []

-- the count of a class in a tally, where it stands at the place that says how many classes are lower
abbrev pub tallied : {K : Type 0} → (K → ℕ) → List ℕ → K → ℕ
tallied lower tally k = slice_index tally (lower k)

module _ {K : Type 0} (cmp : K → K → Ordering) where
  -- the count of a class, 0 where it has none
  abbrev pub count_of : BTreeMap K ℕ → K → ℕ
  count_of census k = unwrap_or (get cmp census k) 0

  -- whether a class that was graded is this one
  abbrev pub is_class : K → Result K Refusal → Bool
  is_class k (Ok j) = is_eq (cmp j k)
  is_class k (Err refusal) = false

  module _ (classed : List ℕ → Result K Refusal) where
    -- how many of these hands are of a class
    abbrev pub how_many : K → List (List ℕ) → ℕ
    how_many k hands = count_by (λ hand. is_class k (classed hand)) hands

    -- each class has counted those of these hands that are of it, and no other
    abbrev pub Counts : (K → ℕ) → (K → ℕ) → List (List ℕ) → Type 0
    Counts old new hands = (k : K) → new k ≡ old k + how_many k hands
