-- The words of a text with one byte more.
use Rattle.std.proofs.Common.{◌≡◌, ℕ, ◌<◌, Bool, true, false, cond, List, [], ◌∷◌, ◌++◌, length, map, refl, ap, ◌∙◌, arith}
use Rattle.std.specs.List.{slice_split, onto_first, filter}
use Rattle.std.proofs.lemmas.List.{map-append}
use Rattle.std.proofs.lemmas.List.Elements.{filter-append}
use Rattle.std.proofs.lemmas.List.Splits.{slice_split-cons_yes, slice_split-cons_no, length-slice_split}
use Rattle.grade.specs.Lines.{is_word, card_read}

-- the last part, with a byte more
abbrev pub onto_last : ℕ → List (List ℕ) → List (List ℕ)
onto_last b [] = []
onto_last b (part ∷ []) = (part ++ b ∷ []) ∷ []
onto_last b (part ∷ next ∷ more) = part ∷ onto_last b (next ∷ more)

pub onto_last_at : (ended : List (List ℕ)) (part : List ℕ) (b : ℕ) → onto_last b (ended ++ part ∷ []) ≡ ended ++ (part ++ b ∷ []) ∷ []
onto_last_at [] part b = refl
onto_last_at (e ∷ []) part b = refl
onto_last_at (e ∷ f ∷ ended) part b = ap (λ parts. e ∷ parts) (onto_last_at (f ∷ ended) part b)

step_ended : (t : Bool) (x : ℕ) (parts : List (List ℕ)) → 0 < length parts → cond t ([] ∷ (parts ++ [] ∷ [])) (onto_first x (parts ++ [] ∷ [])) ≡ cond t ([] ∷ parts) (onto_first x parts) ++ [] ∷ []
step_ended t x [] h = absurd (omega (arith, h))
step_ended true x (part ∷ parts) h = refl
step_ended false x (part ∷ parts) h = refl

step_grown : (t : Bool) (x b : ℕ) (parts : List (List ℕ)) → 0 < length parts → cond t ([] ∷ onto_last b parts) (onto_first x (onto_last b parts)) ≡ onto_last b (cond t ([] ∷ parts) (onto_first x parts))
step_grown t x b [] h = absurd (omega (arith, h))
step_grown true x b (part ∷ parts) h = refl
step_grown false x b (part ∷ []) h = refl
step_grown false x b (part ∷ next ∷ more) h = refl

module _ (p : ℕ → Bool) where
  pub some_part : (xs : List ℕ) → 0 < length (slice_split p xs)
  some_part xs = omega (arith, length-slice_split p xs)

  -- a byte that ends a part begins an empty one
  pub split_ended : (xs : List ℕ) (b : ℕ) → p b ≡ true → slice_split p (xs ++ b ∷ []) ≡ slice_split p xs ++ [] ∷ []
  split_ended [] b e = slice_split-cons_yes p b [] e
  split_ended (x ∷ xs) b e =
      ap (λ parts. cond (p x) ([] ∷ parts) (onto_first x parts)) (split_ended xs b e)
      ∙ step_ended (p x) x (slice_split p xs) (some_part xs)

  -- any other byte goes onto the last part
  pub split_grown : (xs : List ℕ) (b : ℕ) → p b ≡ false → slice_split p (xs ++ b ∷ []) ≡ onto_last b (slice_split p xs)
  split_grown [] b e = slice_split-cons_no p b [] e
  split_grown (x ∷ xs) b e =
      ap (λ parts. cond (p x) ([] ∷ parts) (onto_first x parts)) (split_grown xs b e)
      ∙ step_grown (p x) x b (slice_split p xs) (some_part xs)

one_part : (t : Bool) (part : List ℕ) → map card_read (cond t (part ∷ []) []) ≡ cond t (card_read part ∷ []) []
one_part true part = refl
one_part false part = refl

-- the cards of some parts and a last one
pub cards_of_parts : (ended : List (List ℕ)) (part : List ℕ) → map card_read (filter is_word (ended ++ part ∷ [])) ≡ map card_read (filter is_word ended) ++ cond (is_word part) (card_read part ∷ []) []
cards_of_parts ended part =
    ap (map card_read) (filter-append is_word ended (part ∷ []))
    ∙ map-append card_read (filter is_word ended) (filter is_word (part ∷ []))
    ∙ ap (λ cards. map card_read (filter is_word ended) ++ cards) (one_part (is_word part) part)
