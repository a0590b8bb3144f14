-- Tallies of no hands.
use Rattle.std.proofs.Common.{◌≡◌, ℕ, ◌≤◌, slice_index, sym, subst, ⊎_elim}
use Rattle.std.proofs.Math.ListN.{replicate, get_or-eq_default}
use Rattle.std.proofs.lemmas.Bool.{cases_lt}
use Rattle.std.proofs.lemmas.List.{get_or-replicate, length-replicate}

-- zeros have 0 at every place, and behind their end
pub no_hands : (n i : ℕ) → slice_index (replicate n 0) i ≡ 0
no_hands n i =
    ⊎_elim (λ within. get_or-replicate n i 0 0 within) (λ behind. get_or-eq_default (replicate n 0) 0 (subst (λ m. m ≤ i) (sym (length-replicate n 0)) behind)) (cases_lt i n)
