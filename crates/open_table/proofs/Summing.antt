-- The sum over views of the seats is the sum over the seats, and no open table's is refused.
use Rattle.std.proofs.Common.{◌≡◌, ℕ, ◌+◌, ◌≤◌, true, ◌&&◌, List, [], ◌∷◌, length, pos, ◌+ℤ◌, Ok, sum_by, sym, refl, ap, ◌∙◌, arith}
use Rattle.std.proofs.lemmas.List.Sums.{sum_by-cons, sum_by-le-sum_by}
use Rattle.std.proofs.lemmas.Bool.{le-leb}
use Rattle.ledger.specs.Sums.{most_amount, most_records, all_within, total_of, summed}
use Rattle.books.specs.declared.seat.Seat.{Seat}
use Rattle.books.specs.declared.table_books.Books.{Books}
use Rattle.books.specs.Books.{chips}
use Rattle.game.specs.Rules.{Rules}
use Rattle.table.specs.Soundness.{Sound}
use Rattle.open_table.specs.declared.part.Part.{Part}
use Rattle.open_table.specs.declared.part.Part.TheVariants.{Rack, Spaces, Chips}
use Rattle.open_table.specs.Sums.{in_part}

-- counts whose sum is within the limit of one amount
within_counts : {X : Type 0} (f : X → ℕ) (xs : List X) → sum_by f xs ≤ most_amount → all_within (λ x. pos (f x)) xs ≡ true
within_counts f [] h = refl
within_counts f (x ∷ xs) h =
    let here : f x ≤ most_amount = omega (arith, h, sum_by-cons f x xs) in
    let rest : sum_by f xs ≤ most_amount = omega (arith, h, sum_by-cons f x xs) in
    ap (λ t. t && all_within (λ y. pos (f y)) xs) (le-leb (f x) most_amount here) ∙ within_counts f xs rest

total_counts : {X : Type 0} (f : X → ℕ) (xs : List X) → total_of (λ x. pos (f x)) xs ≡ pos (sum_by f xs)
total_counts f [] = refl
total_counts f (x ∷ xs) = ap (λ z. pos (f x) +ℤ z) (total_counts f xs) ∙ sym (ap pos (sum_by-cons f x xs))

pub counts_summed : {X : Type 0} (f : X → ℕ) (xs : List X) → length xs ≤ most_records → sum_by f xs ≤ most_amount → summed (λ x. pos (f x)) xs ≡ Ok (pos (sum_by f xs))
counts_summed f xs few h = rw (le-leb (length xs) most_records few, within_counts f xs h) (ap Ok (total_counts f xs))

-- a part of a seat's chips is no more than its chips
part_within : (part : Part) (s : Seat) → in_part part s ≤ chips s
part_within Rack s = omega arith
part_within Spaces s = omega arith
part_within Chips s = omega arith

-- racks and spaces are all chips of the seats
pub parts_add_up : (xs : List Seat) → sum_by (in_part Rack) xs + sum_by (in_part Spaces) xs ≡ sum_by chips xs
parts_add_up [] = refl
parts_add_up (x ∷ xs) = omega (arith, parts_add_up xs, sum_by-cons (in_part Rack) x xs, sum_by-cons (in_part Spaces) x xs, sum_by-cons chips x xs)

module _ (part : Part) (seats : List Seat) (long : length seats ≡ 7) (few : sum_by chips seats ≤ most_amount) where
  pub seats_exact : summed (λ s. pos (in_part part s)) seats ≡ Ok (pos (sum_by (in_part part) seats))
  seats_exact = counts_summed (in_part part) seats (omega (arith, long)) (omega (arith, few, sum_by-le-sum_by (in_part part) chips seats (part_within part)))

-- what a sound table's seats hold
pub seats_few : (R : Rules) (b : Books) → Sound R b → sum_by chips b.seats ≤ most_amount
seats_few R b s = omega (arith, s.within)
