-- Parts put one behind another are put as one.
use Rattle.std.proofs.Common.{◌≡◌, ℕ, ◌+◌, ◌<◌, ◌≤◌, true, leb, List, [], ◌∷◌, ◌++◌, length, sum_by, get_or, take, drop, Bor, sym, ap, ◌∙◌, arith, append_assoc, append-nil, length-append}
use Rattle.std.proofs.lemmas.Bool.{leb-true}
use Rattle.std.proofs.lemmas.Grind.{flat_map-append}
use Rattle.std.proofs.lemmas.List.Concat.{length-flat_map}
use Rattle.std.proofs.lemmas.List.Folds.{length-flat_map-take}
use Rattle.std.proofs.lemmas.List.{take_at, drop_at, drop-drop, take_more, length-take-le}
use Rattle.sheet.specs.Writing.{joined, with_bytes}

-- by one part more
pub joined_more : (parts : List (Bor (List ℕ))) (i : ℕ) (d : Bor (List ℕ)) → i < length parts → joined (take (i + 1) parts) ≡ joined (take i parts) ++ (get_or parts i d).now
joined_more parts i d h =
    let part = get_or parts i d in
    ap joined (take_more parts i d h) ∙ flat_map-append (λ p. p.now) (take i parts) (part ∷ []) ∙ ap (λ t. joined (take i parts) ++ t) (append-nil part.now)

-- bytes put behind bytes that were put
pub with_more : (out : List ℕ) (at : ℕ) (bs more : List ℕ) → at + length bs ≤ length out
    → take (at + length bs) (with_bytes out at bs) ++ (more ++ drop (length more) (drop (at + length bs) (with_bytes out at bs))) ≡ with_bytes out at (bs ++ more)
with_more out at bs more h =
    let n = at + length bs in
    let rest = drop n out in
    let front : length (take at out ++ bs) ≡ n = length-append (take at out) bs ∙ omega (arith, length-take-le at out (omega arith)) in
    let whole : with_bytes out at bs ≡ (take at out ++ bs) ++ rest = sym (append_assoc (take at out) bs rest) in
    let before : take n (with_bytes out at bs) ≡ take at out ++ bs = ap (take n) whole ∙ take_at (take at out ++ bs) rest n front in
    let behind : drop n (with_bytes out at bs) ≡ rest = ap (drop n) whole ∙ drop_at (take at out ++ bs) rest n front in
    let width : n + length more ≡ at + length (bs ++ more) = omega (arith, length-append bs more) in
    (λ i. before i ++ (more ++ drop (length more) (behind i)))
    ∙ append_assoc (take at out) bs (more ++ drop (length more) rest)
    ∙ ap (λ t. take at out ++ t) (sym (append_assoc bs more (drop (length more) rest)) ∙ ap (λ t. (bs ++ more) ++ t) (drop-drop (length more) n out ∙ ap (λ k. drop k out) width))

-- as many bytes as the parts have in all
pub joined_width : (parts : List (Bor (List ℕ))) → length (joined parts) ≡ sum_by (λ part. length part.now) parts
joined_width parts = length-flat_map (λ part. part.now) parts

-- where all parts have room, each has room behind those before it
pub part_fits : (parts : List (Bor (List ℕ))) (i : ℕ) (d : Bor (List ℕ)) → i < length parts → (out : List ℕ) (at w : ℕ) → w ≡ sum_by (λ part. length part.now) parts → true ≡ leb (at + w) (length out)
    → at + length (joined (take i parts)) + length (get_or parts i d).now ≤ length out
part_fits parts i d h out at w e room =
    let all = joined_width parts in
    let within = length-flat_map-take (λ part. part.now) parts i d h in
    let fits : at + w ≤ length out = leb-true (at + w) (length out) (sym room) in
    omega arith
