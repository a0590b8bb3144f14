-- Numbers in bytes, at every width: written and read back, and read and written back.
use Rattle.std.proofs.Common.{◌≡◌, ℕ, zero, suc, ◌+◌, ◌*◌, ◌/◌, ◌%◌, ◌^◌, ◌<◌, ◌≤◌, List, [], ◌∷◌, ◌++◌, length, get_or, drop, sym, refl, ap, ◌∙◌, mod-eq_of_lt, mul_assoc, add-mul, arith}
use native.Mathlib.Nat.{pow-succ', mul-add-div_right, div-eq_of_lt, one-le-pow}
use lib.Arith.{mod-mul}
use Rattle.std.specs.Int.Digits.{number_from_digits, number_from_digits_after, AllBelowBase}
use Rattle.std.proofs.lemmas.Int.Digits.{number_lt}
use Rattle.std.proofs.lemmas.List.{drop_more, get_or-drop}
use Rattle.sheet.specs.Format.{in_bytes}
use Rattle.sheet.specs.Reading.{bytes_at, operand}

after_in_bytes : (w a n : ℕ) → number_from_digits_after 256 a (in_bytes w n) ≡ a * 256 ^ w + n % 256 ^ w
after_in_bytes zero a n = omega arith
after_in_bytes (suc zero) a n = omega arith
after_in_bytes (suc (suc w)) a n =
    let p = 256 ^ suc w in
    let q = n / p % 256 in
    let more : 256 ^ suc (suc w) ≡ 256 * p = pow-succ' 256 (suc w) in
    let low : n % (256 * p) ≡ q * p + n % p = mod-mul n (omega arith) (one-le-pow (suc w) 256 (omega arith)) in
    let high : (a * 256 + q) * p ≡ a * 256 * p + q * p = add-mul (a * 256) q p in
    let sum : (a * 256 + q) * p + n % p ≡ a * (256 * p) + n % (256 * p) = omega (arith, mul_assoc a 256 p) in
    after_in_bytes (suc w) (a * 256 + q) n ∙ sum ∙ ap (λ m. a * m + n % m) (sym more)

-- a number that fits its bytes is read back from them
pub number_in_bytes : (w n : ℕ) → n < 256 ^ w → number_from_digits 256 (in_bytes w n) ≡ n
number_in_bytes w n h = after_in_bytes w 0 n ∙ omega (arith, mod-eq_of_lt h)

after_number : (ds : List ℕ) (a : ℕ) → number_from_digits_after 256 a ds ≡ a * 256 ^ length ds + number_from_digits 256 ds
after_number [] a = omega arith
after_number (d ∷ ds) a =
    let p = 256 ^ length ds in
    let more : 256 ^ suc (length ds) ≡ 256 * p = pow-succ' 256 (length ds) in
    let here : number_from_digits_after 256 (a * 256 + d) ds ≡ (a * 256 + d) * p + number_from_digits 256 ds = after_number ds (a * 256 + d) in
    let first : number_from_digits 256 (d ∷ ds) ≡ (0 * 256 + d) * p + number_from_digits 256 ds = after_number ds (0 * 256 + d) in
    let one : (0 * 256 + d) * p ≡ d * p = ap (λ x. x * p) (omega arith) in
    let sum : (a * 256 + d) * p + number_from_digits 256 ds ≡ a * (256 * p) + number_from_digits 256 (d ∷ ds) = omega (arith, add-mul (a * 256) d p, mul_assoc a 256 p) in
    here ∙ sum ∙ ap (λ m. a * m + number_from_digits 256 (d ∷ ds)) (sym more)

in_bytes_after : (ds : List ℕ) (a : ℕ) → AllBelowBase 256 ds → in_bytes (length ds) (number_from_digits_after 256 a ds) ≡ ds
in_bytes_after [] a u = refl
in_bytes_after (d ∷ []) a u = ap (λ x. x ∷ []) (omega (arith, u.0))
in_bytes_after (d ∷ e ∷ ds) a u =
    let p = 256 ^ length (e ∷ ds) in
    let r = number_from_digits 256 (e ∷ ds) in
    let x = a * 256 + d in
    let whole : number_from_digits_after 256 x (e ∷ ds) ≡ x * p + r = after_number (e ∷ ds) x in
    let small : r < p = number_lt 256 (e ∷ ds) u.1 in
    let over : (x * p + r) / p ≡ x + r / p = mul-add-div_right (omega arith) x r in
    let none : r / p ≡ 0 = div-eq_of_lt small in
    let head : number_from_digits_after 256 x (e ∷ ds) / p % 256 ≡ d = ap (λ y. y / p % 256) whole ∙ ap (λ y. y % 256) over ∙ omega (arith, u.0) in
    λ i. head i ∷ in_bytes_after (e ∷ ds) x u.1 i

-- each byte of a list is below 256
abbrev pub Bytes : List ℕ → Type 0
Bytes s = (i : ℕ) → get_or s i 0 < 256

length_bytes_at : (w i : ℕ) (s : List ℕ) → length (bytes_at w i s) ≡ w
length_bytes_at zero i s = refl
length_bytes_at (suc w) i s = ap suc (length_bytes_at w (suc i) s)

under_bytes_at : (w i : ℕ) (s : List ℕ) → Bytes s → AllBelowBase 256 (bytes_at w i s)
under_bytes_at zero i s b = tt
under_bytes_at (suc w) i s b = (b i, under_bytes_at w (suc i) s b)

-- an operand is written as the bytes that it was read from
pub operand_bytes : (w i : ℕ) (s : List ℕ) → Bytes s → in_bytes w (operand s i w) ≡ bytes_at w i s
operand_bytes w i s b =
    ap (λ k. in_bytes k (operand s i w)) (sym (length_bytes_at w i s)) ∙ in_bytes_after (bytes_at w i s) 0 (under_bytes_at w i s b)

bytes_behind : (w k i : ℕ) (s : List ℕ) → bytes_at w i (drop k s) ≡ bytes_at w (k + i) s
bytes_behind zero k i s = refl
bytes_behind (suc w) k i s =
    let next : k + suc i ≡ suc (k + i) = omega arith in
    λ j. get_or-drop k s i 0 j ∷ (bytes_behind w k (suc i) s ∙ ap (λ n. bytes_at w n s) next) j

-- an operand behind so many bytes
pub operand_behind : (w k i : ℕ) (s rest : List ℕ) → rest ≡ drop k s → operand rest i w ≡ operand s (k + i) w
operand_behind w k i s rest e = ap (λ t. operand t i w) e ∙ ap (number_from_digits 256) (bytes_behind w k i s)

-- bytes from a place on are the first so many, and the rest
pub bytes_then_rest : (w i : ℕ) (s : List ℕ) → i + w ≤ length s → bytes_at w i s ++ drop (i + w) s ≡ drop i s
bytes_then_rest zero i s h = let e : i + 0 ≡ i = omega arith in ap (λ k. drop k s) e
bytes_then_rest (suc w) i s h =
    let on : i + suc w ≡ suc i + w = omega arith in
    let next : suc i ≡ i + 1 = omega arith in
    ap (λ k. get_or s i 0 ∷ (bytes_at w (suc i) s ++ drop k s)) on
    ∙ ap (λ t. get_or s i 0 ∷ t) (bytes_then_rest w (suc i) s (omega arith) ∙ ap (λ k. drop k s) next)
    ∙ sym (drop_more s i 0 (omega arith))
