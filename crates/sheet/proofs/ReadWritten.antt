-- What was read is written as the same bytes.
use Rattle.std.proofs.Common.{◌≡◌, ℕ, ◌+◌, ◌-◌, ◌<◌, ◌≤◌, Bool, true, false, cond, not, eqb, ltb, leb, List, [], ◌∷◌, ◌++◌, length, get_or, take, drop, replicate, Some, None, Ok, Err, Option, sym, refl, ap, ◌∙◌, subst, arith, length-drop, ltb-false, eqb-true}
use borrow.Author.Tests.{eqb-false}
use Rattle.std.proofs.lemmas.List.{drop-drop, drop_more, get_or-drop, take-append-drop, length-take-le}
use Rattle.std.proofs.lemmas.Bool.{and_parts, leb-false, not-false, or_parts}
use Rattle.refusals.specs.declared.Cause.{Cause}
use Rattle.refusals.specs.declared.Cause.TheVariants.{SheetTooLong}
use Rattle.refusals.specs.Refusals.{first_cause, refused}
use Rattle.refusals.proofs.Causes.{none_holds}
use Rattle.sheet.specs.Format.{width, width_of, bytes_of, in_bytes}
use Rattle.sheet.specs.Reading.{bytes_at, operand, row, all_zero, faults, call_in, unless, means, some_call, longest, read_at, SameBytes}
use Rattle.sheet.proofs.Numbers.{Bytes, operand_bytes, bytes_then_rest}
use Rattle.sheet.proofs.Widths.{by_first, width_in}

-- a list of zeros is so many zeros
zeros : (xs : List ℕ) → all_zero xs ≡ true → xs ≡ replicate (length xs) 0
zeros [] e = refl
zeros (x ∷ xs) e =
    let p = and_parts (eqb x 0) (all_zero xs) e in
    λ i. eqb-true x 0 p.0 i ∷ zeros xs p.1 i

-- the first byte and those behind it are the bytes of the call that they mean, and the rest
abbrev WrittenBack : ℕ → Type 0
WrittenBack first =
    (s : List ℕ) → Bytes s → first_cause (faults first s) ≡ None → first ∷ s ≡ bytes_of (call_in first s) ++ drop (width first - 1) s

-- so many bytes from the front
front : (w : ℕ) (s : List ℕ) → w ≤ length s → bytes_at w 0 s ++ drop w s ≡ s
front w s h = let e : 0 + w ≡ w = omega arith in ap (λ k. bytes_at w 0 s ++ drop k s) (sym e) ∙ bytes_then_rest w 0 s (omega arith)

-- no fault, so no fewer bytes than the command has
whole : (first : ℕ) (s : List ℕ) → first_cause (faults first s) ≡ None → width first ≤ length s + 1
whole first s none = ltb-false (length s + 1) (width first) (none_holds (faults first s) none).0

opens : WrittenBack 0x54
opens s b none =
    let o = operand_bytes in
    sym (ap (λ t. 0x54 ∷ t) (front 35 s (omega (arith, whole 0x54 s none))))
    ∙ (λ i. 0x54 ∷ get_or s 0 0 ∷ ((sym (o 4 1 s b) i ++ (sym (o 4 5 s b) i ++ (sym (o 8 9 s b) i ++ ((sym (o 2 17 s b) i ++ (sym (o 2 19 s b) i ++ (sym (o 2 21 s b) i ++ (sym (o 2 23 s b) i ++ sym (o 2 25 s b) i)))) ++ sym (o 8 27 s b) i)))) ++ drop 35 s))

-- a byte and an operand of eight
buys : (first : ℕ) (s : List ℕ) → Bytes s → 9 ≤ length s → first ∷ s ≡ first ∷ get_or s 0 0 ∷ (in_bytes 8 (operand s 1 8) ++ drop 9 s)
buys first s b h = sym (ap (λ t. first ∷ t) (front 9 s h)) ∙ (λ i. first ∷ get_or s 0 0 ∷ (sym (operand_bytes 8 1 s b) i ++ drop 9 s))

-- an operand of eight
fills : (first : ℕ) (s : List ℕ) → Bytes s → 8 ≤ length s → first ∷ s ≡ first ∷ (in_bytes 8 (operand s 0 8) ++ drop 8 s)
fills first s b h = sym (ap (λ t. first ∷ t) (front 8 s h)) ∙ (λ i. first ∷ (sym (operand_bytes 8 0 s b) i ++ drop 8 s))

bets : WrittenBack 0x42
bets s b none =
    sym (ap (λ t. 0x42 ∷ t) (front 6 s (omega (arith, whole 0x42 s none))))
    ∙ (λ i. 0x42 ∷ get_or s 0 0 ∷ get_or s 1 0 ∷ (sym (operand_bytes 4 2 s b) i ++ drop 6 s))

deals : WrittenBack 0x44
deals s b none =
    let n = get_or s 0 0 in
    let long : 41 ≤ length s = omega (arith, whole 0x44 s none) in
    let sound = or_parts (ltb 40 n) (not (all_zero (drop n (row s)))) (none_holds (faults 0x44 s) none).1.1.0 in
    let few : n ≤ 40 = ltb-false 40 n sound.0 in
    let forty : length (row s) ≡ 40 = length-take-le 40 (drop 1 s) (simp length-drop (omega arith)) in
    let counted : length (take n (row s)) ≡ n = length-take-le n (row s) (omega arith) in
    let blank : all_zero (drop n (row s)) ≡ true = not-false (all_zero (drop n (row s))) sound.1 in
    let behind : drop n (row s) ≡ replicate (40 - length (take n (row s))) 0 =
    zeros (drop n (row s)) blank ∙ ap (λ k. replicate k 0) (simp length-drop (omega arith)) in
    let cards : row s ≡ take n (row s) ++ replicate (40 - length (take n (row s))) 0 =
    sym (take-append-drop n (row s)) ∙ ap (λ t. take n (row s) ++ t) behind in
    let rest : s ≡ n ∷ (row s ++ drop 41 s) =
    sym (front 1 s (omega arith)) ∙ ap (λ t. n ∷ t) (sym (take-append-drop 40 (drop 1 s)) ∙ ap (λ t. row s ++ t) (drop-drop 40 1 s)) in
    ap (λ t. 0x44 ∷ t) rest ∙ (λ i. 0x44 ∷ sym counted i ∷ (cards i ++ drop 41 s))

seats : (first : ℕ) (s : List ℕ) → 1 ≤ length s → first ∷ s ≡ first ∷ get_or s 0 0 ∷ drop 1 s
seats first s h = sym (ap (λ t. first ∷ t) (front 1 s h))

pub written_back : (first : ℕ) → eqb (width first) 0 ≡ false → WrittenBack first
written_back first known =
    by_first WrittenBack first known opens
    (λ s b none. buys 0x49 s b (omega (arith, whole 0x49 s none)))
    (λ s b none. buys 0x43 s b (omega (arith, whole 0x43 s none)))
    (λ s b none. fills 0x46 s b (omega (arith, whole 0x46 s none)))
    (λ s b none. fills 0x57 s b (omega (arith, whole 0x57 s none)))
    bets deals
    (λ s b none. seats 0x52 s (omega (arith, whole 0x52 s none)))
    (λ s b none. seats 0x4C s (omega (arith, whole 0x4C s none)))
    (λ s b none. refl)
    (λ s b none. refl)

-- a command that was read whole at a place
read_whole : (sheet : List ℕ) (p : ℕ) → Bytes sheet → p < length sheet → first_cause (faults (get_or sheet p 0) (drop (p + 1) sheet)) ≡ None
    → SameBytes sheet p (Ok (Some (call_in (get_or sheet p 0) (drop (p + 1) sheet))))
read_whole sheet p b h none =
    let first = get_or sheet p 0 in
    let s = drop (p + 1) sheet in
    let k = call_in first s in
    let known = (none_holds (faults first s) none).1.0 in
    let wide : width_of k ≡ width first = width_in first s known in
    let far : p + 1 + (width first - 1) ≡ p + width_of k = omega (arith, wide, eqb-false (width first) 0 known) in
    let bytes : Bytes s = λ i. subst (λ x. x < 256) (sym (get_or-drop (p + 1) sheet i 0)) (b (p + 1 + i)) in
    drop_more sheet p 0 h ∙ written_back first known s bytes none
    ∙ ap (λ t. bytes_of k ++ t) (drop-drop (width first - 1) (p + 1) sheet ∙ ap (λ n. drop n sheet) far)

-- what was read at a place is written as the same bytes
pub same_bytes : (sheet : List ℕ) (p : ℕ) → Bytes sheet → SameBytes sheet p (read_at sheet p)
same_bytes sheet p b = by_length (ltb longest (length sheet))
  where
    by_faults : p < length sheet → (o : Option Cause) → first_cause (faults (get_or sheet p 0) (drop (p + 1) sheet)) ≡ o → SameBytes sheet p (some_call (unless o (call_in (get_or sheet p 0) (drop (p + 1) sheet))))
    by_faults h (Some c) e = tt
    by_faults h None e = read_whole sheet p b h e

    by_place : (t : Bool) → leb (length sheet) p ≡ t → SameBytes sheet p (cond t (Ok None) (some_call (means (get_or sheet p 0) (drop (p + 1) sheet))))
    by_place true e = tt
    by_place false e = by_faults (leb-false (length sheet) p e) (first_cause (faults (get_or sheet p 0) (drop (p + 1) sheet))) refl

    by_length : (t : Bool) → SameBytes sheet p (cond t (Err (refused SheetTooLong 0)) (cond (leb (length sheet) p) (Ok None) (some_call (means (get_or sheet p 0) (drop (p + 1) sheet)))))
    by_length true = tt
    by_length false = by_place (leb (length sheet) p) refl
