-- What was written reads back as the same call.
use Rattle.std.proofs.Common.{◌≡◌, ℕ, zero, suc, ◌+◌, ◌-◌, ◌≤◌, true, false, ◌&&◌, eqb, ltb, List, [], ◌∷◌, ◌++◌, length, get_or, take, drop, replicate, Some, None, Ok, Err, Option, Result, sym, refl, ap, ◌∙◌, subst, arith, length-append, append-nil, drop_of_length-le, ltb-false}
use lib.ListN.{length-replicate}
use Rattle.std.proofs.lemmas.List.{take_at, take_rest, drop_at, drop-append-le, get_or_append_left, length-take-le}
use Rattle.std.proofs.lemmas.Bool.{le-ltb}
use Rattle.refusals.specs.declared.Cause.{Cause}
use Rattle.refusals.specs.declared.Refusal.{Refusal}
use Rattle.refusals.specs.Refusals.{first_cause}
use Rattle.refusals.proofs.Causes.{none_holds}
use Rattle.commands.specs.declared.Conditions.{Conditions}
use Rattle.commands.specs.Calls.{Call, Open, Buy, Cash, Fill, Draw, Bet, Deal, Raise, Leave, Settle, Void}
use Rattle.sheet.specs.Format.{bytes_of, width, width_of, ConditionsFit, FitsFormat}
use Rattle.sheet.specs.Reading.{row, all_zero, bad_deal, call_in, longest, means, read_at, some_call, unless}
use Rattle.sheet.specs.Writing.{too_many, write_faults, write_at, with_bytes, buffer_after, ReadsBack, ReadsAlone}
use Rattle.sheet.proofs.Items.{width_some}
use Rattle.sheet.proofs.Places.{read_of}
use Rattle.sheet.proofs.Numbers.{number_in_bytes}

-- a list of five, by its places
five : (xs : List ℕ) → length xs ≡ 5 → get_or xs 0 0 ∷ get_or xs 1 0 ∷ get_or xs 2 0 ∷ get_or xs 3 0 ∷ get_or xs 4 0 ∷ [] ≡ xs
five [] h = absurd (omega arith)
five (a ∷ []) h = absurd (omega arith)
five (a ∷ b ∷ []) h = absurd (omega arith)
five (a ∷ b ∷ c ∷ []) h = absurd (omega arith)
five (a ∷ b ∷ c ∷ d ∷ []) h = absurd (omega arith)
five (a ∷ b ∷ c ∷ d ∷ e ∷ []) h = refl
five (a ∷ b ∷ c ∷ d ∷ e ∷ f ∷ gs) h = absurd (omega arith)

zeros : (n : ℕ) → all_zero (replicate n 0) ≡ true
zeros zero = refl
zeros (suc n) = zeros n

-- the call that the bytes of a call mean, whatever stands behind them
abbrev MeansItself : Call → Type 0
MeansItself c = (rest : List ℕ) → means (get_or (bytes_of c) 0 0) (drop 1 (bytes_of c) ++ rest) ≡ Ok c

-- the bytes of a call, with others behind, have no fault and mean it
itself : (c : Call) (rest : List ℕ) → let first = get_or (bytes_of c) 0 0 in let s = drop 1 (bytes_of c) ++ rest in
    width first ≤ length s + 1 → eqb (width first) 0 ≡ false → (eqb first 0x44 && bad_deal s) ≡ false → call_in first s ≡ c → means first s ≡ Ok c
itself c rest long known fair e =
    let first = get_or (bytes_of c) 0 0 in
    let s = drop 1 (bytes_of c) ++ rest in
    rw (le-ltb (length s + 1) (width first) long, known, fair) (ap Ok e)

open_back : (c : Conditions) (tray : ℕ) → ConditionsFit c tray → MeansItself (Open c tray)
open_back c tray f rest =
    let odds = (λ i. number_in_bytes 2 (get_or c.odds 0 0) f.odds_0 i ∷ number_in_bytes 2 (get_or c.odds 1 0) f.odds_1 i ∷ number_in_bytes 2 (get_or c.odds 2 0) f.odds_2 i ∷ number_in_bytes 2 (get_or c.odds 3 0) f.odds_3 i ∷ number_in_bytes 2 (get_or c.odds 4 0) f.odds_4 i ∷ []) ∙ five c.odds f.five in
    itself (Open c tray) rest (omega arith) refl refl
    (λ i. Open record {
      game = c.game;
      minimum = number_in_bytes 4 c.minimum f.minimum i;
      maximum = number_in_bytes 4 c.maximum f.maximum i;
      cap = number_in_bytes 8 c.cap f.cap i;
      odds = odds i;
    } (number_in_bytes 8 tray f.chips i))

deal_back : (cards : List ℕ) → ltb 40 (length cards) ≡ false → MeansItself (Deal cards)
deal_back cards few rest =
    let n = length cards in
    let fill : List ℕ = replicate (40 - n) 0 in
    let h : n ≤ 40 = ltb-false 40 n few in
    let forty : length (cards ++ fill) ≡ 40 = length-append cards fill ∙ omega (arith, length-replicate {A = ℕ} (40 - n) 0) in
    let all : row (n ∷ ((cards ++ fill) ++ rest)) ≡ cards ++ fill = take_at (cards ++ fill) rest 40 forty in
    let blank : all_zero (drop n (row (n ∷ ((cards ++ fill) ++ rest)))) ≡ true = ap (λ r. all_zero (drop n r)) all ∙ ap all_zero (drop_at cards fill n refl) ∙ zeros (40 - n) in
    let fair : bad_deal (n ∷ ((cards ++ fill) ++ rest)) ≡ false = rw (few, blank) in
    let long : 42 ≤ length (n ∷ ((cards ++ fill) ++ rest)) + 1 = omega (arith, length-append (cards ++ fill) rest, forty) in
    itself (Deal cards) rest long refl fair
    (ap Deal (ap (take n) all ∙ take_at cards fill n refl))

pub means_itself : (c : Call) → FitsFormat c → too_many c ≡ false → MeansItself c
means_itself (Open c tray) f few rest = open_back c tray f rest
means_itself (Buy seat n) f few rest = itself (Buy seat n) rest (omega arith) refl refl (ap (Buy seat) (number_in_bytes 8 n f))
means_itself (Cash seat n) f few rest = itself (Cash seat n) rest (omega arith) refl refl (ap (Cash seat) (number_in_bytes 8 n f))
means_itself (Fill n) f few rest = itself (Fill n) rest (omega arith) refl refl (ap Fill (number_in_bytes 8 n f))
means_itself (Draw n) f few rest = itself (Draw n) rest (omega arith) refl refl (ap Draw (number_in_bytes 8 n f))
means_itself (Bet seat space n) f few rest = itself (Bet seat space n) rest (omega arith) refl refl (ap (Bet seat space) (number_in_bytes 4 n f))
means_itself (Deal cards) f few rest = deal_back cards few rest
means_itself (Raise seat) f few rest = itself (Raise seat) rest (omega arith) refl refl refl
means_itself (Leave seat) f few rest = itself (Leave seat) rest (omega arith) refl refl refl
means_itself Settle f few rest = itself Settle rest (omega arith) refl refl refl
means_itself Void f few rest = itself Void rest (omega arith) refl refl refl

-- a call has at least one byte
some_bytes : (c : Call) → 1 ≤ length (bytes_of c)
some_bytes c = go (bytes_of c) (width_some c)
  where
    go : (bs : List ℕ) → 1 ≤ width (get_or bs 0 0) → 1 ≤ length bs
    go [] h = absurd (omega (arith, h))
    go (b ∷ bs) h = omega arith

-- a call that was written into a buffer reads back from it
written_reads : (c : Call) → FitsFormat c → (out : List ℕ) (at : ℕ) → first_cause (write_faults out at c) ≡ None
    → length (with_bytes out at (bytes_of c)) ≤ longest → read_at (with_bytes out at (bytes_of c)) at ≡ Ok (Some c)
written_reads c f out at none short =
    let bs = bytes_of c in
    let rest = drop (at + length bs) out in
    let held = none_holds (write_faults out at c) none in
    let few : too_many c ≡ false = held.1.0 in
    let fits : at + width_of c ≤ length out = ltb-false (length out) (at + width_of c) held.0 in
    let s = bs ++ rest in
    let some : 1 ≤ length s = omega (arith, some_bytes c, length-append bs rest) in
    let from : s ≡ drop at (take at out ++ s) = sym (drop_at (take at out) s at (length-take-le at out (omega arith))) in
    let first : get_or s 0 0 ≡ get_or bs 0 0 = get_or_append_left bs rest 0 0 (some_bytes c) in
    let behind : take (length s - 1) (drop 1 s) ≡ drop 1 bs ++ rest = take_rest s 1 ∙ drop-append-le 1 bs rest (some_bytes c) in
    sym (read_of (take at out ++ s) s at from short some) ∙ (λ i. some_call (means (first i) (behind i))) ∙ ap some_call (means_itself c f few rest)

-- an answer of the writer, with the buffer that it leaves
pub reads_back : (c : Call) → FitsFormat c → (out out' : List ℕ) (at : ℕ) (r : Result ℕ Refusal) → r ≡ write_at out at c → out' ≡ buffer_after r out at (bytes_of c) → ReadsBack r out' at c
reads_back c f out out' at (Err e) answer buffer = tt
reads_back c f out out' at (Ok place) answer buffer = λ short.
    ap (λ o. read_at o at) buffer
    ∙ written_reads c f out at (ok_none (first_cause (write_faults out at c)) answer) (subst (λ o. length o ≤ longest) buffer short)
  where
    ok_none : (o : Option Cause) → Ok place ≡ unless o (at + width_of c) → o ≡ None
    ok_none None e = refl
    ok_none (Some x) e = cc

-- a call takes as many bytes as its first byte says
length_bytes : (c : Call) → too_many c ≡ false → length (bytes_of c) ≡ width_of c
length_bytes (Open conditions tray) few = refl
length_bytes (Buy seat n) few = refl
length_bytes (Cash seat n) few = refl
length_bytes (Fill n) few = refl
length_bytes (Draw n) few = refl
length_bytes (Bet seat space n) few = refl
length_bytes (Deal cards) few = omega (arith, ltb-false 40 (length cards) few, length-append cards (replicate (40 - length cards) 0), length-replicate {A = ℕ} (40 - length cards) 0)
length_bytes (Raise seat) few = refl
length_bytes (Leave seat) few = refl
length_bytes Settle few = refl
length_bytes Void few = refl

-- no command has more bytes than a sheet
width_small : (c : Call) → width_of c ≤ longest
width_small (Open conditions tray) = omega arith
width_small (Buy seat n) = omega arith
width_small (Cash seat n) = omega arith
width_small (Fill n) = omega arith
width_small (Draw n) = omega arith
width_small (Bet seat space n) = omega arith
width_small (Deal cards) = omega arith
width_small (Raise seat) = omega arith
width_small (Leave seat) = omega arith
width_small Settle = omega arith
width_small Void = omega arith

-- the bytes of a call, read as a sheet of their own
bytes_read : (c : Call) → FitsFormat c → too_many c ≡ false → read_at (bytes_of c) 0 ≡ Ok (Some c)
bytes_read c f few =
    let bs = bytes_of c in
    let long = length_bytes c few in
    let none : first_cause (write_faults bs 0 c) ≡ None = rw (le-ltb (length bs) (0 + width_of c) (omega (arith, long)), few) refl in
    let whole : with_bytes bs 0 bs ≡ bs = ap (λ t. bs ++ t) (drop_of_length-le bs {i = 0 + length bs} (omega arith)) ∙ append-nil bs in
    subst (λ s. read_at s 0 ≡ Ok (Some c)) whole (written_reads c f bs 0 none (omega (arith, ap length whole, long, width_small c)))

-- the bytes that were put at a place of a buffer, read as a sheet of their own
written_reads_alone : (c : Call) → FitsFormat c → (out : List ℕ) (at : ℕ) → first_cause (write_faults out at c) ≡ None
    → read_at (take (width_of c) (drop at (with_bytes out at (bytes_of c)))) 0 ≡ Ok (Some c)
written_reads_alone c f out at none =
    let bs = bytes_of c in
    let held = none_holds (write_faults out at c) none in
    let few : too_many c ≡ false = held.1.0 in
    let fits : at + width_of c ≤ length out = ltb-false (length out) (at + width_of c) held.0 in
    let rest = drop (at + length bs) out in
    let behind : drop at (with_bytes out at bs) ≡ bs ++ rest = drop_at (take at out) (bs ++ rest) at (length-take-le at out (omega arith)) in
    let alone : take (width_of c) (drop at (with_bytes out at bs)) ≡ bs = ap (take (width_of c)) behind ∙ take_at bs rest (width_of c) (length_bytes c few) in
    ap (λ s. read_at s 0) alone ∙ bytes_read c f few

-- the same of an answer of the writer
pub reads_alone : (c : Call) → FitsFormat c → (out out' : List ℕ) (at : ℕ) (r : Result ℕ Refusal) → r ≡ write_at out at c → out' ≡ buffer_after r out at (bytes_of c) → ReadsAlone r out' at c
reads_alone c f out out' at (Err e) answer buffer = tt
reads_alone c f out out' at (Ok place) answer buffer =
    ap (λ o. read_at (take (width_of c) (drop at o)) 0) buffer ∙ written_reads_alone c f out at (ok_none (first_cause (write_faults out at c)) answer)
  where
    ok_none : (o : Option Cause) → Ok place ≡ unless o (at + width_of c) → o ≡ None
    ok_none None e = refl
    ok_none (Some x) e = cc
