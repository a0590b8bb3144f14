-- The items of a sheet from a place on are what is read there and then the items behind it.
use Rattle.std.proofs.Common.{◌≡◌, ℕ, zero, suc, ◌+◌, ◌<◌, ◌≤◌, List, ◌∷◌, length, get_or, drop, Some, None, Ok, Err, Option, Result, sym, refl, ap, ◌∙◌, ⊎_elim, arith}
use Rattle.std.proofs.lemmas.Bool.{cases_lt, le-leb, lt-leb, le-ltb, lt-ltb}
use Rattle.refusals.specs.declared.Cause.TheVariants.{SheetTooLong}
use Rattle.refusals.specs.declared.Refusal.{Refusal}
use Rattle.refusals.specs.Refusals.{refused}
use Rattle.commands.specs.Calls.{Call, Open, Buy, Cash, Fill, Draw, Bet, Deal, Raise, Leave, Settle, Void}
use Rattle.sheet.specs.Format.{width_of}
use Rattle.sheet.specs.Items.{command, item_and, items, items_of}
use Rattle.sheet.specs.Reading.{means, some_call, longest, read_at}

-- every command has a byte
pub width_some : (c : Call) → 1 ≤ width_of c
width_some (Open conditions tray) = omega arith
width_some (Buy s n) = omega arith
width_some (Cash s n) = omega arith
width_some (Fill n) = omega arith
width_some (Draw n) = omega arith
width_some (Bet s j n) = omega arith
width_some (Deal cards) = omega arith
width_some (Raise s) = omega arith
width_some (Leave s) = omega arith
width_some Settle = omega arith
width_some Void = omega arith

some_none : (c : Call) → ◌≡◌ {A = Result (Option Call) Refusal} (Ok (Some c)) (Ok None) → ⊥
some_none c e = cc

never : (r : Result Call Refusal) → some_call r ≡ Ok None → ⊥
never (Ok c) e = some_none c e
never (Err x) e = cc

-- a command is read only from a sheet that is not too long
pub read_short : (sheet : List ℕ) (p : ℕ) (c : Call) → read_at sheet p ≡ Ok (Some c) → length sheet ≤ longest
read_short sheet p c e =
    ⊎_elim
    (λ (long : longest < length sheet). let too : read_at sheet p ≡ Err (refused SheetTooLong 0) = rw (lt-ltb longest (length sheet) long) refl in absurd (ok_err c _ (sym e ∙ too)))
    (λ (h : length sheet ≤ longest). h)
    (cases_lt longest (length sheet))
  where
    ok_err : (c : Call) (x : Refusal) → ◌≡◌ {A = Result (Option Call) Refusal} (Ok (Some c)) (Err x) → ⊥
    ok_err c x h = cc

module _ (sheet : List ℕ) (short : length sheet ≤ longest) where
  -- at the end, or past it, there is no item
  pub read_past : (p : ℕ) → length sheet ≤ p → read_at sheet p ≡ Ok None
  read_past p past = rw (le-ltb longest (length sheet) short, le-leb (length sheet) p past) refl

  -- where bytes remain, something is read
  pub read_here : (p : ℕ) → p < length sheet → read_at sheet p ≡ Ok None → ⊥
  read_here p lt e = never (means (get_or sheet p 0) (drop (p + 1) sheet)) (sym (rw (le-ltb longest (length sheet) short, lt-leb (length sheet) p lt) refl) ∙ e)

  -- a command is read only where bytes remain
  pub read_within : (p : ℕ) (c : Call) → read_at sheet p ≡ Ok (Some c) → p < length sheet
  read_within p c e = ⊎_elim (λ (h : p < length sheet). h) (λ (h : length sheet ≤ p). absurd (some_none c (sym e ∙ read_past p h))) (cases_lt p (length sheet))

  -- one more than there are bytes changes nothing
  one_more : (n p : ℕ) → length sheet ≤ n + p → items n sheet p ≡ items (suc n) sheet p
  one_more zero p few = sym (ap (item_and (items zero sheet) p) (read_past p (omega (arith, few))))
  one_more (suc n) p few = go (λ c. one_more n (p + width_of c) (omega (arith, few, width_some c))) (read_at sheet p)
    where
      go : ((c : Call) → items n sheet (p + width_of c) ≡ items (suc n) sheet (p + width_of c)) → (r : Result (Option Call) Refusal) → item_and (items n sheet) p r ≡ item_and (items (suc n) sheet) p r
      go more (Ok None) = refl
      go more (Ok (Some c)) = ap (λ is. command p c ∷ is) (more c)
      go more (Err e) = refl

  pub items_step : (p : ℕ) → items_of sheet p ≡ item_and (items_of sheet) p (read_at sheet p)
  items_step p = one_more (length sheet) p (omega arith)
