-- The lines of a sheet from a place on, by what is read there; and those of a sheet that is too long.
use Rattle.std.proofs.Common.{◌≡◌, ℕ, zero, suc, ◌+◌, ◌<◌, ◌≤◌, List, [], ◌∷◌, ◌++◌, length, take, Some, None, Ok, Err, Option, Result, decimal, is_ok, if◌then◌else◌, OnOk, OnErr, sym, refl, ap, ◌∙◌, append_assoc, append-nil, length-append, arith}
use Rattle.std.specs.declared.alloc.AllocError.{AllocError}
use Rattle.std.proofs.lemmas.Bool.{lt-ltb}
use Rattle.std.proofs.lemmas.List.{take_at}
use Rattle.refusals.specs.declared.Cause.TheVariants.{SheetTooLong}
use Rattle.refusals.specs.declared.Refusal.{Refusal}
use Rattle.refusals.specs.Refusals.{refused}
use Rattle.commands.specs.Calls.{Call, name_of}
use Rattle.lines.specs.Lines.{with_feed, too_long_line, lines_of, InPart}
use Rattle.sheet.specs.Format.{width_of}
use Rattle.sheet.specs.Items.{Item, command, fault, item_and, items, items_of}
use Rattle.sheet.specs.Reading.{longest, read_at}
use Rattle.sheet.proofs.Items.{items_step}
use Rattle.listing.specs.Listing.{line_of, Listing}

-- the lines of some items and of others
lines_joined : (xs ys : List Item) → lines_of line_of (xs ++ ys) ≡ lines_of line_of xs ++ lines_of line_of ys
lines_joined [] ys = refl
lines_joined (x ∷ xs) ys = ap (λ l. line_of x ++ l) (lines_joined xs ys) ∙ sym (append_assoc (line_of x) (lines_of line_of xs) (lines_of line_of ys))

-- what is listed so far: the lines of the items before a place
pub record Listed (sheet : List ℕ) (p : ℕ) (before page : List ℕ) : Type 0 where
  pub done : List Item
  pub parted : items_of sheet 0 ≡ done ++ items_of sheet p
  pub printed : page ≡ before ++ lines_of line_of done

pub none_listed : (sheet page : List ℕ) → Listed sheet 0 page page
none_listed sheet page = record { done = []; parted = refl; printed = sym (append-nil page) }

module _ (sheet s : List ℕ) (short : length sheet ≤ longest) (same : s ≡ sheet) (p : ℕ) (page before : List ℕ) (so_far : Listed sheet p before page) where
  items_here : (r : Result (Option Call) Refusal) → r ≡ read_at s p → items_of sheet p ≡ item_and (items_of sheet) p r
  items_here r e = items_step sheet short p ∙ ap (item_and (items_of sheet) p) (sym (e ∙ ap (λ t. read_at t p) same))

  -- nothing is left to print
  pub no_more : Ok None ≡ read_at s p → page ≡ before ++ lines_of line_of (items_of sheet 0)
  no_more e =
      so_far.printed ∙ ap (λ is. before ++ lines_of line_of is) (sym (append-nil so_far.done) ∙ ap (λ is. so_far.done ++ is) (sym (items_here (Ok None) e)) ∙ sym so_far.parted)

  -- one line more is printed
  one_more : (i : Item) (rest : List Item) → items_of sheet p ≡ i ∷ rest → page ++ line_of i ≡ before ++ lines_of line_of (so_far.done ++ i ∷ [])
  one_more i rest e =
      ap (λ t. t ++ line_of i) so_far.printed ∙ append_assoc before (lines_of line_of so_far.done) (line_of i)
      ∙ ap (λ t. before ++ t) (ap (λ t. lines_of line_of so_far.done ++ t) (sym (append-nil (line_of i))) ∙ sym (lines_joined so_far.done (i ∷ [])))

  -- the note is the last line
  pub note_printed : (x : Refusal) → Err x ≡ read_at s p → page ++ line_of (fault p x) ≡ before ++ lines_of line_of (items_of sheet 0)
  note_printed x e =
      one_more (fault p x) [] (items_here (Err x) e) ∙ ap (λ is. before ++ lines_of line_of is) (ap (λ is. so_far.done ++ is) (sym (items_here (Err x) e)) ∙ sym so_far.parted)

  -- what is listed once a command was
  pub command_printed : (c : Call) (name : List ℕ) → name ≡ name_of c → Ok (Some c) ≡ read_at s p → (place : ℕ) → place ≡ p + width_of c → (page' : List ℕ) → page' ≡ page ++ with_feed (decimal p ++ 32 ∷ name)
      → Listed sheet place before page'
  command_printed c name named e place behind page' printed =
      let is = items_here (Ok (Some c)) e in
      record {
        done = so_far.done ++ command p c ∷ [];
        parted = so_far.parted ∙ ap (λ xs. so_far.done ++ xs) (is ∙ ap (λ q. command p c ∷ items_of sheet q) (sym behind)) ∙ sym (append_assoc so_far.done (command p c ∷ []) (items_of sheet place));
        printed = printed ∙ ap (λ n. page ++ with_feed (decimal p ++ 32 ∷ n)) named ∙ one_more (command p c) (items_of sheet (p + width_of c)) is;
      }

  -- where the next line is not printed
  wanting : (i : Item) (rest : List Item) → items_of sheet p ≡ i ∷ rest → (page' : List ℕ) → page' ≡ page → InPart line_of (items_of sheet 0) before page'
  wanting i rest e page' kept =
      let all : items_of sheet 0 ≡ so_far.done ++ i ∷ rest = so_far.parted ∙ ap (λ xs. so_far.done ++ xs) e in
      record {
        printed = length so_far.done;
        fewer = omega (arith, ap length all, length-append so_far.done (i ∷ rest));
        page_then = kept ∙ so_far.printed ∙ ap (λ is. before ++ lines_of line_of is) (sym (ap (take (length so_far.done)) all ∙ take_at so_far.done (i ∷ rest) (length so_far.done) (λ k. length so_far.done)));
      }

  pub command_wanting : (c : Call) → Ok (Some c) ≡ read_at s p → (page' : List ℕ) → page' ≡ page → InPart line_of (items_of sheet 0) before page'
  command_wanting c e = wanting (command p c) (items_of sheet (p + width_of c)) (items_here (Ok (Some c)) e)

  pub note_wanting : (x : Refusal) → Err x ≡ read_at s p → (page' : List ℕ) → page' ≡ page → InPart line_of (items_of sheet 0) before page'
  note_wanting x e = wanting (fault p x) [] (items_here (Err x) e)

-- what holds of a page where a line was printed to it, and where it was not
pub on_ok : {Q : Type 0} (r : Result Unit AllocError) (page page' line : List ℕ) → page' ≡ (if is_ok r then page ++ line else page) → (page' ≡ page ++ line → Q) → OnOk r Q
on_ok (Ok u) page page' line printed f = f printed
on_ok (Err e) page page' line printed f = tt

pub on_err : {Q : Type 0} (r : Result Unit AllocError) (page page' line : List ℕ) → page' ≡ (if is_ok r then page ++ line else page) → (page' ≡ page → Q) → OnErr r Q
on_err (Ok u) page page' line printed f = tt
on_err (Err e) page page' line printed f = f printed

pub on_any_err : {T E P : Type 0} (r : Result T E) → P → OnErr r P
on_any_err (Ok x) p = tt
on_any_err (Err e) p = p

-- a sheet that is too long cannot be read
not_read : (sheet : List ℕ) → longest < length sheet → read_at sheet 0 ≡ Err (refused SheetTooLong 0)
not_read sheet long = rw (lt-ltb longest (length sheet) long) refl

-- the items of a sheet that is too long
long_items : (n : ℕ) (sheet : List ℕ) → longest < length sheet → items (suc n) sheet 0 ≡ fault 0 (refused SheetTooLong 0) ∷ []
long_items n sheet long = ap (item_and (items n sheet) 0) (not_read sheet long)

some_items : (n : ℕ) (sheet : List ℕ) → longest < n → longest < length sheet → items n sheet 0 ≡ fault 0 (refused SheetTooLong 0) ∷ []
some_items zero sheet many long = absurd (omega (arith, many))
some_items (suc n) sheet many long = long_items n sheet long

-- what is listed of it
long_listing : (sheet : List ℕ) → longest < length sheet → Listing sheet too_long_line
long_listing sheet long = sym (ap (lines_of line_of) (some_items (length sheet) sheet long long) ∙ append-nil too_long_line)

pub line_listed : (sheet line : List ℕ) → longest < length sheet → line ≡ too_long_line → Listing sheet line
line_listed sheet line long is = is ∙ long_listing sheet long

pub both_long : (sheet sheet' : List ℕ) → longest < length sheet → longest < length sheet' → (output : List ℕ) → Listing sheet output → Listing sheet' output
both_long sheet sheet' a b output h = h ∙ sym (long_listing sheet a) ∙ long_listing sheet' b
