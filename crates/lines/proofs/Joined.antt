-- The lines of some records and then of others; what was printed, by what is left to print.
use Rattle.std.proofs.Common.{◌≡◌, ℕ, ◌<◌, List, [], ◌∷◌, ◌++◌, length, take, drop, refl, sym, ap, ◌∙◌, append_assoc, Result, Ok, Err, OnErr}
use Rattle.std.proofs.lemmas.List.{take-append-drop, append_cancel_right}
use Rattle.lines.specs.Lines.{lines_of, InPart}

module _ {R : Type 0} (line_of : R → List ℕ) where
  lines_joined : (xs ys : List R) → lines_of line_of (xs ++ ys) ≡ lines_of line_of xs ++ lines_of line_of ys
  lines_joined [] ys = refl
  lines_joined (x ∷ xs) ys = ap (λ l. line_of x ++ l) (lines_joined xs ys) ∙ sym (append_assoc (line_of x) (lines_of line_of xs) (lines_of line_of ys))

  -- the lines up to a place and those from there on are all
  lines_parted : (rs : List R) (i : ℕ) → lines_of line_of rs ≡ lines_of line_of (take i rs) ++ lines_of line_of (drop i rs)
  lines_parted rs i = ap (lines_of line_of) (sym (take-append-drop i rs)) ∙ lines_joined (take i rs) (drop i rs)

  -- a page that a failed printing left as it was
  pub in_part : (rs : List R) (i : ℕ) (before page after : List ℕ) → i < length rs → page ++ lines_of line_of (drop i rs) ≡ before ++ lines_of line_of rs → after ≡ page → InPart line_of rs before after
  in_part rs i before page after lt left same =
      let first = lines_of line_of (take i rs) in
      let rest = lines_of line_of (drop i rs) in
      record {
        printed = i;
        fewer = lt;
        page_then = same ∙ append_cancel_right page (before ++ first) rest (left ∙ ap (λ l. before ++ l) (lines_parted rs i) ∙ sym (append_assoc before first rest));
      }

-- what holds anyway holds at an error
pub on_any_err : {T E P : Type 0} (r : Result T E) → P → OnErr r P
on_any_err (Ok x) p = tt
on_any_err (Err e) p = p
