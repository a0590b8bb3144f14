-- Lines on a page, one behind another, and the first few of them.
use Rattle.std.proofs.Common.{◌≡◌, ℕ, ◌+◌, List, [], ◌∷◌, ◌++◌, map, length, take, sym, refl, ap, ◌∙◌, append_assoc, length-append, subst, arith, Result, Ok, Err, OnErr}
use Rattle.std.proofs.lemmas.List.{append-nil, take-append-le, take-map, length-map}
use Rattle.std.proofs.lemmas.List.Folds.{concat-append}
use Rattle.std.proofs.Math.Seq.{take-append-add}
use Rattle.std.specs.List.{concat}
use Rattle.ledger.specs.declared.entries.Entry.{Entry}
use Rattle.ledger.specs.declared.notes.Note.{Note}
use Rattle.ledger.specs.declared.rolls.Roll.{Roll}
use Rattle.refusals.specs.declared.Refusal.{Refusal}
use Rattle.run.specs.declared.ended.Ended.{Ended}
use Rattle.open_table.specs.declared.open_table.OpenTable.{OpenTable}
use Rattle.open_table.specs.Tables.{SheetRun}
use Rattle.lines.specs.Lines.{printed_entry, printed_note, lines_of, InPart}
use Rattle.terminal.specs.SheetLines.{run_lines}
use Rattle.terminal.specs.Pages.{PrintedInPart}

pub one_line : (line : List ℕ) → concat (line ∷ []) ≡ line
one_line line = append-nil line

pub concat_then : (page : List ℕ) (xs ys : List (List ℕ)) → (page ++ concat xs) ++ concat ys ≡ page ++ concat (xs ++ ys)
concat_then page xs ys = append_assoc page (concat xs) (concat ys) ∙ ap (λ z. page ++ z) (sym (concat-append xs ys))

-- lines printed in part behind others that are printed whole
pub part_behind : (xs ys : List (List ℕ)) (page page' page'' : List ℕ) → page' ≡ page ++ concat xs → PrintedInPart ys page' page'' → PrintedInPart (xs ++ ys) page page''
part_behind xs ys page page' page'' before part = record {
  printed = length xs + part.printed;
  fewer = omega (arith, part.fewer, length-append xs ys);
  page_then = part.page_then ∙ ap (λ z. z ++ concat (take part.printed ys)) before ∙ concat_then page xs (take part.printed ys) ∙ ap (λ z. page ++ concat z) (sym (take-append-add xs ys part.printed));
}

-- lines printed in part, of which more are to come
pub part_more : (xs ys : List (List ℕ)) (page page' : List ℕ) → PrintedInPart xs page page' → PrintedInPart (xs ++ ys) page page'
part_more xs ys page page' part = record {
  printed = part.printed;
  fewer = omega (arith, part.fewer, length-append xs ys);
  page_then = part.page_then ∙ ap (λ z. page ++ concat z) (sym (take-append-le part.printed xs ys (omega (arith, part.fewer))));
}

-- none of some lines printed
pub none_in_part : (line : List ℕ) (ls : List (List ℕ)) (page page' : List ℕ) → page' ≡ page → PrintedInPart (line ∷ ls) page page'
none_in_part line ls page page' same = record { printed = 0; fewer = omega arith; page_then = same ∙ sym (append-nil page) }

-- the lines of records
module _ {R : Type 0} (line_of : R → List ℕ) where
  pub lines_joined : (rs : List R) → lines_of line_of rs ≡ concat (map line_of rs)
  lines_joined [] = refl
  lines_joined (r ∷ rs) = ap (λ z. line_of r ++ z) (lines_joined rs)

  pub records_part : (rs : List R) (page page' : List ℕ) → InPart line_of rs page page' → PrintedInPart (map line_of rs) page page'
  records_part rs page page' part = record {
    printed = part.printed;
    fewer = omega (arith, part.fewer, length-map rs line_of);
    page_then = part.page_then ∙ ap (λ z. page ++ z) (lines_joined (take part.printed rs) ∙ ap concat (sym (take-map line_of part.printed rs)));
  }

-- entries and then notes, printed or in part
pub run_printed : (es : List Entry) (ns : List Note) (page page' page'' : List ℕ) → page' ≡ page ++ lines_of printed_entry es → page'' ≡ page' ++ lines_of printed_note ns → page'' ≡ page ++ concat (run_lines es ns)
run_printed es ns page page' page'' one two =
    two ∙ ap (λ z. page' ++ z) (lines_joined printed_note ns) ∙ ap (λ z. z ++ concat (map printed_note ns)) (one ∙ ap (λ z. page ++ z) (lines_joined printed_entry es))
    ∙ concat_then page (map printed_entry es) (map printed_note ns)

pub entries_wanting : (es : List Entry) (ns : List Note) (page page' : List ℕ) → InPart printed_entry es page page' → PrintedInPart (run_lines es ns) page page'
entries_wanting es ns page page' part = part_more (map printed_entry es) (map printed_note ns) page page' (records_part printed_entry es page page' part)

pub notes_wanting : (es : List Entry) (ns : List Note) (page page' page'' : List ℕ) → page' ≡ page ++ lines_of printed_entry es → InPart printed_note ns page' page'' → PrintedInPart (run_lines es ns) page page''
notes_wanting es ns page page' page'' one part =
    part_behind (map printed_entry es) (map printed_note ns) page page' page'' (one ∙ ap (λ z. page ++ z) (lines_joined printed_entry es)) (records_part printed_note ns page' page'' part)

-- what is promised of a run that returned no error
pub ran_well : (t : OpenTable) (sheet : List ℕ) (p : ℕ) (l : Roll Entry) (n : Roll Note) (r : Result Ended Refusal) (ended : Ended) (t' : OpenTable) (p' : ℕ) (l' : Roll Entry) (n' : Roll Note)
    → SheetRun t sheet p l n r t' p' l' n' → r ≡ Ok ended → SheetRun t sheet p l n (Ok ended) t' p' l' n'
ran_well t sheet p l n r ended t' p' l' n' run well = subst (λ x. SheetRun t sheet p l n x t' p' l' n') well run

-- what holds anyway holds at an error
pub on_any_err : {T E P : Type 0} (r : Result T E) → P → OnErr r P
on_any_err (Ok x) p = tt
on_any_err (Err e) p = p
