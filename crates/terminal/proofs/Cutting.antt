-- A sheet that is too long is refused from its first byte, so all such sheets print the same.
use Rattle.std.proofs.Common.{◌≡◌, ℕ, ◌<◌, List, [], ◌∷◌, length, Err, sym, refl, ap, ◌∙◌, subst}
use Rattle.std.proofs.lemmas.Bool.{lt-ltb}
use Rattle.refusals.specs.declared.Cause.TheVariants.{SheetTooLong}
use Rattle.refusals.specs.Refusals.{refused as refused_for}
use Rattle.lines.specs.Lines.{printed_note, too_long_line}
use Rattle.run.specs.Meaning.{note_of}
use Rattle.sheet.specs.Reading.{longest, read_at}
use Rattle.open_table.specs.Firsts.{first_refusal}
use Rattle.terminal.specs.SheetLines.{LinesOf, refused}
use Rattle.terminal.specs.Printed.{PrintedOf}
use Rattle.terminal.proofs.Parts.{one_line}
use Rattle.terminal.proofs.Sheets.{one_text}

too_long : (sheet : List ℕ) → longest < length sheet → read_at sheet 0 ≡ Err (refused_for SheetTooLong 0)
too_long sheet long = rw (lt-ltb longest (length sheet) long) refl

-- the lines of a sheet that is too long: one note
long_lines : (sheet : List ℕ) → longest < length sheet → LinesOf sheet (printed_note (note_of 0 (refused_for SheetTooLong 0)) ∷ [])
long_lines sheet long = refused (refused_for SheetTooLong 0) (sym (ap first_refusal (too_long sheet long)))

-- and what is printed of it
pub long_prints : (sheet : List ℕ) → longest < length sheet → PrintedOf sheet (printed_note (note_of 0 (refused_for SheetTooLong 0)))
long_prints sheet long = record {
  lines = printed_note (note_of 0 (refused_for SheetTooLong 0)) ∷ [];
  lines_of = long_lines sheet long;
  is = sym (one_line (printed_note (note_of 0 (refused_for SheetTooLong 0))));
  promised = λ c tray game reads accepted opens. let h = sym reads ∙ too_long sheet long in absurd cc;
}

-- whatever bytes are that line are what is printed of it
pub line_printed : (sheet line : List ℕ) → longest < length sheet → line ≡ too_long_line → PrintedOf sheet line
line_printed sheet line long is = subst (PrintedOf sheet) (sym is) (long_prints sheet long)

-- two sheets that are both too long print the same
pub both_long : (sheet sheet' : List ℕ) → longest < length sheet → longest < length sheet' → (text : List ℕ) → PrintedOf sheet text → PrintedOf sheet' text
both_long sheet sheet' a b text h = subst (PrintedOf sheet') (sym (one_text sheet text (printed_note (note_of 0 (refused_for SheetTooLong 0))) h (long_prints sheet a))) (long_prints sheet' b)
