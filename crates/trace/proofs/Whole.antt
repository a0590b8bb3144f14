-- The trace of a whole sheet, from what was printed of it.
use Rattle.std.proofs.Common.{◌≡◌, ℕ, ◌<◌, List, [], ◌++◌, length, Some, None, Ok, Err, Result, OnOk, is_ok, if◌then◌else◌, sym, refl, ap, ◌∙◌, subst, append_assoc, arith}
use Rattle.std.specs.Borrow.{Bor}
use Rattle.std.proofs.lemmas.List.{append-nil}
use Rattle.std.proofs.lemmas.Bool.{lt-ltb}
use Rattle.refusals.specs.declared.Cause.TheVariants.{SheetTooLong}
use Rattle.refusals.specs.Refusals.{refused as refused_for}
use Rattle.game.specs.declared.interface.Game.{Ghosts}
use Rattle.games.specs.declared.any_game.AnyGame.{AnyGame}
use Rattle.games.specs.Rules.{rules_of}
use Rattle.ledger.specs.declared.notes.Note.{Note}
use Rattle.lines.specs.Lines.{printed_note, too_long_line}
use Rattle.books.specs.declared.table_books.Books.{Books}
use Rattle.commands.specs.Calls.{Open}
use Rattle.sheet.specs.Format.{width_of}
use Rattle.sheet.specs.Items.{items_of}
use Rattle.sheet.specs.Reading.{longest, read_at}
use Rattle.table.specs.declared.opening.Opening.{Opening}
use Rattle.table.specs.Promise.{opened}
use Rattle.table.specs.Tally.{Turn}
use Rattle.run.specs.Meaning.{most_entries, note_of}
use Rattle.open_table.specs.Firsts.{first_refusal}
use Rattle.open_table.specs.Tables.{opening_of}
use Rattle.history.specs.declared.histories.History.{History}
use Rattle.history.specs.declared.positions.Position.{Position}
use Rattle.history.specs.Turns.{turns_of}
use Rattle.history.specs.Positions.{position_of, position_at}
use Rattle.trace.specs.Begun.{BegunAt}
use Rattle.trace.specs.Lines.{position_text}
use Rattle.trace.specs.Traces.{trace_text, text_from}
use Rattle.trace.specs.Traced.{text_behind, TraceOf, empty, refused, performed, Traced}

-- a sheet that is too long is refused from its first byte
too_long : (sheet : List ℕ) → longest < length sheet → read_at sheet 0 ≡ Err (refused_for SheetTooLong 0)
too_long sheet long = rw (lt-ltb longest (length sheet) long) refl

-- whatever bytes are the line of such a sheet are its trace
pub line_traced : (sheet line : List ℕ) → longest < length sheet → line ≡ too_long_line → TraceOf sheet line
line_traced sheet line long is = subst (TraceOf sheet) (sym is) (refused (refused_for SheetTooLong 0) (sym (ap first_refusal (too_long sheet long))))

-- two sheets that are both too long have the same trace
pub both_long : (sheet sheet' : List ℕ) → longest < length sheet → longest < length sheet' → (text : List ℕ) → TraceOf sheet text → TraceOf sheet' text
both_long sheet sheet' a b _ (empty e) = empty (too_long sheet' b ∙ sym (too_long sheet a) ∙ e)
both_long sheet sheet' a b _ (refused e is) = refused e (is ∙ ap first_refusal (too_long sheet a ∙ sym (too_long sheet' b)))
both_long sheet sheet' a b _ (performed c tray game reads accepted opens) = let no = sym reads ∙ too_long sheet a in absurd cc

-- what is printed of a newly opened table and of the commands behind its Open
newly : {G : Type 0} (g : Ghosts G) (h : History G g) (o : Opening) (n : ℕ) (sheet : List ℕ) (p p' : ℕ) → h.opening ≡ o → h.calls.items ≡ [] → h.table.books ≡ opened o → n ≡ most_entries → p' ≡ p
    → position_text (position_at g h) ++ text_from g h n sheet p' ≡ text_behind (g.rules h.table.game) o sheet p
newly g h o n sheet p p' at none is room behind =
    let R = g.rules h.table.game in
    let text : Opening → List Turn → Books → ℕ → ℕ → List ℕ = λ x us b m q. position_text (position_of x us b) ++ trace_text R x m us b (items_of sheet q) in
    ap (λ x. text x (turns_of R x h.calls.items) h.table.books n p') at
    ∙ ap (λ cs. text o (turns_of R o cs) h.table.books n p') none
    ∙ ap (λ b. text o [] b n p') is
    ∙ ap (λ m. text o [] (opened o) m p') room
    ∙ ap (λ q. text o [] (opened o) most_entries q) behind

-- the trace of a sheet whose first command opened a table
pub all_traced : {A E : Type 0} (r : Result A E) (g : Ghosts AnyGame) → ((x : AnyGame) → g.rules x ≡ rules_of x) → (h : History AnyGame g) (s s' s'' : Bor (List ℕ)) → s' ≡ s → s'' ≡ s' → (q p n : ℕ) → q ≡ 0
    → BegunAt s'.now q h.table.game h.opening h.calls.items h.table.books p → n ≡ most_entries → (x : Position) → x ≡ position_at g h → (page page' page'' : List ℕ) → page' ≡ page ++ position_text x
    → OnOk r (page'' ≡ page' ++ text_from g h n s''.now p) → OnOk r (Traced s.now page page'')
all_traced (Err e) g rules h s s' s'' same same' q p n first b room x pos page page' page'' start rest = tt
all_traced (Ok v) g rules h s s' s'' same same' q p n first b room x pos page page' page'' start rest =
    let c = b.conditions in
    let tray = b.tray in
    let game = h.table.game in
    let w = width_of (Open c tray) in
    let behind : p ≡ w = omega (arith, b.place, first) in
    record {
      text = text_behind (rules_of game) (opening_of c tray) s.now w;
      trace_of = performed c tray game (ap (λ y. read_at y.now 0) (sym same) ∙ ap (read_at s'.now) (sym first) ∙ b.reads) b.begun.accepted b.begun.plays;
      printed = rest
          ∙ ap (λ t. t ++ text_from g h n s''.now p) (start ∙ ap (λ y. page ++ position_text y) pos)
          ∙ append_assoc page (position_text (position_at g h)) (text_from g h n s''.now p)
          ∙ ap (λ t. page ++ t) (newly g h (opening_of c tray) n s''.now w p b.begun.opening b.begun.none_made b.begun.state room behind
          ∙ ap (λ R. text_behind R (opening_of c tray) s''.now w) (rules game)
          ∙ ap (λ y. text_behind (rules_of game) (opening_of c tray) y.now w) (same' ∙ same));
    }

-- of an empty one
pub none_traced : (s s' : Bor (List ℕ)) → s' ≡ s → (q : ℕ) → q ≡ 0 → (page : List ℕ) → read_at s'.now q ≡ Ok None → Traced s.now page page
none_traced s s' same q first page e = record { text = []; trace_of = empty (ap (λ y. read_at y.now 0) (sym same) ∙ ap (read_at s'.now) (sym first) ∙ e); printed = sym (append-nil page) }

-- of one whose first command opened no table
pub note_traced : {A E : Type 0} (r : Result A E) (s s' : Bor (List ℕ)) → s' ≡ s → (q : ℕ) → q ≡ 0 → (note : Note) → note.place ≡ q → Some note.refusal ≡ first_refusal (read_at s'.now q) → (page page' : List ℕ)
    → page' ≡ (if is_ok r then page ++ printed_note note else page) → OnOk r (Traced s.now page page')
note_traced (Err e) s s' same q first note at is page page' printed = tt
note_traced (Ok v) s s' same q first note at is page page' printed =
    let here : note ≡ note_of 0 note.refusal = ap (λ k. note_of k note.refusal) (at ∙ first) in
    record {
      text = printed_note (note_of 0 note.refusal);
      trace_of = refused note.refusal (is ∙ ap (λ k. first_refusal (read_at s'.now k)) first ∙ ap (λ y. first_refusal (read_at y.now 0)) same);
      printed = printed ∙ ap (λ x. page ++ printed_note x) here;
    }
