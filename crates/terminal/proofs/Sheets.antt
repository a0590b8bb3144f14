-- A whole sheet, from the run that begins it to the last line; and that one text only is printed of it.
use Rattle.std.proofs.Common.{◌≡◌, ℕ, ◌≤◌, List, [], ◌∷◌, ◌++◌, length, Some, None, Ok, Option, Result, sym, refl, ap, ◌∙◌, subst, arith}
use Rattle.std.proofs.lemmas.List.{append-nil}
use Rattle.std.proofs.lemmas.List.Concat.{flat_map-cons}
use Rattle.std.specs.Borrow.{Bor}
use Rattle.std.specs.List.{concat}
use Rattle.refusals.specs.declared.Refusal.{Refusal}
use Rattle.refusals.specs.Refusals.{first_cause}
use Rattle.commands.specs.declared.Conditions.{Conditions}
use Rattle.commands.specs.Calls.{Call, Open}
use Rattle.game.specs.Rules.{Rules}
use Rattle.games.specs.Opening.{Opens}
use Rattle.games.specs.Rules.{rules_of}
use Rattle.games.proofs.OneGame.{same_rules}
use Rattle.ledger.specs.declared.entries.Entry.{Entry}
use Rattle.ledger.specs.declared.notes.Note.{Note}
use Rattle.ledger.specs.declared.rolls.Roll.{Roll}
use Rattle.ledger.specs.Rolls.{kept}
use Rattle.lines.specs.Lines.{printed_note}
use Rattle.books.specs.declared.table_books.Books.{Books}
use Rattle.sheet.specs.Format.{width_of}
use Rattle.sheet.specs.Reading.{longest, read_at}
use Rattle.sheet.proofs.Items.{read_short}
use Rattle.table.specs.declared.opening.Opening.{Opening}
use Rattle.table.specs.Opening.{refused_by}
use Rattle.table.specs.Promise.{opened, Reached}
use Rattle.run.specs.declared.ended.Ended.{Ended}
use Rattle.run.specs.declared.ended.Ended.TheVariants.{NoRoom}
use Rattle.run.specs.Meaning.{note_of}
use Rattle.run.specs.Runs.{State}
use Rattle.open_table.specs.declared.open_table.OpenTable.{OpenTable}
use Rattle.open_table.specs.declared.begun.Begun.{Begun}
use Rattle.open_table.specs.Begins.{RunningFrom, SheetBegun}
use Rattle.open_table.specs.Firsts.{first_refusal}
use Rattle.open_table.specs.Tables.{opening_of, opening_causes, rules_at, books_at}
use Rattle.open_table.proofs.Summing.{parts_add_up}
use Rattle.terminal.specs.SheetLines.{run_at, all_runs, state_after, run_lines, lines_of_runs, LinesOf, empty, refused, played}
use Rattle.terminal.specs.Promised.{turns_in, RunsPromised, Promised}
use Rattle.terminal.specs.Printed.{OneText}
use Rattle.terminal.specs.Pages.{Ready, runs_after, lines_after, LedOn, PrintedInPart, Page, PageInPart}
use Rattle.terminal.proofs.Going.{NextRun, runs_are, lines_are, led_then, one_run, lines_so, by_places}
use Rattle.terminal.proofs.Parts.{one_line, concat_then, part_behind, part_more, none_in_part}

-- an Open is read in one way only
one_open : (c c' : Conditions) (tray tray' : ℕ) (r : Result (Option Call) Refusal) → r ≡ Ok (Some (Open c tray)) → r ≡ Ok (Some (Open c' tray')) → (c ≡ c') × (tray ≡ tray')
one_open c c' tray tray' r e e' =
    let both : ◌≡◌ {A = Result (Option Call) Refusal} (Ok (Some (Open c tray))) (Ok (Some (Open c' tray'))) = sym e ∙ e' in
    (cc, cc)

-- an Open that meets its conditions is not refused
not_refused : (c : Conditions) (tray : ℕ) (e : Refusal) (r : Result (Option Call) Refusal) → r ≡ Ok (Some (Open c tray)) → first_cause (opening_causes c tray) ≡ None → Some e ≡ first_refusal r → ⊥
not_refused c tray e r reads accepted refusal =
    let none : Some e ≡ None = refusal ∙ ap first_refusal reads ∙ ap refused_by accepted in
    cc

-- the lines of a sheet are one list only
pub lines_one : (sheet : List ℕ) (ls ls' : List (List ℕ)) → LinesOf sheet ls → LinesOf sheet ls' → ls ≡ ls'
lines_one sheet _ _ (empty a) (empty b) = refl
lines_one sheet _ _ (empty a) (refused e b) = let none : Some e ≡ None = b ∙ ap first_refusal a in absurd cc
lines_one sheet _ _ (empty a) (played c tray game reads accepted opens) = let none : ◌≡◌ {A = Result (Option Call) Refusal} (Ok None) (Ok (Some (Open c tray))) = sym a ∙ reads in absurd cc
lines_one sheet _ _ (refused e a) (empty b) = let none : Some e ≡ None = a ∙ ap first_refusal b in absurd cc
lines_one sheet _ _ (refused e a) (refused e' b) = let same : Some e ≡ Some e' = a ∙ sym b in let is : e ≡ e' = cc in ap (λ x. printed_note (note_of 0 x) ∷ []) is
lines_one sheet _ _ (refused e a) (played c tray game reads accepted opens) = absurd (not_refused c tray e (read_at sheet 0) reads accepted a)
lines_one sheet _ _ (played c tray game reads accepted opens) (empty b) = let none : ◌≡◌ {A = Result (Option Call) Refusal} (Ok None) (Ok (Some (Open c tray))) = sym b ∙ reads in absurd cc
lines_one sheet _ _ (played c tray game reads accepted opens) (refused e b) = absurd (not_refused c tray e (read_at sheet 0) reads accepted b)
lines_one sheet _ _ (played c tray game reads accepted opens) (played c' tray' game' reads' accepted' opens') =
    let both = one_open c c' tray tray' (read_at sheet 0) reads reads' in
    let open_too : Opens c.game c.cap c.odds game' = subst (λ k. Opens k.game k.cap k.odds game') (sym both.0) opens' in
    let of : Rules → Conditions → ℕ → List (List ℕ) = λ R k t. lines_of_runs (opened (opening_of k t)) (all_runs R sheet (opened (opening_of k t)) (width_of (Open k t))) in
    ap (λ R. of R c tray) (same_rules c.game c.cap c.odds game game' opens open_too) ∙ ap (λ k. of (rules_of game') k tray) both.0 ∙ ap (of (rules_of game') c') both.1

pub one_text : (sheet : List ℕ) → OneText sheet
one_text sheet text text' h h' = h.is ∙ ap concat (lines_one sheet h.lines h'.lines h.lines_of h'.lines_of) ∙ sym h'.is

-- the first run of a sheet and all that comes after it
module _ (sheet : List ℕ) (l : Roll Entry) (n : Roll Note) (t : OpenTable) (ended : Ended) (p' : ℕ) (l₁ : Roll Entry) (n₁ : Roll Note) (ready : Ready l n) (b : RunningFrom sheet 0 l n t ended p' l₁ n₁) where
  R : Rules
  R = rules_at t

  first : Books
  first = opened (opening_of b.conditions b.tray)

  behind : ℕ
  behind = width_of (Open b.conditions b.tray)

  short : length sheet ≤ longest
  short = read_short sheet 0 (Open b.conditions b.tray) b.reads

  next : NextRun R sheet first behind ended (books_at t) p'
  unfolding R first behind
  next = one_run R sheet first behind l n ended (books_at t) p' l₁ n₁ ready b.ran

  s : State
  s = (run_at R sheet first behind).0

  all : List State
  all = all_runs R sheet first behind

  -- its lines
  lines : List (List ℕ)
  lines = lines_of_runs first all

  lines_are_so : lines ≡ run_lines (kept l₁) (kept n₁) ++ lines_after R sheet ended (books_at t) p'
  unfolding lines all R first behind
  lines_are_so =
      lines_are R sheet short first behind ended (books_at t) p' next
      ∙ ap (λ x. x ++ lines_after R sheet ended (books_at t) p') (sym (lines_so R sheet first behind l n ended (books_at t) p' l₁ n₁ ready b.ran))

  these : LinesOf sheet lines
  unfolding lines all R first behind
  these = played b.conditions b.tray t.table.game b.reads b.accepted b.game

  -- the promise
  all_promised : LedOn R sheet (books_at t) p' ended (runs_after R sheet ended (books_at t) p') → RunsPromised R sheet b.conditions b.tray all
  unfolding all s R first behind
  all_promised led =
      let rs = runs_after R sheet ended (books_at t) p' in
      let o : Opening = opening_of b.conditions b.tray in
      let is : all ≡ s ∷ rs = runs_are R sheet short first behind ended (books_at t) p' next in
      let on : LedOn R sheet first behind NoRoom all = subst (LedOn R sheet first behind NoRoom) (sym is) (led_then R sheet short first behind ended (books_at t) p' next rs led) in
      let whole : Reached R o s.turns (books_at t) = subst (λ x. Reached R o x.0.turns (books_at t)) (by_places R sheet first behind l n ended (books_at t) p' l₁ n₁ ready b.ran) b.whole in
      let reached_so : Reached R o (turns_in (s ∷ rs)) (state_after first (s ∷ rs)) =
      subst (λ x. Reached R o x (state_after first (s ∷ rs))) (sym (flat_map-cons (λ x. x.turns) s rs)) (subst (λ x. Reached R o (s.turns ++ turns_in rs) (state_after x rs)) next.books (led.leads o s.turns whole)) in
      let reached : Reached R o (turns_in all) (state_after first all) = subst (λ x. Reached R o (turns_in x) (state_after first x)) (sym is) reached_so in
      record {
        calls = on.calls;
        room = on.room;
        reached = reached;
        meant = on.meant;
        written = on.written;
        adds_up = omega (arith, reached.chips_add_up, parts_add_up (state_after first all).seats);
      }

  promised : LedOn R sheet (books_at t) p' ended (runs_after R sheet ended (books_at t) p') → Promised sheet
  unfolding all R first behind
  promised led c tray game reads accepted opens =
      let both = one_open b.conditions c b.tray tray (read_at sheet 0) b.reads reads in
      let open_too : Opens b.conditions.game b.conditions.cap b.conditions.odds game = subst (λ k. Opens k.game k.cap k.odds game) (sym both.0) opens in
      let of : Rules → Conditions → ℕ → Type 0 = λ Q k t. RunsPromised Q sheet k t (all_runs Q sheet (opened (opening_of k t)) (width_of (Open k t))) in
      subst (of (rules_of game) c) both.1
      (subst (λ k. of (rules_of game) k b.tray) both.0
      (subst (λ Q. of Q b.conditions b.tray) (same_rules b.conditions.game b.conditions.cap b.conditions.odds t.table.game game b.game open_too) (all_promised led)))

  module _ (page page' page'' : List ℕ) where
    pub all_printed : page' ≡ page ++ concat (run_lines (kept l₁) (kept n₁)) → page'' ≡ page' ++ concat (lines_after (rules_at t) sheet ended (books_at t) p')
        → LedOn (rules_at t) sheet (books_at t) p' ended (runs_after (rules_at t) sheet ended (books_at t) p') → Page sheet page page''
    unfolding R
    all_printed printed rest led = record {
      text = concat lines;
      printed_of = record { lines = lines; lines_of = these; is = refl; promised = promised led };
      printed = rest ∙ ap (λ x. x ++ concat (lines_after R sheet ended (books_at t) p')) printed ∙ concat_then page (run_lines (kept l₁) (kept n₁)) (lines_after R sheet ended (books_at t) p') ∙ ap (λ x. page ++ concat x) (sym lines_are_so);
    }

    -- where a later run was printed in part
    pub later_wanting : page' ≡ page ++ concat (run_lines (kept l₁) (kept n₁)) → PrintedInPart (lines_after (rules_at t) sheet ended (books_at t) p') page' page'' → PageInPart sheet page page''
    unfolding R
    later_wanting printed part = record {
      lines = lines;
      lines_of = these;
      in_part = subst (λ ls. PrintedInPart ls page page'') (sym lines_are_so) (part_behind (run_lines (kept l₁) (kept n₁)) (lines_after R sheet ended (books_at t) p') page page' page'' printed part);
    }

    -- where the first run was
    pub first_wanting : PrintedInPart (run_lines (kept l₁) (kept n₁)) page page' → PageInPart sheet page page'
    unfolding R
    first_wanting part = record {
      lines = lines;
      lines_of = these;
      in_part = subst (λ ls. PrintedInPart ls page page') (sym lines_are_so) (part_more (run_lines (kept l₁) (kept n₁)) (lines_after R sheet ended (books_at t) p') page page' part);
    }

-- a page on which nothing was printed
pub none_printed : (sheet page : List ℕ) → read_at sheet 0 ≡ Ok None → Page sheet page page
none_printed sheet page e = record {
  text = [];
  printed_of = record {
    lines = [];
    lines_of = empty e;
    is = refl;
    promised = λ c tray game reads accepted opens. let none : ◌≡◌ {A = Result (Option Call) Refusal} (Ok None) (Ok (Some (Open c tray))) = sym e ∙ reads in absurd cc;
  };
  printed = sym (append-nil page);
}

-- and one with the note of why no table was opened
module _ (sheet page page' : List ℕ) (note : Note) (at : note.place ≡ 0) (e : Some note.refusal ≡ first_refusal (read_at sheet 0)) where
  line_is : printed_note note ≡ printed_note (note_of 0 note.refusal)
  line_is = ap (λ k. let u : Note = record { place = k; refusal = note.refusal } in printed_note u) at

  pub note_printed : page' ≡ page ++ printed_note note → Page sheet page page'
  note_printed printed = record {
    text = printed_note (note_of 0 note.refusal);
    printed_of = record {
      lines = printed_note (note_of 0 note.refusal) ∷ [];
      lines_of = refused note.refusal e;
      is = sym (one_line (printed_note (note_of 0 note.refusal)));
      promised = λ c tray game reads accepted opens. absurd (not_refused c tray note.refusal (read_at sheet 0) reads accepted e);
    };
    printed = printed ∙ ap (λ x. page ++ x) line_is;
  }

  pub note_wanting : page' ≡ page → PageInPart sheet page page'
  note_wanting same = record { lines = printed_note (note_of 0 note.refusal) ∷ []; lines_of = refused note.refusal e; in_part = none_in_part (printed_note (note_of 0 note.refusal)) [] page page' same }

-- what beginning with a reader at the first byte of a sheet came to
pub begun_whole : (s s' : Bor (List ℕ)) (p : ℕ) → s' ≡ s → p ≡ 0 → (l : Roll Entry) (n : Roll Note) (r r' : Result (Option Begun) Note) (p' : ℕ) (l' : Roll Entry) (n' : Roll Note) → r ≡ r' → SheetBegun s'.now p l n r p' l' n' → SheetBegun s.now 0 l n r' p' l' n'
begun_whole s s' p is at l n r r' p' l' n' e b =
    subst (λ x. SheetBegun s.now 0 l n x p' l' n') e (subst (λ x. SheetBegun s.now x l n r p' l' n') at (subst (λ x. SheetBegun x.now p l n r p' l' n') is b))
