-- A table that the first command opened, once the sheet was run on it.
use Rattle.std.proofs.Common.{◌≡◌, ℕ, ◌+◌, List, [], Some, Ok, Option, Result, sym, ◌∙◌, subst}
use Rattle.refusals.specs.declared.Refusal.{Refusal}
use Rattle.refusals.specs.Refusals.{Answers}
use Rattle.commands.specs.declared.Conditions.{Conditions}
use Rattle.commands.specs.Calls.{Call, Open}
use Rattle.game.specs.Rules.{Rules}
use Rattle.games.specs.Opening.{Opens}
use Rattle.games.specs.Rules.{rules_of}
use Rattle.ledger.specs.declared.entries.Entry.{Entry}
use Rattle.ledger.specs.declared.notes.Note.{Note}
use Rattle.ledger.specs.declared.rolls.Roll.{Roll}
use Rattle.ledger.specs.Rolls.{free}
use Rattle.books.specs.declared.table_books.Books.{Books}
use Rattle.sheet.specs.Format.{width_of}
use Rattle.table.specs.declared.opening.Opening.{Opening}
use Rattle.table.specs.Promise.{opened, Reached}
use Rattle.sheet.specs.Reading.{read_at}
use Rattle.table.specs.Performing.{cause_in}
use Rattle.run.specs.declared.ended.Ended.{Ended}
use Rattle.run.specs.Runs.{run_of, Ran}
use Rattle.open_table.specs.declared.open_table.OpenTable.{OpenTable}
use Rattle.open_table.specs.Begins.{RunningFrom}
use Rattle.open_table.specs.Firsts.{cause_noted, LeastNoted, OpenedAt}
use Rattle.open_table.specs.Tables.{opening_of, opening_causes, books_at, rules_at, SheetRun}

module _ (sheet : List ℕ) (p : ℕ) (t : OpenTable) (q : ℕ) (o : OpenedAt sheet p t q) where
  pub begun_runs : (l : Roll Entry) (n : Roll Note) (ended : Ended) (t' : OpenTable) (p' : ℕ) (l' : Roll Entry) (n' : Roll Note) → SheetRun t sheet q l n (Ok ended) t' p' l' n' → RunningFrom sheet p l n t' ended p' l' n'
  begun_runs l n ended t' p' l' n' s =
      let c = o.conditions in
      let opening : Opening = opening_of c o.tray in
      let first : Books = opened opening in
      let behind : ℕ = p + width_of (Open c o.tray) in
      let ran = s.answered.1 in
      let whole : (R : Rules) → Books → ℕ → Type 0 = λ R b k. Ran R sheet b k l n ended (books_at t') p' l' n' × Reached R opening (run_of R sheet b k (free l) (free n)).0.turns (books_at t') in
      let here : whole (rules_at t) (books_at t) q = (ran, ran.leads opening [] o.opens.3) in
      let w : whole (rules_at t') first behind =
      subst (λ g. whole (rules_of g) first behind) (sym s.game) (subst (λ b. whole (rules_at t) b behind) o.opens.2 (subst (λ k. whole (rules_at t) (books_at t) k) o.place here)) in
      record {
        conditions = c;
        tray = o.tray;
        reads = o.reads;
        accepted = o.opens.0;
        game = subst (Opens c.game c.cap c.odds) (sym s.game) o.opens.1;
        ran = w.0;
        whole = w.1;
      }

-- the cause of a refused opening, once its refusal is noted, is the least that holds of what was read
pub least_noted : {A B : Type 0} (sheet : List ℕ) (p : ℕ) (c : Conditions) (tray : ℕ) (r : Result A Refusal) (r' : Result B Note) → read_at sheet p ≡ Ok (Some (Open c tray)) → Answers (opening_causes c tray) (cause_in r) → cause_noted r' ≡ cause_in r → LeastNoted sheet p r'
least_noted sheet p c tray r r' reads least same c' tray' reads' =
    let both : ◌≡◌ {A = Result (Option Call) Refusal} (Ok (Some (Open c tray))) (Ok (Some (Open c' tray'))) = sym reads ∙ reads' in
    let at : c ≡ c' = cc in
    let with_tray : tray ≡ tray' = cc in
    subst (λ x. Answers (opening_causes c' tray') x) (sym same) (subst (λ x. Answers (opening_causes c' x) (cause_in r)) with_tray (subst (λ x. Answers (opening_causes x tray) (cause_in r)) at least))
