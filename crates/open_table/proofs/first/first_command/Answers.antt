-- The command that was read opened the table.
use Rattle.std.proofs.Common.{rules, ◌≡◌, Bool, true, false, Ok, Err, Some, Option, Result, MatchResult, IsErrAnd, is_ok, sym, ap, ◌∙◌, subst}
use Rattle.refusals.specs.declared.Refusal.{Refusal}
use Rattle.ledger.specs.declared.notes.Note.{Note}
use Rattle.open_table.specs.declared.open_table.OpenTable.{OpenTable}
use Rattle.open_table.specs.Firsts.{cause_noted}
use Rattle.sheet.specs.Reading.{calls, behind}
use Rattle.table.specs.Performing.{cause_in}
use Rattle.open_table.specs.Tables.{Opened}
use Rattle.open_table.proofs.Beginning.{least_noted}
use Rattle.open_table.proofs.first.first_command.Goals as goal

-- what is right once its refusal was noted was right before
was_right : {T E D : Type 0} (Q : E → Type 0) (r : Result T E) (r' : Result T D) (x : T) → MatchResult r (λ y. r' ≡ Ok y) Q → is_ok r' ≡ is_ok r → r' ≡ Ok x → r ≡ Ok x
was_right Q (Ok y) r' x cases same is = cc
was_right Q (Err e) r' x cases same is = let z : ◌≡◌ {A = Bool} true false = sym (ap is_ok is) ∙ same in cc

-- the cause of a refusal is the cause that is noted of it
noted_cause : {A B : Type 0} (Q : Refusal → Note → Type 0) → ((e : Refusal) (n : Note) → Q e n → n.refusal ≡ e) → (r : Result A Refusal) (m : Result A Note) (note : Note) (r' : Result B Note) → MatchResult r (λ y. m ≡ Ok y) (λ e. IsErrAnd m (Q e)) → m ≡ Err note → IsErrAnd r' (λ n. n ≡ note) → cause_noted r' ≡ cause_in r
noted_cause Q to (Ok y) m note r' cases is same = let e : ◌≡◌ {A = Result _ Note} (Ok y) (Err note) = sym cases ∙ is in absurd cc
noted_cause Q to (Err e) (Ok y) note r' cases is same = absurd cc
noted_cause Q to (Err e) (Err n) note (Ok y) cases is same = absurd same
noted_cause Q to (Err e) (Err n) note (Err n') cases is same =
    let err : ◌≡◌ {A = Result _ Note} (Err n) (Err note) = is in
    let here : n ≡ note = cc in
    ap (λ (x : Note). Some x.refusal.cause) (same ∙ sym here) ∙ ap (λ (x : Refusal). Some x.cause) (to e n cases)

pub returns-clause-first : goal.returns-clause-first
returns-clause-first c =
    let read = was_right _ c.read.result c.map_err.result _ c.map_err.ensures.cases c.map_err.ensures.variant c.in_ok-command.was ∙ ap (λ o. Ok o) (c.in-Some.is ∙ ap Some c.in-Open.is) in
    let opened = was_right _ c.open.result c.map_err-2.result c.in_ok-table.table c.map_err-2.ensures.cases c.map_err-2.ensures.variant c.in_ok-table.was in
    record {
      conditions = c.in-Open.conditions;
      tray = c.in-Open.tray;
      reads = sym c.read.ensures.answer ∙ ap calls read;
      opens = subst (Opened c.in-Open.conditions c.in-Open.tray) opened c.open.ensures.opened;
      place = c.read.ensures.place ∙ ap (λ r. behind (calls r) c.args.reader.now.place.at) read;
    }

pub returns-in_err-table-clause-least : goal.returns-in_err-table-clause-least
returns-in_err-table-clause-least c =
    let read = was_right _ c.read.result c.map_err.result _ c.map_err.ensures.cases c.map_err.ensures.variant c.in_ok-command.was ∙ ap (λ o. Ok o) (c.in-Some.is ∙ ap Some c.in-Open.is) in
    least_noted c.args.reader.now.sheet.now c.args.reader.now.place.at c.in-Open.conditions c.in-Open.tray c.open.result _ (sym c.read.ensures.answer ∙ ap calls read) c.open.ensures.least
    (noted_cause _ (λ e n q. search rules) c.open.result c.map_err-2.result c.in_err-table.field-0.0 c.from_residual-in_err-table.result c.map_err-2.ensures.cases c.in_err-table.was c.from_residual-in_err-table.ensures.1)

pub returns-clause-least : goal.returns-clause-least
returns-clause-least c =
    let read = was_right _ c.read.result c.map_err.result _ c.map_err.ensures.cases c.map_err.ensures.variant c.in_ok-command.was ∙ ap (λ o. Ok o) (c.in-Some.is ∙ ap Some c.in-Open.is) in
    let opened = was_right _ c.open.result c.map_err-2.result c.in_ok-table.table c.map_err-2.ensures.cases c.map_err-2.ensures.variant c.in_ok-table.was in
    least_noted {B = Option OpenTable} c.args.reader.now.sheet.now c.args.reader.now.place.at c.in-Open.conditions c.in-Open.tray c.open.result (Ok (Some c.in_ok-table.table)) (sym c.read.ensures.answer ∙ ap calls read) c.open.ensures.least
    (sym (ap cause_in opened))
