-- What a call of one arm gives the caller of them all.
use Rattle.std.proofs.Common.{◌≡◌, ℕ, true, List, [], Some, None, Ok, Err, Option, Result, sym, refl, ap, ◌∙◌, subst}
use Rattle.refusals.specs.declared.Cause.{Cause}
use Rattle.refusals.specs.declared.Cause.TheVariants.{WrongStage}
use Rattle.refusals.specs.declared.Refusal.{Refusal}
use Rattle.refusals.specs.Refusals.{first_cause, refused, in_turn, Answers}
use Rattle.refusals.proofs.Causes.{answers}
use Rattle.commands.specs.declared.Conditions.{Conditions}
use Rattle.commands.specs.Calls.{Call, Open, Buy, Cash, Fill, Draw, Bet, Deal, Raise, Leave, Settle, Void}
use Rattle.game.specs.Rules.{Rules, Facts}
use Rattle.ledger.specs.declared.entries.Entry.{Entry}
use Rattle.ledger.specs.declared.rolls.Roll.{Roll}
use Rattle.ledger.specs.Rolls.{free, Written}
use Rattle.ledger.proofs.Writing.{written_none}
use Rattle.books.specs.declared.stage.Round.{Round}
use Rattle.books.specs.declared.stage.Stage.TheVariants.{Betting, Dealt}
use Rattle.books.specs.declared.table_books.Books.{Books}
use Rattle.table.specs.Calls.{Did, either}
use Rattle.table.specs.Causes.{causes, refusal, judged, verdict}
use Rattle.table.specs.Entries.{writes}
use Rattle.table.specs.Performing.{cause_in, Performed}
use Rattle.table.specs.Soundness.{Sound}
use Rattle.table.proofs.Accepted.{did_sound}
use Rattle.table.proofs.Trace.{turned}

-- a call that writes nothing leaves the ledger, whatever it answers
unwritten : (r : Result (Unit {0}) Refusal) (l : Roll Entry) → Written l l (either r [] [])
unwritten (Ok x) l = written_none l
unwritten (Err x) l = written_none l

-- the causes of each call stand in turn
causes_in_turn : (R : Rules) (b : Books) (c : Call) (free : ℕ) → in_turn 0 (causes R b c free) ≡ true
causes_in_turn R b (Open conditions tray) free = refl
causes_in_turn R b (Buy s n) free = refl
causes_in_turn R b (Cash s n) free = refl
causes_in_turn R b (Fill n) free = refl
causes_in_turn R b (Draw n) free = refl
causes_in_turn R b (Bet s j n) free = refl
causes_in_turn R b (Deal cards) free = refl
causes_in_turn R b (Raise s) free = refl
causes_in_turn R b (Leave s) free = refl
causes_in_turn R b Settle free = refl
causes_in_turn R b Void free = refl

-- a refusal names the cause that it was made for
cause_judged : (f : Cause → Refusal) → ((x : Cause) → (f x).cause ≡ x) → (o : Option Cause) → cause_in (judged o f) ≡ o
cause_judged f names None = refl
cause_judged f names (Some x) = ap Some (names x)

module _ {R : Rules} (facts : Facts R) {b b' : Books} (s : Sound R b) (l : Roll Entry) {c c' : Call} {r : Result (Unit {0}) Refusal} (e : c ≡ c') where
  -- a call that was done with this ledger
  pub performed : (l' : Roll Entry) → Did R b c' (free l) r b' → Written l l' (either r (writes R b c') []) → Performed R b l c r b' l'
  performed l' d w =
      let d' : Did R b c (free l) r b' = subst (λ x. Did R b x (free l) r b') (sym e) d in
      record {
        did = d';
        ledger = subst (λ x. Written l l' (either r (writes R b x) [])) (sym e) w;
        least = subst (λ o. Answers (causes R b c (free l)) o) (sym (told r d'.answer)) (answers 0 (causes R b c (free l)) (causes_in_turn R b c (free l)));
        sound = did_sound R facts b b' c (free l) r s d';
        leads = λ o us h. turned R facts o us b b' c (free l) r s h d';
      }
    where
      told : (r : Result (Unit {0}) Refusal) → r ≡ verdict R b c (free l) → cause_in r ≡ first_cause (causes R b c (free l))
      told r a = ap cause_in a ∙ cause_judged (refusal R b c) (λ x. refl) (first_cause (causes R b c (free l)))

  -- a call that does not look at the ledger
  pub performed_aside : verdict R b c' 0 ≡ verdict R b c' (free l) → writes R b c' ≡ [] → Did R b c' 0 r b' → Performed R b l c r b' l
  performed_aside v w d =
      performed l (record { answer = d.answer ∙ v; books = d.books }) (subst (λ es. Written l l (either r es [])) (sym w) (unwritten r l))

-- calls that do not belong to the stage
module _ {R : Rules} {b : Books} {free : ℕ} {e : Refusal} where
  pub open_again : {conditions : Conditions} {tray : ℕ} → e ≡ refused WrongStage 0 → Did R b (Open conditions tray) free (Err e) b
  open_again told = record { answer = ap Err told; books = refl }

  module _ {r : Round} (dealt : b.stage ≡ Dealt r) where
    pub late_bet : {s j n : ℕ} → e ≡ refused WrongStage s → Did R b (Bet s j n) free (Err e) b
    late_bet told = record { answer = ap Err told ∙ rw dealt refl; books = refl }

    pub late_deal : {cards : List ℕ} → e ≡ refused WrongStage 0 → Did R b (Deal cards) free (Err e) b
    late_deal told = record { answer = ap Err told ∙ rw dealt refl; books = refl }

  module _ (betting : b.stage ≡ Betting) where
    pub early_raise : {s : ℕ} → e ≡ refused WrongStage s → Did R b (Raise s) free (Err e) b
    early_raise told = record { answer = ap Err told ∙ rw betting refl; books = refl }

    pub early_leave : {s : ℕ} → e ≡ refused WrongStage s → Did R b (Leave s) free (Err e) b
    early_leave told = record { answer = ap Err told ∙ rw betting refl; books = refl }

    pub early_settle : e ≡ refused WrongStage 0 → Did R b Settle free (Err e) b
    early_settle told = record { answer = ap Err told ∙ rw betting refl; books = refl }

    pub early_void : e ≡ refused WrongStage 0 → Did R b Void free (Err e) b
    early_void told = record { answer = ap Err told ∙ rw betting refl; books = refl }
