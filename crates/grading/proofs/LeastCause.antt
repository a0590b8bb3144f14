-- A refusal by grading has the least of the causes that hold.
use Rattle.std.proofs.Common.{◌≡◌, ℕ, Bool, true, false, cond, List, Some, None, Option, Result, IfErr, refl, sym, subst}
use Rattle.refusals.specs.Refusals.{names_seat, first_cause, in_turn, Answers}
use Rattle.refusals.specs.declared.Cause.{Cause}
use Rattle.refusals.specs.declared.Refusal.{Refusal}
use Rattle.refusals.proofs.Causes.{answers}
use Rattle.grading.specs.Admission.{unless}
use Rattle.grading.specs.Laws.{LeastRefused, cause_named}

no_seat_either_way : (b : Bool) → ◌≡◌ {A = ℕ} (cond b 0 0) 0
no_seat_either_way true = refl
no_seat_either_way false = refl

module _ {X : Type 0} where
  named : (o : Option Cause) (x : X) → cause_named (unless o x) ≡ o
  named None x = refl
  named (Some cause) x = refl

  seatless : (o : Option Cause) (x : X) → IfErr (unless o x) (λ refusal. refusal.seat ≡ 0)
  seatless None x = tt
  seatless (Some cause) x = no_seat_either_way (names_seat cause)

  pub least_refused : (causes : List (Bool × Cause)) → in_turn 0 causes ≡ true → (x : X) (r : Result X Refusal) → r ≡ unless (first_cause causes) x → LeastRefused causes r
  least_refused causes turns x r e =
      let at : LeastRefused causes (unless (first_cause causes) x) = record {
        answers = subst (Answers causes) (sym (named (first_cause causes) x)) (answers 0 causes turns);
        no_seat = seatless (first_cause causes) x;
      } in
      subst (LeastRefused causes) (sym e) at
