-- A run that does not stop for want of room has performed all calls of the sheet from its place on.
use Rattle.std.proofs.Common.{◌≡◌, ℕ, zero, suc, ◌+◌, ◌-◌, Bool, true, false, cond, List, [], ◌∷◌, ◌++◌, map, length, Some, None, Ok, Err, Option, Result, sym, ap, ◌∙◌, subst, append_assoc}
use Rattle.std.proofs.lemmas.List.{append-nil, map-append}
use Rattle.refusals.specs.declared.Refusal.{Refusal}
use Rattle.commands.specs.Calls.{Call}
use Rattle.game.specs.Rules.{Rules}
use Rattle.books.specs.declared.table_books.Books.{Books}
use Rattle.sheet.specs.Format.{width_of}
use Rattle.sheet.specs.Items.{item_and, items, items_of, calls_in}
use Rattle.sheet.specs.Reading.{read_at}
use Rattle.table.specs.Calls.{either}
use Rattle.table.specs.Causes.{verdict}
use Rattle.table.specs.Entries.{writes}
use Rattle.table.specs.Promise.{turn_of}
use Rattle.table.specs.Tally.{Turn}
use Rattle.run.specs.declared.ended.Ended.{Ended}
use Rattle.run.specs.declared.ended.Ended.TheVariants.{SheetEnd, Unreadable, NoRoom}
use Rattle.run.specs.Meaning.{noted}
use Rattle.run.specs.Runs.{State, start, no_room, performed, runs, run_of}
use Rattle.terminal.specs.Pages.{calls_after}

abbrev pub calls_of : List Turn → List Call
calls_of us = map (λ u. u.call) us

-- unless a run stopped for want of room, the calls performed are these
abbrev AllOf : List Call → List Turn → Ended → Type 0
AllOf cs us NoRoom = Unit {0}
AllOf cs us _ = calls_of us ≡ cs

either_way : (cs : List Call) (t : Bool) (s : State) (x : State × Ended) → AllOf cs x.0.turns x.1 → AllOf cs (cond t (s, NoRoom) x).0.turns (cond t (s, NoRoom) x).1
either_way cs true s x h = tt
either_way cs false s x h = h

module _ (R : Rules) (sheet : List ℕ) where
  all_of : (n lf nf : ℕ) (s : State) (p : ℕ) → AllOf (calls_of s.turns ++ calls_in (items n sheet p)) (runs R lf nf s (items n sheet p)).0.turns (runs R lf nf s (items n sheet p)).1
  all_of zero lf nf s p = sym (append-nil (calls_of s.turns))
  all_of (suc n) lf nf s p = go (read_at sheet p) (λ lf' nf' s' p'. all_of n lf' nf' s' p')
    where
      go : (r : Result (Option Call) Refusal)
          → ((lf' nf' : ℕ) (s' : State) (p' : ℕ) → AllOf (calls_of s'.turns ++ calls_in (items n sheet p')) (runs R lf' nf' s' (items n sheet p')).0.turns (runs R lf' nf' s' (items n sheet p')).1)
          → AllOf (calls_of s.turns ++ calls_in (item_and (items n sheet) p r)) (runs R lf nf s (item_and (items n sheet) p r)).0.turns (runs R lf nf s (item_and (items n sheet) p r)).1
      go (Ok None) on = sym (append-nil (calls_of s.turns))
      go (Ok (Some c)) on =
          let v = verdict R s.books c lf in
          let x : Turn = turn_of R s.books c lf v in
          let rest : List Call = calls_in (items n sheet (p + width_of c)) in
          let next : State × Ended = runs R (lf - length (either v (writes R s.books c) [])) (nf - length (noted p v)) (performed R lf s p c v) (items n sheet (p + width_of c)) in
          let these : calls_of (s.turns ++ x ∷ []) ++ rest ≡ calls_of s.turns ++ c ∷ rest = ap (λ cs. cs ++ rest) (map-append (λ u. u.call) s.turns (x ∷ [])) ∙ append_assoc (calls_of s.turns) (c ∷ []) rest in
          either_way (calls_of s.turns ++ c ∷ rest) (no_room lf nf) s next
          (subst (λ cs. AllOf cs next.0.turns next.1) these (on (lf - length (either v (writes R s.books c) [])) (nf - length (noted p v)) (performed R lf s p c v) (p + width_of c)))
      go (Err e) on = either_way (calls_of s.turns ++ []) (no_room lf nf) s _ (sym (append-nil (calls_of s.turns)))

  -- so the calls of a sheet from a place on are those that the run performed, and then those that are still to come
  pub once_with : (b : Books) (p lf nf : ℕ) (ended : Ended) (p' : ℕ) → ended ≡ (run_of R sheet b p lf nf).1
      → calls_in (items_of sheet p) ≡ calls_of (run_of R sheet b p lf nf).0.turns ++ calls_in (items_of sheet p')
      → calls_in (items_of sheet p) ≡ calls_of (run_of R sheet b p lf nf).0.turns ++ calls_after sheet ended p'
  once_with b p lf nf ended p' ends once = go ended once (subst (AllOf (calls_in (items_of sheet p)) (run_of R sheet b p lf nf).0.turns) (sym ends) (all_of (length sheet) lf nf (start b p) p))
    where
      us : List Turn
      us = (run_of R sheet b p lf nf).0.turns

      go : (ended : Ended) → calls_in (items_of sheet p) ≡ calls_of us ++ calls_in (items_of sheet p') → AllOf (calls_in (items_of sheet p)) us ended → calls_in (items_of sheet p) ≡ calls_of us ++ calls_after sheet ended p'
      go SheetEnd once h = sym (append-nil (calls_of us) ∙ h)
      go (Unreadable e) once h = sym (append-nil (calls_of us) ∙ h)
      go NoRoom once h = once
