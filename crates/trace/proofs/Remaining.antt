-- What is still to be printed, before and after one command.
use Rattle.std.proofs.Common.{◌≡◌, ℕ, ◌+◌, ◌≤◌, List, [], ◌∷◌, ◌++◌, length, Some, None, Ok, Err, Option, Result, sym, ap, ◌∙◌, append_assoc}
use Rattle.std.specs.Prelude.{OnOk, is_ok, if◌then◌else◌}
use Rattle.std.proofs.lemmas.List.{append-nil}
use Rattle.refusals.specs.declared.Refusal.{Refusal}
use Rattle.commands.specs.Calls.{Call}
use Rattle.game.specs.declared.interface.Game.{Ghosts}
use Rattle.lines.specs.Lines.{printed_note}
use Rattle.sheet.specs.Format.{width_of}
use Rattle.sheet.specs.Items.{item_and, items_of}
use Rattle.sheet.specs.Reading.{longest, read_at}
use Rattle.sheet.proofs.Items.{items_step}
use Rattle.history.specs.declared.histories.History.{History}
use Rattle.history.specs.Histories.{rules_at, turns_at}
use Rattle.trace.specs.Traces.{step_text, trace_text, text_from, turn_on, table_after, Stepped}

module _ {G : Type 0} (g : Ghosts G) (n : ℕ) (sheet : List ℕ) (short : length sheet ≤ longest) (h : History G g) (p : ℕ) where
  text_here : (r : Result (Option Call) Refusal) → read_at sheet p ≡ r → text_from g h n sheet p ≡ trace_text (rules_at g h) h.opening n (turns_at g h) h.table.books (item_and (items_of sheet) p r)
  text_here r e = ap (trace_text (rules_at g h) h.opening n (turns_at g h) h.table.books) (items_step sheet short p ∙ ap (item_and (items_of sheet) p) e)

  -- nothing is left at the end
  pub text_ends : read_at sheet p ≡ Ok None → text_from g h n sheet p ≡ []
  text_ends e = text_here (Ok None) e

  -- what cannot be read is noted
  pub text_faults : (x : Refusal) → read_at sheet p ≡ Err x → text_from g h n sheet p ≡ printed_note (record { place = p; refusal = x })
  text_faults x e = text_here (Err x) e

  -- a command is printed, and then what is left behind it
  pub text_steps : (c : Call) (h' : History G g) → read_at sheet p ≡ Ok (Some c) → Stepped g h n c h'
      → text_from g h n sheet p ≡ step_text (rules_at g h) h.opening n (turns_at g h) h.table.books p c ++ text_from g h' n sheet (p + width_of c)
  text_steps c h' e s =
      let R = rules_at g h in
      let o = h.opening in
      let is = items_of sheet (p + width_of c) in
      let rest : trace_text R o n (turns_at g h ++ turn_on R o n h.table.books c ∷ []) (table_after R o n h.table.books c) is ≡ text_from g h' n sheet (p + width_of c) =
      ap (λ us. trace_text R o n us (table_after R o n h.table.books c) is) (sym s.turns)
      ∙ ap (λ b. trace_text R o n (turns_at g h') b is) (sym s.books)
      ∙ ap (λ q. trace_text R q n (turns_at g h') h'.table.books is) (sym s.opening)
      ∙ ap (λ x. trace_text (g.rules x) h'.opening n (turns_at g h') h'.table.books is) (sym s.game) in
      text_here (Ok (Some c)) e ∙ ap (λ t. step_text R o n (turns_at g h) h.table.books p c ++ t) rest

  -- with what was printed before: a command more, the end, or a note
  module _ (page start : List ℕ) (left : page ++ text_from g h n sheet p ≡ start) where
    pub left_steps : (c : Call) (h' : History G g) (n' : ℕ) (sheet' : List ℕ) (p' : ℕ) (page' : List ℕ) → Ok (Some c) ≡ read_at sheet p → Stepped g h n c h'
        → page' ≡ page ++ step_text (rules_at g h) h.opening n (turns_at g h) h.table.books p c → n' ≡ n → sheet' ≡ sheet → p' ≡ p + width_of c → page' ++ text_from g h' n' sheet' p' ≡ start
    left_steps c h' n' sheet' p' page' e s printed en es ep =
        ap (λ x. page' ++ text_from g h' x sheet' p') en
        ∙ ap (λ x. page' ++ text_from g h' n x p') es
        ∙ ap (λ x. page' ++ text_from g h' n sheet x) ep
        ∙ ap (λ x. x ++ text_from g h' n sheet (p + width_of c)) printed
        ∙ append_assoc page (step_text (rules_at g h) h.opening n (turns_at g h) h.table.books p c) (text_from g h' n sheet (p + width_of c))
        ∙ ap (λ t. page ++ t) (sym (text_steps c h' (sym e) s))
        ∙ left

    pub left_ends : Ok None ≡ read_at sheet p → page ≡ start
    left_ends e = sym (append-nil page) ∙ ap (λ t. page ++ t) (sym (text_ends (sym e))) ∙ left

    pub left_faults : {A E : Type 0} (r : Result A E) (x : Refusal) (page' : List ℕ) → Err x ≡ read_at sheet p → page' ≡ (if is_ok r then page ++ printed_note (record { place = p; refusal = x }) else page) → OnOk r (page' ≡ start)
    left_faults (Ok v) x page' e printed = printed ∙ ap (λ t. page ++ t) (sym (text_faults x (sym e))) ∙ left
    left_faults (Err v) x page' e printed = tt
