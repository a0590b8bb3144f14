-- What is printed is what was performed.
use Rattle.std.specs.Prelude.{OnOk}
use Rattle.std.proofs.Common.{◌≡◌, length, [], ◌∷◌, ◌++◌, ap, ◌∙◌, subst, arith}
use Rattle.commands.specs.Calls.{call_of, name_of}
use Rattle.lines.specs.Lines.{with_feed, printed_entry, lines_of}
use Rattle.ledger.specs.Rolls.{places}
use Rattle.table.specs.Causes.{verdict}
use Rattle.history.specs.Histories.{rules_at, turns_at}
use Rattle.history.specs.Positions.{position_of, position_at}
use Rattle.trace.specs.Lines.{answered_line, position_text}
use Rattle.trace.specs.Traces.{turn_on, table_after}
use Rattle.trace.proofs.Appending.{last_printed, on_any}
use Rattle.trace.proofs.Stepping.{says}
use Rattle.trace.proofs.tracing.step.Goals as goal

pub returns-clause-printed : goal.returns-clause-printed
returns-clause-printed g c =
    let h = c.args.history.now in
    let h' = c.perform.new.self in
    let R = rules_at g.G.Game h in
    let b = h.table.books in
    let call = call_of c.args.command in
    let n = places c.args.ledger.now in
    let k = c.in_ok-answer.ensures.history in
    let s = says R h.opening n b call c.clear.new.self c.perform.new.ledger c.in_ok-answer.answer h'.table.books c.in_ok-answer.ensures.performed c.clear.ensures.kept (omega (arith, c.clear.ensures.places, ap length c.clear.ensures.kept)) in
    let after_us = k.turns ∙ ap (λ u. turns_at g.G.Game h ++ u ∷ []) s.turn in
    let position : position_at g.G.Game h' ≡ position_of h.opening (turns_at g.G.Game h ++ turn_on R h.opening n b call ∷ []) (table_after R h.opening n b call) =
    ap (λ o. position_of o (turns_at g.G.Game h') h'.table.books) k.opening ∙ ap (λ us. position_of h.opening us h'.table.books) after_us ∙ ap (position_of h.opening (turns_at g.G.Game h ++ turn_on R h.opening n b call ∷ [])) s.books in
    last_printed c.print_position.result c.args.page.now.items
    (with_feed (answered_line c.args.place (name_of call) (verdict R b call n)))
    (lines_of printed_entry (turn_on R h.opening n b call).entries)
    (position_text (position_of h.opening (turns_at g.G.Game h ++ turn_on R h.opening n b call ∷ []) (table_after R h.opening n b call)))
    c.print.new.page.items c.print_all.new.page.items c.print_position.new.page.items
    (c.in_ok-print.ensures
    ∙ ap (λ w. c.args.page.now.items ++ with_feed (answered_line c.args.place w c.in_ok-answer.answer)) c.name.ensures
    ∙ ap (λ r. c.args.page.now.items ++ with_feed (answered_line c.args.place (name_of call) r)) s.answer)
    (c.in_ok-print_all.ensures.lines ∙ ap (λ es. c.print.new.page.items ++ lines_of printed_entry es) (c.records.ensures ∙ s.entries))
    (subst (λ p. OnOk c.print_position.result (c.print_position.new.page.items ≡ c.print_all.new.page.items ++ position_text p)) (c.position.ensures.position ∙ position) c.print_position.ensures)

pub returns-clause-history : goal.returns-clause-history
returns-clause-history g c =
    let h = c.args.history.now in
    let k = c.in_ok-answer.ensures.history in
    let s = says (rules_at g.G.Game h) h.opening (places c.args.ledger.now) h.table.books (call_of c.args.command) c.clear.new.self c.perform.new.ledger c.in_ok-answer.answer _ c.in_ok-answer.ensures.performed c.clear.ensures.kept (omega (arith, c.clear.ensures.places, ap length c.clear.ensures.kept)) in
    on_any c.print_position.result (record { game = k.game; opening = k.opening; turns = k.turns ∙ ap (λ u. turns_at g.G.Game h ++ u ∷ []) s.turn; books = s.books })

pub returns-clause-ledger : goal.returns-clause-ledger
returns-clause-ledger g c =
    let h = c.args.history.now in
    let s = says (rules_at g.G.Game h) h.opening (places c.args.ledger.now) h.table.books (call_of c.args.command) c.clear.new.self c.perform.new.ledger c.in_ok-answer.answer _ c.in_ok-answer.ensures.performed c.clear.ensures.kept (omega (arith, c.clear.ensures.places, ap length c.clear.ensures.kept)) in
    on_any c.print_position.result s.entries
