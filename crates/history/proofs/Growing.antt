-- The turns of a history with one more call.
use Rattle.std.proofs.Common.{◌≡◌, ◌+◌, cond, List, [], ◌∷◌, ◌++◌, length, is_ok, sym, refl, ap, ◌∙◌, subst, length-append}
use Rattle.std.proofs.lemmas.List.Sums.{sum_by_push}
use Rattle.commands.specs.Calls.{call_of}
use Rattle.game.specs.Rules.{Rules}
use Rattle.ledger.specs.declared.entries.Entry.{Entry}
use Rattle.ledger.specs.declared.rolls.Roll.{Roll}
use Rattle.ledger.specs.Rolls.{free}
use Rattle.books.specs.declared.table_books.Books.{Books}
use Rattle.table.specs.Calls.{either}
use Rattle.table.specs.Effects.{after}
use Rattle.table.specs.declared.opening.Opening.{Opening}
use Rattle.table.specs.Performing.{Performed}
use Rattle.table.specs.Promise.{opened, turn_of, led, Reached}
use Rattle.table.specs.Tally.{is_accepted, brings, takes_away, brought, taken}
use Rattle.history.specs.declared.past_calls.PastCall.{PastCall}
use Rattle.history.specs.Turns.{turns_on, turns_of, deposited_by, withdrawn_by}

pub turns_more : (R : Rules) (b : Books) (ps : List PastCall) (p : PastCall) → turns_on R b (ps ++ p ∷ []) ≡ turns_on R b ps ++ turn_of R (led R b (turns_on R b ps)) (call_of p.command) p.free p.answer ∷ []
turns_more R b [] p = refl
turns_more R b (q ∷ ps) p =
    ap (λ us. turn_of R b (call_of q.command) q.free q.answer ∷ us) (turns_more R (either q.answer (after R b (call_of q.command)) b) ps p)

-- one more call on a table that a history led to
module _ (R : Rules) (o : Opening) (ps : List PastCall) (p : PastCall) (b b' : Books) (l l' : Roll Entry) (h : Reached R o (turns_of R o ps) b) (d : Performed R b l (call_of p.command) p.answer b' l') (e : p.free ≡ free l) where
  pub turns_grow : turns_of R o (ps ++ p ∷ []) ≡ turns_of R o ps ++ turn_of R b (call_of p.command) (free l) p.answer ∷ []
  turns_grow =
      turns_more R (opened o) ps p
      ∙ ap (λ x. turns_of R o ps ++ turn_of R x (call_of p.command) p.free p.answer ∷ []) (sym h.leads)
      ∙ ap (λ n. turns_of R o ps ++ turn_of R b (call_of p.command) n p.answer ∷ []) e

  pub reached_grows : Reached R o (turns_of R o (ps ++ p ∷ [])) b'
  reached_grows = subst (λ us. Reached R o us b') (sym turns_grow) (d.leads o (turns_of R o ps) h)

  pub brought_grows : brought (turns_of R o (ps ++ p ∷ [])) ≡ brought (turns_of R o ps) + cond (is_ok p.answer) (brings (call_of p.command)) 0
  brought_grows =
      ap brought turns_grow ∙ sum_by_push (λ u. cond (is_accepted u) (brings u.call) 0) (turns_of R o ps) (turn_of R b (call_of p.command) (free l) p.answer)

  pub taken_grows : taken (turns_of R o (ps ++ p ∷ [])) ≡ taken (turns_of R o ps) + cond (is_ok p.answer) (takes_away (call_of p.command)) 0
  taken_grows =
      ap taken turns_grow ∙ sum_by_push (λ u. cond (is_accepted u) (takes_away u.call) 0) (turns_of R o ps) (turn_of R b (call_of p.command) (free l) p.answer)

-- a history before and after one more call, at a game whose rules stay
pub record Grown (R R' : Rules) (o : Opening) (ps ps' : List PastCall) (p : PastCall) (b b' : Books) (l : Roll Entry) : Type 0 where
  pub turns : turns_of R' o ps' ≡ turns_of R o ps ++ turn_of R b (call_of p.command) (free l) p.answer ∷ []
  pub reached : Reached R' o (turns_of R' o ps') b'
  pub brings : brought (turns_of R' o ps') ≡ brought (turns_of R o ps) + deposited_by p
  pub takes : taken (turns_of R' o ps') ≡ taken (turns_of R o ps) + withdrawn_by p
  pub long : length ps' ≡ length ps + 1

pub grown : {G : Type 0} (rules : G → Rules) (game game' : G) → game' ≡ game → (o : Opening) (ps ps' : List PastCall) (p : PastCall) → ps' ≡ ps ++ p ∷ [] → (b b' : Books) (l l' : Roll Entry)
    → Reached (rules game) o (turns_of (rules game) o ps) b → Performed (rules game) b l (call_of p.command) p.answer b' l' → p.free ≡ free l → Grown (rules game) (rules game') o ps ps' p b b' l
grown rules game game' same o ps ps' p more b b' l l' h d e =
    let R = rules game in
    subst (λ x. Grown R (rules x) o ps ps' p b b' l) (sym same)
    (subst (λ x. Grown R R o ps x p b b' l) (sym more)
    (record {
      turns = turns_grow R o ps p b b' l l' h d e;
      reached = reached_grows R o ps p b b' l l' h d e;
      brings = brought_grows R o ps p b b' l l' h d e;
      takes = taken_grows R o ps p b b' l l' h d e;
      long = length-append ps (p ∷ []);
    }))
