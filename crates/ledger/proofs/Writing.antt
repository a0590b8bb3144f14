-- Records written behind those that a roll keeps: none, and some after others.
use Rattle.std.proofs.Common.{◌≡◌, ◌+◌, List, [], ◌++◌, length, drop, sym, refl, ap, ◌∙◌, append_assoc, length-append}
use Rattle.std.proofs.lemmas.List.{append-nil, drop-drop}
use Rattle.ledger.specs.declared.rolls.Roll.{Roll}
use Rattle.ledger.specs.Rolls.{lent, kept, Written}

pub written_none : {R : Type 0} (r : Roll R) → Written r r []
written_none r = record { kept_then = sym (append-nil (kept r)); beyond = refl; as_many = refl; same_slice = refl }

pub written_then : {R : Type 0} (r r' r'' : Roll R) (xs ys : List R) → Written r r' xs → Written r' r'' ys → Written r r'' (xs ++ ys)
written_then r r' r'' xs ys p q =
    let m = length (kept r') in
    let far : length (kept r'') ≡ m + length ys = ap length q.kept_then ∙ length-append (kept r') ys in
    let shift = λ (t : Roll _). ap (λ k. drop k (lent t)) far ∙ sym (drop-drop (length ys) m (lent t)) in
    record {
      kept_then = q.kept_then ∙ ap (λ zs. zs ++ ys) p.kept_then ∙ append_assoc (kept r) xs ys;
      beyond = q.beyond ∙ shift r' ∙ ap (drop (length ys)) p.beyond ∙ sym (shift r);
      as_many = q.as_many ∙ p.as_many;
      same_slice = q.same_slice ∙ p.same_slice;
    }
