use Rattle.std.proofs.Common.{◌≡◌, eqb, not, false, None, ap, ◌++◌, ◌∷◌, [], sym, ◌∙◌, subst}
use Rattle.std.specs.Option.{is_some}
use Rattle.std.proofs.lemmas.Bool.{ne_eqb}
use mathlib.Core.Bool.{false≢true}
use Rattle.grade.specs.States.{IsLineWith}
use Rattle.grade.proofs.LineStates.{blank_taken, byte_taken, blank_no_bar}
use Rattle.grade.proofs.line.Line.take.Goals as goal
use Rattle.grade.proofs.line.Line.take.Goals.{else-byte-eq124-via-then-byte-eq124+else-is_none, else-byte-eq124-via-else-byte-eq124}

pub returns-then-is_blank : goal.returns-then-is_blank
returns-then-is_blank c = λ bytes l.
    let old = c.args.self.now in
    let new = c.end_word.new.self in
    let after = bytes ++ c.args.byte ∷ [] in
    let blank = sym c.is_blank.ensures ∙ c.if-is_blank.true in
    let taken = blank_taken old.before old.hand new.hand old.word bytes c.args.byte blank (blank_no_bar c.args.byte blank) c.end_word.ensures.hand l in
    subst (λ b. IsLineWith b new.hand new.word after) (sym c.end_word.ensures.before)
    (subst (λ w. IsLineWith old.before new.hand w after) (sym c.end_word.ensures.word) taken)

pub returns-else-byte-eq124 : goal.returns-else-byte-eq124
returns-else-byte-eq124 c = λ bytes l.
    let old = c.args.self.now in
    let free : old.before ≡ None → eqb c.args.byte 124 ≡ false = λ e. elim c.else-byte-eq124.branch [
      | else-byte-eq124-via-then-byte-eq124+else-is_none w ↦ absurd (false≢true (sym (ap is_some e) ∙ w.is_none.ensures ∙ ap not w.if-is_none.false))
      | else-byte-eq124-via-else-byte-eq124 w ↦ ne_eqb c.args.byte 124 w.if-byte-eq124.false
    ] in
    byte_taken old.before old.hand old.word c.with-self.result bytes c.args.byte (sym c.is_blank.ensures ∙ c.if-is_blank.false) free c.with-self.ensures l
