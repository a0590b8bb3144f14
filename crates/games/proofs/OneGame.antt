-- Conditions open one game only: whichever value stands for it, the rules are the same.
use Rattle.std.proofs.Common.{◌≡◌, ℕ, ◌≤◌, true, List, sym, refl, ap, ◌∙◌, subst, arith}
use Rattle.std.specs.Coded.{Coded-set, coded_bool}
use Rattle.poker.specs.Fortune.{fortune_rules}
use Rattle.poker.specs.Stud.{stud_rules}
use Rattle.makccarat.specs.declared.posted.Makccarat.{Makccarat}
use Rattle.makccarat.specs.declared.way.Way.{Way}
use Rattle.makccarat.specs.declared.way.Way.TheVariants.{First, Second}
use Rattle.makccarat.specs.Payment.{rules_of as makccarat_of}
use Rattle.makccarat.specs.Ways.{lawful_odds, tie_odds, pair_odds}
use Rattle.games.specs.declared.any_game.AnyGame.{AnyGame}
use Rattle.games.specs.declared.any_game.AnyGame.TheVariants.{Fortune, Stud, Makccarat as Of_makccarat}
use Rattle.games.specs.Opening.{way_number, Opens}
use Rattle.games.specs.Rules.{rules_of}

-- Makccarat in a way at its odds, with the proof that they are lawful, of which there is one only
played : (w : Way) (tie pairs : ℕ) → lawful_odds w tie pairs ≡ true → Makccarat
played w tie pairs lawful = record { way = w; tie = tie; pairs = pairs; posted = lawful }

one_way : (w w' : Way) (t t' p p' : ℕ) → w ≡ w' → t ≡ t' → p ≡ p' → (q : lawful_odds w t p ≡ true) (q' : lawful_odds w' t' p' ≡ true) → played w t p q ≡ played w' t' p' q'
one_way w w' t t' p p' e f h q =
    subst (λ w'. (q' : lawful_odds w' t' p' ≡ true) → played w t p q ≡ played w' t' p' q') e
    (subst (λ t'. (q' : lawful_odds w t' p' ≡ true) → played w t p q ≡ played w t' p' q') f
    (subst (λ p'. (q' : lawful_odds w t p' ≡ true) → played w t p q ≡ played w t p' q') h (λ q'. ap (played w t p) (Coded-set coded_bool _ _ q q'))))

one_number : (w w' : Way) → way_number w ≡ way_number w' → w ≡ w'
one_number First First e = refl
one_number First Second e = absurd (omega (arith, e))
one_number Second First e = absurd (omega (arith, e))
one_number Second Second e = refl

not_poker : (w : Way) (n : ℕ) → n ≤ 2 → n ≡ way_number w → ⊥
not_poker First n few e = omega (arith, e, few)
not_poker Second n few e = omega (arith, e, few)

pub same_rules : (number cap : ℕ) (odds : List ℕ) (g g' : AnyGame) → Opens number cap odds g → Opens number cap odds g' → rules_of g ≡ rules_of g'
unfolding played
same_rules number cap odds (Fortune g) (Fortune g') o o' = ap fortune_rules (o.1.posts ∙ sym o'.1.posts)
same_rules number cap odds (Stud g) (Stud g') o o' = ap stud_rules (o.1.posts ∙ sym o'.1.posts)
same_rules number cap odds (Of_makccarat g) (Of_makccarat g') o o' =
    let way : g.way ≡ g'.way = one_number g.way g'.way (sym o.0 ∙ o'.0) in
    let tie : g.tie ≡ g'.tie = o.1.tie ∙ ap (λ w. tie_odds w odds) way ∙ sym o'.1.tie in
    let pairs : g.pairs ≡ g'.pairs = o.1.pairs ∙ ap (λ w. pair_odds w odds) way ∙ sym o'.1.pairs in
    ap makccarat_of (one_way g.way g'.way g.tie g'.tie g.pairs g'.pairs way tie pairs g.posted g'.posted)
same_rules number cap odds (Fortune g) (Stud g') o o' = absurd (omega (arith, o.0, o'.0))
same_rules number cap odds (Stud g) (Fortune g') o o' = absurd (omega (arith, o.0, o'.0))
same_rules number cap odds (Fortune g) (Of_makccarat g') o o' = absurd (not_poker g'.way number (omega (arith, o.0)) o'.0)
same_rules number cap odds (Stud g) (Of_makccarat g') o o' = absurd (not_poker g'.way number (omega (arith, o.0)) o'.0)
same_rules number cap odds (Of_makccarat g) (Fortune g') o o' = absurd (not_poker g.way number (omega (arith, o'.0)) o.0)
same_rules number cap odds (Of_makccarat g) (Stud g') o o' = absurd (not_poker g.way number (omega (arith, o'.0)) o.0)
