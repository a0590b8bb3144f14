use Rattle.std.proofs.Common.{◌≡◌, ℕ, Bool, true, false, cond, Some, None, [], ◌∷◌, refl, lit<, ap, ◌∙◌, rules, tests}
use Rattle.std.specs.List.{find, list_any}
use Rattle.std.specs.Option.{unwrap_or, option_map}
use Rattle.std.proofs.lemmas.Iterator.Adapters.{YieldsList-from_rev_slice}
use Rattle.std.proofs.lemmas.Iterator.Search.{find_from_yields_List}
use Rattle.grading.specs.Cards.{is_of}
use Rattle.grading.proofs.Each.{any_is_held}
use Rattle.grading.proofs.cards.highest_suit.Goals as goal

-- the first that is held, downward, or 0
first_held : (a b c d : Bool) → ◌≡◌ {A = ℕ} (unwrap_or (cond a (Some 3) (cond b (Some 2) (cond c (Some 1) (cond d (Some 0) None)))) 0) (cond a 3 (cond b 2 (cond c 1 0)))
first_held true b c d = refl
first_held false true c d = refl
first_held false false true d = refl
first_held false false false true = refl
first_held false false false false = refl

pub returns : goal.returns
returns c =
    let cs = c.args.cards.now in
    let r = c.args.rank in
    let found : option_map (λ x. x.now) c.find.result ≡ find (λ s. list_any (is_of r s) cs) (3 ∷ 2 ∷ 1 ∷ 0 ∷ []) =
    find_from_yields_List (λ s. list_any (is_of r s) cs) _ _ c.find.result c.find.ensures.ran (YieldsList-from_rev_slice (0 ∷ 1 ∷ 2 ∷ 3 ∷ []) cc) (λ x b q k. search (rules, tests)) in
    c.unwrap_or.ensures
    ∙ ap (λ o. unwrap_or o 0) (c.copied.ensures ∙ found)
    ∙ first_held (list_any (is_of r 3) cs) (list_any (is_of r 2) cs) (list_any (is_of r 1) cs) (list_any (is_of r 0) cs)
    ∙ (λ i. cond (any_is_held r 3 (lit< tt) cs i) 3 (cond (any_is_held r 2 (lit< tt) cs i) 2 (cond (any_is_held r 1 (lit< tt) cs i) 1 0)))
