-- Rows of cards that have like points at their first places: what of a round these decide.
use Rattle.std.proofs.Common.{◌≡◌, ℕ, ◌+◌, ◌%◌, ◌<◌, ◌≤◌, Bool, true, false, cond, List, [], ◌∷◌, ◌++◌, get_or, Some, None, sum_by, Option, refl, ap, ◌∙◌, arith, lit<}
use Rattle.std.proofs.lemmas.List.Sums.{sum_by-append}
use Rattle.std.proofs.lemmas.Bool.{true≢false, false≢true}
use Rattle.makccarat.specs.declared.side.Side.{Side}
use Rattle.makccarat.specs.declared.side.Side.TheVariants.{Player, Banker}
use Rattle.makccarat.specs.declared.way.Way.{Way}
use Rattle.makccarat.specs.Cards.{points}
use Rattle.makccarat.specs.Sides.{other, same}
use Rattle.makccarat.specs.Round.{total, first_two, first_total, fifth, sixth, first_adder, adder, answers, answered, called, called_after, added_after, final_total}

-- like points at the first k places
abbrev pub Alike : ℕ → List ℕ → List ℕ → Type 0
Alike k cs ds = (i : ℕ) → i < k → points (get_or cs i 0) ≡ points (get_or ds i 0)

-- fewer places are alike too
fewer : (j k : ℕ) (cs ds : List ℕ) → j ≤ k → Alike k cs ds → Alike j cs ds
fewer j k cs ds h like i l = like i (omega arith)

module _ (cs ds : List ℕ) where
  -- a side's first two cards have like points
  first_points_alike : Alike 4 cs ds → (s : Side) → sum_by points (first_two cs s) ≡ sum_by points (first_two ds s)
  first_points_alike like Player = let a = like 0 (lit< tt) in let b = like 2 (lit< tt) in cc
  first_points_alike like Banker = let a = like 1 (lit< tt) in let b = like 3 (lit< tt) in cc

  -- a side's first two cards and like points more have one total
  total_alike : Alike 4 cs ds → (s : Side) (xs ys : List ℕ) → sum_by points xs ≡ sum_by points ys → total (first_two cs s ++ xs) ≡ total (first_two ds s ++ ys)
  total_alike like s xs ys more =
      let a = sum_by-append points (first_two cs s) xs in
      let b = sum_by-append points (first_two ds s) ys in
      let p = first_points_alike like s in
      cc

  -- the first totals, by four places
  first_total_alike : Alike 4 cs ds → (s : Side) → first_total cs s ≡ first_total ds s
  first_total_alike like s = ap (λ n. n % 10) (first_points_alike like s)

  -- who adds first, by four places
  pub adder_alike : Alike 4 cs ds → adder cs ≡ adder ds
  adder_alike like =
      ap (λ x. first_adder x (first_total cs Banker)) (first_total_alike like Player)
      ∙ ap (first_adder (first_total ds Player)) (first_total_alike like Banker)

  -- whether the other side adds too, by five places
  answered_alike : Alike 5 cs ds → (w : Way) (s : Side) → answered w cs s ≡ answered w ds s
  answered_alike like w s =
      let four = fewer 4 5 cs ds (omega arith) like in
      let added : sum_by points (fifth cs ∷ []) ≡ sum_by points (fifth ds ∷ []) = ap (λ x. 0 + x) (like 4 (lit< tt)) in
      ap (λ x. answers w x (total (first_two cs s ++ fifth cs ∷ [])) (first_total cs (other s))) (first_total_alike four s)
      ∙ ap (λ x. answers w (first_total ds s) x (first_total cs (other s))) (total_alike four s (fifth cs ∷ []) (fifth ds ∷ []) added)
      ∙ ap (answers w (first_total ds s) (total (first_two ds s ++ fifth ds ∷ []))) (first_total_alike four (other s))

  -- the number of cards called for, by five places
  pub called_alike : Alike 5 cs ds → (w : Way) → called w cs ≡ called w ds
  called_alike like w = ap (called_after w cs) (adder_alike (fewer 4 5 cs ds (omega arith) like)) ∙ after (adder ds)
    where
      after : (o : Option Side) → called_after w cs o ≡ called_after w ds o
      after None = refl
      after (Some s) = ap (λ b. cond {A = ℕ} b 6 5) (answered_alike like w s)

  -- the final totals, by six places
  pub final_total_alike : Alike 6 cs ds → (w : Way) (s : Side) → final_total w cs s ≡ final_total w ds s
  final_total_alike like w s =
      ap (λ o. total (first_two cs s ++ added_after w cs s o)) (adder_alike four)
      ∙ total_alike four s (added_after w cs s (adder ds)) (added_after w ds s (adder ds)) (after (adder ds))
    where
      four : Alike 4 cs ds
      four = fewer 4 6 cs ds (omega arith) like

      cards : (b x y : Bool) → x ≡ y → sum_by points (cond b (fifth cs ∷ []) (cond x (sixth cs ∷ []) [])) ≡ sum_by points (cond b (fifth ds ∷ []) (cond y (sixth ds ∷ []) []))
      cards true x y e = ap (λ n. 0 + n) (like 4 (lit< tt))
      cards false true true e = ap (λ n. 0 + n) (like 5 (lit< tt))
      cards false false false e = refl
      cards false true false e = absurd (true≢false e)
      cards false false true e = absurd (false≢true e)

      after : (o : Option Side) → sum_by points (added_after w cs s o) ≡ sum_by points (added_after w ds s o)
      after None = refl
      after (Some t) = cards (same s t) (answered w cs t) (answered w ds t) (answered_alike (fewer 5 6 cs ds (omega arith) like) w t)
