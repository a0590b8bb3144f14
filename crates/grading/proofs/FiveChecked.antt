-- Five ranks from the highest: the code's class and ranks are the rule's, and the cards are of that class and of no other. Tested at all ranks is
-- only how often each is held; the rest goes by which ranks are alike.
use Rattle.std.proofs.Common.{◌≡◌, ℕ, zero, suc, ◌+◌, ◌-◌, ◌<◌, ◌≤◌, Bool, true, false, cond, ◌&&◌, ◌||◌, T, eqb, List, [], ◌∷◌, Some, None, Option, sym, refl, ap, ◌∙◌, subst, arith, lit<, eqb→eq}
use Rattle.std.proofs.lemmas.Bool.Decides.{nat_tests}
use Rattle.grading.specs.Ranks.{Held, held, runs_of_five, sequence}
use Rattle.grading.specs.Steps.{head_at, five_at, five_paired, five_apart, five_sorted}
use Rattle.grading.specs.Five.{five_is, five_class_by, five_ranked_at, five_ranked_by}
use Rattle.grading.specs.FiveClasses.{five_below}
use Rattle.grading.specs.declared.five.Ranked.{Ranked}
use Rattle.grading.specs.declared.five_classes.FiveClass.{FiveClass}
use Rattle.grading.specs.declared.five_classes.FiveClass.TheVariants.{RoyalFlush, StraightFlush, Four, FullHouse, Flush, Straight, Three, TwoPairs, Pair, OddCards}
use Rattle.grading.proofs.Alone.{Alone, Counted, tested, class_from_lower, alone}
use Rattle.grading.proofs.Finite.{both, both_left, both_right, below, below_at, same_list, list_from_same, among}

abbrev numbered : ℕ → FiveClass
numbered zero = OddCards
numbered (suc zero) = Pair
numbered (suc (suc zero)) = TwoPairs
numbered (suc (suc (suc zero))) = Three
numbered (suc (suc (suc (suc zero)))) = Straight
numbered (suc (suc (suc (suc (suc zero))))) = Flush
numbered (suc (suc (suc (suc (suc (suc zero)))))) = FullHouse
numbered (suc (suc (suc (suc (suc (suc (suc zero))))))) = Four
numbered (suc (suc (suc (suc (suc (suc (suc (suc zero)))))))) = StraightFlush
numbered (suc (suc (suc (suc (suc (suc (suc (suc (suc n))))))))) = RoyalFlush

back : (k : FiveClass) → numbered (five_below k) ≡ k
back RoyalFlush = refl
back StraightFlush = refl
back Four = refl
back FullHouse = refl
back Flush = refl
back Straight = refl
back Three = refl
back TwoPairs = refl
back Pair = refl
back OddCards = refl

few : (k : FiveClass) → five_below k < 10
few RoyalFlush = lit< tt
few StraightFlush = lit< tt
few Four = lit< tt
few FullHouse = lit< tt
few Flush = lit< tt
few Straight = lit< tt
few Three = lit< tt
few TwoPairs = lit< tt
few Pair = lit< tt
few OddCards = lit< tt

counted : Counted five_below numbered 10
counted = record { back = back; few = few }

-- the ranks held once, twice, three times and four times
abbrev holding : List ℕ → List ℕ → List ℕ → List ℕ → Held
holding o w t f = record { ones = o; twos = w; threes = t; fours = f }

-- ---- the ranks that are held so often, told by which of five ranks, from the highest, are alike

abbrev held_paired : ℕ → ℕ → ℕ → ℕ → ℕ → Held
held_paired a b c d e =
    cond (eqb a b && eqb c d) (holding (e ∷ []) (a ∷ c ∷ []) [] [])
    (cond (eqb a b && eqb d e) (holding (c ∷ []) (a ∷ d ∷ []) [] [])
    (cond (eqb b c && eqb d e) (holding (a ∷ []) (b ∷ d ∷ []) [] [])
    (cond (eqb a b) (holding (c ∷ d ∷ e ∷ []) (a ∷ []) [] [])
    (cond (eqb b c) (holding (a ∷ d ∷ e ∷ []) (b ∷ []) [] [])
    (cond (eqb c d) (holding (a ∷ b ∷ e ∷ []) (c ∷ []) [] [])
    (holding (a ∷ b ∷ c ∷ []) (d ∷ []) [] []))))))

abbrev held_sorted : ℕ → ℕ → ℕ → ℕ → ℕ → Held
held_sorted a b c d e =
    cond (eqb a d || eqb b e) (cond (eqb a e) (holding [] [] [] (c ∷ [])) (cond (eqb a d) (holding (e ∷ []) [] [] (c ∷ [])) (holding (a ∷ []) [] [] (c ∷ []))))
    (cond ((eqb a c && eqb d e) || (eqb a b && eqb c e)) (cond (eqb a c) (holding [] (d ∷ []) (c ∷ []) []) (holding [] (a ∷ []) (c ∷ []) []))
    (cond (eqb a c || (eqb b d || eqb c e)) (cond (eqb a c) (holding (d ∷ e ∷ []) [] (c ∷ []) []) (cond (eqb b d) (holding (a ∷ e ∷ []) [] (c ∷ []) []) (holding (a ∷ b ∷ []) [] (c ∷ []) [])))
    (cond (eqb a b || (eqb b c || (eqb c d || eqb d e))) (held_paired a b c d e)
    (holding (a ∷ b ∷ c ∷ d ∷ e ∷ []) [] [] []))))

abbrev same : Held → Held → Bool
same g h = both (same_list g.ones h.ones) (both (same_list g.twos h.twos) (both (same_list g.threes h.threes) (same_list g.fours h.fours)))

from_same : (g h : Held) → T (same g h) → g ≡ h
from_same g h t =
    let more = both_right (same_list g.ones h.ones) _ t in
    let most = both_right (same_list g.twos h.twos) _ more in
    let ones : g.ones ≡ h.ones = list_from_same _ _ (both_left (same_list g.ones h.ones) _ t) in
    let twos : g.twos ≡ h.twos = list_from_same _ _ (both_left (same_list g.twos h.twos) _ more) in
    let threes : g.threes ≡ h.threes = list_from_same _ _ (both_left (same_list g.threes h.threes) _ most) in
    let fours : g.fours ≡ h.fours = list_from_same _ _ (both_right (same_list g.threes h.threes) _ most) in
    λ i. record { ones = ones i; twos = twos i; threes = threes i; fours = fours i }

abbrev agrees : ℕ → ℕ → ℕ → ℕ → ℕ → Bool
agrees a b c d e = same (held_sorted a b c d e) (held (among (a ∷ b ∷ c ∷ d ∷ e ∷ [])))

abbrev at_e : ℕ → ℕ → ℕ → ℕ → ℕ → Bool
at_e a b c d e = agrees (a + 2) (b + 2) (c + 2) (d + 2) (e + 2)

abbrev at_d : ℕ → ℕ → ℕ → ℕ → Bool
at_d a b c d = below (suc d) (at_e a b c d)

abbrev at_c : ℕ → ℕ → ℕ → Bool
at_c a b c = below (suc c) (at_d a b c)

abbrev at_b : ℕ → ℕ → Bool
at_b a b = below (suc b) (at_c a b)

abbrev at_a : ℕ → Bool
at_a a = below (suc a) (at_b a)

-- the test, at the 6,188 choices of five ranks from the highest
every : T (below 13 at_a)
unfolding held
every = tt

-- ranks from the highest
pub record Falling (a b c d e : ℕ) : Type 0 where
  pub highest : a ≤ 14
  pub b_falls : b ≤ a
  pub c_falls : c ≤ b
  pub d_falls : d ≤ c
  pub e_falls : e ≤ d
  pub lowest : 2 ≤ e

held_is_sorted : (a b c d e : ℕ) → Falling a b c d e → held_sorted a b c d e ≡ held (among (a ∷ b ∷ c ∷ d ∷ e ∷ []))
held_is_sorted a b c d e f =
    let back_up : (n : ℕ) → 2 ≤ n → n - 2 + 2 ≡ n = λ n h. omega arith in
    let t_a : T (at_a (a - 2)) = below_at 13 at_a every (a - 2) (omega arith) in
    let t_b : T (at_b (a - 2) (b - 2)) = below_at (suc (a - 2)) (at_b (a - 2)) t_a (b - 2) (omega arith) in
    let t_c : T (at_c (a - 2) (b - 2) (c - 2)) = below_at (suc (b - 2)) (at_c (a - 2) (b - 2)) t_b (c - 2) (omega arith) in
    let t_d : T (at_d (a - 2) (b - 2) (c - 2) (d - 2)) = below_at (suc (c - 2)) (at_d (a - 2) (b - 2) (c - 2)) t_c (d - 2) (omega arith) in
    let t_e : T (at_e (a - 2) (b - 2) (c - 2) (d - 2) (e - 2)) = below_at (suc (d - 2)) (at_e (a - 2) (b - 2) (c - 2) (d - 2)) t_d (e - 2) (omega arith) in
    let s_a = subst (λ x. T (agrees x (b - 2 + 2) (c - 2 + 2) (d - 2 + 2) (e - 2 + 2))) (back_up a (omega arith)) t_e in
    let s_b = subst (λ x. T (agrees a x (c - 2 + 2) (d - 2 + 2) (e - 2 + 2))) (back_up b (omega arith)) s_a in
    let s_c = subst (λ x. T (agrees a b x (d - 2 + 2) (e - 2 + 2))) (back_up c (omega arith)) s_b in
    let s_d = subst (λ x. T (agrees a b c x (e - 2 + 2))) (back_up d (omega arith)) s_c in
    from_same _ _ (subst (λ x. T (agrees a b c d x)) (back_up e (omega arith)) s_d)

-- ---- the class and the ranks of such a hand

-- cards are of this class, and of no other
abbrev Sole : Bool → Option ℕ → Held → FiveClass → Type 0
Sole level head h k = Alone (λ j. five_is j head h level) k

-- x is the rule's class and ranks of cards that hold these ranks, and they are of no other class
record Ruled (level : Bool) (head : Option ℕ) (h : Held) (x : Ranked) : Type 0 where
  ranked : x ≡ five_ranked_by head h level
  sole : Sole level head h (five_class_by head h level)

abbrev checked : Bool → Option ℕ → Held → FiveClass → Bool
checked level head h k = tested five_below numbered 10 (λ j. five_is j head h level) k

-- where the class computes to k
ruled : (level : Bool) (head : Option ℕ) (h : Held) (x : Ranked) (k : FiveClass) → five_class_by head h level ≡ k → x ≡ five_ranked_at k head h → T (checked level head h k) → Ruled level head h x
ruled level head h x k c r t = record {
  ranked = r ∙ ap (λ y. five_ranked_at y head h) (sym c);
  sole = subst (Sole level head h) (sym c) (alone five_below numbered 10 counted (λ j. five_is j head h level) k t);
}

module _ (level : Bool) where
  abbrev Right : Held → Ranked → Type 0
  Right h x = Ruled level (sequence runs_of_five h.ones) h x

  by_cond : (t : Bool) (g h : Held) (x y : Ranked) → Right g x → Right h y → Right (cond t g h) (cond t x y)
  by_cond true g h x y p q = p
  by_cond false g h x y p q = q

  by_last : (t : Bool) (g h : Held) (x y : Ranked) → Right g x → (t ≡ false → Right h y) → Right (cond t g h) (cond t x y)
  by_last true g h x y p q = p
  by_last false g h x y p q = q refl

  by_held : (t : Bool) (g h : Held) (x : Ranked) → Right g x → Right h x → Right (cond t g h) x
  by_held true g h x p q = p
  by_held false g h x p q = q

  module _ (a b c d e : ℕ) where
    paired_right : Right (held_paired a b c d e) (five_paired a b c d e)
    unfolding sequence
    paired_right =
        by_cond (eqb a b && eqb c d) _ _ _ _ (ruled level None _ _ TwoPairs refl refl tt)
        (by_cond (eqb a b && eqb d e) _ _ _ _ (ruled level None _ _ TwoPairs refl refl tt)
        (by_cond (eqb b c && eqb d e) _ _ _ _ (ruled level None _ _ TwoPairs refl refl tt)
        (by_cond (eqb a b) _ _ _ _ (ruled level None _ _ Pair refl refl tt)
        (by_cond (eqb b c) _ _ _ _ (ruled level None _ _ Pair refl refl tt)
        (by_cond (eqb c d) _ _ _ _ (ruled level None _ _ Pair refl refl tt)
        (ruled level None _ _ Pair refl refl tt))))))

    four_right : Right (cond (eqb a e) (holding [] [] [] (c ∷ [])) (cond (eqb a d) (holding (e ∷ []) [] [] (c ∷ [])) (holding (a ∷ []) [] [] (c ∷ [])))) (five_at Four c 0 0 0 0)
    unfolding sequence
    four_right =
        by_held (eqb a e) _ _ _ (ruled level None _ _ Four refl refl tt)
        (by_held (eqb a d) _ _ _ (ruled level None _ _ Four refl refl tt) (ruled level None _ _ Four refl refl tt))

    full_right : Right (cond (eqb a c) (holding [] (d ∷ []) (c ∷ []) []) (holding [] (a ∷ []) (c ∷ []) [])) (five_at FullHouse c 0 0 0 0)
    unfolding sequence
    full_right = by_held (eqb a c) _ _ _ (ruled level None _ _ FullHouse refl refl tt) (ruled level None _ _ FullHouse refl refl tt)

    three_right : Right (cond (eqb a c) (holding (d ∷ e ∷ []) [] (c ∷ []) []) (cond (eqb b d) (holding (a ∷ e ∷ []) [] (c ∷ []) []) (holding (a ∷ b ∷ []) [] (c ∷ []) []))) (five_at Three c 0 0 0 0)
    unfolding sequence
    three_right =
        by_held (eqb a c) _ _ _ (ruled level None _ _ Three refl refl tt)
        (by_held (eqb b d) _ _ _ (ruled level None _ _ Three refl refl tt) (ruled level None _ _ Three refl refl tt))

or_none : (a b : Bool) → (a || b) ≡ false → (a ≡ false) × (b ≡ false)
or_none true b t = cc
or_none false b t = (refl, t)

-- ---- five different ranks

abbrev same_ranked : Ranked → Ranked → Bool
same_ranked g h = both (eqb (five_below g.class) (five_below h.class)) (same_list g.ranks h.ranks)

ranked_from_same : (g h : Ranked) → T (same_ranked g h) → g ≡ h
ranked_from_same g h t =
    let class : g.class ≡ h.class = class_from_lower five_below numbered 10 counted _ _ (eqb→eq _ _ (both_left _ _ t)) in
    let ranks : g.ranks ≡ h.ranks = list_from_same _ _ (both_right _ _ t) in
    λ i. record { class = class i; ranks = ranks i }

-- a head below 15, or none
abbrev Small : Option ℕ → Type 0
Small None = Unit {0}
Small (Some n) = n < 15

-- with a head below 15, by a test of all heads; a to e are only counted
abbrev headed_at : Bool → ℕ → ℕ → ℕ → ℕ → ℕ → ℕ → FiveClass → Bool
headed_at level a b c d e n k =
    both (same_ranked (five_apart (Some n) a b c d e level) (five_ranked_at k (Some n) (holding (a ∷ b ∷ c ∷ d ∷ e ∷ []) [] [] [])))
    (checked level (Some n) (holding (a ∷ b ∷ c ∷ d ∷ e ∷ []) [] [] []) k)

abbrev headed : Bool → ℕ → ℕ → ℕ → ℕ → ℕ → ℕ → Bool
headed level a b c d e n = headed_at level a b c d e n (five_class_by (Some n) (holding (a ∷ b ∷ c ∷ d ∷ e ∷ []) [] [] []) level)

every_head : (level : Bool) (a b c d e : ℕ) → T (below 15 (headed level a b c d e))
every_head true a b c d e = tt
every_head false a b c d e = tt

apart_ruled : (level : Bool) (a b c d e : ℕ) (head : Option ℕ) → Small head → Ruled level head (holding (a ∷ b ∷ c ∷ d ∷ e ∷ []) [] [] []) (five_apart head a b c d e level)
apart_ruled true a b c d e None small = ruled true None _ _ Flush refl refl tt
apart_ruled false a b c d e None small = ruled false None _ _ OddCards refl refl tt
apart_ruled level a b c d e (Some n) small =
    let h = holding (a ∷ b ∷ c ∷ d ∷ e ∷ []) [] [] [] in
    let k = five_class_by (Some n) h level in
    let t = below_at 15 (headed level a b c d e) (every_head level a b c d e) n small in
    let same : T (same_ranked (five_apart (Some n) a b c d e level) (five_ranked_at k (Some n) h)) = both_left _ (checked level (Some n) h k) t in
    ruled level (Some n) h (five_apart (Some n) a b c d e level) k refl (ranked_from_same _ _ same) (both_right (same_ranked (five_apart (Some n) a b c d e level) (five_ranked_at k (Some n) h)) _ t)

small_head : (s t : Bool) (a : ℕ) → a < 15 → Small (cond s (Some a) (cond t (Some 5) None))
small_head true t a h = h
small_head false true a h = lit< tt
small_head false false a h = tt

-- ---- the head of the sequence that five different ranks are, tested at the 1,287 choices of them

abbrev same_head : Option ℕ → Option ℕ → Bool
same_head None None = true
same_head None (Some n) = false
same_head (Some m) None = false
same_head (Some m) (Some n) = eqb m n

head_from_same : (g h : Option ℕ) → T (same_head g h) → g ≡ h
head_from_same None None t = refl
head_from_same None (Some n) t = absurd t
head_from_same (Some m) None t = absurd t
head_from_same (Some m) (Some n) t = ap Some (eqb→eq m n t)

abbrev headed_alike : ℕ → ℕ → ℕ → ℕ → ℕ → Bool
headed_alike a b c d e = same_head (head_at 5 a b e) (sequence runs_of_five (a ∷ b ∷ c ∷ d ∷ e ∷ []))

abbrev head_e : ℕ → ℕ → ℕ → ℕ → ℕ → Bool
head_e a b c d e = headed_alike (a + 2) (b + 2) (c + 2) (d + 2) (e + 2)

abbrev head_d : ℕ → ℕ → ℕ → ℕ → Bool
head_d a b c d = below d (head_e a b c d)

abbrev head_c : ℕ → ℕ → ℕ → Bool
head_c a b c = below c (head_d a b c)

abbrev head_b : ℕ → ℕ → Bool
head_b a b = below b (head_c a b)

abbrev head_a : ℕ → Bool
head_a a = below a (head_b a)

every_run : T (below 13 head_a)
unfolding sequence
every_run = tt

-- different ranks from the highest
record Apart (a b c d e : ℕ) : Type 0 where
  highest : a ≤ 14
  b_falls : b < a
  c_falls : c < b
  d_falls : d < c
  e_falls : e < d
  lowest : 2 ≤ e

head_is_of_run : (a b c d e : ℕ) → Apart a b c d e → head_at 5 a b e ≡ sequence runs_of_five (a ∷ b ∷ c ∷ d ∷ e ∷ [])
head_is_of_run a b c d e f =
    let back_up : (n : ℕ) → 2 ≤ n → n - 2 + 2 ≡ n = λ n h. omega arith in
    let t_a : T (head_a (a - 2)) = below_at 13 head_a every_run (a - 2) (omega arith) in
    let t_b : T (head_b (a - 2) (b - 2)) = below_at (a - 2) (head_b (a - 2)) t_a (b - 2) (omega arith) in
    let t_c : T (head_c (a - 2) (b - 2) (c - 2)) = below_at (b - 2) (head_c (a - 2) (b - 2)) t_b (c - 2) (omega arith) in
    let t_d : T (head_d (a - 2) (b - 2) (c - 2) (d - 2)) = below_at (c - 2) (head_d (a - 2) (b - 2) (c - 2)) t_c (d - 2) (omega arith) in
    let t_e : T (head_e (a - 2) (b - 2) (c - 2) (d - 2) (e - 2)) = below_at (d - 2) (head_e (a - 2) (b - 2) (c - 2) (d - 2)) t_d (e - 2) (omega arith) in
    let s_a = subst (λ x. T (headed_alike x (b - 2 + 2) (c - 2 + 2) (d - 2 + 2) (e - 2 + 2))) (back_up a (omega arith)) t_e in
    let s_b = subst (λ x. T (headed_alike a x (c - 2 + 2) (d - 2 + 2) (e - 2 + 2))) (back_up b (omega arith)) s_a in
    let s_c = subst (λ x. T (headed_alike a b x (d - 2 + 2) (e - 2 + 2))) (back_up c (omega arith)) s_b in
    let s_d = subst (λ x. T (headed_alike a b c x (e - 2 + 2))) (back_up d (omega arith)) s_c in
    head_from_same _ _ (subst (λ x. T (headed_alike a b c d x)) (back_up e (omega arith)) s_d)

-- ranks from the highest of which no two neighbours are alike
apart_from : (a b c d e : ℕ) → Falling a b c d e → (eqb a b || (eqb b c || (eqb c d || eqb d e))) ≡ false → Apart a b c d e
apart_from a b c d e f t =
    let p = or_none (eqb a b) _ t in
    let q = or_none (eqb b c) _ p.1 in
    let r = or_none (eqb c d) _ q.1 in
    let falls : (m n : ℕ) → n ≤ m → eqb m n ≡ false → n < m = λ m n h k. grind (arith, nat_tests) in
    record {
      highest = f.highest;
      b_falls = falls a b f.b_falls p.0;
      c_falls = falls b c f.c_falls q.0;
      d_falls = falls c d f.d_falls r.0;
      e_falls = falls d e f.e_falls r.1;
      lowest = f.lowest;
    }

apart_right : (level : Bool) (a b c d e : ℕ) → Apart a b c d e → Right level (holding (a ∷ b ∷ c ∷ d ∷ e ∷ []) [] [] []) (five_apart (head_at 5 a b e) a b c d e level)
apart_right level a b c d e f =
    subst (λ head. Ruled level head (holding (a ∷ b ∷ c ∷ d ∷ e ∷ []) [] [] []) (five_apart (head_at 5 a b e) a b c d e level)) (head_is_of_run a b c d e f)
    (apart_ruled level a b c d e (head_at 5 a b e) (small_head (eqb a (e + 4)) (eqb a 14 && eqb b 5) a (omega (arith, f.highest))))

-- cards that hold these ranks are of the class that the rule gives them, and of no other
abbrev pub Only : Bool → Held → Type 0
Only level h = Sole level (sequence runs_of_five h.ones) h (five_class_by (sequence runs_of_five h.ones) h level)

-- the code's class and ranks are the rule's, and the cards are of no other class
sorted_right : (level : Bool) (a b c d e : ℕ) → Falling a b c d e → Right level (held (among (a ∷ b ∷ c ∷ d ∷ e ∷ []))) (five_sorted a b c d e level)
sorted_right level a b c d e f =
    subst (λ h. Right level h (five_sorted a b c d e level)) (held_is_sorted a b c d e f)
    (by_cond level (eqb a d || eqb b e) _ _ _ _ (four_right level a b c d e)
    (by_cond level ((eqb a c && eqb d e) || (eqb a b && eqb c e)) _ _ _ _ (full_right level a b c d e)
    (by_cond level (eqb a c || (eqb b d || eqb c e)) _ _ _ _ (three_right level a b c d e)
    (by_last level (eqb a b || (eqb b c || (eqb c d || eqb d e))) _ _ _ _ (paired_right level a b c d e)
    (λ t. apart_right level a b c d e (apart_from a b c d e f t))))))

pub sorted_is_rule : (level : Bool) (a b c d e : ℕ) → Falling a b c d e → five_sorted a b c d e level ≡ five_ranked_by (sequence runs_of_five (held (among (a ∷ b ∷ c ∷ d ∷ e ∷ []))).ones) (held (among (a ∷ b ∷ c ∷ d ∷ e ∷ []))) level
sorted_is_rule level a b c d e f = (sorted_right level a b c d e f).ranked

pub of_one_class : (level : Bool) (a b c d e : ℕ) → Falling a b c d e → Only level (held (among (a ∷ b ∷ c ∷ d ∷ e ∷ [])))
of_one_class level a b c d e f = (sorted_right level a b c d e f).sole
