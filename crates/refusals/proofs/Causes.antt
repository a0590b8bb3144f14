-- Where no cause of a list answers, none of its conditions holds; where the causes stand in turn, the first that holds is the least.
use Rattle.std.proofs.Common.{◌≡◌, ℕ, ◌≤◌, Bool, true, false, leb, List, [], ◌∷◌, Some, None, Option, refl, ap, inl, inr, ⊎_elim, arith}
use Rattle.std.proofs.lemmas.Bool.{and_parts, leb-true}
use Rattle.refusals.specs.declared.Cause.{Cause}
use Rattle.refusals.specs.Refusals.{first_cause, turn_of, Holds, Answers, in_turn}

-- each condition of a list fails
abbrev pub NoneHolds : List (Bool × Cause) → Type 0
NoneHolds [] = Unit {0}
NoneHolds ((holds, c) ∷ rest) = (holds ≡ false) × NoneHolds rest

pub none_holds : (cs : List (Bool × Cause)) → first_cause cs ≡ None → NoneHolds cs
none_holds [] e = tt
none_holds ((true, c) ∷ rest) e = cc
none_holds ((false, c) ∷ rest) e = (refl, none_holds rest e)

-- in a list that stands in turn, no cause that holds comes before
after_turn : (n : ℕ) (cs : List (Bool × Cause)) → in_turn n cs ≡ true → (y : Cause) → Holds cs y → n ≤ turn_of y
after_turn n [] e y h = absurd h
after_turn n ((holds, c) ∷ rest) e y h =
    let p = and_parts (leb n (turn_of c)) (in_turn (turn_of c) rest) e in
    let here : n ≤ turn_of c = leb-true n (turn_of c) p.0 in
    ⊎_elim
    (λ (q : (holds ≡ true) × (c ≡ y)). omega (arith, here, ap turn_of q.1))
    (λ (later : Holds rest y). omega (arith, here, after_turn (turn_of c) rest p.1 y later))
    h

-- a cause that does not hold changes nothing
passed_over : (c : Cause) (rest : List (Bool × Cause)) (o : Option Cause) → Answers rest o → Answers ((false, c) ∷ rest) o
passed_over c rest None a = λ y h. ⊎_elim (λ q. cc) (λ later. a y later) h
passed_over c rest (Some x) a = record {
  holds = inr a.holds;
  least = λ y h. ⊎_elim (λ q. cc) (λ later. a.least y later) h;
}

pub answers : (n : ℕ) (cs : List (Bool × Cause)) → in_turn n cs ≡ true → Answers cs (first_cause cs)
answers n [] e = λ y h. h
answers n ((true, c) ∷ rest) e =
    let p = and_parts (leb n (turn_of c)) (in_turn (turn_of c) rest) e in
    record {
      holds = inl (refl, refl);
      least = λ y h. ⊎_elim (λ (q : (◌≡◌ {A = Bool} true true) × (c ≡ y)). omega (arith, ap turn_of q.1)) (λ later. after_turn (turn_of c) rest p.1 y later) h;
    }
answers n ((false, c) ∷ rest) e = passed_over c rest (first_cause rest) (answers (turn_of c) rest (and_parts (leb n (turn_of c)) (in_turn (turn_of c) rest) e).1)
