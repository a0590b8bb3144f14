-- What a lawful deal shows.
use Rattle.std.proofs.Common.{◌≡◌, ℕ, Bool, true, false, cond, eqb, Ok, Err, refl, arith}
use Rattle.std.proofs.lemmas.Bool.{eqb-true}
use Rattle.game.specs.declared.dealing.Misdeal.TheVariants.{NoCard, WrongCount}
use Rattle.game.specs.Dealing.{judged}

-- each card may stand in it, and there are as many as are called for
pub judged_lawful : (may_stand : Bool) (count called : ℕ) → judged may_stand count called ≡ Ok tt → (may_stand ≡ true) × (count ≡ called)
judged_lawful may_stand count called h = let p = both may_stand (eqb count called) h in (p.0, eqb-true count called p.1)
  where
    both : (x y : Bool) → cond x (cond y (Ok (tt {0})) (Err WrongCount)) (Err NoCard) ≡ Ok tt → (x ≡ true) × (y ≡ true)
    both true true l = (refl, refl)
    both true false l = let z : ◌≡◌ {A = ℕ} 0 1 = cc in absurd (omega arith)
    both false y l = let z : ◌≡◌ {A = ℕ} 0 1 = cc in absurd (omega arith)
