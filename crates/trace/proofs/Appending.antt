-- Three texts put behind a page, one after another.
use Rattle.std.proofs.Common.{◌≡◌, ℕ, List, ◌++◌, Ok, Err, Result, ap, ◌∙◌, append_assoc}
use Rattle.std.specs.Prelude.{OnOk, is_ok, if◌then◌else◌}

pub in_a_row : (a x y z p q s : List ℕ) → p ≡ a ++ x → q ≡ p ++ y → s ≡ q ++ z → s ≡ a ++ (x ++ (y ++ z))
in_a_row a x y z p q s e f g = g ∙ ap (λ l. l ++ z) (f ∙ ap (λ l. l ++ y) e) ∙ append_assoc (a ++ x) y z ∙ append_assoc a x (y ++ z)

-- the last of them only where it was printed
pub last_printed : {A E : Type 0} (r : Result A E) (a x y z p q s : List ℕ) → p ≡ a ++ x → q ≡ p ++ y → OnOk r (s ≡ q ++ z) → OnOk r (s ≡ a ++ (x ++ (y ++ z)))
last_printed (Ok v) a x y z p q s e f g = in_a_row a x y z p q s e f g
last_printed (Err v) a x y z p q s e f g = tt

-- the same, where it says what stands there if it was not printed
pub last_line : {A E : Type 0} (r : Result A E) (a x y z p q s : List ℕ) → p ≡ a ++ x → q ≡ p ++ y → s ≡ (if is_ok r then q ++ z else q) → OnOk r (s ≡ a ++ (x ++ (y ++ z)))
last_line (Ok v) a x y z p q s e f g = in_a_row a x y z p q s e f g
last_line (Err v) a x y z p q s e f g = tt

-- what holds anyway, holds where it is asked for
pub on_any : {A E : Type 0} {P : Type 0} (r : Result A E) → P → OnOk r P
on_any (Ok v) p = p
on_any (Err v) p = tt
