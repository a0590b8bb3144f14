-- The first bytes of commands: there are eleven, and each call is written with its own.
use Rattle.std.proofs.Common.{◌≡◌, ℕ, true, false, eqb, List, sym, refl, ap, ◌∙◌, subst, ⊎_elim}
use Rattle.std.proofs.lemmas.Bool.{cases_eq, ne_eqb}
use Rattle.sheet.specs.Format.{width, width_of}
use Rattle.sheet.specs.Reading.{call_in}

-- what holds of a number, where it holds of another and where the two differ
either : (P : ℕ → Type 0) (first k : ℕ) → P k → ((first ≡ k → ⊥) → P first) → P first
either P first k here there = ⊎_elim (λ e. subst P (sym e) here) there (cases_eq first k)

-- what holds of the eleven holds of each first byte of a command
pub by_first : (P : ℕ → Type 0) (first : ℕ) → eqb (width first) 0 ≡ false → P 0x54 → P 0x49 → P 0x43 → P 0x46 → P 0x57 → P 0x42 → P 0x44 → P 0x52 → P 0x4C → P 0x53 → P 0x56 → P first
by_first P first w start buy cash fill draw bet deal raise leave settle void =
    either P first 0x54 start (λ a.
    either P first 0x49 buy (λ b.
    either P first 0x43 cash (λ c.
    either P first 0x46 fill (λ d.
    either P first 0x57 draw (λ e.
    either P first 0x42 bet (λ f.
    either P first 0x44 deal (λ g.
    either P first 0x52 raise (λ h.
    either P first 0x4C leave (λ i.
    either P first 0x53 settle (λ j.
    either P first 0x56 void (λ k.
    let none : width first ≡ 0 = rw (ne_eqb first 0x54 a, ne_eqb first 0x49 b, ne_eqb first 0x43 c, ne_eqb first 0x46 d, ne_eqb first 0x57 e, ne_eqb first 0x42 f, ne_eqb first 0x44 g, ne_eqb first 0x52 h, ne_eqb first 0x4C i, ne_eqb first 0x53 j, ne_eqb first 0x56 k) in
    let never : true ≡ false = sym (ap (λ n. eqb n 0) none) ∙ w in
    absurd cc)))))))))))

-- a command is as wide as its first byte says
pub width_in : (first : ℕ) (s : List ℕ) → eqb (width first) 0 ≡ false → width_of (call_in first s) ≡ width first
width_in first s w = by_first (λ f. width_of (call_in f s) ≡ width f) first w refl refl refl refl refl refl refl refl refl refl refl
