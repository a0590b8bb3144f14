-- What is printed of a sheet, with what is promised of it; there is one such text only.
use Rattle.std.specs.Prelude.{◌≡◌, ℕ, List}
use Rattle.std.specs.List.{concat}
use Rattle.terminal.specs.SheetLines.{LinesOf}
use Rattle.terminal.specs.Promised.{Promised}

-- what is printed of a whole sheet: its lines, of which the whole promise holds
pub record PrintedOf (sheet text : List ℕ) : Type 0 where
  pub lines : List (List ℕ)
  pub lines_of : LinesOf sheet lines
  pub is : text ≡ concat lines
  pub promised : Promised sheet

-- there is one such text only
abbrev pub OneText : List ℕ → Type 0
OneText sheet = (text text' : List ℕ) → PrintedOf sheet text → PrintedOf sheet text' → text ≡ text'
