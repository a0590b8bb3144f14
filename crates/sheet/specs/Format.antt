-- The format of a sheet: the bytes of each command, its first byte and then its operands, numbers with the highest byte first.
use Rattle.std.specs.Prelude.{◌≡◌, ℕ, zero, suc, ◌-◌, ◌/◌, ◌%◌, ◌^◌, ◌<◌, cond, List, [], ◌∷◌, ◌++◌, length, replicate, ◌==◌, slice_index, slice_index_or}
use Rattle.commands.specs.declared.Conditions.{Conditions}
use Rattle.commands.specs.Calls.{Call, Open, Buy, Cash, Fill, Draw, Bet, Deal, Raise, Leave, Settle, Void}

-- a number in so many bytes, the highest first
abbrev pub in_bytes : ℕ → ℕ → List ℕ
in_bytes zero n = []
in_bytes (suc zero) n = (n % 256) ∷ []
in_bytes (suc (suc w)) n = (n / 256 ^ suc w % 256) ∷ in_bytes (suc w) n

-- the first five odds, two bytes each
abbrev pub odds_bytes : List ℕ → List ℕ
odds_bytes odds = in_bytes 2 (slice_index odds 0) ++ (in_bytes 2 (slice_index odds 1) ++ (in_bytes 2 (slice_index odds 2) ++ (in_bytes 2 (slice_index odds 3) ++ in_bytes 2 (slice_index odds 4))))

-- the bytes of a command
abbrev pub bytes_of : Call → List ℕ
bytes_of (Open c tray) =
    0x54 ∷ c.game ∷ (in_bytes 4 c.minimum ++ (in_bytes 4 c.maximum ++ (in_bytes 8 c.cap ++ (odds_bytes c.odds ++ in_bytes 8 tray))))
bytes_of (Buy seat amount) = 0x49 ∷ seat ∷ in_bytes 8 amount
bytes_of (Cash seat amount) = 0x43 ∷ seat ∷ in_bytes 8 amount
bytes_of (Fill amount) = 0x46 ∷ in_bytes 8 amount
bytes_of (Draw amount) = 0x57 ∷ in_bytes 8 amount
bytes_of (Bet seat space amount) = 0x42 ∷ seat ∷ space ∷ in_bytes 4 amount
bytes_of (Deal cards) = 0x44 ∷ length cards ∷ (cards ++ replicate (40 - length cards) 0)
bytes_of (Raise seat) = 0x52 ∷ seat ∷ []
bytes_of (Leave seat) = 0x4C ∷ seat ∷ []
bytes_of Settle = 0x53 ∷ []
bytes_of Void = 0x56 ∷ []

-- how many bytes a command has, by its first byte; 0 where no command begins so
abbrev pub width : ℕ → ℕ
width first =
    cond (first == 0x54) 36
    (cond (first == 0x49) 10
    (cond (first == 0x43) 10
    (cond (first == 0x46) 9
    (cond (first == 0x57) 9
    (cond (first == 0x42) 7
    (cond (first == 0x44) 42
    (cond (first == 0x52) 2
    (cond (first == 0x4C) 2
    (cond (first == 0x53) 1
    (cond (first == 0x56) 1 0))))))))))

-- how many bytes a call takes on a sheet
abbrev pub width_of : Call → ℕ
width_of c = width (slice_index (bytes_of c) 0)

-- conditions and a tray whose numbers fit their bytes
pub record ConditionsFit (c : Conditions) (tray : ℕ) : Type 0 where
  pub minimum : c.minimum < 256 ^ 4
  pub maximum : c.maximum < 256 ^ 4
  pub cap : c.cap < 256 ^ 8
  pub odds_0 : slice_index_or c.odds 0 0 < 256 ^ 2
  pub odds_1 : slice_index_or c.odds 1 0 < 256 ^ 2
  pub odds_2 : slice_index_or c.odds 2 0 < 256 ^ 2
  pub odds_3 : slice_index_or c.odds 3 0 < 256 ^ 2
  pub odds_4 : slice_index_or c.odds 4 0 < 256 ^ 2
  pub five : length c.odds ≡ 5
  pub chips : tray < 256 ^ 8

-- a call whose numbers fit their bytes, as those of every command do
abbrev pub FitsFormat : Call → Type 0
FitsFormat (Open c tray) = ConditionsFit c tray
FitsFormat (Buy seat amount) = amount < 256 ^ 8
FitsFormat (Cash seat amount) = amount < 256 ^ 8
FitsFormat (Fill amount) = amount < 256 ^ 8
FitsFormat (Draw amount) = amount < 256 ^ 8
FitsFormat (Bet seat space amount) = amount < 256 ^ 4
FitsFormat (Deal cards) = Unit {0}
FitsFormat (Raise seat) = Unit {0}
FitsFormat (Leave seat) = Unit {0}
FitsFormat Settle = Unit {0}
FitsFormat Void = Unit {0}
