-- How often a hand holds each rank, and the runs of ranks that are sequences.
use Rattle.std.specs.Prelude.{ℕ, zero, suc, ◌+◌, Bool, cond, ◌&&◌, List, [], ◌∷◌, length, None, Option, ◌==◌, nat_eq, slice_get}
use Rattle.std.specs.List.{list_any, list_all}

-- the ranks that a hand holds once, twice, three times, and four times or more, each list from the highest
pub record Held : Type 0 where
  pub ones : List ℕ
  pub twos : List ℕ
  pub threes : List ℕ
  pub fours : List ℕ

-- one rank more, by how many cards are of it
abbrev pub noted : ℕ → ℕ → Held → Held
noted zero r h = h
noted (suc zero) r h = record { ones = r ∷ h.ones; twos = h.twos; threes = h.threes; fours = h.fours }
noted (suc (suc zero)) r h = record { ones = h.ones; twos = r ∷ h.twos; threes = h.threes; fours = h.fours }
noted (suc (suc (suc zero))) r h = record { ones = h.ones; twos = h.twos; threes = r ∷ h.threes; fours = h.fours }
noted (suc (suc (suc (suc n)))) r h = record { ones = h.ones; twos = h.twos; threes = h.threes; fours = r ∷ h.fours }

-- the n ranks from 2 up, by how many cards are of each
abbrev pub held_of_first : ℕ → (ℕ → ℕ) → Held
held_of_first zero t = record { ones = []; twos = []; threes = []; fours = [] }
held_of_first (suc n) t = noted (t (n + 2)) (n + 2) (held_of_first n t)

-- the 13 ranks, by how many cards are of each
unfoldable pub held : (ℕ → ℕ) → Held
held t = held_of_first 13 t

-- the twelve runs of three ranks, each from its head: A-K-Q, the highest, down to 4-3-2 and 3-2-A
abbrev pub runs_of_three : List (List ℕ)
runs_of_three =
    (14 ∷ 13 ∷ 12 ∷ [])
    ∷ (13 ∷ 12 ∷ 11 ∷ [])
    ∷ (12 ∷ 11 ∷ 10 ∷ [])
    ∷ (11 ∷ 10 ∷ 9 ∷ [])
    ∷ (10 ∷ 9 ∷ 8 ∷ [])
    ∷ (9 ∷ 8 ∷ 7 ∷ [])
    ∷ (8 ∷ 7 ∷ 6 ∷ [])
    ∷ (7 ∷ 6 ∷ 5 ∷ [])
    ∷ (6 ∷ 5 ∷ 4 ∷ [])
    ∷ (5 ∷ 4 ∷ 3 ∷ [])
    ∷ (4 ∷ 3 ∷ 2 ∷ [])
    ∷ (3 ∷ 2 ∷ 14 ∷ [])
    ∷ []

-- the ten runs of five ranks, each from its head: A-K-Q-J-10, the highest, down to 6-5-4-3-2 and 5-4-3-2-A
abbrev pub runs_of_five : List (List ℕ)
runs_of_five =
    (14 ∷ 13 ∷ 12 ∷ 11 ∷ 10 ∷ [])
    ∷ (13 ∷ 12 ∷ 11 ∷ 10 ∷ 9 ∷ [])
    ∷ (12 ∷ 11 ∷ 10 ∷ 9 ∷ 8 ∷ [])
    ∷ (11 ∷ 10 ∷ 9 ∷ 8 ∷ 7 ∷ [])
    ∷ (10 ∷ 9 ∷ 8 ∷ 7 ∷ 6 ∷ [])
    ∷ (9 ∷ 8 ∷ 7 ∷ 6 ∷ 5 ∷ [])
    ∷ (8 ∷ 7 ∷ 6 ∷ 5 ∷ 4 ∷ [])
    ∷ (7 ∷ 6 ∷ 5 ∷ 4 ∷ 3 ∷ [])
    ∷ (6 ∷ 5 ∷ 4 ∷ 3 ∷ 2 ∷ [])
    ∷ (5 ∷ 4 ∷ 3 ∷ 2 ∷ 14 ∷ [])
    ∷ []

-- a rank is among these
abbrev pub has_rank : List ℕ → ℕ → Bool
has_rank rs r = list_any (λ x. nat_eq x r) rs

-- these different ranks are those of a run, in whatever order: as many, and each rank of the run is among them
abbrev pub are_of_run : List ℕ → List ℕ → Bool
are_of_run rs run = length rs == length run && list_all (has_rank rs) run

-- the head of the run that these different ranks are, if they are one of these runs
unfoldable pub sequence : List (List ℕ) → List ℕ → Option ℕ
sequence [] rs = None
sequence (run ∷ runs) rs = cond (are_of_run rs run) (slice_get run 0) (sequence runs rs)

-- n numbers, the missing ones 0
abbrev pub padded : ℕ → List ℕ → List ℕ
padded zero rs = []
padded (suc n) [] = 0 ∷ padded n []
padded (suc n) (r ∷ rs) = r ∷ padded n rs
