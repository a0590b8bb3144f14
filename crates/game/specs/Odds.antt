-- Odds of n to 1: which may be posted, and what a stake wins at them.
use Rattle.std.specs.Prelude.{ℕ, ◌+◌, ◌*◌, Bool, ◌&&◌, List, ◌==◌, nat_le}
use Rattle.std.specs.List.{list_all}

-- odds that may be posted: 1 to 1,000
abbrev pub postable : ℕ → Bool
postable n = nat_le 1 n && nat_le n 1000

-- all of these odds may be posted
abbrev pub all_postable : List ℕ → Bool
all_postable odds = list_all postable odds

-- none of these odds are in use: each is 0
abbrev pub all_unused : List ℕ → Bool
all_unused odds = list_all (λ n. n == 0) odds

-- a stake that wins at odds of n to 1 returns itself and n times itself
abbrev pub won : ℕ → ℕ → ℕ
won stake odds = stake + stake * odds
