-- The metadata marker: its last occurrence counts.
use Rattle.std.specs.Prelude.{ℕ, zero, suc, ◌+◌, ◌-◌, Bool, true, cond, ◌&&◌, List, [], ◌∷◌, length, get_or, Option, Some, None, eqb}

-- AB CD EF, then MaxMind.com
abbrev pub marker : List ℕ
marker = 171 ∷ 205 ∷ 239 ∷ 77 ∷ 97 ∷ 120 ∷ 77 ∷ 105 ∷ 110 ∷ 100 ∷ 46 ∷ 99 ∷ 111 ∷ 109 ∷ []

-- whether the k bytes of s from i on are the marker's first k
unfoldable pub agree : List ℕ → ℕ → ℕ → Bool
agree s i zero = true
agree s i (suc k) = agree s i k && eqb (get_or s (i + k) 0) (get_or marker k 0)

-- the last place below k at which the marker's 14 bytes stand
unfoldable pub last_below : List ℕ → ℕ → Option ℕ
last_below s zero = None
last_below s (suc k) = cond (agree s k 14) (Some k) (last_below s k)

-- the last place in s at which the marker stands whole
unfoldable pub marker_of : List ℕ → Option ℕ
marker_of s = last_below s (length s + 1 - 14)
