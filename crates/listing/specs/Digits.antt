-- Numbers as text, in ASCII.
use Rattle.std.specs.Prelude.{ℕ, zero, suc, ◌+◌, ◌/◌, ◌%◌, cond, List, [], ◌∷◌, ◌++◌, ltb}

-- a digit below 16: `0` to `9`, then `a` to `f`
abbrev pub glyph_of : ℕ → ℕ
glyph_of d = cond (ltb d 10) (48 + d) (87 + d)

-- the last `count` digits of n, the highest first
unfoldable pub digits : ℕ → ℕ → ℕ → List ℕ
digits base zero n = []
digits base (suc count) n = digits base count (n / base) ++ (glyph_of (n % base) ∷ [])

-- how many decimal digits n has, where it has no more than one above `most`
unfoldable pub places : ℕ → ℕ → ℕ
places zero n = 1
places (suc most) n = cond (ltb n 10) 1 (suc (places most (n / 10)))

-- a number below 10^20 in decimal, with no zeros before it
abbrev pub decimal : ℕ → List ℕ
decimal n = digits 10 (places 19 n) n
