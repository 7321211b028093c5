-- Numbers in bytes, highest first: the format's "big-endian".
use Rattle.std.specs.Prelude.{ℕ, zero, suc, ◌+◌, ◌*◌, List, get_or}

-- the number that the n bytes of s from p on spell, the first byte highest
unfoldable pub be_at : List ℕ → ℕ → ℕ → ℕ
be_at s p zero = 0
be_at s p (suc n) = be_at s p n * 256 + get_or s (p + n) 0
