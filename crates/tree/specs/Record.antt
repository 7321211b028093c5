-- The search tree's records: the specification's "Node Layout".
use Rattle.std.specs.Prelude.{ℕ, ◌+◌, ◌-◌, ◌*◌, ◌/◌, ◌%◌, ◌^◌, ◌≤◌, ◌<◌, ◌≡◌, cond, ◌⊎◌, List, get_or, eqb}
use Rattle.number.specs.Bytes.{be_at}

-- a record size of the format
abbrev pub Sized : ℕ → Type 0
Sized size = (size ≡ 24) ⊎ ((size ≡ 28) ⊎ (size ≡ 32))

-- the bits that a record has beyond whole bytes, four at size 28 and none else: the left one's (bit 0) are the highest of
-- the byte past its whole bytes, the right one's the lowest
abbrev pub beyond : ℕ → ℕ → ℕ → ℕ
beyond size byte bit = cond (eqb bit 0) (byte / 2 ^ (8 - size % 8)) (byte % 2 ^ (size % 8))

-- the record of `size` bits of a node, the left one for bit 0, the right one else. A node is size / 4 bytes: the left
-- record's whole bytes are its first size / 8, the right one's its last, and the bits beyond stand above them
unfoldable pub record_at : List ℕ → ℕ → ℕ → ℕ → ℕ
record_at s size node bit =
    beyond size (get_or s (node * (size / 4) + size / 8) 0) bit * 256 ^ (size / 8)
    + be_at s (node * (size / 4) + cond (eqb bit 0) 0 (size / 4 - size / 8)) (size / 8)

-- what reading a record asks: a size of the format, the node inside the n bytes, and a bit
pub record Readable (n size node bit : ℕ) : Type 0 where
  pub sized : Sized size
  pub inside : (node + 1) * (size / 4) ≤ n
  pub one : bit < 2
