-- The way down the tree, and what it ends in.
use Rattle.std.specs.Prelude.{ℕ, zero, suc, ◌+◌, ◌-◌, ◌*◌, ◌/◌, ◌≤◌, cond, List, Option, Some, None, leb, ltb}
use Rattle.number.specs.Keys.{bit_from_top}
use Rattle.tree.specs.Record.{Sized, record_at}
use Rattle.tree.specs.declared.Place.{Place}
use Rattle.tree.specs.declared.Found.{Found}

-- a tree of the format, whose nodes lie in the first n bytes
pub record Tree (n size nodes : ℕ) : Type 0 where
  pub sized : Sized size
  pub inside : nodes * (size / 4) ≤ n

-- where the way down from a node at a depth stops that may read `left` more bits of an address, one a level, highest
-- first: a record below the node count is a node and leads on, any other is a terminal
unfoldable pub down : List ℕ → ℕ → ℕ → ℕ → ℕ → ℕ → ℕ → ℕ → Place
down s size nodes addr width depth zero node = record { node = node; depth = depth }
down s size nodes addr width depth (suc left) node =
    cond (ltb node nodes)
    (down s size nodes addr width (depth + 1) left (record_at s size node (bit_from_top addr width depth)))
    (record { node = node; depth = depth })

-- the IPv4 start of a tree of IPv6 addresses: zero bits until a terminal or depth 96
abbrev pub ipv4_start_of : List ℕ → ℕ → ℕ → Place
ipv4_start_of s size nodes = down s size nodes 0 128 0 96 0

-- the offset of a record above the node count, counted from the data section's start
abbrev pub offset_of : ℕ → ℕ → ℕ
offset_of nodes node = node - nodes - 16

-- what is found: an offset, or no data, at a length
abbrev pub found : Option ℕ → ℕ → Found
found offset len = record { offset = offset; len = len }

-- what a way ends in at a record, `len` being the length there and `room` that of the data section: no data at the node
-- count, and at a node met at full width; above the node count an offset inside the data section, or nothing
unfoldable pub answer_of : ℕ → ℕ → ℕ → ℕ → Option Found
answer_of nodes room node len =
    cond (leb node nodes) (Some (found None len))
    (cond (ltb node (nodes + 16)) None (cond (ltb (offset_of nodes node) room) (Some (found (Some (offset_of nodes node)) len)) None))
