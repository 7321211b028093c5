-- The tree's own networks.
use Rattle.std.specs.Prelude.{ℕ, zero, suc, ◌+◌, ◌-◌, ◌^◌, ◌≤◌, ◌<◌, ◌≡◌, cond, ◌⊎◌, List, [], ◌∷◌, ◌++◌, None, ltb}
use Rattle.tree.specs.Record.{record_at}
use Rattle.tree.specs.Lookup.{answer_of, down}
use Rattle.tree.specs.declared.Place.{Place}

-- a network: its first address, how many of the last bits are free, and the record in which the paths of its addresses end
pub record Tile : Type 0 where
  pub key : ℕ
  pub rest : ℕ
  pub node : ℕ

abbrev pub tile : ℕ → ℕ → ℕ → Tile
tile key rest node = record { key = key; rest = rest; node = node }

-- an address in a network
abbrev pub In : ℕ → Tile → Type 0
In x t = (t.key ≤ x) × (x < t.key + 2 ^ t.rest)

-- one network ends before another begins
abbrev pub Before : Tile → Tile → Type 0
Before t u = t.key + 2 ^ t.rest ≤ u.key

-- consecutive networks, from one address up to another
unfoldable pub Tiling : ℕ → List Tile → ℕ → Type 0
Tiling a [] e = a ≡ e
Tiling a (t ∷ l) e = (t.key ≡ a) × Tiling (a + 2 ^ t.rest) l e

-- the networks below a record with as many bits left, from a key on, the left ones first: a node's are those below its two
-- records while a bit is left, any other record is one network
unfoldable pub leaves : List ℕ → ℕ → ℕ → ℕ → ℕ → ℕ → List Tile
leaves s size nodes zero node key = tile key 0 node ∷ []
leaves s size nodes (suc rest) node key =
    cond (ltb node nodes)
    (leaves s size nodes rest (record_at s size node 0) key ++ leaves s size nodes rest (record_at s size node 1) (key + 2 ^ rest))
    (tile key (suc rest) node ∷ [])

-- the whole tree's, of addresses of a width
abbrev pub networks : List ℕ → ℕ → ℕ → ℕ → List Tile
networks s size nodes width = leaves s size nodes width 0 0

-- the path of an address
abbrev pub path : List ℕ → ℕ → ℕ → ℕ → ℕ → Place
path s size nodes width x = down s size nodes x width 0 width 0

-- the end of the paths of a network's addresses
abbrev pub end_of : ℕ → Tile → Place
end_of width t = record { node = t.node; depth = width - t.rest }

-- a path is faulty if it ends in a record that gives no offset or on an internal node, which is at full width
abbrev pub Faulty : ℕ → ℕ → Place → Type 0
Faulty nodes room p = (p.node < nodes) ⊎ (answer_of nodes room p.node p.depth ≡ None)
