-- More bytes worked by hand, as theorems by computation: the specification's own, and edges.
use mathlib.Core.Path.{◌≡◌, refl}
use mathlib.Core.List.{[], ◌∷◌}
use Rattle.std.specs.Prelude.{Some, None}
use Rattle.number.specs.Bytes.{be_at}
use Rattle.control.specs.Control.{kind_of, head, size_at, sized_at, head_at}
use Rattle.control.specs.Pointers.{link_at}
use Rattle.control.specs.declared.Kind.TheVariants as kind
use Rattle.tree.specs.Lookup.{offset_of}
use Rattle.claims.specs.Cases.{Leads}

-- a pointer takes no size bytes: 3D, 3E and 3F are class 3 as 38 is, and their low bits say nothing
pub low_bits :
    Leads (0x38 ∷ 0x00 ∷ 0x00 ∷ 0x01 ∷ 0x02 ∷ []) 258 5
    × Leads (0x3d ∷ 0x00 ∷ 0x00 ∷ 0x01 ∷ 0x02 ∷ []) 258 5
    × Leads (0x3e ∷ 0x00 ∷ 0x00 ∷ 0x01 ∷ 0x02 ∷ []) 258 5
    × Leads (0x3f ∷ 0x00 ∷ 0x00 ∷ 0x01 ∷ 0x02 ∷ []) 258 5
unfolding link_at head_at sized_at kind_of be_at
low_bits = ((refl, refl), (refl, refl), (refl, refl), (refl, refl))

-- a pointer cut short
pub cut_pointer : link_at (0x30 ∷ 0x00 ∷ 0x00 ∷ []) 16 1 ≡ None
unfolding link_at be_at
cut_pointer = refl

-- the specification's texts of 80, 13,392 and 3,421,264 bytes
pub sizes :
    (head_at (0x5d ∷ 0x33 ∷ []) 0 ≡ Some (head kind.Text 80 2))
    × (head_at (0x5e ∷ 0x33 ∷ 0x33 ∷ []) 0 ≡ Some (head kind.Text 13392 3))
    × (head_at (0x5f ∷ 0x33 ∷ 0x33 ∷ 0x33 ∷ []) 0 ≡ Some (head kind.Text 3421264 4))
unfolding head_at sized_at size_at kind_of be_at
sizes = (refl, refl, refl)

-- the specification's short ones, and an extended type: a text of 2 and of 28 bytes, a u32 of 1, a u128 of 3
pub short_sizes :
    (head_at (0x42 ∷ []) 0 ≡ Some (head kind.Text 2 1))
    × (head_at (0x5c ∷ []) 0 ≡ Some (head kind.Text 28 1))
    × (head_at (0xc1 ∷ []) 0 ≡ Some (head kind.U32 1 1))
    × (head_at (0x03 ∷ 0x03 ∷ []) 0 ≡ Some (head kind.U128 3 2))
unfolding head_at sized_at size_at kind_of be_at
short_sizes = (refl, refl, refl, refl)

-- the largest size, a size cut short, no byte at all, and type numbers that stand for nothing
pub edges :
    (head_at (0x5f ∷ 0xff ∷ 0xff ∷ 0xff ∷ []) 0 ≡ Some (head kind.Text 16843036 4))
    × (head_at (0x5f ∷ 0xff ∷ 0xff ∷ []) 0 ≡ None)
    × (head_at [] 0 ≡ None)
    × (head_at (0x00 ∷ []) 0 ≡ None)
    × (head_at (0x00 ∷ 0x05 ∷ []) 0 ≡ Some (head kind.Unknown 0 2))
    × (head_at (0x00 ∷ 0xff ∷ []) 0 ≡ Some (head kind.Unknown 0 2))
    × (head_at (0x00 ∷ 0x00 ∷ []) 0 ≡ Some (head kind.Map 0 2))
unfolding head_at sized_at size_at kind_of be_at
edges = (refl, refl, refl, refl, refl, refl, refl)

-- the specification's record 6,000 in a tree of 1,000 nodes
pub offset : offset_of 1000 6000 ≡ 4984
offset = refl
