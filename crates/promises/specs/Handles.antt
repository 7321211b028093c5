-- A handle, and an address that is looked up with it.
use Rattle.std.specs.Prelude.{ℕ, ◌+◌, ◌<◌, ◌≡◌, List, [], ◌∷◌, length}
use Rattle.number.specs.Keys.{number_of}
use Rattle.handle.specs.declared.Handle.{Handle}
use Rattle.handle.proofs.HandleLaws.{Fit}
use Rattle.tree.specs.Lookup.{down}
use Rattle.section.specs.Section.{data_length}
use Rattle.lookup.specs.declared.Address.{Address}
use Rattle.lookup.specs.declared.Address.TheVariants.{V4, V6}
use Rattle.order.specs.Order.{Table, Refuses}

-- 9: the handle does not fit the image; `Fit` has what is asked of it, one by one
abbrev pub NoFit : List ℕ → Handle → Type 0
NoFit s h = Fit h (length s) → ⊥

-- 10: an IPv6 address is asked of an IPv4 image
abbrev pub IsIpv6 : Address → Type 0
IsIpv6 (V4 low) = ⊥
IsIpv6 (V6 high low) = Unit

-- 11: a record above the node count gives no offset inside a data section of so many bytes
abbrev pub NoOffset : ℕ → ℕ → ℕ → Type 0
NoOffset nodes room record' = (nodes < record') × ((offset : ℕ) → offset < room → record' ≡ nodes + 16 + offset → ⊥)

-- the record that an address's way ends in: one bit a level, highest first, an IPv4 address from the IPv4 start on
abbrev pub record_of : List ℕ → Handle → Address → ℕ
record_of s h (V4 low) = (down s h.size h.nodes (number_of (record { high = 0; low = low })) 32 0 32 h.start4).node
record_of s h (V6 high low) = (down s h.size h.nodes (number_of (record { high = high; low = low })) 128 0 128 0).node

-- lookup: 9, 10, 11
abbrev pub lookup_table : List ℕ → Handle → Address → Table
lookup_table s h a =
    (Refuses 9, NoFit s h)
    ∷ (Refuses 10, IsIpv6 a × (h.version ≡ 4))
    ∷ (Refuses 11, NoOffset h.nodes (data_length h) (record_of s h a))
    ∷ []
