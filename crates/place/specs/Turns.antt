-- What taking a place comes to.
use Rattle.std.specs.Prelude.{ℕ, ◌+◌, Bool, cond, List, length, eqb, ltb, Option, Some, None, Result, Ok, Err}
use Rattle.refusal.specs.declared.Refusal.{Refusal}
use Rattle.refusal.specs.declared.Refusal.TheVariants as refusal
use Rattle.number.specs.declared.Key.{Key}
use Rattle.number.specs.Keys.{number_of, key_of, with_bit, masked_to}
use Rattle.handle.specs.declared.Handle.{Handle}
use Rattle.tree.specs.Record.{record_at}
use Rattle.tree.specs.Lookup.{answer_of}
use Rattle.tree.specs.declared.Found.{Found}
use Rattle.value.specs.Empty.{empty_at}
use Rattle.place.specs.declared.Place.{Place}
use Rattle.place.specs.declared.Options.{Options}
use Rattle.place.specs.declared.Network.{Network}
use Rattle.place.specs.declared.Outcome.TheVariants.{Given, Failed}
use Rattle.place.specs.declared.Turn.{Turn}
use Rattle.place.specs.declared.Turn.TheVariants.{Passed, Out, Opened}
use Rattle.place.specs.Kinds.{is_skipped, kind_of}

-- the child's bit set in the key: bit 0 leaves it as it is
unfoldable pub child_key : Key → ℕ → ℕ → ℕ → Key
child_key k width len bit = cond (eqb bit 0) k (key_of (with_bit (number_of k) width len))

-- the left child of a node at a place for bit 0, the right one else
abbrev pub child_of : List ℕ → ℕ → ℕ → Place → ℕ → Place
child_of s size width p bit =
    record { value = record_at s size p.value bit; key = child_key p.key width p.len bit; len = p.len + 1 }

-- the network of a place; its key is masked to its length
abbrev pub network_of : Handle → ℕ → Place → Option ℕ → Network
network_of h width p o =
    record { key = key_of (masked_to (number_of p.key) width p.len); len = p.len; kind = kind_of h width p; offset = o }

-- a network with data, where empty values are skipped
abbrev pub unless_empty : Result Bool Refusal → Network → Turn
unless_empty (Ok b) n = cond b Passed (Out (Given n))
unless_empty (Err e) n = Out (Failed e)

-- a terminal place, by what its record says
abbrev pub end_at : List ℕ → Handle → Options → ℕ → Place → Option ℕ → Turn
end_at d h o width p (Some offset) =
    cond o.skipempty (unless_empty (empty_at d offset) (network_of h width p (Some offset))) (Out (Given (network_of h width p (Some offset))))
end_at d h o width p None = cond o.dataless (Out (Given (network_of h width p None))) Passed

abbrev pub end_of : List ℕ → Handle → Options → ℕ → Place → Option Found → Turn
end_of d h o width p (Some f) = end_at d h o width p f.offset
end_of d h o width p None = Out (Failed refusal.Record)

-- an alias is skipped unless asked for; an internal node is opened, at full width it is refusal 12; d is the data section
unfoldable pub turn_of : List ℕ → Handle → Options → ℕ → Place → Turn
turn_of d h o width p =
    cond (is_skipped h o width p) Passed
    (cond (ltb p.value h.nodes)
    (cond (ltb p.len width) Opened (Out (Failed refusal.TooDeep)))
    (end_of d h o width p (answer_of h.nodes (length d) p.value p.len)))
