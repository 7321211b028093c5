-- What one operation may charge: 65,536 values and 2,097,152 bytes of text and bytes.
use Rattle.std.specs.Prelude.{ℕ, ◌+◌, ◌-◌, cond, leb, eqb, Option, Some, None}
use Rattle.charge.specs.declared.Charge.{Charge}

abbrev pub most_values : ℕ
most_values = 65536

abbrev pub most_payload : ℕ
most_payload = 2097152

-- what is left of a limit; nothing where it is passed already
abbrev pub room_left : ℕ → ℕ → ℕ
room_left used most = most - used

-- the first map or array counts 1
abbrev pub since_entry : ℕ → ℕ
since_entry values = cond (eqb values 0) 1 values

-- a map or array with so many children is entered
unfoldable pub entered : Charge → ℕ → Option Charge
entered c count =
    cond (leb count (room_left (since_entry c.values) most_values))
    (Some (record { values = since_entry c.values + count; payload = c.payload }))
    None

-- a text or bytes of this size is read: free of charge until something was entered
unfoldable pub paid : Charge → ℕ → Option Charge
paid c size =
    cond (eqb c.values 0) (Some c)
    (cond (leb size (room_left c.payload most_payload))
    (Some (record { values = c.values; payload = c.payload + size }))
    None)
