-- Keys and addresses: numbers below 2^128, kept in two halves of 64 bits.
use Rattle.std.specs.Prelude.{ℕ, ◌+◌, ◌-◌, ◌*◌, ◌/◌, ◌%◌, ◌^◌}
use Rattle.std.specs.Int.Bits.{bit_or}
use Rattle.number.specs.declared.Key.{Key}

-- the number of a key
abbrev pub number_of : Key → ℕ
number_of k = k.high * 2 ^ 64 + k.low

-- the key of a number
abbrev pub key_of : ℕ → Key
key_of n = record { high = n / 2 ^ 64; low = n % 2 ^ 64 }

-- the bit of an address of `width` bits at a place counted from the top
abbrev pub bit_from_top : ℕ → ℕ → ℕ → ℕ
bit_from_top n width index = n / 2 ^ (width - 1 - index) % 2

-- the address with that bit set
abbrev pub with_bit : ℕ → ℕ → ℕ → ℕ
with_bit n width index = bit_or n (2 ^ (width - 1 - index))

-- a number with its last k bits cleared
abbrev pub cleared : ℕ → ℕ → ℕ
cleared n k = n / 2 ^ k * 2 ^ k

-- an address of `width` bits masked to a length: the bits past it are cleared
abbrev pub masked_to : ℕ → ℕ → ℕ → ℕ
masked_to n width len = cleared n (width - len)
