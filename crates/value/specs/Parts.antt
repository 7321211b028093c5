-- The bytes of a text, or of a value of bytes, as a part of the section.
use Rattle.std.specs.Borrow.{Bor}
use Rattle.std.specs.Prelude.{ℕ, ◌+◌, List, Bool, cond, take, drop, Option, Some, None, unwrap_or, Result, Ok, Err}
use Rattle.refusal.specs.declared.Refusal.{Refusal}
use Rattle.charge.specs.declared.Charge.{Charge}
use Rattle.stored.specs.Stored.{resolved_at}
use Rattle.stored.specs.declared.Layout.{Layout}
use Rattle.value.specs.Value.{read_at}
use Rattle.value.specs.declared.Value.{Value}
use Rattle.value.specs.declared.Value.TheVariants.{Map, Array, Text, Bytes, U16, U32, U64, U128, I32, Boolean, Double, Float}

-- how many bytes a text has, or, asked for bytes, a value of bytes
abbrev pub size_of : Bool → Value → Option ℕ
size_of bytes (Map n) = None
size_of bytes (Array n) = None
size_of bytes (Text n) = cond bytes None (Some n)
size_of bytes (Bytes n) = cond bytes (Some n) None
size_of bytes (U16 n) = None
size_of bytes (U32 n) = None
size_of bytes (U64 n) = None
size_of bytes (U128 h l) = None
size_of bytes (I32 z) = None
size_of bytes (Boolean b) = None
size_of bytes (Double x b) = None
size_of bytes (Float x b) = None

-- the same of what reading gives: a refusal has no bytes
abbrev pub size_read : Bool → Result Value Refusal → Option ℕ
size_read bytes (Ok v) = size_of bytes v
size_read bytes (Err r) = None

-- where the payload begins
abbrev pub payload_of : Option Layout → ℕ
payload_of (Some l) = l.payload
payload_of None = 0

-- where a part begins and how long it is
abbrev pub span_of : ℕ → Option ℕ → Option (ℕ × ℕ)
span_of p (Some n) = Some (p, n)
span_of p None = None

-- the part that reading finds at a place, where it finds one
unfoldable pub part_at : List ℕ → ℕ → Charge → Bool → Option (ℕ × ℕ)
part_at s at c bytes = span_of (payload_of (resolved_at s at)) (size_read bytes (read_at s at c))

-- none is the section's first 0 bytes
abbrev pub or_nothing : Option (ℕ × ℕ) → ℕ × ℕ
or_nothing x = unwrap_or x (0, 0)

abbrev pub spanned : List ℕ → ℕ × ℕ → List ℕ
spanned s x = take x.1 (drop x.0 s)

-- the bytes of a part where they lie in what was lent
abbrev pub parts : Bor (List ℕ) → Option (ℕ × ℕ) → Option (Bor (List ℕ))
parts s (Some x) = Some (record { ref_ptr = (s.ref_ptr.0, s.ref_ptr.1 + x.0); now = spanned s.now x })
parts s None = None
