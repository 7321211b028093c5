-- UTF-8 in the words of the Unicode standard, chapter 3: the well-formed byte sequences (table 3-7), the scalar values (D76),
-- and how a scalar value is encoded (table 3-6).
use Rattle.std.specs.Prelude.{ℕ, ◌+◌, ◌-◌, ◌/◌, ◌%◌, ◌≡◌, List, [], ◌∷◌, ◌++◌, Option, Some, None}
use Rattle.std.specs.Prelude.{Bool, true, false, cond, ◌&&◌, ◌||◌, leb, eqb}
use Rattle.std.specs.List.{list_all}
use Rattle.text.specs.declared.Next.{Next}

-- so many more bytes of this character, and the next of them from lo to hi
abbrev pub bytes : ℕ → ℕ → ℕ → Next
bytes need lo hi = record { need = need; lo = lo; hi = hi }

abbrev pub within : ℕ → ℕ → ℕ → Bool
within lo hi b = leb lo b && leb b hi

-- Table 3-7: what the first byte of a character asks for; none where a character cannot begin so.
abbrev pub first : ℕ → Option Next
first b =
    cond (leb b 0x7f) (Some (bytes 0 0x80 0xbf))
    (cond (within 0xc2 0xdf b) (Some (bytes 1 0x80 0xbf))
    (cond (within 0xe0 0xe0 b) (Some (bytes 2 0xa0 0xbf))
    (cond (within 0xe1 0xec b) (Some (bytes 2 0x80 0xbf))
    (cond (within 0xed 0xed b) (Some (bytes 2 0x80 0x9f))
    (cond (within 0xee 0xef b) (Some (bytes 2 0x80 0xbf))
    (cond (within 0xf0 0xf0 b) (Some (bytes 3 0x90 0xbf))
    (cond (within 0xf1 0xf3 b) (Some (bytes 3 0x80 0xbf))
    (cond (within 0xf4 0xf4 b) (Some (bytes 3 0x80 0x8f))
    None))))))))

-- a byte, where `bytes need lo hi` was asked for
abbrev pub after : ℕ → ℕ → ℕ → ℕ → Option Next
after need lo hi b = cond (eqb need 0) (first b) (cond (within lo hi b) (Some (bytes (need - 1) 0x80 0xbf)) None)

-- the bytes that are left, and what may come next
unfoldable pub run : List ℕ → Option Next → Bool
run [] (Some n) = eqb n.need 0
run [] None = false
run (b ∷ s) (Some n) = run s (after n.need n.lo n.hi b)
run (b ∷ s) None = false

abbrev pub well_formed : List ℕ → Bool
well_formed s = run s (Some (bytes 0 0x80 0xbf))

-- every byte is a character of its own
unfoldable pub ascii : List ℕ → Bool
ascii s = list_all (λ b. leb b 0x7f) s

-- a code point that is no surrogate
abbrev pub scalar : ℕ → Bool
scalar c = leb c 0xd7ff || within 0xe000 0x10ffff c

-- a byte after the first holds six bits
abbrev pub trailing : ℕ → ℕ
trailing v = 0x80 + v % 64

-- table 3-6
unfoldable pub encode : ℕ → List ℕ
encode c =
    cond (leb c 0x7f) (c ∷ [])
    (cond (leb c 0x7ff) ((0xc0 + c / 64) ∷ trailing c ∷ [])
    (cond (leb c 0xffff) ((0xe0 + c / 4096) ∷ trailing (c / 64) ∷ trailing c ∷ [])
    ((0xf0 + c / 262144) ∷ trailing (c / 4096) ∷ trailing (c / 64) ∷ trailing c ∷ [])))

unfoldable pub all_scalar : List ℕ → Bool
all_scalar [] = true
all_scalar (c ∷ cs) = scalar c && all_scalar cs

unfoldable pub encode_all : List ℕ → List ℕ
encode_all [] = []
encode_all (c ∷ cs) = encode c ++ encode_all cs

-- the bytes are the concatenation of the encodings of scalar values
abbrev pub OfScalars : List ℕ → Type 0
OfScalars s = (cs : List ℕ) × (all_scalar cs ≡ true) × (encode_all cs ≡ s)
