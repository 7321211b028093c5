-- Control bytes of a section s, a list of bytes: the specification's "Data Field Format" and "Payload Size".
use Rattle.std.specs.Prelude.{ℕ, ◌+◌, ◌/◌, ◌%◌, List, Bool, Option, Some, None, cond, length, get_or, ltb, leb, eqb}
use Rattle.number.specs.Bytes.{be_at}
use Rattle.control.specs.declared.Kind.{Kind}
use Rattle.control.specs.declared.Kind.TheVariants as kind
use Rattle.control.specs.declared.Head.{Head}

-- the kind of a type number
unfoldable pub kind_of : ℕ → Kind
kind_of n =
    cond (eqb n 1) kind.Pointer
    (cond (eqb n 2) kind.Text
    (cond (eqb n 3) kind.Double
    (cond (eqb n 4) kind.Bytes
    (cond (eqb n 5) kind.U16
    (cond (eqb n 6) kind.U32
    (cond (eqb n 7) kind.Map
    (cond (eqb n 8) kind.I32
    (cond (eqb n 9) kind.U64
    (cond (eqb n 10) kind.U128
    (cond (eqb n 11) kind.Array
    (cond (eqb n 14) kind.Boolean
    (cond (eqb n 15) kind.Float
    kind.Unknown))))))))))))

-- the type number of a kind; Unknown is 0, which stands for none
abbrev pub type_number : Kind → ℕ
type_number kind.Pointer = 1
type_number kind.Text = 2
type_number kind.Double = 3
type_number kind.Bytes = 4
type_number kind.U16 = 5
type_number kind.U32 = 6
type_number kind.Map = 7
type_number kind.I32 = 8
type_number kind.U64 = 9
type_number kind.U128 = 10
type_number kind.Array = 11
type_number kind.Boolean = 14
type_number kind.Float = 15
type_number kind.Unknown = 0

abbrev pub is_type : Kind → ℕ → Bool
is_type k n = eqb (type_number k) n

abbrev pub is_pointer : Kind → Bool
is_pointer k = is_type k 1

-- a header
abbrev pub head : Kind → ℕ → ℕ → Head
head k n p = record { kind = k; size = n; payload = p }

-- a number of n bytes from p on, which counts from base, and where what follows it begins
abbrev pub counted_at : List ℕ → ℕ → ℕ → ℕ → Option (ℕ × ℕ)
counted_at s base n p = cond (leb (p + n) (length s)) (Some (base + be_at s p n, p + n)) None

-- a size with n more bytes, which count from base
abbrev pub more_at : List ℕ → Kind → ℕ → ℕ → ℕ → Option Head
more_at s k base n p = cond (leb (p + n) (length s)) (Some (head k (base + be_at s p n) (p + n))) None

-- the size codes: below 29 the size itself; 29, 30, 31 add 1, 2, 3 bytes to 29, 285, 65,821
unfoldable pub size_at : List ℕ → Kind → ℕ → ℕ → Option Head
size_at s k code p =
    cond (leb code 28) (Some (head k code p))
    (cond (eqb code 29) (more_at s k 29 1 p)
    (cond (eqb code 30) (more_at s k 285 2 p)
    (cond (eqb code 31) (more_at s k 65821 3 p)
    None)))

-- a pointer takes no size bytes: the code is kept as it is
unfoldable pub sized_at : List ℕ → Kind → ℕ → ℕ → Option Head
sized_at s k code p = cond (is_pointer k) (Some (head k code p)) (size_at s k code p)

-- the control byte at p: the top three bits are the type number, or 0 where the next byte plus 7 is; the low five are the size code
unfoldable pub head_at : List ℕ → ℕ → Option Head
head_at s p =
    cond (ltb p (length s))
    (cond (eqb (get_or s p 0 / 32) 0)
    (cond (ltb (p + 1) (length s)) (sized_at s (kind_of (get_or s (p + 1) 0 + 7)) (get_or s p 0 % 32) (p + 2)) None)
    (sized_at s (kind_of (get_or s p 0 / 32)) (get_or s p 0 % 32) (p + 1)))
    None
