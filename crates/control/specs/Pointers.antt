-- Pointers of a section s: the specification's "Pointers".
use Rattle.std.specs.Prelude.{ℕ, ◌+◌, ◌*◌, ◌/◌, ◌%◌, List, Option, Some, None, cond, length, leb, eqb}
use Rattle.number.specs.Bytes.{be_at}
use Rattle.control.specs.Control.{head_at, is_pointer}
use Rattle.control.specs.declared.Head.{Head}
use Rattle.control.specs.declared.Link.{Link}

-- where a pointer leads, and what follows it
abbrev pub link : ℕ → ℕ → Link
link t q = record { target = t; next = q }

-- a pointer with n more bytes, which count from base
abbrev pub far_at : List ℕ → ℕ → ℕ → ℕ → Option Link
far_at s base n p = cond (leb (p + n) (length s)) (Some (link (base + be_at s p n) (p + n))) None

-- code is the control byte's low five bits, p where its payload begins: two bits are the class, and three more are the highest of 11, 19 or 27 bits; class 3 has 32 bits and ignores them
unfoldable pub link_at : List ℕ → ℕ → ℕ → Option Link
link_at s code p =
    cond (eqb (code / 8 % 4) 0) (far_at s (code % 8 * 256) 1 p)
    (cond (eqb (code / 8 % 4) 1) (far_at s (2048 + code % 8 * 65536) 2 p)
    (cond (eqb (code / 8 % 4) 2) (far_at s (526336 + code % 8 * 16777216) 3 p)
    (far_at s 0 4 p)))

-- what a pointer leads to is no pointer again
abbrev pub on_target : Option Head → Option Head
on_target (Some h) = cond (is_pointer h.kind) None (Some h)
on_target None = None

abbrev pub on_link : List ℕ → Option Link → Option Head
on_link s (Some l) = on_target (head_at s l.target)
on_link s None = None

abbrev pub on_head : List ℕ → Option Head → Option Head
on_head s (Some h) = cond (is_pointer h.kind) (on_link s (link_at s h.size h.payload)) (Some h)
on_head s None = None

-- what a place leads to, behind at most one pointer
unfoldable pub behind_at : List ℕ → ℕ → Option Head
behind_at s p = on_head s (head_at s p)
