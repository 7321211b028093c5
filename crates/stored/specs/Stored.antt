-- How a value lies in a section s: the specification's "Output Data Section", type by type.
use Rattle.std.specs.Prelude.{ℕ, ◌+◌, ◌/◌, ◌%◌, ◌≤◌, ◌≡◌, List, Option, Some, None, cond, length, leb, eqb}
use Rattle.control.specs.Control.{head_at, is_pointer}
use Rattle.control.specs.Pointers.{link_at}
use Rattle.control.specs.declared.Kind.{Kind}
use Rattle.control.specs.declared.Kind.TheVariants as kind
use Rattle.control.specs.declared.Head.{Head}
use Rattle.control.specs.declared.Link.{Link}
use Rattle.stored.specs.declared.Layout.{Layout}

-- a layout
abbrev pub layout : Kind → ℕ → ℕ → ℕ → Layout
layout k n q e = record { kind = k; size = n; payload = q; next = e }

-- at most so many bytes
abbrev pub up_to : ℕ → ℕ → Option ℕ
up_to most size = cond (leb size most) (Some size) None

-- exactly so many bytes
abbrev pub exactly : ℕ → ℕ → Option ℕ
exactly bytes size = cond (eqb size bytes) (Some size) None

-- the payload of each kind: a pointer's class, one to four bytes; a boolean's size is its value; the values inside a map or an array come after it
abbrev pub body_of : Kind → ℕ → Option ℕ
body_of kind.Pointer size = Some (size / 8 % 4 + 1)
body_of kind.Text size = Some size
body_of kind.Double size = exactly 8 size
body_of kind.Bytes size = Some size
body_of kind.U16 size = up_to 2 size
body_of kind.U32 size = up_to 4 size
body_of kind.Map size = Some 0
body_of kind.I32 size = up_to 4 size
body_of kind.U64 size = up_to 8 size
body_of kind.U128 size = up_to 16 size
body_of kind.Array size = Some 0
body_of kind.Boolean size = cond (leb size 1) (Some 0) None
body_of kind.Float size = exactly 4 size
body_of kind.Unknown size = None

-- a payload lies inside the section, and the next value begins past it
abbrev pub placed_at : List ℕ → Kind → ℕ → ℕ → Option ℕ → Option Layout
placed_at s k size payload (Some n) = cond (leb (payload + n) (length s)) (Some (layout k size payload (payload + n))) None
placed_at s k size payload None = None

unfoldable pub lying_at : List ℕ → Kind → ℕ → ℕ → Option Layout
lying_at s k size payload = placed_at s k size payload (body_of k size)

abbrev pub on_head : List ℕ → Option Head → Option Layout
on_head s (Some h) = lying_at s h.kind h.size h.payload
on_head s None = None

-- what lies at a place
unfoldable pub stored_at : List ℕ → ℕ → Option Layout
stored_at s p = on_head s (head_at s p)

-- what a pointer leads to is no pointer again; what follows begins past the pointer
abbrev pub on_target : ℕ → Option Layout → Option Layout
on_target past (Some l) = cond (is_pointer l.kind) None (Some (layout l.kind l.size l.payload past))
on_target past None = None

abbrev pub on_link : List ℕ → Option Link → Option Layout
on_link s (Some l) = on_target l.next (stored_at s l.target)
on_link s None = None

abbrev pub on_stored : List ℕ → Option Layout → Option Layout
on_stored s (Some l) = cond (is_pointer l.kind) (on_link s (link_at s l.size l.payload)) (Some l)
on_stored s None = None

-- what a place leads to, behind at most one pointer
unfoldable pub resolved_at : List ℕ → ℕ → Option Layout
resolved_at s p = on_stored s (stored_at s p)

-- what is known of a payload that lies at q in a section of `length` bytes
pub record Lies (length : ℕ) (k : Kind) (n q : ℕ) : Type 0 where
  pub takes : ℕ
  pub body : body_of k n ≡ Some takes
  pub inside : q + takes ≤ length
  pub small : n ≤ 16843036
