-- The keys of maps: the specification's "Maps".
use Rattle.std.specs.Prelude.{ℕ, List, [], ◌∷◌, Bool, true, false, cond, ◌&&◌, eqb, Option, Some, None}
use Rattle.control.specs.Control.{is_type}
use Rattle.stored.specs.Stored.{resolved_at}
use Rattle.stored.specs.declared.Layout.{Layout}
use Rattle.key.specs.declared.Name.{Name}

-- two lists of bytes are the same
unfoldable pub same_bytes : List ℕ → List ℕ → Bool
same_bytes [] [] = true
same_bytes [] (y ∷ ys) = false
same_bytes (x ∷ xs) [] = false
same_bytes (x ∷ xs) (y ∷ ys) = eqb x y && same_bytes xs ys

-- n bytes from p on, and a value that begins at `next`
abbrev pub name : ℕ → ℕ → ℕ → Name
name p n next = record { from = p; size = n; next = next }

abbrev pub name_on : Option Layout → Option Name
name_on (Some l) = cond (is_type l.kind 2) (Some (name l.payload l.size l.next)) None
name_on None = None

-- the key at a place: a text, behind at most one pointer
unfoldable pub name_at : List ℕ → ℕ → Option Name
name_at s at = name_on (resolved_at s at)
