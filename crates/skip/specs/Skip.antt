-- What passing over a value means: docs/SCOPE.md, "Values".
use Rattle.std.specs.Prelude.{ℕ, zero, suc, ◌*◌, List, cond, Option, Some, None}
use Rattle.charge.specs.Charge.{entered}
use Rattle.charge.specs.declared.Charge.{Charge}
use Rattle.control.specs.Control.{is_type}
use Rattle.control.specs.declared.Kind.{Kind}
use Rattle.stored.specs.Stored.{stored_at}
use Rattle.stored.specs.declared.Layout.{Layout}
use Rattle.skip.specs.declared.Entry.{Entry}
use Rattle.skip.specs.declared.Entry.TheVariants.{Leaf, Nest}
use Rattle.skip.specs.declared.Past.{Past}

-- children for which there is room
abbrev pub nested : ℕ → ℕ → Option Charge → Option Entry
nested first count (Some c) = Some (Nest first count c)
nested first count None = None

abbrev pub nest_of : ℕ → ℕ → Charge → Option Entry
nest_of first count c = nested first count (entered c count)

-- a map of n pairs has 2 n children, an array n; nothing stands inside another value
abbrev pub entry_of : Kind → ℕ → ℕ → Charge → Option Entry
entry_of k n next c = cond (is_type k 7) (nest_of next (n * 2) c) (cond (is_type k 11) (nest_of next n c) (Some (Leaf next)))

abbrev pub entry_on : Charge → Option Layout → Option Entry
entry_on c (Some l) = entry_of l.kind l.size l.next c
entry_on c None = None

-- a value is come to: a pointer is no more than its own bytes
unfoldable pub entry_at : List ℕ → ℕ → Charge → Option Entry
entry_at s at c = entry_on c (stored_at s at)

-- what follows begins at `next`, and so much has been charged
abbrev pub past : ℕ → Charge → Past
past next c = record { next = next; charge = c }

-- n values one after the other, from where a step left off
unfoldable pub many : (ℕ → Charge → Option Past) → ℕ → Option Past → Option Past
many f zero x = x
many f (suc n) (Some p) = many f n (f p.next p.charge)
many f (suc n) None = None

-- children lie one level deeper
abbrev pub after : (ℕ → Option Past → Option Past) → Charge → Option Entry → Option Past
after deeper c (Some (Leaf next)) = Some (past next c)
after deeper c (Some (Nest first count d)) = deeper count (Some (past first d))
after deeper c None = None

-- past the value at a place, with so many levels still allowed
unfoldable pub skip_at : List ℕ → ℕ → ℕ → Charge → Option Past
skip_at s zero at c = after (λ n x. None) c (entry_at s at c)
skip_at s (suc l) at c = after (many (skip_at s l)) c (entry_at s at c)

-- 128 levels are allowed
abbrev pub skipped_at : List ℕ → ℕ → Charge → Option Past
skipped_at s at c = skip_at s 128 at c
