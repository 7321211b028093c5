-- An empty map or array, by its header alone: behind at most one pointer, and nothing else is looked at.
use Rattle.std.specs.Prelude.{ℕ, List, Bool, ◌&&◌, ◌||◌, eqb, Option, Some, None, Result, Ok, Err}
use Rattle.control.specs.Control.{is_type}
use Rattle.control.specs.Pointers.{behind_at}
use Rattle.control.specs.declared.Kind.{Kind}
use Rattle.control.specs.declared.Head.{Head}
use Rattle.refusal.specs.declared.Refusal.{Refusal}
use Rattle.refusal.specs.declared.Refusal.TheVariants as refusal

abbrev pub empty_of : Kind → ℕ → Bool
empty_of k n = eqb n 0 && (is_type k 7 || is_type k 11)

abbrev pub empty_on : Option Head → Result Bool Refusal
empty_on (Some h) = Ok (empty_of h.kind h.size)
empty_on None = Err refusal.Malformed

unfoldable pub empty_at : List ℕ → ℕ → Result Bool Refusal
empty_at s at = empty_on (behind_at s at)
