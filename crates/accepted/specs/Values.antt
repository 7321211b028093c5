-- The values of an accepted section d, for those who pass over them and read them.
use Rattle.std.specs.Prelude.{ℕ, zero, suc, ◌+◌, ◌*◌, ◌<◌, ◌≡◌, true, cond, List, Option, Some, None, Err, length, take, drop}
use Rattle.refusal.specs.declared.Refusal.{Refusal}
use Rattle.refusal.specs.declared.Refusal.TheVariants as refusal
use Rattle.control.specs.Control.{is_type}
use Rattle.control.specs.Pointers.{link, link_at}
use Rattle.control.specs.declared.Kind.{Kind}
use Rattle.control.specs.declared.Kind.TheVariants as kind
use Rattle.stored.specs.Stored.{layout, stored_at, resolved_at}
use Rattle.stored.specs.declared.Layout.{Layout}
use Rattle.charge.specs.Charge.{most_values}
use Rattle.charge.specs.declared.Charge.{Charge}
use Rattle.skip.specs.Skip.{past, skipped_at}
use Rattle.text.specs.Utf8.{well_formed}
use Rattle.value.specs.Value.{read_at}
use Rattle.graph.specs.Graph.{levels}
use Rattle.graph.specs.Sets.{Set}
use Rattle.sweep.specs.Pass.{pass_many, pass_at}

-- an operation that has charged nothing
abbrev pub fresh : Charge
fresh = record { values = 0; payload = 0 }

-- ---- the values inside a value

-- the children of a map of n pairs, or of an array of n values; other values have none
abbrev pub children_of : Kind → ℕ → ℕ
children_of k n = cond (is_type k 7) (n * 2) (cond (is_type k 11) n 0)

-- what follows a value that was passed
abbrev pub and_more : Option ℕ → (ℕ → ℕ) → ℕ
and_more (Some p) rest = rest p
and_more None rest = 0

-- in n values one after the other
unfoldable pub held_in_many : (ℕ → Option ℕ) → (ℕ → ℕ) → ℕ → ℕ → ℕ
held_in_many pass held zero p = 0
held_in_many pass held (suc n) p = held p + and_more (pass p) (held_in_many pass held n)

abbrev pub held_on : (ℕ → ℕ → ℕ) → Option Layout → ℕ
held_on inside (Some v) = children_of v.kind v.size + inside (children_of v.kind v.size) v.next
held_on inside None = 0

-- how many values are inside a value: its children, and those inside them
unfoldable pub held_at : ℕ → List ℕ → ℕ → ℕ
held_at zero s p = held_on (λ n q. 0) (stored_at s p)
held_at (suc l) s p = held_on (held_in_many (pass_at l s) (held_at l s)) (stored_at s p)

-- ---- the values that verification reaches from a set of places: behind pointers, and inside maps and arrays

pub data Reached (d : List ℕ) (from : Set) : ℕ → Type 0 where
  first : {p : ℕ} → p < length d → from p ≡ true → Reached d from p
  pointed : {p n q next t end : ℕ} → Reached d from p → stored_at d p ≡ Some (layout kind.Pointer n q next) → link_at d n q ≡ Some (link t end) → Reached d from t
  child : {p n q next r : ℕ} {k : Kind} (i : ℕ) → Reached d from p → stored_at d p ≡ Some (layout k n q next) → i < children_of k n
      → pass_many (pass_at levels d) i next ≡ Some r → Reached d from r

-- ---- passing over a value and reading it, nothing charged before

-- the one limit that passing over can meet: the value and those inside it are more than 65,536
abbrev pub TooMany : List ℕ → ℕ → Type 0
TooMany d p = most_values < 1 + held_at levels d p

-- why reading can be refused
pub data Unread (d : List ℕ) (p : ℕ) : Type 0 where
  pointer_to_pointer : {n q next t past m r end : ℕ} → stored_at d p ≡ Some (layout kind.Pointer n q next) → link_at d n q ≡ Some (link t past) → stored_at d t ≡ Some (layout kind.Pointer m r end)
      → Unread d p
  too_many_children : {k : Kind} {n q next : ℕ} → resolved_at d p ≡ Some (layout k n q next) → most_values < 1 + children_of k n → Unread d p

pub record Usable (d : List ℕ) (p : ℕ) : Type 0 where
  -- it lies in the section: without a limit of values it is passed over, and this is where it ends
  pub end : ℕ
  pub passes : pass_at levels d p ≡ Some end
  -- passing over it ends there too, and is refused exactly if the values are too many
  pub skips : (TooMany d p → ⊥) → (c : Charge) × (skipped_at d p fresh ≡ Some (past end c))
  pub stuck : TooMany d p → skipped_at d p fresh ≡ None
  -- reading it gives a value, or 14 for a pointer to a pointer or for the limit of values
  pub reads : (r : Refusal) → read_at d p fresh ≡ Err r → (r ≡ refusal.Malformed) × Unread d p
  -- a text is UTF-8
  pub text : {n q next : ℕ} → stored_at d p ≡ Some (layout kind.Text n q next) → well_formed (take n (drop q d)) ≡ true
