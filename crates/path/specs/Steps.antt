-- Steps into a value: docs/SCOPE.md, "Values".
use Rattle.std.specs.Prelude.{ℕ, zero, suc, ◌-◌, ◌*◌, List, Bool, cond, length, take, drop, ltb, Option, Some, None, Result, Ok, Err}
use Rattle.refusal.specs.declared.Refusal.{Refusal}
use Rattle.refusal.specs.declared.Refusal.TheVariants as refusal
use Rattle.control.specs.Control.{is_type}
use Rattle.control.specs.declared.Kind.{Kind}
use Rattle.charge.specs.Charge.{entered, paid}
use Rattle.charge.specs.declared.Charge.{Charge}
use Rattle.stored.specs.Stored.{resolved_at}
use Rattle.stored.specs.declared.Layout.{Layout}
use Rattle.key.specs.Keys.{same_bytes, name_at}
use Rattle.key.specs.declared.Name.{Name}
use Rattle.skip.specs.Skip.{past, many, skipped_at}
use Rattle.skip.specs.declared.Past.{Past}
use Rattle.path.specs.declared.Cursor.{Cursor}
use Rattle.path.specs.declared.Inside.{Inside}
use Rattle.path.specs.declared.Pair.{Pair}
use Rattle.path.specs.declared.Pair.TheVariants as pair

abbrev pub cursor : ℕ → Charge → Cursor
cursor place charge = record { place = place; charge = charge }

-- what a step gives: a cursor, or nothing that is there, or a refusal
abbrev pub Step : Type 0
Step = Result (Option Cursor) Refusal

-- a step may not land at the section's end
abbrev pub landed : List ℕ → ℕ → Charge → Step
landed s place charge = cond (ltb place (length s)) (Ok (Some (cursor place charge))) (Err refusal.Malformed)

-- a map of n pairs has 2 n children, an array n
abbrev pub children_of : Kind → ℕ → ℕ
children_of k n = cond (is_type k 7) (n * 2) n

-- a map or array of n pairs or elements, whose children begin at `first`
abbrev pub inside : ℕ → ℕ → Charge → Inside
inside first n c = record { first = first; size = n; charge = c }

-- a map or array with room for its children
abbrev pub on_charged : ℕ → ℕ → Option Charge → Option Inside
on_charged first n (Some c) = Some (inside first n c)
on_charged first n None = None

abbrev pub inside_of : Kind → ℕ → ℕ → Charge → Option Inside
inside_of k n first c = on_charged first n (entered c (children_of k n))

-- what a place leads to is of the wanted type
abbrev pub inside_on : Charge → ℕ → Option Layout → Option Inside
inside_on c wanted (Some l) = cond (is_type l.kind wanted) (inside_of l.kind l.size l.payload c) None
inside_on c wanted None = None

unfoldable pub inside_at : List ℕ → Cursor → ℕ → Option Inside
inside_at s c wanted = inside_on c.charge wanted (resolved_at s c.place)

-- the pair's value is passed over
abbrev pub past_value : Option Past → Option Pair
past_value (Some p) = Some (pair.Not (cursor p.next p.charge))
past_value None = None

-- a key that is compared is charged, and then its value is the one, or is passed over
abbrev pub compared : List ℕ → List ℕ → ℕ → ℕ → ℕ → Option Charge → Option Pair
compared s key from n next (Some c) =
    cond (same_bytes (take n (drop from s)) key) (Some (pair.Here (cursor next c))) (past_value (skipped_at s next c))
compared s key from n next None = None

abbrev pub pair_on : List ℕ → List ℕ → Charge → Option Name → Option Pair
pair_on s key c (Some n) = compared s key n.from n.size n.next (paid c n.size)
pair_on s key c None = None

unfoldable pub pair_at : List ℕ → List ℕ → ℕ → Charge → Option Pair
pair_at s key place c = pair_on s key c (name_at s place)

-- what a pair says to the search for its key: the first equal key counts
abbrev pub sought : List ℕ → (ℕ → Charge → Step) → Option Pair → Step
sought s more (Some (pair.Here c)) = landed s c.place c.charge
sought s more (Some (pair.Not c)) = more c.place c.charge
sought s more None = Err refusal.Malformed

-- a key among the n pairs from a place on
unfoldable pub find_from : List ℕ → List ℕ → ℕ → ℕ → Charge → Step
find_from s key zero place c = Ok None
find_from s key (suc n) place c = sought s (find_from s key n) (pair_at s key place c)

abbrev pub on_skipped : List ℕ → Option Past → Step
on_skipped s (Some p) = landed s p.next p.charge
on_skipped s None = Err refusal.Malformed

-- the element past so many others
abbrev pub element_from : List ℕ → ℕ → ℕ → Charge → Step
element_from s index first c = on_skipped s (many (skipped_at s) index (Some (past first c)))

abbrev pub key_in : List ℕ → List ℕ → Option Inside → Step
key_in s key (Some x) = find_from s key x.size x.first x.charge
key_in s key None = Err refusal.Malformed

-- a step into a map by key
unfoldable pub key_step : List ℕ → Cursor → List ℕ → Step
key_step s c key = key_in s key (inside_at s c 7)

abbrev pub index_in : List ℕ → ℕ → Bool → Option Inside → Step
index_in s index backward (Some x) =
    cond (ltb index x.size)
    (cond backward (element_from s (x.size - 1 - index) x.first x.charge) (element_from s index x.first x.charge))
    (Ok None)
index_in s index backward None = Err refusal.Malformed

-- a step into an array by index, from the start or, 0 the last, from the end
unfoldable pub index_step : List ℕ → Cursor → ℕ → Bool → Step
index_step s c index backward = index_in s index backward (inside_at s c 11)
