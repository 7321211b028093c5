-- The value of one metadata field, behind at most one pointer: a number, a text, an array of texts, or a map of texts to texts.
use Rattle.std.specs.Prelude.{ℕ, zero, suc, List, cond, take, drop, Option, Some, None}
use Rattle.number.specs.Bytes.{be_at}
use Rattle.control.specs.Control.{type_number, is_type, is_pointer}
use Rattle.control.specs.declared.Kind.{Kind}
use Rattle.control.specs.declared.Kind.TheVariants as kind
use Rattle.stored.specs.Stored.{stored_at, resolved_at}
use Rattle.stored.specs.declared.Layout.{Layout}
use Rattle.charge.specs.Charge.{paid}
use Rattle.charge.specs.declared.Charge.{Charge}
use Rattle.text.specs.Utf8.{well_formed}
use Rattle.key.specs.Keys.{name_at}
use Rattle.key.specs.declared.Name.{Name}
use Rattle.skip.specs.Skip.{entry_of}
use Rattle.skip.specs.declared.Entry.{Entry}
use Rattle.skip.specs.declared.Entry.TheVariants.{Leaf, Nest}
use Rattle.fields.specs.declared.Got.{Got}

-- a value that was read
abbrev pub got : ℕ → ℕ → ℕ → Charge → Got
got v p next c = record { value = v; place = p; next = next; charge = c }

-- a text of n bytes at p, for which there is room
abbrev pub text_paid : ℕ → ℕ → ℕ → Option Charge → Option Got
text_paid n p next (Some c) = Some (got n p next c)
text_paid n p next None = None

-- a text is UTF-8 and charged whole; its number is its size
abbrev pub text_of : List ℕ → ℕ → ℕ → ℕ → Charge → Option Got
text_of s n p next c = cond (well_formed (take n (drop p s))) (text_paid n p next (paid c n)) None

abbrev pub text_on : List ℕ → Charge → Option Name → Option Got
text_on s c (Some x) = text_of s x.size x.from x.next c
text_on s c None = None

-- the text at a place
unfoldable pub text_at : List ℕ → ℕ → Charge → Option Got
text_at s at c = text_on s c (name_at s at)

-- n values one after the other, from where one left off: what the last of them gives
unfoldable pub many : (ℕ → Charge → Option Got) → ℕ → Option Got → Option Got
many f zero x = x
many f (suc n) (Some x) = many f n (f x.next x.charge)
many f (suc n) None = None

-- nothing has been read yet, and texts begin at a place
abbrev pub begin : ℕ → Charge → Got
begin at c = got 0 0 at c

-- n texts from a place
abbrev pub texts_at : List ℕ → ℕ → ℕ → Charge → Option Got
texts_at s n at c = many (text_at s) n (Some (begin at c))

abbrev pub past_on : ℕ → Option Layout → ℕ
past_on e (Some l) = cond (is_pointer l.kind) l.next e
past_on e None = e

-- what follows a map or an array at a place, whose entries end at e, begins there, or past the pointer that led to it
unfoldable pub past_at : List ℕ → ℕ → ℕ → ℕ
past_at s at e = past_on e (stored_at s at)

abbrev pub closed : List ℕ → ℕ → ℕ → ℕ → Option Got → Option Got
closed s at size first (Some x) = Some (got size first (past_at s at x.next) x.charge)
closed s at size first None = None

-- the map or array at a place is entered, and every text in it is read; its number is its size
abbrev pub entries_on : List ℕ → ℕ → ℕ → Option Entry → Option Got
entries_on s at size (Some (Leaf next)) = None
entries_on s at size (Some (Nest first count c)) = closed s at size first (texts_at s count first c)
entries_on s at size None = None

abbrev pub entries_of : List ℕ → ℕ → Kind → ℕ → ℕ → Charge → Option Got
entries_of s at k n p c = entries_on s at n (entry_of k n p c)

-- by kind: what lies at p, found from `at`
abbrev pub value_of : List ℕ → ℕ → Kind → ℕ → ℕ → ℕ → Charge → Option Got
value_of s at kind.Pointer n p next c = None
value_of s at kind.Text n p next c = text_of s n p next c
value_of s at kind.Double n p next c = None
value_of s at kind.Bytes n p next c = None
value_of s at kind.U16 n p next c = Some (got (be_at s p n) p next c)
value_of s at kind.U32 n p next c = Some (got (be_at s p n) p next c)
value_of s at kind.Map n p next c = entries_of s at kind.Map n p c
value_of s at kind.I32 n p next c = None
value_of s at kind.U64 n p next c = Some (got (be_at s p n) p next c)
value_of s at kind.U128 n p next c = None
value_of s at kind.Array n p next c = entries_of s at kind.Array n p c
value_of s at kind.Boolean n p next c = None
value_of s at kind.Float n p next c = None
value_of s at kind.Unknown n p next c = None

abbrev pub value_on : List ℕ → Kind → ℕ → Charge → Option Layout → Option Got
value_on s want at c (Some l) = cond (is_type l.kind (type_number want)) (value_of s at l.kind l.size l.payload l.next c) None
value_on s want at c None = None

-- the value at a place, which has the kind wanted
unfoldable pub value_at : List ℕ → Kind → ℕ → Charge → Option Got
value_at s want at c = value_on s want at c (resolved_at s at)
