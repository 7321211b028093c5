-- The reading of one value: docs/SCOPE.md, "Values".
use Rattle.std.specs.Prelude.{ℕ, ◌*◌, List, cond, take, drop, eqb, Option, Some, None, Result, Ok, Err}
use Rattle.number.specs.Bytes.{be_at}
use Rattle.refusal.specs.declared.Refusal.{Refusal}
use Rattle.refusal.specs.declared.Refusal.TheVariants as refusal
use Rattle.control.specs.declared.Kind.{Kind}
use Rattle.control.specs.declared.Kind.TheVariants as kind
use Rattle.stored.specs.Stored.{resolved_at}
use Rattle.stored.specs.declared.Layout.{Layout}
use Rattle.charge.specs.Charge.{entered, paid}
use Rattle.charge.specs.declared.Charge.{Charge}
use Rattle.text.specs.Utf8.{well_formed}
use Rattle.value.specs.Numbers.{signed32, double_of, float_of, wide_at}
use Rattle.value.specs.declared.Value.{Value}
use Rattle.value.specs.declared.Value.TheVariants.{Map, Array, Text, Bytes, U16, U32, U64, I32, Boolean}

-- a value for which there is room
abbrev pub if_within : Option Charge → Result Value Refusal → Result Value Refusal
if_within (Some c) v = v
if_within None v = Err refusal.Malformed

-- n bytes from p as a text
abbrev pub text_at : List ℕ → ℕ → ℕ → Result Value Refusal
text_at s p n = cond (well_formed (take n (drop p s))) (Ok (Text n)) (Err refusal.Malformed)

-- by kind: a payload of so many bytes at p, with what has been charged
abbrev pub value_of : List ℕ → Kind → ℕ → ℕ → Charge → Result Value Refusal
value_of s kind.Pointer n p c = Err refusal.Malformed
value_of s kind.Text n p c = if_within (paid c n) (text_at s p n)
value_of s kind.Double n p c = Ok (double_of (be_at s p 8))
value_of s kind.Bytes n p c = if_within (paid c n) (Ok (Bytes n))
value_of s kind.U16 n p c = Ok (U16 (be_at s p n))
value_of s kind.U32 n p c = Ok (U32 (be_at s p n))
value_of s kind.Map n p c = if_within (entered c (n * 2)) (Ok (Map n))
value_of s kind.I32 n p c = Ok (I32 (signed32 (be_at s p n)))
value_of s kind.U64 n p c = Ok (U64 (be_at s p n))
value_of s kind.U128 n p c = Ok (wide_at s p n)
value_of s kind.Array n p c = if_within (entered c n) (Ok (Array n))
value_of s kind.Boolean n p c = Ok (Boolean (eqb n 1))
value_of s kind.Float n p c = Ok (float_of (be_at s p 4))
value_of s kind.Unknown n p c = Err refusal.Malformed

abbrev pub on_layout : List ℕ → Charge → Option Layout → Result Value Refusal
on_layout s c (Some l) = value_of s l.kind l.size l.payload c
on_layout s c None = Err refusal.Malformed

-- the value that a place leads to, behind at most one pointer
unfoldable pub read_at : List ℕ → ℕ → Charge → Result Value Refusal
read_at s at c = on_layout s c (resolved_at s at)
