-- Laws of kinds: what the payload of a text and of a pointer takes.
use Prim.Native.Nat.{ℕ, ◌+◌, ◌/◌, ◌%◌}
use mathlib.Core.Path.{◌≡◌, ap}
use mathlib.Core.Bool.{true}
use Rattle.std.specs.Prelude.{Some}
use Rattle.control.specs.Control.{is_type, is_pointer}
use Rattle.control.specs.declared.Kind.{Kind}
use Rattle.control.specs.declared.Kind.TheVariants as kind
use Rattle.control.proofs.KindLaws.{kind_is}
use Rattle.stored.specs.Stored.{body_of}

-- a text takes its size
pub text_takes : (k : Kind) (n : ℕ) → is_type k 2 ≡ true → body_of k n ≡ Some n
text_takes k n e = ap (λ (j : Kind). body_of j n) (kind_is kind.Text k e)

-- a pointer as many bytes as its class says
pub pointer_takes : (k : Kind) (n : ℕ) → is_pointer k ≡ true → body_of k n ≡ Some (n / 8 % 4 + 1)
pointer_takes k n e = ap (λ (j : Kind). body_of j n) (kind_is kind.Pointer k e)
