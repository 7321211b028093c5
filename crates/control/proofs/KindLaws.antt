-- Kinds by their type numbers.
use mathlib.Core.Path.{◌≡◌, refl, sym, ap, ◌∙◌}
use mathlib.Core.Bool.{true}
use borrow.Author.Tests.{eqb-true}
use Rattle.control.specs.Control.{kind_of, type_number, is_type}
use Rattle.control.specs.declared.Kind.{Kind}
use Rattle.control.specs.declared.Kind.TheVariants as kind

-- a kind is that of its number
pub kind_again : (k : Kind) → kind_of (type_number k) ≡ k
unfolding kind_of
kind_again kind.Pointer = refl
kind_again kind.Text = refl
kind_again kind.Double = refl
kind_again kind.Bytes = refl
kind_again kind.U16 = refl
kind_again kind.U32 = refl
kind_again kind.Map = refl
kind_again kind.I32 = refl
kind_again kind.U64 = refl
kind_again kind.U128 = refl
kind_again kind.Array = refl
kind_again kind.Boolean = refl
kind_again kind.Float = refl
kind_again kind.Unknown = refl

-- kinds of one type number are one
pub kind_is : (j k : Kind) → is_type k (type_number j) ≡ true → k ≡ j
kind_is j k e = sym (kind_again k) ∙ ap kind_of (eqb-true (type_number k) (type_number j) e) ∙ kind_again j
