use Prim.Native.Nat.{◌+◌, ℕ, ◌-◌, ◌/◌}
use mathlib.Core.Path.{ap, ◌∙◌}
use native.Mathlib.Omega.{arith}
use lib.ListN.{set, length-set}
use lib.Seq.{sets}
use Rattle.listing.specs.Digits.{digits}
use Rattle.listing.proofs.LineLaws.{digit_written, digits_written}
use Rattle.listing.proofs.put_digits.Goals as goal

pub loop-left-preserved : goal.loop-left-preserved
loop-left-preserved c = (
  ap (λ (g : ℕ). sets (set c.loop-left.buf (c.args.at + (c.loop-left.left - 1)) g) c.args.at (digits c.args.base (c.loop-left.left - 1) (c.loop-left.rest / c.args.base))) c.glyph.ensures
      ∙ digit_written c.args.base c.loop-left.left c.loop-left.rest c.args.at c.loop-left.buf (omega arith)
      ∙ c.loop-left.invariant.0,
  simp length-set c.loop-left.invariant.1,
)

pub returns : goal.returns
returns c = digits_written c.args.base c.loop-left.left c.loop-left.rest c.args.at c.loop-left.buf (omega arith) ∙ c.loop-left.invariant.0
