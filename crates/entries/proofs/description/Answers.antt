use Prim.Native.Nat.{◌+◌, ◌*◌}
use mathlib.Core.Path.{◌≡◌}
use native.Mathlib.Omega.{arith}
use borrow.Author.Tests.{lt-ltb, le-ltb}
use Rattle.entries.specs.Entries.{description_of}
use Rattle.entries.proofs.description.Goals as goal

pub returns-then-index-m : goal.returns-then-index-m
unfolding description_of
returns-then-index-m c =
    let i = c.args.index in
    let e : i + (i + 1) ≡ i * 2 + 1 = omega arith in
    let g : i + 1 + (i + 1) ≡ i * 2 + 2 = omega arith in
    simp (lt-ltb _ _ c.if-index-m.true, c.last_text.ensures, c.last_text-then-index-m.ensures, e, g)

pub returns-else-index-m : goal.returns-else-index-m
unfolding description_of
returns-else-index-m c = simp (le-ltb _ _ c.if-index-m.false)
