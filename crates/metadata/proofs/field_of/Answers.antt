use mathlib.Core.Path.{sym}
use Rattle.metadata.specs.Names.{bytes, field_of}
use Rattle.metadata.proofs.field_of.Goals as goal

-- the check with half its limits stops at the last two
pub returns-then-same-9 : goal.returns-then-same-9
unfolding field_of bytes
returns-then-same-9 c =
    simp (sym c.if-same.ensures, sym c.if-same-2.ensures, sym c.if-same-3.ensures, sym c.if-same-4.ensures, sym c.if-same-5.ensures, sym c.if-same-6.ensures, sym c.if-same-7.ensures, sym c.if-same-8.ensures, sym c.if-same-9.ensures)

pub returns-else-same-9 : goal.returns-else-same-9
unfolding field_of bytes
returns-else-same-9 c =
    simp (sym c.if-same.ensures, sym c.if-same-2.ensures, sym c.if-same-3.ensures, sym c.if-same-4.ensures, sym c.if-same-5.ensures, sym c.if-same-6.ensures, sym c.if-same-7.ensures, sym c.if-same-8.ensures, sym c.if-same-9.ensures)
