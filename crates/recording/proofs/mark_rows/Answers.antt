use mathlib.Core.Path.{sym, ap, ◌∙◌}
use Prim.Native.Nat.{◌-◌, ◌+◌, ◌*◌, ◌/◌}
use native.Mathlib.Omega.{arith}
use lib.ListN.{length, get_or}
use Rattle.marks.specs.Marks.{record_each, Below}
use Rattle.marks.proofs.MarkLaws.{length_each}
use Rattle.recording.specs.Recording.{Roomy, offset_in, offsets_from}
use Rattle.recording.proofs.RunLaws.{row_first, row_none, recorded_first, roomy_first}
use Rattle.recording.proofs.mark_rows.Goals as goal
use Rattle.recording.proofs.mark_rows.Goals.{After-offset_of}

-- there is room for a row's offset, and for those behind
roomy : (c : After-offset_of) → Roomy (length c.args.bits.now) c.offset_of.result × Below (length c.args.bits.now / 2 * 64) (offsets_from c.args.rows.now (c.loop-row.row + 1) (c.args.n - (c.loop-row.row + 1)))
roomy c = rw c.offset_of.ensures (roomy_first (length c.args.bits.now) (offset_in (get_or c.args.rows.now (c.loop-row.row * 5 + 4) 0)) _ (rw (row_first c.args.rows.now c.loop-row.row c.args.n c.loop-row-test.true) at c.loop-row.invariant.1))

pub mark-requires : goal.mark-requires
mark-requires c = rw c.loop-row.invariant.0 (roomy (goal.at.mark-requires c).After-offset_of).0

pub loop-row-preserved : goal.loop-row-preserved
loop-row-preserved c = (
  ap length c.mark.ensures ∙ length_each _ _ ∙ c.loop-row.invariant.0,
  (roomy (goal.at.loop-row-preserved c).After-offset_of).1,
  rw (c.mark.ensures, c.offset_of.ensures)
      (sym (recorded_first c.loop-row.bits (offset_in (get_or c.args.rows.now (c.loop-row.row * 5 + 4) 0)) _)
      ∙ ap (record_each c.loop-row.bits) (sym (row_first c.args.rows.now c.loop-row.row c.args.n c.loop-row-test.true))
      ∙ c.loop-row.invariant.2),
)

pub returns : goal.returns
unfolding record_each
returns c = rw (row_none c.args.rows.now c.loop-row.row c.args.n (omega (arith, c.loop-row-test.false))) at c.loop-row.invariant.2
