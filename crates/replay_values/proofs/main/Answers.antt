-- The room keeps its length where the table is read into its part.
use Rattle.std.proofs.Common.{rules, sym, length-take-le}
use borrow.Rule.Slice.PartMut.{same_len_mid}
use Rattle.replay_values.proofs.main.Goals as goal

pub slice_bounds-room-end-2 : goal.slice_bounds-room-end-2
slice_bounds-room-end-2 c = search (rules, same_len_mid)

pub slice_bounds-table-end : goal.slice_bounds-table-end
slice_bounds-table-end c = sym (length-take-le _ _ (search (rules, same_len_mid)))
