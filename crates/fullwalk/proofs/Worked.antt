-- Image A of docs/SCOPE.md, case 7, walked to its end by calls of several budgets.
use Prim.Native.Nat.{◌^◌}
use mathlib.Core.Path.{refl}
use mathlib.Core.List.{[], ◌∷◌}
use Rattle.number.specs.Bytes.{be_at}
use Rattle.handle.specs.Handle.{fits_of}
use Rattle.tree.specs.Record.{record_at}
use Rattle.tree.specs.Lookup.{down, answer_of}
use Rattle.place.specs.Kinds.{is_alias, kind_of}
use Rattle.place.specs.Shape.{newest_out}
use Rattle.place.specs.Turns.{child_key, turn_of}
use Rattle.place.specs.declared.NetworkKind.TheVariants.{V4}
use Rattle.std.specs.Prelude.{Some, None}
use Rattle.walk.specs.Starts.{first_of, begin_of}
use Rattle.walk.specs.Calls.{out_of_shape, goes, next_of}
use Rattle.carried.proofs.Worked.{image, opened, net}
use Rattle.fullwalk.specs.FullWalk.{full_walk, Walked, ends, goes_on}

-- paused at once, paused after one place, and two networks
pub walked : Walked (image 17 1) (opened 4 0 0) (full_walk (image 17 1) (opened 4 0 0)) (net 0 1 V4 (Some 0) ∷ net (2 ^ 31) 1 V4 None ∷ [])
unfolding next_of goes out_of_shape newest_out turn_of kind_of is_alias child_key answer_of begin_of first_of fits_of down record_at be_at
walked = goes_on 0 (goes_on 1 (goes_on 1 (goes_on 7 (ends 0 refl))))
