-- Demand 3, for every image that opens.
use Prim.Native.Nat.{ℕ, ◌<◌}
use mathlib.Core.Path.{◌≡◌}
use mathlib.Core.List.{List}
use lib.ListN.{get_or}
use Rattle.opening.specs.Opening.{open_of}
use Rattle.opening.specs.declared.Reader.{Reader}
use Rattle.std.specs.Prelude.{Ok}
use Rattle.carried.proofs.InShape.{never_13}
use Rattle.carried.proofs.Paused.{paused_after}
use Rattle.ranges.specs.Demand.{Demand}
use Rattle.ranges.proofs.OpenedLaws.{from_opening, full}
use Rattle.ranges.proofs.ChoiceLaws.{typed_addressed, starts, choices}
use Rattle.ranges.proofs.RangeLaws.{ranged}

pub demand_3_opened : (image : List ℕ) → ((i : ℕ) → get_or image i 0 < 256) → {reader : Reader} → open_of image ≡ Ok reader → Demand image reader.handle
demand_3_opened image bytes {reader} e =
    let h = reader.handle in
    let o = from_opening image bytes e in
    record {
      shaped = never_13 image h;
      busy = paused_after image h;
      full = full image h o;
      ranges = λ r options ty b. ranged image h o r ty (starts image h r options b);
      options = λ r options ty b. choices image h r options (typed_addressed r ty) b;
    }
