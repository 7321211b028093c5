-- Demand 3 of docs/SCOPE.md, and what holds of an image that verification accepts.
use Prim.Native.Nat.{ℕ}
use mathlib.Core.Path.{◌≡◌}
use mathlib.Core.List.{List}
use Rattle.std.specs.Prelude.{Ok}
use Rattle.opening.specs.Opening.{open_of}
use Rattle.opening.specs.declared.Reader.{Reader}
use Rattle.verify.specs.Verify.{verify_of}
use Rattle.ranges.specs.Demand.{Demand}
use Rattle.ranges.proofs.DemandLaws.{demand_3_opened}
use Rattle.accepted.proofs.Accepted.{accepted}
use Rattle.accepted.specs.Accepted.{Bytes, Whole}

-- whatever the budgets, ranges and options: walks over an image that opens, with the handle that opening gave
pub demand_3 : (image : List ℕ) → Bytes image → {reader : Reader} → open_of image ≡ Ok reader → Demand image reader.handle
demand_3 = demand_3_opened

-- whatever the scratch held and the budget is
pub accepted_whole : (image : List ℕ) → Bytes image → (n : ℕ) (scratch : List ℕ) (budget : ℕ) → (verify_of image scratch budget).answer ≡ Ok n → Whole image n
accepted_whole = accepted
