-- Laws of the difference of two times.
use Prim.Native.Nat.{ℕ, zero, suc, ◌-◌, ◌≤◌, ◌<◌}
use mathlib.Core.Path.{◌≡◌, refl}
use mathlib.Core.Bool.{Bool, true, false, cond}
use native.Mathlib.Omega.{arith}
use lib.Dec.{ltb}
use lib.IntN.{pos, negsuc, ◌-ℤ◌}
use mir.Syntax.{w64}
use mir.Val.{to_z, SFits}
use mir.ValLaws.{to_z_pos}
use Rattle.opening.specs.Opening.{last_time}

module _ (a b : ℕ) (ha : a ≤ last_time) (hb : b ≤ last_time) where
  as_signed : to_z w64 a -ℤ to_z w64 b ≡ pos a -ℤ pos b
  as_signed = rw (to_z_pos w64 a (omega arith), to_z_pos w64 b (omega arith))

below : (a n : ℕ) (t : Bool) → ltb a (suc n) ≡ t → a ≤ last_time → n < last_time → SFits w64 (cond t (negsuc (suc n - suc a)) (pos (a - suc n)))
below a n true e ha hn = record { sfits = omega arith }
below a n false e ha hn = record { sfits = omega arith }

difference_fits : (a b : ℕ) → a ≤ last_time → b ≤ last_time → SFits w64 (pos a -ℤ pos b)
difference_fits a zero ha hb = record { sfits = omega arith }
difference_fits a (suc n) ha hb = below a n (ltb a (suc n)) refl ha (omega arith)

-- the difference of two times is a signed number of 64 bits
pub signed_fits : (a b : ℕ) → a ≤ last_time → b ≤ last_time → SFits w64 (to_z w64 a -ℤ to_z w64 b)
signed_fits a b ha hb = rw (as_signed a b ha hb) (difference_fits a b ha hb)
