-- Laws of tests.
use Prim.Native.Nat.{ℕ, ◌≤◌, ◌<◌}
use mathlib.Core.Path.{◌≡◌, refl}
use mathlib.Core.Bool.{Bool, true, false, cond}
use mathlib.Core.Logic.{◌⊎◌, inl, inr}
use lib.Dec.{leb}
use Rattle.std.proofs.lemmas.Bool.Decides.{nat_tests}
use native.Mathlib.Omega.{arith}

-- two tests that say the same
pub leb_same : (a b c d : ℕ) → (a ≤ b → c ≤ d) → (b < a → d < c) → leb a b ≡ leb c d
leb_same a b c d f g = grind (arith, nat_tests)

-- which way a choice went
pub chosen : {A : Type 0} (b : Bool) {x y z : A} → cond b x y ≡ z → ((b ≡ true) × (x ≡ z)) ⊎ ((b ≡ false) × (y ≡ z))
chosen true e = inl (refl, e)
chosen false e = inr (refl, e)

-- a choice whose other way cannot be meant
pub chosen_first : {A : Type 0} (b : Bool) {x y z : A} → (y ≡ z → ⊥) → cond b x y ≡ z → (b ≡ true) × (x ≡ z)
chosen_first true n e = (refl, e)
chosen_first false n e = absurd (n e)
