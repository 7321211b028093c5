-- What a record says: a node or no data, an offset inside the data section, or neither.
use Prim.Native.Nat.{ℕ, ◌+◌, ◌-◌, ◌≤◌, ◌<◌}
use mathlib.Core.Path.{◌≡◌, refl}
use mathlib.Core.Bool.{Bool, true, false, cond}
use native.Mathlib.Omega.{arith}
use lib.Dec.{leb, ltb}
use borrow.Author.Tests.{leb-true, leb-false, ltb-true, ltb-false}
use Rattle.std.specs.Prelude.{Option, Some, None}
use Rattle.tree.specs.Lookup.{found, offset_of, answer_of}
use Rattle.tree.specs.declared.Found.{Found}
use Rattle.promises.specs.Handles.{NoOffset}

pub data Told (nodes room node len : ℕ) : Option Found → Type 0 where
  none : node ≤ nodes → Told nodes room node len (Some (found None len))
  offset : (o : ℕ) → o < room → node ≡ nodes + 16 + o → Told nodes room node len (Some (found (Some o) len))
  neither : NoOffset nodes room node → Told nodes room node len None

pub told : (nodes room node len : ℕ) → Told nodes room node len (answer_of nodes room node len)
unfolding answer_of
told nodes room node len = by (leb node nodes) (ltb node (nodes + 16)) (ltb (offset_of nodes node) room) refl refl refl
  where
    by :
        (a b c : Bool) → leb node nodes ≡ a → ltb node (nodes + 16) ≡ b → ltb (offset_of nodes node) room ≡ c
        → Told nodes room node len (cond a (Some (found None len)) (cond b None (cond c (Some (found (Some (offset_of nodes node)) len)) None)))
    by true b c e f g = none (leb-true node nodes e)
    by false true c e f g =
        let l = leb-false node nodes e in
        let m = ltb-true node (nodes + 16) f in
        neither (omega arith, λ o k q. omega arith)
    by false false true e f g =
        let m = ltb-false node (nodes + 16) f in
        offset (node - nodes - 16) (ltb-true (node - nodes - 16) room g) (omega arith)
    by false false false e f g =
        let l = leb-false node nodes e in
        let k = ltb-false (node - nodes - 16) room g in
        neither (omega arith, λ o j q. omega arith)
