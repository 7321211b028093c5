-- Laws of lookups.
use Prim.Native.Nat.{ℕ, ◌*◌, ◌/◌}
use mathlib.Core.Path.{◌≡◌, subst}
use mathlib.Core.Bool.{Bool, true, false, cond}
use mathlib.Core.List.{List}
use lib.Dec.{eqb}
use native.Mathlib.Omega.{arith}
use Rattle.number.specs.Keys.{number_of}
use Rattle.std.specs.Prelude.{Ok, Err}
use Rattle.refusal.specs.declared.Refusal.TheVariants as refusal
use Rattle.handle.specs.declared.Handle.{Handle}
use Rattle.handle.proofs.HandleLaws.{Fit}
use Rattle.tree.proofs.RecordLaws.{Same}
use Rattle.tree.proofs.LookupLaws.{down_same}
use Rattle.lookup.specs.Lookup.{asked_of, found_from, Fitting}
use Rattle.lookup.specs.declared.Address.{Address}
use Rattle.lookup.specs.declared.Address.TheVariants.{V4, V6}
use Rattle.lookup.specs.declared.Way.{Way}

-- the way of any address in an image that the handle fits
pub asked_fitting : (h : Handle) (n : ℕ) → Fit h n → (a : Address) (w : Way) → asked_of h a ≡ Ok w → Fitting w
unfolding asked_of
asked_fitting h n f (V4 low) w e =
    let way : Way = record { start = h.start4; depth = h.depth4; width = 32; key = record { high = 0; low = low } } in
    let g : way ≡ w = cc in
    subst Fitting g (record { wide = omega arith; shallow = f.shallow })
asked_fitting h n f (V6 high low) w e = go (eqb h.version 4) e
  where
    way : Way
    way = record { start = 0; depth = 0; width = 128; key = record { high = high; low = low } }

    go : (b : Bool) → cond b (Err refusal.Ipv6InIpv4) (Ok way) ≡ Ok w → Fitting w
    go true e = cc
    go false e = let g : way ≡ w = cc in subst Fitting g (record { wide = omega arith; shallow = omega arith })

-- a lookup depends on the tree's bytes alone, besides the handle
pub found_same : (s t : List ℕ) (h : Handle) (n : ℕ) → Fit h n → Same (h.nodes * (h.size / 4)) s t → (w : Way) → found_from s h w ≡ found_from t h w
unfolding found_from
found_same s t h n f e w = simp (down_same s t h.size h.nodes (number_of w.key) w.width f.sizes e 0 w.width w.start)
