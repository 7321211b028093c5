-- The way of an address that meets no alias ends at a place that is visited.
use Prim.Native.Nat.{ℕ, zero, suc, ◌+◌, ◌≤◌, ◌<◌}
use mathlib.Core.Path.{◌≡◌, refl}
use mathlib.Core.Bool.{Bool, true, false, cond}
use mathlib.Core.Logic.{◌⊎◌, inl, inr}
use mathlib.Core.List.{List}
use native.Mathlib.Omega.{arith}
use lib.Dec.{ltb}
use borrow.Author.Tests.{ltb-true, ltb-false}
use Rattle.number.specs.Keys.{bit_from_top}
use Rattle.handle.specs.declared.Handle.{Handle}
use Rattle.tree.specs.Record.{record_at}
use Rattle.tree.specs.Lookup.{down, answer_of}
use Rattle.std.specs.Prelude.{None}
use Rattle.tree.specs.declared.Place as tree
use Rattle.tiles.specs.Tiles.{path}
use Rattle.place.specs.Turns.{child_of}
use Rattle.place.specs.declared.Place.{Place}
use Rattle.fullwalk.specs.FullWalk as full
use Rattle.fullwalk.specs.FullWalk.{width_of}
use Rattle.accepted.specs.Visited.{here, Visited, room, FaultyAt, OnWay, root, child, Unaliased}
use Rattle.accepted.proofs.Turned.{leads_on}

module _ (s : List ℕ) (h : Handle) (x : ℕ) (free : Unaliased s h x) where
  abbrev bit : ℕ → ℕ
  bit = bit_from_top x (width_of h)

  bit_small : (d : ℕ) → bit d < 2
  bit_small d = omega arith

  abbrev down_from : ℕ → ℕ → ℕ → tree.Place
  down_from depth left node = down s h.size h.nodes x (width_of h) depth left node

  -- a visited place at which the way ends
  pub record EndAt (end : tree.Place) : Type 0 where
    pub place : Place
    pub way : OnWay s h x place
    pub visited : Visited s h place
    pub same : end ≡ record { node = place.value; depth = place.len }
    pub deep : place.value < h.nodes → width_of h ≤ place.len

  along : (left : ℕ) (p : Place) → OnWay s h x p → Visited s h p → p.len + left ≡ width_of h → EndAt (down_from p.len left p.value)
  unfolding down
  along zero p w v e = record { place = p; way = w; visited = v; same = refl; deep = λ k. omega arith }
  along (suc left) p w v e =
      by (ltb p.value h.nodes) refl
      (λ inner.
      let short : p.len < width_of h = omega arith in
      along left (child_of s h.size (width_of h) p (bit p.len)) (child w inner short)
      (leads_on s h (bit p.len) (bit_small p.len) (free p w) inner short v) (omega arith))
    where
      by : (t : Bool) → ltb p.value h.nodes ≡ t
          → (p.value < h.nodes → EndAt (down_from (p.len + 1) left (record_at s h.size p.value (bit p.len))))
          → EndAt (cond t (down_from (p.len + 1) left (record_at s h.size p.value (bit p.len))) (record { node = p.value; depth = p.len }))
      by true f rest = rest (ltb-true _ _ f)
      by false f rest = record { place = p; way = w; visited = v; same = refl; deep = λ k. let g = ltb-false p.value h.nodes f in absurd (omega arith) }

  pub way_ends : EndAt (path s h.size h.nodes (width_of h) x)
  way_ends = along (width_of h) (record { value = 0; key = record { high = 0; low = 0 }; len = 0 }) root here (omega arith)

  -- its fault is the path's
  pub way_faulty : (e : EndAt (path s h.size h.nodes (width_of h) x)) → full.FaultyAt s h x → FaultyAt s h e.place
  way_faulty e f = by (rw e.same at f)
    where
      by : (e.place.value < h.nodes) ⊎ (answer_of h.nodes (room s h) e.place.value e.place.len ≡ None) → FaultyAt s h e.place
      by (inl k) = inl (k, e.deep k)
      by (inr k) = inr k
