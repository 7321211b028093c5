-- Places of a walk over the IPv4 subtree, and the networks of the whole tree.
use Prim.Native.Nat.{ℕ, ◌+◌, ◌-◌, ◌^◌, ◌<◌, ◌≤◌}
use mathlib.Core.Path.{◌≡◌, refl, ap, ◌∙◌}
use mathlib.Core.Bool.{Bool, true, false, cond, and-false}
use mathlib.Core.List.{List}
use native.Mathlib.Nat.{div-mul-le_self}
use native.Mathlib.Omega.{arith}
use lib.ListN.{length}
use lib.Dec.{ltb, leb}
use lib.Pow.{pow-lt}
use lib.Bits.{or_lt}
use borrow.Author.Tests.{le-leb}
use Rattle.number.specs.Keys.{number_of, key_of, with_bit}
use Rattle.handle.specs.declared.Handle.{Handle}
use Rattle.std.specs.Prelude.{Option, Some, None}
use Rattle.refusal.specs.declared.Refusal.TheVariants as refusal
use Rattle.tree.specs.Lookup.{found, offset_of, answer_of}
use Rattle.tree.specs.declared.Found.{Found}
use Rattle.tiles.specs.Tiles.{Tile}
use Rattle.place.specs.Kinds.{has_ipv4_subtree, kind_of}
use Rattle.place.specs.Turns.{child_key, child_of, network_of}
use Rattle.place.specs.declared.NetworkKind.TheVariants.{V4, V4InV6Subtree}
use Rattle.place.specs.declared.Place.{Place}
use Rattle.place.specs.declared.Outcome.{Outcome}
use Rattle.place.specs.declared.Outcome.TheVariants.{Given, Failed}
use Rattle.walk.specs.Calls.{data_section}
use Rattle.carried.proofs.InShape.{number_key}
use Rattle.fullwalk.specs.FullWalk.{width_of, length_of, network_for, shown, outcome_of}
use Rattle.fullwalk.specs.Ends.{tile_at, answer_at, shown_by, outcome_at}
use Rattle.fullwalk.proofs.Below.{Agrees}
use Rattle.ranges.specs.Ranges.{counted, from_subtree}
use Rattle.ranges.proofs.OpenedLaws.{FromOpening}
use Rattle.ranges.proofs.ChoiceLaws.{Fair, fair_left, fair_right}
use Rattle.ranges.proofs.KindLaws.{subtree_deep, has_subtree}

module _ (s : List ℕ) (h : Handle) (op : FromOpening s h) where
  -- the IPv4 start is internal
  module _ (has : has_ipv4_subtree h ≡ true) where
    pub at_96 : h.depth4 ≡ 96
    at_96 = let t = has_subtree s h op has in subtree_deep s h op t.0 t.1

    pub wide : width_of h ≡ 128
    wide = let v = (has_subtree s h op has).0 in rw v

    abbrev room : ℕ
    room = length (data_section s h)

    low_kind : (q : Place) → number_of q.key ≤ 2 ^ 32 - 1 → h.depth4 ≤ q.len → kind_of h 128 q ≡ V4InV6Subtree
    unfolding kind_of
    low_kind q n m = simp (le-leb _ _ n, has, le-leb _ _ m)

    -- a place of such a walk
    abbrev pub Low : Place → Type 0
    Low p = Fair s h 32 p × (number_of p.key < 2 ^ 32)

    module _ (p : Place) (i : Low p) where
      abbrev t : Tile
      t = tile_at 32 p

      length_there : length_of h room t ≡ p.len + 96
      length_there = omega (arith, wide, i.0.long)

      -- its network is in the subtree
      in_subtree : kind_of h (width_of h) (record { value = t.node; key = key_of t.key; len = length_of h room t }) ≡ V4InV6Subtree
      in_subtree =
          let n : number_of (key_of t.key) ≤ 2 ^ 32 - 1 =
          rw (number_key t.key) (omega (arith, div-mul-le_self (number_of p.key) (2 ^ (32 - p.len)), i.1))
          in
          let m : h.depth4 ≤ length_of h room t = omega (arith, at_96, length_there) in
          let q : Place = record { value = t.node; key = key_of t.key; len = length_of h room t } in
          ap (λ (w : ℕ). kind_of h w q) wide ∙ low_kind q n m

      ipv4_there : kind_of h 32 p ≡ V4
      unfolding kind_of
      ipv4_there = rw has (simp and-false)

      network_over : (o : Option ℕ) → Given (network_of h 32 p o) ≡ from_subtree h (Given (network_for h room t o))
      network_over o =
          let n : counted h (length_of h room t) ≡ p.len = omega (arith, at_96, length_there) in
          rw (ipv4_there, in_subtree, n)

      shown_over : (x y : ℕ) → shown_by (data_section s h) h 32 p (answer_of h.nodes room p.value x) ≡ from_subtree h (shown h room t (answer_of h.nodes room p.value y))
      unfolding answer_of
      shown_over x y = by (leb p.value h.nodes) (ltb p.value (h.nodes + 16)) (ltb (offset_of h.nodes p.value) room)
        where
          said : Bool → Bool → Bool → ℕ → Option Found
          said a b c n = cond a (Some (found None n)) (cond b None (cond c (Some (found (Some (offset_of h.nodes p.value)) n)) None))

          by : (a b c : Bool) → shown_by (data_section s h) h 32 p (said a b c x) ≡ from_subtree h (shown h room t (said a b c y))
          by true b c = network_over None
          by false true c = refl
          by false false true = network_over (Some (offset_of h.nodes p.value))
          by false false false = refl

      outcome_over : outcome_at (data_section s h) h 32 p ≡ from_subtree h (outcome_of h room t)
      outcome_over =
          by (ltb p.value h.nodes) (shown_by (data_section s h) h 32 p (answer_at (data_section s h) h 32 p))
          (shown h room t (answer_of h.nodes room p.value (length_of h room t))) (shown_over p.len (length_of h room t))
        where
          by : (c : Bool) (x y : Outcome) → x ≡ from_subtree h y → cond c (Failed refusal.TooDeep) x ≡ from_subtree h (cond c (Failed refusal.TooDeep) y)
          by true x y e = refl
          by false x y e = e

      -- its children are such places too
      low_left : number_of (child_of s h.size 32 p 0).key < 2 ^ 32
      unfolding child_key
      low_left = i.1

      low_right : p.len < 32 → number_of (child_of s h.size 32 p 1).key < 2 ^ 32
      unfolding child_key
      low_right l =
          rw (number_key (with_bit (number_of p.key) 32 p.len))
          (or_lt 32 (number_of p.key) (2 ^ (32 - 1 - p.len)) i.1 (pow-lt {i = 32 - 1 - p.len} {j = 32} (omega arith)))

    pub over_agrees : (w : ℕ) → w ≡ 32 → Agrees s h w Low (outcome_at (data_section s h) h w) (λ t. from_subtree h (outcome_of h room t))
    over_agrees w e =
        rw e
        (record {
          block = λ p i v. i.0.block v;
          left = λ p i v l. (fair_left s h 32 p i.0 v l, low_left p i);
          right = λ p i v l. (fair_right s h 32 p i.0 v l, low_right p i l);
          same = outcome_over;
        })
