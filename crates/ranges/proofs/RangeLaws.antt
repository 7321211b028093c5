-- What a walk of a range of an opened image hands out with everything included.
use Prim.Native.Nat.{ℕ, ◌+◌, ◌-◌, ◌*◌, ◌/◌, ◌^◌, ◌<◌, ◌≤◌}
use mathlib.Core.Path.{◌≡◌, refl, ap, sym, subst, ◌∙◌}
use mathlib.Core.Bool.{Bool, true, false, cond, ◌&&◌, and-false, false≢true}
use mathlib.Core.Logic.{◌⊎◌, ⊎_elim}
use mathlib.Core.List.{List, [], ◌∷◌, map}
use native.Mathlib.Nat.{zero-add, zero-mul, zero-div, lt_of_lt_of_le, div-mul-le_self}
use native.Mathlib.Omega.{arith}
use lib.ListN.{length}
use lib.Dec.{eqb}
use lib.Pow.{pow_mono}
use Rattle.number.specs.Keys.{number_of, cleared}
use Rattle.handle.specs.declared.Handle.{Handle}
use Rattle.handle.proofs.HandleLaws.{fit}
use Rattle.tree.specs.Lookup.{down}
use Rattle.tree.specs.declared.Place as tree
use Rattle.tree.proofs.LookupLaws.{deeper, down_end, ipv4_way_to}
use Rattle.tiles.specs.Lists.{All, only}
use Rattle.tiles.specs.Tiles.{Tile, tile, leaves, networks}
use Rattle.tiles.proofs.ListLaws.{all_map}
use Rattle.place.specs.Kinds.{has_ipv4_subtree}
use Rattle.place.specs.declared.Place.{Place}
use Rattle.place.specs.declared.Outcome.{Outcome}
use Rattle.walk.specs.declared.Range.{Range}
use Rattle.walk.specs.declared.Range.TheVariants.{Ipv4, Ipv6}
use Rattle.walk.specs.declared.Asked.{Asked}
use Rattle.walk.specs.declared.First.{First}
use Rattle.walk.specs.Starts.{asked_of, range_key, lacks_subtree, start_node, first_of, begin_of}
use Rattle.walk.specs.Calls.{data_section}
use Rattle.carried.specs.Carried.{Addressed}
use Rattle.carried.proofs.InShape.{number_key}
use Rattle.fullwalk.specs.FullWalk.{width_of, everything, Walked, length_of, outcome_of}
use Rattle.fullwalk.specs.Ends.{outcome_at}
use Rattle.fullwalk.proofs.Below.{leaf, Agrees, ends_tiles}
use Rattle.ranges.specs.Choices.{below, first}
use Rattle.ranges.specs.Ranges.{lowest, free, Typed, meets, over_subtree, from_subtree, seen_from, Inside, Contains, sharing, Ranged}
use Rattle.ranges.proofs.OpenedLaws.{FromOpening}
use Rattle.ranges.proofs.ChoiceLaws.{Fair, Starts, typed_addressed, lacking_end, fair, choices}
use Rattle.ranges.proofs.KindLaws.{own_agrees}
use Rattle.ranges.proofs.SubtreeLaws.{at_96, Low, over_agrees}
use Rattle.ranges.proofs.SharedLaws as shared
use Rattle.ranges.proofs.SharedLaws.{below_end, cleared_block}

module _ (s : List ℕ) (h : Handle) (op : FromOpening s h) where
  abbrev room : ℕ
  room = length (data_section s h)

  module _ (r : Range) (ty : Typed (asked_of r)) (b : Starts s h r) where
    abbrev a : Asked
    a = asked_of r

    abbrev p₁ : Place
    p₁ = (first s h r).place

    abbrev w₁ : ℕ
    w₁ = (first s h r).width

    abbrev addressed : Addressed r
    addressed = typed_addressed r ty

    -- what is handed out, if each place is seen as its network is
    given_by :
        (I : Place → Type 0) (g : Tile → Outcome) → Agrees s h w₁ I (outcome_at (data_section s h) h w₁) g → I p₁
        → {l : List Outcome} → Walked s h (begin_of s h r everything).walk l → l ≡ map g (below s h w₁ p₁)
    given_by I g k i w =
        (choices s h r everything addressed (b.always everything)).whole w
        ∙ ends_tiles s h w₁ I (outcome_at (data_section s h) h w₁) g k (w₁ - p₁.len) false p₁ i (omega (arith, (fair s h r addressed b).long))

    -- away from the subtree each is seen as it is
    seen_same : over_subtree h a ≡ false → (l : List Tile) → map (outcome_of h room) l ≡ map (λ t. seen_from h a (outcome_of h room t)) l
    seen_same e l = ap (λ (c : Bool). map (λ t. cond c (from_subtree h (outcome_of h room t)) (outcome_of h room t)) l) (sym e)

    -- the range as a block of addresses of the tree
    abbrev index : ℕ
    index = number_of a.key / 2 ^ free a

    in_width : lowest a < 2 ^ a.width
    in_width = omega (arith, div-mul-le_self (number_of a.key) (2 ^ free a), ty)

    -- where the walk starts on the way to the range
    module _ (present : lacks_subtree h a.width ≡ false) where
      abbrev start : ℕ
      start = start_node h a.width

      abbrev to : ℕ → tree.Place
      to x = down s h.size h.nodes x a.width 0 a.len start

      first_way : first s h r ≡ record { place = record { value = (to (number_of (range_key a))).node; key = range_key a; len = (to (number_of (range_key a))).depth }; width = a.width }
      unfolding first_of
      first_way = simp present

      below_way : below s h w₁ p₁ ≡ below_end s h.size h.nodes a.width (lowest a) (to (lowest a))
      below_way =
          ap (λ (f : First). below s h f.width f.place) first_way
          ∙ ap (λ (x : ℕ). below_end s h.size h.nodes a.width x (to x)) (number_key (lowest a))

    -- a range of the tree's own width
    module _ (own : a.width ≡ width_of h) (present : lacks_subtree h a.width ≡ false) (root : start_node h a.width ≡ 0) where
      whole : a.width ≡ a.len + free a
      whole = omega (arith, b.within)

      own_shared : shared.shared s h.size h.nodes a.width a.len (free a) (lowest a) index whole in_width refl ≡ sharing s h r
      own_shared = ap (λ (n : ℕ). only (meets (lowest a) (free a)) (networks s h.size h.nodes n)) own

      own_tiles : below s h w₁ p₁ ≡ sharing s h r
      own_tiles =
          below_way present
          ∙ ap (λ (v : ℕ). below_end s h.size h.nodes a.width (lowest a) (down s h.size h.nodes (lowest a) a.width 0 a.len v)) root
          ∙ sym (shared.sharing s h.size h.nodes a.width a.len (free a) (lowest a) index whole in_width refl)
          ∙ own_shared

      own_width : w₁ ≡ width_of h
      own_width = ap (λ (f : First). f.width) (first_way present) ∙ own

      own_ranged : over_subtree h a ≡ false → Ranged s h r
      own_ranged above =
          record {
            given = λ w.
                given_by (Fair s h w₁) (outcome_of h room) (own_agrees s h op w₁ own_width) (fair s h r addressed b) w
                ∙ ap (map (outcome_of h room)) own_tiles
                ∙ seen_same above (sharing s h r);
            placed = rw (sym own) (shared.placed s h.size h.nodes a.width a.len (free a) (lowest a) index whole in_width refl);
            alone = λ e. absurd (false≢true (sym present ∙ e));
            deep = λ e. absurd (false≢true (sym above ∙ e));
          }

    -- an IPv4 range of an IPv6 image
    module _ (v : h.version ≡ 6) (narrow : a.width ≡ 32) where
      low : lowest a < 2 ^ 32
      low = let e : 2 ^ a.width ≡ 2 ^ 32 = ap (λ (n : ℕ). 2 ^ n) narrow in omega (arith, in_width)

      small4 : lowest a < 2 ^ 128
      small4 = lt_of_lt_of_le low (pow_mono {i = 32} {j = 128} (omega arith))

      wide : width_of h ≡ 128
      wide = rw v

      whole4 : 128 ≡ 96 + a.len + free a
      whole4 = omega (arith, b.within)

      -- the way from the IPv4 start
      abbrev onward : tree.Place
      onward = down s h.size h.nodes (lowest a) 32 0 a.len h.start4

      way4 : down s h.size h.nodes (lowest a) 128 0 (96 + a.len) 0 ≡ deeper h.depth4 onward
      way4 =
          ipv4_way_to s h.size h.nodes (lowest a) low a.len (omega (arith, b.within))
          ∙ ap (λ (p : tree.Place). deeper p.depth (down s h.size h.nodes (lowest a) 32 0 a.len p.node)) (op.start v)

      tiles4 : sharing s h r ≡ below_end s h.size h.nodes 128 (lowest a) (deeper h.depth4 onward)
      tiles4 =
          ap (λ (n : ℕ). only (meets (lowest a) (free a)) (networks s h.size h.nodes n)) wide
          ∙ shared.sharing s h.size h.nodes 128 (96 + a.len) (free a) (lowest a) index whole4 small4 refl
          ∙ ap (below_end s h.size h.nodes 128 (lowest a)) way4

      placed4 : All (Inside (lowest a) (free a)) (sharing s h r) ⊎ ((t : Tile) × ((sharing s h r ≡ t ∷ []) × Contains (lowest a) (free a) t))
      placed4 = rw wide (shared.placed s h.size h.nodes 128 (96 + a.len) (free a) (lowest a) index whole4 small4 refl)

      -- without an IPv4 subtree
      module _ (none : has_ipv4_subtree h ≡ false) where
        lacks : lacks_subtree h a.width ≡ true
        lacks = rw none (simp (narrow, v))

        terminal : h.nodes ≤ h.start4
        terminal = lacking_end s h a b.within lacks

        first_above : first s h r ≡ record { place = record { value = h.start4; key = record { high = 0; low = 0 }; len = h.depth4 }; width = 128 }
        unfolding first_of
        first_above = simp lacks

        abbrev bits : ℕ
        bits = 128 - h.depth4

        above_alone : sharing s h r ≡ tile 0 bits h.start4 ∷ []
        above_alone =
            let l : 2 ^ 32 ≤ 2 ^ bits = pow_mono {i = 32} {j = bits} (omega (arith, (fit h (length s) op.fits).shallow)) in
            let z : 0 * 2 ^ bits ≡ 0 = zero-mul (2 ^ bits) in
            tiles4
            ∙ ap (λ (p : tree.Place). below_end s h.size h.nodes 128 (lowest a) (deeper h.depth4 p)) (down_end s h.size h.nodes (lowest a) 32 0 a.len h.start4 terminal)
            ∙ ap (λ (n : ℕ). leaves s h.size h.nodes (128 - n) h.start4 (cleared (lowest a) (128 - n))) (zero-add h.depth4)
            ∙ ap (leaves s h.size h.nodes bits h.start4) (cleared_block 0 bits (lowest a) (omega arith) (omega (arith, low)) ∙ z)
            ∙ leaf s h.size h.nodes bits h.start4 0 terminal

        above_tiles : below s h w₁ p₁ ≡ sharing s h r
        above_tiles =
            ap (λ (f : First). below s h f.width f.place) first_above
            ∙ ap (leaves s h.size h.nodes bits h.start4) (ap (λ (n : ℕ). n * 2 ^ bits) (zero-div (2 ^ bits)) ∙ zero-mul (2 ^ bits))
            ∙ leaf s h.size h.nodes bits h.start4 0 terminal
            ∙ sym above_alone

        above_ranged : Ranged s h r
        above_ranged =
            let above : over_subtree h a ≡ false = simp (none, and-false) in
            record {
              given = λ w.
                  given_by (Fair s h w₁) (outcome_of h room) (own_agrees s h op w₁ (ap (λ (f : First). f.width) first_above ∙ sym wide)) (fair s h r addressed b) w
                  ∙ ap (map (outcome_of h room)) above_tiles
                  ∙ seen_same above (sharing s h r);
              placed = placed4;
              alone = λ e. above_alone;
              deep = λ e. absurd (false≢true (sym above ∙ e));
            }

      -- over the subtree
      module _ (has : has_ipv4_subtree h ≡ true) where
        there : lacks_subtree h a.width ≡ false
        there = rw has (and-false (eqb a.width 32 && eqb h.version 6))

        over_tiles : below s h w₁ p₁ ≡ sharing s h r
        over_tiles =
            let n : 32 - onward.depth ≡ 128 - (onward.depth + h.depth4) = omega (arith, at_96 s h op has) in
            below_way there
            ∙ ap (λ (n : ℕ). below_end s h.size h.nodes n (lowest a) (down s h.size h.nodes (lowest a) n 0 a.len (start_node h n))) narrow
            ∙ ap (λ (n : ℕ). leaves s h.size h.nodes n onward.node (cleared (lowest a) n)) n
            ∙ sym tiles4

        over_width : w₁ ≡ 32
        over_width = ap (λ (f : First). f.width) (first_way there) ∙ narrow

        over_low : Low s h op has p₁
        over_low =
            let k : number_of p₁.key ≡ lowest a = ap (λ (f : First). number_of f.place.key) (first_way there) ∙ number_key (lowest a) in
            (subst (λ (w : ℕ). Fair s h w p₁) over_width (fair s h r addressed b), subst (λ (n : ℕ). n < 2 ^ 32) (sym k) low)

        over_deep : All (λ t. h.depth4 ≤ length_of h room t) (sharing s h r)
        over_deep =
            let d = 128 - (onward.depth + h.depth4) in
            rw tiles4
            (all_map (λ t. t.rest ≤ d) (λ t. h.depth4 ≤ length_of h room t) (λ t l. omega (arith, at_96 s h op has, wide))
            (leaves s h.size h.nodes d onward.node (cleared (lowest a) d)) (shared.shorter s h.size h.nodes 128 d onward.node (cleared (lowest a) d)))

        over_ranged : Ranged s h r
        over_ranged =
            let over : over_subtree h a ≡ true = rw has (simp narrow) in
            record {
              given = λ w.
                  given_by (Low s h op has) (λ t. from_subtree h (outcome_of h room t)) (over_agrees s h op has w₁ over_width) over_low w
                  ∙ ap (map (λ t. from_subtree h (outcome_of h room t))) over_tiles
                  ∙ ap (λ (c : Bool). map (λ t. cond c (from_subtree h (outcome_of h room t)) (outcome_of h room t)) (sharing s h r)) (sym over);
              placed = placed4;
              alone = λ e. absurd (false≢true (sym there ∙ e));
              deep = λ e. over_deep;
            }

  -- the range and the image
  pub ranged : (r : Range) → Typed (asked_of r) → Starts s h r → Ranged s h r
  ranged (Ipv4 addr len) ty b = ⊎_elim old new (fit h (length s) op.fits).versioned
    where
      old : h.version ≡ 4 → Ranged s h (Ipv4 addr len)
      old v =
          let none : has_ipv4_subtree h ≡ false = rw v refl in
          own_ranged (Ipv4 addr len) ty b (rw v refl) (rw v refl) ((fit h (length s) op.fits).only4 v).0 none

      new : h.version ≡ 6 → Ranged s h (Ipv4 addr len)
      new v = by (has_ipv4_subtree h) refl
        where
          by : (t : Bool) → has_ipv4_subtree h ≡ t → Ranged s h (Ipv4 addr len)
          by true e = over_ranged (Ipv4 addr len) ty b v refl e
          by false e = above_ranged (Ipv4 addr len) ty b v refl e
  ranged (Ipv6 addr len) ty b = ⊎_elim old new (fit h (length s) op.fits).versioned
    where
      old : h.version ≡ 4 → Ranged s h (Ipv6 addr len)
      old v = absurd (false≢true (sym b.allowed ∙ (rw v refl)))

      new : h.version ≡ 6 → Ranged s h (Ipv6 addr len)
      new v = own_ranged (Ipv6 addr len) ty b (rw v refl) refl refl refl
