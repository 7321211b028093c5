-- A walk of everything, carried on to its end by any calls, hands out the tree's own networks and faults.
use Prim.Native.Nat.{ℕ, ◌-◌, ◌^◌, ◌≤◌}
use mathlib.Core.Path.{◌≡◌, refl, ap, sym, ◌∙◌}
use mathlib.Core.Bool.{Bool, true, false, cond, not}
use mathlib.Core.Logic.{⊎_elim}
use mathlib.Core.List.{List, map}
use native.Mathlib.Nat.{zero-mul, sub-zero}
use native.Mathlib.Omega.{arith}
use lib.ListN.{length}
use lib.Dec.{eqb, ltb}
use borrow.Author.Tests.{eqb-true, eqb-false}
use Rattle.std.specs.Prelude.{Option, Some, None}
use Rattle.refusal.specs.declared.Refusal.TheVariants as refusal
use Rattle.number.specs.Keys.{number_of, key_of, masked_to}
use Rattle.handle.specs.declared.Handle.{Handle}
use Rattle.handle.specs.Handle.{fits_of}
use Rattle.handle.proofs.HandleLaws.{fit}
use Rattle.tree.specs.Lookup.{down}
use Rattle.tree.specs.declared.Found.{Found}
use Rattle.tiles.specs.Tiles.{Tile, leaves, networks}
use Rattle.tiles.proofs.ListLaws.{all_each, only_all}
use Rattle.place.specs.Kinds.{kind_of}
use Rattle.place.specs.Turns.{network_of}
use Rattle.place.specs.declared.Place.{Place}
use Rattle.place.specs.declared.Network.{Network}
use Rattle.place.specs.declared.Outcome.{Outcome}
use Rattle.place.specs.declared.Outcome.TheVariants.{Given, Failed}
use Rattle.walk.specs.declared.Range.TheVariants.{Ipv4, Ipv6}
use Rattle.walk.specs.Walks.{none, walk_from}
use Rattle.walk.specs.Starts.{first_of, begin_of}
use Rattle.walk.specs.Calls.{data_section}
use Rattle.carried.specs.Carried.{Addressed, begun}
use Rattle.carried.proofs.InShape.{number_key, sound}
use Rattle.fullwalk.specs.FullWalk.{width_of, all_addresses, everything, full_walk, Walked, network_for, shown, outcome_of}
use Rattle.fullwalk.specs.Ends.{End, ends_from, tile_at, answer_at, shown_by, outcome_at, left_out, shown_at, given_of}
use Rattle.fullwalk.proofs.WalkedLaws.{given_from}
use Rattle.fullwalk.proofs.Below.{Block, unmasked, left_block, right_block, Agrees, ends_tiles}

-- a walk of everything leaves nothing out
pub everything_given : (d : List ℕ) (h : Handle) (width : ℕ) (l : List End) → given_of d h width everything l ≡ map (λ (e : End). outcome_at d h width e.place) l
everything_given d h width l =
    let f : End → Bool = λ e. not (left_out d h width everything e) in
    ap (map (shown_at d h width everything)) (only_all f l (all_each (λ e. f e ≡ true) (λ e. refl) l))

-- a place by the key that it shows
abbrev pub masked : ℕ → Place → Place
masked width p = record { value = p.value; key = key_of (masked_to (number_of p.key) width p.len); len = p.len }

-- what is handed out at a place, as it is for its network
module _ (d : List ℕ) (h : Handle) (p : Place) (long : p.len ≤ width_of h) (kind : kind_of h (width_of h) p ≡ kind_of h (width_of h) (masked (width_of h) p)) where
  whole_length : width_of h - (width_of h - p.len) ≡ p.len
  whole_length = omega arith

  network_same : (o : Option ℕ) → network_of h (width_of h) p o ≡ network_for h (length d) (tile_at (width_of h) p) o
  network_same o = rw (kind, whole_length)

  shown_same : (a : Option Found) → shown_by d h (width_of h) p a ≡ shown h (length d) (tile_at (width_of h) p) a
  shown_same (Some f) = ap (λ (n : Network). Given n) (network_same f.offset)
  shown_same None = refl

  pub outcome_same : outcome_at d h (width_of h) p ≡ outcome_of h (length d) (tile_at (width_of h) p)
  outcome_same =
      rw whole_length (ap (cond (ltb p.value h.nodes) (Failed refusal.TooDeep)) (shown_same (answer_at d h (width_of h) p)))

module _ (s : List ℕ) (h : Handle) where
  abbrev pub room : ℕ
  room = length (data_section s h)

  abbrev out : List Tile → List Outcome
  out = map (outcome_of h room)

  -- a block's kind looks at the key that it shows
  block_kind : (p : Place) → Block (width_of h) p → kind_of h (width_of h) p ≡ kind_of h (width_of h) (masked (width_of h) p)
  unfolding kind_of
  block_kind p b = rw (unmasked (width_of h) p b, number_key (number_of p.key))

  abbrev Whole : Place → Type 0
  Whole p = Block (width_of h) p × (p.len ≤ width_of h)

  blocks : Agrees s h (width_of h) Whole (outcome_at (data_section s h) h (width_of h)) (outcome_of h room)
  blocks =
      record {
        block = λ p i v. i.0;
        left = λ p i v l. (left_block s h.size (width_of h) p i.0 l, omega arith);
        right = λ p i v l. (right_block s h.size (width_of h) p i.0 l, omega arith);
        same = λ p i. outcome_same (data_section s h) h p i.1 (block_kind p i.0);
      }

  module _ (fits : fits_of h (length s) ≡ true) where
    addressed : Addressed (all_addresses h)
    addressed = by (eqb h.version 6)
      where
        by : (v : Bool) → Addressed (cond v (Ipv6 (key_of 0) 0) (Ipv4 0 0))
        by true = tt
        by false = omega arith

    -- the walk begins at the root
    start4 : h.version ≡ 4 → (begin_of s h (Ipv4 0 0) everything).walk ≡ walk_from none 32 everything
    unfolding begin_of first_of down
    start4 v = simp (fits, v, ((fit h (length s) fits).only4 v).0)

    start6 : h.version ≡ 6 → (begin_of s h (Ipv6 (key_of 0) 0) everything).walk ≡ walk_from none 128 everything
    unfolding begin_of first_of down
    start6 v = simp (fits, v)

    start : full_walk s h ≡ walk_from none (width_of h) everything
    start = by (eqb h.version 6) refl
      where
        by : (v : Bool) → eqb h.version 6 ≡ v → (begin_of s h (cond v (Ipv6 (key_of 0) 0) (Ipv4 0 0)) everything).walk ≡ walk_from none (cond v 128 32) everything
        by true e = start6 (eqb-true _ _ e)
        by false e = start4 (⊎_elim (λ v. v) (λ v. absurd (eqb-false _ _ e v)) (fit h (length s) fits).versioned)

    root : Whole none
    root = (record { index = 0; key = sym (zero-mul (2 ^ (width_of h - 0))) }, omega arith)

    all_tiles : map (λ (e : End). outcome_at (data_section s h) h (width_of h) e.place) (ends_from s h (width_of h) none) ≡ out (networks s h.size h.nodes (width_of h))
    all_tiles =
        ends_tiles s h (width_of h) Whole (outcome_at (data_section s h) h (width_of h)) (outcome_of h room) blocks (width_of h - 0) false none root (omega arith)
        ∙ ap (λ (n : ℕ). out (leaves s h.size h.nodes (width_of h - 0) 0 n)) (unmasked (width_of h) none root.0)
        ∙ ap (λ (n : ℕ). out (leaves s h.size h.nodes n 0 0)) (sub-zero (width_of h))

    -- whatever the budgets, the tree's own networks and faults, in their order
    pub whole_tree : {l : List Outcome} → Walked s h (full_walk s h) l → l ≡ out (networks s h.size h.nodes (width_of h))
    whole_tree w =
        given_from s h fits none (width_of h) everything start (sound s h (begun (all_addresses h) everything addressed)) w
        ∙ everything_given (data_section s h) h (width_of h) (ends_from s h (width_of h) none)
        ∙ all_tiles
