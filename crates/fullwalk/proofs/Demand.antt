-- What a full walk hands out: errors exactly where paths are faulty, else the networks of all addresses.
use Prim.Native.Nat.{ℕ, ◌-◌, ◌^◌}
use mathlib.Core.Path.{◌≡◌, refl, ap, ◌∙◌}
use mathlib.Core.Bool.{Bool, true, false, cond}
use mathlib.Core.Logic.{inl, inr}
use mathlib.Core.List.{List, map}
use native.Mathlib.Omega.{arith}
use lib.ListN.{length}
use lib.Dec.{ltb}
use borrow.Author.Tests.{lt-ltb, ltb-true}
use Rattle.std.specs.Prelude.{Option}
use Rattle.std.specs.Prelude as option
use Rattle.refusal.specs.declared.Refusal.TheVariants as refusal
use Rattle.handle.specs.declared.Handle.{Handle}
use Rattle.handle.specs.Handle.{fits_of}
use Rattle.tree.specs.Lookup.{found, answer_of}
use Rattle.tree.specs.declared.Found.{Found}
use Rattle.tiles.specs.Lists.{All, Some}
use Rattle.tiles.specs.Tiles.{Tile, In, Before, networks, end_of, Faulty}
use Rattle.tiles.proofs.ListLaws.{all_map, none_all, all_both, map_by, all_mapped, some_mapped, some_unmapped, once_mapped, ordered_mapped}
use Rattle.tiles.proofs.TileLaws.{Own, own, partition, just_one, ascend, fault_then, then_fault}
use Rattle.place.specs.declared.Network.{Network}
use Rattle.place.specs.declared.Outcome.{Outcome}
use Rattle.place.specs.declared.Outcome.TheVariants.{Given, Failed}
use Rattle.walk.specs.Calls.{data_section}
use Rattle.carried.proofs.InShape.{number_key}
use Rattle.fullwalk.specs.FullWalk.{width_of, full_walk, Walked, Error, length_of, network_for, shown, outcome_of, offset_in, Covers, Precedes, told_by, lookup, Clean, Answers}
use Rattle.fullwalk.proofs.EndLaws.{answer_length}
use Rattle.fullwalk.proofs.FullWalkLaws.{whole_tree}

module _ (s : List ℕ) (h : Handle) where
  abbrev room : ℕ
  room = length (data_section s h)

  abbrev nets : List Tile
  nets = networks s h.size h.nodes (width_of h)

  abbrev out : Tile → Outcome
  out = outcome_of h room

  abbrev Bad : Tile → Type 0
  Bad t = Faulty h.nodes room (end_of (width_of h) t)

  abbrev ended : Tile → Option Found
  ended t = answer_of h.nodes room t.node (length_of h room t)

  -- faults are errors
  error_of : (t : Tile) → Bad t → Error (out t)
  error_of t (inl f) = simp (lt-ltb t.node h.nodes f) tt
  error_of t (inr f) = by (ltb t.node h.nodes)
    where
      by : (b : Bool) → Error (cond b (Failed refusal.TooDeep) (shown h room t (ended t)))
      by true = tt
      by false = rw f tt

  fault_of : (t : Tile) → Error (out t) → Bad t
  fault_of t = by (ltb t.node h.nodes) refl
    where
      end : (a : Option Found) → ended t ≡ a → Error (shown h room t a) → Bad t
      end (option.Some a) e f = absurd f
      end option.None e f = inr e

      by : (b : Bool) → ltb t.node h.nodes ≡ b → Error (cond b (Failed refusal.TooDeep) (shown h room t (ended t))) → Bad t
      by true e f = inl (ltb-true _ _ e)
      by false e f = end (ended t) refl f

  -- the rest are networks
  abbrev net : Tile → Network
  net t = network_for h room t (offset_in (ended t))

  abbrev Good : Tile → Type 0
  Good t = Own s h.size h.nodes (width_of h) t × (Bad t → ⊥)

  given : (t : Tile) → Good t → out t ≡ Given (net t)
  given t g = by (ltb t.node h.nodes) refl
    where
      end : (a : Option Found) → ended t ≡ a → shown h room t a ≡ Given (network_for h room t (offset_in a))
      end (option.Some a) e = refl
      end option.None e = absurd (g.1 (inr e))

      by : (b : Bool) → ltb t.node h.nodes ≡ b → cond b (Failed refusal.TooDeep) (shown h room t (ended t)) ≡ Given (net t)
      by true e = absurd (g.1 (inl (ltb-true _ _ e)))
      by false e = end (ended t) refl

  told : (t : Tile) → Good t → ended t ≡ told_by (net t).len (net t).offset
  told t g = end (ended t) refl
    where
      end : (a : Option Found) → ended t ≡ a → a ≡ told_by (length_of h room t) (offset_in a)
      end (option.Some a) e = ap (λ (n : ℕ). option.Some (found a.offset n)) (answer_length h.nodes room t.node (length_of h room t) a e)
      end option.None e = absurd (g.1 (inr e))

  rest : (t : Tile) → Good t → width_of h - (net t).len ≡ t.rest
  rest t g = omega (arith, g.0.short)

  covers : (x : ℕ) (t : Tile) → Good t → In x t → Covers (width_of h) x (net t)
  covers x t g i = rw (number_key t.key, rest t g) i

  covered : (x : ℕ) (t : Tile) → Good t → Covers (width_of h) x (net t) → In x t
  covered x t g c = rw (number_key t.key, rest t g) at c

  before : (t u : Tile) → Good t → Good u → Before t u → Precedes (width_of h) (net t) (net u)
  before t u g k b = rw (number_key t.key, number_key u.key, rest t g) b

  says : (t : Tile) → Good t → (x : ℕ) → Covers (width_of h) x (net t) → lookup s h x ≡ told_by (net t).len (net t).offset
  says t g x c = let e = g.0.ends x (covered x t g c) in rw e (told t g)

  module _ (fits : fits_of h (length s) ≡ true) {l : List Outcome} (w : Walked s h (full_walk s h) l) where
    same : l ≡ map out nets
    same = whole_tree s h fits w

    -- without an error
    module _ (none : Some Error l → ⊥) where
      good : All Good nets
      good =
          all_both (Own s h.size h.nodes (width_of h)) (λ t. Bad t → ⊥) nets (own s h.size h.nodes (width_of h))
          (none_all Bad nets (λ b. none (rw same (some_mapped out Bad Error error_of nets b))))

      clean : Clean s h l
      clean =
          record {
            own = same ∙ map_by out Given net nets (all_map Good (λ t. out t ≡ Given (net t)) given nets good);
            ascend =
                ordered_mapped net Good Before (Precedes (width_of h)) before nets good
                (ascend 0 (2 ^ width_of h) nets (partition s h.size h.nodes (width_of h)));
            one = λ x b. once_mapped net Good (In x) (Covers (width_of h) x) (covers x) (covered x) nets good (just_one s h.size h.nodes (width_of h) x b);
            agree =
                all_mapped net Good Good (λ n. (x : ℕ) → Covers (width_of h) x n → lookup s h x ≡ told_by n.len n.offset) (λ t g k. says t g) nets good good;
          }

    pub demand_3 : Answers s h l
    demand_3 =
        record {
          error_then = λ e. fault_then s h.size h.nodes (width_of h) room (some_unmapped out Bad Error fault_of nets (rw same at e));
          then_error = λ x b f. rw same (some_mapped out Bad Error error_of nets (then_fault s h.size h.nodes (width_of h) room x b f));
          clean = clean;
        }
