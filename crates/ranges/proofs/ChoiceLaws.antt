-- Whatever the range and the options.
use Prim.Native.Nat.{ℕ, ◌-◌, ◌/◌, ◌^◌, ◌<◌, ◌≤◌}
use mathlib.Core.Path.{◌≡◌, refl, ap, ◌∙◌}
use mathlib.Core.Bool.{Bool, true, false, cond, not, ◌&&◌, false≢true}
use mathlib.Core.List.{List, [], ◌∷◌, map}
use native.Mathlib.Nat.{zero-add}
use native.Mathlib.Omega.{arith}
use lib.ListN.{length}
use lib.Dec.{eqb, ltb, leb}
use borrow.Author.Tests.{ltb-false, leb-true}
use Rattle.std.specs.Prelude.{Ok}
use Rattle.refusal.specs.declared.Refusal.TheVariants as refusal
use Rattle.number.specs.Keys.{number_of, masked_to}
use Rattle.handle.specs.declared.Handle.{Handle}
use Rattle.handle.specs.Handle.{fits_of}
use Rattle.handle.proofs.HandleLaws.{fit}
use Rattle.tree.proofs.LookupLaws.{down_le, down_internal}
use Rattle.place.specs.Turns.{child_of}
use Rattle.place.specs.declared.Place.{Place}
use Rattle.place.specs.declared.Options.{Options}
use Rattle.walk.specs.declared.Range.{Range}
use Rattle.walk.specs.declared.Range.TheVariants.{Ipv4, Ipv6}
use Rattle.walk.specs.declared.Asked.{Asked}
use Rattle.walk.specs.declared.First.{First}
use Rattle.walk.specs.declared.Started.{Started}
use Rattle.walk.specs.Starts.{asked_of, range_key, is_ipv6_in_ipv4, lacks_subtree, start_node, way_to, first_of, refused_start, begun_with, begin_of}
use Rattle.walk.specs.Calls.{data_section}
use Rattle.carried.specs.Carried.{Addressed}
use Rattle.carried.proofs.InShape.{number_key}
use Rattle.fullwalk.specs.FullWalk.{everything}
use Rattle.fullwalk.specs.Ends.{tile_at}
use Rattle.fullwalk.proofs.WalkedLaws.{all_given}
use Rattle.fullwalk.proofs.Below.{Block, left_block, right_block, Agrees, ends_tiles}
use Rattle.fullwalk.proofs.FullWalkLaws.{everything_given}
use Rattle.ranges.specs.Ranges.{Typed}
use Rattle.ranges.specs.Choices.{first, ways, below, Choices}

-- an IPv4 address of 32 bits
pub typed_addressed : (r : Range) → Typed (asked_of r) → Addressed r
typed_addressed (Ipv4 addr len) t = omega (arith, t)
typed_addressed (Ipv6 addr len) t = tt

-- a list through a map that changes nothing
map_same : {A : Type 0} (l : List A) → map (λ a. a) l ≡ l
map_same [] = refl
map_same (a ∷ l) = ap (λ k. a ∷ k) (map_same l)

module _ (s : List ℕ) (h : Handle) where
  -- a place of a walk: a node has the key of a whole block; a terminal keeps the range's
  pub record Fair (width : ℕ) (p : Place) : Type 0 where
    pub block : p.value < h.nodes → Block width p
    pub long : p.len ≤ width

  pub fair_left : (width : ℕ) (p : Place) → Fair width p → p.value < h.nodes → p.len < width → Fair width (child_of s h.size width p 0)
  fair_left width p f v l = record { block = λ u. left_block s h.size width p (f.block v) l; long = omega arith }

  pub fair_right : (width : ℕ) (p : Place) → Fair width p → p.value < h.nodes → p.len < width → Fair width (child_of s h.size width p 1)
  fair_right width p f v l = record { block = λ u. right_block s h.size width p (f.block v) l; long = omega arith }

  fair_tiles : (width : ℕ) → Agrees s h width (Fair width) (tile_at width) (λ t. t)
  fair_tiles width =
      record {
        block = λ p f v. f.block v;
        left = fair_left width;
        right = fair_right width;
        same = λ p f. refl;
      }

  -- the first place is one: where it is a node, the way to the range has read all of the range's bits
  module _ (a : Asked) (within : a.len ≤ a.width) where
    way_fair : Fair a.width (record { value = (way_to s h a).node; key = range_key a; len = (way_to s h a).depth })
    way_fair =
        let d = down_le s h.size h.nodes (number_of (range_key a)) a.width 0 a.len (start_node h a.width) in
        record {
          block = λ v.
              let e : (way_to s h a).depth ≡ a.len = down_internal s h.size h.nodes (number_of (range_key a)) a.width 0 a.len (start_node h a.width) v ∙ zero-add a.len in
              record {
                index = number_of a.key / 2 ^ (a.width - a.len);
                key = number_key (masked_to (number_of a.key) a.width a.len) ∙ rw e;
              };
          long = omega (arith, d);
        }

    -- without an IPv4 subtree it is a terminal
    pub lacking_end : lacks_subtree h a.width ≡ true → h.nodes ≤ h.start4
    lacking_end e = by (eqb a.width 32) (eqb h.version 6) (ltb h.start4 h.nodes) refl e
      where
        by : (x y z : Bool) → ltb h.start4 h.nodes ≡ z → (x && y && not (y && z)) ≡ true → h.nodes ≤ h.start4
        by true true true f e = absurd (false≢true e)
        by true true false f e = ltb-false _ _ f
        by true false z f e = absurd (false≢true e)
        by false y z f e = absurd (false≢true e)

    pub first_fair : h.depth4 ≤ 96 → Fair (first_of s h a).width (first_of s h a).place
    unfolding first_of
    first_fair shallow = by (lacks_subtree h a.width) refl
      where
        by :
            (b : Bool) → lacks_subtree h a.width ≡ b
            → (let f : First =
            cond b
            (record { place = record { value = h.start4; key = record { high = 0; low = 0 }; len = h.depth4 }; width = 128 })
            (record { place = record { value = (way_to s h a).node; key = range_key a; len = (way_to s h a).depth }; width = a.width })
            in Fair f.width f.place)
        by true e = record { block = λ v. absurd (let n = lacking_end e in omega arith); long = omega arith }
        by false e = way_fair

  module _ (r : Range) where
    abbrev started : Bool → Bool → Bool → Options → Started
    started x y z o =
        cond x (cond y (cond z (refused_start refusal.Ipv6InIpv4) (begun_with (first_of s h (asked_of r)) o)) (refused_start refusal.PrefixLength))
        (refused_start refusal.Handle)

    -- a walk that was begun: the handle fits, the range has no more bits than its width and suits the image, and it is begun whatever
    -- the options
    pub record Starts : Type 0 where
      pub fits : fits_of h (length s) ≡ true
      pub within : (asked_of r).len ≤ (asked_of r).width
      pub allowed : is_ipv6_in_ipv4 h (asked_of r).width ≡ false
      pub always : (o : Options) → (begin_of s h r o).status ≡ Ok tt

    pub starts : (o : Options) → (begin_of s h r o).status ≡ Ok tt → Starts
    unfolding begin_of
    starts o = by (fits_of h (length s)) (leb (asked_of r).len (asked_of r).width) (is_ipv6_in_ipv4 h (asked_of r).width) refl refl refl
      where
        by :
            (x y z : Bool) → fits_of h (length s) ≡ x → leb (asked_of r).len (asked_of r).width ≡ y → is_ipv6_in_ipv4 h (asked_of r).width ≡ z
            → (started x y z o).status ≡ Ok tt → Starts
        by true true true e f g b = cc
        by true true false e f g b = record { fits = e; within = leb-true _ _ f; allowed = g; always = λ o. simp (e, f, g) }
        by true false z e f g b = cc
        by false y z e f g b = cc

    module _ (ad : Addressed r) (b : Starts) where
      pub fair : Fair (first s h r).width (first s h r).place
      fair = first_fair (asked_of r) b.within (fit h (length s) b.fits).shallow

      chosen : Choices s h r
      chosen =
          let p = (first s h r).place in
          let w = (first s h r).width in
          record {
            tiled =
                ends_tiles s h w (Fair w) (tile_at w) (λ t. t) (fair_tiles w) (w - p.len) false p fair (omega (arith, fair.long))
                ∙ map_same (below s h w p);
            whole = λ k. all_given s h b.fits r everything ad (b.always everything) k ∙ everything_given (data_section s h) h w (ways s h r);
            chosen = λ o k. all_given s h b.fits r o ad (b.always o) k;
          }

-- whatever the image, the handle and the range, if walks of it begin
pub choices : (s : List ℕ) (h : Handle) (r : Range) (o : Options) → Addressed r → (begin_of s h r o).status ≡ Ok tt → Choices s h r
choices s h r o ad b = chosen s h r ad (starts s h r o b)
