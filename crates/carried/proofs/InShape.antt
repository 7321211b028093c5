-- A walk begun here and carried on never gets 13. The place in room i has a length of at least i, so rooms never run out.
use Prim.Native.Nat.{ℕ, ◌+◌, ◌-◌, ◌^◌, ◌<◌, ◌≤◌}
use mathlib.Core.Path.{◌≡◌, refl, sym, ◌∙◌}
use mathlib.Core.Bool.{Bool, true, false, cond, ◌&&◌, false≢true}
use mathlib.Core.Logic.{◌⊎◌, inl, inr}
use mathlib.Core.List.{List}
use native.Mathlib.Nat.{div-add-mod'}
use native.Mathlib.Omega.{arith}
use lib.ListN.{length, replicate, length-set, length-replicate}
use lib.Dec.{eqb, ltb, leb}
use lib.Pow.{pow-lt, split}
use lib.Bits.{or_lt}
use borrow.Author.Tests.{eq-eqb, ne_eqb, le-leb, lt-ltb, le-ltb, ltb-true, leb-true}
use Rattle.refusal.specs.declared.Refusal.TheVariants as refusal
use Rattle.number.specs.declared.Key.{Key}
use Rattle.number.specs.Keys.{number_of, key_of, with_bit, masked_to}
use Rattle.handle.specs.declared.Handle.{Handle}
use Rattle.handle.specs.Handle.{fits_of}
use Rattle.handle.proofs.HandleLaws.{fit}
use Rattle.tree.proofs.LookupLaws.{down_le}
use Rattle.place.specs.Shape.{frame_out, key_out, newest_out}
use Rattle.place.specs.Turns.{child_key, child_of}
use Rattle.place.specs.declared.Place.{Place}
use Rattle.place.specs.declared.Options.{Options}
use Rattle.place.specs.declared.Outcome.TheVariants.{Refused}
use Rattle.place.specs.declared.Turn.TheVariants.{Opened}
use Rattle.place.proofs.TurnLaws.{handed_only, opened, out_handed}
use Rattle.walk.specs.declared.Range.{Range}
use Rattle.walk.specs.declared.Range.TheVariants.{Ipv4, Ipv6}
use Rattle.walk.specs.declared.Asked.{Asked}
use Rattle.walk.specs.declared.Walk.{Walk}
use Rattle.walk.specs.declared.Called.{Called}
use Rattle.walk.specs.Walks.{none, walk_from, no_walk, newest, taken, added}
use Rattle.walk.specs.Starts.{asked_of, range_key, is_ipv6_in_ipv4, lacks_subtree, start_node, way_to, first_of, refused_start, begun_with, begin_of}
use Rattle.walk.specs.Calls.{data_section, out_of_shape, after, called, goes, next_of}
use Rattle.walk.proofs.StartLaws.{asked_wide, wide_in}
use Rattle.walk.proofs.CallLaws.{by_goes}
use Rattle.carried.specs.Carried.{Addressed, Carried, begun, next}
use Rattle.carried.proofs.Rooms.{Each, each_taken, each_added}

-- a place in room i
pub record Good (width i : ℕ) (p : Place) : Type 0 where
  pub low : i ≤ p.len
  pub long : p.len ≤ width
  pub key : width ≡ 32 → number_of p.key < 2 ^ 32

pub record Sound (w : Walk) : Type 0 where
  pub size : length w.places ≡ 129
  pub wide : (w.width ≡ 32) ⊎ (w.width ≡ 128)
  pub good : Each (Good w.width) w

-- a number, in halves and back
pub number_key : (n : ℕ) → number_of (key_of n) ≡ n
number_key n = div-add-mod' n (2 ^ 64)

-- in shape
frame_shaped : (count width : ℕ) → count ≤ 129 → (width ≡ 32) ⊎ (width ≡ 128) → frame_out count width ≡ false
frame_shaped count width h (inl e) = simp (le-ltb _ _ h, e)
frame_shaped count width h (inr e) = simp (le-ltb _ _ h, e)

key_shaped : (width : ℕ) (k : Key) → (width ≡ 32) ⊎ (width ≡ 128) → (width ≡ 32 → number_of k < 2 ^ 32) → key_out width k ≡ false
key_shaped width k (inl e) f = let h = f e in simp (eq-eqb _ _ e, le-leb (number_of k) (2 ^ 32 - 1) (omega arith))
key_shaped width k (inr e) f = simp e

room_shaped :
    (a b : Bool) {v n l w c : ℕ} → ltb v n ≡ a → ltb l w ≡ b → (v < n → l < w → c < 129) → (a && b && eqb c 129) ≡ false
room_shaped true true {v} {n} {l} {w} {c} p q f = let h = f (ltb-true v n p) (ltb-true l w q) in ne_eqb c 129 (λ e. omega arith)
room_shaped true false p q f = refl
room_shaped false b p q f = refl

newest_shaped :
    (nodes count width : ℕ) (p : Place) → (width ≡ 32) ⊎ (width ≡ 128) → Good width (count - 1) p → 0 < count
    → newest_out nodes count width p ≡ false
unfolding newest_out
newest_shaped nodes count width p wide g live =
    let r : p.value < nodes → p.len < width → count < 129 = λ v l. omega (arith, g.low, g.long, wide_in wide) in
    simp (le-ltb _ _ g.long, key_shaped width p.key wide g.key) (room_shaped (ltb p.value nodes) (ltb p.len width) refl refl r)

module _ (nodes : ℕ) (w : Walk) (d : Sound w) (live : w.count ≡ 0 → ⊥) where
  pub newest_good : Good w.width (w.count - 1) (newest w)
  newest_good = d.good (w.count - 1) (omega arith)

  pub in_shape_lem : out_of_shape nodes w ≡ false
  unfolding out_of_shape
  in_shape_lem =
      let g = newest_good in
      let few : w.count ≤ 129 = omega (arith, g.low, g.long, wide_in d.wide) in
      simp (
        frame_shaped w.count w.width few d.wide,
        lt-ltb 0 w.count (omega arith),
        newest_shaped nodes w.count w.width (newest w) d.wide g (omega arith),
      )

-- children
bit_small : (width len n : ℕ) → width ≡ 32 → len < width → n < 2 ^ 32 → with_bit n width len < 2 ^ 32
bit_small width len n e h l = or_lt 32 n (2 ^ (width - 1 - len)) l (pow-lt {i = width - 1 - len} {j = 32} (omega arith))

module _ (s : List ℕ) (size width i : ℕ) (p : Place) (g : Good width i p) (short : p.len < width) where
  good_right : Good width i (child_of s size width p 1)
  unfolding child_key
  good_right =
      record {
        low = omega (arith, g.low);
        long = omega arith;
        key = λ e. rw (number_key (with_bit (number_of p.key) width p.len)) (bit_small width p.len (number_of p.key) e short (g.key e));
      }

  good_left : Good width (i + 1) (child_of s size width p 0)
  unfolding child_key
  good_left = record { low = omega (arith, g.low); long = omega arith; key = g.key }

-- a step
pub sound_taken : (w : Walk) → Sound w → Sound (taken w)
sound_taken w d =
    record { size = simp length-set d.size; wide = d.wide; good = each_taken (Good w.width) w d.good }

sound_added : (w : Walk) (p : Place) → w.count < 129 → Sound w → Good w.width w.count p → Sound (added w p)
sound_added w p r d g =
    record {
      size = simp length-set d.size;
      wide = d.wide;
      good = each_added (Good w.width) w p (omega (arith, d.size)) d.good g;
    }

module _ (s : List ℕ) (h : Handle) where
  pub sound_opened : (w : Walk) → Sound w → (w.count ≡ 0 → ⊥) → (newest w).len < w.width → Sound (after s h w Opened)
  sound_opened w d live short =
      let g = newest_good 0 w d live in
      let r : w.count - 1 + 1 < 129 = omega (arith, g.low, wide_in d.wide) in
      sound_added _ _ r
      (sound_added _ _ (omega arith) (sound_taken w d) (good_right s h.size w.width (w.count - 1) (newest w) g short))
      (good_left s h.size w.width (w.count - 1) (newest w) g short)

  abbrev Fine : Called → Type 0
  Fine c = Sound c.walk × (c.answer ≡ Refused refusal.OutOfShape → ⊥)

  fine : (n t : ℕ) (w : Walk) → Sound w → Fine (goes s h n t w)
  fine =
      by_goes s h (λ n t w c. Sound w → Fine c)
      (record {
        end = λ n t w z d. (d, λ e. cc);
        out = λ n t w l f d. absurd (false≢true (sym (in_shape_lem h.nodes w d l) ∙ f));
        paused = λ t w r d. (d, λ e. cc);
        handed = λ n t w a r e d. (
          sound_taken w d,
          (handed_only (out_handed (data_section s h) h w.options w.width (newest w) a e)).0 refusal.OutOfShape,
        );
        passed = λ n t w c r e q d. q (sound_taken w d);
        opened = λ n t w c r e q d. q (sound_opened w d r.0 (opened (data_section s h) h w.options w.width (newest w) e).1);
      })

  -- the start
  sound_refused : Sound no_walk
  sound_refused = record { size = length-replicate 129 none; wide = inl refl; good = λ i z. absurd (omega arith) }

  sound_first : (p : Place) (width : ℕ) (o : Options) → (width ≡ 32) ⊎ (width ≡ 128) → Good width 0 p → Sound (walk_from p width o)
  sound_first p width o wide g =
      sound_added (record { places = replicate 129 none; count = 0; width = width; options = o }) p (omega arith)
      (record { size = length-replicate 129 none; wide = wide; good = λ i z. absurd (omega arith) })
      g

  masked_small : (n width len : ℕ) → n < 2 ^ 32 → masked_to n width len < 2 ^ 32
  masked_small n width len l = omega (arith, split n (width - len))

  asked_small : (r : Range) → Addressed r → (asked_of r).width ≡ 32 → number_of (asked_of r).key < 2 ^ 32
  asked_small (Ipv4 addr len) a e = omega arith
  asked_small (Ipv6 addr len) a e = absurd (omega arith)

  module _ (r : Range) (o : Options) (ad : Addressed r) where
    abbrev a : Asked
    a = asked_of r

    good_way : a.len ≤ a.width → Good a.width 0 (record { value = (way_to s h a).node; key = range_key a; len = (way_to s h a).depth })
    good_way l =
        let d = down_le s h.size h.nodes (number_of (range_key a)) a.width 0 a.len (start_node h a.width) in
        record {
          low = omega arith;
          long = omega (arith, d);
          key = λ e. rw (number_key (masked_to (number_of a.key) a.width a.len)) (masked_small (number_of a.key) a.width a.len (asked_small r ad e));
        }

    good_above : h.depth4 ≤ 96 → Good 128 0 (record { value = h.start4; key = record { high = 0; low = 0 }; len = h.depth4 })
    good_above l = record { low = omega arith; long = omega arith; key = λ e. absurd (omega arith) }

    sound_begun : h.depth4 ≤ 96 → a.len ≤ a.width → Sound (begun_with (first_of s h a) o).walk
    unfolding first_of
    sound_begun shallow l = pick (lacks_subtree h a.width)
      where
        pick :
            (b : Bool)
            → Sound (begun_with
            (cond b
            (record { place = record { value = h.start4; key = record { high = 0; low = 0 }; len = h.depth4 }; width = 128 })
            (record { place = record { value = (way_to s h a).node; key = range_key a; len = (way_to s h a).depth }; width = a.width })) o).walk
        pick true = sound_first _ 128 o (inr refl) (good_above shallow)
        pick false = sound_first _ a.width o (asked_wide r) (good_way l)

    sound_start : Sound (begin_of s h r o).walk
    unfolding begin_of
    sound_start = pick (fits_of h (length s)) (leb a.len a.width) (is_ipv6_in_ipv4 h a.width) refl refl
      where
        pick :
            (x y z : Bool) → fits_of h (length s) ≡ x → leb a.len a.width ≡ y
            → Sound (cond x (cond y (cond z (refused_start refusal.Ipv6InIpv4) (begun_with (first_of s h a) o)) (refused_start refusal.PrefixLength)) (refused_start refusal.Handle)).walk
        pick true true true e f = sound_refused
        pick true true false e f = sound_begun (fit h (length s) e).shallow (leb-true _ _ f)
        pick true false z e f = sound_refused
        pick false y z e f = sound_refused

  -- carried on
  fine_next : (w : Walk) (b : ℕ) → Sound w → Fine (next_of s h w b)
  unfolding next_of
  fine_next w b d = pick (fits_of h (length s))
    where
      pick : (x : Bool) → Fine (cond x (goes s h b 0 w) (called (Refused refusal.Handle) 0 w))
      pick true = fine b 0 w d
      pick false = (d, λ e. cc)

  pub sound : {w : Walk} → Carried s h w → Sound w
  sound (begun r o a) = sound_start r o a
  sound (next {w = w} b c) = (fine_next w b (sound c)).0

  -- whatever the image, the handle, the range, the options, the cuts and the budgets
  pub never_13 : {w : Walk} → Carried s h w → (b : ℕ) → (next_of s h w b).answer ≡ Refused refusal.OutOfShape → ⊥
  never_13 {w} c b = (fine_next w b (sound c)).1
