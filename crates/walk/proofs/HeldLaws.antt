-- A walk whose newest place is held in a local: what stands in its room does not matter.
use Prim.Native.Nat.{ℕ, ◌+◌, ◌-◌, ◌<◌}
use mathlib.Core.Path.{◌≡◌, refl, ap, ◌∙◌}
use mathlib.Core.Bool.{Bool, true, false, cond, not, ◌&&◌, false≢true}
use mathlib.Core.List.{List}
use native.Mathlib.Omega.{arith}
use lib.Dec.{eqb, ltb}
use lib.ListN.{length, set}
use lib.Seq.{set-set, set-get_or, get_or-set_same}
use Rattle.handle.specs.declared.Handle.{Handle}
use Rattle.place.specs.Shape.{frame_out, newest_out}
use Rattle.place.specs.Turns.{child_of, turn_of}
use Rattle.place.specs.Kinds.{is_ipv4_in_ipv6, is_alias}
use Rattle.place.specs.declared.Options.{Options}
use Rattle.place.specs.declared.Place.{Place}
use Rattle.place.specs.declared.Turn.{Turn}
use Rattle.place.specs.declared.Turn.TheVariants.{Passed, Out, Opened}
use Rattle.walk.specs.declared.Walk.{Walk}
use Rattle.walk.specs.Walks.{none, newest}
use Rattle.walk.specs.Calls.{data_section, out_of_shape, after, called, ends, goes}
use Rattle.walk.proofs.CallLaws.{frame_in, out_by_newest, after_opened, goes_within}

abbrev with_places : Walk → List Place → Walk
with_places w l = record { places = l; count = w.count; width = w.width; options = w.options }

abbrev pub held : Walk → Place → Walk
held w p = with_places w (set w.places (w.count - 1) p)

-- without the held place
abbrev pub cut : Walk → Walk
cut w = record { places = set w.places (w.count - 1) none; count = w.count - 1; width = w.width; options = w.options }

-- another in the held place's room, and one more to be held above it
abbrev pub pushed : Walk → Place → Walk
pushed w r = record { places = set w.places (w.count - 1) r; count = w.count + 1; width = w.width; options = w.options }

pub hold : (w : Walk) → held w (newest w) ≡ w
hold w = ap (with_places w) (set-get_or w.places (w.count - 1) none)

-- the walk after the held place is taken
abbrev pub rest : List ℕ → Handle → Walk → Place → Turn → Walk
rest s h w p Opened = held (pushed w (child_of s h.size w.width p 1)) (child_of s h.size w.width p 0)
rest s h w p Passed = cut w
rest s h w p (Out a) = cut w

both : (a b : Bool) → (a && b) ≡ true → (a ≡ true) × (b ≡ true)
both true b e = (refl, e)
both false b e = absurd (false≢true e)

-- a node other than the IPv4 start is no alias
pub opens_node :
    (d : List ℕ) (h : Handle) (o : Options) (width : ℕ) (p : Place)
    → (ltb p.value h.nodes && (not (eqb p.value h.start4) && ltb p.len width)) ≡ true
    → turn_of d h o width p ≡ Opened
unfolding turn_of is_alias
opens_node d h o width p e =
    let a = both (ltb p.value h.nodes) (not (eqb p.value h.start4) && ltb p.len width) e in
    let b = both (not (eqb p.value h.start4)) (ltb p.len width) a.1 in
    simp (other (eqb p.value h.start4) b.0, a.0, b.1)
    (by o.aliased (eqb h.start4 0) (eqb width 128) (not (is_ipv4_in_ipv6 p.key)))
  where
    other : (a : Bool) → not a ≡ true → a ≡ false
    other true e = absurd (false≢true e)
    other false e = refl

    by : (a b c d : Bool) → cond (not a && (not b && false && c && d)) Passed Opened ≡ Opened
    by true b c d = refl
    by false true c d = refl
    by false false c d = refl

module _ (s : List ℕ) (h : Handle) (w : Walk) (p : Place) (size : length w.places ≡ 129) (live : 0 < w.count) (frame : frame_out w.count w.width ≡ false) where
  newest_held : newest (held w p) ≡ p
  newest_held = let f = (frame_in w.count w.width frame).0 in get_or-set_same w.places (w.count - 1) p none (omega (arith, size, live, f))

  pub held_live : w.count ≡ 0 → ⊥
  held_live e = omega (arith, live, e)

  pub held_out : (b : Bool) → newest_out h.nodes w.count w.width p ≡ b → out_of_shape h.nodes (held w p) ≡ b
  held_out b e = out_by_newest h.nodes (held w p) held_live frame (rw newest_held e)

  after_held : (turn : Turn) → after s h (held w p) turn ≡ rest s h w p turn
  after_held Passed = simp set-set
  after_held (Out a) = simp set-set
  after_held Opened =
      let e : w.count + 1 - 1 ≡ w.count = omega arith in
      after_opened s h (held w p) live ∙ simp (set-set, newest_held, e)

  pub held_goes :
      (b t : ℕ) → newest_out h.nodes w.count w.width p ≡ false → t < b
      → (turn : Turn) → turn_of (data_section s h) h w.options w.width p ≡ turn
      → goes s h (b - t) t (held w p) ≡ ends turn (λ a. called a (t + 1) (rest s h w p turn)) (goes s h (b - (t + 1)) (t + 1) (rest s h w p turn))
  held_goes b t inside less turn e =
      goes_within s h t (held w p) held_live (held_out false inside) b less turn (rw newest_held e)
      ∙ ap (λ (v : Walk). ends turn (λ a. called a (t + 1) v) (goes s h (b - (t + 1)) (t + 1) v)) (after_held turn)
