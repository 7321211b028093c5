-- The kind of a place in an opened image, by the key that it shows.
use Prim.Native.Nat.{ℕ, ◌+◌, ◌-◌, ◌*◌, ◌/◌, ◌^◌, ◌<◌, ◌≤◌}
use mathlib.Core.Path.{◌≡◌, refl, ap, sym, ◌∙◌}
use mathlib.Core.Bool.{Bool, true, false, cond, ◌&&◌, and-false, false≢true}
use mathlib.Core.List.{List}
use native.Mathlib.Nat.{div-mul-le_self, le-div_iff_mul-le, mul-le-mul_right}
use native.Mathlib.Omega.{arith}
use lib.ListN.{length}
use lib.Dec.{eqb, ltb, leb}
use lib.Pow.{pow_pos, pow-add}
use borrow.Author.Tests.{ltb-true, leb-true, eqb-true}
use Rattle.number.specs.Keys.{number_of, cleared}
use Rattle.number.proofs.Tests.{leb_same}
use Rattle.handle.specs.declared.Handle.{Handle}
use Rattle.tree.specs.declared.Place as tree
use Rattle.tree.proofs.LookupLaws.{down_internal}
use Rattle.place.specs.Kinds.{is_ipv4_in_ipv6, has_ipv4_subtree, kind_of}
use Rattle.place.specs.declared.NetworkKind.TheVariants.{V6, V4InV6Subtree}
use Rattle.place.specs.declared.Place.{Place}
use Rattle.walk.specs.Calls.{data_section}
use Rattle.carried.proofs.InShape.{number_key}
use Rattle.fullwalk.specs.FullWalk.{width_of, outcome_of}
use Rattle.fullwalk.specs.Ends.{outcome_at}
use Rattle.fullwalk.proofs.Below.{Agrees}
use Rattle.fullwalk.proofs.FullWalkLaws.{masked, outcome_same}
use Rattle.ranges.proofs.OpenedLaws.{FromOpening}
use Rattle.ranges.proofs.ChoiceLaws.{Fair, fair_left, fair_right}

-- clearing at most 32 bits keeps a key above FFFFFFFF hex or not
cleared_above : (n j : ℕ) → j ≤ 32 → 2 ^ 32 - 1 < n → 2 ^ 32 - 1 < cleared n j
cleared_above n j l g =
    let t : 32 - j + j ≡ 32 = omega arith in
    let e : 2 ^ (32 - j) * 2 ^ j ≡ 2 ^ 32 = sym (pow-add 2 (32 - j) j) ∙ ap (λ (i : ℕ). 2 ^ i) t in
    let q : 2 ^ (32 - j) ≤ n / 2 ^ j = (le-div_iff_mul-le {k = 2 ^ j} {x = 2 ^ (32 - j)} {y = n} (pow_pos j)).1 (omega arith) in
    let m : 2 ^ (32 - j) * 2 ^ j ≤ n / 2 ^ j * 2 ^ j = mul-le-mul_right (2 ^ j) q in
    omega arith

module _ (s : List ℕ) (h : Handle) (op : FromOpening s h) where
  -- an IPv4 subtree stands at depth 96
  pub subtree_deep : h.version ≡ 6 → h.start4 < h.nodes → h.depth4 ≡ 96
  subtree_deep v l =
      let e = op.start v in
      ap (λ (p : tree.Place). p.depth) (sym e) ∙ down_internal s h.size h.nodes 0 128 0 96 0 (rw e l)

  pub has_subtree : has_ipv4_subtree h ≡ true → (h.version ≡ 6) × (h.start4 < h.nodes)
  has_subtree = by (eqb h.version 6) (ltb h.start4 h.nodes) refl refl
    where
      by : (a b : Bool) → eqb h.version 6 ≡ a → ltb h.start4 h.nodes ≡ b → (a && b) ≡ true → (h.version ≡ 6) × (h.start4 < h.nodes)
      by true true e f g = (eqb-true _ _ e, ltb-true _ _ f)
      by true false e f g = absurd (false≢true g)
      by false b e f g = absurd (false≢true g)

  -- so whether a place is inside it does not hang on the bits that its length leaves free
  module _ (p : Place) (long : p.len ≤ 128) where
    same_low : 96 ≤ p.len → is_ipv4_in_ipv6 p.key ≡ is_ipv4_in_ipv6 (masked 128 p).key
    same_low l =
        leb_same (number_of p.key) (2 ^ 32 - 1) (number_of (masked 128 p).key) (2 ^ 32 - 1)
        (λ g. rw (number_key (cleared (number_of p.key) (128 - p.len))) (omega (arith, div-mul-le_self (number_of p.key) (2 ^ (128 - p.len)))))
        (λ g. rw (number_key (cleared (number_of p.key) (128 - p.len))) (cleared_above (number_of p.key) (128 - p.len) (omega arith) g))

    same_subtree : (b c : Bool) → has_ipv4_subtree h ≡ b → leb h.depth4 p.len ≡ c → (is_ipv4_in_ipv6 p.key && b && c) ≡ (is_ipv4_in_ipv6 (masked 128 p).key && b && c)
    same_subtree true true e f =
        let t = has_subtree e in
        let d : h.depth4 ≡ 96 = subtree_deep t.0 t.1 in
        let l : h.depth4 ≤ p.len = leb-true _ _ f in
        ap (λ (i : Bool). i && true && true) (same_low (omega arith))
    same_subtree true false e f = simp and-false
    same_subtree false c e f = simp and-false

  kind_any : (p : Place) → p.len ≤ width_of h → kind_of h (width_of h) p ≡ kind_of h (width_of h) (masked (width_of h) p)
  unfolding kind_of
  kind_any p = by (eqb h.version 6)
    where
      by : (b : Bool) → (let w : ℕ = cond b 128 32 in p.len ≤ w → kind_of h w p ≡ kind_of h w (masked w p))
      by true l = ap (λ (c : Bool). cond c V4InV6Subtree V6) (same_subtree p l (has_ipv4_subtree h) (leb h.depth4 p.len) refl refl)
      by false l = refl

  abbrev room : ℕ
  room = length (data_section s h)

  -- a walk of the tree's own width shows each network as the full walk does
  pub own_agrees : (w : ℕ) → w ≡ width_of h → Agrees s h w (Fair s h w) (outcome_at (data_section s h) h w) (outcome_of h room)
  own_agrees w e =
      rw e
      (record {
        block = λ p f v. f.block v;
        left = fair_left s h (width_of h);
        right = fair_right s h (width_of h);
        same = λ p f. outcome_same (data_section s h) h p f.long (kind_any p f.long);
      })
