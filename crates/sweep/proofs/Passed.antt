-- A good value can be passed over, and a good text is UTF-8.
use mathlib.Core.Path.{◌≡◌, refl, sym, ap, ap₂, subst, ◌∙◌}
use mathlib.Core.Logic.{⊎_elim, ◌⊎◌, inl, inr}
use mathlib.Core.List.{List}
use mathlib.Core.Bool.{Bool, true, false, cond}
use Prim.Native.Nat.{ℕ, zero, suc, ◌+◌, ◌-◌, ◌*◌, ◌/◌, ◌%◌, ◌<◌}
use native.Mathlib.Omega.{arith}
use borrow.Author.Tests.{eqb-true, eqb-false}
use lib.ListN.{length, take, drop}
use lib.Dec.{leb, eqb}
use Rattle.number.specs.Bytes.{be_at}
use Rattle.number.proofs.Tests.{chosen, chosen_first}
use Rattle.control.specs.Control.{head_at, type_number, is_type, is_pointer}
use Rattle.control.specs.Pointers.{far_at, link_at}
use Rattle.control.specs.declared.Kind.{Kind}
use Rattle.control.specs.Pointers.{link}
use Rattle.control.specs.declared.Head.{Head}
use Rattle.control.specs.declared.Link.{Link}
use Rattle.stored.specs.Stored.{body_of, placed_at, lying_at, on_head, stored_at}
use Rattle.stored.specs.Stored.{layout}
use Rattle.stored.specs.declared.Layout.{Layout}
use Rattle.std.specs.Prelude.{Option, Some, None, option_and_then}
use Rattle.text.specs.Utf8.{well_formed}
use Rattle.graph.proofs.VisitLaws.{pointer_takes}
use Rattle.graph.specs.Visit.{text_of, on_link, by_kind, on_layout, visit_at}
use Rattle.graph.specs.Sets.{Set}
use Rattle.graph.specs.declared.Visit.{Visit}
use Rattle.graph.specs.declared.Visit.TheVariants.{Leaf, Children, Pointer}
use Rattle.sweep.proofs.Sim.{is_or_not}
use Rattle.sweep.specs.Sound.{Follows, Met, Good}
use Rattle.sweep.specs.Pass.{pass_many, pass_at}
use Rattle.sweep.specs.Pass as pass
use Rattle.sweep.specs.Sweep.{data_accepted}
use Rattle.graph.specs.Graph.{levels}
use Rattle.sweep.proofs.Swept.{data_sound}

-- ---- what lies where a value was met

pub record Lain (s : List ℕ) (p w : ℕ) (v : Option Visit) : Type 0 where
  pub value : Layout
  pub stored : stored_at s p ≡ Some value
  pub met : by_kind s value.kind value.size value.payload value.next (w - 1) ≡ v

pub visit_lain : (s : List ℕ) (p w : ℕ) (v : Option Visit) → (None ≡ v → ⊥) → visit_at s p w ≡ v → Lain s p w v
unfolding visit_at
visit_lain s p w v n e = go (stored_at s p) refl e
  where
    go : (y : Option Layout) → stored_at s p ≡ y → on_layout s w y ≡ v → Lain s p w v
    go (Some y) f g = ⊎_elim (λ c. absurd (n c.1)) (λ c. record { value = y; stored = f; met = c.1 }) (chosen (eqb w 0) g)
    go None f g = absurd (n g)

-- a kind has one type number
other_type : (k : Kind) (a b : ℕ) → is_type k a ≡ true → is_type k b ≡ eqb a b
other_type k a b e = ap (λ (n : ℕ). eqb n b) (eqb-true (type_number k) a e)

module _ (s : List ℕ) (k : Kind) (n q e u : ℕ) where
  pub record IsLeaf (next : ℕ) : Type 0 where
    pub no_map : is_type k 7 ≡ false
    pub no_array : is_type k 11 ≡ false
    pub ends : e ≡ next
    pub text : is_type k 2 ≡ true → well_formed (take n (drop q s)) ≡ true

  no_link : {A : Type 0} {next w : ℕ} (y : Option Link) → on_link u y ≡ Some (Leaf next w) → A
  no_link (Some l) f = absurd (cc)
  no_link None f = absurd (cc)

  pub kind_leaf : {next w : ℕ} → by_kind s k n q e u ≡ Some (Leaf next w) → IsLeaf next
  unfolding by_kind
  kind_leaf {next} {w} f =
      ⊎_elim
      (λ c.
      let d = chosen_first (leb n u) (λ z. cc) c.1 in
      let g : (well_formed (take n (drop q s)) ≡ true) × (Some (Leaf e (u - n)) ≡ Some (Leaf next w)) = chosen_first (well_formed (take n (drop q s))) (λ z. cc) d.1 in
      let h = g.1 in
      let i : e ≡ next = cc in
      record { no_map = other_type k 2 7 c.0; no_array = other_type k 2 11 c.0; ends = i; text = λ z. g.0 })
      (λ c. ⊎_elim
      (λ d. no_link (link_at s n q) d.1)
      (λ d. ⊎_elim
      (λ x. absurd (cc x.1))
      (λ x. ⊎_elim
      (λ y. absurd (cc y.1))
      (λ y.
      let h : Some (Leaf e u) ≡ Some (Leaf next w) = y.1 in
      let i : e ≡ next = cc in
      record { no_map = x.0; no_array = y.0; ends = i; text = λ z. absurd (cc c.0) })
      (chosen (is_type k 11) x.1))
      (chosen (is_type k 7) d.1))
      (chosen (is_pointer k) c.1))
      (chosen (is_type k 2) f)

  no_children : {A : Type 0} {m first w : ℕ} (y : Option Link) → on_link u y ≡ Some (Children m first w) → A
  no_children (Some l) f = absurd (cc)
  no_children None f = absurd (cc)

  text_leaf : {A : Type 0} (v : Option Visit) → (Some (Leaf e (u - n)) ≡ v → ⊥) → (None ≡ v → ⊥) → text_of s n q e u ≡ v → A
  text_leaf v a b f =
      ⊎_elim
      (λ c. ⊎_elim (λ d. absurd (a d.1)) (λ d. absurd (b d.1)) (chosen (well_formed (take n (drop q s))) c.1))
      (λ c. absurd (b c.1))
      (chosen (leb n u) f)

  -- a map of pairs, or an array
  pub kind_children : {m first w : ℕ} → by_kind s k n q e u ≡ Some (Children m first w)
      → ((is_type k 7 ≡ true) × (n * 2 ≡ m) × (e ≡ first)) ⊎ ((is_type k 7 ≡ false) × (is_type k 11 ≡ true) × (n ≡ m) × (e ≡ first))
  unfolding by_kind
  kind_children {m} {first} {w} f =
      ⊎_elim
      (λ c. text_leaf (Some (Children m first w)) (λ z. cc) (λ z. cc) c.1)
      (λ c. ⊎_elim
      (λ d. no_children (link_at s n q) d.1)
      (λ d. ⊎_elim
      (λ x.
      let h : Some (Children (n * 2) e u) ≡ Some (Children m first w) = x.1 in
      let i : n * 2 ≡ m = cc in
      let j : e ≡ first = cc in
      inl (x.0, i, j))
      (λ x. ⊎_elim
      (λ y.
      let h : Some (Children n e u) ≡ Some (Children m first w) = y.1 in
      let i : n ≡ m = cc in
      let j : e ≡ first = cc in
      inr (x.0, y.0, i, j))
      (λ y. absurd (cc y.1))
      (chosen (is_type k 11) x.1))
      (chosen (is_type k 7) d.1))
      (chosen (is_pointer k) c.1))
      (chosen (is_type k 2) f)

  linked : {t next w : ℕ} (y : Option Link) → link_at s n q ≡ y → on_link u y ≡ Some (Pointer t next w) → link_at s n q ≡ Some (link t next)
  linked {t} {next} {w} (Some l) g f =
      let h : Some (Pointer l.target l.next u) ≡ Some (Pointer t next w) = f in
      let i : l.target ≡ t = cc in
      let j : l.next ≡ next = cc in
      g ∙ ap₂ (λ (a b : ℕ). Some (link a b)) i j
  linked None g f = absurd (cc)

  pub kind_pointer : {t next w : ℕ} → by_kind s k n q e u ≡ Some (Pointer t next w) → (is_pointer k ≡ true) × (link_at s n q ≡ Some (link t next))
  unfolding by_kind
  kind_pointer {t} {next} {w} f =
      ⊎_elim
      (λ c. text_leaf (Some (Pointer t next w)) (λ z. cc) (λ z. cc) c.1)
      (λ c. ⊎_elim
      (λ d. (d.0, linked (link_at s n q) refl d.1))
      (λ d. ⊎_elim
      (λ x. absurd (cc x.1))
      (λ x. ⊎_elim (λ y. absurd (cc y.1)) (λ y. absurd (cc y.1)) (chosen (is_type k 11) x.1))
      (chosen (is_type k 7) d.1))
      (chosen (is_pointer k) c.1))
      (chosen (is_type k 2) f)

-- ---- a pointer ends where what follows it begins

placed_next : (s : List ℕ) (k : Kind) (n q : ℕ) (b : Option ℕ) (v : Layout) → body_of k n ≡ b → placed_at s k n q b ≡ Some v
    → (takes : ℕ) × (body_of v.kind v.size ≡ Some takes) × (v.next ≡ v.payload + takes)
placed_next s k n q (Some t) v f g =
    let c : (leb (q + t) (length s) ≡ true) × (Some (layout k n q (q + t)) ≡ Some v) = chosen_first (leb (q + t) (length s)) (λ z. cc) g in
    let e : layout k n q (q + t) ≡ v = cc c.1 in
    (t, subst (λ (y : Layout). body_of y.kind y.size ≡ Some t) e f, ap (λ (y : Layout). y.next) (sym e) ∙ ap (λ (y : Layout). y.payload + t) e)
placed_next s k n q None v f g = absurd (cc)

pub stored_next : (s : List ℕ) (p : ℕ) (v : Layout) → stored_at s p ≡ Some v → (takes : ℕ) × (body_of v.kind v.size ≡ Some takes) × (v.next ≡ v.payload + takes)
unfolding stored_at lying_at
stored_next s p v f = go (head_at s p) f
  where
    go : (h : Option Head) → on_head s h ≡ Some v → (takes : ℕ) × (body_of v.kind v.size ≡ Some takes) × (v.next ≡ v.payload + takes)
    go (Some h) g = placed_next s h.kind h.size h.payload (body_of h.kind h.size) v refl g
    go None g = absurd (cc)

far_next : (s : List ℕ) (base n q : ℕ) {t past : ℕ} → far_at s base n q ≡ Some (link t past) → past ≡ q + n
far_next s base n q {t} {past} e =
    let c = chosen_first (leb (q + n) (length s)) (λ z. cc) e in
    let d : link (base + be_at s q n) (q + n) ≡ link t past = cc c.1 in
    sym (ap (λ (l : Link). l.next) d)

link_next : (s : List ℕ) (code q : ℕ) {t past : ℕ} → link_at s code q ≡ Some (link t past) → past ≡ q + (code / 8 % 4 + 1)
unfolding link_at
link_next s code q {t} {past} e =
    ⊎_elim
    (λ c. omega (arith, far_next s (code % 8 * 256) 1 q c.1, eqb-true (code / 8 % 4) 0 c.0))
    (λ c. ⊎_elim
    (λ d. omega (arith, far_next s (2048 + code % 8 * 65536) 2 q d.1, eqb-true (code / 8 % 4) 1 d.0))
    (λ d. ⊎_elim
    (λ x. omega (arith, far_next s (526336 + code % 8 * 16777216) 3 q x.1, eqb-true (code / 8 % 4) 2 x.0))
    (λ x. last (code / 8 % 4) (far_next s 0 4 q x.1) (eqb-false (code / 8 % 4) 0 c.0) (eqb-false (code / 8 % 4) 1 d.0) (eqb-false (code / 8 % 4) 2 x.0) (omega arith))
    (chosen (eqb (code / 8 % 4) 2) d.1))
    (chosen (eqb (code / 8 % 4) 1) c.1))
    (chosen (eqb (code / 8 % 4) 0) e)
  where
    last : (class : ℕ) → past ≡ q + 4 → (class ≡ 0 → ⊥) → (class ≡ 1 → ⊥) → (class ≡ 2 → ⊥) → class < 4 → past ≡ q + (class + 1)
    last class f a b c h = omega arith

pub pointer_ends : (s : List ℕ) (p : ℕ) (v : Layout) {t past : ℕ} → stored_at s p ≡ Some v → is_pointer v.kind ≡ true → link_at s v.size v.payload ≡ Some (link t past)
    → v.next ≡ past
pointer_ends s p v {t} {past} f g h =
    let a = stored_next s p v f in
    let b : Some a.0 ≡ Some (v.size / 8 % 4 + 1) = sym a.1 ∙ pointer_takes v.kind v.size g in
    let c : a.0 ≡ v.size / 8 % 4 + 1 = cc in
    omega (arith, a.2, link_next s v.size v.payload h)

-- ---- passing over

pass_many_lem : (P : ℕ → ℕ → Type 0) (value : ℕ → Option ℕ) → ((p q : ℕ) → P p q → value p ≡ Some q) → (n p next : ℕ) → Follows P n p next
    → pass_many value n p ≡ Some next
unfolding Follows pass_many
pass_many_lem P value each zero p next f = ap (λ (q : ℕ). Some q) f
pass_many_lem P value each (suc n) p next f = ap (option_and_then (pass_many value n)) (each p f.0 f.1) ∙ pass_many_lem P value each n f.0 next f.2

module _ (s : List ℕ) (good : Set) where
  passed : (deeper : Bool) (P : ℕ → ℕ → Type 0) (value : ℕ → Option ℕ) → ((p q : ℕ) → P p q → value p ≡ Some q)
      → (p w next : ℕ) (v : Option Visit) → visit_at s p w ≡ v → Met deeper P good v next → pass.on_layout deeper value (stored_at s p) ≡ Some next
  unfolding Met pass.on_layout
  passed deeper P value each p w next (Some (Leaf end u)) e m =
      let l = visit_lain s p w (Some (Leaf end u)) (λ z. cc) e in
      let k = kind_leaf s l.value.kind l.value.size l.value.payload l.value.next (w - 1) l.met in
      rw l.stored (simp (k.no_map, k.no_array) (ap (λ (q : ℕ). Some q) (k.ends ∙ m)))
  passed true P value each p w next (Some (Children n first u)) e m =
      let l = visit_lain s p w (Some (Children n first u)) (λ z. cc) e in
      let many : pass_many value n first ≡ Some next = pass_many_lem P value each n first next m in
      ⊎_elim
      (λ c. rw l.stored (simp c.0 (ap₂ (pass_many value) c.1 c.2 ∙ many)))
      (λ c. rw l.stored (simp (c.0, c.1) (ap₂ (pass_many value) c.2 c.3 ∙ many)))
      (kind_children s l.value.kind l.value.size l.value.payload l.value.next (w - 1) l.met)
  passed false P value each p w next (Some (Children n first u)) e m = absurd m
  passed true P value each p w next (Some (Pointer t end u)) e m =
      let l = visit_lain s p w (Some (Pointer t end u)) (λ z. cc) e in
      let k = kind_pointer s l.value.kind l.value.size l.value.payload l.value.next (w - 1) l.met in
      let ends : l.value.next ≡ end = pointer_ends s p l.value l.stored k.0 k.1 in
      rw l.stored (simp (other_type l.value.kind 1 7 k.0, other_type l.value.kind 1 11 k.0) (ap (λ (q : ℕ). Some q) (ends ∙ m.1)))
  passed false P value each p w next (Some (Pointer t end u)) e m = absurd m
  passed deeper P value each p w next None e m = absurd m

  -- A GOOD VALUE CAN BE PASSED OVER, but for the limit of values
  pub good_passes : (l p next : ℕ) → Good s good l p next → pass_at l s p ≡ Some next
  unfolding Good pass_at
  good_passes zero p next g = passed false (λ _ _. ⊥) (λ q. None) (λ p q z. absurd z) p g.0 next (visit_at s p g.0) refl g.1
  good_passes (suc l) p next g = passed true (Good s good l) (pass_at l s) (good_passes l) p g.0 next (visit_at s p g.0) refl g.1

  not_refused : (deeper : Bool) (P : ℕ → ℕ → Type 0) (v : Option Visit) (next : ℕ) → Met deeper P good v next → None ≡ v → ⊥
  unfolding Met
  not_refused deeper P (Some (Leaf end u)) next m e = cc
  not_refused deeper P (Some (Children n first u)) next m e = cc
  not_refused deeper P (Some (Pointer t end u)) next m e = cc
  not_refused deeper P None next m e = m

  good_met : (l p next : ℕ) → Good s good l p next → (w : ℕ) × (None ≡ visit_at s p w → ⊥)
  unfolding Good
  good_met zero p next g = (g.0, not_refused false (λ _ _. ⊥) (visit_at s p g.0) next g.1)
  good_met (suc l) p next g = (g.0, not_refused true (Good s good l) (visit_at s p g.0) next g.1)

  -- it lies in the section
  pub good_lies : (l p next : ℕ) → Good s good l p next → (v : Layout) × (stored_at s p ≡ Some v)
  good_lies l p next g =
      let m = good_met l p next g in
      let l = visit_lain s p m.0 (visit_at s p m.0) m.1 refl in
      (l.value, l.stored)

  either : (b : Bool) → cond {A = Option Visit} b None None ≡ None
  either true = refl
  either false = refl

  ill_formed : (p w : ℕ) (v : Layout) → stored_at s p ≡ Some v → is_type v.kind 2 ≡ true → well_formed (take v.size (drop v.payload s)) ≡ false → None ≡ visit_at s p w
  unfolding visit_at by_kind
  ill_formed p w v f g h = sym (rw f (simp (g, h, either)))

  -- a text is UTF-8
  pub good_text : (l p next : ℕ) → Good s good l p next → (v : Layout) → stored_at s p ≡ Some v → is_type v.kind 2 ≡ true
      → well_formed (take v.size (drop v.payload s)) ≡ true
  good_text l p next g v f h =
      let m = good_met l p next g in
      ⊎_elim (λ y. y) (λ y. absurd (m.1 (ill_formed p m.0 v f h y))) (is_or_not (well_formed (take v.size (drop v.payload s))))

-- at every recorded place of an accepted data section
pub recorded_passes : (s : List ℕ) (set : Set) → data_accepted s set ≡ true → (t : ℕ) → t < length s → set t ≡ true → (next : ℕ) × (pass_at levels s t ≡ Some next)
recorded_passes s set e t h f =
    let r = data_sound s set e in
    let g = r.value t (r.has t h f) in
    (g.0, good_passes s r.good levels t g.0 g.1)
