-- At a good place: passing over, reading, and what verification reaches from it.
use Prim.Native.Nat.{ℕ, zero, suc, ◌+◌, ◌-◌, ◌*◌, ◌≤◌, ◌<◌}
use mathlib.Core.Path.{◌≡◌, refl, sym, ap, subst, ◌∙◌}
use mathlib.Core.Bool.{Bool, true, false, cond, false≢true}
use mathlib.Core.List.{List}
use native.Mathlib.Omega.{arith}
use lib.ListN.{length, take, drop}
use lib.Dec.{leb, eqb}
use borrow.Author.Tests.{leb-false}
use Rattle.std.specs.Prelude.{Option, Some, None, option_and_then, Ok, Err}
use Rattle.refusal.specs.declared.Refusal.{Refusal}
use Rattle.refusal.specs.declared.Refusal.TheVariants as refusal
use Rattle.control.specs.Control.{is_type, is_pointer}
use Rattle.control.specs.Pointers.{link, link_at}
use Rattle.control.specs.declared.Kind.{Kind}
use Rattle.control.specs.declared.Kind.TheVariants as kind
use Rattle.control.specs.declared.Link.{Link}
use Rattle.control.proofs.KindLaws.{kind_is}
use Rattle.stored.specs.Stored.{layout, body_of, stored_at, resolved_at}
use Rattle.stored.specs.declared.Layout.{Layout}
use Rattle.charge.specs.Charge.{most_values, entered, paid}
use Rattle.charge.specs.declared.Charge.{Charge}
use Rattle.skip.specs.Skip as skip
use Rattle.skip.specs.declared.Past.{Past}
use Rattle.text.specs.Utf8.{well_formed}
use Rattle.value.specs.Value.{if_within, value_of, on_layout, read_at}
use Rattle.value.specs.declared.Value.{Value}
use Rattle.value.specs.declared.Value.TheVariants.{Map, Array}
use Rattle.graph.specs.Visit as visited
use Rattle.graph.specs.Visit.{by_kind, visit_at}
use Rattle.graph.specs.Graph.{levels}
use Rattle.graph.specs.Sets.{Set}
use Rattle.graph.specs.declared.Visit as visit
use Rattle.sweep.specs.Sound.{Follows, Met, Good, Sound}
use Rattle.sweep.specs.Pass.{pass_many, pass_at}
use Rattle.sweep.proofs.Passed.{stored_next, good_passes, good_lies, good_text}
use Rattle.accepted.specs.Values.{fresh, children_of, held_at, TooMany, Unread, pointer_to_pointer, too_many_children, Usable, Reached, first, pointed, child}
use Rattle.accepted.proofs.Skipping.{Skips, within, over, skip_tells, pass_more}

-- which values have children
kids : (d : List ℕ) (k : Kind) (n q e u i : ℕ) → i < children_of k n → by_kind d k n q e u ≡ Some (visit.TheVariants.Children (children_of k n) e u)
unfolding by_kind
kids d kind.Map n q e u i h = refl
kids d kind.Array n q e u i h = refl
kids d kind.Pointer n q e u i h = absurd (omega arith)
kids d kind.Text n q e u i h = absurd (omega arith)
kids d kind.Double n q e u i h = absurd (omega arith)
kids d kind.Bytes n q e u i h = absurd (omega arith)
kids d kind.U16 n q e u i h = absurd (omega arith)
kids d kind.U32 n q e u i h = absurd (omega arith)
kids d kind.I32 n q e u i h = absurd (omega arith)
kids d kind.U64 n q e u i h = absurd (omega arith)
kids d kind.U128 n q e u i h = absurd (omega arith)
kids d kind.Boolean n q e u i h = absurd (omega arith)
kids d kind.Float n q e u i h = absurd (omega arith)
kids d kind.Unknown n q e u i h = absurd (omega arith)

module _ (d : List ℕ) (good : Set) where
  -- what was met, by the kind that is stored
  met_kind : (deeper : Bool) (P : ℕ → ℕ → Type 0) (p w next : ℕ) (v : Layout) → stored_at d p ≡ Some v → Met deeper P good (visit_at d p w) next
      → Met deeper P good (by_kind d v.kind v.size v.payload v.next (w - 1)) next
  unfolding visit_at Met
  met_kind deeper P p w next v f m = by (eqb w 0) (rw f at m)
    where
      by : (t : Bool) → Met deeper P good (cond t None (by_kind d v.kind v.size v.payload v.next (w - 1))) next → Met deeper P good (by_kind d v.kind v.size v.payload v.next (w - 1)) next
      by true x = absurd x
      by false x = x

  -- with some levels, at most 128
  pub record GoodAt (p : ℕ) : Type 0 where
    pub left : ℕ
    pub few : left ≤ levels
    pub end : ℕ
    pub value : Good d good left p end

  -- a good pointer leads to a good place
  record Target (n q : ℕ) : Type 0 where
    target : ℕ
    past : ℕ
    leads : link_at d n q ≡ Some (link target past)
    there : good target ≡ true

  pointer_target : (deeper : Bool) (P : ℕ → ℕ → Type 0) (n q e u next : ℕ) → Met deeper P good (by_kind d kind.Pointer n q e u) next → Target n q
  unfolding by_kind Met
  pointer_target deeper P n q e u next m = by deeper (link_at d n q) refl m
    where
      by : (deeper : Bool) (y : Option Link) → link_at d n q ≡ y → Met deeper P good (visited.on_link u y) next → Target n q
      by true (Some l) f x = record { target = l.target; past = l.next; leads = f; there = x.0 }
      by false (Some l) f x = absurd x
      by deeper None f x = absurd x

  good_target : (l p next : ℕ) {n q e : ℕ} → stored_at d p ≡ Some (layout kind.Pointer n q e) → Good d good l p next → Target n q
  unfolding Good
  good_target zero p next f g = pointer_target false (λ _ _. ⊥) _ _ _ (g.0 - 1) next (met_kind false (λ _ _. ⊥) p g.0 next _ f g.1)
  good_target (suc l) p next f g = pointer_target true (Good d good l) _ _ _ (g.0 - 1) next (met_kind true (Good d good l) p g.0 next _ f g.1)

  -- one of several values
  nth : (l : ℕ) → l ≤ levels → (m i p next r : ℕ) → i < m → Follows (Good d good l) m p next → pass_many (pass_at levels d) i p ≡ Some r → GoodAt r
  unfolding Follows pass_many
  nth l few zero i p next r h f e = absurd (omega arith)
  nth l few (suc m) zero p next r h f e = let q : p ≡ r = cc in record { left = l; few = few; end = f.0; value = subst (λ (k : ℕ). Good d good l k f.0) q f.1 }
  nth l few (suc m) (suc i) p next r h f e =
      let a : pass_at levels d p ≡ Some f.0 = pass_more d l levels p f.0 few (good_passes d good l p f.0 f.1) in
      nth l few m i f.0 next r (omega arith) f.2 (sym (ap (option_and_then (pass_many (pass_at levels d) i)) a) ∙ e)

  good_child : (l p next : ℕ) → l ≤ levels → {k : Kind} {n q e : ℕ} → stored_at d p ≡ Some (layout k n q e) → Good d good l p next
      → (i r : ℕ) → i < children_of k n → pass_many (pass_at levels d) i e ≡ Some r → GoodAt r
  unfolding Good Met
  good_child zero p next few {k} {n} {q} {e} f g i r h y =
      absurd (rw (kids d k n q e (g.0 - 1) i h) at (met_kind false (λ _ _. ⊥) p g.0 next _ f g.1))
  good_child (suc l) p next few {k} {n} {q} {e} f g i r h y =
      let m = met_kind true (Good d good l) p g.0 next _ f g.1 in
      let c : Follows (Good d good l) (children_of k n) e next = rw (kids d k n q e (g.0 - 1) i h) at m in
      nth l (omega arith) (children_of k n) i e next r h c y

  -- what lies there
  lying : {p : ℕ} → GoodAt p → (v : Layout) × (stored_at d p ≡ Some v)
  lying {p} g = good_lies d good g.left p g.end g.value

  -- ---- reading, nothing charged

  abbrev Blamed : Kind → ℕ → Refusal → Type 0
  Blamed k n r = (r ≡ refusal.Malformed) × (most_values < 1 + children_of k n)

  -- a value of a kind: a text is UTF-8, a map and an array have few enough children, and no other is refused
  module _ (n q : ℕ) (r : Refusal) where
    nest_blamed : (m : ℕ) (v : Value) → if_within (entered fresh m) (Ok v) ≡ Err r → (r ≡ refusal.Malformed) × (most_values < 1 + m)
    unfolding entered
    nest_blamed m v e = by (leb m (most_values - 1)) refl e
      where
        by : (t : Bool) → leb m (most_values - 1) ≡ t → if_within (cond t (Some (record { values = 1 + m; payload = 0 })) None) (Ok v) ≡ Err r
            → (r ≡ refusal.Malformed) × (most_values < 1 + m)
        by true g x = absurd (cc)
        by false g x = (cc, let j = leb-false m (most_values - 1) g in omega arith)

    kind_blamed : (k : Kind) → is_pointer k ≡ false → ((takes : ℕ) × (body_of k n ≡ Some takes)) → (is_type k 2 ≡ true → well_formed (take n (drop q d)) ≡ true)
        → value_of d k n q fresh ≡ Err r → Blamed k n r
    unfolding paid
    kind_blamed kind.Pointer f b t e = absurd (false≢true (sym f))
    kind_blamed kind.Text f b t e = absurd (cc (t refl))
    kind_blamed kind.Double f b t e = absurd (cc)
    kind_blamed kind.Bytes f b t e = absurd (cc)
    kind_blamed kind.U16 f b t e = absurd (cc)
    kind_blamed kind.U32 f b t e = absurd (cc)
    kind_blamed kind.Map f b t e = nest_blamed (n * 2) (Map n) e
    kind_blamed kind.I32 f b t e = absurd (cc)
    kind_blamed kind.U64 f b t e = absurd (cc)
    kind_blamed kind.U128 f b t e = absurd (cc)
    kind_blamed kind.Array f b t e = nest_blamed n (Array n) e
    kind_blamed kind.Boolean f b t e = absurd (cc)
    kind_blamed kind.Float f b t e = absurd (cc)
    kind_blamed kind.Unknown f b t e = absurd (cc b.1)

  -- what lies at a good place and is no pointer
  straight : {p : ℕ} → GoodAt p → (v : Layout) → stored_at d p ≡ Some v → is_pointer v.kind ≡ false → (r : Refusal) → value_of d v.kind v.size v.payload fresh ≡ Err r
      → Blamed v.kind v.size r
  straight {p} g v f o r e =
      let b = stored_next d p v f in
      kind_blamed v.size v.payload r v.kind o (b.0, b.1) (good_text d good g.left p g.end g.value v f) e

  module _ (value : (t : ℕ) → good t ≡ true → (next : ℕ) × Good d good levels t next) where
    pub good_at : (t : ℕ) → good t ≡ true → GoodAt t
    good_at t e = let v = value t e in record { left = levels; few = omega arith; end = v.0; value = v.1 }

    -- through a pointer
    through : {p : ℕ} → GoodAt p → {n q e : ℕ} → stored_at d p ≡ Some (layout kind.Pointer n q e) → (r : Refusal) → read_at d p fresh ≡ Err r
        → (r ≡ refusal.Malformed) × Unread d p
    unfolding read_at resolved_at
    through {p} g {n} {q} {e} f r x =
        let t = good_target g.left p g.end f g.value in
        let a = good_at t.target t.there in
        let y = lying a in
        by t.target t.past y.0 t.leads y.1 a (is_pointer y.0.kind) refl
      where
        by : (t past : ℕ) (v : Layout) → link_at d n q ≡ Some (link t past) → stored_at d t ≡ Some v → GoodAt t
            → (b : Bool) → is_pointer v.kind ≡ b → (r ≡ refusal.Malformed) × Unread d p
        by t past v l s a true i =
            let j = kind_is kind.Pointer v.kind i in
            let w : resolved_at d p ≡ None = simp (f, l, s, i) in
            let z : Err refusal.Malformed ≡ Err r = sym (ap (on_layout d fresh) w) ∙ x in
            let same : r ≡ refusal.Malformed = cc in
            (same, pointer_to_pointer f l (s ∙ ap (λ (k : Kind). Some (layout k v.size v.payload v.next)) j))
        by t past v l s a false i =
            let w : resolved_at d p ≡ Some (layout v.kind v.size v.payload past) = simp (f, l, s, i) in
            let c = straight a v s i r (sym (ap (on_layout d fresh) w) ∙ x) in
            (c.0, too_many_children w c.1)

    -- READING AT A GOOD PLACE
    pub reads : {p : ℕ} → GoodAt p → (r : Refusal) → read_at d p fresh ≡ Err r → (r ≡ refusal.Malformed) × Unread d p
    unfolding read_at resolved_at
    reads {p} g r x = let y = lying g in by y.0 y.1 (is_pointer y.0.kind) refl
      where
        by : (v : Layout) → stored_at d p ≡ Some v → (b : Bool) → is_pointer v.kind ≡ b → (r ≡ refusal.Malformed) × Unread d p
        by v f true i = through g (f ∙ ap (λ (k : Kind). Some (layout k v.size v.payload v.next)) (kind_is kind.Pointer v.kind i)) r x
        by v f false i =
            let w : resolved_at d p ≡ Some v = simp (f, i) in
            let c = straight g v f i r (sym (ap (on_layout d fresh) w) ∙ x) in
            (c.0, too_many_children w c.1)

    -- A GOOD PLACE
    pub usable : {p : ℕ} → GoodAt p → Usable d p
    usable {p} g =
        let e = pass_more d g.left levels p g.end g.few (good_passes d good g.left p g.end g.value) in
        let t = skip_tells d levels p g.end fresh e in
        record {
          end = g.end;
          passes = e;
          skips = λ few. passed few t;
          stuck = λ many. refused many t;
          reads = reads g;
          text = λ f. good_text d good g.left p g.end g.value _ f refl;
        }
      where
        passed : {end : ℕ} {x : Option Past} → (TooMany d p → ⊥) → Skips (held_at levels d p) end fresh x → (c : Charge) × (x ≡ Some (skip.past end c))
        passed few (within c a b) = (c, refl)
        passed few (over a) = absurd (few (omega arith))

        refused : {end : ℕ} {x : Option Past} → TooMany d p → Skips (held_at levels d p) end fresh x → x ≡ None
        refused many (within c a b) = absurd (omega arith)
        refused many (over a) = refl

    -- WHAT VERIFICATION REACHES
    module _ (from : Set) (has : (t : ℕ) → t < length d → from t ≡ true → good t ≡ true) where
      reached : {p : ℕ} → Reached d from p → GoodAt p
      reached (first {p = p} h e) = good_at p (has p h e)
      reached (pointed {p = p} {t = t} r f l) =
          let g = reached r in
          let x = good_target g.left p g.end f g.value in
          good_at t (same (sym x.leads ∙ l) x.there)
        where
          same : {a b c e : ℕ} → Some (link a b) ≡ Some (link c e) → good a ≡ true → good c ≡ true
          same {a} {b} {c} {e} f g = let h : link a b ≡ link c e = cc in sym (ap (λ (l : Link). good l.target) h) ∙ g
      reached (child {p = p} {r = r} i q f h e) = let g = reached q in good_child g.left p g.end g.few f g.value i r h e

-- WHATEVER IS REACHED IN A SOUND SECTION
pub sound_usable : (d : List ℕ) (from : Set) → Sound d from → (p : ℕ) → Reached d from p → Usable d p
sound_usable d from x p r = usable d x.good x.value (reached d x.good x.value from x.has r)
