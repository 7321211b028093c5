-- What taking a place of verification's walk comes to, and what it does to the places that wait.
use Prim.Native.Nat.{ℕ, ◌-◌, ◌<◌, ◌≤◌}
use mathlib.Core.Path.{◌≡◌, refl, sym, ap, subst, ◌∙◌}
use mathlib.Core.Bool.{Bool, true, false, cond, false≢true}
use mathlib.Core.Logic.{◌⊎◌, inl, inr, ⊎_elim}
use mathlib.Core.List.{List}
use native.Mathlib.Decide.{ℕ_discrete}
use native.Mathlib.Omega.{arith}
use lib.ListN.{length, get_or}
use lib.Seq.{get_or-set_same, get_or-set_other}
use lib.Dec.{ltb}
use borrow.Author.Tests.{le-leb, ltb-true, ltb-false}
use Rattle.std.specs.Prelude.{Option, Some, None}
use Rattle.refusal.specs.declared.Refusal.TheVariants as refusal
use Rattle.handle.specs.declared.Handle.{Handle}
use Rattle.tree.specs.Lookup.{found, answer_of}
use Rattle.tree.specs.declared.Found.{Found}
use Rattle.place.specs.Kinds.{is_alias}
use Rattle.place.specs.Turns.{child_of, end_at, end_of, turn_of}
use Rattle.place.specs.declared.Place.{Place}
use Rattle.place.specs.declared.Network.{Network}
use Rattle.place.specs.declared.Outcome.TheVariants.{Given, Failed}
use Rattle.place.specs.declared.Turn.{Turn}
use Rattle.place.specs.declared.Turn.TheVariants.{Passed, Out, Opened}
use Rattle.walk.specs.declared.Walk.{Walk}
use Rattle.walk.specs.Walks.{none, newest, taken, added}
use Rattle.walk.specs.Calls.{data_section}
use Rattle.carried.proofs.Rooms.{Each}
use Rattle.fullwalk.specs.FullWalk.{width_of}
use Rattle.graph.specs.Sets.{Set}
use Rattle.recording.specs.Recording.{options}
use Rattle.accepted.specs.Visited.{Leads, here, below, room, FaultyAt}

module _ (s : List ℕ) (h : Handle) where
  abbrev answer_at : Place → Option Found
  answer_at p = answer_of h.nodes (room s h) p.value p.len

  abbrev Alias : Place → Bool → Type 0
  Alias p b = is_alias h (width_of h) p ≡ b

  -- the offset of a place's network is the one that the place leads to
  pub record Offsets (p : Place) (n : Network) : Type 0 where
    pub to : (o l : ℕ) → answer_at p ≡ Some (found (Some o) l) → n.offset ≡ Some o
    pub from : (o : ℕ) → n.offset ≡ Some o → (l : ℕ) × (answer_at p ≡ Some (found (Some o) l))

  -- by what stands at the place
  pub data Turned (p : Place) : Turn → Type 0 where
    alias : Alias p true → Turned p Passed
    node : Alias p false → p.value < h.nodes → p.len < width_of h → Turned p Opened
    deep : p.value < h.nodes → width_of h ≤ p.len → Alias p false → Turned p (Out (Failed refusal.TooDeep))
    bad : answer_at p ≡ None → Alias p false → Turned p (Out (Failed refusal.Record))
    network : (n : Network) → Alias p false → h.nodes ≤ p.value → (answer_at p ≡ None → ⊥) → Offsets p n → Turned p (Out (Given n))

  module _ (p : Place) where
    network_here : Alias p false → h.nodes ≤ p.value → (f : Found) → answer_at p ≡ Some f → (n : Network) → n.offset ≡ f.offset → Turned p (Out (Given n))
    network_here a v f e n same =
        network n a v (λ i. cc)
        (record {
          to = λ o l g. let q : f ≡ found (Some o) l = cc in same ∙ ap (λ (x : Found). x.offset) q;
          from = λ o g. (f.len, e ∙ ap (λ (x : Option ℕ). Some (found x f.len)) (sym same ∙ g));
        })

    ending_at : Alias p false → h.nodes ≤ p.value → (o : Option ℕ) (l : ℕ) → answer_at p ≡ Some (found o l) → Turned p (end_at (data_section s h) h options (width_of h) p o)
    ending_at a v (Some o) l e = network_here a v (found (Some o) l) e _ refl
    ending_at a v None l e = network_here a v (found None l) e _ refl

    ending : Alias p false → h.nodes ≤ p.value → (a : Option Found) → answer_at p ≡ a → Turned p (end_of (data_section s h) h options (width_of h) p a)
    ending f v (Some y) e = ending_at f v y.offset y.len e
    ending f v None e = bad e f

    pick :
        (a b c : Bool) → Alias p a → ltb p.value h.nodes ≡ b → ltb p.len (width_of h) ≡ c
        → Turned p (cond a Passed (cond b (cond c Opened (Out (Failed refusal.TooDeep))) (end_of (data_section s h) h options (width_of h) p (answer_at p))))
    pick true b c e f g = alias e
    pick false true true e f g = node e (ltb-true _ _ f) (ltb-true _ _ g)
    pick false true false e f g = deep (ltb-true _ _ f) (ltb-false _ _ g) e
    pick false false c e f g = ending e (ltb-false _ _ f) (answer_at p) refl

    pub turned : Turned p (turn_of (data_section s h) h options (width_of h) p)
    unfolding turn_of
    turned = pick (is_alias h (width_of h) p) (ltb p.value h.nodes) (ltb p.len (width_of h)) refl refl refl

  -- a node's answer is no data
  node_answers : (p : Place) → p.value < h.nodes → answer_at p ≡ Some (found None p.len)
  unfolding answer_of
  node_answers p v = simp (le-leb p.value h.nodes (omega arith))

  -- a place that is no alias, and what it has: no fault, and no offset outside a set
  pub record Fine (offsets : Set) (q : Place) : Type 0 where
    pub faultless : FaultyAt s h q → ⊥
    pub known : (o l : ℕ) → answer_at q ≡ Some (found (Some o) l) → offsets o ≡ true

  -- all places that a place leads to, aliases apart
  abbrev pub Clear : Set → Place → Type 0
  Clear offsets p = (q : Place) → Leads s h p q → Alias q false → Fine offsets q

  abbrev pub AllClear : Set → Walk → Type 0
  AllClear offsets = Each (λ i p. Clear offsets p)

  pub clear_more : (f g : Set) → ((o : ℕ) → f o ≡ true → g o ≡ true) → (w : Walk) → AllClear f w → AllClear g w
  clear_more f g more w c i l q r n = let k = c i l q r n in record { faultless = k.faultless; known = λ o m e. more o (k.known o m e) }

  module _ (offsets : Set) (p : Place) where
    pub clear_alias : Alias p true → Clear offsets p
    clear_alias a q here n = absurd (false≢true (sym n ∙ a))
    clear_alias a q (below bit b n v l r) m = absurd (false≢true (sym n ∙ a))

    pub clear_network : h.nodes ≤ p.value → (answer_at p ≡ None → ⊥) → ((o l : ℕ) → answer_at p ≡ Some (found (Some o) l) → offsets o ≡ true) → Clear offsets p
    clear_network v i k q here n =
        record { faultless = λ f. ⊎_elim (λ x. let g = x.0 in let z : ⊥ = omega arith in z) i f; known = k }
    clear_network v i k q (below bit b n u l r) m = absurd (omega arith)

    pub clear_node : p.value < h.nodes → p.len < width_of h → Clear offsets (child_of s h.size (width_of h) p 0) → Clear offsets (child_of s h.size (width_of h) p 1)
        → Clear offsets p
    clear_node v l left right q here n =
        record {
          faultless = λ f.
              ⊎_elim (λ x. let g = x.1 in let z : ⊥ = omega arith in z)
              (λ x. cc (node_answers p v)) f;
          known = λ o m x. let e : found None p.len ≡ found (Some o) m = cc (node_answers p v) in absurd (cc (ap (λ (y : Found). y.offset) e));
        }
    clear_node v l left right q (below bit b n u k r) m =
        ⊎_elim
        (λ e. left q (subst (λ (j : ℕ). Leads s h (child_of s h.size (width_of h) p j) q) e r) m)
        (λ e. right q (subst (λ (j : ℕ). Leads s h (child_of s h.size (width_of h) p j) q) e r) m)
        (either bit b)
      where
        either : (j : ℕ) → j < 2 → (j ≡ 0) ⊎ (j ≡ 1)
        either j i = elim (ℕ_discrete j 0) [ yes e ↦ inl e | no n ↦ inr (omega arith) ]

  -- one step further down
  pub leads_on : {p q : Place} (bit : ℕ) → bit < 2 → Alias q false → q.value < h.nodes → q.len < width_of h → Leads s h p q
      → Leads s h p (child_of s h.size (width_of h) q bit)
  leads_on bit b n v l here = below bit b n v l here
  leads_on bit b n v l (below bit' b' n' v' l' r) = below bit' b' n' v' l' (leads_on bit b n v l r)

-- from a walk with one place more, and without its newest, back
module _ (P : Place → Type 0) where
  abbrev Every : Walk → Type 0
  Every = Each (λ i p. P p)

  pub added_newest : (w : Walk) (p : Place) → w.count < length w.places → Every (added w p) → P p
  added_newest w p r e = subst P (get_or-set_same w.places w.count p none r) (e w.count (omega arith))

  pub added_rest : (w : Walk) (p : Place) → Every (added w p) → Every w
  added_rest w p e i l = subst P (get_or-set_other w.places w.count i p none (λ q. omega arith)) (e i (omega arith))

  pub taken_back : (w : Walk) → P (newest w) → Every (taken w) → Every w
  taken_back w p e i l =
      elim (ℕ_discrete i (w.count - 1)) [
        | yes q ↦ subst (λ (j : ℕ). P (get_or w.places j none)) (sym q) p
        | no n ↦ subst P (get_or-set_other w.places (w.count - 1) i none none n) (e i (omega arith))
      ]
