-- What taking a place hands out is what the ways from it end in, by the options.
use Prim.Native.Nat.{ℕ, zero, suc, ◌+◌, ◌-◌, ◌<◌, ◌≤◌}
use mathlib.Core.Path.{◌≡◌, refl, ap, sym, ◌∙◌}
use mathlib.Core.Bool.{Bool, true, false, cond, not, ◌&&◌, ◌||◌, and-false, false≢true}
use mathlib.Core.List.{List, [], ◌∷◌, ◌++◌, map, map-append}
use native.Mathlib.Omega.{arith}
use lib.ListN.{length}
use lib.Dec.{eqb, ltb, leb}
use borrow.Author.Tests.{lt-ltb, le-ltb, eq-eqb, ne_eqb, ltb-true, ltb-false, leb-true}
use Rattle.std.specs.Prelude.{Option, Some, None, Result, Ok, Err}
use Rattle.refusal.specs.declared.Refusal.{Refusal}
use Rattle.refusal.specs.declared.Refusal.TheVariants as refusal
use Rattle.handle.specs.declared.Handle.{Handle}
use Rattle.control.specs.declared.Head.{Head}
use Rattle.control.specs.Pointers.{behind_at}
use Rattle.tree.specs.Lookup.{found, offset_of, answer_of}
use Rattle.tree.specs.declared.Found.{Found}
use Rattle.tree.proofs.AnswerLaws.{answer_none, answer_found}
use Rattle.value.specs.Empty.{empty_on, empty_at}
use Rattle.tiles.specs.Lists.{All, only}
use Rattle.tiles.proofs.ListLaws.{all_append, all_map, only_append, only_none}
use Rattle.place.specs.Kinds.{is_alias, is_skipped}
use Rattle.place.specs.Turns.{child_of, network_of, unless_empty, end_at, end_of, turn_of}
use Rattle.place.specs.declared.Place.{Place}
use Rattle.place.specs.declared.Options.{Options}
use Rattle.place.specs.declared.Outcome.{Outcome}
use Rattle.place.specs.declared.Outcome.TheVariants.{Given, Failed}
use Rattle.place.specs.declared.Turn.{Turn}
use Rattle.place.specs.declared.Turn.TheVariants.{Passed, Out, Opened}
use Rattle.fullwalk.specs.Ends.{End, ending, ends_below, ends_from, answer_at, left_out, shown_at, given_of}

-- no data is found at the node count, or at a node
module _ (nodes room node len : ℕ) (a : Found) where
  fields : {b : Found} → Some b ≡ Some a → (b.offset ≡ a.offset) × (b.len ≡ a.len)
  fields {b} e = let q : b ≡ a = cc in (ap (λ (f : Found). f.offset) q, ap (λ (f : Found). f.len) q)

  pub answer_length : answer_of nodes room node len ≡ Some a → a.len ≡ len
  unfolding answer_of
  answer_length = by (leb node nodes) (ltb node (nodes + 16)) (ltb (offset_of nodes node) room)
    where
      by :
          (x y z : Bool) → cond x (Some (found None len)) (cond y None (cond z (Some (found (Some (offset_of nodes node)) len)) None)) ≡ Some a
          → a.len ≡ len
      by true y z e = sym (fields e).1
      by false true z e = cc
      by false false true e = sym (fields e).1
      by false false false e = cc

  pub answer_nothing : answer_of nodes room node len ≡ Some a → a.offset ≡ None → node ≤ nodes
  unfolding answer_of
  answer_nothing = by (leb node nodes) (ltb node (nodes + 16)) (ltb (offset_of nodes node) room) refl
    where
      by :
          (x y z : Bool) → leb node nodes ≡ x
          → cond x (Some (found None len)) (cond y None (cond z (Some (found (Some (offset_of nodes node)) len)) None)) ≡ Some a
          → a.offset ≡ None → node ≤ nodes
      by true y z f e o = leb-true _ _ f
      by false true z f e o = cc
      by false false true f e o = let s : Some (offset_of nodes node) ≡ None = (fields e).0 ∙ o in cc
      by false false false f e o = cc

-- a value refuses to be looked at only by 14
malformed_on : (h : Option Head) (e : Refusal) → empty_on h ≡ Err e → e ≡ refusal.Malformed
malformed_on (Some h) e q = cc
malformed_on None e q = cc

malformed_at : (d : List ℕ) (offset : ℕ) (e : Refusal) → empty_at d offset ≡ Err e → e ≡ refusal.Malformed
unfolding empty_at
malformed_at d offset = malformed_on (behind_at d offset)

module _ (s : List ℕ) (h : Handle) (width : ℕ) where
  abbrev child : Place → ℕ → Place
  child p bit = child_of s h.size width p bit

  -- where a way ends
  pub ends_here : (rest : ℕ) (met : Bool) (p : Place) → h.nodes ≤ p.value → ends_below s h width rest met p ≡ ending p (met || is_alias h width p) ∷ []
  unfolding ends_below
  ends_here zero met p v = refl
  ends_here (suc rest) met p v = simp (le-ltb _ _ v)

  pub ends_deep : (rest : ℕ) (met : Bool) (p : Place) → rest ≡ 0 → ends_below s h width rest met p ≡ ending p (met || is_alias h width p) ∷ []
  unfolding ends_below
  ends_deep rest met p e = rw e

  -- where it leads on
  pub ends_branch :
      (rest : ℕ) (met : Bool) (p : Place) → p.value < h.nodes
      → ends_below s h width (suc rest) met p
      ≡ ends_below s h width rest (met || is_alias h width p) (child p 0) ++ ends_below s h width rest (met || is_alias h width p) (child p 1)
  unfolding ends_below
  ends_branch rest met p v = simp (lt-ltb _ _ v)

  -- once an alias place is met, it is met on all ways below
  abbrev Met : End → Type 0
  Met e = e.alias ≡ true

  all_met : (rest : ℕ) (p : Place) → All Met (ends_below s h width rest true p)
  unfolding All ends_below
  all_met zero p = (refl, tt)
  all_met (suc rest) p =
      let l = ends_below s h width rest true (child p 0) in
      let r = ends_below s h width rest true (child p 1) in
      by (ltb p.value h.nodes) (l ++ r) (all_append Met l r (all_met rest (child p 0)) (all_met rest (child p 1)))
    where
      by : (b : Bool) (l : List End) → All Met l → All Met (cond b l (ending p true ∷ []))
      by true l a = a
      by false l a = (refl, tt)

  -- it may as well have been met at the place itself
  met_here : (rest : ℕ) (p : Place) → is_alias h width p ≡ true → ends_below s h width rest false p ≡ ends_below s h width rest true p
  unfolding ends_below
  met_here zero p e = rw e
  met_here (suc rest) p e = rw e

  module _ (d : List ℕ) (o : Options) where
    abbrev given : List End → List Outcome
    given = given_of d h width o

    -- what the options leave of the ways from a place
    abbrev pub hands : Place → List Outcome
    hands p = given (ends_from s h width p)

    given_append : (l m : List End) → given (l ++ m) ≡ given l ++ given m
    given_append l m =
        let f : End → Bool = λ e. not (left_out d h width o e) in
        ap (map (shown_at d h width o)) (only_append f l m) ∙ map-append (shown_at d h width o) (only f l) (only f m)

    -- of one end
    one_given : (e : End) → given (e ∷ []) ≡ cond (left_out d h width o e) [] (shown_at d h width o e ∷ [])
    unfolding only
    one_given e = by (left_out d h width o e)
      where
        by : (b : Bool) → map (shown_at d h width o) (cond (not b) (e ∷ []) []) ≡ cond b [] (shown_at d h width o e ∷ [])
        by true = refl
        by false = refl

    -- with aliases asked for it does not matter whether one was met
    one_any : o.aliased ≡ true → (p : Place) (m n : Bool) → given (ending p m ∷ []) ≡ given (ending p n ∷ [])
    one_any a p m n = one_given (ending p m) ∙ (rw a) ∙ sym (one_given (ending p n))

    any_met : o.aliased ≡ true → (rest : ℕ) (m n : Bool) (p : Place) → given (ends_below s h width rest m p) ≡ given (ends_below s h width rest n p)
    unfolding ends_below
    any_met a zero m n p = one_any a p (m || is_alias h width p) (n || is_alias h width p)
    any_met a (suc rest) m n p =
        let i = m || is_alias h width p in
        let j = n || is_alias h width p in
        let l : Bool → List End = λ b. ends_below s h width rest b (child p 0) in
        let r : Bool → List End = λ b. ends_below s h width rest b (child p 1) in
        by (ltb p.value h.nodes) (l i ++ r i) (l j ++ r j) (ending p i ∷ []) (ending p j ∷ [])
        (given_append (l i) (r i)
        ∙ ap (λ (k : List Outcome). k ++ given (r i)) (any_met a rest i j (child p 0))
        ∙ ap (λ (k : List Outcome). given (l j) ++ k) (any_met a rest i j (child p 1))
        ∙ sym (given_append (l j) (r j)))
        (one_any a p i j)
      where
        by : (b : Bool) (l k x y : List End) → given l ≡ given k → given x ≡ given y → given (cond b l x) ≡ given (cond b k y)
        by true l k x y e f = e
        by false l k x y e f = f

    module _ (p : Place) where
      abbrev here : End
      here = ending p (is_alias h width p)

      -- one way
      kept : ends_from s h width p ≡ here ∷ [] → left_out d h width o here ≡ false → hands p ≡ shown_at d h width o here ∷ []
      kept e l = ap given e ∙ one_given here ∙ rw l

      dropped : ends_from s h width p ≡ here ∷ [] → left_out d h width o here ≡ true → hands p ≡ []
      dropped e l = ap given e ∙ one_given here ∙ rw l

      -- what a turn says of it
      abbrev pub Told : Turn → Type 0
      Told Passed = hands p ≡ []
      Told (Out a) = hands p ≡ a ∷ []
      Told Opened = hands p ≡ hands (child p 0) ++ hands (child p 1)

      -- an alias that is skipped
      skipped : o.aliased ≡ false → is_alias h width p ≡ true → hands p ≡ []
      skipped a e =
          ap given (met_here (width - p.len) p e)
          ∙ ap (map (shown_at d h width o))
          (only_none (λ e. not (left_out d h width o e)) (ends_below s h width (width - p.len) true p)
          (all_map Met (λ e. not (left_out d h width o e) ≡ false) (λ e m. simp (a, m)) (ends_below s h width (width - p.len) true p) (all_met (width - p.len) p)))

      module _ (unskipped : is_skipped h o width p ≡ false) where
        -- a node with a bit left
        leads : p.value < h.nodes → p.len < width → Told Opened
        leads v l =
            let e : width - p.len ≡ suc (width - (p.len + 1)) = omega arith in
            ap (λ (n : ℕ). given (ends_below s h width n false p)) e
            ∙ ap given (ends_branch (width - (p.len + 1)) false p v)
            ∙ given_append _ _
            ∙ by o.aliased refl unskipped
          where
            left : Bool → List Outcome
            left m = given (ends_below s h width (width - (p.len + 1)) m (child p 0))

            right : Bool → List Outcome
            right m = given (ends_below s h width (width - (p.len + 1)) m (child p 1))

            by : (a : Bool) → o.aliased ≡ a → not a && is_alias h width p ≡ false → left (is_alias h width p) ++ right (is_alias h width p) ≡ left false ++ right false
            by true a u =
                ap (λ (k : List Outcome). k ++ right (is_alias h width p)) (any_met a (width - (p.len + 1)) (is_alias h width p) false (child p 0))
                ∙ ap (λ (k : List Outcome). left false ++ k) (any_met a (width - (p.len + 1)) (is_alias h width p) false (child p 1))
            by false a u = rw u

        -- a node at full width
        deep : p.value < h.nodes → width ≤ p.len → Told (Out (Failed refusal.TooDeep))
        deep v l =
            let ne : p.value ≡ h.nodes → ⊥ = λ e. omega arith in
            let nothing = answer_none h.nodes (length d) p.len p.value (omega arith) in
            kept (ends_deep (width - p.len) false p (omega arith)) (simp (unskipped, ne_eqb _ _ ne, nothing, and-false))
            ∙ simp (nothing, and-false, lt-ltb _ _ v)

        -- a terminal
        module _ (v : h.nodes ≤ p.value) where
          alone : ends_from s h width p ≡ here ∷ []
          alone = ends_here (width - p.len) false p v

          full : (offset len : ℕ) → answer_at d h width p ≡ Some (found (Some offset) len) → (e : Bool) → o.skipempty ≡ e
              → (m : Result Bool Refusal) → empty_at d offset ≡ m
              → Told (cond e (unless_empty m (network_of h width p (Some offset))) (Out (Given (network_of h width p (Some offset)))))
          full offset len a e f m g =
              let ne : p.value ≡ h.nodes → ⊥ = λ q. omega (arith, (answer_found h.nodes (length d) p.len p.value offset len a).1) in
              by e f m g (ne_eqb _ _ ne)
            where
              by : (e : Bool) → o.skipempty ≡ e → (m : Result Bool Refusal) → empty_at d offset ≡ m → eqb p.value h.nodes ≡ false
                  → Told (cond e (unless_empty m (network_of h width p (Some offset))) (Out (Given (network_of h width p (Some offset)))))
              by true f (Ok true) g n = dropped alone (simp (unskipped, n, and-false, f, a, g))
              by true f (Ok false) g n = kept alone (simp (unskipped, n, and-false, f, a, g)) ∙ simp (f, a, g, le-ltb _ _ v)
              by true f (Err e) g n = kept alone (simp (unskipped, n, and-false, f, a, g)) ∙ simp (f, a, g) (ap (λ (r : Refusal). Failed r ∷ []) (sym (malformed_at d offset e g)))
              by false f m g n = kept alone (simp (unskipped, n, and-false, f)) ∙ simp (f, a, le-ltb _ _ v)

          missing : (len : ℕ) → answer_at d h width p ≡ Some (found None len) → (b : Bool) → o.dataless ≡ b → Told (cond b (Out (Given (network_of h width p None))) Passed)
          missing len a true f = kept alone (simp (unskipped, f, a, and-false)) ∙ simp (a, and-false, le-ltb _ _ v)
          missing len a false f =
              let none : p.value ≡ h.nodes = omega (arith, answer_nothing h.nodes (length d) p.value p.len (found None len) a refl) in
              dropped alone (simp (unskipped, f, eq-eqb _ _ none))

          ended_at : (offset : Option ℕ) (len : ℕ) → answer_at d h width p ≡ Some (found offset len) → Told (end_at d h o width p offset)
          ended_at (Some offset) len a = full offset len a o.skipempty refl (empty_at d offset) refl
          ended_at None len a = missing len a o.dataless refl

          ended : (a : Option Found) → answer_at d h width p ≡ a → Told (end_of d h o width p a)
          ended (Some f) a = ended_at f.offset f.len a
          ended None a =
              let ne : p.value ≡ h.nodes → ⊥ = λ e.
              let n = answer_none h.nodes (length d) p.len p.value (omega arith) in
              cc
              in
              kept alone (simp (unskipped, ne_eqb _ _ ne, a, and-false)) ∙ simp (a, and-false, le-ltb _ _ v)

      told_by_lem :
          (b i l : Bool) → is_skipped h o width p ≡ b → ltb p.value h.nodes ≡ i → ltb p.len width ≡ l
          → Told (cond b Passed (cond i (cond l Opened (Out (Failed refusal.TooDeep))) (end_of d h o width p (answer_at d h width p))))
      told_by_lem true i l e f g = by o.aliased (is_alias h width p) refl refl e
        where
          by : (a b : Bool) → o.aliased ≡ a → is_alias h width p ≡ b → (not a && b) ≡ true → hands p ≡ []
          by true b x y e = absurd (false≢true e)
          by false true x y e = skipped x y
          by false false x y e = absurd (false≢true e)
      told_by_lem false true true e f g = leads e (ltb-true _ _ f) (ltb-true _ _ g)
      told_by_lem false true false e f g = deep e (ltb-true _ _ f) (ltb-false _ _ g)
      told_by_lem false false l e f g = ended e (ltb-false _ _ f) (answer_at d h width p) refl

      -- what taking a place comes to is what the ways from it come to
      pub told : Told (turn_of d h o width p)
      unfolding turn_of
      told = told_by_lem (is_skipped h o width p) (ltb p.value h.nodes) (ltb p.len width) refl refl refl
