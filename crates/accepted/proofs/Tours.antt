-- Verification's walk: what one call comes to, and how it ends.
use Prim.Native.Nat.{ℕ, zero, suc, ◌-◌, ◌*◌, ◌<◌, ◌≤◌}
use mathlib.Core.Path.{◌≡◌, refl, sym, ap, subst, ◌∙◌}
use mathlib.Core.Bool.{Bool, true, false, cond, ◌||◌, false≢true}
use mathlib.Core.Logic.{◌⊎◌, inl, inr, ⊎_elim}
use mathlib.Core.List.{List, [], ◌∷◌, ◌++◌, map}
use native.Mathlib.Omega.{arith}
use lib.ListN.{length, length-set}
use lib.Dec.{eqb}
use borrow.Author.Tests.{eq-eqb, eqb-true}
use Rattle.std.specs.Prelude.{Option, Some, None, Ok, Err}
use Rattle.refusal.specs.declared.Refusal.{Refusal}
use Rattle.refusal.specs.declared.Refusal.TheVariants as refusal
use Rattle.handle.specs.declared.Handle.{Handle}
use Rattle.handle.specs.Handle.{fits_of}
use Rattle.handle.proofs.HandleLaws.{fit}
use Rattle.tree.specs.Lookup.{down}
use Rattle.place.specs.Kinds.{is_alias}
use Rattle.place.specs.Turns.{child_of}
use Rattle.place.specs.declared.Place.{Place}
use Rattle.place.specs.declared.Network.{Network}
use Rattle.place.specs.declared.Outcome.{Outcome}
use Rattle.place.specs.declared.Outcome.TheVariants.{Given, Failed, Refused, Paused, End}
use Rattle.place.specs.declared.Turn.{Turn}
use Rattle.place.specs.declared.Turn.TheVariants.{Passed, Out, Opened}
use Rattle.walk.specs.declared.Range.TheVariants.{Ipv4, Ipv6}
use Rattle.walk.specs.declared.Walk.{Walk}
use Rattle.walk.specs.declared.Called.{Called}
use Rattle.walk.specs.declared.Started.{Started}
use Rattle.walk.specs.Walks.{none, walk_from, newest, taken, added}
use Rattle.walk.specs.Starts.{first_of, whole_range, begin_of}
use Rattle.walk.specs.Calls.{turn_at, after, goes, next_of}
use Rattle.walk.proofs.StartLaws.{wide_in}
use Rattle.walk.proofs.CallLaws.{by_goes}
use Rattle.carried.specs.Carried.{Addressed, begun}
use Rattle.carried.proofs.Rooms.{Each, each_taken, each_added}
use Rattle.carried.proofs.InShape.{Sound, newest_good, in_shape_lem, sound_taken, sound_opened, sound}
use Rattle.marks.specs.Marks.{contains}
use Rattle.graph.specs.Sets.{Set}
use Rattle.fullwalk.specs.FullWalk.{width_of, handed_out, Walked, ends, goes_on}
use Rattle.fullwalk.proofs.WalkedLaws.{all_given}
use Rattle.recording.specs.Recording.{options, offsets_of, reply_of, Tour, on_reply, too_many_tour, toured, tour_of}
use Rattle.accepted.specs.Accepted.{verify_walk, offsets_in, Walking, met_bad_record, met_too_deep, too_many, budget_spent}
use Rattle.accepted.specs.Visited.{here, Visited, OffsetOf}
use Rattle.accepted.proofs.Turned.{Turned, alias, node, deep, bad, network, turned, Fine, Clear, AllClear, clear_more, clear_alias, clear_network, clear_node, leads_on, added_newest, added_rest, taken_back}

abbrev NoFailure : Outcome → Type 0
NoFailure a = (k : Refusal) → a ≡ Failed k → ⊥

-- the offset of a network that is handed out is in a set
abbrev GivenIn : Set → Outcome → Type 0
GivenIn offsets a = (n : Network) → a ≡ Given n → (o : ℕ) → n.offset ≡ Some o → offsets o ≡ true

-- offsets with one network's before them
more_offsets : (x : Option ℕ) (l : List ℕ) (o : ℕ) → contains l o ≡ true → contains (offsets_of x ++ l) o ≡ true
unfolding contains
more_offsets (Some y) l o e = by (eqb o y)
  where
    by : (t : Bool) → (t || contains l o) ≡ true
    by true = refl
    by false = e
more_offsets None l o e = e

own_offset : (x : Option ℕ) (l : List ℕ) (o : ℕ) → x ≡ Some o → contains (offsets_of x ++ l) o ≡ true
unfolding contains
own_offset x l o e = rw e (simp (eq-eqb o o refl))

which_offset : (x : Option ℕ) (l : List ℕ) (o : ℕ) → contains (offsets_of x ++ l) o ≡ true → (x ≡ Some o) ⊎ (contains l o ≡ true)
unfolding contains
which_offset (Some y) l o e = by (eqb o y) refl e
  where
    by : (t : Bool) → eqb o y ≡ t → (t || contains l o) ≡ true → (Some y ≡ Some o) ⊎ (contains l o ≡ true)
    by true f g = inl (ap (λ (k : ℕ). Some k) (sym (eqb-true o y f)))
    by false f g = inr g
which_offset None l o e = inr e

module _ (s : List ℕ) (h : Handle) where
  -- what a call of this walk answers
  data Sort : Outcome → Type 0 where
    given : (n : Network) → ((o : ℕ) → n.offset ≡ Some o → OffsetOf s h o) → Sort (Given n)
    faulty : Sort (Failed refusal.Record)
    too_deep : Sort (Failed refusal.TooDeep)
    paused : Sort Paused
    end : Sort End

  -- a walk of verification
  record Own (w : Walk) : Type 0 where
    fine : Sound w
    options : w.options ≡ options
    width : w.width ≡ width_of h
    visited : Each (λ i p. Visited s h p) w

  module _ (w : Walk) (g : Own w) (live : w.count ≡ 0 → ⊥) where
    abbrev at : Place
    at = newest w

    at_turned : Turned s h at (turn_at s h w)
    at_turned = rw (g.options, g.width) (turned s h at)

    own_taken : Own (taken w)
    own_taken =
        record { fine = sound_taken w g.fine; options = g.options; width = g.width; visited = each_taken (λ i p. Visited s h p) w g.visited }

    at_visited : Visited s h at
    at_visited = g.visited (w.count - 1) (omega arith)

    passed_clear : (offsets : Set) → turn_at s h w ≡ Passed → Clear s h offsets at
    passed_clear offsets e = by at_turned e
      where
        by : {t : Turn} → Turned s h at t → t ≡ Passed → Clear s h offsets at
        by (alias a) q = clear_alias s h offsets at a
        by (node a v l) q = absurd (cc)
        by (deep v l a) q = absurd (cc)
        by (bad i a) q = absurd (cc)
        by (network n a v i x) q = absurd (cc)

    -- a place that is handed out
    record GivenOut (a : Outcome) : Type 0 where
      sort : Sort a
      back : (offsets : Set) → NoFailure a → GivenIn offsets a → Clear s h offsets at
      going : a ≡ End → ⊥

    handed_out_lem : (a : Outcome) → turn_at s h w ≡ Out a → GivenOut a
    handed_out_lem a e = by at_turned e
      where
        by : {t : Turn} → Turned s h at t → t ≡ Out a → GivenOut a
        by (alias i) q = absurd (cc)
        by (node i v l) q = absurd (cc)
        by (deep v l i) q =
            let f : Failed refusal.TooDeep ≡ a = cc in
            subst GivenOut f
            (record {
              sort = too_deep;
              back = λ offsets n k. absurd (n refusal.TooDeep refl);
              going = λ r. cc;
            })
        by (bad x i) q =
            let f : Failed refusal.Record ≡ a = cc in
            subst GivenOut f
            (record {
              sort = faulty;
              back = λ offsets n k. absurd (n refusal.Record refl);
              going = λ r. cc;
            })
        by (network n j v i x) q =
            let f : Given n ≡ a = cc in
            subst GivenOut f
            (record {
              sort = given n (λ o e. let y = x.from o e in record { place = at; visited = at_visited; own = j; length = y.0; leads = y.1 });
              back = λ offsets m k. clear_network s h offsets at v i (λ o l e. k n refl o (x.to o l e));
              going = λ r. cc;
            })

    -- a place that is opened
    module _ (e : turn_at s h w ≡ Opened) where
      inner : (is_alias h (width_of h) at ≡ false) × (at.value < h.nodes) × (at.len < width_of h)
      inner = by at_turned e
        where
          by : {t : Turn} → Turned s h at t → t ≡ Opened → (is_alias h (width_of h) at ≡ false) × (at.value < h.nodes) × (at.len < width_of h)
          by (alias i) q = absurd (cc)
          by (node i v l) q = (i, v, l)
          by (deep v l i) q = absurd (cc)
          by (bad x i) q = absurd (cc)
          by (network n a v i x) q = absurd (cc)

      abbrev right : Place
      right = child_of s h.size w.width at 1

      abbrev left : Place
      left = child_of s h.size w.width at 0

      short : at.len < w.width
      short = omega (arith, g.width, inner.2)

      below_full : w.count < 129
      below_full = let n = newest_good 0 w g.fine live in omega (arith, n.low, short, wide_in g.fine.wide)

      room_right : (taken w).count < length (taken w).places
      room_right = simp length-set (omega (arith, g.fine.size, below_full))

      room_left_lem : (added (taken w) right).count < length (added (taken w) right).places
      room_left_lem = simp length-set (omega (arith, g.fine.size, below_full))

      child_visited : (bit : ℕ) → bit < 2 → Visited s h (child_of s h.size w.width at bit)
      child_visited bit b = rw g.width (leads_on s h bit b inner.0 inner.1 inner.2 at_visited)

      own_opened : Own (after s h w Opened)
      own_opened =
          record {
            fine = sound_opened s h w g.fine live short;
            options = g.options;
            width = g.width;
            visited =
                each_added (λ i p. Visited s h p) (added (taken w) right) left room_left_lem
                (each_added (λ i p. Visited s h p) (taken w) right room_right own_taken.visited (child_visited 1 (omega arith)))
                (child_visited 0 (omega arith));
          }

      opened_back : (offsets : Set) → AllClear s h offsets (after s h w Opened) → AllClear s h offsets w
      opened_back offsets c =
          let l : Clear s h offsets left = added_newest (Clear s h offsets) (added (taken w) right) left room_left_lem c in
          let c' : AllClear s h offsets (added (taken w) right) = added_rest (Clear s h offsets) (added (taken w) right) left c in
          let r : Clear s h offsets right = added_newest (Clear s h offsets) (taken w) right room_right c' in
          taken_back (Clear s h offsets) w
          (clear_node s h offsets at inner.1 inner.2 (rw g.width at l) (rw g.width at r))
          (added_rest (Clear s h offsets) (taken w) right c')

  -- one call
  record Call (w : Walk) (c : Called) : Type 0 where
    own : Own c.walk
    sort : Sort c.answer
    back : (offsets : Set) → NoFailure c.answer → GivenIn offsets c.answer → AllClear s h offsets c.walk → AllClear s h offsets w
    ended : c.answer ≡ End → c.walk.count ≡ 0

  goes_call : (n t : ℕ) (w : Walk) → Own w → Call w (goes s h n t w)
  goes_call =
      by_goes s h (λ n t w c. Own w → Call w c)
      (record {
        end = λ n t w z g. record { own = g; sort = end; back = λ offsets k j c. c; ended = λ e. z };
        out = λ n t w l f g. absurd (false≢true (sym (in_shape_lem h.nodes w g.fine l) ∙ f));
        paused = λ t w r g. record {
          own = g;
          sort = paused;
          back = λ offsets k j c. c;
          ended = λ e. absurd (cc);
        };
        handed = λ n t w a r e g.
            let o = handed_out_lem w g r.0 a e in
            record {
              own = own_taken w g r.0;
              sort = o.sort;
              back = λ offsets k j c. taken_back (Clear s h offsets) w (o.back offsets k j) c;
              ended = λ q. absurd (o.going q);
            };
        passed = λ n t w c r e q g.
            let k = q (own_taken w g r.0) in
            record {
              own = k.own;
              sort = k.sort;
              back = λ offsets f j a. taken_back (Clear s h offsets) w (passed_clear w g r.0 offsets e) (k.back offsets f j a);
              ended = k.ended;
            };
        opened = λ n t w c r e q g.
            let k = q (own_opened w g r.0 e) in
            record {
              own = k.own;
              sort = k.sort;
              back = λ offsets f j a. opened_back w g r.0 e offsets (k.back offsets f j a);
              ended = k.ended;
            };
      })

  module _ (fits : fits_of h (length s) ≡ true) where
    next_call : (w : Walk) (b : ℕ) → Own w → Call w (next_of s h w b)
    unfolding next_of
    next_call w b g = simp fits (goes_call b 0 w g)

    -- the walk begins at the root, and is never refused
    pub started4 : h.version ≡ 4 → begin_of s h (Ipv4 0 0) options ≡ record { status = Ok tt; walk = walk_from none 32 options }
    unfolding begin_of first_of down
    started4 v = simp (fits, v, ((fit h (length s) fits).only4 v).0)

    started6 : h.version ≡ 6 → begin_of s h (Ipv6 (record { high = 0; low = 0 }) 0) options ≡ record { status = Ok tt; walk = walk_from none 128 options }
    unfolding begin_of first_of down
    started6 v = simp (fits, v)

    -- THE WALK OF VERIFICATION BEGINS
    pub started : begin_of s h (whole_range h) options ≡ record { status = Ok tt; walk = walk_from none (width_of h) options }
    started =
        ⊎_elim
        (λ v. let e : eqb h.version 4 ≡ true = rw v in let f : eqb h.version 6 ≡ false = rw v in rw (e, f) (started4 v))
        (λ v. let e : eqb h.version 4 ≡ false = rw v in let f : eqb h.version 6 ≡ true = rw v in rw (e, f) (started6 v))
        (fit h (length s) fits).versioned

    start : verify_walk s h ≡ walk_from none (width_of h) options
    start = ap (λ (x : Started). x.walk) started

    addressed : Addressed (whole_range h)
    addressed = by (eqb h.version 4)
      where
        by : (v : Bool) → Addressed (cond v (Ipv4 0 0) (Ipv6 (record { high = 0; low = 0 }) 0))
        by true = omega arith
        by false = tt

    own_start : Own (verify_walk s h)
    own_start =
        record {
          fine = sound s h (begun (whole_range h) options addressed);
          options = rw start;
          width = rw start;
          visited = rw start (λ i l. let e : i ≡ 0 = omega arith in rw e here);
        }

    -- ONE LIST OF OUTCOMES, HOWEVER THE WALK IS CUT
    pub uncut : {l m : List Outcome} → Walked s h (verify_walk s h) l → Walked s h (verify_walk s h) m → l ≡ m
    uncut p q =
        let begun : (begin_of s h (whole_range h) options).status ≡ Ok tt = ap (λ (x : Started). x.status) started in
        all_given s h fits (whole_range h) options addressed begun p ∙ sym (all_given s h fits (whole_range h) options addressed begun q)

    -- a walk that came to its end: its networks, and how their offsets and the places that it visits go together
    pub record Finished (more : ℕ) (w : Walk) (l : List Network) : Type 0 where
      pub walked : Walked s h w (map Given l)
      pub few : length l ≤ more
      pub clear : AllClear s h (contains (offsets_in l)) w
      pub known : (o : ℕ) → contains (offsets_in l) o ≡ true → OffsetOf s h o

    -- how a walk ends that may hand out so many networks
    pub data Ends (more : ℕ) (w : Walk) : Tour → Type 0 where
      all : (l : List Network) → Finished more w l → Ends more w (record { offsets = offsets_in l; ended = Ok tt })
      refused : (number : Refusal) → Walking number → (offsets : List ℕ) → Ends more w (record { offsets = offsets; ended = Err number })

    module _ (b : ℕ) (w : Walk) (g : Own w) where
      abbrev c : Called
      c = next_of s h w b

      k : Call w c
      k = next_call w b g

      none_clear : (offsets : Set) (v : Walk) → v.count ≡ 0 → AllClear s h offsets v
      none_clear offsets v z i l = absurd (omega arith)

      at_end : (more : ℕ) (rest : Tour) → c.answer ≡ End → Ends more w (on_reply (reply_of c.answer) rest)
      unfolding offsets_in contains
      at_end more rest e =
          rw e (all [] (record {
            walked = ends b e;
            few = omega arith;
            clear =
                k.back (contains []) (λ j f. cc) (λ n f. absurd (cc))
                (none_clear (contains []) c.walk (k.ended e));
            known = λ o f. absurd (false≢true f);
          }))

      module _ (more : ℕ) (n : Network) (from : (o : ℕ) → n.offset ≡ Some o → OffsetOf s h o) (e : c.answer ≡ Given n) where
        finished : (l : List Network) → Finished more c.walk l → Finished (suc more) w (n ∷ l)
        unfolding offsets_in
        finished l q =
            record {
              walked = subst (λ (a : Outcome). Walked s h w (handed_out a ++ map Given l)) e (goes_on b q.walked);
              few = let f = q.few in omega arith;
              clear =
                  k.back (contains (offsets_in (n ∷ l))) (λ j f. cc)
                  (λ m f o x. let y : n ≡ m = cc in own_offset n.offset (offsets_in l) o (ap (λ (j : Network). j.offset) y ∙ x))
                  (clear_more s h (contains (offsets_in l)) (contains (offsets_in (n ∷ l))) (more_offsets n.offset (offsets_in l)) c.walk q.clear);
              known = λ o f. ⊎_elim (from o) (q.known o) (which_offset n.offset (offsets_in l) o f);
            }

        at_network : (rest : Tour) → Ends more c.walk rest → Ends (suc more) w (on_reply (reply_of c.answer) rest)
        unfolding offsets_in
        at_network rest r = rw e (by r)
          where
            by : {t : Tour} → Ends more c.walk t → Ends (suc more) w (on_reply (reply_of (Given n)) t)
            by (all l q) = all (n ∷ l) (finished l q)
            by (refused number x offsets) = refused number x _

      by_sort : (more : ℕ) (rest : Tour) (a : Outcome) → c.answer ≡ a → Sort a
          → ((n : Network) → ((o : ℕ) → n.offset ≡ Some o → OffsetOf s h o) → c.answer ≡ Given n → Ends more w (on_reply (reply_of c.answer) rest))
          → Ends more w (on_reply (reply_of c.answer) rest)
      by_sort more rest (Given n) e (given _ from) on = on n from e
      by_sort more rest (Failed j) e faulty on = rw e (refused refusal.Record met_bad_record [])
      by_sort more rest (Failed j) e too_deep on = rw e (refused refusal.TooDeep met_too_deep [])
      by_sort more rest Paused e paused on = rw e (refused refusal.Budget budget_spent [])
      by_sort more rest End e end on = at_end more rest e
      by_sort more rest (Refused _) e x on = elim x [ ]

    tours : (more b : ℕ) (w : Walk) → Own w → Ends more w (toured s h more b w)
    unfolding toured
    tours zero b w g =
        by_sort b w g zero too_many_tour (next_of s h w b).answer refl (k b w g).sort (λ n from e. rw e (refused refusal.TooManyNetworks too_many _))
    tours (suc more) b w g =
        by_sort b w g (suc more) _ (next_of s h w b).answer refl (k b w g).sort
        (λ n from e. at_network b w g more n from e _ (tours more (b - (next_of s h w b).taken) (next_of s h w b).walk (k b w g).own))

    -- HOW THE WALK ENDS: with all its networks, no path faulty, or with 11, 12, 19 or 21
    pub tour_ends : (budget : ℕ) → Ends (3 * h.nodes) (verify_walk s h) (tour_of s h budget)
    unfolding tour_of
    tour_ends budget = tours (3 * h.nodes) budget (verify_walk s h) own_start

    -- 11, 12, 19 or 21: never 9, 13 or 14
    pub tour_refusals : (budget : ℕ) {number : Refusal} → (tour_of s h budget).ended ≡ Err number → Walking number
    tour_refusals budget {number} e = by (tour_ends budget) e
      where
        by : {t : Tour} → Ends (3 * h.nodes) (verify_walk s h) t → t.ended ≡ Err number → Walking number
        by (all l w) f = absurd (cc)
        by (refused k w offsets) f = let g : k ≡ number = cc in subst Walking g w

    -- where all waiting places are clear, so is every place that is visited
    pub visits : (offsets : Set) → AllClear s h offsets (verify_walk s h) → (p : Place) → Visited s h p → is_alias h (width_of h) p ≡ false → Fine s h offsets p
    visits offsets c p v n = root (rw start at c) p v n
      where
        root : AllClear s h offsets (walk_from none (width_of h) options) → Clear s h offsets none
        root d = d 0 (omega arith)
