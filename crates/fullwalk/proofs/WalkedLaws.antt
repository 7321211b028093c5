-- A walk begun here and carried on to its end, by any calls, hands out what the ways from its first place end in, by its options.
use Prim.Native.Nat.{ℕ, ◌<◌}
use mathlib.Core.Path.{◌≡◌, refl, ap, sym, ◌∙◌}
use mathlib.Core.Bool.{Bool, true, false, cond, false≢true}
use mathlib.Core.List.{List, [], ◌∷◌, ◌++◌, append_assoc, append-nil}
use native.Mathlib.Omega.{arith}
use lib.ListN.{length, length-set}
use lib.Dec.{leb}
use Rattle.std.specs.Prelude.{Ok}
use Rattle.refusal.specs.declared.Refusal.TheVariants as refusal
use Rattle.handle.specs.declared.Handle.{Handle}
use Rattle.handle.specs.Handle.{fits_of}
use Rattle.place.specs.Turns.{child_of}
use Rattle.place.specs.declared.Place.{Place}
use Rattle.place.specs.declared.Options.{Options}
use Rattle.place.specs.declared.Outcome.{Outcome}
use Rattle.place.specs.declared.Outcome.TheVariants.{End}
use Rattle.place.specs.declared.Turn.TheVariants.{Passed, Out, Opened}
use Rattle.place.proofs.TurnLaws.{Handed, network, failure, handed_only, opened, out_handed}
use Rattle.walk.specs.declared.Range.{Range}
use Rattle.walk.specs.declared.Walk.{Walk}
use Rattle.walk.specs.declared.Started.{Started}
use Rattle.walk.specs.declared.Called.{Called}
use Rattle.walk.specs.Walks.{walk_from, newest, taken, added}
use Rattle.walk.specs.Starts.{asked_of, is_ipv6_in_ipv4, first_of, refused_start, begun_with, begin_of}
use Rattle.walk.specs.Calls.{data_section, turn_at, after, goes, next_of}
use Rattle.walk.proofs.StartLaws.{wide_in}
use Rattle.walk.proofs.CallLaws.{by_goes}
use Rattle.carried.specs.Carried.{Addressed, begun}
use Rattle.carried.proofs.InShape.{Sound, newest_good, in_shape_lem, sound_taken, sound_opened, sound}
use Rattle.fullwalk.specs.FullWalk.{handed_out, Walked, ends, goes_on}
use Rattle.fullwalk.specs.Ends.{ends_from, given_of}
use Rattle.fullwalk.proofs.Waiting.{below, awaited, below_added, below_taken, below_none}
use Rattle.fullwalk.proofs.EndLaws.{hands, Told, told}

handed_list : {a : Outcome} → Handed a → handed_out a ≡ a ∷ []
handed_list (network n) = refl
handed_list (failure k) = refl

module _ (s : List ℕ) (h : Handle) where
  abbrev data_of : List ℕ
  data_of = data_section s h

  -- what a place of a walk comes to
  abbrev comes : Walk → Place → List Outcome
  comes w = hands s h w.width data_of w.options

  abbrev waits : Walk → List Outcome
  waits w = awaited (comes w) w

  module _ (w : Walk) (g : Sound w) (live : w.count ≡ 0 → ⊥) where
    abbrev at : Place
    at = newest w

    told_here : Told s h w.width data_of w.options at (turn_at s h w)
    told_here = told s h w.width data_of w.options at

    newest_first : waits w ≡ comes w at ++ waits (taken w)
    newest_first = below_taken (comes w) w (omega arith)

    -- a place that is passed over
    passed_taken : turn_at s h w ≡ Passed → waits w ≡ waits (taken w)
    passed_taken e =
        let t : comes w at ≡ [] = rw e at told_here in
        newest_first ∙ ap (λ (l : List Outcome). l ++ waits (taken w)) t

    -- a place that is handed out
    out_taken : (a : Outcome) → turn_at s h w ≡ Out a → waits w ≡ a ∷ waits (taken w)
    out_taken a e =
        let t : comes w at ≡ a ∷ [] = rw e at told_here in
        newest_first ∙ ap (λ (l : List Outcome). l ++ waits (taken w)) t

    -- a place that is opened
    module _ (e : turn_at s h w ≡ Opened) where
      abbrev right : Place
      right = child_of s h.size w.width at 1

      abbrev left : Place
      left = child_of s h.size w.width at 0

      inner : (at.value < h.nodes) × (at.len < w.width)
      inner = opened data_of h w.options w.width at e

      below_full : w.count < 129
      below_full = let n = newest_good 0 w g live in omega (arith, n.low, inner.1, wide_in g.wide)

      room_right : (taken w).count < length (taken w).places
      room_right = simp length-set (omega (arith, g.size, below_full))

      room_left_lem : (added (taken w) right).count < length (added (taken w) right).places
      room_left_lem = simp length-set (omega (arith, g.size, below_full))

      waits_opened : waits w ≡ waits (after s h w Opened)
      waits_opened =
          let t : comes w at ≡ comes w left ++ comes w right = rw e at told_here in
          newest_first
          ∙ ap (λ (l : List Outcome). l ++ waits (taken w)) t
          ∙ append_assoc (comes w left) (comes w right) (waits (taken w))
          ∙ ap (λ (l : List Outcome). comes w left ++ l) (sym (below_added (comes w) (taken w) right room_right))
          ∙ sym (below_added (comes w) (added (taken w) right) left room_left_lem)

  -- a call hands out the first of what the waiting places come to
  record Kept (w : Walk) (c : Called) : Type 0 where
    fine : Sound c.walk
    all : waits w ≡ handed_out c.answer ++ waits c.walk
    ended : c.answer ≡ End → waits c.walk ≡ []

  kept : (n t : ℕ) (w : Walk) → Sound w → Kept w (goes s h n t w)
  kept =
      by_goes s h (λ n t w c. Sound w → Kept w c)
      (record {
        end = λ n t w z g. record { fine = g; all = refl; ended = λ e. below_none (comes w) w z };
        out = λ n t w l f g. absurd (false≢true (sym (in_shape_lem h.nodes w g l) ∙ f));
        paused = λ t w r g. record { fine = g; all = refl; ended = λ e. absurd (cc) };
        handed = λ n t w a r e g.
            let d = out_handed data_of h w.options w.width (newest w) a e in
            record {
              fine = sound_taken w g;
              all = out_taken w g r.0 a e ∙ ap (λ (l : List Outcome). l ++ waits (taken w)) (sym (handed_list d));
              ended = λ q. absurd ((handed_only d).2 q);
            };
        passed = λ n t w c r e q g.
            let k = q (sound_taken w g) in
            record { fine = k.fine; all = passed_taken w g r.0 e ∙ k.all; ended = k.ended };
        opened = λ n t w c r e q g.
            let k = q (sound_opened s h w g r.0 (inner w g r.0 e).1) in
            record { fine = k.fine; all = waits_opened w g r.0 e ∙ k.all; ended = k.ended };
      })

  module _ (fits : fits_of h (length s) ≡ true) where
    next_goes : (w : Walk) (b : ℕ) → next_of s h w b ≡ goes s h b 0 w
    unfolding next_of
    next_goes w b = simp fits

    kept_next : (w : Walk) (b : ℕ) → Sound w → Kept w (next_of s h w b)
    kept_next w b g = rw (next_goes w b) (kept b 0 w g)

    -- carried on to its end, with any budgets, it hands out all of it
    walked : {w : Walk} {l : List Outcome} → Walked s h w l → Sound w → l ≡ waits w
    walked (ends {w = w} b e) g =
        let k = kept_next w b g in
        sym (k.all ∙ rw (e, k.ended e))
    walked (goes_on {w = w} {l = l} b r) g =
        let k = kept_next w b g in
        ap (λ (m : List Outcome). handed_out (next_of s h w b).answer ++ m) (walked r k.fine) ∙ sym k.all

    -- of one waiting place
    waits_one : (p : Place) (width : ℕ) (o : Options) → waits (walk_from p width o) ≡ given_of data_of h width o (ends_from s h width p)
    unfolding below
    waits_one p width o = append-nil (given_of data_of h width o (ends_from s h width p))

    pub given_from :
        (p : Place) (width : ℕ) (o : Options) {w : Walk} → w ≡ walk_from p width o → Sound w → {l : List Outcome} → Walked s h w l
        → l ≡ given_of data_of h width o (ends_from s h width p)
    given_from p width o e g k = walked k g ∙ ap waits e ∙ waits_one p width o

    module _ (r : Range) (o : Options) where
      begun_at : (begin_of s h r o).status ≡ Ok tt → (begin_of s h r o).walk ≡ (begun_with (first_of s h (asked_of r)) o).walk
      unfolding begin_of
      begun_at = pick (fits_of h (length s)) (leb (asked_of r).len (asked_of r).width) (is_ipv6_in_ipv4 h (asked_of r).width)
        where
          first : Started
          first = begun_with (first_of s h (asked_of r)) o

          all : Bool → Bool → Bool → Started
          all x y z = cond x (cond y (cond z (refused_start refusal.Ipv6InIpv4) first) (refused_start refusal.PrefixLength)) (refused_start refusal.Handle)

          pick : (x y z : Bool) → (all x y z).status ≡ Ok tt → (all x y z).walk ≡ first.walk
          pick true true true e = cc
          pick true true false e = refl
          pick true false z e = cc
          pick false y z e = cc

      -- whatever the range, the options and the budgets
      pub all_given :
          Addressed r → (begin_of s h r o).status ≡ Ok tt → {l : List Outcome} → Walked s h (begin_of s h r o).walk l
          → l ≡ (let f = first_of s h (asked_of r) in given_of data_of h f.width o (ends_from s h f.width f.place))
      all_given a b w =
          let f = first_of s h (asked_of r) in
          given_from f.place f.width o (begun_at b) (sound s h (begun r o a)) w
