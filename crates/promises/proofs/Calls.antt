-- A walk's call: where it ends, and what it answers there.
use Prim.Native.Nat.{ℕ, zero, suc, ◌+◌, ◌≤◌}
use mathlib.Core.Path.{◌≡◌, refl, sym, ap, subst, ◌∙◌}
use mathlib.Core.Bool.{Bool, true, false, cond, false≢true}
use mathlib.Core.Logic.{◌⊎◌, inl, inr, ⊎_elim}
use mathlib.Core.List.{List}
use native.Mathlib.Omega.{arith}
use lib.ListN.{length}
use Rattle.refusal.specs.declared.Refusal.TheVariants as refusal
use Rattle.handle.specs.Handle.{fits_of}
use Rattle.handle.specs.declared.Handle.{Handle}
use Rattle.handle.proofs.HandleLaws.{Fit, fit, fits_of_lem}
use Rattle.tiles.proofs.TileLaws.{side}
use Rattle.place.specs.declared.Network.{Network}
use Rattle.place.specs.declared.Outcome.{Outcome}
use Rattle.place.specs.declared.Outcome.TheVariants as outcome
use Rattle.place.specs.declared.Turn.TheVariants.{Out}
use Rattle.place.proofs.TurnLaws.{Handed, network, failure, out_handed}
use Rattle.walk.specs.declared.Walk.{Walk}
use Rattle.walk.specs.declared.Called.{Called}
use Rattle.walk.specs.Walks.{newest, taken}
use Rattle.walk.specs.Calls.{data_section, out_of_shape, turn_at, stepped, called, goes, next_of}
use Rattle.walk.proofs.CallLaws.{by_goes}
use Rattle.maxminddb.specs.Answers.{next_verdict}
use Rattle.order.specs.Order.{First}
use Rattle.order.proofs.OrderLaws.{exactly}
use Rattle.promises.specs.Walks.{OutOfShape, too_long, Takes, Silent, Leads, call_table, Afterwards, Stop, Call}
use Rattle.promises.proofs.Shapes.{shape_out, in_shape_lem, handed_first}

module _ (s : List ℕ) (h : Handle) where
  -- a call with n places left and t taken
  record Goes (n t : ℕ) (w : Walk) (c : Called) : Type 0 where
    before : ℕ
    left : ℕ
    at : Walk
    stop : Stop s h w n before left at
    first : First (call_table s h left at) (next_verdict c.answer)
    given : (k : Network) → c.answer ≡ outcome.Given k → turn_at s h at ≡ Out (outcome.Given k)
    afterwards : Afterwards c.answer (t + before) at c.taken c.walk

  after_handed : {a : Outcome} (t : ℕ) (w : Walk) → Handed a → Afterwards a (t + 0) w (t + 1) (taken w)
  after_handed t w (network k) = (omega arith, refl)
  after_handed t w (failure k) = (omega arith, refl)

  -- a call that ends where it stands
  here : (n t : ℕ) (w : Walk) (c : Called) → (Takes s h w → (n ≡ 0) ⊎ (Silent (turn_at s h w) → ⊥)) → First (call_table s h n w) (next_verdict c.answer)
      → ((k : Network) → c.answer ≡ outcome.Given k → turn_at s h w ≡ Out (outcome.Given k))
      → Afterwards c.answer (t + 0) w c.taken c.walk → Goes n t w c
  here n t w c stops first given after =
      record {
        before = 0;
        left = n;
        at = w;
        stop = record { leads = refl; budget = omega arith; stops = stops };
        first = first;
        given = given;
        afterwards = after;
      }

  -- and one that has taken a place before
  more : (n t : ℕ) (w v : Walk) (c : Called) → Takes s h w → Silent (turn_at s h w) → stepped s h w ≡ v → Goes n (t + 1) v c → Goes (suc n) t w c
  more n t w v c k q e g =
      let d : t + 1 + g.before ≡ t + suc g.before = omega arith in
      record {
        before = suc g.before;
        left = g.left;
        at = g.at;
        stop =
            record {
              leads = (k, (q, subst (λ (x : Walk). Leads s h g.before x g.at) (sym e) g.stop.leads));
              budget = omega (arith, g.stop.budget);
              stops = g.stop.stops;
            };
        first = g.first;
        given = g.given;
        afterwards = subst (λ (m : ℕ). Afterwards c.answer m g.at c.taken c.walk) d g.afterwards;
      }

  module _ (f : Fit h (length s)) where
    ready : (w : Walk) → (w.count ≡ 0 → ⊥) × (out_of_shape h.nodes w ≡ false) → Takes s h w
    ready w r = (f, (r.0, in_shape_lem h.nodes w r.0 r.1))

    -- the newest place is no longer than the width
    long : (w : Walk) → (OutOfShape h.nodes w → ⊥) → (newest w).len ≤ w.width
    long w o = ⊎_elim (λ l. absurd (o (too_long l))) (λ l. l) (side w.width (newest w).len)

    handed :
        (n t : ℕ) (w : Walk) (a : Outcome) → (w.count ≡ 0 → ⊥) × (out_of_shape h.nodes w ≡ false) → turn_at s h w ≡ Out a
        → Goes (suc n) t w (called a (t + 1) (taken w))
    handed n t w a r e =
        let k = ready w r in
        here (suc n) t w (called a (t + 1) (taken w)) (λ x. inr (λ q. rw e at q))
        (inr ((λ x. x f), inr (r.0, inr (k.1.1, inr ((λ z. omega arith), handed_first s h w (long w k.1.1) a e)))))
        (λ m q. e ∙ ap Out q)
        (after_handed t w (out_handed (data_section s h) h w.options w.width (newest w) a e))

    fits_all : (n t : ℕ) (w : Walk) → Goes n t w (goes s h n t w)
    fits_all =
        by_goes s h Goes
        (record {
          end = λ n t w z. here n t w _ (λ k. absurd (k.1.0 z)) (inr ((λ x. x f), inl (z, refl))) (λ k e. cc) (omega arith, refl);
          out = λ n t w l o.
              let p = shape_out h.nodes w o in
              here n t w _ (λ k. absurd (k.1.1 p)) (inr ((λ x. x f), inr (l, inl (p, refl)))) (λ k e. cc) (omega arith, refl);
          paused = λ t w r.
              here 0 t w _ (λ k. inl refl) (inr ((λ x. x f), inr (r.0, inr ((ready w r).1.1, inl (refl, refl))))) (λ k e. cc) (omega arith, refl);
          handed = λ n t w a r e. handed n t w a r e;
          passed = λ n t w c r e q. more n t w (taken w) c (ready w r) (rw e tt) (rw e) q;
          opened = λ n t w c r e q. more n t w _ c (ready w r) (rw e tt) (rw e) q;
        })

  -- A WALK'S CALL
  pub next : (w : Walk) (b : ℕ) → Call s h w b (next_of s h w b)
  unfolding next_of
  next w b = by (fits_of h (length s)) refl
    where
      made : (c : Called) → Goes b 0 w c → Call s h w b c
      made c g =
          let d : 0 + g.before ≡ g.before = omega arith in
          record {
            before = g.before;
            left = g.left;
            at = g.at;
            stop = g.stop;
            verdict = exactly (call_table s h g.left g.at) _ g.first;
            network = g.given;
            afterwards = subst (λ (m : ℕ). Afterwards c.answer m g.at c.taken c.walk) d g.afterwards;
          }

      by : (t : Bool) → fits_of h (length s) ≡ t → Call s h w b (cond t (goes s h b 0 w) (called (outcome.Refused refusal.Handle) 0 w))
      by true e = made (goes s h b 0 w) (fits_all (fit h (length s) e) b 0 w)
      by false e =
          let n : Fit h (length s) → ⊥ = λ f. false≢true (sym e ∙ fits_of_lem h (length s) f) in
          made (called (outcome.Refused refusal.Handle) 0 w)
          (here b 0 w (called (outcome.Refused refusal.Handle) 0 w) (λ k. absurd (n k.0)) (inl (n, refl)) (λ k q. cc) (omega arith, refl))

  -- a call ends in one place
  abbrev Stops : ℕ → Walk → Type 0
  Stops left at = Takes s h at → (left ≡ 0) ⊎ (Silent (turn_at s h at) → ⊥)

  cannot : (w at : Walk) (left k l : ℕ) → w ≡ at → Stops left at → Takes s h w → Silent (turn_at s h w) → left ≡ suc k + l → ⊥
  cannot w at left k l e stops t q d = ⊎_elim (λ z. omega arith) (λ f. f q) (subst (Stops left) (sym e) stops t)

  one_end :
      (j k : ℕ) (w x y : Walk) (l m : ℕ) → Leads s h j w x → Leads s h k w y → Stops l x → Stops m y → j + l ≡ k + m
      → (j ≡ k) × (x ≡ y)
  one_end zero zero w x y l m a b p q e = (refl, sym a ∙ b)
  one_end zero (suc k) w x y l m a b p q e = absurd (cannot w x l k m a p b.0 b.1.0 (omega arith))
  one_end (suc j) zero w x y l m a b p q e = absurd (cannot w y m j l b q a.0 a.1.0 (omega arith))
  one_end (suc j) (suc k) w x y l m a b p q e =
      let r : (j ≡ k) × (x ≡ y) = one_end j k (stepped s h w) x y l m a.1.1 b.1.1 p q (omega arith) in
      (ap suc r.0, r.1)

  pub one_stop :
      {w x y : Walk} {b j k l m : ℕ} → Stop s h w b j l x → Stop s h w b k m y → (j ≡ k) × (l ≡ m) × (x ≡ y)
  one_stop {w} {x} {y} {b} {j} {k} {l} {m} p q =
      let e : j + l ≡ k + m = p.budget ∙ sym q.budget in
      let r : (j ≡ k) × (x ≡ y) = one_end j k w x y l m p.leads q.leads p.stops q.stops e in
      let f : j ≡ k = r.0 in
      (f, omega arith, r.1)
