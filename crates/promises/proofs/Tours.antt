-- The walk of verification ends whole, or in 11, 12, 19 or 21.
use Prim.Native.Nat.{ℕ, zero, suc, ◌-◌, ◌*◌, ◌≤◌}
use mathlib.Core.Path.{◌≡◌, refl, sym, ◌∙◌}
use mathlib.Core.Bool.{Bool, true, false, cond, false≢true}
use mathlib.Core.Logic.{inl, inr}
use mathlib.Core.List.{List, drop}
use native.Mathlib.Omega.{arith}
use lib.ListN.{length}
use lib.Dec.{eqb, leb}
use Rattle.std.specs.Prelude.{Ok, Err}
use Rattle.refusal.specs.Refusals.{number_of}
use Rattle.refusal.specs.declared.Refusal.{Refusal}
use Rattle.refusal.specs.declared.Refusal.TheVariants as refusal
use Rattle.handle.specs.Handle.{fits_of}
use Rattle.handle.specs.declared.Handle.{Handle}
use Rattle.handle.proofs.HandleLaws.{Fit, fits_of_lem}
use Rattle.place.specs.declared.Network.{Network}
use Rattle.place.specs.declared.Outcome.{Outcome}
use Rattle.place.specs.declared.Outcome.TheVariants as outcome
use Rattle.place.proofs.TurnLaws.{Handed, network, failure, out_handed, opened}
use Rattle.walk.specs.declared.Range.{Range}
use Rattle.walk.specs.declared.Range.TheVariants.{Ipv4, Ipv6}
use Rattle.walk.specs.declared.Walk.{Walk}
use Rattle.walk.specs.Walks.{newest}
use Rattle.walk.specs.Starts.{asked_of, is_ipv6_in_ipv4, first_of, refused_start, begun_with, whole_range, begin_of}
use Rattle.walk.specs.Calls.{data_section, goes, next_of}
use Rattle.walk.proofs.CallLaws.{by_goes}
use Rattle.carried.specs.Carried.{Addressed, begun}
use Rattle.carried.proofs.InShape as carried
use Rattle.carried.proofs.InShape.{Sound, newest_good, sound_taken, sound_opened, sound}
use Rattle.recording.specs.Recording as reply
use Rattle.recording.specs.Recording.{Recorded, options, on_reply, reply_of, Tour, too_many_tour, toured, tour_of}
use Rattle.maxminddb.specs.Answers.{next_verdict}
use Rattle.order.specs.Order.{Refuses, First}
use Rattle.order.proofs.OrderLaws.{refuses_not}
use Rattle.promises.specs.Walks.{call_table}
use Rattle.promises.specs.Verifying.{Networks, Then, Many}
use Rattle.promises.proofs.Numbers.{one_number}
use Rattle.promises.proofs.Shapes.{handed_first}

-- how a walk may end, with so many more networks allowed and so much of the budget left
pub data Ended (s : List ℕ) (h : Handle) (more b : ℕ) (w : Walk) : Recorded → Type 0 where
  whole : Ended s h more b w (Ok tt)
  met_bad_record : Then s h more b w (outcome.Failed refusal.Record) → Ended s h more b w (Err refusal.Record)
  met_too_deep : Then s h more b w (outcome.Failed refusal.TooDeep) → Ended s h more b w (Err refusal.TooDeep)
  too_many : Many s h (suc more) b w → Ended s h more b w (Err refusal.TooManyNetworks)
  spent : Then s h more b w outcome.Paused → Ended s h more b w (Err refusal.Budget)

-- what a call of it may answer
data Plain : Outcome → Type 0 where
  given : (n : Network) → Plain (outcome.Given n)
  record_failed : Plain (outcome.Failed refusal.Record)
  depth_failed : Plain (outcome.Failed refusal.TooDeep)
  paused : Plain outcome.Paused
  end : Plain outcome.End

module _ (s : List ℕ) (h : Handle) where
  -- in shape, with empty values kept
  abbrev Kept : Walk → Type 0
  Kept w = Sound w × (w.options.skipempty ≡ false)

  -- a place hands out a network, 11 or 12: 14 comes only where empty values are skipped
  plain_failed : (w : Walk) (k : Refusal) → w.options.skipempty ≡ false → First (drop 4 (call_table s h 0 w)) (Refuses (number_of k)) → Plain (outcome.Failed k)
  plain_failed w k e (inl p) = let f = p.1 in let q : k ≡ refusal.TooDeep = one_number k refusal.TooDeep cc in rw q depth_failed
  plain_failed w k e (inr (_, inl p)) = let f = p.1 in let q : k ≡ refusal.Record = one_number k refusal.Record cc in rw q record_failed
  plain_failed w k e (inr (_, inr (_, inl p))) = absurd (false≢true (sym e ∙ p.0.skipping))
  plain_failed w k e (inr (_, inr (_, inr p))) = absurd (refuses_not p.1)

  plain_handed : (w : Walk) → w.options.skipempty ≡ false → {a : Outcome} → Handed a → First (drop 4 (call_table s h 0 w)) (next_verdict a) → Plain a
  plain_handed w e (network n) f = given n
  plain_handed w e (failure k) f = plain_failed w k e f

  kept : (n t : ℕ) (w : Walk) → Kept w → Kept (goes s h n t w).walk × Plain (goes s h n t w).answer
  kept =
      by_goes s h (λ n t w c. Kept w → Kept c.walk × Plain c.answer)
      (record {
        end = λ n t w z k. (k, end);
        out = λ n t w l f k. absurd (false≢true (sym (carried.in_shape_lem h.nodes w k.0 l) ∙ f));
        paused = λ t w r k. (k, paused);
        handed = λ n t w a r e k. (
          (sound_taken w k.0, k.1),
          plain_handed w k.1 (out_handed (data_section s h) h w.options w.width (newest w) a e) (handed_first s h w (newest_good 0 w k.0 r.0).long a e),
        );
        passed = λ n t w c r e q k. q (sound_taken w k.0, k.1);
        opened = λ n t w c r e q k. q (sound_opened s h w k.0 r.0 (opened (data_section s h) h w.options w.width (newest w) e).1, k.1);
      })

  module _ (f : Fit h (length s)) where
    kept_next : (w : Walk) (b : ℕ) → Kept w → Kept (next_of s h w b).walk × Plain (next_of s h w b).answer
    unfolding next_of
    kept_next w b k = rw (fits_of_lem h (length s) f) (kept b 0 w k)

    -- a network first
    module _ (more b : ℕ) (w : Walk) (g : (n : Network) × ((next_of s h w b).answer ≡ outcome.Given n)) where
      abbrev b' : ℕ
      b' = b - (next_of s h w b).taken

      abbrev w' : Walk
      w' = (next_of s h w b).walk

      then_later : {a : Outcome} → Then s h more b' w' a → Then s h (suc more) b w a
      then_later t =
          record {
            networks = suc t.networks;
            few = omega (arith, t.few);
            left = t.left;
            at = t.at;
            handed = (g, t.handed);
            answers = t.answers;
          }

      later : {x : Recorded} → Ended s h more b' w' x → Ended s h (suc more) b w x
      later whole = whole
      later (met_bad_record t) = met_bad_record (then_later t)
      later (met_too_deep t) = met_too_deep (then_later t)
      later (too_many t) = too_many (record { left = t.left; at = t.at; handed = (g, t.handed) })
      later (spent t) = spent (then_later t)

    -- at once
    now : (more b : ℕ) (w : Walk) {a : Outcome} → (next_of s h w b).answer ≡ a → Then s h more b w a
    now more b w e = record { networks = 0; few = omega arith; left = b; at = w; handed = (refl, refl); answers = e }

    reply_ended :
        (more b : ℕ) (w : Walk) {a : Outcome} → Plain a → (next_of s h w b).answer ≡ a → (rest : Tour)
        → ((n : Network) → (next_of s h w b).answer ≡ outcome.Given n → Ended s h more b w rest.ended) → Ended s h more b w (on_reply (reply_of a) rest).ended
    reply_ended more b w (given n) e rest f = f n e
    reply_ended more b w record_failed e rest f = met_bad_record (now more b w e)
    reply_ended more b w depth_failed e rest f = met_too_deep (now more b w e)
    reply_ended more b w paused e rest f = spent (now more b w e)
    reply_ended more b w end e rest f = whole

    toured_ended : (more b : ℕ) (w : Walk) → Kept w → Ended s h more b w (toured s h more b w).ended
    unfolding toured
    toured_ended zero b w k =
        reply_ended 0 b w (kept_next w b k).1 refl too_many_tour
        (λ n e. too_many (record { left = b - (next_of s h w b).taken; at = (next_of s h w b).walk; handed = ((n, e), (refl, refl)) }))
    toured_ended (suc more) b w k =
        let m = kept_next w b k in
        let r = toured_ended more (b - (next_of s h w b).taken) (next_of s h w b).walk m.0 in
        reply_ended (suc more) b w m.1 refl (toured s h more (b - (next_of s h w b).taken) (next_of s h w b).walk) (λ n e. later more b w (n, e) r)

    addressed : Addressed (whole_range h)
    addressed = by (eqb h.version 4)
      where
        by : (t : Bool) → Addressed (cond t (Ipv4 0 0) (Ipv6 (record { high = 0; low = 0 }) 0))
        by true = omega arith
        by false = tt

    begun_keeps : (r : Range) → (begin_of s h r options).walk.options.skipempty ≡ false
    unfolding begin_of
    begun_keeps r = by (fits_of h (length s)) (leb (asked_of r).len (asked_of r).width) (is_ipv6_in_ipv4 h (asked_of r).width)
      where
        by :
            (a b c : Bool)
            → (cond a (cond b (cond c (refused_start refusal.Ipv6InIpv4) (begun_with (first_of s h (asked_of r)) options)) (refused_start refusal.PrefixLength)) (refused_start refusal.Handle)).walk.options.skipempty ≡ false
        by true true true = refl
        by true true false = refl
        by true false c = refl
        by false b c = refl

    pub tour_ended : (budget : ℕ) → Ended s h (3 * h.nodes) budget (begin_of s h (whole_range h) options).walk (tour_of s h budget).ended
    unfolding tour_of
    tour_ended budget = toured_ended (3 * h.nodes) budget _ (sound s h (begun (whole_range h) options addressed), begun_keeps (whole_range h))

  -- and the other way: what the calls answer is how the walk ends
  past :
      (k more b : ℕ) (w : Walk) (c : ℕ) (v : Walk) → Networks s h k b w c v → k ≤ more
      → (toured s h more b w).ended ≡ (toured s h (more - k) c v).ended
  unfolding toured
  past zero more b w c v n l =
      let e : more - 0 ≡ more = omega arith in
      rw (e, n.0, n.1)
  past (suc k) zero b w c v n l = absurd (omega arith)
  past (suc k) (suc more) b w c v n l =
      let e : suc more - suc k ≡ more - k = omega arith in
      rw (n.0.1, e) (past k more (b - (next_of s h w b).taken) (next_of s h w b).walk c v n.1 (omega arith))

  ends_here : (more b : ℕ) (w : Walk) (a : Outcome) (x : Recorded) → (next_of s h w b).answer ≡ a → reply_of a ≡ reply.Ended x → (toured s h more b w).ended ≡ x
  unfolding toured
  ends_here zero b w a x e f = simp (e, f)
  ends_here (suc more) b w a x e f = simp (e, f)

  pub then_ends : (more b : ℕ) (w : Walk) (a : Outcome) (x : Recorded) → reply_of a ≡ reply.Ended x → Then s h more b w a → (toured s h more b w).ended ≡ x
  then_ends more b w a x f t =
      past t.networks more b w t.left t.at t.handed t.few ∙ ends_here (more - t.networks) t.left t.at a x t.answers f

  many_handed : (more b : ℕ) (w : Walk) (c : ℕ) (v : Walk) → Networks s h (suc more) b w c v → (toured s h more b w).ended ≡ Err refusal.TooManyNetworks
  unfolding toured
  many_handed zero b w c v n = simp n.0.1
  many_handed (suc more) b w c v n = rw n.0.1 (many_handed more (b - (next_of s h w b).taken) (next_of s h w b).walk c v n.1)

  pub many_ends : (more b : ℕ) (w : Walk) → Many s h (suc more) b w → (toured s h more b w).ended ≡ Err refusal.TooManyNetworks
  many_ends more b w t = many_handed more b w t.left t.at t.handed
