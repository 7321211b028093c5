-- Paused comes only after the budget's places.
use Prim.Native.Nat.{ℕ, ◌+◌, ◌≤◌}
use mathlib.Core.Path.{◌≡◌}
use mathlib.Core.Bool.{Bool, true, false, cond}
use mathlib.Core.List.{List}
use native.Mathlib.Omega.{arith}
use lib.ListN.{length}
use Rattle.refusal.specs.declared.Refusal.TheVariants as refusal
use Rattle.handle.specs.declared.Handle.{Handle}
use Rattle.handle.specs.Handle.{fits_of}
use Rattle.place.specs.declared.Outcome.TheVariants.{Refused, Paused}
use Rattle.place.proofs.TurnLaws.{handed_only, out_handed}
use Rattle.walk.specs.declared.Walk.{Walk}
use Rattle.walk.specs.declared.Called.{Called}
use Rattle.walk.specs.Walks.{newest}
use Rattle.walk.specs.Calls.{data_section, called, goes, next_of}
use Rattle.walk.proofs.CallLaws.{by_goes}

-- of n places left and t taken: all n are taken before Paused, and never more
abbrev Counted : ℕ → ℕ → Called → Type 0
Counted n t c = (c.taken ≤ t + n) × (c.answer ≡ Paused → c.taken ≡ t + n)

counted : (s : List ℕ) (h : Handle) (n t : ℕ) (w : Walk) → Counted n t (goes s h n t w)
counted s h =
    by_goes s h (λ n t w c. Counted n t c)
    (record {
      end = λ n t w z. (omega arith, λ e. cc);
      out = λ n t w l f. (omega arith, λ e. cc);
      paused = λ t w r. (omega arith, λ e. omega arith);
      handed = λ n t w a r e. (omega arith, λ q. absurd ((handed_only (out_handed (data_section s h) h w.options w.width (newest w) a e)).1 q));
      passed = λ n t w c r e q. (omega (arith, q.0), λ p. omega (arith, q.1 p));
      opened = λ n t w c r e q. (omega (arith, q.0), λ p. omega (arith, q.1 p));
    })

pub paused_after : (s : List ℕ) (h : Handle) (w : Walk) (b : ℕ) → (next_of s h w b).answer ≡ Paused → (next_of s h w b).taken ≡ b
unfolding next_of
paused_after s h w b = pick (fits_of h (length s))
  where
    pick :
        (f : Bool) → (cond f (goes s h b 0 w) (called (Refused refusal.Handle) 0 w)).answer ≡ Paused
        → (cond f (goes s h b 0 w) (called (Refused refusal.Handle) 0 w)).taken ≡ b
    pick true e = omega (arith, (counted s h b 0 w).1 e)
    pick false e = cc

-- a call takes no more than its budget
pub within_budget : (s : List ℕ) (h : Handle) (w : Walk) (b : ℕ) → (next_of s h w b).taken ≤ b
unfolding next_of
within_budget s h w b = pick (fits_of h (length s))
  where
    pick : (f : Bool) → (cond f (goes s h b 0 w) (called (Refused refusal.Handle) 0 w)).taken ≤ b
    pick true = omega (arith, (counted s h b 0 w).0)
    pick false = omega arith
