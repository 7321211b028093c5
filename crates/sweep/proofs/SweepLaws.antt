-- Laws of the sweep, one for each way through a turn of its loop.
use mathlib.Core.Path.{◌≡◌, sym, ap, ◌∙◌}
use mathlib.Core.Bool.{true, false}
use Prim.Native.Nat.{ℕ, zero, suc, ◌+◌, ◌-◌, ◌<◌, ◌≤◌}
use native.Mathlib.Omega.{arith}
use Rattle.std.specs.Prelude.{Option, Some, None}
use Rattle.graph.specs.Graph.{skipped, Marks, Res, res, Walk}
use Rattle.graph.specs.declared.Skipped.{Skipped}
use Rattle.sweep.specs.Sweep.{onward, sweep_at}

module _ {S : Type 0} (m : Marks S) (verify : Walk S) (n t w : ℕ) (x : S) where
  pub sweep_passed : m.is_recorded x t ≡ false → sweep_at m verify (suc n) t w x ≡ sweep_at m verify n (t + 1) w x
  unfolding sweep_at
  sweep_passed e = simp e

  pub sweep_verified : m.is_recorded x t ≡ true
      → sweep_at m verify (suc n) t w x ≡ onward (sweep_at m verify n (t + 1)) (verify t w x).answer (verify t w x).sets
  unfolding sweep_at
  sweep_verified e = simp e

module _ {S : Type 0} (m : Marks S) (verify : Walk S) (n t w : ℕ) (x : S) (X : Res S) (lt : t < n) (inv : sweep_at m verify (n - t) t w x ≡ X) where
  opened : sweep_at m verify (suc (n - (t + 1))) t w x ≡ X
  opened =
      let k : n - t ≡ suc (n - (t + 1)) = omega arith in
      ap (λ (j : ℕ). sweep_at m verify j t w x) (sym k) ∙ inv

  pub sweep_pass : m.is_recorded x t ≡ false → sweep_at m verify (n - (t + 1)) (t + 1) w x ≡ X
  sweep_pass e = sym (sweep_passed m verify (n - (t + 1)) t w x e) ∙ opened

  module _ (e : m.is_recorded x t ≡ true) (y : S) where
    walked : (r : Option Skipped) → res r y ≡ verify t w x → onward (sweep_at m verify (n - (t + 1)) (t + 1)) r y ≡ X
    walked r verified = ap (λ (k : Res S). onward (sweep_at m verify (n - (t + 1)) (t + 1)) k.answer k.sets) verified
        ∙ sym (sweep_verified m verify (n - (t + 1)) t w x e) ∙ opened

    pub sweep_turn : (q : Skipped) → res (Some q) y ≡ verify t w x → sweep_at m verify (n - (t + 1)) (t + 1) q.work y ≡ X
    unfolding onward
    sweep_turn q verified = walked (Some q) verified

    pub sweep_stop : res None y ≡ verify t w x → res None y ≡ X
    unfolding onward
    sweep_stop verified = walked None verified

pub sweep_end : {S : Type 0} (m : Marks S) (verify : Walk S) (n t w : ℕ) (x : S) (X : Res S) → n ≤ t → sweep_at m verify (n - t) t w x ≡ X → res (Some (skipped t w)) x ≡ X
unfolding sweep_at
sweep_end m verify n t w x X h e =
    let k : 0 ≡ n - t = omega arith in
    ap (λ (j : ℕ). sweep_at m verify j t w x) k ∙ e

-- places that are not recorded are passed, however many
pass_some : {S : Type 0} (m : Marks S) (verify : Walk S) (n w : ℕ) (x : S) (d t : ℕ) → t + d ≤ n → ((u : ℕ) → t ≤ u → u < t + d → m.is_recorded x u ≡ false)
    → sweep_at m verify (n - t) t w x ≡ sweep_at m verify (n - (t + d)) (t + d) w x
pass_some m verify n w x zero t h none = ap (λ (u : ℕ). sweep_at m verify (n - u) u w x) (omega arith)
pass_some m verify n w x (suc d) t h none =
    let k : n - t ≡ suc (n - (t + 1)) = omega arith in
    ap (λ (j : ℕ). sweep_at m verify j t w x) k ∙ sweep_passed m verify (n - (t + 1)) t w x (none t (omega arith) (omega arith))
    ∙ pass_some m verify n w x d (t + 1) (omega arith) (λ u a b. none u (omega arith) (omega arith))
    ∙ ap (λ (u : ℕ). sweep_at m verify (n - u) u w x) (omega arith)

pub pass_to : {S : Type 0} (m : Marks S) (verify : Walk S) (n w : ℕ) (x : S) (t u : ℕ) → t ≤ u → u ≤ n → ((v : ℕ) → t ≤ v → v < u → m.is_recorded x v ≡ false)
    → sweep_at m verify (n - u) u w x ≡ sweep_at m verify (n - t) t w x
pass_to m verify n w x t u a b none =
    let e : t + (u - t) ≡ u = omega arith in
    sym (pass_some m verify n w x (u - t) t (omega arith) (λ v h k. none v h (omega arith)) ∙ ap (λ (v : ℕ). sweep_at m verify (n - v) v w x) e)
