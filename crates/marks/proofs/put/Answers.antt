use mathlib.Core.Path.{◌≡◌, ap, ap₂, ◌∙◌}
use Prim.Native.Nat.{ℕ, ◌-◌, ◌*◌, ◌%◌, ◌^◌, ◌<◌}
use native.Mathlib.Nat.{le_trans, le_of_eq}
use native.Mathlib.Omega.{arith}
use lib.ListN.{get_or, set}
use lib.Bits.{bit_or}
use lib.Pow.{shl_exact}
use Rattle.marks.specs.Marks.{put}
use Rattle.marks.proofs.MarkLaws.{bit_le}
use Rattle.marks.proofs.put.Goals as goal

-- a bit that is shifted to its place fits
shifted : (v s : ℕ) → v < 2 → s < 64 → (v * 2 ^ s) % 2 ^ 64 ≡ v * 2 ^ s
shifted v s h l = shl_exact 1 s 64 h (omega arith)

pub overflow_sub-bits : goal.overflow_sub-bits
overflow_sub-bits c =
    let a = c.args in
    le_trans (le_of_eq (shifted c.bit.result a.s (omega (arith, c.bit.ensures.1)) (omega (arith, c.requires)) ∙ ap (λ (n : ℕ). n * 2 ^ a.s) c.bit.ensures.0)) (bit_le (get_or a.bits.now a.k 0) a.s)

pub returns : goal.returns
unfolding put
returns c =
    let a = c.args in
    ap₂ (λ (m n : ℕ). set a.bits.now a.k (bit_or (get_or a.bits.now a.k 0 - m) n))
    (shifted c.bit.result a.s (omega (arith, c.bit.ensures.1)) (omega (arith, c.requires)) ∙ ap (λ (n : ℕ). n * 2 ^ a.s) c.bit.ensures.0)
    (shifted a.v a.s (omega (arith, c.requires)) (omega (arith, c.requires)))
