use borrow.Author.Rules.{rules}
use mathlib.Core.Path.{◌≡◌, ◌∙◌}
use native.Mathlib.Omega.{arith}
use Prim.Native.Nat.{ℕ, ◌+◌, ◌-◌}
use lib.ListN.{take, drop}
use Rattle.std.specs.List.{fold}
use Rattle.number.specs.Bytes.{be_at}
use Rattle.number.proofs.ByteLaws.{shifted, be_shifted, be_lt}
use Rattle.number.proofs.be.Goals as goal

pub returns : goal.returns
returns c =
    let a = c.args in
    let b = λ (i : ℕ). (c.type_inv.s i).fits in
    let n : a.p + a.n - a.p ≡ a.n = omega arith in
    let e : c.fold.result ≡ fold shifted 0 (take (a.p + a.n - a.p) (drop a.p a.s.now)) = search rules in
    let f : c.fold.result ≡ be_at a.s.now a.p a.n = rw n at e ∙ be_shifted a.s.now b a.p a.n (omega arith) (omega arith) in
    (f, rw f (be_lt a.s.now b a.p a.n))
