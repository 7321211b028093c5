use mathlib.Core.Path.{sym, ap, ap₂, ◌∙◌}
use Prim.Native.Nat.{ℕ, ◌≤◌}
use native.Mathlib.Omega.{arith}
use mathlib.Core.List.{◌++◌}
use lib.ListN.{length, drop, replicate}
use borrow.Author.Tests.{le-leb, lt-leb}
use Rattle.std.proofs.lemmas.Result.{err_from_is_err_and}
use Rattle.opening.proofs.OpeningLaws.{open_fits}
use Rattle.verify.specs.Verify.{words_of, out, verify_of}
use Rattle.verify.proofs.VerifyLaws.{front_length, cleared_twice}
use Rattle.verify.proofs.verify.Goals as goal

pub returns-in_err-reader : goal.returns-in_err-reader
unfolding verify_of
returns-in_err-reader c =
    let p = err_from_is_err_and c.from_residual.result c.from_residual.ensures.1 in
    rw (p.1, p.2) (simp (sym c.in_err-reader.ensures))

pub words_of-need-requires : goal.words_of-need-requires
words_of-need-requires c = open_fits c.args.image.now (λ i. (c.type_inv.image i).fits) (sym c.in_ok-reader.ensures)

pub returns-then-scratch-need : goal.returns-then-scratch-need
unfolding verify_of
returns-then-scratch-need c = simp (sym c.in_ok-reader.ensures, lt-leb (words_of c.args.image.now c.in_ok-reader.reader.handle) (length c.args.scratch.now) (omega (arith, c.if-scratch-need.true, c.words_of-need.ensures)))

pub verdict-verified-requires-clause-image_value : goal.verdict-verified-requires-clause-image_value
verdict-verified-requires-clause-image_value c = open_fits c.args.image.now (λ i. (c.type_inv.image i).fits) (sym c.in_ok-reader.ensures)

pub returns : goal.returns
unfolding verify_of
returns c =
    let n = c.words_of-need.result in
    let scratch = c.args.scratch.now in
    let first = c.clear.new.bits in
    let part : n ≤ length first = omega (arith, c.clear.auto.bits, c.if-scratch-need.false) in
    let long = c.verdict-verified.auto.bits ∙ sym (front_length n first part) in
    let clear = cleared_twice n scratch first c.verdict-verified.new.bits c.clear-2.new.bits c.clear.ensures long c.clear-2.ensures in
    let room = le-leb (words_of c.args.image.now c.in_ok-reader.reader.handle) (length scratch) (omega (arith, c.if-scratch-need.false, c.words_of-need.ensures)) in
    simp (sym c.in_ok-reader.ensures, room)
    (ap₂ out c.verdict-verified.ensures.value (clear ∙ ap (λ (k : ℕ). replicate k 0 ++ drop k scratch) c.words_of-need.ensures))
