use Rattle.std.proofs.Common.{rules, ℕ, ◌*◌, ◌+◌, ap, sym, ◌∙◌, arith, get_or}
use Rattle.std.specs.Int.Count.{ones, ones-le}
use Rattle.marks.specs.Marks.{size_of, marked}
use Rattle.marks.proofs.MarkLaws.{size_word}
use Rattle.marks.proofs.count.Goals as goal

pub loop-i-init : goal.loop-i-init
unfolding size_of
loop-i-init c = search rules

-- a word has at most 64 ones
pub overflow_add-c : goal.overflow_add-c
overflow_add-c c =
    omega (arith, ones-le 64 _ (c.type_inv.bits (c.loop-i.i * 2)).fits)

pub loop-i-preserved : goal.loop-i-preserved
loop-i-preserved c =
    let b = c.args.bits.now in
    let word = (c.type_inv.bits (c.loop-i.i * 2)).fits in
    (omega (arith, ones-le 64 _ word), ap (λ (n : ℕ). n + ones (get_or b (c.loop-i.i * 2) 0)) c.loop-i.invariant.1 ∙ sym (size_word b c.loop-i.i word))

pub returns : goal.returns
returns c = c.loop-i.invariant.1 ∙ ap (λ (k : ℕ). size_of (marked c.args.bits.now) (k * 64)) (omega arith)
