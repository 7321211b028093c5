use Prim.Native.Nat.{ℕ, ◌+◌}
use mathlib.Core.Path.{ap, ◌∙◌}
use native.Mathlib.Nat.{add_comm, add-sub_cancel_left}
use lib.ListN.{take, drop}
use Rattle.metadata.specs.declared.Part.{Part}
use Rattle.about.proofs.text.Goals as goal

pub returns : goal.returns
returns c = let a = c.args in
    let p = c.place-part.result in
    let e = c.place-part.ensures.value in
    record {
      result_value =
          ap (λ (j : ℕ). take j (drop p.from a.image.now)) (add-sub_cancel_left p.from p.size)
          ∙ ap (λ (q : Part). take q.size (drop q.from a.image.now)) e;
      ref_ptr_value = ap (λ (j : ℕ). (a.image.ref_ptr.0, j)) (add_comm p.from a.image.ref_ptr.1 ∙ ap (λ (q : Part). a.image.ref_ptr.1 + q.from) e);
    }
