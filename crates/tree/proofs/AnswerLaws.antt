-- Laws of what a way down ends in.
use Prim.Native.Nat.{ℕ, ◌+◌, ◌-◌, ◌≤◌, ◌<◌}
use mathlib.Core.Path.{◌≡◌, refl, ap, sym, ◌∙◌}
use mathlib.Core.Bool.{Bool, true, false}
use native.Mathlib.Omega.{arith}
use lib.Dec.{leb, ltb}
use borrow.Author.Tests.{le-leb, lt-leb, leb-true, leb-false, lt-ltb, le-ltb, ltb-true, ltb-false}
use Rattle.std.specs.Prelude.{Option, Some, None}
use Rattle.tree.specs.Lookup.{found, answer_of}
use Rattle.tree.specs.declared.Found.{Found}

-- two that are the same, by their parts
pub found_parts : {o p : Option ℕ} {l m : ℕ} → Some (found o l) ≡ Some (found p m) → (o ≡ p) × (l ≡ m)
found_parts {o} {p} {l} {m} e =
    let f : found o l ≡ found p m = cc in
    (ap (λ (r : Found). r.offset) f, ap (λ (r : Found). r.len) f)

-- what a way ends in: no data, an offset inside the data section, or nothing
module _ (nodes room len : ℕ) where
  pub answer_none : (node : ℕ) → node ≤ nodes → answer_of nodes room node len ≡ Some (found None len)
  unfolding answer_of
  answer_none node h = simp (le-leb node nodes h)

  pub answer_at : (offset : ℕ) → offset < room → answer_of nodes room (nodes + 16 + offset) len ≡ Some (found (Some offset) len)
  unfolding answer_of
  answer_at offset h =
      let e : nodes + 16 + offset - nodes - 16 ≡ offset = omega arith in
      simp (
        lt-leb (nodes + 16 + offset) nodes (omega arith),
        le-ltb (nodes + 16 + offset) (nodes + 16) (omega arith),
        e,
        lt-ltb offset room h,
      )

  pub answer_near : (node : ℕ) → nodes < node → node < nodes + 16 → answer_of nodes room node len ≡ None
  unfolding answer_of
  answer_near node g h = simp (lt-leb node nodes g, lt-ltb node (nodes + 16) h)

  pub answer_far : (node : ℕ) → nodes + 16 + room ≤ node → answer_of nodes room node len ≡ None
  unfolding answer_of
  answer_far node h =
      simp (
        lt-leb node nodes (omega arith),
        le-ltb node (nodes + 16) (omega arith),
        le-ltb (node - nodes - 16) room (omega arith),
      )

  -- so what is found lies in the data section
  pub answer_found : (node offset l : ℕ) → answer_of nodes room node len ≡ Some (found (Some offset) l) → (offset < room) × (node ≡ nodes + 16 + offset) × (l ≡ len)
  answer_found node offset l e = first (leb node nodes) refl
    where
      Goal : Type 0
      Goal = (offset < room) × (node ≡ nodes + 16 + offset) × (l ≡ len)

      third : nodes + 16 ≤ node → (t : Bool) → ltb (node - nodes - 16) room ≡ t → Goal
      third g true p =
          let h : node - nodes - 16 < room = ltb-true (node - nodes - 16) room p in
          let q : nodes + 16 + (node - nodes - 16) ≡ node = omega arith in
          let f : answer_of nodes room node len ≡ Some (found (Some (node - nodes - 16)) len) = rw q at (answer_at (node - nodes - 16) h) in
          let same = found_parts (sym e ∙ f) in
          let s : Some offset ≡ Some (node - nodes - 16) = same.0 in
          let o : offset ≡ node - nodes - 16 = cc in
          let m : l ≡ len = same.1 in
          (omega arith, omega arith, m)
      third g false p =
          let f = answer_far node (omega (arith, ltb-false (node - nodes - 16) room p)) in
          let z : ◌≡◌ {A = ℕ} 0 1 = cc in
          absurd (omega arith)

      second : nodes < node → (t : Bool) → ltb node (nodes + 16) ≡ t → Goal
      second g true p =
          let f = answer_near node g (ltb-true node (nodes + 16) p) in
          let z : ◌≡◌ {A = ℕ} 0 1 = cc in
          absurd (omega arith)
      second g false p = third (ltb-false node (nodes + 16) p) (ltb (node - nodes - 16) room) refl

      first : (t : Bool) → leb node nodes ≡ t → Goal
      first true p =
          let f = answer_none node (leb-true node nodes p) in
          let none : Some offset ≡ None = (found_parts (sym e ∙ f)).0 in
          let z : ◌≡◌ {A = ℕ} 0 1 = cc in
          absurd (omega arith)
      first false p = second (leb-false node nodes p) (ltb node (nodes + 16)) refl
