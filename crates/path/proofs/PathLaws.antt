-- Laws of steps: how large what they enter is, where the names lie that they compare, and the search for a key.
use Prim.Native.Nat.{ℕ, ◌+◌, ◌-◌, ◌≤◌, ◌<◌}
use mathlib.Core.Path.{◌≡◌}
use mathlib.Core.List.{List}
use lib.ListN.{length, get_or}
use mir.Syntax.{w8}
use mir.Val.{Fits}
use native.Mathlib.Omega.{arith}
use native.Mathlib.Numerals.{add-one}
use Rattle.std.specs.Prelude.{Option, Some, None, Ok, Err}
use Rattle.refusal.specs.declared.Refusal.TheVariants as refusal
use Rattle.stored.specs.Stored.{resolved_at}
use Rattle.stored.specs.declared.Layout.{Layout}
use Rattle.value.proofs.PartLaws.{resolved_lies}
use Rattle.key.specs.Keys.{name_at}
use Rattle.key.specs.declared.Name.{Name}
use Rattle.key.proofs.KeyLaws.{name_within}
use Rattle.charge.specs.declared.Charge.{Charge}
use Rattle.path.specs.Steps.{landed, pair_at, sought, find_from}
use Rattle.path.specs.declared.Cursor.{Cursor}
use Rattle.path.specs.declared.Pair.{Pair}
use Rattle.path.specs.declared.Pair.TheVariants as pair

module _ (s : List ℕ) (bytes : (i : ℕ) → Fits w8 (get_or s i 0)) where
  pub entered_small : (at : ℕ) (l : Layout) → resolved_at s at ≡ Some l → l.size ≤ 16843036
  entered_small at l e = (resolved_lies s bytes at l e).small

  pub name_inside : (at : ℕ) (x : Name) → name_at s at ≡ Some x → x.from + x.size ≤ length s
  name_inside at x e = (name_within s (λ i. (bytes i).fits) at {x = x} e).inside

-- the search, i pairs of which were passed
module _ (s key : List ℕ) where
  find_pair : (n m place : ℕ) (c : Charge) {p : Option Pair} → n ≡ m + 1 → pair_at s key place c ≡ p
      → find_from s key n place c ≡ sought s (find_from s key m) p
  unfolding find_from
  find_pair n m place c h e = rw (h, add-one, e)

  module _ (n i place : ℕ) (c : Charge) (h : i < n) where
    pub find_here : {x : Cursor} → pair_at s key place c ≡ Some (pair.Here x) → find_from s key (n - i) place c ≡ landed s x.place x.charge
    find_here e = find_pair (n - i) (n - (i + 1)) place c (omega arith) e

    pub find_not : {x : Cursor} → pair_at s key place c ≡ Some (pair.Not x) → find_from s key (n - i) place c ≡ find_from s key (n - (i + 1)) x.place x.charge
    find_not e = find_pair (n - i) (n - (i + 1)) place c (omega arith) e

    pub find_wrong : pair_at s key place c ≡ None → find_from s key (n - i) place c ≡ Err refusal.Malformed
    find_wrong e = find_pair (n - i) (n - (i + 1)) place c (omega arith) e

  pub find_none : (n place : ℕ) (c : Charge) → n ≤ 0 → find_from s key n place c ≡ Ok None
  unfolding find_from
  find_none n place c h = let e : n ≡ 0 = omega arith in rw e
