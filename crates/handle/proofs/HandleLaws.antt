-- What a handle that fits says, as plain facts.
use Prim.Native.Nat.{ℕ, ◌+◌, ◌-◌, ◌*◌, ◌/◌, ◌^◌, ◌≤◌}
use mathlib.Core.Path.{◌≡◌, refl}
use mathlib.Core.Bool.{Bool, true, false, not, ◌&&◌, ◌||◌}
use mathlib.Core.Logic.{◌⊎◌, inl, inr, ⊎_elim}
use native.Mathlib.Omega.{arith}
use lib.Dec.{eqb, leb}
use borrow.Author.Tests.{eqb-true, leb-true, eq-eqb, le-leb}
use Rattle.std.proofs.lemmas.Bool.{and_parts, or_cases}
use Rattle.handle.specs.Handle.{image_bound, version_known, size_known, numbers_known, data_start, sections_fit, ipv4_fits, fits_of}
use Rattle.handle.specs.declared.Handle.{Handle}

-- a size of the format
abbrev pub Sized : ℕ → Type 0
Sized size = (size ≡ 24) ⊎ ((size ≡ 28) ⊎ (size ≡ 32))

pub sized : (size : ℕ) → size_known size ≡ true → Sized size
sized size e =
    ⊎_elim
    (λ p. ⊎_elim (λ q. inl (eqb-true size 24 q)) (λ q. inr (inl (eqb-true size 28 q))) (or_cases (eqb size 24) (eqb size 28) p))
    (λ p. inr (inr (eqb-true size 32 p)))
    (or_cases (eqb size 24 || eqb size 28) (eqb size 32) e)

pub size_known_lem : {size : ℕ} → Sized size → size_known size ≡ true
size_known_lem (inl e) = rw e
size_known_lem (inr (inl e)) = rw e
size_known_lem (inr (inr e)) = rw e

-- the parts of the check, in the order in which they are made
pub record Fit (h : Handle) (n : ℕ) : Type 0 where
  pub short : n ≤ image_bound
  pub versioned : (h.version ≡ 4) ⊎ (h.version ≡ 6)
  pub some : 1 ≤ h.nodes
  pub few : h.nodes ≤ 2 ^ 32 - 1
  pub sizes : Sized h.size
  pub based : h.base ≡ data_start h.nodes h.size
  pub marked : h.base + 14 ≤ h.meta
  pub whole : h.meta ≤ n
  pub shallow : h.depth4 ≤ 96
  pub narrow : h.start4 ≤ 2 ^ 32 - 1
  pub only4 : h.version ≡ 4 → (h.start4 ≡ 0) × (h.depth4 ≡ 0)

only_4 : (v start depth : ℕ) → (not (eqb v 4) || (eqb start 0 && eqb depth 0)) ≡ true → v ≡ 4 → (start ≡ 0) × (depth ≡ 0)
only_4 v start depth e f =
    let b = and_parts (eqb start 0) (eqb depth 0) (rw (eq-eqb v 4 f) at e) in
    (eqb-true start 0 b.0, eqb-true depth 0 b.1)

numbers : (h : Handle) → numbers_known h ≡ true → (version_known h.version ≡ true) × (1 ≤ h.nodes) × (h.nodes ≤ 2 ^ 32 - 1) × Sized h.size
numbers h e =
    let a = and_parts (version_known h.version && leb 1 h.nodes && leb h.nodes (2 ^ 32 - 1)) (size_known h.size) e in
    let b = and_parts (version_known h.version && leb 1 h.nodes) (leb h.nodes (2 ^ 32 - 1)) a.0 in
    let c = and_parts (version_known h.version) (leb 1 h.nodes) b.0 in
    (c.0, leb-true _ _ c.1, leb-true _ _ b.1, sized h.size a.1)

pub fit : (h : Handle) (n : ℕ) → fits_of h n ≡ true → Fit h n
unfolding fits_of
fit h n e =
    let a = and_parts (leb n image_bound && numbers_known h && sections_fit h n) (ipv4_fits h) e in
    let b = and_parts (leb n image_bound && numbers_known h) (sections_fit h n) a.0 in
    let c = and_parts (leb n image_bound) (numbers_known h) b.0 in
    let k = numbers h c.1 in
    let s = and_parts (eqb h.base (data_start h.nodes h.size) && leb (h.base + 14) h.meta) (leb h.meta n) b.1 in
    let t = and_parts (eqb h.base (data_start h.nodes h.size)) (leb (h.base + 14) h.meta) s.0 in
    let i = and_parts (leb h.depth4 96 && leb h.start4 (2 ^ 32 - 1)) (not (eqb h.version 4) || (eqb h.start4 0 && eqb h.depth4 0)) a.1 in
    let j = and_parts (leb h.depth4 96) (leb h.start4 (2 ^ 32 - 1)) i.0 in
    record {
      short = leb-true _ _ c.0;
      versioned = ⊎_elim (λ p. inl (eqb-true _ _ p)) (λ p. inr (eqb-true _ _ p)) (or_cases (eqb h.version 4) (eqb h.version 6) k.0);
      some = k.1;
      few = k.2;
      sizes = k.3;
      based = eqb-true _ _ t.0;
      marked = leb-true _ _ t.1;
      whole = leb-true _ _ s.1;
      shallow = leb-true _ _ j.0;
      narrow = leb-true _ _ j.1;
      only4 = only_4 h.version h.start4 h.depth4 i.1;
    }

version_known_lem : {v : ℕ} → (v ≡ 4) ⊎ (v ≡ 6) → version_known v ≡ true
version_known_lem (inl e) = rw e
version_known_lem (inr e) = rw e

only_4_fits : (v start depth : ℕ) → (v ≡ 4 → (start ≡ 0) × (depth ≡ 0)) → (not (eqb v 4) || (eqb start 0 && eqb depth 0)) ≡ true
only_4_fits v start depth f = pick (eqb v 4) refl
  where
    pick : (t : Bool) → eqb v 4 ≡ t → (not t || (eqb start 0 && eqb depth 0)) ≡ true
    pick true e = let z = f (eqb-true v 4 e) in simp (eq-eqb start 0 z.0, eq-eqb depth 0 z.1)
    pick false e = refl

pub fits_of_lem : (h : Handle) (n : ℕ) → Fit h n → fits_of h n ≡ true
unfolding fits_of
fits_of_lem h n f =
    simp (
      le-leb n image_bound f.short,
      version_known_lem f.versioned,
      le-leb 1 h.nodes f.some,
      le-leb h.nodes (2 ^ 32 - 1) f.few,
      size_known_lem f.sizes,
      eq-eqb h.base (data_start h.nodes h.size) f.based,
      le-leb (h.base + 14) h.meta f.marked,
      le-leb h.meta n f.whole,
      le-leb h.depth4 96 f.shallow,
      le-leb h.start4 (2 ^ 32 - 1) f.narrow,
      only_4_fits h.version h.start4 h.depth4 f.only4,
    )

pub size_le : {size : ℕ} → Sized size → size ≤ 32
size_le (inl e) = omega arith
size_le (inr (inl e)) = omega arith
size_le (inr (inr e)) = omega arith

start_exact : (nodes size : ℕ) → Sized size → data_start nodes size ≡ nodes * (size / 4) + 16
start_exact nodes size (inl e) = rw e (omega arith)
start_exact nodes size (inr (inl e)) = rw e (omega arith)
start_exact nodes size (inr (inr e)) = rw e (omega arith)

-- a node is size / 4 whole bytes, and the tree's stand before the data
pub tree_inside : {h : Handle} {n : ℕ} → Fit h n → h.nodes * (h.size / 4) + 16 ≡ h.base
tree_inside {h} f = omega (arith, f.based, start_exact h.nodes h.size f.sizes)

pub tree_whole : {h : Handle} {n : ℕ} → Fit h n → h.nodes * (h.size / 4) ≤ n
tree_whole f = omega (arith, tree_inside f, f.marked, f.whole)
