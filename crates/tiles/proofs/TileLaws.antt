-- The tree's networks tile the addresses in ascending order, and the path of each address ends in its network.
use Prim.Native.Nat.{ℕ, zero, suc, ◌+◌, ◌-◌, ◌*◌, ◌/◌, ◌%◌, ◌^◌, ◌<◌, ◌≤◌}
use mathlib.Core.Path.{◌≡◌, refl, ap, sym, ◌∙◌}
use mathlib.Core.Bool.{Bool, true, false, cond}
use mathlib.Core.Logic.{◌⊎◌, inl, inr, ⊎_elim}
use mathlib.Core.List.{List, [], ◌∷◌, ◌++◌}
use native.Mathlib.Nat.{two-pow-succ, pow-suc, mul_assoc, mul_comm, add-mul, one-mul, zero-mul, zero-add, sub_self, le_refl, div-eq_of_lt-le, mul-mod_left}
use native.Mathlib.Omega.{arith}
use lib.Dec.{ltb}
use lib.Pow.{pow_pos}
use borrow.Author.Tests.{ltb-true, ltb-false}
use Rattle.tree.specs.Record.{record_at}
use Rattle.tree.specs.Lookup.{down}
use Rattle.tree.specs.declared.Place.{Place}
use Rattle.tree.proofs.LookupLaws.{place}
use Rattle.tiles.specs.Lists.{All, Some, Once, Ordered}
use Rattle.tiles.specs.Tiles.{Tile, tile, In, Before, Tiling, leaves, networks, path, end_of, Faulty}
use Rattle.tiles.proofs.ListLaws.{all_append, all_map, some_all, single, some_once}

-- one side or the other
pub side : (m n : ℕ) → (m < n) ⊎ (n ≤ m)
side m n = by (ltb m n) refl
  where
    by : (c : Bool) → ltb m n ≡ c → (m < n) ⊎ (n ≤ m)
    by true e = inl (ltb-true m n e)
    by false e = inr (ltb-false m n e)

-- blocks
tiling_append : (a b e : ℕ) (l m : List Tile) → Tiling a l b → Tiling b m e → Tiling a (l ++ m) e
unfolding Tiling
tiling_append a b e [] m h k = rw h k
tiling_append a b e (t ∷ l) m h k = (h.0, tiling_append (a + 2 ^ t.rest) b e l m h.1 k)

-- all lie past the start
pub past : (a e : ℕ) (l : List Tile) → Tiling a l e → All (λ t. a ≤ t.key) l
unfolding Tiling All
past a e [] h = tt
past a e (t ∷ l) h =
    (omega (arith, h.0), all_map (λ u. a + 2 ^ t.rest ≤ u.key) (λ u. a ≤ u.key) (λ u g. omega arith) l (past (a + 2 ^ t.rest) e l h.1))

-- and end before the end
tiling_le : (a e : ℕ) (l : List Tile) → Tiling a l e → a ≤ e
unfolding Tiling
tiling_le a e [] h = omega (arith, h)
tiling_le a e (t ∷ l) h = omega (arith, tiling_le (a + 2 ^ t.rest) e l h.1)

pub upto : (a e : ℕ) (l : List Tile) → Tiling a l e → All (λ t. t.key + 2 ^ t.rest ≤ e) l
unfolding Tiling All
upto a e [] h = tt
upto a e (t ∷ l) h = (omega (arith, h.0, tiling_le (a + 2 ^ t.rest) e l h.1), upto (a + 2 ^ t.rest) e l h.1)

-- so they ascend
pub ascend : (a e : ℕ) (l : List Tile) → Tiling a l e → Ordered Before l
unfolding Tiling Ordered
ascend a e [] h = tt
ascend a e (t ∷ l) h =
    (all_map (λ u. a + 2 ^ t.rest ≤ u.key) (Before t) (λ u g. omega (arith, h.0)) l (past (a + 2 ^ t.rest) e l h.1), ascend (a + 2 ^ t.rest) e l h.1)

-- and each address is in exactly one
pub once : (a e : ℕ) (l : List Tile) → Tiling a l e → (x : ℕ) → a ≤ x → x < e → Once (In x) l
unfolding Tiling Once
once a e [] h x j k = omega arith
once a e (t ∷ l) h x j k =
    ⊎_elim
    (λ y. inl ((omega (arith, h.0), omega (arith, h.0)), all_map (λ u. a + 2 ^ t.rest ≤ u.key) (λ u. In x u → ⊥) (λ u g i. omega arith) l (past (a + 2 ^ t.rest) e l h.1)))
    (λ y. inr ((λ i. omega (arith, h.0, i.1)), once (a + 2 ^ t.rest) e l h.1 x y k))
    (side x (a + 2 ^ t.rest))

by_case : {A : Type 0} (P : A → Type 0) (c : Bool) (x y : A) → P x → P y → P (cond c x y)
by_case P true x y h k = h
by_case P false x y h k = k

-- halves of a block
pub twice : (q d : ℕ) → q * 2 ^ suc d ≡ q * 2 * 2 ^ d
twice q d = ap (λ (n : ℕ). q * n) (pow-suc 2 d ∙ mul_comm (2 ^ d) 2) ∙ sym (mul_assoc q 2 (2 ^ d))

pub one_more : (m n : ℕ) → (m + 1) * n ≡ m * n + n
one_more m n = add-mul m 1 n ∙ ap (λ (k : ℕ). m * n + k) (one-mul n)

-- the bit of an address in the left half, and in the right
pub bit_left : (q d x : ℕ) → q * 2 ^ suc d ≤ x → x < q * 2 ^ suc d + 2 ^ d → x / 2 ^ d % 2 ≡ 0
bit_left q d x h k =
    ap (λ (n : ℕ). n % 2) (div-eq_of_lt-le {k = q * 2} (2 ^ d) (omega (arith, twice q d)) (omega (arith, twice q d, one_more (q * 2) (2 ^ d))))
    ∙ mul-mod_left q 2

pub bit_right : (q d x : ℕ) → q * 2 ^ suc d + 2 ^ d ≤ x → x < q * 2 ^ suc d + 2 ^ d + 2 ^ d → x / 2 ^ d % 2 ≡ 1
bit_right q d x h k =
    let z : (q * 2 + 1) % 2 ≡ 1 = omega arith in
    let f = one_more (q * 2) (2 ^ d) in
    ap (λ (n : ℕ). n % 2)
    (div-eq_of_lt-le {k = q * 2 + 1} (2 ^ d) (omega (arith, twice q d, f)) (omega (arith, twice q d, f, one_more (q * 2 + 1) (2 ^ d))))
    ∙ z

module _ (s : List ℕ) (size nodes : ℕ) where
  -- the networks below a record tile its block
  pub tiling : (d v k : ℕ) → Tiling k (leaves s size nodes d v k) (k + 2 ^ d)
  unfolding Tiling leaves
  tiling zero v k = (refl, refl)
  tiling (suc d) v k =
      let e : k + 2 ^ d + 2 ^ d ≡ k + 2 ^ suc d = omega (arith, two-pow-succ d) in
      by_case (λ l. Tiling k l (k + 2 ^ suc d)) (ltb v nodes) _ _
      (tiling_append k (k + 2 ^ d) (k + 2 ^ suc d) (leaves s size nodes d (record_at s size v 0) k) (leaves s size nodes d (record_at s size v 1) (k + 2 ^ d))
      (tiling d (record_at s size v 0) k) (rw e at (tiling d (record_at s size v 1) (k + 2 ^ d))))
      (refl, refl)

  module _ (width : ℕ) where
    -- where the way of an address goes from a record with d bits left
    abbrev reach : ℕ → ℕ → ℕ → Place
    reach d v x = down s size nodes x width (width - d) d v

    -- one bit of it
    reach_node : (d v x b : ℕ) → suc d ≤ width → ltb v nodes ≡ true → x / 2 ^ d % 2 ≡ b → reach (suc d) v x ≡ reach d (record_at s size v b) x
    unfolding down
    reach_node d v x b h e f =
        let p : width - 1 - (width - suc d) ≡ d = omega arith in
        let q : width - suc d + 1 ≡ width - d = omega arith in
        simp (e, p, q, f)

    -- a network in the block from k up to e, in which the paths of its addresses end
    record Ends (d v k e : ℕ) (t : Tile) : Type 0 where
      start : k ≤ t.key
      stop : t.key + 2 ^ t.rest ≤ e
      short : t.rest ≤ d
      ends : (x : ℕ) → In x t → reach d v x ≡ end_of width t

    module _ (d v k q : ℕ) (fits : suc d ≤ width) (node : ltb v nodes ≡ true) (block : k ≡ q * 2 ^ suc d) where
      from_left : (t : Tile) → Ends d (record_at s size v 0) k (k + 2 ^ d) t → Ends (suc d) v k (k + 2 ^ suc d) t
      from_left t s =
          record {
            start = s.start;
            stop = omega (arith, s.stop, two-pow-succ d);
            short = omega (arith, s.short);
            ends = λ x i.
                reach_node d v x 0 fits node (bit_left q d x (omega (arith, s.start)) (omega (arith, s.stop))) ∙ s.ends x i;
          }

      from_right : (t : Tile) → Ends d (record_at s size v 1) (k + 2 ^ d) (k + 2 ^ d + 2 ^ d) t → Ends (suc d) v k (k + 2 ^ suc d) t
      from_right t s =
          record {
            start = omega (arith, s.start);
            stop = omega (arith, s.stop, two-pow-succ d);
            short = omega (arith, s.short);
            ends = λ x i.
                reach_node d v x 1 fits node (bit_right q d x (omega (arith, s.start)) (omega (arith, s.stop))) ∙ s.ends x i;
          }

    -- a record that is no node
    reach_end : (d v x : ℕ) → ltb v nodes ≡ false → reach (suc d) v x ≡ place v (width - suc d)
    unfolding down
    reach_end d v x e = simp e

    looks_by :
        (d v k q : ℕ) → suc d ≤ width → k ≡ q * 2 ^ suc d → (c : Bool) → ltb v nodes ≡ c → (l r : List Tile)
        → All (Ends d (record_at s size v 0) k (k + 2 ^ d)) l → All (Ends d (record_at s size v 1) (k + 2 ^ d) (k + 2 ^ d + 2 ^ d)) r
        → All (Ends (suc d) v k (k + 2 ^ suc d)) (cond c (l ++ r) (tile k (suc d) v ∷ []))
    unfolding All
    looks_by d v k q w h true e l r a b =
        all_append (Ends (suc d) v k (k + 2 ^ suc d)) l r
        (all_map (Ends d (record_at s size v 0) k (k + 2 ^ d)) (Ends (suc d) v k (k + 2 ^ suc d)) (from_left d v k q w e h) l a)
        (all_map (Ends d (record_at s size v 1) (k + 2 ^ d) (k + 2 ^ d + 2 ^ d)) (Ends (suc d) v k (k + 2 ^ suc d)) (from_right d v k q w e h) r b)
    looks_by d v k q w h false e l r a b =
        (record { start = le_refl k; stop = le_refl (k + 2 ^ suc d); short = le_refl (suc d); ends = λ x i. reach_end d v x e }, tt)

    looks : (d v k q : ℕ) → d ≤ width → k ≡ q * 2 ^ d → All (Ends d v k (k + 2 ^ d)) (leaves s size nodes d v k)
    unfolding All leaves down
    looks zero v k q w h = (record { start = le_refl k; stop = le_refl (k + 2 ^ 0); short = le_refl 0; ends = λ x i. refl }, tt)
    looks (suc d) v k q w h =
        let el : k ≡ q * 2 * 2 ^ d = h ∙ twice q d in
        let er : k + 2 ^ d ≡ (q * 2 + 1) * 2 ^ d = ap (λ (n : ℕ). n + 2 ^ d) el ∙ sym (one_more (q * 2) (2 ^ d)) in
        looks_by d v k q w h (ltb v nodes) refl (leaves s size nodes d (record_at s size v 0) k) (leaves s size nodes d (record_at s size v 1) (k + 2 ^ d))
        (looks d (record_at s size v 0) k (q * 2) (omega arith) el)
        (looks d (record_at s size v 1) (k + 2 ^ d) (q * 2 + 1) (omega arith) er)

    -- a network of the tree: inside the addresses, and the end of its addresses' paths
    pub record Own (t : Tile) : Type 0 where
      pub inside : t.key + 2 ^ t.rest ≤ 2 ^ width
      pub short : t.rest ≤ width
      pub ends : (x : ℕ) → In x t → path s size nodes width x ≡ end_of width t

    pub own : All Own (networks s size nodes width)
    own =
        all_map (Ends width 0 0 (0 + 2 ^ width)) Own
        (λ t e.
        record {
          inside = omega (arith, e.stop);
          short = e.short;
          ends = λ x i. ap (λ (n : ℕ). down s size nodes x width n width 0) (sym (sub_self width)) ∙ e.ends x i;
        })
        (networks s size nodes width)
        (looks width 0 0 0 (le_refl width) (sym (zero-mul (2 ^ width))))

    -- the networks tile all addresses
    pub partition : Tiling 0 (networks s size nodes width) (2 ^ width)
    partition = rw (← zero-add (2 ^ width)) (tiling width 0 0)

    pub just_one : (x : ℕ) → x < 2 ^ width → Once (In x) (networks s size nodes width)
    just_one x h = once 0 (2 ^ width) (networks s size nodes width) partition x (omega arith) h

    -- a network is faulty exactly if some address's path is
    module _ (room : ℕ) where
      pub fault_then :
          Some (λ t. Faulty nodes room (end_of width t)) (networks s size nodes width)
          → (x : ℕ) × ((x < 2 ^ width) × Faulty nodes room (path s size nodes width x))
      fault_then f =
          let t = single Own (λ t. Faulty nodes room (end_of width t)) (networks s size nodes width) own f in
          let k = t.0.key in
          let p = pow_pos t.0.rest in
          (k, (omega (arith, t.1.0.inside, p), rw (t.1.0.ends k (le_refl k, omega (arith, p))) t.1.1))

      pub then_fault :
          (x : ℕ) → x < 2 ^ width → Faulty nodes room (path s size nodes width x)
          → Some (λ t. Faulty nodes room (end_of width t)) (networks s size nodes width)
      then_fault x h f =
          some_all Own (In x) (λ t. Faulty nodes room (end_of width t)) (λ t o i. rw (o.ends x i) at f) (networks s size nodes width) own
          (some_once (In x) (networks s size nodes width) (just_one x h))
