-- The networks of the tree that share an address with a block of addresses are those below the end of the way to it.
use Prim.Native.Nat.{ℕ, zero, suc, ◌+◌, ◌-◌, ◌*◌, ◌/◌, ◌%◌, ◌^◌, ◌<◌, ◌≤◌}
use mathlib.Core.Path.{◌≡◌, refl, ap, sym, ◌∙◌}
use mathlib.Core.Bool.{Bool, true, false, ◌&&◌, and-false, false≢true}
use mathlib.Core.Logic.{◌⊎◌, inl, inr, ⊎_elim}
use mathlib.Core.List.{List, [], ◌∷◌, ◌++◌, append-nil}
use native.Mathlib.Nat.{two-pow-succ, le_refl, mul_assoc, lt_of_mul-lt-mul_right, mul-le-mul_right, div-eq_of_lt-le, sub_self, zero-mul, div-mul-le_self, lt-div-mul-add}
use native.Mathlib.Omega.{arith}
use lib.Dec.{ltb}
use lib.Pow.{pow_pos, pow-add, pow-lt}
use borrow.Author.Tests.{lt-ltb, le-ltb, ltb-true}
use Rattle.number.specs.Keys.{cleared}
use Rattle.tree.specs.Record.{record_at}
use Rattle.tree.specs.Lookup.{down}
use Rattle.tree.specs.declared.Place.{Place}
use Rattle.tree.proofs.LookupLaws.{place, down_none, down_end, down_step, down_le, down_internal}
use Rattle.tiles.specs.Lists.{All, only}
use Rattle.tiles.specs.Tiles.{Tile, tile, In, leaves, networks}
use Rattle.tiles.proofs.ListLaws.{all_map, all_both, only_append, only_all, only_none}
use Rattle.tiles.proofs.TileLaws.{side, past, upto, tiling, twice, one_more, bit_left, bit_right}
use Rattle.fullwalk.proofs.Below.{leaf, branch}
use Rattle.ranges.specs.Ranges.{meets, Inside, Contains}

-- multiples of a number: the next after the one is not after the other
next_multiple : (u m n : ℕ) → m * u < n * u → m * u + u ≤ n * u
next_multiple u m n l =
    let g : m < n = lt_of_mul-lt-mul_right u l in
    let k : (m + 1) * u ≤ n * u = mul-le-mul_right u (omega arith) in
    omega (arith, one_more m u)

-- an address of a block with its free bits cleared is the block's first
pub cleared_block : (q d x : ℕ) → q * 2 ^ d ≤ x → x < q * 2 ^ d + 2 ^ d → cleared x d ≡ q * 2 ^ d
cleared_block q d x l g = ap (λ (n : ℕ). n * 2 ^ d) (div-eq_of_lt-le {k = q} (2 ^ d) l (omega (arith, one_more q (2 ^ d))))

-- blocks of e bits of which one begins before the other's end
before_end : (e left d q x m : ℕ) → d ≡ left + e → x ≡ m * 2 ^ e → x < q * 2 ^ d → x + 2 ^ e ≤ q * 2 ^ d
before_end e left d q x m f mx l =
    let g : q * 2 ^ d ≡ q * 2 ^ left * 2 ^ e =
    ap (λ (n : ℕ). q * 2 ^ n) f ∙ ap (λ (n : ℕ). q * n) (pow-add 2 left e) ∙ sym (mul_assoc q (2 ^ left) (2 ^ e))
    in
    let k : m * 2 ^ e < q * 2 ^ left * 2 ^ e = omega arith in
    omega (arith, next_multiple (2 ^ e) m (q * 2 ^ left) k)

meets_true : (x e : ℕ) (t : Tile) → t.key < x + 2 ^ e → x < t.key + 2 ^ t.rest → meets x e t ≡ true
meets_true x e t l g = simp (lt-ltb _ _ l, lt-ltb _ _ g)

-- which is to say that some address is in both
pub meets_then : (x e : ℕ) (t : Tile) → meets x e t ≡ true → (y : ℕ) × (In y t × ((x ≤ y) × (y < x + 2 ^ e)))
meets_then x e t = by (ltb t.key (x + 2 ^ e)) (ltb x (t.key + 2 ^ t.rest)) refl refl
  where
    by :
        (a b : Bool) → ltb t.key (x + 2 ^ e) ≡ a → ltb x (t.key + 2 ^ t.rest) ≡ b → (a && b) ≡ true
        → (y : ℕ) × (In y t × ((x ≤ y) × (y < x + 2 ^ e)))
    by true true f g m =
        let k : t.key < x + 2 ^ e = ltb-true _ _ f in
        let l : x < t.key + 2 ^ t.rest = ltb-true _ _ g in
        ⊎_elim
        (λ i. (x, ((omega arith, l), (le_refl x, omega (arith, pow_pos e)))))
        (λ i. (t.key, ((le_refl t.key, omega (arith, pow_pos t.rest)), (i, k))))
        (side t.key x)
    by true false f g m = absurd (false≢true m)
    by false b f g m = absurd (false≢true m)

pub then_meets : (x e : ℕ) (t : Tile) (y : ℕ) → In y t → x ≤ y → y < x + 2 ^ e → meets x e t ≡ true
then_meets x e t y i l g = meets_true x e t (omega (arith, i.0)) (omega (arith, i.1))

meets_late : (x e : ℕ) (t : Tile) → x + 2 ^ e ≤ t.key → meets x e t ≡ false
meets_late x e t l = simp (le-ltb _ _ l)

meets_early : (x e : ℕ) (t : Tile) → t.key + 2 ^ t.rest ≤ x → meets x e t ≡ false
meets_early x e t l = simp (le-ltb _ _ l, and-false)

module _ (s : List ℕ) (size nodes width : ℕ) where
  abbrev under : ℕ → ℕ → ℕ → List Tile
  under d v k = leaves s size nodes d v k

  -- what is below the end of the way of an address
  abbrev pub below_end : ℕ → Place → List Tile
  below_end x p = under (width - p.depth) p.node (cleared x (width - p.depth))

  -- the way from a record with d bits left, of which it may read some
  abbrev way : ℕ → ℕ → ℕ → ℕ → Place
  way x d left v = down s size nodes x width (width - d) left v

  module _ (d v k : ℕ) where
    inner : All (λ t. (k ≤ t.key) × (t.key + 2 ^ t.rest ≤ k + 2 ^ d)) (under d v k)
    inner =
        all_both (λ t. k ≤ t.key) (λ t. t.key + 2 ^ t.rest ≤ k + 2 ^ d) (under d v k)
        (past k (k + 2 ^ d) (under d v k) (tiling s size nodes d v k)) (upto k (k + 2 ^ d) (under d v k) (tiling s size nodes d v k))

  -- none has more free bits than the block
  pub shorter : (d v k : ℕ) → All (λ t. t.rest ≤ d) (under d v k)
  shorter d v k =
      all_map (λ t. (k ≤ t.key) × (t.key + 2 ^ t.rest ≤ k + 2 ^ d)) (λ t. t.rest ≤ d)
      (λ t i.
      ⊎_elim (λ l. let p : 2 ^ d < 2 ^ t.rest = pow-lt l in absurd (omega (arith, i.0, i.1))) (λ l. l) (side d t.rest))
      (under d v k) (inner d v k)

  -- all below a record share an address with its block
  all_meet : (d v k : ℕ) → only (meets k d) (under d v k) ≡ under d v k
  all_meet d v k =
      only_all (meets k d) (under d v k)
      (all_map (λ t. (k ≤ t.key) × (t.key + 2 ^ t.rest ≤ k + 2 ^ d)) (λ t. meets k d t ≡ true)
      (λ t i. meets_true k d t (omega (arith, i.1, pow_pos t.rest)) (omega (arith, i.0, pow_pos t.rest))) (under d v k) (inner d v k))

  -- none does where the block lies before, or behind
  none_late : (d v k x e : ℕ) → x + 2 ^ e ≤ k → only (meets x e) (under d v k) ≡ []
  none_late d v k x e l =
      only_none (meets x e) (under d v k)
      (all_map (λ t. (k ≤ t.key) × (t.key + 2 ^ t.rest ≤ k + 2 ^ d)) (λ t. meets x e t ≡ false)
      (λ t i. meets_late x e t (omega (arith, i.0))) (under d v k) (inner d v k))

  none_early : (d v k x e : ℕ) → k + 2 ^ d ≤ x → only (meets x e) (under d v k) ≡ []
  none_early d v k x e l =
      only_none (meets x e) (under d v k)
      (all_map (λ t. (k ≤ t.key) × (t.key + 2 ^ t.rest ≤ k + 2 ^ d)) (λ t. meets x e t ≡ false)
      (λ t i. meets_early x e t (omega (arith, i.1))) (under d v k) (inner d v k))

  -- one more bit of the way
  way_step : (x d left v b : ℕ) → suc d ≤ width → v < nodes → x / 2 ^ d % 2 ≡ b → way x (suc d) (suc left) v ≡ way x d left (record_at s size v b)
  way_step x d left v b w l f =
      let e : width - 1 - (width - suc d) ≡ d = omega arith in
      let g : width - suc d + 1 ≡ width - d = omega arith in
      let n : suc left - 1 ≡ left = omega arith in
      down_step s size nodes x width (width - suc d) (suc left) v (omega arith) l ∙ rw (g, n, e, f)

  -- where it stops, what is below the record is below the way's end
  stopped : (x d v k q : ℕ) → d ≤ width → k ≡ q * 2 ^ d → k ≤ x → x < k + 2 ^ d → under d v k ≡ below_end x (place v (width - d))
  stopped x d v k q w kq lo hi =
      let n : d ≡ width - (width - d) = omega arith in
      let c : cleared x d ≡ q * 2 ^ d = cleared_block q d x (omega arith) (omega arith) in
      ap (under d v) (kq ∙ sym c) ∙ ap (λ (i : ℕ). under i v (cleared x i)) n

  one_meets : (x e : ℕ) (t : Tile) → t.key < x + 2 ^ e → x < t.key + 2 ^ t.rest → only (meets x e) (t ∷ []) ≡ t ∷ []
  unfolding All
  one_meets x e t l g = only_all (meets x e) (t ∷ []) (meets_true x e t l g, tt)

  -- a node's networks, by the half that the address is in
  module _ (d e v k q x m left : ℕ) (f : d ≡ left + e) (w : suc d ≤ width) (node : v < nodes) (kq : k ≡ q * 2 ^ suc d) (lo : k ≤ x) (hi : x < k + 2 ^ suc d) (mx : x ≡ m * 2 ^ e) where
    abbrev lower : List Tile
    lower = under d (record_at s size v 0) k

    abbrev upper : List Tile
    upper = under d (record_at s size v 1) (k + 2 ^ d)

    halves : only (meets x e) (under (suc d) v k) ≡ only (meets x e) lower ++ only (meets x e) upper
    halves = ap (only (meets x e)) (branch s size nodes d v k node) ∙ only_append (meets x e) lower upper

    in_lower :
        x < k + 2 ^ d → only (meets x e) lower ≡ below_end x (way x d left (record_at s size v 0))
        → only (meets x e) (under (suc d) v k) ≡ below_end x (way x (suc d) (suc left) v)
    in_lower l i =
        let b : x < (q * 2 + 1) * 2 ^ d = omega (arith, twice q d, one_more (q * 2) (2 ^ d)) in
        let c : x + 2 ^ e ≤ (q * 2 + 1) * 2 ^ d = before_end e left d (q * 2 + 1) x m f mx b in
        let g : x + 2 ^ e ≤ k + 2 ^ d = omega (arith, twice q d, one_more (q * 2) (2 ^ d)) in
        halves
        ∙ ap (λ (n : List Tile). only (meets x e) lower ++ n) (none_late d (record_at s size v 1) (k + 2 ^ d) x e g)
        ∙ append-nil (only (meets x e) lower)
        ∙ i
        ∙ ap (below_end x) (sym (way_step x d left v 0 w node (bit_left q d x (omega arith) (omega arith))))

    in_upper :
        k + 2 ^ d ≤ x → only (meets x e) upper ≡ below_end x (way x d left (record_at s size v 1))
        → only (meets x e) (under (suc d) v k) ≡ below_end x (way x (suc d) (suc left) v)
    in_upper l i =
        halves
        ∙ ap (λ (n : List Tile). n ++ only (meets x e) upper) (none_early d (record_at s size v 0) k x e l)
        ∙ i
        ∙ ap (below_end x) (sym (way_step x d left v 1 w node (bit_right q d x (omega arith) (omega (arith, two-pow-succ d)))))

  -- from a record's block, of d free bits, down to a block of e free bits in it
  descent :
      (left d e v k q x m : ℕ) → d ≡ left + e → d ≤ width → k ≡ q * 2 ^ d → k ≤ x → x < k + 2 ^ d → x ≡ m * 2 ^ e
      → only (meets x e) (under d v k) ≡ below_end x (way x d left v)
  descent zero d e v k q x m f w kq lo hi mx =
      let g : e ≡ d = omega arith in
      let p : 2 ^ e ≡ 2 ^ d = ap (λ (n : ℕ). 2 ^ n) g in
      let r : q * 2 ^ e ≡ q * 2 ^ d = ap (λ (n : ℕ). q * n) p in
      let l : m * 2 ^ e < (q + 1) * 2 ^ e = omega (arith, one_more q (2 ^ e)) in
      let y : x ≡ k = omega (arith, next_multiple (2 ^ e) m (q + 1) l, one_more q (2 ^ e)) in
      ap (λ (n : ℕ). only (meets n e) (under d v k)) y
      ∙ ap (λ (n : ℕ). only (meets k n) (under d v k)) g
      ∙ all_meet d v k
      ∙ stopped x d v k q w kq lo hi
      ∙ ap (below_end x) (sym (down_none s size nodes x width (width - d) 0 v (omega arith)))
  descent (suc left) zero e v k q x m f w kq lo hi mx = absurd (omega arith)
  descent (suc left) (suc d) e v k q x m f w kq lo hi mx =
      let g : d ≡ left + e = omega arith in
      ⊎_elim
      (λ node.
      ⊎_elim
      (λ l. in_lower d e v k q x m left g w node kq lo hi mx l
      (descent left d e (record_at s size v 0) k (q * 2) x m g (omega arith) (kq ∙ twice q d) lo l mx))
      (λ l. in_upper d e v k q x m left g w node kq lo hi mx l
      (descent left d e (record_at s size v 1) (k + 2 ^ d) (q * 2 + 1) x m g (omega arith)
      (ap (λ (n : ℕ). n + 2 ^ d) (kq ∙ twice q d) ∙ sym (one_more (q * 2) (2 ^ d))) l (omega (arith, two-pow-succ d)) mx))
      (side x (k + 2 ^ d)))
      (λ end.
      ap (only (meets x e)) (leaf s size nodes (suc d) v k end)
      ∙ one_meets x e (tile k (suc d) v) (omega (arith, pow_pos e)) hi
      ∙ sym (leaf s size nodes (suc d) v k end)
      ∙ stopped x (suc d) v k q w kq lo hi
      ∙ ap (below_end x) (sym (down_end s size nodes x width (width - suc d) (suc left) v end)))
      (side v nodes)

  -- of the whole tree: the way to a block of e free bits reads as many bits as the others
  module _ (left e x m : ℕ) (whole : width ≡ left + e) (small : x < 2 ^ width) (mx : x ≡ m * 2 ^ e) where
    abbrev pub end : Place
    end = down s size nodes x width 0 left 0

    abbrev pub shared : List Tile
    shared = only (meets x e) (networks s size nodes width)

    pub sharing : shared ≡ below_end x end
    sharing =
        descent left width e 0 0 0 x m whole (le_refl width) (sym (zero-mul (2 ^ width))) (omega arith) (omega arith) mx
        ∙ ap (λ (n : ℕ). below_end x (down s size nodes x width n left 0)) (sub_self width)

    -- where the way ends at a node, they are inside the block
    inside_by : end.node < nodes → All (Inside x e) shared
    inside_by v =
        let n : width - end.depth ≡ e = omega (arith, down_internal s size nodes x width 0 left 0 v) in
        let c : cleared x e ≡ x = cleared_block m e x (omega arith) (omega (arith, pow_pos e)) ∙ sym mx in
        let q : shared ≡ under e end.node x = sharing ∙ ap (λ (i : ℕ). under i end.node (cleared x i)) n ∙ ap (under e end.node) c in
        rw q (inner e end.node x)

    -- where it ends at a terminal, it is the one that contains the block
    one_by : nodes ≤ end.node → (t : Tile) × ((shared ≡ t ∷ []) × Contains x e t)
    one_by v =
        let d = width - end.depth in
        let l : end.depth ≤ left = omega (arith, down_le s size nodes x width 0 left 0) in
        let g : d ≡ left - end.depth + e = omega arith in
        let b : x < (x / 2 ^ d + 1) * 2 ^ d = omega (arith, one_more (x / 2 ^ d) (2 ^ d), lt-div-mul-add {a = x} (pow_pos d)) in
        let c : x + 2 ^ e ≤ (x / 2 ^ d + 1) * 2 ^ d = before_end e (left - end.depth) d (x / 2 ^ d + 1) x m g mx b in
        (tile (cleared x d) d end.node, (sharing ∙ leaf s size nodes d end.node (cleared x d) v, (div-mul-le_self x (2 ^ d), omega (arith, one_more (x / 2 ^ d) (2 ^ d)))))

    pub placed : All (Inside x e) shared ⊎ ((t : Tile) × ((shared ≡ t ∷ []) × Contains x e t))
    placed = ⊎_elim (λ v. inl (inside_by v)) (λ v. inr (one_by v)) (side end.node nodes)
