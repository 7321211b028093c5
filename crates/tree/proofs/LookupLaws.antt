-- Laws of the way down.
use Prim.Native.Nat.{ℕ, zero, suc, ◌+◌, ◌-◌, ◌*◌, ◌/◌, ◌%◌, ◌^◌, ◌≤◌, ◌<◌}
use mathlib.Core.Path.{◌≡◌, refl, ap, sym, ◌∙◌}
use mathlib.Core.Bool.{Bool, true, false, cond}
use mathlib.Core.List.{List}
use native.Mathlib.Nat.{zero-add, add-zero, suc-add, zero-div, div-eq_of_lt, mul-le-mul_right, le_trans, lt_of_lt_of_le}
use native.Mathlib.Omega.{arith}
use lib.ListN.{get_or}
use lib.Dec.{ltb}
use lib.Pow.{pow_mono}
use borrow.Author.Tests.{lt-ltb, le-ltb, ltb-true, ltb-false}
use Rattle.number.specs.Keys.{bit_from_top}
use Rattle.tree.specs.Record.{record_at, Readable, Sized}
use Rattle.tree.specs.Lookup.{Tree, down, ipv4_start_of}
use Rattle.tree.specs.declared.Place.{Place}
use Rattle.tree.proofs.RecordLaws.{Same, record_lt, record_same}

-- a place of a node and a depth
abbrev pub place : ℕ → ℕ → Place
place node depth = record { node = node; depth = depth }

-- a node of the tree can be read
pub readable : {n size nodes node bit : ℕ} → Tree n size nodes → node < nodes → bit < 2 → Readable n size node bit
readable {size = size} t h b =
    record { sized = t.sized; inside = le_trans (mul-le-mul_right (size / 4) (omega arith)) t.inside; one = b }

-- what holds of both arms holds of a choice
by_test : (P : Place → Type 0) (t : Bool) {p q : Place} → (t ≡ true → P p) → (t ≡ false → P q) → P (cond t p q)
by_test P true f g = f refl
by_test P false f g = g refl

module _ (s : List ℕ) (size nodes addr width : ℕ) where
  -- the record that the next bit leads to
  abbrev pub next : ℕ → ℕ → ℕ
  next depth node = record_at s size node (bit_from_top addr width depth)

  -- with no bit left the way stops
  pub down_none : (depth left node : ℕ) → left ≤ 0 → down s size nodes addr width depth left node ≡ place node depth
  unfolding down
  down_none depth zero node h = refl
  down_none depth (suc left) node h = absurd (omega arith)

  -- and at a terminal
  pub down_end : (depth left node : ℕ) → nodes ≤ node → down s size nodes addr width depth left node ≡ place node depth
  unfolding down
  down_end depth zero node h = refl
  down_end depth (suc left) node h = simp (le-ltb node nodes h)

  -- at a node it goes on by the next bit
  pub down_step :
      (depth left node : ℕ) → 0 < left → node < nodes
      → down s size nodes addr width depth left node
      ≡ down s size nodes addr width (depth + 1) (left - 1) (next depth node)
  unfolding down
  down_step depth zero node p h = absurd (omega arith)
  down_step depth (suc left) node p h =
      let e : suc left - 1 ≡ left = omega arith in
      rw e (simp (lt-ltb node nodes h))

  -- it reads no more bits than it may
  pub down_le : (depth left node : ℕ) → (down s size nodes addr width depth left node).depth ≤ depth + left
  unfolding down
  down_le depth zero node = omega arith
  down_le depth (suc left) node =
      by_test (λ p. p.depth ≤ depth + suc left) (ltb node nodes)
      (λ t. omega (arith, down_le (depth + 1) left (next depth node)))
      (λ t. omega arith)

  pub down_ge : (depth left node : ℕ) → depth ≤ (down s size nodes addr width depth left node).depth
  unfolding down
  down_ge depth zero node = omega arith
  down_ge depth (suc left) node =
      by_test (λ p. depth ≤ p.depth) (ltb node nodes)
      (λ t. omega (arith, down_ge (depth + 1) left (next depth node)))
      (λ t. omega arith)

  -- it stops at a node only where no bit is left
  pub down_internal :
      (depth left node : ℕ) → (down s size nodes addr width depth left node).node < nodes
      → (down s size nodes addr width depth left node).depth ≡ depth + left
  unfolding down
  down_internal depth zero node = λ h. omega arith
  down_internal depth (suc left) node =
      by_test (λ p. p.node < nodes → p.depth ≡ depth + suc left) (ltb node nodes)
      (λ t h. omega (arith, down_internal (depth + 1) left (next depth node) h))
      (λ t h. absurd (omega (arith, ltb-false node nodes t)))

  -- every record on the way has 32 bits
  pub down_lt :
      ((i : ℕ) → get_or s i 0 < 256) → size ≤ 32 → (depth left node : ℕ) → node < 2 ^ 32
      → (down s size nodes addr width depth left node).node < 2 ^ 32
  unfolding down
  down_lt bytes z depth zero node h = h
  down_lt bytes z depth (suc left) node h =
      by_test (λ p. p.node < 2 ^ 32) (ltb node nodes)
      (λ t.
      down_lt bytes z (depth + 1) left (next depth node)
      (lt_of_lt_of_le (record_lt s bytes size node (bit_from_top addr width depth)) (pow_mono z)))
      (λ t. h)

  -- where a way goes on from the place where another stopped
  abbrev pub onward : ℕ → ℕ → Place → Place
  onward depth left p = cond (ltb p.node nodes) (down s size nodes addr width depth left p.node) p

  onward_end :
      (t : Bool) (depth left : ℕ) {p : Place} (r q : Place) → ltb q.node nodes ≡ t → (t ≡ true → p ≡ onward depth left r)
      → cond t p q ≡ onward depth left (cond t r q)
  onward_end true depth left r q e f = f refl
  onward_end false depth left r q e f = rw e

  -- a way of a + b bits is one of a bits and, where that stopped at a node, one of b
  pub down_join :
      (depth a b node : ℕ)
      → down s size nodes addr width depth (a + b) node ≡ onward (depth + a) b (down s size nodes addr width depth a node)
  unfolding down
  down_join depth zero b node = pick (ltb node nodes) refl
    where
      pick : (t : Bool) → ltb node nodes ≡ t → down s size nodes addr width depth (zero + b) node ≡ onward (depth + zero) b (place node depth)
      pick true e = rw (e, zero-add, add-zero)
      pick false e = rw e (down_end depth (zero + b) node (ltb-false node nodes e))
  down_join depth (suc a) b node =
      let e : depth + suc a ≡ depth + 1 + a = omega arith in
      let r = down s size nodes addr width (depth + 1) a (next depth node) in
      rw (suc-add, e) (onward_end (ltb node nodes) (depth + 1 + a) b r (place node depth) refl (λ t. down_join (depth + 1) a b (next depth node)))

either_same : (t : Bool) {p r : Place} (q : Place) → (t ≡ true → p ≡ r) → cond t p q ≡ cond t r q
either_same true q f = f refl
either_same false q f = refl

-- the way depends on the tree's bytes alone
pub down_same :
    (s t : List ℕ) (size nodes addr width : ℕ) → Sized size → Same (nodes * (size / 4)) s t → (depth left node : ℕ)
    → down s size nodes addr width depth left node ≡ down t size nodes addr width depth left node
unfolding down
down_same s t size nodes addr width z same depth zero node = refl
down_same s t size nodes addr width z same depth (suc left) node =
    either_same (ltb node nodes) (place node depth)
    (λ e.
    let h = ltb-true node nodes e in
    rw (record_same s t same size node (bit_from_top addr width depth) z (mul-le-mul_right (size / 4) (omega arith)))
    (down_same s t size nodes addr width z same (depth + 1) left (record_at t size node (bit_from_top addr width depth))))

-- a place as seen from o levels further up
abbrev pub deeper : ℕ → Place → Place
deeper o p = place p.node (p.depth + o)

either_deeper :
    (t : Bool) (o : ℕ) {p q : Place} (r u : Place) → (t ≡ true → p ≡ deeper o r) → q ≡ deeper o u
    → cond t p q ≡ deeper o (cond t r u)
either_deeper true o r u f g = f refl
either_deeper false o r u f g = g

-- the way depends on the bits read alone, whatever the widths and the depths that they are counted from
pub down_bits :
    (s : List ℕ) (size nodes : ℕ) (a w a' w' d d' o left node : ℕ) → d ≡ d' + o
    → ((i : ℕ) → i < left → bit_from_top a w (d + i) ≡ bit_from_top a' w' (d' + i))
    → down s size nodes a w d left node ≡ deeper o (down s size nodes a' w' d' left node)
unfolding down
down_bits s size nodes a w a' w' d d' o zero node e same = ap (place node) e
down_bits s size nodes a w a' w' d d' o (suc left) node e same =
    let b : bit_from_top a w d ≡ bit_from_top a' w' d' = simp add-zero at (same 0 (omega arith)) in
    let n = record_at s size node (bit_from_top a' w' d') in
    let rest : (i : ℕ) → i < left → bit_from_top a w (d + 1 + i) ≡ bit_from_top a' w' (d' + 1 + i) = λ i h.
    let p : d + 1 + i ≡ d + (i + 1) = omega arith in
    let q : d' + 1 + i ≡ d' + (i + 1) = omega arith in
    rw (p, q) (same (i + 1) (omega arith))
    in
    either_deeper (ltb node nodes) o (down s size nodes a' w' (d' + 1) left n) (place node d')
    (λ t. rw b (down_bits s size nodes a w a' w' (d + 1) (d' + 1) o left n (omega arith) rest))
    (ap (place node) e)

-- the IPv4 start of a tree suits a handle
pub ipv4_start_fits :
    (s : List ℕ) (size nodes : ℕ) → ((i : ℕ) → get_or s i 0 < 256) → size ≤ 32
    → ((ipv4_start_of s size nodes).node < 2 ^ 32) × ((ipv4_start_of s size nodes).depth ≤ 96)
ipv4_start_fits s size nodes bytes z = (down_lt s size nodes 0 128 bytes z 0 96 0 (omega arith), down_le s size nodes 0 128 0 96 0)

-- an IPv4 address in a tree of IPv6 addresses: its way goes on from the IPv4 start and adds that depth
module _ (s : List ℕ) (size nodes addr : ℕ) (small : addr < 2 ^ 32) where
  top_bits : (i : ℕ) → i < 96 → bit_from_top addr 128 (0 + i) ≡ bit_from_top 0 128 (0 + i)
  top_bits i h =
      let l : addr < 2 ^ (127 - (0 + i)) = lt_of_lt_of_le small (pow_mono {i = 32} {j = 127 - (0 + i)} (omega arith)) in
      rw (div-eq_of_lt l, zero-div)

  low_bits : (i : ℕ) → i < 32 → bit_from_top addr 128 (96 + i) ≡ bit_from_top addr 32 (0 + i)
  low_bits i h = ap (λ (j : ℕ). addr / 2 ^ j % 2) (omega arith)

  start : down s size nodes addr 128 0 96 0 ≡ ipv4_start_of s size nodes
  start =
      let p = ipv4_start_of s size nodes in
      down_bits s size nodes addr 128 0 128 0 0 0 96 0 refl top_bits ∙ ap (place p.node) (add-zero p.depth)

  beyond_start :
      (left : ℕ) → left ≤ 32 → (p : Place) → (p.node < nodes → p.depth ≡ 96)
      → onward s size nodes addr 128 96 left p ≡ deeper p.depth (down s size nodes addr 32 0 left p.node)
  beyond_start left l p full = pick (ltb p.node nodes) refl
    where
      pick :
          (t : Bool) → ltb p.node nodes ≡ t
          → cond t (down s size nodes addr 128 96 left p.node) p ≡ deeper p.depth (down s size nodes addr 32 0 left p.node)
      pick true e =
          rw (full (ltb-true p.node nodes e))
          (down_bits s size nodes addr 128 addr 32 96 0 96 left p.node refl (λ i h. low_bits i (omega arith)))
      pick false e = rw (down_end s size nodes addr 32 0 left p.node (ltb-false p.node nodes e)) (ap (place p.node) (sym (zero-add p.depth)))

  -- as far as some of its bits lead
  pub ipv4_way_to :
      (left : ℕ) → left ≤ 32
      → down s size nodes addr 128 0 (96 + left) 0
      ≡ deeper (ipv4_start_of s size nodes).depth (down s size nodes addr 32 0 left (ipv4_start_of s size nodes).node)
  ipv4_way_to left l =
      down_join s size nodes addr 128 0 96 left 0
      ∙ ap (onward s size nodes addr 128 96 left) start
      ∙ beyond_start left l (ipv4_start_of s size nodes) (down_internal s size nodes 0 128 0 96 0)

  pub ipv4_way :
      down s size nodes addr 128 0 128 0
      ≡ deeper (ipv4_start_of s size nodes).depth (down s size nodes addr 32 0 32 (ipv4_start_of s size nodes).node)
  ipv4_way = ipv4_way_to 32 (omega arith)
