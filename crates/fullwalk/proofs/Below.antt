-- The ends of the ways from a block's place are the tree's networks below it.
use Prim.Native.Nat.{ℕ, zero, suc, ◌+◌, ◌-◌, ◌*◌, ◌^◌, ◌<◌, ◌≤◌}
use mathlib.Core.Path.{◌≡◌, refl, ap, sym, ◌∙◌}
use mathlib.Core.Bool.{Bool, ◌||◌}
use mathlib.Core.Logic.{⊎_elim}
use mathlib.Core.List.{List, [], ◌∷◌, ◌++◌, map, map-append}
use native.Mathlib.Nat.{mul-div_cancel, pow-suc, mul_assoc, mul_comm, add-mul, one-mul}
use native.Mathlib.Omega.{arith}
use lib.Bits.{bit_or, or_shifted}
use lib.Pow.{pow_pos, pow-lt}
use borrow.Author.Tests.{lt-ltb, le-ltb}
use Rattle.number.specs.Keys.{number_of, masked_to}
use Rattle.handle.specs.declared.Handle.{Handle}
use Rattle.tree.specs.Record.{record_at}
use Rattle.tiles.specs.Tiles.{Tile, tile, leaves}
use Rattle.tiles.proofs.TileLaws.{side}
use Rattle.place.specs.Kinds.{is_alias}
use Rattle.place.specs.Turns.{child_key, child_of}
use Rattle.place.specs.declared.Place.{Place}
use Rattle.carried.proofs.InShape.{number_key}
use Rattle.fullwalk.specs.Ends.{End, ends_below, tile_at}
use Rattle.fullwalk.proofs.EndLaws.{ends_here, ends_deep, ends_branch}

-- a place whose key is that of a whole block of addresses
pub record Block (width : ℕ) (p : Place) : Type 0 where
  pub index : ℕ
  pub key : number_of p.key ≡ index * 2 ^ (width - p.len)

-- a block shows as it is
pub unmasked : (width : ℕ) (p : Place) → Block width p → masked_to (number_of p.key) width p.len ≡ number_of p.key
unmasked width p b = rw b.key (ap (λ (n : ℕ). n * 2 ^ (width - p.len)) (mul-div_cancel b.index (pow_pos (width - p.len))))

-- the networks below a record: one at a terminal, a node's are those below its two
module _ (s : List ℕ) (size nodes : ℕ) where
  pub leaf : (d v k : ℕ) → nodes ≤ v → leaves s size nodes d v k ≡ tile k d v ∷ []
  unfolding leaves
  leaf zero v k h = refl
  leaf (suc d) v k h = simp (le-ltb _ _ h)

  pub branch :
      (d v k : ℕ) → v < nodes
      → leaves s size nodes (suc d) v k ≡ leaves s size nodes d (record_at s size v 0) k ++ leaves s size nodes d (record_at s size v 1) (k + 2 ^ d)
  unfolding leaves
  branch d v k h = simp (lt-ltb _ _ h)

-- the children of a block with a bit left
module _ (s : List ℕ) (size width : ℕ) (p : Place) (b : Block width p) (short : p.len < width) where
  abbrev left_of : ℕ
  left_of = width - (p.len + 1)

  one_less : width - p.len ≡ suc left_of
  one_less = omega arith

  bit_set : bit_or (number_of p.key) (2 ^ left_of) ≡ number_of p.key + 2 ^ left_of
  bit_set =
      let e : number_of p.key ≡ b.index * 2 ^ suc left_of = b.key ∙ ap (λ (n : ℕ). b.index * 2 ^ n) one_less in
      rw e (or_shifted b.index (suc left_of) (2 ^ left_of) (pow-lt (omega arith)))

  pub right_key : number_of (child_key p.key width p.len 1) ≡ number_of p.key + 2 ^ left_of
  unfolding child_key
  right_key =
      let e : width - 1 - p.len ≡ left_of = omega arith in
      number_key _ ∙ ap (λ (n : ℕ). bit_or (number_of p.key) (2 ^ n)) e ∙ bit_set

  doubled : number_of p.key ≡ b.index * 2 * 2 ^ left_of
  doubled =
      b.key ∙ ap (λ (n : ℕ). b.index * 2 ^ n) one_less ∙ ap (λ (n : ℕ). b.index * n) (pow-suc 2 left_of ∙ mul_comm (2 ^ left_of) 2)
      ∙ sym (mul_assoc b.index 2 (2 ^ left_of))

  pub left_block : Block width (child_of s size width p 0)
  unfolding child_key
  left_block = record { index = b.index * 2; key = doubled }

  pub right_block : Block width (child_of s size width p 1)
  right_block =
      record {
        index = b.index * 2 + 1;
        key =
            right_key ∙ ap (λ (n : ℕ). n + 2 ^ left_of) doubled
            ∙ sym (add-mul (b.index * 2) 1 (2 ^ left_of) ∙ ap (λ (n : ℕ). b.index * 2 * 2 ^ left_of + n) (one-mul (2 ^ left_of)));
      }

-- something of a place that is something of its network
module _ {A : Type 0} (s : List ℕ) (h : Handle) (width : ℕ) (I : Place → Type 0) (f : Place → A) (g : Tile → A) where
  abbrev child : Place → ℕ → Place
  child p bit = child_of s h.size width p bit

  -- of all places of some kind, among them a node's children, and nodes are blocks
  pub record Agrees : Type 0 where
    pub block : (p : Place) → I p → p.value < h.nodes → Block width p
    pub left : (p : Place) → I p → p.value < h.nodes → p.len < width → I (child p 0)
    pub right : (p : Place) → I p → p.value < h.nodes → p.len < width → I (child p 1)
    pub same : (p : Place) → I p → f p ≡ g (tile_at width p)

  abbrev shown : List End → List A
  shown = map (λ (e : End). f e.place)

  abbrev masked : Place → ℕ
  masked p = masked_to (number_of p.key) width p.len

  abbrev tiles : ℕ → Place → List Tile
  tiles rest p = leaves s h.size h.nodes rest p.value (masked p)

  module _ (k : Agrees) where
    one_end : (rest : ℕ) (p : Place) → I p → width ≡ p.len + rest → f p ∷ [] ≡ g (tile (masked p) rest p.value) ∷ []
    one_end rest p i e =
        let r : width - p.len ≡ rest = omega arith in
        ap (λ (a : A). a ∷ []) (k.same p i ∙ ap (λ (n : ℕ). g (tile (masked p) n p.value)) r)

    -- the networks below a node are those below its children
    tiles_branch : (rest : ℕ) (p : Place) → I p → width ≡ p.len + suc rest → p.value < h.nodes → tiles (suc rest) p ≡ tiles rest (child p 0) ++ tiles rest (child p 1)
    unfolding child_key
    tiles_branch rest p i e v =
        let l : p.len < width = omega arith in
        let b = k.block p i v in
        let r : width - (p.len + 1) ≡ rest = omega arith in
        let t : ℕ → ℕ → List Tile = λ x y.
        leaves s h.size h.nodes rest (record_at s h.size p.value 0) x ++ leaves s h.size h.nodes rest (record_at s h.size p.value 1) y
        in
        let x : masked p ≡ masked (child p 0) = unmasked width p b ∙ sym (unmasked width (child p 0) (left_block s h.size width p b l)) in
        let y : masked p + 2 ^ rest ≡ masked (child p 1) =
        ap (λ (n : ℕ). n + 2 ^ rest) (unmasked width p b) ∙ ap (λ (n : ℕ). number_of p.key + 2 ^ n) (sym r)
        ∙ sym (unmasked width (child p 1) (right_block s h.size width p b l) ∙ right_key s h.size width p b l)
        in
        branch s h.size h.nodes rest p.value (masked p) v ∙ ap (λ (n : ℕ). t n (masked p + 2 ^ rest)) x ∙ ap (t (masked (child p 0))) y

    pub ends_tiles : (rest : ℕ) (met : Bool) (p : Place) → I p → width ≡ p.len + rest → shown (ends_below s h width rest met p) ≡ map g (tiles rest p)
    unfolding leaves
    ends_tiles zero met p i e = ap shown (ends_deep s h width 0 met p refl) ∙ one_end 0 p i e
    ends_tiles (suc rest) met p i e =
        ⊎_elim
        (λ v.
        let m = met || is_alias h width p in
        let l : p.len < width = omega arith in
        let a : List End = ends_below s h width rest m (child p 0) in
        let b : List End = ends_below s h width rest m (child p 1) in
        ap shown (ends_branch s h width rest met p v)
        ∙ map-append (λ (e : End). f e.place) a b
        ∙ ap (λ (x : List A). x ++ shown b) (ends_tiles rest m (child p 0) (k.left p i v l) (omega arith))
        ∙ ap (λ (x : List A). map g (tiles rest (child p 0)) ++ x) (ends_tiles rest m (child p 1) (k.right p i v l) (omega arith))
        ∙ sym (ap (map g) (tiles_branch rest p i e v) ∙ map-append g (tiles rest (child p 0)) (tiles rest (child p 1))))
        (λ v.
        ap shown (ends_here s h width (suc rest) met p v) ∙ one_end (suc rest) p i e
        ∙ sym (ap (map g) (leaf s h.size h.nodes (suc rest) p.value (masked p) v)))
        (side p.value h.nodes)
