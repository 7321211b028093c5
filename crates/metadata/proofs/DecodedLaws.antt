-- What decoded metadata says of its section: each field was read there, as a value of its type.
use Prim.Native.Nat.{ℕ, zero, suc, ◌*◌, ◌^◌, ◌<◌}
use mathlib.Core.Path.{◌≡◌, refl, sym, ◌∙◌}
use mathlib.Core.Bool.{Bool, true, false, false≢true, and-eq-true_iff}
use mathlib.Core.List.{List}
use native.Mathlib.Omega.{arith}
use lib.ListN.{length, get_or, set, length-set}
use lib.Seq.{get_or-set_same, get_or-set_other}
use Rattle.std.specs.Prelude.{cond}
use lib.Dec.{eqb}
use borrow.Author.Tests.{eqb-true, eqb-false}
use Rattle.std.specs.Prelude.{Option, Some, None, is_some}
use Rattle.std.proofs.lemmas.Option.{none-some, cond_some}
use Rattle.number.proofs.Tests.{chosen_first}
use Rattle.charge.specs.Charge.{entered}
use Rattle.charge.specs.declared.Charge.{Charge}
use Rattle.control.specs.Control.{is_type}
use Rattle.stored.specs.Stored.{resolved_at}
use Rattle.stored.specs.declared.Layout.{Layout}
use Rattle.fields.proofs.ValueLaws.{u16_below, u32_below, u64_below, Text, text_field, Texts, array_field, map_field}
use Rattle.metadata.specs.Metadata.{pair_at, field, number_in, place_in, none_seen, field_at, all_seen, metadata_from, whole_of, after, gather, nothing_charged, map_on, section_on, metadata_of}
use Rattle.metadata.specs.declared.Pair.{Pair}
use Rattle.metadata.specs.declared.Pair.TheVariants.{Known, Other}
use Rattle.metadata.specs.declared.Field.{Field}
use Rattle.metadata.specs.declared.Metadata.{Metadata}
use Rattle.metadata.proofs.MetadataLaws.{FieldRead, pair_reads}

all_seen_at : (fs : List (Option Field)) (n i : ℕ) → all_seen fs n ≡ true → i < n → is_some (field_at fs i) ≡ true
unfolding all_seen
all_seen_at fs zero i e h = absurd (omega arith)
all_seen_at fs (suc n) i e h =
    let b = (and-eq-true_iff (is_some (field_at fs n)) (all_seen fs n)).0 e in
    pick (eqb i n) refl b.0 (all_seen_at fs n i b.1)
  where
    pick : (t : Bool) → eqb i n ≡ t → is_some (field_at fs n) ≡ true → (i < n → is_some (field_at fs i) ≡ true) → is_some (field_at fs i) ≡ true
    pick true p here before = rw (eqb-true i n p) here
    pick false p here before = let q = eqb-false i n p in before (omega arith)

module _ (s : List ℕ) where
  abbrev pub ReadAt : ℕ → Option Field → Type 0
  ReadAt i f = FieldRead s i (number_in f) (place_in f)

  -- the fields seen so far were read in the section
  abbrev AllRead : List (Option Field) → Type 0
  AllRead fs = (length fs ≡ 9) × ((i : ℕ) → is_some (field_at fs i) ≡ true → ReadAt i (field_at fs i))

  none_read : AllRead none_seen
  none_read = (refl, λ i e. absurd (false≢true (sym (unseen_at i) ∙ e)))
    where
      unseen_at : (i : ℕ) → is_some (field_at none_seen i) ≡ false
      unseen_at zero = refl
      unseen_at (suc zero) = refl
      unseen_at (suc (suc zero)) = refl
      unseen_at (suc (suc (suc zero))) = refl
      unseen_at (suc (suc (suc (suc zero)))) = refl
      unseen_at (suc (suc (suc (suc (suc zero))))) = refl
      unseen_at (suc (suc (suc (suc (suc (suc zero)))))) = refl
      unseen_at (suc (suc (suc (suc (suc (suc (suc zero))))))) = refl
      unseen_at (suc (suc (suc (suc (suc (suc (suc (suc zero)))))))) = refl
      unseen_at (suc (suc (suc (suc (suc (suc (suc (suc (suc i))))))))) = refl

  more_read : (fs : List (Option Field)) (i v p : ℕ) → AllRead fs → FieldRead s i v p → AllRead (set fs i (Some (field v p)))
  more_read fs i v p a r = (simp length-set a.0, λ j e. pick j (eqb j i) refl e)
    where
      pick : (j : ℕ) (t : Bool) → eqb j i ≡ t → is_some (field_at (set fs i (Some (field v p))) j) ≡ true → ReadAt j (field_at (set fs i (Some (field v p))) j)
      pick j true q e =
          let h : i < length fs = omega (arith, a.0, r.small) in
          rw (eqb-true j i q, get_or-set_same fs i (Some (field v p)) None h) r
      pick j false q e =
          let o = get_or-set_other fs i j (Some (field v p)) None (eqb-false j i q) in
          rw o (a.1 j (rw o at e))

  -- the fields of metadata, each read in the section
  pub record Decoded (m : Metadata) : Type 0 where
    pub fields : List (Option Field)
    pub whole : metadata_from fields ≡ m
    pub reads : (i : ℕ) → i < 9 → ReadAt i (field_at fields i)

  decoded_whole : (fs : List (Option Field)) {m : Metadata} → AllRead fs → whole_of fs ≡ Some m → Decoded m
  unfolding whole_of
  decoded_whole fs {m} a e =
      let w = cond_some (all_seen fs 9) (metadata_from fs) m e in
      record { fields = fs; whole = w.1; reads = λ i h. a.1 i (all_seen_at fs 9 i w.0 h) }

  decoded_after :
      (rest : ℕ → Charge → List (Option Field) → Option Metadata) (at : ℕ) (c : Charge) (fs : List (Option Field)) (x : Option Pair) {m : Metadata}
      → ((q : ℕ) (d : Charge) (gs : List (Option Field)) → AllRead gs → rest q d gs ≡ Some m → Decoded m)
      → AllRead fs → pair_at s at c ≡ x → after rest fs x ≡ Some m → Decoded m
  decoded_after rest at c fs (Some (Known i x)) {m} then a g e =
      let f = field x.value x.place in
      then x.next x.charge (set fs i (Some f)) (more_read fs i x.value x.place a (pair_reads s at c g)) (rest_of (is_some (field_at fs i)) e)
    where
      rest_of : (t : Bool) {y : Option Metadata} → cond t None y ≡ Some m → y ≡ Some m
      rest_of true k = absurd (none-some m k)
      rest_of false k = k
  decoded_after rest at c fs (Some (Other x)) then a g e = then x.next x.charge fs a e
  decoded_after rest at c fs None {m} then a g e = absurd (none-some m e)

  decoded_gather : (n at : ℕ) (c : Charge) (fs : List (Option Field)) {m : Metadata} → AllRead fs → gather (pair_at s) n at c fs ≡ Some m → Decoded m
  unfolding gather
  decoded_gather zero at c fs a e = decoded_whole fs a e
  decoded_gather (suc n) at c fs a e = decoded_after (gather (pair_at s) n) at c fs (pair_at s at c) (λ q d gs. decoded_gather n q d gs) a refl e

  decoded_map : (n p : ℕ) (c : Option Charge) {m : Metadata} → map_on s n p c ≡ Some m → Decoded m
  decoded_map n p (Some c) e = decoded_gather n p c none_seen none_read e
  decoded_map n p None {m} e = absurd (none-some m e)

  decoded_on : (l : Option Layout) {m : Metadata} → section_on s l ≡ Some m → Decoded m
  decoded_on (Some l) {m} e = decoded_map l.size l.payload (entered nothing_charged (l.size * 2)) (chosen_first (is_type l.kind 7) (none-some m) e).1
  decoded_on None {m} e = absurd (none-some m e)

  pub decoded : {m : Metadata} → metadata_of s ≡ Some m → Decoded m
  unfolding metadata_of
  decoded e = decoded_on (resolved_at s 0) e

-- numbers have the width of their types
pub record Small (m : Metadata) : Type 0 where
  pub major : m.major < 2 ^ 16
  pub minor : m.minor < 2 ^ 16
  pub build : m.build < 2 ^ 64
  pub version : m.version < 2 ^ 16
  pub nodes : m.nodes < 2 ^ 32
  pub size : m.size < 2 ^ 16

module _ (s : List ℕ) (bytes : (i : ℕ) → get_or s i 0 < 256) {m : Metadata} (e : metadata_of s ≡ Some m) where
  d : Decoded s m
  d = decoded s e

  at_field : (i : ℕ) → i < 9 → ReadAt s i (field_at d.fields i)
  at_field i h = d.reads i h

  pub numbers_small : Small m
  numbers_small =
      rw (← d.whole)
      (record {
        major = let r = at_field 0 (omega arith) in u16_below s bytes r.at r.before r.reads;
        minor = let r = at_field 1 (omega arith) in u16_below s bytes r.at r.before r.reads;
        build = let r = at_field 2 (omega arith) in u64_below s bytes r.at r.before r.reads;
        version = let r = at_field 5 (omega arith) in u16_below s bytes r.at r.before r.reads;
        nodes = let r = at_field 7 (omega arith) in u32_below s bytes r.at r.before r.reads;
        size = let r = at_field 8 (omega arith) in u16_below s bytes r.at r.before r.reads;
      })

  -- the database type is a text in the section
  pub database_text : Text s m.database.size m.database.from
  database_text = let r = at_field 3 (omega arith) in rw (← d.whole) (text_field s bytes r.at r.before r.reads)

  -- the languages are texts, and the description twice as many
  pub languages_texts : Texts s m.languages.size m.languages.from
  languages_texts = let r = at_field 6 (omega arith) in rw (← d.whole) (array_field s r.at r.before r.reads)

  pub description_texts : Texts s (m.description.size * 2) m.description.from
  description_texts = let r = at_field 4 (omega arith) in rw (← d.whole) (map_field s r.at r.before r.reads)
