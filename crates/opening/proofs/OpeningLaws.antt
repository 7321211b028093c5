-- When an image opens and when it is refused, as properties of the image; and that the handle of an opened image fits it.
use Prim.Native.Nat.{ℕ, ◌+◌, ◌-◌, ◌^◌, ◌≤◌, ◌<◌}
use mathlib.Core.Path.{◌≡◌, refl, sym, ap, subst, ◌∙◌}
use mathlib.Core.Bool.{Bool, true, false, cond, false≢true}
use mathlib.Core.Logic.{◌⊎◌, inl, inr, ⊎_elim}
use mathlib.Core.List.{List}
use native.Mathlib.Omega.{arith}
use lib.ListN.{length, get_or}
use lib.Seq.{get_or-drop}
use lib.Dec.{leb, eqb}
use lib.IntN.{pos, ◌-ℤ◌}
use borrow.Author.Tests.{le-leb, lt-leb, leb-true, leb-false, eqb-true, eqb-false}
use Rattle.std.proofs.lemmas.Bool.{or_cases}
use Rattle.std.specs.Prelude.{Option, Some, None, Ok, Err}
use Rattle.refusal.specs.declared.Refusal.{Refusal}
use Rattle.refusal.specs.declared.Refusal.TheVariants as refusal
use Rattle.handle.specs.Handle.{image_bound, version_known, size_known, data_start, fits_of}
use Rattle.handle.proofs.HandleLaws.{Sized, sized, size_known_lem, size_le, Fit, fits_of_lem}
use Rattle.tree.specs.Marker.{marker_of}
use Rattle.tree.specs.Lookup.{ipv4_start_of}
use Rattle.tree.specs.declared.Place.{Place}
use Rattle.tree.proofs.MarkerLaws.{Stands, marker_at, marker_nowhere, marker_found, marker_missing}
use Rattle.tree.proofs.LookupLaws.{ipv4_start_fits}
use Rattle.metadata.specs.Metadata.{metadata_of}
use Rattle.metadata.specs.declared.Metadata.{Metadata}
use Rattle.metadata.proofs.DecodedLaws.{numbers_small}
use Rattle.opening.specs.Opening.{last_time, metadata_section, ipv4_of, handle_of, reader_of, checked, on_read, on_marker, open_of, age_of}
use Rattle.opening.specs.declared.Reader.{Reader}
use Rattle.opening.proofs.TreeLaws.{marker_inside}
use Rattle.opening.proofs.CheckLaws as check

-- an image that is not longer than the bound
abbrev pub Short : List ℕ → Type 0
Short s = length s ≤ image_bound

-- the marker's last occurrence
abbrev pub LastMarker : List ℕ → ℕ → Type 0
LastMarker s i = Stands s i × ((j : ℕ) → i < j → Stands s j → ⊥)

abbrev pub Versioned : ℕ → Type 0
Versioned version = (version ≡ 4) ⊎ (version ≡ 6)

-- an image that is not too long, its marker, and its metadata decoded
pub record Decoded (s : List ℕ) (marker : ℕ) (m : Metadata) : Type 0 where
  pub short : Short s
  pub last : LastMarker s marker
  pub fields : metadata_of (metadata_section s marker) ≡ Some m

-- none of the refusals holds
pub record Opens (s : List ℕ) (marker : ℕ) (m : Metadata) : Type 0 where
  pub decoded : Decoded s marker m
  pub major : m.major ≡ 2
  pub version : Versioned m.version
  pub nodes : 1 ≤ m.nodes
  pub build : m.build ≤ last_time
  pub size : Sized m.size
  pub tree : data_start m.nodes m.size ≤ marker

-- a refusal holds, and none before it in the order of opening
pub data Refuses (s : List ℕ) : Refusal → Type 0 where
  too_long : image_bound < length s → Refuses s refusal.ImageTooLong
  no_marker_lem : Short s → ((i : ℕ) → Stands s i → ⊥) → Refuses s refusal.NoMarker
  no_metadata : (marker : ℕ) → Short s → LastMarker s marker → metadata_of (metadata_section s marker) ≡ None → Refuses s refusal.Metadata
  format_version_lem : (marker : ℕ) (m : Metadata) → Decoded s marker m → (m.major ≡ 2 → ⊥) → Refuses s refusal.FormatVersion
  ip_version_lem : (marker : ℕ) (m : Metadata) → Decoded s marker m → m.major ≡ 2 → (Versioned m.version → ⊥) → Refuses s refusal.IpVersion
  no_nodes_lem : (marker : ℕ) (m : Metadata) → Decoded s marker m → m.major ≡ 2 → Versioned m.version → m.nodes ≡ 0 → Refuses s refusal.NoNodes
  build_time_lem : (marker : ℕ) (m : Metadata) → Decoded s marker m → m.major ≡ 2 → Versioned m.version → 1 ≤ m.nodes → last_time < m.build → Refuses s refusal.BuildTime
  record_size_lem : (marker : ℕ) (m : Metadata) → Decoded s marker m → m.major ≡ 2 → Versioned m.version → 1 ≤ m.nodes → m.build ≤ last_time → (Sized m.size → ⊥) → Refuses s refusal.RecordSize
  tree_too_long_lem : (marker : ℕ) (m : Metadata) → Decoded s marker m → m.major ≡ 2 → Versioned m.version → 1 ≤ m.nodes → m.build ≤ last_time → Sized m.size → marker < data_start m.nodes m.size → Refuses s refusal.TreeTooLong

decide : (t : Bool) → (t ≡ true) ⊎ (t ≡ false)
decide true = inl refl
decide false = inr refl

-- a property and its test
false_where : (t : Bool) {P : Type 0} → (t ≡ true → P) → (P → ⊥) → t ≡ false
false_where true f n = absurd (n (f refl))
false_where false f n = refl

versioned : (v : ℕ) → version_known v ≡ true → Versioned v
versioned v e = ⊎_elim (λ p. inl (eqb-true v 4 p)) (λ p. inr (eqb-true v 6 p)) (or_cases (eqb v 4) (eqb v 6) e)

known : {v : ℕ} → Versioned v → version_known v ≡ true
known (inl e) = rw e
known (inr e) = rw e

unknown : {v : ℕ} → (Versioned v → ⊥) → version_known v ≡ false
unknown {v} n = false_where (version_known v) (versioned v) n

unsized : {n : ℕ} → (Sized n → ⊥) → size_known n ≡ false
unsized {n} f = false_where (size_known n) (sized n) f

module _ (s : List ℕ) where
  -- an image longer than the bound, whatever it holds
  pub open_long : image_bound < length s → open_of s ≡ Err refusal.ImageTooLong
  unfolding open_of
  open_long h = simp (lt-leb (length s) image_bound h)

  open_short : {x : Option ℕ} → Short s → marker_of s ≡ x → open_of s ≡ on_marker s x
  unfolding open_of
  open_short h e = simp (le-leb (length s) image_bound h, e)

  open_marked : {marker : ℕ} {x : Option Metadata} → Short s → LastMarker s marker → metadata_of (metadata_section s marker) ≡ x → open_of s ≡ on_read s marker x
  open_marked {marker} h l e = open_short h (marker_found s marker l.0 l.1) ∙ ap (on_read s marker) e

  open_decoded : {marker : ℕ} {m : Metadata} → Decoded s marker m → open_of s ≡ checked s marker m
  open_decoded d = open_marked d.short d.last d.fields

  -- an image opens where no refusal holds
  pub opens : {marker : ℕ} {m : Metadata} → Opens s marker m → open_of s ≡ Ok (reader_of s marker m)
  opens {marker} {m} o =
      open_decoded o.decoded ∙ check.all_passed s marker m o.major (known o.version) o.nodes o.build (size_known_lem o.size) o.tree

  -- and is refused with the first that holds
  pub refuses : {n : Refusal} → Refuses s n → open_of s ≡ Err n
  refuses (too_long h) = open_long h
  refuses (no_marker_lem h f) = open_short h (marker_missing s f)
  refuses (no_metadata marker h l e) = open_marked h l e
  refuses (format_version_lem marker m d f) = open_decoded d ∙ check.major_refused s marker m f
  refuses (ip_version_lem marker m d a f) = open_decoded d ∙ check.version_refused s marker m a (unknown f)
  refuses (no_nodes_lem marker m d a v e) = open_decoded d ∙ check.nodes_refused s marker m a (known v) (omega arith)
  refuses (build_time_lem marker m d a v n h) = open_decoded d ∙ check.build_refused s marker m a (known v) n h
  refuses (record_size_lem marker m d a v n b f) = open_decoded d ∙ check.size_refused s marker m a (known v) n b (unsized f)
  refuses (tree_too_long_lem marker m d a v n b z h) = open_decoded d ∙ check.tree_refused s marker m a (known v) n b (size_known_lem z) h

  data Verdict : Type 0 where
    opened : (marker : ℕ) (m : Metadata) → Opens s marker m → Verdict
    refused : (n : Refusal) → Refuses s n → Verdict

  module _ (marker : ℕ) (m : Metadata) (d : Decoded s marker m) where
    by_tree : m.major ≡ 2 → Versioned m.version → 1 ≤ m.nodes → m.build ≤ last_time → Sized m.size → Verdict
    by_tree a v n b z =
        ⊎_elim
        (λ t. opened marker m (record { decoded = d; major = a; version = v; nodes = n; build = b; size = z; tree = leb-true _ _ t }))
        (λ t. refused _ (tree_too_long_lem marker m d a v n b z (leb-false _ _ t)))
        (decide (leb (data_start m.nodes m.size) marker))

    by_size : m.major ≡ 2 → Versioned m.version → 1 ≤ m.nodes → m.build ≤ last_time → Verdict
    by_size a v n b =
        ⊎_elim
        (λ t. by_tree a v n b (sized m.size t))
        (λ t. refused _ (record_size_lem marker m d a v n b (λ z. false≢true (sym t ∙ size_known_lem z))))
        (decide (size_known m.size))

    by_build : m.major ≡ 2 → Versioned m.version → 1 ≤ m.nodes → Verdict
    by_build a v n =
        ⊎_elim
        (λ t. by_size a v n (leb-true _ _ t))
        (λ t. refused _ (build_time_lem marker m d a v n (leb-false _ _ t)))
        (decide (leb m.build last_time))

    by_nodes : m.major ≡ 2 → Versioned m.version → Verdict
    by_nodes a v =
        ⊎_elim
        (λ t. by_build a v (leb-true _ _ t))
        (λ t. refused _ (no_nodes_lem marker m d a v (let h = leb-false 1 m.nodes t in omega arith)))
        (decide (leb 1 m.nodes))

    by_version : m.major ≡ 2 → Verdict
    by_version a =
        ⊎_elim
        (λ t. by_nodes a (versioned m.version t))
        (λ t. refused _ (ip_version_lem marker m d a (λ v. false≢true (sym t ∙ known v))))
        (decide (version_known m.version))

    by_major : Verdict
    by_major =
        ⊎_elim
        (λ t. by_version (eqb-true m.major 2 t))
        (λ t. refused _ (format_version_lem marker m d (eqb-false m.major 2 t)))
        (decide (eqb m.major 2))

  by_metadata : (marker : ℕ) (x : Option Metadata) → Short s → LastMarker s marker → metadata_of (metadata_section s marker) ≡ x → Verdict
  by_metadata marker (Some m) h l e = by_major marker m (record { short = h; last = l; fields = e })
  by_metadata marker None h l e = refused _ (no_metadata marker h l e)

  by_marker : (x : Option ℕ) → Short s → marker_of s ≡ x → Verdict
  by_marker (Some marker) h e = by_metadata marker (metadata_of (metadata_section s marker)) h (marker_at s marker e) refl
  by_marker None h e = refused _ (no_marker_lem h (marker_nowhere s e))

  verdict : Verdict
  verdict =
      ⊎_elim
      (λ t. by_marker (marker_of s) (leb-true _ _ t) refl)
      (λ t. refused _ (too_long (leb-false _ _ t)))
      (decide (leb (length s) image_bound))

  never : {o : Reader} {n : Refusal} → Ok o ≡ Err n → ⊥
  never e = let z : ◌≡◌ {A = ℕ} 0 1 = cc in omega arith

  -- what opened says: no refusal holds, and the reader is made of the image's own numbers
  pub record Open (o : Reader) : Type 0 where
    pub marker : ℕ
    pub metadata : Metadata
    pub passes : Opens s marker metadata
    pub reader : o ≡ reader_of s marker metadata

  pub is_open : {o : Reader} → open_of s ≡ Ok o → Open o
  is_open {o} e = by verdict
    where
      by : Verdict → Open o
      by (opened marker m p) =
          let f = opens p in
          record { marker = marker; metadata = m; passes = p; reader = cc }
      by (refused n r) = absurd (never (sym e ∙ refuses r))

  pub is_refused : {n : Refusal} → open_of s ≡ Err n → Refuses s n
  is_refused {n} e = by verdict
    where
      by : Verdict → Refuses s n
      by (opened marker m p) = absurd (never (sym (opens p) ∙ e))
      by (refused k r) =
          let f = refuses r in
          let g : k ≡ n = cc in
          subst (Refuses s) g r

-- the build time of an opened image
pub open_build : (s : List ℕ) {o : Reader} → open_of s ≡ Ok o → o.metadata.build ≤ last_time
open_build s e = let p = is_open s e in rw p.reader p.passes.build

-- the age of an image that opens, and of one that does not
module _ (s : List ℕ) (time : ℕ) where
  pub age_is : {o : Reader} → open_of s ≡ Ok o → time ≤ last_time → age_of s time ≡ Ok (pos time -ℤ pos o.metadata.build)
  unfolding age_of
  age_is e h = simp (e, le-leb time last_time h)

  pub age_late : {o : Reader} → open_of s ≡ Ok o → last_time < time → age_of s time ≡ Err refusal.Time
  unfolding age_of
  age_late e h = simp (e, lt-leb time last_time h)

  pub age_refused : {n : Refusal} → open_of s ≡ Err n → age_of s time ≡ Err n
  unfolding age_of
  age_refused e = simp e

-- the handle of an opened image fits it
module _ (s : List ℕ) (bytes : (i : ℕ) → get_or s i 0 < 256) where
  Narrow : Place → Type 0
  Narrow p = (p.node ≤ 2 ^ 32 - 1) × (p.depth ≤ 96)

  ipv4_narrow : (m : Metadata) → Sized m.size → Narrow (ipv4_of s m)
  unfolding Narrow
  ipv4_narrow m z = pick (eqb m.version 6)
    where
      pick : (t : Bool) → Narrow (cond t (ipv4_start_of s m.size m.nodes) (record { node = 0; depth = 0 }))
      pick true = let f = ipv4_start_fits s m.size m.nodes bytes (size_le z) in (omega (arith, f.0), f.1)
      pick false = (omega arith, omega arith)

  section_bytes : (marker i : ℕ) → get_or (metadata_section s marker) i 0 < 256
  section_bytes marker i = rw get_or-drop (bytes (marker + 14 + i))

  reader_fits : (marker : ℕ) (m : Metadata) → Opens s marker m → Fit (handle_of s marker m) (length s)
  unfolding Narrow
  reader_fits marker m o =
      let d = o.decoded in
      let n = ipv4_narrow m o.size in
      record {
        short = d.short;
        versioned = o.version;
        some = o.nodes;
        few = omega (arith, (numbers_small (metadata_section s marker) (section_bytes marker) d.fields).nodes);
        sizes = o.size;
        based = refl;
        marked = omega (arith, o.tree);
        whole = marker_inside s (marker_found s marker d.last.0 d.last.1);
        shallow = n.1;
        narrow = n.0;
        only4 = λ e. rw e (refl, refl);
      }

  pub open_fits : {o : Reader} → open_of s ≡ Ok o → fits_of o.handle (length s) ≡ true
  open_fits e =
      let p = is_open s e in
      rw p.reader (fits_of_lem (handle_of s p.marker p.metadata) (length s) (reader_fits p.marker p.metadata p.passes))
