-- Opening, age and the words that verification needs.
use Prim.Native.Nat.{ℕ}
use mathlib.Core.Path.{◌≡◌, refl, sym, ap, subst, ◌∙◌}
use mathlib.Core.Logic.{inl, inr}
use mathlib.Core.List.{List, [], ◌++◌, drop}
use native.Mathlib.Omega.{arith}
use lib.Dec.{leb}
use borrow.Author.Tests.{leb-true, leb-false}
use Rattle.std.specs.Prelude.{Result, Ok, Err}
use Rattle.refusal.specs.Refusals.{number_of}
use Rattle.refusal.specs.declared.Refusal.{Refusal}
use Rattle.tree.proofs.MarkerLaws.{marker_found}
use Rattle.metadata.specs.Metadata.{metadata_of}
use Rattle.metadata.specs.declared.Metadata.{Metadata}
use Rattle.opening.specs.Opening.{last_time, metadata_section, open_of, age_on, age_of}
use Rattle.opening.specs.declared.Reader.{Reader}
use Rattle.opening.proofs.OpeningLaws.{LastMarker, Decoded, Opens, Refuses, too_long, no_marker_lem, no_metadata, format_version_lem, ip_version_lem, no_nodes_lem, build_time_lem, record_size_lem, tree_too_long_lem, is_open, is_refused}
use Rattle.verify.specs.Verify.{scratch_words_on, scratch_words_of}
use Rattle.maxminddb.specs.Answers.{open_verdict, age_verdict, words_verdict}
use Rattle.order.specs.Order as order
use Rattle.order.specs.Order.{Verdict, Answers, Table, First, Refusing, Exactly}
use Rattle.order.proofs.OrderLaws.{exactly, gate, refuses_not, first_refused, first_answered}
use Rattle.promises.specs.Images.{Undecodable, Fields, open_table, time_row, age_table, scratch_words_table}

module _ (s : List ℕ) where
  -- the marker's last occurrence is one place
  one_marker : {i j : ℕ} → LastMarker s i → LastMarker s j → i ≡ j
  one_marker {i} {j} a b =
      let e = marker_found s i a.0 a.1 in
      let f = marker_found s j b.0 b.1 in
      cc

  -- what is decoded there is one thing
  one_reading : {i j : ℕ} → LastMarker s i → LastMarker s j → metadata_of (metadata_section s i) ≡ metadata_of (metadata_section s j)
  one_reading a b = ap (λ (k : ℕ). metadata_of (metadata_section s k)) (one_marker a b)

  module _ {marker : ℕ} {m : Metadata} (d : Decoded s marker m) where
    not_undecodable : Undecodable s → ⊥
    not_undecodable u =
        let e = sym d.fields ∙ one_reading d.last u.last ∙ u.wrong in
        cc

    -- a property that these fields do not have is not one of the image's
    not_fields : (P : ℕ → Metadata → Type 0) → (P marker m → ⊥) → Fields s P → ⊥
    not_fields P n f =
        let e = sym d.fields ∙ one_reading d.last f.last ∙ f.decoded in
        let g : m ≡ f.metadata = cc in
        n (subst (λ (k : ℕ). P k m) (sym (one_marker d.last f.last)) (subst (P f.marker) (sym g) f.holds))

    of_fields : (P : ℕ → Metadata → Type 0) → P marker m → Fields s P
    of_fields P p = record { marker = marker; metadata = m; last = d.last; decoded = d.fields; holds = p }

  -- the rows from 3 on decide where the metadata is decoded
  abbrev later : Table
  later = drop 3 (open_table s)

  past_metadata : {marker : ℕ} {m : Metadata} → Decoded s marker m → {v : Verdict} → First later v → First (open_table s) v
  past_metadata {marker} d f =
      inr ((λ h. let k = d.short in omega arith), inr ((λ h. h marker d.last.0), inr (not_undecodable d, f)))

  refused : {e : Refusal} → Refuses s e → First (open_table s) (order.Refuses (number_of e))
  refused (too_long h) = inl (h, refl)
  refused (no_marker_lem h f) = inr ((λ k. omega arith), inl (f, refl))
  refused (no_metadata marker h l e) =
      inr ((λ k. omega arith), inr ((λ f. f marker l.0), inl (record { marker = marker; last = l; wrong = e }, refl)))
  refused (format_version_lem marker m d f) = past_metadata d (inl (of_fields d _ f, refl))
  refused (ip_version_lem marker m d a f) = past_metadata d (inr (not_fields d _ (λ n. n a), inl (of_fields d _ f, refl)))
  refused (no_nodes_lem marker m d a v e) =
      past_metadata d (inr (not_fields d _ (λ n. n a), inr (not_fields d _ (λ n. n v), inl (of_fields d _ e, refl))))
  refused (build_time_lem marker m d a v n h) =
      past_metadata d
      (inr (not_fields d _ (λ k. k a), inr (not_fields d _ (λ k. k v), inr (not_fields d _ (λ e. omega arith), inl (of_fields d _ h, refl)))))
  refused (record_size_lem marker m d a v n b f) =
      past_metadata d
      (inr (
        not_fields d _ (λ k. k a),
        inr (
          not_fields d _ (λ k. k v),
          inr (not_fields d _ (λ e. omega arith), inr (not_fields d _ (λ e. omega arith), inl (of_fields d _ f, refl))),
        ),
      ))
  refused (tree_too_long_lem marker m d a v n b z h) =
      past_metadata d
      (inr (
        not_fields d _ (λ k. k a),
        inr (
          not_fields d _ (λ k. k v),
          inr (
            not_fields d _ (λ e. omega arith),
            inr (not_fields d _ (λ e. omega arith), inr (not_fields d _ (λ k. k z), inl (of_fields d _ h, refl))),
          ),
        ),
      ))

  opens : {marker : ℕ} {m : Metadata} → Opens s marker m → First (open_table s) Answers
  opens o =
      let d = o.decoded in
      past_metadata d
      (inr (
        not_fields d _ (λ k. k o.major),
        inr (
          not_fields d _ (λ k. k o.version),
          inr (
            not_fields d _ (λ e. omega (arith, o.nodes)),
            inr (
              not_fields d _ (λ e. omega (arith, o.build)),
              inr (not_fields d _ (λ k. k o.size), inr (not_fields d _ (λ e. omega (arith, o.tree)), refl)),
            ),
          ),
        ),
      ))

  first : (x : Result Reader Refusal) → open_of s ≡ x → First (open_table s) (open_verdict x)
  first (Ok o) e = opens (is_open s e).passes
  first (Err r) e = refused (is_refused s e)

  open_first : First (open_table s) (open_verdict (open_of s))
  open_first = first (open_of s) refl

  -- OPEN refuses exactly so
  pub «open» : Exactly (open_table s) (open_verdict (open_of s))
  «open» = exactly (open_table s) (open_verdict (open_of s)) open_first

  -- what is asked of an opened image, by rows of its own
  pub all_refuse : Refusing (open_table s)
  all_refuse =
      (refuses_not, (refuses_not, (refuses_not, (refuses_not, (refuses_not, (refuses_not, (refuses_not, (refuses_not, (refuses_not, tt)))))))))

  pub then :
      (rows : Table) (answer : Result Reader Refusal → Verdict) → ((e : Refusal) → answer (Err e) ≡ order.Refuses (number_of e))
      → ((r : Reader) → open_of s ≡ Ok r → First rows (answer (Ok r))) → First (open_table s ++ rows) (answer (open_of s))
  then rows answer refuse more = go (open_of s) refl
    where
      go : (x : Result Reader Refusal) → open_of s ≡ x → First (open_table s ++ rows) (answer x)
      go (Ok r) e = first_answered (open_table s) rows (answer (Ok r)) all_refuse (first (Ok r) e) (more r e)
      go (Err n) e = rw (refuse n) (first_refused (open_table s) rows (order.Refuses (number_of n)) (first (Err n) e) refuses_not)

  -- THE WORDS THAT VERIFICATION NEEDS
  pub scratch_words : Exactly (scratch_words_table s) (words_verdict (scratch_words_of s))
  unfolding scratch_words_of
  scratch_words = exactly (scratch_words_table s) _ (go (open_of s) refl)
    where
      go : (x : Result Reader Refusal) → open_of s ≡ x → First (open_table s) (words_verdict (scratch_words_on s x))
      go (Ok r) e = first (Ok r) e
      go (Err n) e = first (Err n) e

  -- AGE
  pub age : (time : ℕ) → Exactly (age_table s time) (age_verdict (age_of s time))
  unfolding age_of
  age time = exactly (age_table s time) _ (then (time_row time) (λ x. age_verdict (age_on time x)) (λ n. refl) (λ r e. late r))
    where
      late : (r : Reader) → First (time_row time) (age_verdict (age_on time (Ok r)))
      late r = gate age_verdict (leb time last_time) _ _ [] (λ t h. let k = leb-true time last_time t in omega arith) (λ t. leb-false time last_time t) refl (λ t. refl)
