-- What verification makes of the scratch.
use Prim.Native.Nat.{ℕ, ◌*◌, ◌≤◌}
use mathlib.Core.Path.{◌≡◌, refl, subst}
use mathlib.Core.Bool.{Bool, true, false, cond}
use mathlib.Core.Logic.{inl, inr}
use mathlib.Core.List.{List}
use native.Mathlib.Omega.{arith}
use lib.ListN.{length}
use lib.Dec.{leb}
use borrow.Author.Tests.{leb-true}
use Rattle.std.specs.Prelude.{Result, Ok, Err}
use Rattle.refusal.specs.Refusals.{number_of}
use Rattle.refusal.specs.declared.Refusal.{Refusal}
use Rattle.refusal.specs.declared.Refusal.TheVariants as refusal
use Rattle.handle.specs.declared.Handle.{Handle}
use Rattle.handle.specs.Handle.{fits_of}
use Rattle.section.specs.Section.{section_of}
use Rattle.opening.specs.Opening.{open_of}
use Rattle.opening.specs.declared.Reader.{Reader}
use Rattle.opening.proofs.OpeningLaws.{Refuses, too_long, no_marker_lem, no_metadata, format_version_lem, ip_version_lem, no_nodes_lem, build_time_lem, record_size_lem, tree_too_long_lem, is_refused, open_fits}
use Rattle.marks.specs.Marks.{contains, distinct}
use Rattle.sweep.specs.Sweep.{data_accepted, metadata_accepted}
use Rattle.recording.specs.Recording.{Tour, tour_of}
use Rattle.verify.specs.Verify.{Verified, metadata_in, words_of, separator_of, all_zero, gate, database_on, database_of, verdict_of, scratch_words_of, out, cleared, verify_on, verify_of}
use Rattle.accepted.specs.Accepted.{Bytes, Untouching, Leaves, verify_walk, Walking, met_bad_record, met_too_deep, too_many, budget_spent}
use Rattle.accepted.proofs.Tours.{Ends, all, refused, tour_ends}

-- NO ANSWER HANGS ON WHAT THE SCRATCH HELD: its length alone is looked at
pub scratch_unread : (s ws vs : List ℕ) (budget : ℕ) → length ws ≡ length vs → (verify_of s ws budget).answer ≡ (verify_of s vs budget).answer
unfolding verify_of
scratch_unread s ws vs budget e = by (open_of s)
  where
    either : (t : Bool) (v : Verified) (x y : List ℕ) → (cond t (out v x) (out (Err refusal.Scratch) ws)).answer ≡ (cond t (out v y) (out (Err refusal.Scratch) vs)).answer
    either true v x y = refl
    either false v x y = refl

    by : (o : Result Reader Refusal) → (verify_on s ws budget o).answer ≡ (verify_on s vs budget o).answer
    by (Ok r) = rw e (either (leb (words_of s r.handle) (length vs)) _ _ _)
    by (Err r) = refl

-- ---- the answer tells whether the scratch was touched

-- a number that is none of 24, 1 to 8 and 22
abbrev IsLate : Refusal → Type 0
IsLate r = (9 ≤ number_of r) × (number_of r ≤ 21)

abbrev Late : Verified → Type 0
Late (Ok n) = Unit
Late (Err r) = IsLate r

late_touches : (v : Verified) (r : Refusal) → Late v → v ≡ Err r → Untouching (number_of r) → ⊥
late_touches (Ok n) r l e u = cc
late_touches (Err k) r l e u = let f : k ≡ r = cc in outside (number_of r) (subst IsLate f l) u
  where
    outside : (n : ℕ) → (9 ≤ n) × (n ≤ 21) → Untouching n → ⊥
    outside n l (inl u) = omega (arith, l.1)
    outside n l (inr (inl u)) = omega (arith, l.0, u.1)
    outside n l (inr (inr u)) = omega (arith, l.1)

late_gate : (b : Bool) (r : Refusal) (v : Verified) → IsLate r → Late v → Late (gate b r v)
late_gate true r v late l = l
late_gate false r v late l = late

late_walk : {r : Refusal} → Walking r → IsLate r
late_walk met_bad_record = (omega arith, omega arith)
late_walk met_too_deep = (omega arith, omega arith)
late_walk too_many = (omega arith, omega arith)
late_walk budget_spent = (omega arith, omega arith)

module _ (s : List ℕ) (h : Handle) (fits : fits_of h (length s) ≡ true) where
  late_database : (t : Tour) → Ends s h fits (3 * h.nodes) (verify_walk s h) t → Late (database_on s h t)
  late_database t (all l w) =
      late_gate (all_zero (separator_of s h.base)) refusal.Separator _ (omega arith, omega arith)
      (late_gate (data_accepted (section_of s h) (contains t.offsets)) refusal.Malformed (Ok (distinct t.offsets)) (omega arith, omega arith) tt)
  late_database t (refused r w offsets) = late_walk w

late_verdict : (s : List ℕ) (r : Reader) (budget : ℕ) → fits_of r.handle (length s) ≡ true → Late (verdict_of s r budget)
unfolding verdict_of database_of
late_verdict s r budget fits =
    late_gate (metadata_accepted (metadata_in s r.handle)) refusal.Malformed _ (omega arith, omega arith)
    (late_gate (leb 1 r.metadata.database.size) refusal.NoDatabaseType _ (omega arith, omega arith)
    (late_gate (leb 1 r.metadata.description.size) refusal.NoDescription _ (omega arith, omega arith)
    (late_database s r.handle fits (tour_of s r.handle budget) (tour_ends s r.handle fits budget))))

early : {s : List ℕ} {r : Refusal} → Refuses s r → Untouching (number_of r)
early (too_long h) = inl refl
early (no_marker_lem h f) = inr (inl (omega arith, omega arith))
early (no_metadata m h l e) = inr (inl (omega arith, omega arith))
early (format_version_lem marker m d f) = inr (inl (omega arith, omega arith))
early (ip_version_lem marker m d a f) = inr (inl (omega arith, omega arith))
early (no_nodes_lem marker m d a v e) = inr (inl (omega arith, omega arith))
early (build_time_lem marker m d a v n h) = inr (inl (omega arith, omega arith))
early (record_size_lem marker m d a v n b f) = inr (inl (omega arith, omega arith))
early (tree_too_long_lem marker m d a v n b z h) = inr (inl (omega arith, omega arith))

-- WHAT IS LEFT IN THE SCRATCH
pub leaves : (s ws : List ℕ) (budget : ℕ) → Bytes s → Leaves s ws (verify_of s ws budget)
unfolding verify_of scratch_words_of
leaves s ws budget bytes = by (open_of s) refl
  where
    untouching : (r : Refusal) → Untouching (number_of r) → Leaves s ws (out (Err r) ws)
    untouching r u =
        record { untouched = λ k e f. refl; clears = λ n. absurd (n r refl u) }

    clearing : (r : Reader) → open_of s ≡ Ok r → words_of s r.handle ≤ length ws
        → Leaves s ws (out (verdict_of s r budget) (cleared (words_of s r.handle) ws))
    clearing r e f =
        record {
          untouched = λ k g u. absurd (late_touches (verdict_of s r budget) k (late_verdict s r budget (open_fits s bytes e)) g u);
          clears = λ n. (words_of s r.handle, rw e, f, refl);
        }

    room : (r : Reader) → open_of s ≡ Ok r → (t : Bool) → leb (words_of s r.handle) (length ws) ≡ t
        → Leaves s ws (cond t (out (verdict_of s r budget) (cleared (words_of s r.handle) ws)) (out (Err refusal.Scratch) ws))
    room r e true f = clearing r e (leb-true _ _ f)
    room r e false f = untouching refusal.Scratch (inr (inr refl))

    by : (o : Result Reader Refusal) → open_of s ≡ o → Leaves s ws (verify_on s ws budget o)
    by (Ok r) e = room r e (leb (words_of s r.handle) (length ws)) refl
    by (Err r) e = untouching r (early (is_refused s e))
