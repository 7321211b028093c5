-- What an accepted image is.
use Prim.Native.Nat.{ℕ, ◌*◌, ◌≤◌, ◌<◌}
use mathlib.Core.Path.{◌≡◌, refl, sym, ap, subst, ◌∙◌}
use mathlib.Core.Bool.{Bool, true, false, cond, ◌&&◌, ◌||◌, false≢true}
use mathlib.Core.List.{List, [], ◌∷◌}
use native.Mathlib.Omega.{arith}
use lib.ListN.{length, replicate, length-take, length-drop}
use lib.Dec.{eqb, leb}
use borrow.Author.Tests.{eqb-true, leb-true}
use Rattle.number.proofs.Tests.{chosen_first}
use Rattle.std.specs.Prelude.{Result, Ok, Err}
use Rattle.refusal.specs.declared.Refusal.{Refusal}
use Rattle.refusal.specs.declared.Refusal.TheVariants as refusal
use Rattle.handle.specs.declared.Handle.{Handle}
use Rattle.handle.specs.Handle.{fits_of}
use Rattle.handle.proofs.HandleLaws.{fit}
use Rattle.section.specs.Section.{section_of}
use Rattle.opening.specs.Opening.{open_of}
use Rattle.opening.specs.declared.Reader.{Reader}
use Rattle.opening.proofs.OpeningLaws.{open_fits}
use Rattle.marks.specs.Marks.{contains, distinct, Below}
use Rattle.marks.proofs.MarkLaws.{size_distinct}
use Rattle.graph.specs.Sets.{Set}
use Rattle.sweep.specs.Sweep.{data_accepted, metadata_accepted}
use Rattle.sweep.proofs.Swept.{data_sound, metadata_sound}
use Rattle.recording.specs.Recording.{Tour, tour_of}
use Rattle.recording.proofs.TourLaws.{tour_below}
use Rattle.verify.specs.Verify.{Verified, metadata_in, words_of, separator_of, all_zero, database_on, database_of, verdict_of, out, cleared, verify_on, verify_of}
use Rattle.accepted.specs.Accepted.{Bytes, verify_walk, Whole}
use Rattle.accepted.specs.Values.{Reached, Usable}
use Rattle.accepted.proofs.Ways.{way_ends, way_faulty}
use Rattle.accepted.proofs.Tours.{Ends, all, refused, uncut, tour_ends, visits}
use Rattle.accepted.proofs.Reading.{sound_usable}

never : {r : Refusal} {n : ℕ} → ◌≡◌ {A = Verified} (Err r) (Ok n) → ⊥
never e = cc

-- bytes that are all 0
zeros : (l : List ℕ) → all_zero l ≡ true → l ≡ replicate (length l) 0
unfolding all_zero
zeros [] e = refl
zeros (b ∷ l) e =
    let c = both (eqb b 0) (all_zero l) e in
    rw (eqb-true b 0 c.0) (ap (λ (k : List ℕ). 0 ∷ k) (zeros l c.1))
  where
    both : (a b : Bool) → (a && b) ≡ true → (a ≡ true) × (b ≡ true)
    both true b e = (refl, e)
    both false b e = absurd (false≢true e)

-- a number of a list that is below m
below_in : (m : ℕ) (l : List ℕ) (o : ℕ) → Below m l → contains l o ≡ true → o < m
unfolding Below contains
below_in m [] o b e = absurd (false≢true e)
below_in m (x ∷ l) o b e = by (eqb o x) refl e (λ f. below_in m l o b.1 f)
  where
    by : (t : Bool) → eqb o x ≡ t → (t || contains l o) ≡ true → (contains l o ≡ true → o < m) → o < m
    by true f g rest = rw (eqb-true o x f) b.0
    by false f g rest = rest g

module _ (s : List ℕ) (h : Handle) (fits : fits_of h (length s) ≡ true) where
  separator_long : length (separator_of s h.base) ≡ 16
  separator_long =
      let f = fit h (length s) fits in
      let a : 16 ≤ h.base = omega (arith, f.based) in
      let b : h.base ≤ length s = omega (arith, f.marked, f.whole) in
      simp (length-take, length-drop) (omega arith)

  separator_zero : all_zero (separator_of s h.base) ≡ true → separator_of s h.base ≡ replicate 16 0
  separator_zero e = zeros (separator_of s h.base) e ∙ ap (λ (k : ℕ). replicate k 0) separator_long

-- from the places that verification was begun at
reached_more : (d : List ℕ) (f g : Set) → ((t : ℕ) → f t ≡ true → g t ≡ true) → {p : ℕ} → Reached d f p → Reached d g p
reached_more d f g more (Reached.first h e) = Reached.first h (more _ e)
reached_more d f g more (Reached.pointed r a b) = Reached.pointed (reached_more d f g more r) a b
reached_more d f g more (Reached.child i r a b c) = Reached.child i (reached_more d f g more r) a b c

metadata_usable_lem : (m : List ℕ) → metadata_accepted m ≡ true → (p : ℕ) → Reached m (eqb 0) p → Usable m p
metadata_usable_lem m e p r =
    let x = metadata_sound m e in
    sound_usable m x.0 x.2 p (reached_more m (eqb 0) x.0 (λ t f. subst (λ (k : ℕ). x.0 k ≡ true) (eqb-true 0 t f) x.1) r)

module _ (s : List ℕ) (bytes : Bytes s) (n : ℕ) where
  module _ (r : Reader) (opens : open_of s ≡ Ok r) where
    abbrev h : Handle
    h = r.handle

    fits : fits_of h (length s) ≡ true
    fits = open_fits s bytes opens

    module _ (meta : metadata_accepted (metadata_in s h) ≡ true) (named : 1 ≤ r.metadata.database.size) (described : 1 ≤ r.metadata.description.size) where
      whole_tour : (t : Tour) → Below (length (section_of s h)) t.offsets → Ends s h fits (3 * h.nodes) (verify_walk s h) t → database_on s h t ≡ Ok n → Whole s n
      whole_tour t below (refused r w offsets) e = absurd (never e)
      whole_tour t below (all l f) e =
          let a = chosen_first (all_zero (separator_of s h.base)) never e in
          let b = chosen_first (data_accepted (section_of s h) (contains t.offsets)) never a.1 in
          let c : Ok (distinct t.offsets) ≡ Ok n = b.1 in
          let x = data_sound (section_of s h) (contains t.offsets) b.0 in
          let k : distinct t.offsets ≡ n = cc in
          record {
            reader = r;
            opened = opens;
            named = named;
            described = described;
            checked =
                record {
                  separated = separator_zero s h fits a.0;
                  networks = l;
                  walked = f.walked;
                  uncut = λ v. uncut s h fits v f.walked;
                  few = f.few;
                  faultless = λ p v n. (visits s h fits (contains t.offsets) f.clear p v n).faultless;
                  known = f.known;
                  covered = λ o k. (visits s h fits (contains t.offsets) f.clear k.place k.visited k.own).known o k.length k.leads;
                  sure = λ x free k.
                      let e = way_ends s h x free in
                      (visits s h fits (contains t.offsets) f.clear e.place e.visited (free e.place e.way)).faultless (way_faulty s h x free e k);
                  found = λ x free o len k.
                      let e = way_ends s h x free in
                      (visits s h fits (contains t.offsets) f.clear e.place e.visited (free e.place e.way)).known o len (rw e.same at k);
                  inside = below;
                  counted = sym (size_distinct t.offsets (length (section_of s h)) below ∙ k);
                  reaches = λ o k. Reached.first (below_in (length (section_of s h)) t.offsets o below k) k;
                  usable = sound_usable (section_of s h) (contains t.offsets) x;
                  metadata_usable = metadata_usable_lem (metadata_in s h) meta;
                };
          }

    whole_verdict : (budget : ℕ) → verdict_of s r budget ≡ Ok n → Whole s n
    unfolding verdict_of database_of
    whole_verdict budget e =
        let a = chosen_first (metadata_accepted (metadata_in s h)) never e in
        let b = chosen_first (leb 1 r.metadata.database.size) never a.1 in
        let c = chosen_first (leb 1 r.metadata.description.size) never b.1 in
        whole_tour a.0 (leb-true _ _ b.0) (leb-true _ _ c.0) (tour_of s h budget) (tour_below s h budget) (tour_ends s h fits budget) c.1

  -- AN ACCEPTED IMAGE IS WHOLE
  pub accepted : (ws : List ℕ) (budget : ℕ) → (verify_of s ws budget).answer ≡ Ok n → Whole s n
  unfolding verify_of
  accepted ws budget e = by (open_of s) refl e
    where
      room : (r : Reader) → open_of s ≡ Ok r → (t : Bool)
          → (cond t (out (verdict_of s r budget) (cleared (words_of s r.handle) ws)) (out (Err refusal.Scratch) ws)).answer ≡ Ok n → Whole s n
      room r o true f = whole_verdict r o budget f
      room r o false f = absurd (never f)

      by : (o : Result Reader Refusal) → open_of s ≡ o → (verify_on s ws budget o).answer ≡ Ok n → Whole s n
      by (Ok r) o f = room r o (leb (words_of s r.handle) (length ws)) f
      by (Err r) o f = absurd (never f)
