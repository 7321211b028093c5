-- Laws of verification: each step of the code, by the words that it finds.
use Prim.Native.Nat.{ℕ, ◌-◌, ◌*◌, ◌/◌, ◌≤◌}
use mathlib.Core.Path.{◌≡◌, sym, ap, ◌∙◌}
use mathlib.Core.Bool.{true, false}
use mathlib.Core.List.{List, [], ◌∷◌, ◌++◌}
use native.Mathlib.Omega.{arith}
use lib.ListN.{length, take, drop, replicate, length-replicate, length-take, length-drop}
use lib.Seq.{take_all, drop_at}
use Rattle.std.proofs.lemmas.List.{append-nil}
use Rattle.std.proofs.Math.Seq.{drop-length}
use Rattle.std.specs.Prelude.{Option, Some, None, Ok, Err}
use Rattle.refusal.specs.declared.Refusal.{Refusal}
use Rattle.refusal.specs.declared.Refusal.TheVariants as refusal
use Rattle.handle.specs.declared.Handle.{Handle}
use Rattle.handle.specs.Handle.{fits_of}
use Rattle.handle.proofs.HandleLaws.{fit}
use Rattle.section.specs.Section.{section_of}
use Rattle.section.proofs.SectionLaws.{section_length}
use Rattle.marks.specs.Marks.{Below, contains, distinct, marked, record_each, size_of}
use Rattle.marks.proofs.MarkLaws.{length_each, count_cleared}
use Rattle.graph.specs.Graph.{Res, res}
use Rattle.graph.specs.Words.{needed, on_words}
use Rattle.graph.specs.declared.Skipped.{Skipped}
use Rattle.sweep.specs.Sweep.{accepts, data_at, metadata_at, data_accepted, metadata_accepted}
use Rattle.sweep.proofs.Agree.{data_verdict, metadata_verdict}
use Rattle.recording.specs.Recording as recording
use Rattle.recording.specs.Recording.{tour_of}
use Rattle.recording.proofs.TourLaws.{tour_below}
use Rattle.verify.specs.Verify.{metadata_in, words_of, separator_of, all_zero, database_of, database_words_of}

-- the words are enough for both sections
pub words_metadata : (s : List ℕ) (h : Handle) → needed (length (metadata_in s h)) ≤ words_of s h
words_metadata s h = simp length-drop (omega arith)

pub words_section : (s : List ℕ) (h : Handle) → needed (length (section_of s h)) ≤ words_of s h
words_section s h = omega (arith, section_length s h)

pub words_small : (s : List ℕ) (h : Handle) → fits_of h (length s) ≡ true → words_of s h ≤ 67108864
words_small s h e = let f = fit h (length s) e in omega (arith, f.short, f.whole)

-- the metadata's verdict, over words that are 0
pub metadata_zeros :
    (m ws : List ℕ) (n : ℕ) → needed (length m) ≤ n → ws ≡ replicate n 0 → accepts (metadata_at on_words m ws).answer ≡ metadata_accepted m
metadata_zeros m ws n h e = rw (e, ← append-nil {A = ℕ} (replicate n 0)) (metadata_verdict m n [] h)

module _ (s : List ℕ) (h : Handle) (budget : ℕ) where
  abbrev offsets : List ℕ
  offsets = (tour_of s h budget).offsets

  abbrev zeros : List ℕ
  zeros = replicate (words_of s h) 0

  -- the data section's verdict over the recorded words
  pub data_zeros : accepts (data_at on_words (section_of s h) (record_each zeros offsets)).answer ≡ data_accepted (section_of s h) (contains offsets)
  data_zeros =
      rw (← append-nil {A = ℕ} (replicate (words_of s h) 0))
      (data_verdict (section_of s h) (words_of s h) [] (words_section s h) offsets (tour_below s h budget))

below_more : (m k : ℕ) (xs : List ℕ) → m ≤ k → Below m xs → Below k xs
unfolding Below
below_more m k [] h b = tt
below_more m k (x ∷ xs) h b = (omega (arith, b.0), below_more m k xs h b.1)

-- the offsets marked are the set's size
pub count_zeros :
    (s : List ℕ) (h : Handle) (budget : ℕ)
    → size_of (marked (record_each (replicate (words_of s h) 0) (tour_of s h budget).offsets)) (words_of s h / 2 * 64) ≡ distinct (tour_of s h budget).offsets
count_zeros s h budget =
    rw (← append-nil {A = ℕ} (replicate (words_of s h) 0))
    (count_cleared (words_of s h) (words_of s h / 2) [] (tour_of s h budget).offsets (omega arith)
    (below_more (length (section_of s h)) (words_of s h / 2 * 64) _ (omega (arith, section_length s h)) (tour_below s h budget)))

-- the lent words: cleared, their front lent on, cleared again
pub front_length : (n : ℕ) (l : List ℕ) → n ≤ length l → n ≡ length (take n l)
front_length n l h = simp length-take (omega arith)

pub cleared_twice :
    (n : ℕ) (ws once part twice : List ℕ) → once ≡ replicate n 0 ++ drop n ws → length part ≡ n → twice ≡ replicate n 0 ++ drop n (part ++ drop n once)
    → twice ≡ replicate n 0 ++ drop n ws
cleared_twice n ws once part twice e l f =
    f
    ∙ ap (λ (k : List ℕ). replicate n 0 ++ k)
    (drop_at part (drop n once) n l ∙ ap (drop n) e ∙ drop_at (replicate n 0) (drop n ws) n (length-replicate n 0))

-- the words keep their number while offsets are recorded
pub zeros_length : (ws : List ℕ) (n : ℕ) → ws ≡ replicate n 0 → length ws ≡ n
zeros_length ws n e = ap length e ∙ length-replicate n 0

-- the verdict on the database, by what each step found
module _
    (s : List ℕ) (h : Handle) (budget : ℕ) (r : recording.Recorded) (ws ws' : List ℕ) (zero : ws ≡ replicate (words_of s h) 0)
    (walk : recording.done r ws' ≡ recording.marked (tour_of s h budget) ws) where
  ended : (tour_of s h budget).ended ≡ r
  ended = sym (ap (λ (d : recording.Done). d.ended) walk)

  words : ws' ≡ record_each (replicate (words_of s h) 0) (tour_of s h budget).offsets
  words = ap (λ (d : recording.Done). d.words) walk ∙ ap (λ (k : List ℕ). record_each k (tour_of s h budget).offsets) zero

  -- the words as the walk leaves them
  left : ws' ≡ record_each ws (tour_of s h budget).offsets
  left = ap (λ (d : recording.Done). d.words) walk

  pub recorded_length : length ws' ≡ words_of s h
  recorded_length = ap length words ∙ length_each _ _ ∙ length-replicate (words_of s h) 0

module _
    (s : List ℕ) (h : Handle) (budget : ℕ) (r : Refusal) (ws ws' : List ℕ) (zero : ws ≡ replicate (words_of s h) 0)
    (walk : recording.done (Err r) ws' ≡ recording.marked (tour_of s h budget) ws) where
  pub words_walked : ws' ≡ database_words_of s h budget ws
  unfolding database_words_of
  words_walked = simp (ended s h budget _ ws ws' zero walk) (left s h budget _ ws ws' zero walk)

  pub database_walked : Err r ≡ database_of s h budget
  unfolding database_of
  database_walked = simp (ended s h budget _ ws ws' zero walk)

module _
    (s : List ℕ) (h : Handle) (budget : ℕ) (ws ws' : List ℕ) (zero : ws ≡ replicate (words_of s h) 0)
    (walk : recording.done (Ok tt) ws' ≡ recording.marked (tour_of s h budget) ws) where
  all : (tour_of s h budget).ended ≡ Ok tt
  all = ended s h budget _ ws ws' zero walk

  pub database_separator : all_zero (separator_of s h.base) ≡ false → Err refusal.Separator ≡ database_of s h budget
  unfolding database_of
  database_separator e = simp (all, e)

  pub words_separator : all_zero (separator_of s h.base) ≡ false → ws' ≡ database_words_of s h budget ws
  unfolding database_words_of
  words_separator e = simp (all, e) (left s h budget _ ws ws' zero walk)

  module _ (clear : all_zero (separator_of s h.base) ≡ true) (a : Option Skipped) (ws'' : List ℕ) (swept : res a ws'' ≡ data_at on_words (section_of s h) ws') where
    verdict : data_accepted (section_of s h) (contains (tour_of s h budget).offsets) ≡ accepts a
    verdict =
        sym (data_zeros s h budget)
        ∙ ap (λ (k : List ℕ). accepts (data_at on_words (section_of s h) k).answer) (sym (words s h budget _ ws ws' zero walk))
        ∙ sym (ap (λ (k : Res (List ℕ)). accepts k.answer) swept)

    pub words_swept : ws'' ≡ database_words_of s h budget ws
    unfolding database_words_of
    words_swept =
        simp (all, clear)
        (ap (λ (k : Res (List ℕ)). k.sets) swept ∙ ap (λ (k : List ℕ). (data_at on_words (section_of s h) k).sets) (left s h budget _ ws ws' zero walk))

    pub database_malformed : a ≡ None → Err refusal.Malformed ≡ database_of s h budget
    unfolding database_of
    database_malformed e = simp (all, clear, verdict ∙ ap accepts e)

    pub database_accepted : (past : Skipped) (n : ℕ) → a ≡ Some past → n ≡ size_of (marked ws') (length ws' / 2 * 64) → Ok n ≡ database_of s h budget
    unfolding database_of
    database_accepted past n e f =
        let long = recorded_length s h budget _ ws ws' zero walk in
        let c : n ≡ distinct (tour_of s h budget).offsets = f ∙ ap (λ (k : ℕ). size_of (marked ws') (k / 2 * 64)) long
        ∙ ap (λ (k : List ℕ). size_of (marked k) (words_of s h / 2 * 64)) (words s h budget _ ws ws' zero walk) ∙ count_zeros s h budget in
        simp (all, clear, verdict ∙ ap accepts e) (ap (λ (k : ℕ). Ok k) c)

-- the words all 0 again
pub all_cleared : (n : ℕ) (ws once : List ℕ) → length ws ≡ n → once ≡ replicate (length ws) 0 ++ drop (length ws) ws → once ≡ replicate n 0
all_cleared n ws once l e =
    e ∙ ap (λ (k : List ℕ). replicate (length ws) 0 ++ k) (drop-length ws) ∙ append-nil {A = ℕ} (replicate (length ws) 0) ∙ ap (λ (k : ℕ). replicate k 0) l

pub metadata_whole : (s : List ℕ) (k : ℕ) → take (length s - k) (drop k s) ≡ drop k s
metadata_whole s k = take_all (length s - k) (drop k s) (omega (arith, length-drop k s))
