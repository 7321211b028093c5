-- Verification of an image s: docs/SCOPE.md, "Verification".
use Rattle.std.specs.Prelude.{ℕ, ◌-◌, max, Bool, false, cond, ◌&&◌, List, ◌++◌, Result, Ok, Err, length, take, drop, replicate, eqb, leb}
use Rattle.std.specs.List.{list_all}
use Rattle.refusal.specs.declared.Refusal.{Refusal}
use Rattle.refusal.specs.declared.Refusal.TheVariants as refusal
use Rattle.handle.specs.declared.Handle.{Handle}
use Rattle.section.specs.Section.{data_length, section_of}
use Rattle.opening.specs.Opening.{open_of}
use Rattle.opening.specs.declared.Reader.{Reader}
use Rattle.marks.specs.Marks.{contains, distinct, record_each}
use Rattle.graph.specs.Words.{needed, on_words}
use Rattle.sweep.specs.Sweep.{data_at, metadata_at, data_accepted, metadata_accepted}
use Rattle.recording.specs.Recording.{Recorded, Tour, tour_of}

abbrev pub metadata_in : List ℕ → Handle → List ℕ
metadata_in s h = drop h.meta s

-- two words for each 64 bytes begun of the longer of data section and metadata
abbrev pub words_of : List ℕ → Handle → ℕ
words_of s h = needed (max (data_length h) (length s - h.meta))

-- the 16 bytes before the data start
abbrev pub separator_of : List ℕ → ℕ → List ℕ
separator_of s base = take 16 (drop (base - 16) s)

unfoldable pub all_zero : List ℕ → Bool
all_zero bs = list_all (λ b. eqb b 0) bs

-- the number of distinct offsets of an accepted image, or the first refusal
abbrev pub Verified : Type 0
Verified = Result ℕ Refusal

-- what is asked next, or a refusal
abbrev pub gate : Bool → Refusal → Verified → Verified
gate passes r next = cond passes next (Err r)

-- the walk's own refusals, as they come
abbrev pub walked : Recorded → Verified → Verified
walked (Ok passed) next = next
walked (Err r) next = Err r

-- then 20, and 14 for the values that the set of the networks' offsets leads to; an accepted image has so many distinct offsets
abbrev pub database_on : List ℕ → Handle → Tour → Verified
database_on s h t =
    walked t.ended
    (gate (all_zero (separator_of s h.base)) refusal.Separator
    (gate (data_accepted (section_of s h) (contains t.offsets)) refusal.Malformed
    (Ok (distinct t.offsets))))

unfoldable pub database_of : List ℕ → Handle → ℕ → Verified
database_of s h budget = database_on s h (tour_of s h budget)

-- 14 for the metadata's graph, 17, 18, then the database's own refusals
unfoldable pub verdict_of : List ℕ → Reader → ℕ → Verified
verdict_of s r budget =
    gate (metadata_accepted (metadata_in s r.handle)) refusal.Malformed
    (gate (leb 1 r.metadata.database.size) refusal.NoDatabaseType
    (gate (leb 1 r.metadata.description.size) refusal.NoDescription
    (database_of s r.handle budget)))

abbrev pub scratch_words_on : List ℕ → Result Reader Refusal → Result ℕ Refusal
scratch_words_on s (Ok r) = Ok (words_of s r.handle)
scratch_words_on s (Err r) = Err r

-- the words that an image needs; it is refused as opening refuses it
unfoldable pub scratch_words_of : List ℕ → Result ℕ Refusal
scratch_words_of s = scratch_words_on s (open_of s)

-- the answer, and the lent words then
pub record Out : Type 0 where
  pub answer : Verified
  pub scratch : List ℕ

abbrev pub out : Verified → List ℕ → Out
out v ws = record { answer = v; scratch = ws }

-- the first n words 0, the rest untouched
abbrev pub cleared : ℕ → List ℕ → List ℕ
cleared n ws = replicate n 0 ++ drop n ws

abbrev pub verify_on : List ℕ → List ℕ → ℕ → Result Reader Refusal → Out
verify_on s ws budget (Ok r) =
    cond (leb (words_of s r.handle) (length ws))
    (out (verdict_of s r budget) (cleared (words_of s r.handle) ws))
    (out (Err refusal.Scratch) ws)
verify_on s ws budget (Err r) = out (Err r) ws

-- ---- what the lent words hold until they are cleared again

-- after the metadata's graph
abbrev pub metadata_words : List ℕ → List ℕ → List ℕ
metadata_words m ws = (metadata_at on_words m ws).sets

-- the walk comes to its end, and the separator is all 0: the data section is swept
abbrev pub is_swept : List ℕ → Handle → Recorded → Bool
is_swept s h (Ok passed) = all_zero (separator_of s h.base)
is_swept s h (Err r) = false

-- after the walk, and after the sweep if it is come to
abbrev pub database_words_on : List ℕ → Handle → Tour → List ℕ → List ℕ
database_words_on s h t ws =
    cond (is_swept s h t.ended) (data_at on_words (section_of s h) (record_each ws t.offsets)).sets (record_each ws t.offsets)

unfoldable pub database_words_of : List ℕ → Handle → ℕ → List ℕ → List ℕ
database_words_of s h budget ws = database_words_on s h (tour_of s h budget) ws

-- after the verdict: the words are cleared between the metadata's graph and the walk
unfoldable pub verdict_words_of : List ℕ → Reader → ℕ → List ℕ → List ℕ
verdict_words_of s r budget ws =
    cond (metadata_accepted (metadata_in s r.handle) && leb 1 r.metadata.database.size && leb 1 r.metadata.description.size)
    (database_words_of s r.handle budget (replicate (words_of s r.handle) 0))
    (metadata_words (metadata_in s r.handle) ws)

-- THE WHOLE: after 24, 1 to 8 and 22 the scratch is untouched, after any other answer the needed words are 0
unfoldable pub verify_of : List ℕ → List ℕ → ℕ → Out
verify_of s ws budget = verify_on s ws budget (open_of s)
