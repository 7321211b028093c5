-- Demand 1 for C: for each function of `exports` its status is that of the entry's verdict, by the entry's table, with 13 first exactly
-- where what C wrote is out of shape. A text, and bytes, are the entry's part as a place and a number of bytes.
use Prim.Native.Nat.{ℕ, ◌+◌, ◌/◌}
use mathlib.Core.Path.{◌≡◌, refl, sym, subst, ap, ◌∙◌}
use mathlib.Core.Bool.{Bool, true, false, cond, ◌&&◌}
use mathlib.Core.List.{List, [], ◌++◌}
use Rattle.std.specs.Prelude.{Result}
use native.Mathlib.Omega.{arith}
use lib.ListN.{length}
use lib.Dec.{leb}
use Rattle.order.specs.Order.{Table}
use Rattle.handle.specs.Handle.{fits_of}
use Rattle.handle.specs.declared.Handle.{Handle}
use Rattle.handle.proofs.HandleLaws.{fit, fits_of_lem}
use Rattle.path.specs.declared.Cursor.{Cursor}
use Rattle.about.specs.declared.Wanted.TheVariants as wanted
use Rattle.opening.specs.Opening.{open_of, age_of}
use Rattle.walk.specs.Starts.{begin_of}
use Rattle.walk.specs.Calls.{next_of}
use Rattle.walk.specs.Rows.{Run, run_of, rows_of}
use Rattle.verify.specs.Verify.{scratch_words_of, out, verify_of}
use Rattle.refusal.specs.declared.Refusal.{Refusal}
use Rattle.maxminddb.specs.Entries.{read_of, key_of, index_of}
use Rattle.promises.specs.Images.{open_table, time_row, age_table, scratch_words_table}
use Rattle.promises.specs.Handles.{NoFit, lookup_table}
use Rattle.promises.specs.Values.{read_table, step_key_table, step_index_table}
use Rattle.promises.specs.Parts.{Gives, Reads, Payload, Has, MetadataText}
use Rattle.promises.specs.Walks.{start_table, call_table}
use Rattle.promises.specs.Verifying.{verify_rows, verify_table, Verifies}
use Rattle.promises.proofs.Images as images
use Rattle.promises.proofs.Handles as handles
use Rattle.promises.proofs.Values as values
use Rattle.promises.proofs.Steps as steps
use Rattle.promises.proofs.Parts as parts
use Rattle.promises.proofs.Texts as texts
use Rattle.promises.proofs.Starts as starts
use Rattle.promises.proofs.Calls as calls
use Rattle.promises.proofs.Verifying as verifying
use Rattle.words.specs.Words.{walk_words, options_of, holds_walk, walk_of}
use Rattle.spans.specs.declared.Span.{Span}
use Rattle.answers.specs.Answers.{halted_of, verified_of}
use Rattle.answers.specs.declared.ErmOpened.{ErmOpened}
use Rattle.answers.specs.declared.ErmAged.{ErmAged}
use Rattle.answers.specs.declared.ErmFound.{ErmFound}
use Rattle.answers.specs.declared.ErmValue.{ErmValue}
use Rattle.answers.specs.declared.ErmStepped.{ErmStepped}
use Rattle.answers.specs.declared.ErmCalled.{ErmCalled}
use Rattle.answers.specs.declared.ErmScratch.{ErmScratch}
use Rattle.answers.specs.declared.ErmVerified.{ErmVerified}
use Rattle.exports.specs.declared.ErmFilled.{ErmFilled}
use Rattle.exports.specs.Doors.{in_shape, address_of, range_of, Begun, lookup_door, within_door, Handed, next_door, Rowed, rows_door, Checked}
use Rattle.exports.proofs.DoorLaws.{rows_refused}
use Rattle.exports.proofs.erm_open.Reads as «open»
use Rattle.exports.proofs.erm_age.Reads as age
use Rattle.exports.proofs.erm_database_type.Reads as database_type
use Rattle.exports.proofs.erm_language.Reads as language
use Rattle.exports.proofs.erm_description_language.Reads as description_language
use Rattle.exports.proofs.erm_description.Reads as description
use Rattle.exports.proofs.erm_lookup.Reads as lookup
use Rattle.exports.proofs.erm_read.Reads as read
use Rattle.exports.proofs.erm_text.Reads as text
use Rattle.exports.proofs.erm_bytes.Reads as bytes
use Rattle.exports.proofs.erm_step_key.Reads as step_key
use Rattle.exports.proofs.erm_step_index.Reads as step_index
use Rattle.exports.proofs.erm_step_from_end.Reads as step_from_end
use Rattle.exports.proofs.erm_within.Reads as within
use Rattle.exports.proofs.erm_next.Reads as next
use Rattle.exports.proofs.erm_rows.Reads as rows
use Rattle.exports.proofs.erm_scratch_words.Reads as scratch_words
use Rattle.exports.proofs.erm_verify.Reads as verify
use Rattle.claims.specs.Promised.{Slice, MutSlice, Leaves, Meets, Bytes}
use Rattle.claims.specs.Statuses.{Shows, door, found_status, value_status, ShowsStep, ShowsCall, ShowsRows, Keeps}
use Rattle.claims.proofs.StatusLaws.{AllNumbered, number, shows, door_shows, chosen, opened_status, aged_status, found_status_lem, valued_status, start_status, called_status, words_status, verified_status, step_shows, call_numbers, filling, keeps}

module _ (image : Slice) where
  -- 24, 1 to 8
  more_numbers : (t : Table) → AllNumbered t → AllNumbered (open_table image.now ++ t)
  more_numbers t n =
      (number 24 refl, (number 1 refl, (number 2 refl, (number 3 refl, (number 4 refl, (number 5 refl, (number 6 refl, (number 7 refl, (number 8 refl, n)))))))))

  pub erm_open_shows : (r : ErmOpened) → Meets «open».Post (image, tt) r → Shows (open_table image.now) r.status
  erm_open_shows r m =
      shows (open_table image.now) (more_numbers [] tt) _ (images.«open» image.now) r.status
      (ap (λ (x : ErmOpened). x.status) m.1.1 ∙ opened_status (open_of image.now))

  pub erm_age_shows : (time : ℕ) (r : ErmAged) → Meets age.Post (image, (time, tt)) r → Shows (age_table image.now time) r.status
  erm_age_shows time r m =
      shows (age_table image.now time) (more_numbers (time_row time) (number 23 refl, tt)) _ (images.age image.now time) r.status
      (ap (λ (x : ErmAged). x.status) m.1.1 ∙ aged_status (age_of image.now time))

  module _ (held : Bytes image) where
    pub erm_database_type_gives :
        (r : Span) → Meets database_type.Post (image, tt) r
        → Gives (Has image.now wanted.DatabaseType 0) (MetadataText image.now wanted.DatabaseType 0) (r.place, r.length)
    erm_database_type_gives r m = rw m.1.1 (texts.text image.now held wanted.DatabaseType 0)

    pub erm_language_gives :
        (index : ℕ) (r : Span) → Meets language.Post (image, (index, tt)) r
        → Gives (Has image.now wanted.Language index) (MetadataText image.now wanted.Language index) (r.place, r.length)
    erm_language_gives index r m = rw m.1.1 (texts.text image.now held wanted.Language index)

    pub erm_description_language_gives :
        (index : ℕ) (r : Span) → Meets description_language.Post (image, (index, tt)) r
        → Gives (Has image.now wanted.DescriptionLanguage index) (MetadataText image.now wanted.DescriptionLanguage index) (r.place, r.length)
    erm_description_language_gives index r m = rw m.1.1 (texts.text image.now held wanted.DescriptionLanguage index)

    pub erm_description_gives :
        (index : ℕ) (r : Span) → Meets description.Post (image, (index, tt)) r
        → Gives (Has image.now wanted.Description index) (MetadataText image.now wanted.Description index) (r.place, r.length)
    erm_description_gives index r m = rw m.1.1 (texts.text image.now held wanted.Description index)

  module _ (h : Handle) where
    -- 13 where the address is out of shape
    pub erm_lookup_shows :
        (width high low : ℕ) (r : ErmFound) → Meets lookup.Post (image, (h, (width, (high, (low, tt))))) r
        → Shows (door (in_shape width high low) (lookup_table image.now h (address_of width high low))) (found_status r)
    unfolding lookup_door
    erm_lookup_shows width high low r m =
        let a = address_of width high low in
        door_shows (in_shape width high low) (lookup_table image.now h a) (number 9 refl, (number 10 refl, (number 11 refl, tt))) _ (handles.lookup image.now h a)
        (found_status r)
        (ap found_status m.1.1 ∙ chosen found_status (in_shape width high low) _ _
        ∙ ap (λ (n : ℕ). cond (in_shape width high low) n 13) (found_status_lem image.now h a))

    module _ (c : Cursor) where
      pub erm_read_shows : (r : ErmValue) → Meets read.Post (image, (h, (c, tt))) r → Shows (read_table image.now h c) (value_status r)
      erm_read_shows r m =
          shows (read_table image.now h c) (number 9 refl, (number 15 refl, (number 14 refl, tt))) _ (values.read image.now h c) (value_status r)
          (ap value_status m.1.1 ∙ valued_status (read_of image.now h c))

      pub erm_text_gives :
          (r : Span) → Meets text.Post (image, (h, (c, tt))) r
          → Gives (Reads image.now h c false) (Payload image.now h c false) (r.place, r.length)
      erm_text_gives r m = rw m.1.1 (parts.part image.now h c false)

      pub erm_bytes_gives :
          (r : Span) → Meets bytes.Post (image, (h, (c, tt))) r
          → Gives (Reads image.now h c true) (Payload image.now h c true) (r.place, r.length)
      erm_bytes_gives r m = rw m.1.1 (parts.part image.now h c true)

      pub erm_step_key_shows :
          (key : Slice) (r : ErmStepped) → Meets step_key.Post (image, (h, (c, (key, tt)))) r
          → ShowsStep (step_key_table image.now h c key.now) (key_of image.now h c key.now) r.status
      erm_step_key_shows key r m =
          step_shows (step_key_table image.now h c key.now) (number 9 refl, (number 15 refl, (number 14 refl, tt))) _
          (steps.step_key image.now h c key.now) r.status (ap (λ (x : ErmStepped). x.status) m.1.1)

      pub erm_step_index_shows :
          (index : ℕ) (r : ErmStepped) → Meets step_index.Post (image, (h, (c, (index, tt)))) r
          → ShowsStep (step_index_table image.now h c index false) (index_of image.now h c index false) r.status
      erm_step_index_shows index r m =
          step_shows (step_index_table image.now h c index false) (number 9 refl, (number 15 refl, (number 14 refl, tt))) _
          (steps.step_index image.now h c index false) r.status (ap (λ (x : ErmStepped). x.status) m.1.1)

      pub erm_step_from_end_shows :
          (index : ℕ) (r : ErmStepped) → Meets step_from_end.Post (image, (h, (c, (index, tt)))) r
          → ShowsStep (step_index_table image.now h c index true) (index_of image.now h c index true) r.status
      erm_step_from_end_shows index r m =
          step_shows (step_index_table image.now h c index true) (number 9 refl, (number 15 refl, (number 14 refl, tt))) _
          (steps.step_index image.now h c index true) r.status (ap (λ (x : ErmStepped). x.status) m.1.1)

    -- 13 where the words are too few, the options above 7 or the address out of shape
    pub erm_within_shows :
        (width high low len options : ℕ) (walk : MutSlice) (r : ℕ)
        → Meets within.Post (image, (h, (width, (high, (low, (len, (options, (walk, tt)))))))) r
        → Shows (door (leb walk_words (length walk.now) && leb options 7 && in_shape width high low) (start_table image.now h (range_of width high low len))) r
    unfolding within_door
    erm_within_shows width high low len options walk r m =
        let range = range_of width high low len in
        let passes : Bool = leb walk_words (length walk.now) && leb options 7 && in_shape width high low in
        door_shows passes (start_table image.now h range) (number 9 refl, (number 16 refl, (number 10 refl, tt))) _
        (starts.within image.now h (options_of options) range).verdict r
        (ap (λ (x : Begun). x.status) m.1.1 ∙ chosen (λ (x : Begun). x.status) passes _ _
        ∙ ap (λ (n : ℕ). cond passes n 13) (start_status (begin_of image.now h range (options_of options)).status))

    -- 13 leaves the words; a walk that was begun, and the empty one of a refused start, is put into them
    pub erm_within_leaves :
        (width high low len options : ℕ) (walk after : MutSlice) (r : ℕ)
        → Leaves within.Post (image, (h, (width, (high, (low, (len, (options, (walk, tt)))))))) r
        (image, (h, (width, (high, (low, (len, (options, (after, tt))))))))
        → Keeps (leb walk_words (length walk.now) && leb options 7 && in_shape width high low) walk.now
        (begin_of image.now h (range_of width high low len) (options_of options)).walk after.now
    unfolding within_door
    erm_within_leaves width high low len options walk after r m =
        let passes : Bool = leb walk_words (length walk.now) && leb options 7 && in_shape width high low in
        keeps passes walk.now _ after.now (ap (λ (x : Begun). x.walk) m.1 ∙ chosen (λ (x : Begun). x.walk) passes _ _)

    pub erm_next_shows :
        (walk : MutSlice) (budget : ℕ) (r : ErmCalled) → Meets next.Post (image, (h, (walk, (budget, tt)))) r
        → ShowsCall image.now h walk.now budget r.status
    unfolding next_door
    erm_next_shows walk budget r m =
        let w = walk_of walk.now in
        let c = calls.next image.now h w budget in
        record {
          before = c.before;
          left = c.left;
          at = c.at;
          stop = c.stop;
          shows =
              door_shows (holds_walk walk.now) (call_table image.now h c.left c.at)
              (call_numbers image.now h c.left c.at) _ c.verdict r.status
              (ap (λ (x : Handed). x.answer.status) m.1.1 ∙ chosen (λ (x : Handed). x.answer.status) (holds_walk walk.now) _ _
              ∙ ap (λ (n : ℕ). cond (holds_walk walk.now) n 13) (called_status (next_of image.now h w budget).answer (next_of image.now h w budget).taken));
        }

    pub erm_next_leaves :
        (walk after : MutSlice) (budget : ℕ) (r : ErmCalled)
        → Leaves next.Post (image, (h, (walk, (budget, tt)))) r (image, (h, (after, (budget, tt))))
        → Keeps (holds_walk walk.now) walk.now (next_of image.now h (walk_of walk.now) budget).walk after.now
    unfolding next_door
    erm_next_leaves walk after budget r m =
        keeps (holds_walk walk.now) walk.now _ after.now (ap (λ (x : Handed). x.walk) m.1 ∙ chosen (λ (x : Handed). x.walk) (holds_walk walk.now) _ _)

    pub erm_rows_shows :
        (walk out : MutSlice) (budget : ℕ) (r : ErmFilled) → Meets rows.Post (image, (h, (walk, (out, (budget, tt))))) r
        → ShowsRows image.now h walk.now out.now budget r
    unfolding rows_door rows_of
    erm_rows_shows walk out budget r m =
        let s = image.now in
        let ws = walk.now in
        let run : Run = run_of s h (length out.now / 5) budget (walk_of ws) in
        record {
          no_walk = λ e. ap (λ (x : Rowed). x.answer.status) m.1.1 ∙ rw e;
          no_fit = λ e n. ap (λ (x : Rowed). x.answer.status) (m.1.1 ∙ rows_refused s h ws budget e (unfit (fits_of h (length s)) refl n) out.now);
          fills = λ e f.
              let t : fits_of h (length s) ≡ true = fits_of_lem h (length s) f in
              let z : 0 + length run.networks ≡ length run.networks = omega arith in
              let a : r.rows ≡ length run.networks = ap (λ (x : Rowed). x.answer.rows) m.1.1 ∙ simp (e, t, z) in
              let b : r.status ≡ halted_of run.halt = ap (λ (x : Rowed). x.answer.status) m.1.1 ∙ simp (e, t) in
              rw (a, b) (filling s h (length out.now / 5) budget (walk_of ws));
        }
      where
        unfit : (b : Bool) → fits_of h (length image.now) ≡ b → NoFit image.now h → b ≡ false
        unfit true e n = absurd (n (fit h (length image.now) e))
        unfit false e n = refl

    -- and the rows
    pub erm_rows_leaves :
        (walk after out filled : MutSlice) (budget : ℕ) (r : ErmFilled)
        → Leaves rows.Post (image, (h, (walk, (out, (budget, tt))))) r (image, (h, (after, (filled, (budget, tt)))))
        → Keeps (holds_walk walk.now) walk.now (rows_of image.now h (walk_of walk.now) budget out.now).filled.walk after.now
        × (filled.now ≡ cond (holds_walk walk.now) (rows_of image.now h (walk_of walk.now) budget out.now).buffer out.now)
    unfolding rows_door
    erm_rows_leaves walk after out filled budget r m = (
      keeps (holds_walk walk.now) walk.now _ after.now (ap (λ (x : Rowed). x.walk) m.1 ∙ chosen (λ (x : Rowed). x.walk) (holds_walk walk.now) _ _),
      ap (λ (x : Rowed). x.rows) m.1 ∙ chosen (λ (x : Rowed). x.rows) (holds_walk walk.now) _ _,
    )

  pub erm_scratch_words_shows : (r : ErmScratch) → Meets scratch_words.Post (image, tt) r → Shows (scratch_words_table image.now) r.status
  erm_scratch_words_shows r m =
      shows (scratch_words_table image.now) (more_numbers [] tt) _ (images.scratch_words image.now) r.status
      (ap (λ (x : ErmScratch). x.status) m.1.1 ∙ words_status (scratch_words_of image.now))

  pub erm_verify_shows :
      Bytes image → (scratch : MutSlice) (budget : ℕ) (r : ErmVerified) → Meets verify.Post (image, (scratch, (budget, tt))) r
      → Shows (verify_table image.now scratch.now budget) r.status
  erm_verify_shows held scratch budget r m =
      shows (verify_table image.now scratch.now budget)
      (more_numbers (verify_rows image.now scratch.now budget) (number 22 refl, (number 14 refl, (number 17 refl, (number 18 refl, (number 11 refl, (number 12 refl, (number 19 refl, (number 21 refl, (number 20 refl, (number 14 refl, tt)))))))))))
      _ (verifying.verify image.now held scratch.now budget).verdict r.status
      (ap (λ (x : Checked). x.answer.status) m.1.1 ∙ verified_status (verify_of image.now scratch.now budget).answer)

  -- the entry's verdict with the scratch afterwards
  pub erm_verify_leaves :
      Bytes image → (scratch after : MutSlice) (budget : ℕ) (r : ErmVerified)
      → Leaves verify.Post (image, (scratch, (budget, tt))) r (image, (after, (budget, tt)))
      → (d : Result ℕ Refusal) × ((r ≡ verified_of d) × Verifies image.now scratch.now budget (out d after.now))
  erm_verify_leaves held scratch after budget r m =
      let v = verify_of image.now scratch.now budget in
      let e : after.now ≡ v.scratch = ap (λ (x : Checked). x.scratch) m.1 in (
        v.answer,
        (
          ap (λ (x : Checked). x.answer) m.1,
          subst (λ (ws : List ℕ). Verifies image.now scratch.now budget (out v.answer ws)) (sym e) (verifying.verify image.now held scratch.now budget),
        ),
      )
