-- Demand 1: for each public function when it refuses with which number, in the order of docs/SCOPE.md, and what lent memory holds
-- afterwards. Only verification writes lent memory. The tables, one row for each number, are in the specs of `promises`: Images, Handles,
-- Values, Parts, Walks, Verifying.
use Prim.Native.Nat.{ℕ, ◌+◌}
use mathlib.Core.Path.{◌≡◌, sym, subst}
use mathlib.Core.Bool.{true, false}
use mathlib.Core.Logic.{◌↔◌}
use lib.IntN.{ℤ}
use Rattle.std.specs.Prelude.{Option, Result}
use Rattle.refusal.specs.declared.Refusal.{Refusal}
use Rattle.opening.specs.declared.Reader.{Reader}
use Rattle.handle.specs.declared.Handle.{Handle}
use Rattle.lookup.specs.declared.Address.{Address}
use Rattle.tree.specs.declared.Found.{Found}
use Rattle.value.specs.declared.Value.{Value}
use Rattle.path.specs.declared.Cursor.{Cursor}
use Rattle.place.specs.declared.Options.{Options}
use Rattle.walk.specs.declared.Range.{Range}
use Rattle.walk.specs.declared.Started.{Started}
use Rattle.walk.specs.declared.Walk.{Walk}
use Rattle.walk.specs.declared.Called.{Called}
use Rattle.about.specs.declared.Wanted.TheVariants as wanted
use Rattle.order.specs.Order.{Answers, None, Exactly}
use Rattle.order.proofs.OrderLaws.{answered}
use Rattle.about.specs.About.{text_of}
use Rattle.maxminddb.specs.Entries.{part_of}
use Rattle.verify.specs.Verify.{out}
use Rattle.maxminddb.specs.Answers.{open_verdict, age_verdict, lookup_verdict, read_verdict, step_verdict, words_verdict}
use Rattle.maxminddb.proofs.open.Reads as «open»
use Rattle.maxminddb.proofs.age.Reads as age
use Rattle.maxminddb.proofs.database_type.Reads as database_type
use Rattle.maxminddb.proofs.language.Reads as language
use Rattle.maxminddb.proofs.description_language.Reads as description_language
use Rattle.maxminddb.proofs.description.Reads as description
use Rattle.maxminddb.proofs.lookup.Reads as lookup
use Rattle.maxminddb.proofs.read.Reads as read
use Rattle.maxminddb.proofs.text.Reads as text
use Rattle.maxminddb.proofs.bytes.Reads as bytes
use Rattle.maxminddb.proofs.step_key.Reads as step_key
use Rattle.maxminddb.proofs.step_index.Reads as step_index
use Rattle.maxminddb.proofs.step_from_end.Reads as step_from_end
use Rattle.maxminddb.proofs.within.Reads as within
use Rattle.maxminddb.proofs.next.Reads as next
use Rattle.maxminddb.proofs.scratch_words.Reads as scratch_words
use Rattle.maxminddb.proofs.verify.Reads as verify
use Rattle.promises.specs.Images.{open_table, age_table, scratch_words_table}
use Rattle.promises.specs.Handles.{lookup_table}
use Rattle.promises.specs.Values.{read_table, step_key_table, step_index_table}
use Rattle.value.specs.Parts.{spanned}
use Rattle.promises.specs.Parts.{Gives, Reads, Payload, Has, MetadataText}
use Rattle.promises.specs.Walks.{Start, Stop, Call}
use Rattle.promises.specs.Verifying.{Verifies}
use Rattle.promises.proofs.Images as images
use Rattle.promises.proofs.Handles as handles
use Rattle.promises.proofs.Values as values
use Rattle.promises.proofs.Steps as steps
use Rattle.promises.proofs.Parts as parts
use Rattle.promises.proofs.Texts as texts
use Rattle.promises.proofs.Starts as starts
use Rattle.promises.proofs.Calls as calls
use Rattle.promises.proofs.Verifying as verifying
use Rattle.claims.specs.Promised.{Slice, MutSlice, Leaves, Meets, Bytes, Given}

-- a part that the contract pins, and what it is
given :
    (image r : Slice) (x : ℕ × ℕ) (Something : Type 0) (Is : Something → ℕ × ℕ → Type 0)
    → (r.now ≡ spanned image.now x) × (r.ref_ptr ≡ (image.ref_ptr.0, image.ref_ptr.1 + x.0)) → Gives Something Is x → Given image r Something Is
given image r x Something Is m g = record { span = x; part = record { bytes = m.0; place = m.1 }; gives = g }

module _ (image : Slice) where
  -- OPEN: 24, 1, 2, 3, 4, 5, 6, 7, 8
  pub open_decided : (r : Result Reader Refusal) → Meets «open».Post (image, tt) r → Exactly (open_table image.now) (open_verdict r)
  open_decided r m = rw m.1.1 (images.«open» image.now)

  -- it opens exactly if none of these holds
  pub opens_exactly : (r : Result Reader Refusal) → Meets «open».Post (image, tt) r → (open_verdict r ≡ Answers) ↔ None (open_table image.now)
  opens_exactly r m = answered (open_table image.now) (open_verdict r) (images.all_refuse image.now) (open_decided r m)

  -- AGE: 24, 1 to 8, 23
  pub age_decided : (time : ℕ) (r : Result ℤ Refusal) → Meets age.Post (image, (time, tt)) r → Exactly (age_table image.now time) (age_verdict r)
  age_decided time r m = rw m.1.1 (images.age image.now time)

  -- THE TEXTS OF THE METADATA: the image's first 0 bytes exactly where it does not open or the index is past the last
  module _ (held : Bytes image) where
    pub database_type_given :
        (r : Slice) → Meets database_type.Post (image, tt) r
        → Given image r (Has image.now wanted.DatabaseType 0) (MetadataText image.now wanted.DatabaseType 0)
    database_type_given r m = given image r (text_of image.now wanted.DatabaseType 0) _ _ m.1.1 (texts.text image.now held wanted.DatabaseType 0)

    pub language_given :
        (index : ℕ) (r : Slice) → Meets language.Post (image, (index, tt)) r
        → Given image r (Has image.now wanted.Language index) (MetadataText image.now wanted.Language index)
    language_given index r m = given image r (text_of image.now wanted.Language index) _ _ m.1.1 (texts.text image.now held wanted.Language index)

    pub description_language_given :
        (index : ℕ) (r : Slice) → Meets description_language.Post (image, (index, tt)) r
        → Given image r (Has image.now wanted.DescriptionLanguage index) (MetadataText image.now wanted.DescriptionLanguage index)
    description_language_given index r m =
        given image r (text_of image.now wanted.DescriptionLanguage index) _ _ m.1.1 (texts.text image.now held wanted.DescriptionLanguage index)

    pub description_given :
        (index : ℕ) (r : Slice) → Meets description.Post (image, (index, tt)) r
        → Given image r (Has image.now wanted.Description index) (MetadataText image.now wanted.Description index)
    description_given index r m =
        given image r (text_of image.now wanted.Description index) _ _ m.1.1 (texts.text image.now held wanted.Description index)

  module _ (h : Handle) where
    -- LOOKUP: 9, 10, 11
    pub lookup_decided : (a : Address) (r : Result Found Refusal) → Meets lookup.Post (image, (h, (a, tt))) r → Exactly (lookup_table image.now h a) (lookup_verdict r)
    lookup_decided a r m = rw m.1.1 (handles.lookup image.now h a)

    module _ (c : Cursor) where
      -- A VALUE: 9, 15, 14
      pub read_decided : (r : Result Value Refusal) → Meets read.Post (image, (h, (c, tt))) r → Exactly (read_table image.now h c) (read_verdict r)
      read_decided r m = rw m.1.1 (values.read image.now h c)

      -- A TEXT, AND BYTES: the image's first 0 bytes exactly where reading refuses or gives another kind
      pub text_given :
          (r : Slice) → Meets text.Post (image, (h, (c, tt))) r → Given image r (Reads image.now h c false) (Payload image.now h c false)
      text_given r m = given image r (part_of image.now h c false) _ _ m.1.1 (parts.part image.now h c false)

      pub bytes_given :
          (r : Slice) → Meets bytes.Post (image, (h, (c, tt))) r → Given image r (Reads image.now h c true) (Payload image.now h c true)
      bytes_given r m = given image r (part_of image.now h c true) _ _ m.1.1 (parts.part image.now h c true)

      -- STEPS: 9, 15, 14
      pub step_key_decided :
          (key : Slice) (r : Result (Option Cursor) Refusal) → Meets step_key.Post (image, (h, (c, (key, tt)))) r → Exactly (step_key_table image.now h c key.now) (step_verdict r)
      step_key_decided key r m = rw m.1.1 (steps.step_key image.now h c key.now)

      pub step_index_decided :
          (index : ℕ) (r : Result (Option Cursor) Refusal) → Meets step_index.Post (image, (h, (c, (index, tt)))) r
          → Exactly (step_index_table image.now h c index false) (step_verdict r)
      step_index_decided index r m = rw m.1.1 (steps.step_index image.now h c index false)

      pub step_from_end_decided :
          (index : ℕ) (r : Result (Option Cursor) Refusal) → Meets step_from_end.Post (image, (h, (c, (index, tt)))) r
          → Exactly (step_index_table image.now h c index true) (step_verdict r)
      step_from_end_decided index r m = rw m.1.1 (steps.step_index image.now h c index true)

    -- THE START OF A WALK: 9, 16, 10; a refused start's walk is empty
    pub within_decided : (range : Range) (o : Options) (r : Started) → Meets within.Post (image, (h, (range, (o, tt)))) r → Start image.now h range r
    within_decided range o r m = rw m.1.1 (starts.within image.now h o range)

    -- A WALK'S CALL: 9; then, place by place, End, 13, Paused, or what the newest place comes to: 12, 11, 14 or a network; with the walk and
    -- the count afterwards
    pub next_decided : (w : Walk) (budget : ℕ) (r : Called) → Meets next.Post (image, (h, (w, (budget, tt)))) r → Call image.now h w budget r
    next_decided w budget r m = rw m.1.1 (calls.next image.now h w budget)

    -- where a call ends is one place
    pub next_stops_once :
        {w x y : Walk} {b j k l m : ℕ} → Stop image.now h w b j l x → Stop image.now h w b k m y → (j ≡ k) × (l ≡ m) × (x ≡ y)
    next_stops_once = calls.one_stop image.now h

  -- THE WORDS THAT VERIFICATION NEEDS: 24, 1 to 8
  pub scratch_words_decided : (r : Result ℕ Refusal) → Meets scratch_words.Post (image, tt) r → Exactly (scratch_words_table image.now) (words_verdict r)
  scratch_words_decided r m = rw m.1.1 (images.scratch_words image.now)

  -- VERIFY: 24, 1 to 8, 22, 14, 17, 18, the walk's 11, 12, 19, 21 as they come, 20, 14; with the lent words afterwards
  pub verify_decided :
      Bytes image → (scratch after : MutSlice) (budget : ℕ) (r : Result ℕ Refusal)
      → Leaves verify.Post (image, (scratch, (budget, tt))) r (image, (after, (budget, tt)))
      → Verifies image.now scratch.now budget (out r after.now)
  verify_decided held scratch after budget r m =
      subst (Verifies image.now scratch.now budget) (sym m.1) (verifying.verify image.now held scratch.now budget)
