use mathlib.Core.Path.{sym, ap, ◌∙◌}
use native.Mathlib.Omega.{arith}
use lib.ListN.{length-drop}
use borrow.Author.Tests.{le-leb, lt-leb}
use Rattle.handle.proofs.HandleLaws.{fit}
use Rattle.sweep.specs.Sweep.{metadata_accepted}
use Rattle.verify.specs.Verify.{words_of, verdict_of, metadata_words, database_words_of, verdict_words_of}
use Prim.Native.Nat.{ℕ}
use mathlib.Core.List.{List}
use Rattle.verify.proofs.VerifyLaws.{words_metadata, zeros_length, all_cleared, metadata_whole}
use Rattle.verify.proofs.verdict.Goals as goal

pub slice_bounds-is_metadata_accepted-count : goal.slice_bounds-is_metadata_accepted-count
slice_bounds-is_metadata_accepted-count c = (fit _ _ c.requires.image_value).whole

pub slice_bounds-is_metadata_accepted-start : goal.slice_bounds-is_metadata_accepted-start
slice_bounds-is_metadata_accepted-start c = (fit _ _ c.requires.image_value).whole

pub is_metadata_accepted-requires-clause-metadata_in_bounds : goal.is_metadata_accepted-requires-clause-metadata_in_bounds
is_metadata_accepted-requires-clause-metadata_in_bounds c =
    let a = c.args in
    let f = fit _ _ c.requires.image_value in
    let long = zeros_length a.bits.now (words_of a.image.now a.reader.handle) c.requires.bits_value in
    rw (metadata_whole a.image.now a.reader.handle.meta)
    (omega (arith, words_metadata a.image.now a.reader.handle, long), simp length-drop (omega (arith, f.short)))

pub returns-then-not-is_metadata_accepted : goal.returns-then-not-is_metadata_accepted
unfolding verdict_of verdict_words_of
returns-then-not-is_metadata_accepted c =
    let a = c.args in
    let whole = metadata_whole a.image.now a.reader.handle.meta in
    let words = c.is_metadata_accepted.ensures.bits_after ∙ ap (λ (k : List ℕ). metadata_words k a.bits.now) whole in
    let seen = sym (ap metadata_accepted whole) ∙ sym c.is_metadata_accepted.ensures.value ∙ c.if-not-is_metadata_accepted.true in
    record { value = simp seen; bits_after = simp seen words }

pub returns-then-m-eq0 : goal.returns-then-m-eq0
unfolding verdict_of verdict_words_of
returns-then-m-eq0 c =
    let a = c.args in
    let whole = metadata_whole a.image.now a.reader.handle.meta in
    let words = c.is_metadata_accepted.ensures.bits_after ∙ ap (λ (k : List ℕ). metadata_words k a.bits.now) whole in
    let seen = sym (ap metadata_accepted whole) ∙ sym c.is_metadata_accepted.ensures.value ∙ c.if-not-is_metadata_accepted.false in
    let type = lt-leb 1 a.reader.metadata.database.size (omega (arith, c.if-m-eq0.true)) in
    record { value = simp (seen, type); bits_after = simp (seen, type) words }

pub returns-then-m-eq0-2 : goal.returns-then-m-eq0-2
unfolding verdict_of verdict_words_of
returns-then-m-eq0-2 c =
    let a = c.args in
    let whole = metadata_whole a.image.now a.reader.handle.meta in
    let words = c.is_metadata_accepted.ensures.bits_after ∙ ap (λ (k : List ℕ). metadata_words k a.bits.now) whole in
    let seen = sym (ap metadata_accepted whole) ∙ sym c.is_metadata_accepted.ensures.value ∙ c.if-not-is_metadata_accepted.false in
    let type = le-leb 1 a.reader.metadata.database.size (omega (arith, c.if-m-eq0.false)) in
    let description = lt-leb 1 a.reader.metadata.description.size (omega (arith, c.if-m-eq0-2.true)) in
    record { value = simp (seen, type, description); bits_after = simp (seen, type, description) words }

pub returns : goal.returns
unfolding verdict_of verdict_words_of
returns c =
    let a = c.args in
    let whole = metadata_whole a.image.now a.reader.handle.meta in
    let words = words_of a.image.now a.reader.handle in
    let long = zeros_length a.bits.now words c.requires.bits_value in
    let clear = all_cleared words c.is_metadata_accepted.new.bits _ (c.is_metadata_accepted.auto.bits ∙ long) c.clear.ensures in
    let seen = sym (ap metadata_accepted whole) ∙ sym c.is_metadata_accepted.ensures.value ∙ c.if-not-is_metadata_accepted.false in
    let type = le-leb 1 a.reader.metadata.database.size (omega (arith, c.if-m-eq0.false)) in
    let description = le-leb 1 a.reader.metadata.description.size (omega (arith, c.if-m-eq0-2.false)) in
    record {
      value = simp (seen, type, description) c.verify_database.ensures.value;
      bits_after =
          simp (seen, type, description)
          (c.verify_database.ensures.bits_after ∙ ap (database_words_of a.image.now a.reader.handle a.budget) clear);
    }
