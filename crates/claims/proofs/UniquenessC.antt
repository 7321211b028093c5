-- Uniqueness for C: for each function of `exports`, no second answer, with lent memory, meets its contract.
use Prim.Native.Nat.{ℕ}
use mathlib.Core.Path.{ap}
use mathlib.Core.List.{List}
use Rattle.exports.proofs.erm_open.Reads as «open»
use Rattle.exports.proofs.erm_age.Reads as age
use Rattle.exports.proofs.erm_database_type.Reads as database_type
use Rattle.exports.proofs.erm_language.Reads as language
use Rattle.exports.proofs.erm_description_language.Reads as description_language
use Rattle.exports.proofs.erm_description.Reads as description
use Rattle.exports.proofs.erm_lookup.Reads as lookup
use Rattle.exports.proofs.erm_read.Reads as read
use Rattle.exports.proofs.erm_text.Reads as text
use Rattle.exports.proofs.erm_bytes.Reads as bytes
use Rattle.exports.proofs.erm_step_key.Reads as step_key
use Rattle.exports.proofs.erm_step_index.Reads as step_index
use Rattle.exports.proofs.erm_step_from_end.Reads as step_from_end
use Rattle.exports.proofs.erm_within.Reads as within
use Rattle.exports.proofs.erm_next.Reads as next
use Rattle.exports.proofs.erm_rows.Reads as rows
use Rattle.exports.proofs.erm_scratch_words.Reads as scratch_words
use Rattle.exports.proofs.erm_verify.Reads as verify
use Rattle.exports.specs.Doors.{Begun, Handed, Rowed, Checked}
use Rattle.claims.specs.Promised.{Only, OnlyWithWords}
use Rattle.claims.proofs.Uniqueness.{only}

pub erm_open_only : Only «open».Post
erm_open_only args r q a b = only a.1.1 b.1.1

pub erm_age_only : Only age.Post
erm_age_only args r q a b = only a.1.1 b.1.1

pub erm_database_type_only : Only database_type.Post
erm_database_type_only args r q a b = only a.1.1 b.1.1

pub erm_language_only : Only language.Post
erm_language_only args r q a b = only a.1.1 b.1.1

pub erm_description_language_only : Only description_language.Post
erm_description_language_only args r q a b = only a.1.1 b.1.1

pub erm_description_only : Only description.Post
erm_description_only args r q a b = only a.1.1 b.1.1

pub erm_lookup_only : Only lookup.Post
erm_lookup_only args r q a b = only a.1.1 b.1.1

pub erm_read_only : Only read.Post
erm_read_only args r q a b = only a.1.1 b.1.1

pub erm_text_only : Only text.Post
erm_text_only args r q a b = only a.1.1 b.1.1

pub erm_bytes_only : Only bytes.Post
erm_bytes_only args r q a b = only a.1.1 b.1.1

pub erm_step_key_only : Only step_key.Post
erm_step_key_only args r q a b = only a.1.1 b.1.1

pub erm_step_index_only : Only step_index.Post
erm_step_index_only args r q a b = only a.1.1 b.1.1

pub erm_step_from_end_only : Only step_from_end.Post
erm_step_from_end_only args r q a b = only a.1.1 b.1.1

-- with the walk's words afterwards
pub erm_within_only : OnlyWithWords (λ x. x.1.1.1.1.1.1.1.0.now) within.Post
erm_within_only args r q x y a b =
    let e = only a.1 b.1 in
    (ap (λ (o : Begun). o.status) e, ap (λ (o : Begun). o.walk) e)

pub erm_next_only : OnlyWithWords (λ x. x.1.1.0.now) next.Post
erm_next_only args r q x y a b =
    let e = only a.1 b.1 in
    (ap (λ (o : Handed). o.answer) e, ap (λ (o : Handed). o.walk) e)

-- and with the rows
pub erm_rows_only : OnlyWithWords {Words = List ℕ × List ℕ} (λ x. (x.1.1.0.now, x.1.1.1.0.now)) rows.Post
erm_rows_only args r q x y a b =
    let e = only a.1 b.1 in
    (ap (λ (o : Rowed). o.answer) e, ap (λ (o : Rowed). (o.walk, o.rows)) e)

pub erm_scratch_words_only : Only scratch_words.Post
erm_scratch_words_only args r q a b = only a.1.1 b.1.1

-- with the scratch afterwards
pub erm_verify_only : OnlyWithWords (λ x. x.1.0.now) verify.Post
erm_verify_only args r q x y a b =
    let e = only a.1 b.1 in
    (ap (λ (o : Checked). o.answer) e, ap (λ (o : Checked). o.scratch) e)
