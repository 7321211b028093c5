-- Uniqueness: for each public function, no second answer, with lent memory, meets its contract. Each theorem is about the contract itself
-- as it stands in `maxminddb`, so a contract that is weakened no longer has it.
use Prim.Native.Nat.{ℕ}
use mathlib.Core.Path.{◌≡◌, sym, ◌∙◌, ap}
use mathlib.Core.List.{List, [], ◌∷◌}
use lib.ListN.{length}
use denote.Ref.{Bor}
use denote.Slice.{slice_val, shr_slice_vals}
use Rattle.maxminddb.proofs.open.Reads as «open»
use Rattle.maxminddb.proofs.age.Reads as age
use Rattle.maxminddb.proofs.database_type.Reads as database_type
use Rattle.maxminddb.proofs.language.Reads as language
use Rattle.maxminddb.proofs.description_language.Reads as description_language
use Rattle.maxminddb.proofs.description.Reads as description
use Rattle.maxminddb.proofs.lookup.Reads as lookup
use Rattle.maxminddb.proofs.read.Reads as read
use Rattle.maxminddb.proofs.text.Reads as text
use Rattle.maxminddb.proofs.bytes.Reads as bytes
use Rattle.maxminddb.proofs.step_key.Reads as step_key
use Rattle.maxminddb.proofs.step_index.Reads as step_index
use Rattle.maxminddb.proofs.step_from_end.Reads as step_from_end
use Rattle.maxminddb.proofs.within.Reads as within
use Rattle.maxminddb.proofs.next.Reads as next
use Rattle.maxminddb.proofs.scratch_words.Reads as scratch_words
use Rattle.maxminddb.proofs.verify.Reads as verify
use Rattle.verify.specs.Verify.{Out}
use Rattle.claims.specs.Promised.{Only, OnlyPart, OnlyWithWords}

-- THE LAW: two answers that are both the definition's are one
pub only : {A : Type 0} {d r q : A} → r ≡ d → q ≡ d → r ≡ q
only a b = a ∙ sym b

-- for a part of a slice: its bytes and its place are the definition's, so it is one machine value
only_part :
    {d : List ℕ} {p : ℕ × ℕ} (r q : Bor (List ℕ)) → (r.now ≡ d) × (r.ref_ptr ≡ p) → (q.now ≡ d) × (q.ref_ptr ≡ p)
    → (shr_slice_vals r ≡ shr_slice_vals q) × (r.now ≡ q.now)
only_part r q a b =
    let n : r.now ≡ q.now = only a.0 b.0 in
    (ap (λ (k : ℕ × ℕ). slice_val k (length r.now) ∷ []) (only a.1 b.1) ∙ ap (λ (l : List ℕ). slice_val q.ref_ptr (length l) ∷ []) n, n)

pub open_only : Only «open».Post
open_only args r q a b = only a.1.1 b.1.1

pub age_only : Only age.Post
age_only args r q a b = only a.1.1 b.1.1

pub database_type_only : OnlyPart database_type.Post
database_type_only args r q a b = only_part r q a.1.1 b.1.1

pub language_only : OnlyPart language.Post
language_only args r q a b = only_part r q a.1.1 b.1.1

pub description_language_only : OnlyPart description_language.Post
description_language_only args r q a b = only_part r q a.1.1 b.1.1

pub description_only : OnlyPart description.Post
description_only args r q a b = only_part r q a.1.1 b.1.1

pub lookup_only : Only lookup.Post
lookup_only args r q a b = only a.1.1 b.1.1

pub read_only : Only read.Post
read_only args r q a b = only a.1.1 b.1.1

pub text_only : OnlyPart text.Post
text_only args r q a b = only_part r q a.1.1 b.1.1

pub bytes_only : OnlyPart bytes.Post
bytes_only args r q a b = only_part r q a.1.1 b.1.1

pub step_key_only : Only step_key.Post
step_key_only args r q a b = only a.1.1 b.1.1

pub step_index_only : Only step_index.Post
step_index_only args r q a b = only a.1.1 b.1.1

pub step_from_end_only : Only step_from_end.Post
step_from_end_only args r q a b = only a.1.1 b.1.1

pub within_only : Only within.Post
within_only args r q a b = only a.1.1 b.1.1

pub next_only : Only next.Post
next_only args r q a b = only a.1.1 b.1.1

pub scratch_words_only : Only scratch_words.Post
scratch_words_only args r q a b = only a.1.1 b.1.1

-- verification writes lent memory: the words afterwards are pinned with the answer
pub verify_only : OnlyWithWords (λ x. x.1.0.now) verify.Post
verify_only args r q x y a b =
    let e = only a.1 b.1 in
    (ap (λ (o : Out). o.answer) e, ap (λ (o : Out). o.scratch) e)
