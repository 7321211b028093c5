-- What is said of a public function's contract. `promise` is the contract as the language reads it: of the lent values, of the arguments,
-- of the answer and of the arguments afterwards.
use Rattle.std.specs.Prelude.{ℕ, ◌+◌, ◌<◌, ◌≡◌, List, get_or}
use Rattle.std.specs.Borrow.{Bor, MutBor}
use denote.Slice.{shr_slice_vals}
use Rattle.value.specs.Parts.{spanned}
use Rattle.promises.specs.Parts.{Gives}

-- a lent slice; `now` is what it holds, `ptr` where it lies
abbrev pub Slice : Type 0
Slice = Bor (List ℕ)

-- a slice lent to be written
abbrev pub MutSlice : Type 0
MutSlice = MutBor (List ℕ)

-- an answer, and the arguments afterwards, that meet a contract for these arguments
abbrev pub Leaves : {Lent Args Answer : Type 0} → (Lent → Args → Answer → Args → Type 0) → Args → Answer → Args → Type 0
Leaves {Lent} promise args r x = (lent : Lent) × promise lent args r x

-- an answer that meets it
abbrev pub Meets : {Lent Args Answer : Type 0} → (Lent → Args → Answer → Args → Type 0) → Args → Answer → Type 0
Meets {Lent} {Args} promise args r = (x : Args) × Leaves promise args r x

-- no second answer meets it
abbrev pub Only : {Lent Args Answer : Type 0} → (Lent → Args → Answer → Args → Type 0) → Type 0
Only {Lent} {Args} {Answer} promise = (args : Args) (r q : Answer) → Meets promise args r → Meets promise args q → r ≡ q

-- no second part of a lent slice, as a machine value: the same place, as many bytes, and the same
abbrev pub OnlyPart : {Lent Args : Type 0} → (Lent → Args → Slice → Args → Type 0) → Type 0
OnlyPart {Lent} {Args} promise =
    (args : Args) (r q : Slice) → Meets promise args r → Meets promise args q → (shr_slice_vals r ≡ shr_slice_vals q) × (r.now ≡ q.now)

-- no second answer, and no second contents of the words lent, which `words` takes out of the arguments
abbrev pub OnlyWithWords : {Lent Args Answer Words : Type 0} → (Args → Words) → (Lent → Args → Answer → Args → Type 0) → Type 0
OnlyWithWords {Lent} {Args} {Answer} words promise =
    (args : Args) (r q : Answer) (x y : Args) → Leaves promise args r x → Leaves promise args q y → (r ≡ q) × (words x ≡ words y)

-- a lent slice of bytes holds bytes
abbrev pub Bytes : Slice → Type 0
Bytes image = (i : ℕ) → get_or image.now i 0 < 256

-- r is the part of a lent slice from a place on, of so many bytes
pub record Part (image r : Slice) (x : ℕ × ℕ) : Type 0 where
  pub bytes : r.now ≡ spanned image.now x
  pub place : r.ref_ptr ≡ (image.ref_ptr.0, image.ref_ptr.1 + x.0)

-- r is a part of a lent slice: what there is to give, or the first 0 bytes exactly if there is nothing
pub record Given (image r : Slice) (Something : Type 0) (Is : Something → ℕ × ℕ → Type 0) : Type 0 where
  pub span : ℕ × ℕ
  pub part : Part image r span
  pub gives : Gives Something Is span
