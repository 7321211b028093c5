-- The data section of an image, and the refusals before a value is looked at: docs/SCOPE.md, "In which order".
use Rattle.std.specs.Borrow.{Bor}
use Rattle.std.specs.Prelude.{ℕ, ◌+◌, ◌-◌, List, cond, take, drop, length, ltb, Result, Ok, Err}
use Rattle.handle.specs.Handle.{fits_of}
use Rattle.handle.specs.declared.Handle.{Handle}
use Rattle.refusal.specs.declared.Refusal.{Refusal}
use Rattle.refusal.specs.declared.Refusal.TheVariants as refusal

-- how long the data section is: it ends where the marker starts
abbrev pub data_length : Handle → ℕ
data_length h = h.meta - 14 - h.base

abbrev pub section_of : List ℕ → Handle → List ℕ
section_of image h = take (data_length h) (drop h.base image)

-- 9, then 15
unfoldable pub barred_of : Handle → ℕ → ℕ → Result (Unit {0}) Refusal
barred_of h n place = cond (fits_of h n) (cond (ltb place (data_length h)) (Ok tt) (Err refusal.Offset)) (Err refusal.Handle)

-- an entry that looks at a value refuses, or goes on
abbrev pub gated : {A : Type 0} → Result (Unit {0}) Refusal → (Refusal → A) → A → A
gated (Ok passed) refuse answer = answer
gated (Err r) refuse answer = refuse r

-- the section where it lies in the image
abbrev pub lent_section : Bor (List ℕ) → Handle → Bor (List ℕ)
lent_section image h = record { ref_ptr = (image.ref_ptr.0, image.ref_ptr.1 + h.base); now = section_of image.now h }

abbrev pub section_at : Bor (List ℕ) → Handle → ℕ → Result (Bor (List ℕ)) Refusal
section_at image h place = gated (barred_of h (length image.now) place) Err (Ok (lent_section image h))
