-- Laws of the refusals before a value is looked at.
use Prim.Native.Nat.{ℕ, zero, suc, ◌+◌, ◌≤◌, ◌<◌}
use mathlib.Core.Path.{◌≡◌, refl, ap, ◌∙◌}
use mathlib.Core.List.{List, [], ◌∷◌}
use Rattle.std.specs.Prelude.{Ok}
use lib.ListN.{length, get_or, take, drop, length-take}
use mir.Syntax.{w8}
use mir.Val.{Fits}
use lib.Seq.{take-take, drop-drop, get_or-drop}
use mathlib.Core.Bool.{true}
use lib.Dec.{ltb}
use native.Mathlib.Omega.{arith}
use borrow.Author.Tests.{ltb-true}
use Rattle.number.proofs.Tests.{chosen_first}
use Rattle.handle.specs.Handle.{fits_of}
use Rattle.handle.specs.declared.Handle.{Handle}
use Rattle.handle.proofs.HandleLaws.{fit}
use Rattle.section.specs.Section.{data_length, section_of, barred_of}

-- a place may be looked at: the handle fits, and the place is in the data section
pub free : (h : Handle) (n place : ℕ) → barred_of h n place ≡ Ok tt → (fits_of h n ≡ true) × (place < data_length h)
unfolding barred_of
free h n place e =
    let c = chosen_first (fits_of h n) (λ x. cc x) e in
    (c.0, ltb-true place (data_length h) (chosen_first (ltb place (data_length h)) (λ x. cc x) c.1).0)

-- the marker stands past the data section's start, in the image
pub marked : (h : Handle) (n : ℕ) → fits_of h n ≡ true → (h.base + 14 ≤ h.meta) × (h.meta ≤ n)
marked h n e = ((fit h n e).marked, (fit h n e).whole)

-- a part of a list's front is a part of the list
part_take : (p n front : ℕ) (l : List ℕ) → p + n ≤ front → take n (drop p (take front l)) ≡ take n (drop p l)
part_take zero n front l h = take-take n front l (omega arith)
part_take (suc p) n zero l h = absurd (omega arith)
part_take (suc p) n (suc front) [] h = refl
part_take (suc p) n (suc front) (a ∷ l) h = part_take p n front l (omega arith)

-- a part of the data section is a part of the image
pub part_of_image : (image : List ℕ) (h : Handle) (p n : ℕ) → p + n ≤ data_length h → take n (drop p (section_of image h)) ≡ take n (drop (h.base + p) image)
part_of_image image h p n l = part_take p n (data_length h) (drop h.base image) l ∙ ap (take n) (drop-drop p h.base image)

-- the data section is no longer than its length
pub section_length : (image : List ℕ) (h : Handle) → length (section_of image h) ≤ data_length h
section_length image h = simp length-take (omega arith)

-- bytes of a list's front
front_bytes : (n : ℕ) (l : List ℕ) → ((i : ℕ) → get_or l i 0 < 256) → (i : ℕ) → get_or (take n l) i 0 < 256
front_bytes zero l b i = omega arith
front_bytes (suc n) [] b i = omega arith
front_bytes (suc n) (a ∷ l) b zero = b zero
front_bytes (suc n) (a ∷ l) b (suc i) = front_bytes n l (λ j. b (suc j)) i

pub section_bytes : (image : List ℕ) (h : Handle) → ((i : ℕ) → Fits w8 (get_or image i 0)) → (i : ℕ) → Fits w8 (get_or (section_of image h) i 0)
section_bytes image h b i = record { fits = front_bytes (data_length h) (drop h.base image) (λ j. rw get_or-drop ((b (h.base + j)).fits)) i }
