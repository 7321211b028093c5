-- The handle of an IPv4 image of one node of 24-bit records and one byte of data, whose metadata ends at 100 bytes.
use Prim.Native.Nat.{ℕ, ◌+◌}
use mathlib.Core.Path.{◌≡◌, refl}
use mathlib.Core.Bool.{true, false}
use Rattle.handle.specs.Handle.{image_bound, fits_of}
use Rattle.handle.specs.declared.Handle.{Handle}

abbrev with : ℕ → ℕ → ℕ → ℕ → ℕ → Handle
with version base meta start4 depth4 =
    record { version = version; nodes = 1; size = 24; base = base; meta = meta; start4 = start4; depth4 = depth4 }

pub opened : fits_of (with 4 22 37 0 0) 100 ≡ true
unfolding fits_of
opened = refl

-- the image too short for its metadata, too long at all
pub lengths : (fits_of (with 4 22 37 0 0) 36 ≡ false) × (fits_of (with 4 22 37 0 0) (image_bound + 1) ≡ false)
unfolding fits_of
lengths = (refl, refl)

-- another data start; a marker that starts with the data, and one before it
pub sections : (fits_of (with 4 23 37 0 0) 100 ≡ false) × (fits_of (with 4 22 36 0 0) 100 ≡ true) × (fits_of (with 4 22 35 0 0) 100 ≡ false)
unfolding fits_of
sections = (refl, refl, refl)

-- IPv4 start and depth: of version 4, and of version 6
pub starts4 : (fits_of (with 4 22 37 1 0) 100 ≡ false) × (fits_of (with 4 22 37 0 1) 100 ≡ false)
unfolding fits_of
starts4 = (refl, refl)

pub starts6 : (fits_of (with 6 22 37 4294967295 96) 100 ≡ true) × (fits_of (with 6 22 37 4294967296 96) 100 ≡ false) × (fits_of (with 6 22 37 0 97) 100 ≡ false)
unfolding fits_of
starts6 = (refl, refl, refl)
