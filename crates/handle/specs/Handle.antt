-- When a handle, the numbers of an opened image, fits an image of n bytes.
use Rattle.std.specs.Prelude.{ℕ, ◌+◌, ◌-◌, ◌*◌, ◌/◌, ◌^◌, Bool, not, ◌&&◌, ◌||◌, eqb, leb}
use Rattle.handle.specs.declared.Handle.{Handle}

-- the longest image that is read: a longer one is refused with 24
abbrev pub image_bound : ℕ
image_bound = 2147483647

-- an IP version that refusal 4 lets pass
abbrev pub version_known : ℕ → Bool
version_known version = eqb version 4 || eqb version 6

-- a record size that refusal 7 lets pass
abbrev pub size_known : ℕ → Bool
size_known size = eqb size 24 || eqb size 28 || eqb size 32

-- version, node count (at most 2^32 - 1) and record size pass 4, 5 and 7
abbrev pub numbers_known : Handle → Bool
numbers_known h = version_known h.version && leb 1 h.nodes && leb h.nodes (2 ^ 32 - 1) && size_known h.size

-- where the data section starts: past the tree and its 16 zero bytes
abbrev pub data_start : ℕ → ℕ → ℕ
data_start nodes size = nodes * size / 4 + 16

-- the data start is as computed and at most the marker's start, which is 14 bytes before the metadata's;
-- the metadata start is at most the image length
abbrev pub sections_fit : Handle → ℕ → Bool
sections_fit h n = eqb h.base (data_start h.nodes h.size) && leb (h.base + 14) h.meta && leb h.meta n

-- IPv4 depth is at most 96, IPv4 start any 32-bit value; for IP version 4 both are 0
abbrev pub ipv4_fits : Handle → Bool
ipv4_fits h =
    leb h.depth4 96 && leb h.start4 (2 ^ 32 - 1)
    && (not (eqb h.version 4) || (eqb h.start4 0 && eqb h.depth4 0))

-- a handle fits an image of n bytes
unfoldable pub fits_of : Handle → ℕ → Bool
fits_of h n = leb n image_bound && numbers_known h && sections_fit h n && ipv4_fits h
