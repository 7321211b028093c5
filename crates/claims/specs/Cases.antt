-- Bytes and images worked by hand: docs/SCOPE.md, "Worked cases", those marked P, in its order. The proofs, by computation, are in
-- proofs/Worked.antt.
use Rattle.std.specs.Prelude.{ℕ, ◌*◌, ◌%◌, ◌^◌, ◌≡◌, Bool, true, false, List, [], ◌∷◌, ◌++◌, get_or, pos, negsuc, Some, None, Result, Ok, Err}
use Rattle.number.specs.Keys.{key_of}
use Rattle.refusal.specs.declared.Refusal.{Refusal}
use Rattle.refusal.specs.declared.Refusal.TheVariants as refusal
use Rattle.control.specs.Control.{head, size_at, head_at}
use Rattle.control.specs.Pointers.{link, link_at}
use Rattle.control.specs.declared.Kind.TheVariants as kind
use Rattle.tree.specs.Marker.{marker}
use Rattle.tree.specs.Record.{record_at}
use Rattle.tree.specs.Lookup.{found}
use Rattle.tree.specs.declared.Found.{Found}
use Rattle.charge.specs.declared.Charge.{Charge}
use Rattle.value.specs.Value.{read_at}
use Rattle.value.specs.declared.Value.{Value}
use Rattle.value.specs.declared.Value.TheVariants as value
use Rattle.handle.specs.declared.Handle.{Handle}
use Rattle.lookup.specs.declared.Address.{Address}
use Rattle.lookup.specs.declared.Address.TheVariants.{V4}
use Rattle.opening.specs.Opening.{open_of, age_of}
use Rattle.opening.specs.declared.Reader.{Reader}
use Rattle.maxminddb.specs.Entries.{lookup_of}
use Rattle.place.specs.declared.Options.{Options}
use Rattle.place.specs.declared.NetworkKind.TheVariants as network
use Rattle.place.specs.declared.Outcome.{Outcome}
use Rattle.place.specs.declared.Outcome.TheVariants as outcome
use Rattle.walk.specs.declared.Range.{Range}
use Rattle.walk.specs.declared.Range.TheVariants.{Ipv4, Ipv6}
use Rattle.walk.specs.declared.Walk.{Walk}
use Rattle.walk.specs.Starts.{begin_of}
use Rattle.walk.specs.Calls.{next_of}
use Rattle.listing.specs.Lines.{line_of}
use Rattle.listing.proofs.Worked.{line}
use Rattle.worked_opening.proofs.Images.{u16, u32, u64, zeros, fields}
use Rattle.carried.proofs.Worked.{answers, spent, halving, net}

-- a node's two records
abbrev pub Node : List ℕ → ℕ → ℕ → ℕ → Type 0
Node s size left right = (record_at s size 0 0 ≡ left) × (record_at s size 0 1 ≡ right)

-- 1. 24 bits: 01 02 03 04 05 06 gives 66,051 and 263,430
abbrev pub Case1 : Type 0
Case1 = Node (0x01 ∷ 0x02 ∷ 0x03 ∷ 0x04 ∷ 0x05 ∷ 0x06 ∷ []) 24 66051 263430

-- 2. 28 bits: 12 34 56 7A BC DE F0 gives 07123456 and 0ABCDEF0 hex
abbrev pub Case2 : Type 0
Case2 = Node (0x12 ∷ 0x34 ∷ 0x56 ∷ 0x7a ∷ 0xbc ∷ 0xde ∷ 0xf0 ∷ []) 28 0x07123456 0x0abcdef0

-- 3. 32 bits: 00 00 00 11 80 00 00 00 gives 17 and 2,147,483,648
abbrev pub Case3 : Type 0
Case3 = Node (0x00 ∷ 0x00 ∷ 0x00 ∷ 0x11 ∷ 0x80 ∷ 0x00 ∷ 0x00 ∷ 0x00 ∷ []) 32 17 2147483648

-- 4. Size code 29 with FF is 284, 30 with 00 00 is 285, 31 with FF FF FF is 16,843,036
abbrev pub Case4 : Type 0
Case4 =
    (size_at (0xff ∷ []) kind.Text 29 0 ≡ Some (head kind.Text 284 1))
    × (size_at (0x00 ∷ 0x00 ∷ []) kind.Text 30 0 ≡ Some (head kind.Text 285 2))
    × (size_at (0xff ∷ 0xff ∷ 0xff ∷ []) kind.Text 31 0 ≡ Some (head kind.Text 16843036 3))

-- the low five bits of the first byte
abbrev pub code_of : List ℕ → ℕ
code_of s = get_or s 0 0 % 32

-- the pointer whose control byte is the first: its target, and where it ends
abbrev pub Leads : List ℕ → ℕ → ℕ → Type 0
Leads s target next = (link_at s (code_of s) 1 ≡ Some (link target next)) × (head_at s 0 ≡ Some (head kind.Pointer (code_of s) 1))

-- 5. 27 FF points to 2,047; 28 00 00 to 2,048; 2F FF FF to 526,335; 30 00 00 00 to 526,336
abbrev pub Case5 : Type 0
Case5 =
    Leads (0x27 ∷ 0xff ∷ []) 2047 2
    × Leads (0x28 ∷ 0x00 ∷ 0x00 ∷ []) 2048 3
    × Leads (0x2f ∷ 0xff ∷ 0xff ∷ []) 526335 3
    × Leads (0x30 ∷ 0x00 ∷ 0x00 ∷ 0x00 ∷ []) 526336 4

-- what has been charged; a fresh cursor's is nothing
abbrev pub charged : ℕ → ℕ → Charge
charged values payload = record { values = values; payload = payload }

-- what reading finds at the start of a section
abbrev pub Reads : List ℕ → Result Value Refusal → Type 0
Reads s v = read_at s 0 (charged 0 0) ≡ v

-- 6. 04 01 FF FF FF FF is -1; 01 01 FF is 255
abbrev pub Case6 : Type 0
Case6 =
    Reads (0x04 ∷ 0x01 ∷ 0xff ∷ 0xff ∷ 0xff ∷ 0xff ∷ []) (Ok (value.I32 (negsuc 0)))
    × Reads (0x01 ∷ 0x01 ∷ 0xff ∷ []) (Ok (value.I32 (pos 255)))

-- an image of one node with 24-bit records, data E0, built at 1,000; image A is of version 4, with records 17 and 1
unfoldable pub image : ℕ → ℕ → ℕ → List ℕ
image version left right =
    (0 ∷ 0 ∷ left ∷ 0 ∷ 0 ∷ right ∷ []) ++ (zeros ++ (0xe0 ∷ (marker ++ (0xe9 ∷ fields (u16 2) (u64 3 232) (u16 version) (u32 1) (u16 24)))))

-- an address looked up with the handle that opening gives
abbrev pub with : List ℕ → Address → Result Reader Refusal → Result Found Refusal
with s a (Ok r) = lookup_of s r.handle a
with s a (Err e) = Err e

abbrev pub looked : List ℕ → Address → Result Found Refusal
looked s a = with s a (open_of s)

-- 7. Image A: IPv4, one node 00 00 11 00 00 01, data E0. 1.2.3.4 has offset 0 and length 1; 200.0.0.1 no data, length 1
abbrev pub Case7 : Type 0
Case7 =
    (looked (image 4 17 1) (V4 0x01020304) ≡ Ok (found (Some 0) 1)) × (looked (image 4 17 1) (V4 0xc8000001) ≡ Ok (found None 1))

-- 8. A with left record 2, 16 or 18: 11. With 17: offset 0
abbrev pub Case8 : Type 0
Case8 =
    (looked (image 4 2 1) (V4 0x01020304) ≡ Err refusal.Record) × (looked (image 4 16 1) (V4 0x01020304) ≡ Err refusal.Record)
    × (looked (image 4 18 1) (V4 0x01020304) ≡ Err refusal.Record) × (looked (image 4 17 1) (V4 0x01020304) ≡ Ok (found (Some 0) 1))

-- an image opens, and this is the handle that it gives
pub record Opens (s : List ℕ) (h : Handle) : Type 0 where
  pub reader : Reader
  pub is : open_of s ≡ Ok reader
  pub handle : reader.handle ≡ h

-- the handle of an image of one node, by its version, its IPv4 start and that start's depth
abbrev pub handle_with : ℕ → ℕ → ℕ → Handle
handle_with version start4 depth4 = record { version = version; nodes = 1; size = 24; base = 22; meta = 37; start4 = start4; depth4 = depth4 }

abbrev pub options : Bool → Bool → Options
options aliased dataless = record { aliased = aliased; dataless = dataless; skipempty = false }

-- a walk begun over an image with its handle
abbrev pub begun : List ℕ → Handle → Range → Options → Walk
begun s h range o = (begin_of s h range o).walk

-- what a walk's calls hand out, one after the other
abbrev pub Hands : List ℕ → Handle → Range → Options → ℕ → List Outcome → Type 0
Hands s h range o calls l = answers s h calls (begun s h range o) ≡ l

-- 9. A with left record 0: 0.0.0.0 has no data, length 32; 64.0.0.0 has length 2. The full walk gives 12 first, then 32 networks, then End, 65 places over all calls
abbrev pub full_walk9 : Walk
full_walk9 = begun (image 4 0 1) (handle_with 4 0 0) (Ipv4 0 0) (options true true)

abbrev pub Case9 : Type 0
Case9 =
    (looked (image 4 0 1) (V4 0) ≡ Ok (found None 32)) × (looked (image 4 0 1) (V4 0x40000000) ≡ Ok (found None 2)) × Opens (image 4 0 1) (handle_with 4 0 0)
    × ((next_of (image 4 0 1) (handle_with 4 0 0) full_walk9 100).answer ≡ outcome.Failed refusal.TooDeep)
    × (halving (image 4 0 1) (handle_with 4 0 0) 32 (next_of (image 4 0 1) (handle_with 4 0 0) full_walk9 100).walk ≡ true)
    × (spent (image 4 0 1) (handle_with 4 0 0) 34 full_walk9 ≡ 65)

-- 10. IPv6, one node, both records 17, data E0: the default walk gives ::/1 alone, with aliases 8000::/1 too
abbrev pub Case10 : Type 0
Case10 =
    Opens (image 6 17 17) (handle_with 6 17 1)
    × Hands (image 6 17 17) (handle_with 6 17 1) (Ipv6 (key_of 0) 0) (options false false) 2 (net 0 1 network.V6 (Some 0) ∷ outcome.End ∷ [])
    × Hands (image 6 17 17) (handle_with 6 17 1) (Ipv6 (key_of 0) 0) (options true false) 3
    (net 0 1 network.V6 (Some 0) ∷ net (2 ^ 127) 1 network.V6 (Some 0) ∷ outcome.End ∷ [])

-- 11. The same with records 1 and 17: 1.2.3.4 has no data, length 1; range 10.0.0.0/8 with networks without data is ::/1 without data
abbrev pub Case11 : Type 0
Case11 =
    (looked (image 6 1 17) (V4 0x01020304) ≡ Ok (found None 1)) × Opens (image 6 1 17) (handle_with 6 1 1)
    × Hands (image 6 1 17) (handle_with 6 1 1) (Ipv4 (10 * 2 ^ 24) 8) (options false true) 2 (net 0 1 network.V6 None ∷ outcome.End ∷ [])

-- 12. Time 999, build time 1,000: age -1
abbrev pub Case12 : Type 0
Case12 = age_of (image 4 17 1) 999 ≡ Ok (negsuc 0)

-- 13, its lines, which is run as a program too: image A's two networks and the end, as the listing program writes them
abbrev pub Case13 : Type 0
Case13 =
    line_of 32 (net 0 1 network.V4 (Some 0)) ++ line_of 32 (net (2 ^ 31) 1 network.V4 None) ++ line_of 32 outcome.End
    ≡ line "00000000/1 0" ++ line "80000000/1 -" ++ line "end"
