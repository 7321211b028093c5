-- Lines worked by hand, and what a contract here pins down.
use Prim.Native.Nat.{ℕ, ◌+◌, ◌-◌, ◌^◌, ◌≤◌}
use Prim.Native.Char.{code}
use Prim.Native.String.{String, [] as []ˢ, ◌∷◌ as ◌∷ˢ◌}
use mathlib.Core.Path.{◌≡◌, refl, sym, ◌∙◌}
use mathlib.Core.List.{List, [], ◌∷◌, ◌++◌}
use lib.ListN.{length, take, drop}
use lib.Seq.{sets-eq}
use Rattle.place.specs.declared.Network.{Network}
use Rattle.place.specs.declared.NetworkKind.TheVariants.{V4}
use Rattle.std.specs.Prelude.{Option, Some, None}
use Rattle.refusal.specs.declared.Refusal.TheVariants as refusal
use Rattle.place.specs.declared.Outcome.TheVariants.{Given, Failed, End}
use Rattle.listing.specs.Digits.{digits, places, decimal}
use Rattle.listing.specs.Lines.{network_line, error_line, line_of, Wrote}

-- a text, with the line's end
unfoldable pub line : String → List ℕ
line []ˢ = 10 ∷ []
line (c ∷ˢ t) = code c ∷ line t

abbrev network : ℕ → ℕ → ℕ → Option ℕ → Network
network high low len o = record { key = record { high = high; low = low }; len = len; kind = V4; offset = o }

-- the three lines of image A
pub case13 : line_of 32 (Given (network 0 0 1 (Some 0))) ++ line_of 32 (Given (network 0 (2 ^ 31) 1 None)) ++ line_of 32 End
    ≡ line "00000000/1 0" ++ line "80000000/1 -" ++ line "end"
unfolding line digits places network_line
case13 = refl

pub ipv6 : line_of 128 (Given (network (2 ^ 63) 0 1 (Some 0))) ≡ line "80000000000000000000000000000000/1 0"
unfolding line digits places network_line
ipv6 = refl

pub letters : line_of 128 (Given (network (2 ^ 64 - 1) 10 128 (Some 1234567890))) ≡ line "ffffffffffffffff000000000000000a/128 1234567890"
unfolding line digits places network_line
letters = refl

pub failed : line_of 32 (Failed refusal.TooDeep) ≡ line "error 12"
unfolding line digits places error_line
failed = refl

pub refused : error_line 1 ≡ line "error 1"
unfolding line digits places error_line
refused = refl

-- the longest number of 64 bits has 20 digits
pub largest : decimal (2 ^ 64 - 1) ++ (10 ∷ []) ≡ line "18446744073709551615"
unfolding line digits places
largest = refl

-- where there is room, what was written is the old bytes, the text, and the old bytes
pub wrote_between : {most at stop : ℕ} {old text new : List ℕ} → at + length text ≤ length old → Wrote most old at text stop new
    → new ≡ take at old ++ text ++ drop (at + length text) old
wrote_between {at = at} {old = old} {text = text} room w = w.holds ∙ sets-eq text old at room

-- no second answer meets the same contract
pub one_end : {most at p q : ℕ} {old text s t : List ℕ} → Wrote most old at text p s → Wrote most old at text q t → p ≡ q
one_end a b = a.stops ∙ sym b.stops

pub one_text : {most at p q : ℕ} {old text s t : List ℕ} → Wrote most old at text p s → Wrote most old at text q t → s ≡ t
one_text a b = a.holds ∙ sym b.holds
