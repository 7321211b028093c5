-- The lines of a listing, each with its end, and what writing one into a lent buffer comes to.
use Rattle.std.specs.Prelude.{ℕ, ◌+◌, ◌≤◌, ◌≡◌, cond, List, [], ◌∷◌, ◌++◌, Option, Some, None, eqb, length}
use Rattle.std.proofs.lemmas.List.Edits.{sets}
use Rattle.number.specs.declared.Key.{Key}
use Rattle.number.specs.Keys.{number_of}
use Rattle.refusal.specs.Refusals as refusals
use Rattle.place.specs.declared.Network.{Network}
use Rattle.place.specs.declared.Outcome.{Outcome}
use Rattle.place.specs.declared.Outcome.TheVariants.{Given, Failed, Refused, Paused, End}
use Rattle.listing.specs.Digits.{digits, decimal}

-- a key in hexadecimal: 8 digits for IPv4, 32 for IPv6
abbrev pub key_text : ℕ → Key → List ℕ
key_text width k = digits 16 (cond (eqb width 32) 8 32) (number_of k)

-- where the data stand, or `-` for none
abbrev pub offset_text : Option ℕ → List ℕ
offset_text (Some n) = decimal n
offset_text None = 45 ∷ []

-- `00000000/1 0`
unfoldable pub network_line : ℕ → Network → List ℕ
network_line width n = key_text width n.key ++ (47 ∷ []) ++ decimal n.len ++ (32 ∷ []) ++ offset_text n.offset ++ (10 ∷ [])

-- `error 12`
unfoldable pub error_line : ℕ → List ℕ
error_line n = (101 ∷ 114 ∷ 114 ∷ 111 ∷ 114 ∷ 32 ∷ []) ++ decimal n ++ (10 ∷ [])

-- `end`
abbrev pub end_line : List ℕ
end_line = 101 ∷ 110 ∷ 100 ∷ 10 ∷ []

-- the line of what a walk's call hands out; a pause has none
abbrev pub line_of : ℕ → Outcome → List ℕ
line_of width (Given n) = network_line width n
line_of width (Failed e) = error_line (refusals.number_of e)
line_of width (Refused e) = error_line (refusals.number_of e)
line_of width Paused = []
line_of width End = end_line

-- `text`, of at most `most` bytes, stands in the buffer from `at` on, all else in it is as it was, and `stop` is past the text
pub record Wrote (most : ℕ) (old : List ℕ) (at : ℕ) (text : List ℕ) (stop : ℕ) (new : List ℕ) : Type 0 where
  pub stops : stop ≡ at + length text
  pub holds : new ≡ sets old at text
  pub short : length text ≤ most
