-- A refusal is known by its number.
use Prim.Native.Nat.{ℕ, ◌-◌}
use mathlib.Core.Path.{◌≡◌, refl, sym, ap, ◌∙◌}
use mathlib.Core.List.{List, [], ◌∷◌}
use lib.ListN.{get_or}
use Rattle.refusal.specs.Refusals.{number_of}
use Rattle.refusal.specs.declared.Refusal.{Refusal}
use Rattle.refusal.specs.declared.Refusal.TheVariants as refusal

-- the refusals in the order of their numbers, from 1 on
abbrev refusals : List Refusal
refusals =
    refusal.NoMarker
    ∷ refusal.Metadata
    ∷ refusal.FormatVersion
    ∷ refusal.IpVersion
    ∷ refusal.NoNodes
    ∷ refusal.BuildTime
    ∷ refusal.RecordSize
    ∷ refusal.TreeTooLong
    ∷ refusal.Handle
    ∷ refusal.Ipv6InIpv4
    ∷ refusal.Record
    ∷ refusal.TooDeep
    ∷ refusal.OutOfShape
    ∷ refusal.Malformed
    ∷ refusal.Offset
    ∷ refusal.PrefixLength
    ∷ refusal.NoDatabaseType
    ∷ refusal.NoDescription
    ∷ refusal.TooManyNetworks
    ∷ refusal.Separator
    ∷ refusal.Budget
    ∷ refusal.Scratch
    ∷ refusal.Time
    ∷ refusal.ImageTooLong
    ∷ []

at_number : (e : Refusal) → get_or refusals (number_of e - 1) refusal.NoMarker ≡ e
at_number refusal.NoMarker = refl
at_number refusal.Metadata = refl
at_number refusal.FormatVersion = refl
at_number refusal.IpVersion = refl
at_number refusal.NoNodes = refl
at_number refusal.BuildTime = refl
at_number refusal.RecordSize = refl
at_number refusal.TreeTooLong = refl
at_number refusal.Handle = refl
at_number refusal.Ipv6InIpv4 = refl
at_number refusal.Record = refl
at_number refusal.TooDeep = refl
at_number refusal.OutOfShape = refl
at_number refusal.Malformed = refl
at_number refusal.Offset = refl
at_number refusal.PrefixLength = refl
at_number refusal.NoDatabaseType = refl
at_number refusal.NoDescription = refl
at_number refusal.TooManyNetworks = refl
at_number refusal.Separator = refl
at_number refusal.Budget = refl
at_number refusal.Scratch = refl
at_number refusal.Time = refl
at_number refusal.ImageTooLong = refl

-- two refusals with one number are one
pub one_number : (d e : Refusal) → number_of d ≡ number_of e → d ≡ e
one_number d e q = sym (at_number d) ∙ ap (λ (n : ℕ). get_or refusals (n - 1) refusal.NoMarker) q ∙ at_number e
