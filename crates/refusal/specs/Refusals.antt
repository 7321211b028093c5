-- The refusal numbers, by name: docs/SCOPE.md, "The refusal numbers".
use Rattle.std.specs.Prelude.{ℕ}
use Rattle.refusal.specs.declared.Refusal.{Refusal}
use Rattle.refusal.specs.declared.Refusal.TheVariants as refusal

-- the number of each refusal
abbrev pub number_of : Refusal → ℕ
number_of refusal.NoMarker = 1
number_of refusal.Metadata = 2
number_of refusal.FormatVersion = 3
number_of refusal.IpVersion = 4
number_of refusal.NoNodes = 5
number_of refusal.BuildTime = 6
number_of refusal.RecordSize = 7
number_of refusal.TreeTooLong = 8
number_of refusal.Handle = 9
number_of refusal.Ipv6InIpv4 = 10
number_of refusal.Record = 11
number_of refusal.TooDeep = 12
number_of refusal.OutOfShape = 13
number_of refusal.Malformed = 14
number_of refusal.Offset = 15
number_of refusal.PrefixLength = 16
number_of refusal.NoDatabaseType = 17
number_of refusal.NoDescription = 18
number_of refusal.TooManyNetworks = 19
number_of refusal.Separator = 20
number_of refusal.Budget = 21
number_of refusal.Scratch = 22
number_of refusal.Time = 23
number_of refusal.ImageTooLong = 24
