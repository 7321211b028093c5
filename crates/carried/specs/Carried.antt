-- A walk begun here and carried on over its own image, whatever the cuts, budgets and options.
use Rattle.std.specs.Prelude.{ℕ, ◌^◌, ◌<◌, List}
use Rattle.handle.specs.declared.Handle.{Handle}
use Rattle.place.specs.declared.Options.{Options}
use Rattle.walk.specs.declared.Range.{Range}
use Rattle.walk.specs.declared.Range.TheVariants.{Ipv4, Ipv6}
use Rattle.walk.specs.declared.Walk.{Walk}
use Rattle.walk.specs.Starts.{begin_of}
use Rattle.walk.specs.Calls.{next_of}

-- an IPv4 address is a number of 32 bits, as its type in the code says
abbrev pub Addressed : Range → Type 0
Addressed (Ipv4 addr len) = addr < 2 ^ 32
Addressed (Ipv6 addr len) = Unit

pub data Carried (s : List ℕ) (h : Handle) : Walk → Type 0 where
  begun : (r : Range) (o : Options) → Addressed r → Carried s h (begin_of s h r o).walk
  next : {w : Walk} (b : ℕ) → Carried s h w → Carried s h (next_of s h w b).walk
