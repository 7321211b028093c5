-- Lookups: docs/SCOPE.md, "The tree".
use Rattle.std.specs.Prelude.{ℕ, ◌+◌, ◌-◌, ◌≤◌, List, Option, Result, Ok, Err, cond, eqb}
use Rattle.std.specs.Option.{ok_or}
use Rattle.number.specs.Keys.{number_of}
use Rattle.refusal.specs.declared.Refusal.{Refusal}
use Rattle.refusal.specs.declared.Refusal.TheVariants as refusal
use Rattle.handle.specs.declared.Handle.{Handle}
use Rattle.tree.specs.Lookup.{down, answer_of}
use Rattle.tree.specs.declared.Found.{Found}
use Rattle.tree.specs.declared.Place.{Place}
use Rattle.lookup.specs.declared.Address.{Address}
use Rattle.lookup.specs.declared.Address.TheVariants.{V4, V6}
use Rattle.lookup.specs.declared.Way.{Way}

-- the way of an address: 10 where IPv6 is asked of an IPv4 image
unfoldable pub asked_of : Handle → Address → Result Way Refusal
asked_of h (V4 low) = Ok (record { start = h.start4; depth = h.depth4; width = 32; key = record { high = 0; low = low } })
asked_of h (V6 high low) =
    cond (eqb h.version 4)
    (Err refusal.Ipv6InIpv4)
    (Ok (record { start = 0; depth = 0; width = 128; key = record { high = high; low = low } }))

-- a record that gives no offset is 11
abbrev pub numbered : Option Found → Result Found Refusal
numbered answer = ok_or answer refusal.Record

-- where the way down ends
abbrev pub end_of : List ℕ → Handle → Way → Place
end_of image h w = down image h.size h.nodes (number_of w.key) w.width 0 w.width w.start

unfoldable pub found_from : List ℕ → Handle → Way → Result Found Refusal
found_from image h w =
    numbered (answer_of h.nodes (h.meta - 14 - h.base) (end_of image h w).node (w.depth + (end_of image h w).depth))

-- what is asked of a way: both widths do
pub record Fitting (w : Way) : Type 0 where
  pub wide : w.width ≤ 128
  pub shallow : w.depth ≤ 96
