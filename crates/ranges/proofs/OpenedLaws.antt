-- What the handle that opening gave says, and a full walk with it.
use Prim.Native.Nat.{ℕ, ◌-◌, ◌^◌, ◌<◌}
use mathlib.Core.Path.{◌≡◌, refl, ap, sym, ◌∙◌}
use mathlib.Core.Bool.{true}
use mathlib.Core.Logic.{⊎_elim}
use mathlib.Core.List.{List}
use native.Mathlib.Nat.{zero-mul, zero-add, add-zero, add_comm}
use native.Mathlib.Omega.{arith}
use lib.ListN.{length, get_or, length-take, length-drop}
use Rattle.handle.specs.declared.Handle.{Handle}
use Rattle.handle.specs.Handle.{fits_of}
use Rattle.handle.proofs.HandleLaws.{Fit, fit}
use Rattle.tree.specs.Lookup.{down, answer_of, ipv4_start_of}
use Rattle.tree.specs.declared.Place.{Place}
use Rattle.tree.proofs.LookupLaws.{place, deeper, ipv4_way}
use Rattle.lookup.specs.Lookup.{asked_of, numbered, found_from}
use Rattle.tree.specs.declared.Found.{Found}
use Rattle.refusal.specs.declared.Refusal.{Refusal}
use Rattle.lookup.specs.declared.Address.{Address}
use Rattle.lookup.specs.declared.Address.TheVariants.{V4, V6}
use Rattle.maxminddb.specs.Entries.{lookup_of}
use Rattle.opening.specs.Opening.{open_of}
use Rattle.opening.specs.declared.Reader.{Reader}
use Rattle.std.specs.Prelude.{Option, Result, Ok}
use Rattle.opening.proofs.OpeningLaws.{is_open, open_fits}
use Rattle.tiles.specs.Tiles.{path}
use Rattle.tiles.proofs.ListLaws.{all_map}
use Rattle.place.specs.declared.Network.{Network}
use Rattle.walk.specs.Calls.{data_section}
use Rattle.fullwalk.specs.FullWalk.{width_of, tree_networks, Covers, told_by, lookup}
use Rattle.fullwalk.proofs.FullWalkLaws.{whole_tree}
use Rattle.fullwalk.proofs.Demand.{demand_3}
use Rattle.ranges.specs.Opened.{key_in, Askable, found_by, Full}

-- the handle fits, and in an IPv6 image IPv4 addresses start where zero bits lead, until a terminal or depth 96
pub record FromOpening (image : List ℕ) (h : Handle) : Type 0 where
  pub fits : fits_of h (length image) ≡ true
  pub start : h.version ≡ 6 → ipv4_start_of image h.size h.nodes ≡ place h.start4 h.depth4

pub from_opening : (image : List ℕ) → ((i : ℕ) → get_or image i 0 < 256) → {r : Reader} → open_of image ≡ Ok r → FromOpening image r.handle
from_opening image bytes {r} e =
    let o = is_open image e in
    record {
      fits = open_fits image bytes e;
      start = rw o.reader (λ v. rw v refl);
    }

told_found : (len : ℕ) (o : Option ℕ) → numbered (told_by len o) ≡ found_by len o
told_found len o = refl

module _ (image : List ℕ) (h : Handle) where
  -- the data section is as long as its ends say
  room_same : Fit h (length image) → length (data_section image h) ≡ h.meta - 14 - h.base
  room_same f =
      simp (length-take, length-drop) (omega (arith, f.whole, f.marked))

  -- the answer of the way that ends at a place, as a lookup numbers it
  abbrev answered : Place → Result Found Refusal
  answered p = numbered (answer_of h.nodes (h.meta - 14 - h.base) p.node p.depth)

  module _ (o : FromOpening image h) where
    fitting : Fit h (length image)
    fitting = fit h (length image) o.fits

    by_path : (x : ℕ) → numbered (lookup image h x) ≡ answered (path image h.size h.nodes (width_of h) x)
    by_path x = rw (room_same fitting)

    found_v6 : (high low : ℕ) → h.version ≡ 6 → lookup_of image h (V6 high low) ≡ answered (path image h.size h.nodes 128 (key_in (V6 high low)))
    unfolding lookup_of asked_of found_from
    found_v6 high low v = simp (o.fits, v, zero-add)

    found_v4 : (low : ℕ) → lookup_of image h (V4 low) ≡ answered (deeper h.depth4 (down image h.size h.nodes low 32 0 32 h.start4))
    unfolding lookup_of asked_of found_from
    found_v4 low = simp (o.fits, zero-mul, zero-add, add_comm)

    way_v4 : (low : ℕ) → low < 2 ^ 32 → deeper h.depth4 (down image h.size h.nodes low 32 0 32 h.start4) ≡ path image h.size h.nodes (width_of h) low
    way_v4 low small =
        ⊎_elim
        (λ v. let z = fitting.only4 v in rw (v, z.0, z.1, add-zero))
        (λ v. rw v (sym (ipv4_way image h.size h.nodes low small ∙ ap (λ (p : Place). deeper p.depth (down image h.size h.nodes low 32 0 32 p.node)) (o.start v))))
        fitting.versioned

    -- looking an address up is looking at the end of its key's path
    pub found_path : (a : Address) → Askable h a → lookup_of image h a ≡ numbered (lookup image h (key_in a))
    found_path (V4 low) small = found_v4 low ∙ ap answered (way_v4 low small) ∙ sym (by_path low)
    found_path (V6 high low) v = found_v6 high low v ∙ rw v (sym (rw v at (by_path (key_in (V6 high low)))))

    agreed :
        (n : Network) → ((x : ℕ) → Covers (width_of h) x n → lookup image h x ≡ told_by n.len n.offset)
        → (a : Address) → Askable h a → Covers (width_of h) (key_in a) n → lookup_of image h a ≡ found_by n.len n.offset
    agreed n f a k c = found_path a k ∙ ap numbered (f (key_in a) c) ∙ told_found n.len n.offset

    pub full : Full image h
    full =
        record {
          each = whole_tree image h o.fits;
          error_then = λ w. (demand_3 image h o.fits w).error_then;
          then_error = λ w. (demand_3 image h o.fits w).then_error;
          clean = λ w none.
              let c = (demand_3 image h o.fits w).clean none in
              record { own = c.own; ascend = c.ascend; one = c.one; agree = all_map _ _ agreed (tree_networks image h) c.agree };
        }
