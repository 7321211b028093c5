use Prim.Native.Nat.{ℕ, ◌-◌}
use mathlib.Core.Path.{◌≡◌, sym, ap, ◌∙◌}
use mathlib.Core.List.{List}
use native.Mathlib.Omega.{arith}
use lib.ListN.{length, take, drop, length-drop}
use lib.Seq.{take_all}
use Rattle.std.specs.Prelude.{Some, None}
use Rattle.handle.proofs.HandleLaws.{Fit, fit}
use Rattle.opening.proofs.OpeningLaws.{open_fits}
use Rattle.about.specs.About.{wanted_of, in_image, text_of, part_of}
use Rattle.about.proofs.place.Goals as goal
use Rattle.about.proofs.place.Goals.{In-Ok}

-- the handle that opening gave fits
fitted : (c : In-Ok) → Fit c.in-Ok.reader.handle (length c.args.image.now)
fitted c = let s = c.args.image.now in fit c.in-Ok.reader.handle (length s) (open_fits s (λ i. (c.type_inv.image i).fits) (sym c.open.ensures ∙ c.in-Ok.is))

-- the metadata section reaches to the image's end
rest : (s : List ℕ) (k : ℕ) → take (length s - k) (drop k s) ≡ drop k s
rest s k = take_all (length s - k) (drop k s) (omega (arith, length-drop k s))

pub slice_bounds-s-count : goal.slice_bounds-s-count
slice_bounds-s-count c = (fitted (goal.at.slice_bounds-s-count c).In-Ok).whole

pub slice_bounds-s-start : goal.slice_bounds-s-start
slice_bounds-s-start c = (fitted (goal.at.slice_bounds-s-start c).In-Ok).whole

pub seen-requires : goal.seen-requires
seen-requires c = let a = c.args in
    let k = c.in-Ok.reader.handle.meta in
    let f = fitted (goal.at.seen-requires c).In-Ok in
    rw (rest a.image.now k) (omega (arith, length-drop k a.image.now, f.whole, f.short))

pub returns-in_default : goal.returns-in_default
unfolding text_of
returns-in_default c = record { value = simp (sym c.open.ensures ∙ c.in_default.is); size_in_bounds = omega arith }

pub returns-in-Some : goal.returns-in-Some
unfolding text_of
returns-in-Some c = let s = c.args.image.now in
    let k = c.in-Ok.reader.handle.meta in
    let e = rest s k in
    let w : wanted_of (drop k s) c.in-Ok.reader.metadata c.args.wanted c.args.index ≡ Some c.in-Some.part = rw e at (sym c.span.ensures ∙ c.in-Some.is) in
    let f = fitted (goal.at.returns-in-Some c).In-Ok in
    record {
      value = c.seen.ensures.value ∙ ap (λ (l : List ℕ). part_of (in_image k (length l) (Some c.in-Some.part))) e ∙ simp (sym c.open.ensures ∙ c.in-Ok.is, w);
      size_in_bounds = omega (arith, c.seen.ensures.size_bound, ap length e, length-drop k s, f.whole);
    }

pub returns-in-None : goal.returns-in-None
unfolding text_of
returns-in-None c = let s = c.args.image.now in
    let k = c.in-Ok.reader.handle.meta in
    let w : wanted_of (drop k s) c.in-Ok.reader.metadata c.args.wanted c.args.index ≡ None = rw (rest s k) at (sym c.span.ensures ∙ c.in-None.is) in
    record { value = simp (sym c.open.ensures ∙ c.in-Ok.is, w); size_in_bounds = omega arith }
