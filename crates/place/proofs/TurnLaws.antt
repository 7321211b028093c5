-- Laws of what taking a place comes to.
use Prim.Native.Nat.{ℕ, ◌<◌}
use mathlib.Core.Path.{◌≡◌, refl}
use mathlib.Core.Bool.{Bool, true, false, cond}
use mathlib.Core.List.{List}
use Rattle.std.specs.Prelude.{Option, Some, None, Result, Ok, Err}
use lib.ListN.{length}
use lib.Dec.{ltb}
use borrow.Author.Tests.{ltb-true}
use Rattle.refusal.specs.declared.Refusal.{Refusal}
use Rattle.refusal.specs.declared.Refusal.TheVariants as refusal
use Rattle.handle.specs.declared.Handle.{Handle}
use Rattle.tree.specs.Lookup.{answer_of}
use Rattle.tree.specs.declared.Found.{Found}
use Rattle.value.specs.Empty.{empty_at}
use Rattle.place.specs.declared.Place.{Place}
use Rattle.place.specs.declared.Options.{Options}
use Rattle.place.specs.declared.Network.{Network}
use Rattle.place.specs.declared.Outcome.{Outcome}
use Rattle.place.specs.declared.Outcome.TheVariants.{Given, Failed, Refused, Paused, End}
use Rattle.place.specs.declared.Turn.{Turn}
use Rattle.place.specs.declared.Turn.TheVariants.{Passed, Out, Opened}
use Rattle.place.specs.Kinds.{is_skipped}
use Rattle.place.specs.Turns.{network_of, unless_empty, end_at, end_of, turn_of}

-- a place hands out a network or one of its own refusals, and nothing else
pub data Handed : Outcome → Type 0 where
  network : (n : Network) → Handed (Given n)
  failure : (k : Refusal) → Handed (Failed k)

-- so no refusal of the walk, no Paused and no End
pub handed_only : {a : Outcome} → Handed a → ((k : Refusal) → a ≡ Refused k → ⊥) × (a ≡ Paused → ⊥) × (a ≡ End → ⊥)
handed_only (network n) = ((λ k e. cc), (λ e. cc), (λ e. cc))
handed_only (failure j) = ((λ k e. cc), (λ e. cc), (λ e. cc))

-- what a place can come to; only a node above full width is opened
data Shown (nodes width : ℕ) (p : Place) : Turn → Type 0 where
  passed : Shown nodes width p Passed
  handed : {a : Outcome} → Handed a → Shown nodes width p (Out a)
  node : p.value < nodes → p.len < width → Shown nodes width p Opened

module _ (d : List ℕ) (h : Handle) (o : Options) (width : ℕ) (p : Place) where
  abbrev S : Turn → Type 0
  S = Shown h.nodes width p

  either : (b : Bool) {t u : Turn} → S t → S u → S (cond b t u)
  either true f g = f
  either false f g = g

  unless : (e : Result Bool Refusal) (n : Network) → S (unless_empty e n)
  unless (Ok b) n = either b passed (handed (network n))
  unless (Err e) n = handed (failure e)

  ending_at : (a : Option ℕ) → S (end_at d h o width p a)
  ending_at (Some offset) =
      let n = network_of h width p (Some offset) in
      either o.skipempty (unless (empty_at d offset) n) (handed (network n))
  ending_at None = either o.dataless (handed (network (network_of h width p None))) passed

  ending : (a : Option Found) → S (end_of d h o width p a)
  ending (Some f) = ending_at f.offset
  ending None = handed (failure refusal.Record)

  inner : (a b : Bool) → ltb p.value h.nodes ≡ a → ltb p.len width ≡ b → {t : Turn} → S t → S (cond a (cond b Opened (Out (Failed refusal.TooDeep))) t)
  inner true true e f s = node (ltb-true _ _ e) (ltb-true _ _ f)
  inner true false e f s = handed (failure refusal.TooDeep)
  inner false b e f s = s

  shown : S (turn_of d h o width p)
  unfolding turn_of
  shown =
      either (is_skipped h o width p) passed
      (inner (ltb p.value h.nodes) (ltb p.len width) refl refl (ending (answer_of h.nodes (length d) p.value p.len)))

  opened_by : {t : Turn} → S t → t ≡ Opened → (p.value < h.nodes) × (p.len < width)
  opened_by passed e = cc
  opened_by (handed s) e = cc
  opened_by (node v l) e = (v, l)

  pub opened : turn_of d h o width p ≡ Opened → (p.value < h.nodes) × (p.len < width)
  opened = opened_by shown

  handed_by : {t : Turn} (a : Outcome) → S t → t ≡ Out a → Handed a
  handed_by a passed e = cc
  handed_by a (handed {a = b} s) e = let q : a ≡ b = cc in rw q s
  handed_by a (node v l) e = cc

  pub out_handed : (a : Outcome) → turn_of d h o width p ≡ Out a → Handed a
  out_handed a = handed_by a shown
