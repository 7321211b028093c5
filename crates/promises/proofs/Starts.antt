-- The start of a walk.
use Prim.Native.Nat.{ℕ}
use mathlib.Core.Path.{◌≡◌, refl}
use mathlib.Core.Bool.{Bool, true, false, cond, ◌&&◌}
use mathlib.Core.Logic.{inl, inr}
use mathlib.Core.List.{List, [], ◌∷◌, drop}
use native.Mathlib.Omega.{arith}
use lib.ListN.{length}
use lib.Dec.{leb, eqb}
use borrow.Author.Tests.{leb-true, leb-false, eqb-true, eqb-false}
use Rattle.std.specs.Prelude.{Err}
use Rattle.refusal.specs.declared.Refusal.{Refusal}
use Rattle.refusal.specs.declared.Refusal.TheVariants as refusal
use Rattle.handle.specs.Handle.{fits_of}
use Rattle.handle.specs.declared.Handle.{Handle}
use Rattle.place.specs.declared.Options.{Options}
use Rattle.walk.specs.declared.Range.{Range}
use Rattle.walk.specs.declared.Range.TheVariants.{Ipv4, Ipv6}
use Rattle.walk.specs.declared.Started.{Started}
use Rattle.walk.specs.Walks.{no_walk}
use Rattle.walk.specs.Starts.{asked_of, is_ipv6_in_ipv4, first_of, refused_start, begun_with, begin_of}
use Rattle.maxminddb.specs.Answers.{start_verdict}
use Rattle.order.specs.Order.{Verdict, Refuses, First}
use Rattle.order.proofs.OrderLaws.{exactly, gate}
use Rattle.promises.specs.Walks.{PrefixTooLong, IsIpv6Range, start_table, Start}
use Rattle.promises.proofs.Handles.{fitting}

module _ (s : List ℕ) (h : Handle) (o : Options) where
  abbrev verdict : Started → Verdict
  verdict x = start_verdict x.status

  long : (r : Range) → leb (asked_of r).len (asked_of r).width ≡ true → PrefixTooLong r → ⊥
  long (Ipv4 addr len) e l = let k = leb-true len 32 e in omega arith
  long (Ipv6 addr len) e l = let k = leb-true len 128 e in omega arith

  longer : (r : Range) → leb (asked_of r).len (asked_of r).width ≡ false → PrefixTooLong r
  longer (Ipv4 addr len) e = leb-false len 32 e
  longer (Ipv6 addr len) e = leb-false len 128 e

  version_first :
      (r : Range) → First ((Refuses 10, IsIpv6Range r × (h.version ≡ 4)) ∷ [])
      (verdict (cond (is_ipv6_in_ipv4 h (asked_of r).width) (refused_start refusal.Ipv6InIpv4) (begun_with (first_of s h (asked_of r)) o)))
  version_first (Ipv4 addr len) = by (eqb h.version 4)
    where
      by :
          (b : Bool) → First ((Refuses 10, IsIpv6Range (Ipv4 addr len) × (h.version ≡ 4)) ∷ [])
          (verdict (cond (b && false) (refused_start refusal.Ipv6InIpv4) (begun_with (first_of s h (asked_of (Ipv4 addr len))) o)))
      by true = inr ((λ p. p.0), refl)
      by false = inr ((λ p. p.0), refl)
  version_first (Ipv6 addr len) = by (eqb h.version 4) refl
    where
      by :
          (b : Bool) → eqb h.version 4 ≡ b
          → First ((Refuses 10, IsIpv6Range (Ipv6 addr len) × (h.version ≡ 4)) ∷ [])
          (verdict (cond (b && true) (refused_start refusal.Ipv6InIpv4) (begun_with (first_of s h (asked_of (Ipv6 addr len))) o)))
      by true e = inl ((tt, eqb-true h.version 4 e), refl)
      by false e = inr ((λ p. eqb-false h.version 4 e p.1), refl)

  start_first : (r : Range) → First (start_table s h r) (verdict (begin_of s h r o))
  unfolding begin_of
  start_first r =
      fitting verdict s h _ _ (drop 1 (start_table s h r)) refl
      (λ t. gate verdict (leb (asked_of r).len (asked_of r).width) _ _ (drop 2 (start_table s h r)) (long r) (longer r) refl (λ u. version_first r))

  -- a refused start's walk
  refused_walk : (r : Range) (e : Refusal) → (begin_of s h r o).status ≡ Err e → (begin_of s h r o).walk ≡ no_walk
  unfolding begin_of
  refused_walk r n = by (fits_of h (length s)) (leb (asked_of r).len (asked_of r).width) (is_ipv6_in_ipv4 h (asked_of r).width)
    where
      by :
          (a b c : Bool)
          → (cond a (cond b (cond c (refused_start refusal.Ipv6InIpv4) (begun_with (first_of s h (asked_of r)) o)) (refused_start refusal.PrefixLength)) (refused_start refusal.Handle)).status ≡ Err n
          → (cond a (cond b (cond c (refused_start refusal.Ipv6InIpv4) (begun_with (first_of s h (asked_of r)) o)) (refused_start refusal.PrefixLength)) (refused_start refusal.Handle)).walk ≡ no_walk
      by true true true e = refl
      by true true false e = cc
      by true false c e = refl
      by false b c e = refl

  -- THE START OF A WALK
  pub within : (r : Range) → Start s h r (begin_of s h r o)
  within r = record { verdict = exactly (start_table s h r) _ (start_first r); walk = refused_walk r }
