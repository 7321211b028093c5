-- Lookups.
use Prim.Native.Nat.{ℕ, ◌+◌}
use mathlib.Core.Path.{◌≡◌, refl, sym, ◌∙◌}
use mathlib.Core.Bool.{Bool, true, false, cond, false≢true}
use mathlib.Core.Logic.{inl, inr}
use mathlib.Core.List.{List, [], ◌∷◌, drop}
use native.Mathlib.Omega.{arith}
use lib.ListN.{length}
use lib.Dec.{eqb}
use borrow.Author.Tests.{eqb-true, eqb-false}
use Rattle.std.specs.Prelude.{Option, Ok, Err}
use Rattle.refusal.specs.declared.Refusal.TheVariants as refusal
use Rattle.handle.specs.Handle.{fits_of}
use Rattle.handle.specs.declared.Handle.{Handle}
use Rattle.handle.proofs.HandleLaws.{fit, fits_of_lem}
use Rattle.tree.specs.declared.Found.{Found}
use Rattle.section.specs.Section.{data_length}
use Rattle.lookup.specs.Lookup.{asked_of, numbered, end_of, found_from}
use Rattle.lookup.specs.declared.Address.{Address}
use Rattle.lookup.specs.declared.Address.TheVariants.{V4, V6}
use Rattle.lookup.specs.declared.Way.{Way}
use Rattle.maxminddb.specs.Answers.{lookup_verdict}
use Rattle.maxminddb.specs.Entries.{on_asked, lookup_of}
use Rattle.order.specs.Order.{Verdict, Refuses, Table, First, Exactly}
use Rattle.order.proofs.OrderLaws.{exactly, gate}
use Rattle.promises.proofs.Offsets.{Told, none, offset, neither, told}
use Rattle.promises.specs.Handles.{NoFit, IsIpv6, NoOffset, record_of, lookup_table}

-- 9 is looked at first
pub fitting :
    {A : Type 0} (verdict : A → Verdict) (s : List ℕ) (h : Handle) (next refused : A) (rows : Table) → verdict refused ≡ Refuses 9
    → (fits_of h (length s) ≡ true → First rows (verdict next))
    → First ((Refuses 9, NoFit s h) ∷ rows) (verdict (cond (fits_of h (length s)) next refused))
fitting verdict s h next refused rows e more =
    gate verdict (fits_of h (length s)) next refused rows (λ t n. n (fit h (length s) t)) (λ t f. false≢true (sym t ∙ fits_of_lem h (length s) f)) e more

-- 11
offset_first :
    {nodes room node len : ℕ} {a : Option Found} → Told nodes room node len a → First ((Refuses 11, NoOffset nodes room node) ∷ []) (lookup_verdict (numbered a))
offset_first (none l) = inr ((λ p. let q = p.0 in omega arith), refl)
offset_first (offset o l e) = inr ((λ p. p.1 o l e), refl)
offset_first (neither n) = inl (n, refl)

module _ (s : List ℕ) (h : Handle) where
  abbrev ways : Address → Table
  ways a = (Refuses 11, NoOffset h.nodes (data_length h) (record_of s h a)) ∷ []

  found_first : (w : Way) → First ((Refuses 11, NoOffset h.nodes (data_length h) (end_of s h w).node) ∷ []) (lookup_verdict (found_from s h w))
  unfolding found_from
  found_first w = offset_first (told h.nodes (data_length h) (end_of s h w).node (w.depth + (end_of s h w).depth))

  way_first : (a : Address) → First ((Refuses 10, IsIpv6 a × (h.version ≡ 4)) ∷ ways a) (lookup_verdict (on_asked s h (asked_of h a)))
  unfolding asked_of
  way_first (V4 low) = inr ((λ p. p.0), found_first _)
  way_first (V6 high low) = by (eqb h.version 4) refl
    where
      by :
          (b : Bool) → eqb h.version 4 ≡ b
          → First ((Refuses 10, IsIpv6 (V6 high low) × (h.version ≡ 4)) ∷ ways (V6 high low))
          (lookup_verdict (on_asked s h (cond b (Err refusal.Ipv6InIpv4) (Ok (record { start = 0; depth = 0; width = 128; key = record { high = high; low = low } })))))
      by true e = inl ((tt, eqb-true h.version 4 e), refl)
      by false e = inr ((λ p. eqb-false h.version 4 e p.1), found_first _)

  -- LOOKUP
  pub lookup : (a : Address) → Exactly (lookup_table s h a) (lookup_verdict (lookup_of s h a))
  unfolding lookup_of
  lookup a = exactly (lookup_table s h a) _ (fitting lookup_verdict s h _ _ (drop 1 (lookup_table s h a)) refl (λ t. way_first a))
