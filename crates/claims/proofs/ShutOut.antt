-- Versions that the promises shut out. docs/CLAIMS.md has the must-fail edits beside them.
use Prim.Native.Nat.{ℕ, ◌^◌, ◌≤◌}
use mathlib.Core.Path.{◌≡◌, refl, sym, ap, ◌∙◌}
use mathlib.Core.Bool.{true}
use mathlib.Core.List.{List, [], ◌∷◌}
use native.Mathlib.Omega.{arith}
use lib.ListN.{length}
use Rattle.std.specs.Prelude.{Some, None, Result, Ok, Err}
use Rattle.refusal.specs.declared.Refusal.{Refusal}
use Rattle.number.specs.Bytes.{be_at}
use Rattle.control.specs.Control.{kind_of, size_at, sized_at, head_at}
use Rattle.control.specs.Pointers.{link_at}
use Rattle.stored.specs.Stored.{lying_at, stored_at, resolved_at}
use Rattle.charge.specs.Charge.{entered, paid}
use Rattle.text.specs.Utf8.{run}
use Rattle.key.specs.Keys.{same_bytes, name_at}
use Rattle.fields.specs.Fields.{text_at, many, past_at, value_at}
use Rattle.metadata.specs.Names.{bytes, field_of}
use Rattle.metadata.specs.Metadata.{key_at, pair_at, all_seen, whole_of, gather, metadata_of}
use Rattle.tree.specs.Marker.{agree, last_below, marker_of}
use Rattle.tree.specs.Lookup.{found, down, answer_of}
use Rattle.tree.specs.Record.{record_at}
use Rattle.handle.specs.Handle.{fits_of}
use Rattle.handle.specs.declared.Handle.{Handle}
use Rattle.lookup.specs.Lookup.{asked_of, found_from}
use Rattle.lookup.specs.declared.Address.TheVariants.{V4}
use Rattle.tree.specs.declared.Found.{Found}
use Rattle.opening.specs.Opening.{open_of}
use Rattle.opening.specs.declared.Reader.{Reader}
use Rattle.maxminddb.specs.Entries.{lookup_of}
use Rattle.maxminddb.proofs.open.Reads as «open»
use Rattle.maxminddb.proofs.lookup.Reads as lookup
use Rattle.maxminddb.proofs.next.Reads as next
use Rattle.place.specs.Kinds as kinds
use Rattle.place.specs.Kinds.{is_alias}
use Rattle.place.specs.Shape.{newest_out}
use Rattle.place.specs.Turns.{child_key, turn_of}
use Rattle.place.specs.declared.NetworkKind.TheVariants as network
use Rattle.place.specs.declared.Outcome.{Outcome}
use Rattle.place.specs.declared.Outcome.TheVariants.{Paused}
use Rattle.walk.specs.Starts.{first_of, begin_of}
use Rattle.walk.specs.Calls.{out_of_shape, goes, next_of}
use Rattle.walk.specs.declared.Walk.{Walk}
use Rattle.walk.specs.declared.Called.{Called}
use Rattle.carried.proofs.Worked.{net}
use Rattle.carried.proofs.Paused.{paused_after, within_budget}
use Rattle.fullwalk.specs.FullWalk.{full_walk, Walked, ends, goes_on}
use Rattle.fullwalk.proofs.FullWalkLaws.{whole_tree}
use Rattle.claims.specs.Cases.{image, Opens, handle_with}
use Rattle.claims.specs.Promised.{Slice, Meets}

-- image A
abbrev A : List ℕ
A = image 4 17 1

abbrev handle_a : Handle
handle_a = handle_with 4 0 0

a_opens : Opens A handle_a
unfolding image down record_at bytes open_of marker_of last_below agree metadata_of resolved_at stored_at lying_at head_at sized_at size_at kind_of be_at link_at entered paid gather pair_at key_at name_at field_of same_bytes value_at text_at many past_at run all_seen whole_of
a_opens = record { reader = _; is = refl; handle = refl }

a_found : lookup_of A handle_a (V4 0x01020304) ≡ Ok (found (Some 0) 1)
unfolding image lookup_of asked_of found_from fits_of answer_of down record_at be_at bytes
a_found = refl

-- ALWAYS REFUSING: image A is opened, and an address of it is found
pub open_answers : (lent : Slice) → lent.now ≡ A → (r : Result Reader Refusal) → Meets «open».Post (lent, tt) r → (n : Refusal) → r ≡ Err n → ⊥
open_answers lent a r m n e =
    let f = sym e ∙ m.1.1 ∙ ap open_of a ∙ a_opens.is in
    cc

pub lookup_answers : (lent : Slice) → lent.now ≡ A → (r : Result Found Refusal) → Meets lookup.Post (lent, (handle_a, (V4 0x01020304, tt))) r → r ≡ Ok (found (Some 0) 1)
lookup_answers lent a r m = m.1.1 ∙ ap (λ (s : List ℕ). lookup_of s handle_a (V4 0x01020304)) a ∙ a_found

-- ONE NETWORK, length 0, no data: image A's full walk hands out its two networks, whatever the budgets
abbrev networks_a : List Outcome
networks_a = net 0 1 network.V4 (Some 0) ∷ net (2 ^ 31) 1 network.V4 None ∷ []

a_walked : Walked A handle_a (full_walk A handle_a) networks_a
unfolding image bytes next_of goes out_of_shape newest_out turn_of kinds.kind_of is_alias child_key answer_of begin_of first_of fits_of down record_at be_at
a_walked = goes_on 1 (goes_on 1 (goes_on 1 (ends 0 refl)))

a_fits : fits_of handle_a (length A) ≡ true
unfolding image bytes fits_of
a_fits = refl

pub one_list : {l : List Outcome} → Walked A handle_a (full_walk A handle_a) l → l ≡ networks_a
one_list w = whole_tree A handle_a a_fits w ∙ sym (whole_tree A handle_a a_fits a_walked)

pub not_one_network : Walked A handle_a (full_walk A handle_a) (net 0 0 network.V4 None ∷ []) → ⊥
not_one_network w =
    let e : ◌≡◌ {A = ℕ} 1 2 = ap length (one_list w) in
    omega arith

-- A CALL THAT DOES NOTHING: Paused comes only after the budget's places
module _ (lent : Slice) (h : Handle) (w : Walk) (budget : ℕ) (r : Called) (m : Meets next.Post (lent, (h, (w, (budget, tt)))) r) where
  abbrev is : r ≡ next_of lent.now h w budget
  is = m.1.1

  pub paused_only_after : r.answer ≡ Paused → r.taken ≡ budget
  paused_only_after e =
      ap (λ (c : Called). c.taken) is ∙ paused_after lent.now h w budget (sym (ap (λ (c : Called). c.answer) is) ∙ e)

  -- ALL WORK AT ONCE: no call takes more places than its budget
  pub no_more_than_budget : r.taken ≤ budget
  no_more_than_budget = rw is (within_budget lent.now h w budget)

  -- AN INVENTED COUNT, or another walk: both are the definition's own
  pub count_and_walk : (r.taken ≡ (next_of lent.now h w budget).taken) × (r.walk ≡ (next_of lent.now h w budget).walk)
  count_and_walk = (ap (λ (c : Called). c.taken) is, ap (λ (c : Called). c.walk) is)
