-- A walk: its start, and its call with a budget.
use Rattle.std.specs.Prelude.{ℕ, zero, suc, ◌+◌, ◌^◌, ◌≤◌, ◌<◌, ◌≡◌, true, ◌⊎◌, List, [], ◌∷◌, length, Err}
use Rattle.number.specs.Keys.{number_of}
use Rattle.refusal.specs.declared.Refusal.{Refusal}
use Rattle.refusal.specs.declared.Refusal.TheVariants as refusal
use Rattle.handle.specs.declared.Handle.{Handle}
use Rattle.handle.proofs.HandleLaws.{Fit}
use Rattle.value.specs.Empty.{empty_at}
use Rattle.place.specs.declared.Network.{Network}
use Rattle.place.specs.declared.Outcome.{Outcome}
use Rattle.place.specs.declared.Outcome.TheVariants as outcome
use Rattle.place.specs.declared.Turn.{Turn}
use Rattle.place.specs.declared.Turn.TheVariants as turn
use Rattle.walk.specs.declared.Range.{Range}
use Rattle.walk.specs.declared.Range.TheVariants.{Ipv4, Ipv6}
use Rattle.walk.specs.declared.Started.{Started}
use Rattle.walk.specs.declared.Walk.{Walk}
use Rattle.walk.specs.declared.Called.{Called}
use Rattle.walk.specs.Walks.{no_walk, newest, taken}
use Rattle.walk.specs.Calls.{data_section, turn_at, stepped}
use Rattle.maxminddb.specs.Answers.{start_verdict, next_verdict}
use Rattle.order.specs.Order.{Table, Refuses, Ends, Pauses, Exactly}
use Rattle.promises.specs.Handles.{NoFit, NoOffset}

-- 16: a prefix length above 32 (IPv4) or 128 (IPv6)
abbrev pub PrefixTooLong : Range → Type 0
PrefixTooLong (Ipv4 addr len) = 32 < len
PrefixTooLong (Ipv6 addr len) = 128 < len

-- 10: an IPv6 range is asked of an IPv4 image
abbrev pub IsIpv6Range : Range → Type 0
IsIpv6Range (Ipv4 addr len) = ⊥
IsIpv6Range (Ipv6 addr len) = Unit

-- start of a walk: 9, 16, 10
abbrev pub start_table : List ℕ → Handle → Range → Table
start_table s h r =
    (Refuses 9, NoFit s h)
    ∷ (Refuses 16, PrefixTooLong r)
    ∷ (Refuses 10, IsIpv6Range r × (h.version ≡ 4))
    ∷ []

-- a refused start gives a walk of width 32 with no waiting place and no option
pub record Start (s : List ℕ) (h : Handle) (r : Range) (x : Started) : Type 0 where
  pub verdict : Exactly (start_table s h r) (start_verdict x.status)
  pub walk : (e : Refusal) → x.status ≡ Err e → x.walk ≡ no_walk

-- 13, the walk is out of shape: count above 129; width neither 32 nor 128; the newest length above the width; width 32 and one of the
-- newest key's upper 96 bits set; the newest internal, shorter than the width, and count 129
pub data OutOfShape (nodes : ℕ) (w : Walk) : Type 0 where
  crowded : 129 < w.count → OutOfShape nodes w
  other_width : (w.width ≡ 32 → ⊥) → (w.width ≡ 128 → ⊥) → OutOfShape nodes w
  too_long : w.width < (newest w).len → OutOfShape nodes w
  wide_key : w.width ≡ 32 → 2 ^ 32 ≤ number_of (newest w).key → OutOfShape nodes w
  no_room : (newest w).value < nodes → (newest w).len < w.width → w.count ≡ 129 → OutOfShape nodes w

-- a place may be taken: the handle fits, some place waits, and the walk is in shape
abbrev pub Takes : List ℕ → Handle → Walk → Type 0
Takes s h w = Fit h (length s) × ((w.count ≡ 0 → ⊥) × (OutOfShape h.nodes w → ⊥))

-- a taken place hands nothing out: an alias, a network without data or an empty value that is skipped, or a node, whose children it puts back
abbrev pub Silent : Turn → Type 0
Silent turn.Passed = Unit
Silent (turn.Out a) = ⊥
Silent turn.Opened = Unit

-- so many places are taken that hand nothing out, and lead from one walk to another
abbrev pub Leads : List ℕ → Handle → ℕ → Walk → Walk → Type 0
Leads s h zero w at = w ≡ at
Leads s h (suc n) w at = Takes s h w × (Silent (turn_at s h w) × Leads s h n (stepped s h w) at)

-- 12: an internal node at full width
abbrev pub TooDeep : Handle → Walk → Type 0
TooDeep h w = ((newest w).value < h.nodes) × ((newest w).len ≡ w.width)

-- 14: empty values are skipped, and whether the value is empty cannot be seen
pub record BadValue (s : List ℕ) (h : Handle) (w : Walk) : Type 0 where
  pub skipping : w.options.skipempty ≡ true
  pub offset : ℕ
  pub inside : offset < length (data_section s h)
  pub is : (newest w).value ≡ h.nodes + 16 + offset
  pub malformed : empty_at (data_section s h) offset ≡ Err refusal.Malformed

-- a walk's call, where it ends, with so many places of its budget left: 9; none waiting, End; out of shape, 13; none left, Paused; else
-- what the newest place comes to
abbrev pub call_table : List ℕ → Handle → ℕ → Walk → Table
call_table s h left w =
    (Refuses 9, NoFit s h)
    ∷ (Ends, w.count ≡ 0)
    ∷ (Refuses 13, OutOfShape h.nodes w)
    ∷ (Pauses, left ≡ 0)
    ∷ (Refuses 12, TooDeep h w)
    ∷ (Refuses 11, NoOffset h.nodes (length (data_section s h)) (newest w).value)
    ∷ (Refuses 14, BadValue s h w)
    ∷ []

-- the walk and the count afterwards: a network, 11, 12 and 14 have taken the one place that they come from, any other answer leaves all as
-- it stands
abbrev pub Afterwards : Outcome → ℕ → Walk → ℕ → Walk → Type 0
Afterwards (outcome.Given n) before at count w = (count ≡ before + 1) × (w ≡ taken at)
Afterwards (outcome.Failed n) before at count w = (count ≡ before + 1) × (w ≡ taken at)
Afterwards (outcome.Refused n) before at count w = (count ≡ before) × (w ≡ at)
Afterwards outcome.Paused before at count w = (count ≡ before) × (w ≡ at)
Afterwards outcome.End before at count w = (count ≡ before) × (w ≡ at)

-- where a call with budget b ends: past the places that hand nothing out, as many as the budget allows
pub record Stop (s : List ℕ) (h : Handle) (w : Walk) (b before left : ℕ) (at : Walk) : Type 0 where
  pub leads : Leads s h before w at
  pub budget : before + left ≡ b
  pub stops : Takes s h at → (left ≡ 0) ⊎ (Silent (turn_at s h at) → ⊥)

-- what a call answers there
pub record Call (s : List ℕ) (h : Handle) (w : Walk) (b : ℕ) (c : Called) : Type 0 where
  pub before : ℕ
  pub left : ℕ
  pub at : Walk
  pub stop : Stop s h w b before left at
  pub verdict : Exactly (call_table s h left at) (next_verdict c.answer)
  pub network : (n : Network) → c.answer ≡ outcome.Given n → turn_at s h at ≡ turn.Out (outcome.Given n)
  pub afterwards : Afterwards c.answer before at c.taken c.walk
