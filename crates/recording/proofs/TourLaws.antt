-- Laws of the tree walk of verification.
use Prim.Native.Nat.{ℕ, zero, suc, ◌+◌, ◌-◌, ◌*◌, ◌<◌}
use mathlib.Core.Path.{◌≡◌, refl}
use mathlib.Core.Bool.{Bool, true, false, cond}
use mathlib.Core.List.{List}
use lib.ListN.{length}
use lib.Dec.{ltb, leb}
use borrow.Author.Tests.{ltb-true}
use Rattle.std.specs.Prelude.{Option, Some, None, Result, Ok, Err}
use Rattle.refusal.specs.declared.Refusal.{Refusal}
use Rattle.refusal.specs.declared.Refusal.TheVariants as refusal
use Rattle.handle.specs.declared.Handle.{Handle}
use Rattle.handle.specs.Handle.{fits_of}
use Rattle.tree.specs.Lookup.{found, answer_of, offset_of}
use Rattle.tree.specs.declared.Found.{Found}
use Rattle.marks.specs.Marks.{Below, record_each}
use Rattle.value.specs.Empty.{empty_at}
use Rattle.place.specs.declared.Place.{Place}
use Rattle.place.specs.declared.Options.{Options}
use Rattle.place.specs.declared.Outcome.{Outcome}
use Rattle.place.specs.declared.Outcome.TheVariants as outcome
use Rattle.place.specs.declared.Turn.{Turn}
use Rattle.place.specs.declared.Turn.TheVariants.{Passed, Out, Opened}
use Rattle.place.specs.Kinds.{is_skipped}
use Rattle.place.specs.Turns.{network_of, unless_empty, end_at, end_of, turn_of}
use Rattle.walk.specs.declared.Walk.{Walk}
use Rattle.walk.specs.Walks.{newest}
use Rattle.walk.specs.Calls.{data_section, called, goes, next_of}
use Rattle.walk.proofs.CallLaws.{by_goes}
use Rattle.recording.specs.Recording.{offsets_of, On, reply_of, Tour, on_reply, too_many_tour, toured, tour_of, marked}

-- an offset inside a section
abbrev pub Inside : ℕ → Option ℕ → Type 0
Inside len (Some o) = o < len
Inside len None = Unit

-- what a call hands out: the offset of its network, if it is one, is inside the data section
abbrev pub Told : ℕ → Outcome → Type 0
Told len (outcome.Given n) = Inside len n.offset
Told len (outcome.Failed r) = Unit
Told len (outcome.Refused r) = Unit
Told len outcome.Paused = Unit
Told len outcome.End = Unit

abbrev ToldBy : ℕ → Turn → Type 0
ToldBy len Passed = Unit
ToldBy len (Out a) = Told len a
ToldBy len Opened = Unit

abbrev FoundIn : ℕ → Option Found → Type 0
FoundIn len (Some f) = Inside len f.offset
FoundIn len None = Unit

found_in : (nodes room node len : ℕ) → FoundIn room (answer_of nodes room node len)
unfolding answer_of
found_in nodes room node len = pick (leb node nodes) (ltb node (nodes + 16)) (ltb (offset_of nodes node) room) refl
  where
    pick :
        (a b c : Bool) → ltb (offset_of nodes node) room ≡ c
        → FoundIn room (cond a (Some (found None len)) (cond b None (cond c (Some (found (Some (offset_of nodes node)) len)) None)))
    pick true b c e = tt
    pick false true c e = tt
    pick false false true e = ltb-true _ _ e
    pick false false false e = tt

module _ (d : List ℕ) (h : Handle) (o : Options) (width : ℕ) (p : Place) where
  abbrev T : Turn → Type 0
  T = ToldBy (length d)

  either : (b : Bool) (t u : Turn) → T t → T u → T (cond b t u)
  either true t u f g = f
  either false t u f g = g

  unless : (e : Result Bool Refusal) (x : ℕ) → x < length d → T (unless_empty e (network_of h width p (Some x)))
  unless (Ok true) x l = tt
  unless (Ok false) x l = l
  unless (Err r) x l = tt

  ending_at : (a : Option ℕ) → Inside (length d) a → T (end_at d h o width p a)
  ending_at (Some x) l = either o.skipempty _ _ (unless (empty_at d x) x l) l
  ending_at None l = either o.dataless (Out (outcome.Given (network_of h width p None))) Passed tt tt

  ending : (a : Option Found) → FoundIn (length d) a → T (end_of d h o width p a)
  ending (Some f) l = ending_at f.offset l
  ending None l = tt

  told_turn : T (turn_of d h o width p)
  unfolding turn_of
  told_turn =
      either (is_skipped h o width p) _ _ tt
      (either (ltb p.value h.nodes) _ _
      (either (ltb p.len width) Opened (Out (outcome.Failed refusal.TooDeep)) tt tt)
      (ending (answer_of h.nodes (length d) p.value p.len) (found_in h.nodes (length d) p.value p.len)))

module _ (s : List ℕ) (h : Handle) where
  abbrev len : ℕ
  len = length (data_section s h)

  told_goes : (n t : ℕ) (w : Walk) → Told len (goes s h n t w).answer
  told_goes =
      by_goes s h (λ n t w c. Told len c.answer)
      (record {
        end = λ n t w z. tt;
        out = λ n t w l f. tt;
        paused = λ t w r. tt;
        handed = λ n t w a r e. rw e at (told_turn (data_section s h) h w.options w.width (newest w));
        passed = λ n t w c r e q. q;
        opened = λ n t w c r e q. q;
      })

  pub told_next : (w : Walk) (b : ℕ) → Told len (next_of s h w b).answer
  unfolding next_of
  told_next w b = pick (fits_of h (length s))
    where
      pick : (f : Bool) → Told len (cond f (goes s h b 0 w) (called (outcome.Refused refusal.Handle) 0 w)).answer
      pick true = told_goes b 0 w
      pick false = tt

  below_reply : (a : Outcome) (t : Tour) → Told len a → Below len t.offsets → Below len (on_reply (reply_of a) t).offsets
  unfolding Below
  below_reply (outcome.Given n) t i b = below_offset n.offset i
    where
      below_offset : (o : Option ℕ) → Inside len o → Below len (on_reply (On o) t).offsets
      below_offset (Some x) j = (j, b)
      below_offset None j = b
  below_reply (outcome.Failed r) t i b = tt
  below_reply (outcome.Refused r) t i b = tt
  below_reply outcome.Paused t i b = tt
  below_reply outcome.End t i b = tt

  toured_below : (more b : ℕ) (w : Walk) → Below len (toured s h more b w).offsets
  unfolding toured Below
  toured_below zero b w = below_reply (next_of s h w b).answer too_many_tour (told_next w b) tt
  toured_below (suc more) b w =
      below_reply (next_of s h w b).answer _ (told_next w b) (toured_below more (b - (next_of s h w b).taken) (next_of s h w b).walk)

  -- EVERY RECORDED OFFSET IS INSIDE THE DATA SECTION
  pub tour_below : (budget : ℕ) → Below len (tour_of s h budget).offsets
  unfolding tour_of
  tour_below budget = toured_below (3 * h.nodes) budget _

-- the scratch with a network's offset first
pub marked_offset : (ws : List ℕ) (o : Option ℕ) (t : Tour) → marked t (record_each ws (offsets_of o)) ≡ marked (on_reply (On o) t) ws
unfolding record_each
marked_offset ws (Some x) t = refl
marked_offset ws None t = refl
