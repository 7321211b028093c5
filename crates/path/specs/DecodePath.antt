-- A path and the reading at its end, as the crate's `decode_path_relative` goes: one decoder from the first element to the last.
use Rattle.std.specs.Prelude.{ℕ, zero, suc, ◌+◌, ◌-◌, ◌*◌, List, [], ◌∷◌, Bool, true, false, cond, take, drop, leb, ltb, Option, Some, None, Result, Ok, Err}
use Rattle.refusal.specs.declared.Refusal.{Refusal}
use Rattle.refusal.specs.declared.Refusal.TheVariants as refusal
use Rattle.charge.specs.declared.Charge.{Charge}
use Rattle.control.specs.Control.{is_type}
use Rattle.stored.specs.Stored.{stored_at, resolved_at}
use Rattle.stored.specs.declared.Layout.{Layout}
use Rattle.key.specs.Keys.{same_bytes, name_at}
use Rattle.key.specs.declared.Name.{Name}
use Rattle.value.specs.Value.{read_at}
use Rattle.value.specs.declared.Value.{Value}
use Rattle.path.specs.Steps.{Step, key_step, index_step}
use Rattle.path.specs.declared.Cursor.{Cursor}

pub data Element : Type 0 where
  key : List ℕ → Element
  index : ℕ → Element
  index_from_end : ℕ → Element

-- the crate's decoder: where it stands, whether its budget is active, how many values it has used, how much payload remains
pub record Decoder : Type 0 where
  pub ptr : ℕ
  pub active : Bool
  pub used : ℕ
  pub remaining : ℕ

abbrev pub new : ℕ → Decoder
new p = record { ptr = p; active = false; used = 0; remaining = 2097152 }

abbrev pub at : Decoder → ℕ → Decoder
at d p = record { ptr = p; active = d.active; used = d.used; remaining = d.remaining }

-- how an operation of the decoder ends
pub data Went : Type 0 where
  on : Decoder → Went
  failed : Went

-- reserve_container_values: the first map or array activates the budget and counts 1
abbrev pub reserve : Decoder → ℕ → Went
reserve d count =
    let used = cond d.active d.used 1 in
    cond (leb count (65536 - used)) (on (record { ptr = d.ptr; active = true; used = used + count; remaining = d.remaining })) failed

-- count_payload
abbrev pub count_payload : Decoder → ℕ → Went
count_payload d size =
    cond d.active
    (cond (leb size d.remaining) (on (record { ptr = d.ptr; active = d.active; used = d.used; remaining = d.remaining - size })) failed)
    (on d)

abbrev pub then : Went → (Decoder → Went) → Went
then (on d) f = f d
then failed f = failed

-- n values one after the other
unfoldable pub each : (Decoder → Went) → ℕ → Went → Went
each f zero w = w
each f (suc n) (on d) = each f n (f d)
each f (suc n) failed = failed

-- skip_value_inner: a map's or an array's children are reserved, and skipped one level deeper
abbrev pub skip_on : (ℕ → Went → Went) → Decoder → Option Layout → Went
skip_on deeper d (Some l) =
    cond (is_type l.kind 7) (then (reserve (at d l.next) (l.size * 2)) (λ x. deeper (l.size * 2) (on x)))
    (cond (is_type l.kind 11) (then (reserve (at d l.next) l.size) (λ x. deeper l.size (on x)))
    (on (at d l.next)))
skip_on deeper d None = failed

unfoldable pub skip : List ℕ → ℕ → Decoder → Went
skip s zero d = skip_on (λ n w. failed) d (stored_at s d.ptr)
skip s (suc l) d = skip_on (each (skip s l)) d (stored_at s d.ptr)

-- where navigation by one element ends
pub data Reached : Type 0 where
  found : Decoder → Reached
  none : Reached
  bad : Reached

abbrev pub or_bad : Went → (Decoder → Reached) → Reached
or_bad (on d) f = f d
or_bad failed f = bad

-- consume_container_header, where the type is the one that the element wants
abbrev pub container_on : Decoder → ℕ → (ℕ → ℕ) → (ℕ → Decoder → Reached) → Option Layout → Reached
container_on d wanted children f (Some l) = cond (is_type l.kind wanted) (or_bad (reserve (at d l.payload) (children l.size)) (f l.size)) bad
container_on d wanted children f None = bad

-- read_str_as_bytes, and what the loop over the keys does with it
abbrev pub key_on : List ℕ → List ℕ → (Decoder → Reached) → Decoder → Option Name → Reached
key_on s k more d (Some n) =
    or_bad (count_payload (at d n.next) n.size) (λ x. cond (same_bytes (take n.size (drop n.from s)) k) (found x) (or_bad (skip s 128 x) more))
key_on s k more d None = bad

unfoldable pub keys : List ℕ → List ℕ → ℕ → Decoder → Reached
keys s k zero d = none
keys s k (suc n) d = key_on s k (keys s k n) d (name_at s d.ptr)

abbrev pub elements : List ℕ → ℕ → Decoder → Reached
elements s i d = or_bad (each (skip s 128) i (on d)) found

unfoldable pub navigate : List ℕ → Element → Decoder → Reached
navigate s (key k) d = container_on d 7 (λ n. n * 2) (keys s k) (resolved_at s d.ptr)
navigate s (index i) d = container_on d 11 (λ n. n) (λ n x. cond (ltb i n) (elements s i x) none) (resolved_at s d.ptr)
navigate s (index_from_end i) d = container_on d 11 (λ n. n) (λ n x. cond (ltb i n) (elements s (n - 1 - i) x) none) (resolved_at s d.ptr)

-- what the decoder's budget says in our words
abbrev pub charge_of : Decoder → Charge
charge_of d = record { values = cond d.active d.used 0; payload = 2097152 - d.remaining }

-- the answer of a path: a value or a refusal, or nothing there
pub data Answer : Type 0 where
  present : Result Value Refusal → Answer
  absent : Answer

abbrev pub go_on : (Decoder → Answer) → Reached → Answer
go_on f (found d) = f d
go_on f none = absent
go_on f bad = present (Err refusal.Malformed)

unfoldable pub decode_path : List ℕ → List Element → Decoder → Answer
decode_path s [] d = present (read_at s d.ptr (charge_of d))
decode_path s (e ∷ es) d = go_on (decode_path s es) (navigate s e d)

-- our steps, one after the other, and the reading at their end
abbrev pub step_by : List ℕ → Element → Cursor → Step
step_by s (key k) c = key_step s c k
step_by s (index i) c = index_step s c i false
step_by s (index_from_end i) c = index_step s c i true

abbrev pub on_step : (Cursor → Answer) → Step → Answer
on_step f (Ok (Some c)) = f c
on_step f (Ok None) = absent
on_step f (Err r) = present (Err r)

unfoldable pub steps : List ℕ → List Element → Cursor → Answer
steps s [] c = present (read_at s c.place c.charge)
steps s (e ∷ es) c = on_step (steps s es) (step_by s e c)
