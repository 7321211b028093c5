-- Steps one after the other and a reading at their end are one `decode_path` of the crate, limits included.
use Prim.{tt}
use Prim.Native.Nat.{ℕ, zero, suc, ◌+◌, ◌-◌, ◌*◌, ◌≤◌}
use mathlib.Core.Path.{◌≡◌, refl, sym, subst, ap, ◌∙◌}
use mathlib.Core.Bool.{Bool, true, false, cond, false≢true}
use mathlib.Core.List.{List, [], ◌∷◌}
use native.Mathlib.Omega.{arith}
use borrow.Author.Tests.{ne_eqb, leb-true, le-ltb, ltb-false, eqb-true}
use Rattle.std.specs.Prelude.{Option, Some, None, Ok, Err}
use Rattle.refusal.specs.declared.Refusal.TheVariants as refusal
use lib.Dec.{leb, ltb}
use lib.ListN.{length, take, drop}
use Rattle.charge.specs.Charge.{entered, paid}
use Rattle.charge.specs.declared.Charge.{Charge}
use Rattle.control.specs.Control.{is_type, type_number, head_at}
use Rattle.control.specs.declared.Kind.{Kind}
use Rattle.stored.specs.Stored.{stored_at, resolved_at}
use Rattle.stored.specs.declared.Layout.{Layout}
use Rattle.key.specs.Keys.{same_bytes, name_at}
use Rattle.key.specs.declared.Name.{Name}
use Rattle.skip.specs.Skip.{entry_on, entry_at, nested, past, after, many, skip_at, skipped_at}
use Rattle.skip.specs.declared.Entry.TheVariants.{Leaf}
use Rattle.skip.specs.declared.Past.{Past}
use Rattle.value.specs.Value.{read_at}
use Rattle.path.specs.Steps.{cursor, Step, landed, on_charged, inside_on, inside_at, past_value, compared, pair_on, pair_at, sought, find_from, on_skipped, element_from, key_in, key_step, index_in, index_step}
use Rattle.path.specs.DecodePath.{Element, key, index, index_from_end, Decoder, new, at, Went, on, failed, reserve, count_payload, then, each, skip_on, skip, Reached, found, none, bad, or_bad, container_on, key_on, keys, elements, navigate, charge_of, present, go_on, decode_path, step_by, on_step, steps}
use Rattle.path.specs.declared.Inside.{Inside}
use Rattle.path.specs.declared.Pair.TheVariants as pair

-- a decoder that the crate can have
record Sound (d : Decoder) : Type 0 where
  left : d.remaining ≤ 2097152
  begun : d.active ≡ true → 1 ≤ d.used

-- the decoder stands where our skipping stands, and has charged what we have
abbrev Agrees : Went → Option Past → Type 0
Agrees (on d) (Some p) = (d.ptr ≡ p.next) × (charge_of d ≡ p.charge) × Sound d
Agrees (on d) None = ⊥
Agrees failed (Some p) = ⊥
Agrees failed None = Unit {0}

-- it stands at p, and has charged what we have
abbrev Charges : ℕ → Went → Option Charge → Type 0
Charges p (on d) (Some c) = (d.ptr ≡ p) × (charge_of d ≡ c) × Sound d
Charges p (on d) None = ⊥
Charges p failed (Some c) = ⊥
Charges p failed None = Unit {0}

abbrev decoder : ℕ → Bool → ℕ → ℕ → Decoder
decoder p a u r = record { ptr = p; active = a; used = u; remaining = r }

abbrev charged : ℕ → ℕ → Charge
charged v p = record { values = v; payload = p }

enters : (p u r count : ℕ) → r ≤ 2097152 → 1 ≤ u → (b : Bool)
    → Charges p (cond b (on (decoder p true (u + count) r)) failed) (cond b (Some (charged (u + count) (2097152 - r))) None)
enters p u r count l h true = (refl, refl, record { left = l; begun = λ e. omega arith })
enters p u r count l h false = tt

reserve_charges : (p : ℕ) (a : Bool) (u r count : ℕ) → Sound (decoder p a u r) → Charges p (reserve (decoder p a u r) count) (entered (charge_of (decoder p a u r)) count)
unfolding entered
reserve_charges p true u r count h =
    rw (ne_eqb u 0 (λ e. omega (arith, h.begun refl))) (enters p u r count h.left (h.begun refl) (leb count (65536 - u)))
reserve_charges p false u r count h = enters p 1 r count h.left (omega arith) (leb count (65536 - 1))

pays : (p u r size : ℕ) → r ≤ 2097152 → 1 ≤ u → (b : Bool) → leb size r ≡ b
    → Charges p (cond b (on (decoder p true u (r - size))) failed) (cond b (Some (charged u (2097152 - r + size))) None)
pays p u r size l h true e =
    let f : size ≤ r = leb-true size r e in
    (refl, ap (charged u) (omega arith), record { left = omega arith; begun = λ x. h })
pays p u r size l h false e = tt

pay_charges : (p : ℕ) (a : Bool) (u r size : ℕ) → Sound (decoder p a u r) → Charges p (count_payload (decoder p a u r) size) (paid (charge_of (decoder p a u r)) size)
unfolding paid
pay_charges p true u r size h =
    let e : 2097152 - (2097152 - r) ≡ r = omega (arith, h.left) in
    rw (ne_eqb u 0 (λ e. omega (arith, h.begun refl)), e) (pays p u r size h.left (h.begun refl) (leb size r) refl)
pay_charges p false u r size h = (refl, refl, h)

-- what agrees for one value agrees for many
each_agrees : (f : Decoder → Went) (g : ℕ → Charge → Option Past) → ((d : Decoder) → Sound d → Agrees (f d) (g d.ptr (charge_of d)))
    → (n : ℕ) (w : Went) (x : Option Past) → Agrees w x → Agrees (each f n w) (many g n x)
unfolding each many
each_agrees f g h zero w x a = a
each_agrees f g h (suc n) (on d) (Some p) a =
    each_agrees f g h n (f d) (g p.next p.charge)
    (subst (λ (q : ℕ). Agrees (f d) (g q p.charge)) a.0 (subst (λ (e : Charge). Agrees (f d) (g d.ptr e)) a.1 (h d a.2)))
each_agrees f g h (suc n) (on d) None a = absurd a
each_agrees f g h (suc n) failed (Some p) a = absurd a
each_agrees f g h (suc n) failed None a = tt

-- children that were entered
nest_agrees : (deeper : ℕ → Went → Went) (below : ℕ → Option Past → Option Past)
    → ((n : ℕ) (d : Decoder) → Sound d → Agrees (deeper n (on d)) (below n (Some (past d.ptr (charge_of d)))))
    → (p n : ℕ) (c : Charge) (w : Went) (x : Option Charge) → Charges p w x → Agrees (then w (λ d. deeper n (on d))) (after below c (nested p n x))
nest_agrees deeper below h p n c (on d) (Some e) a =
    subst (λ (q : ℕ). Agrees (deeper n (on d)) (below n (Some (past q e)))) a.0
    (subst (λ (e : Charge). Agrees (deeper n (on d)) (below n (Some (past d.ptr e)))) a.1 (h n d a.2))
nest_agrees deeper below h p n c (on d) None a = absurd a
nest_agrees deeper below h p n c failed (Some e) a = absurd a
nest_agrees deeper below h p n c failed None a = tt

moved : (d : Decoder) (p : ℕ) → Sound d → Sound (at d p)
moved d p h = record { left = h.left; begun = h.begun }

-- one value
on_agrees : (deeper : ℕ → Went → Went) (below : ℕ → Option Past → Option Past)
    → ((n : ℕ) (d : Decoder) → Sound d → Agrees (deeper n (on d)) (below n (Some (past d.ptr (charge_of d)))))
    → (d : Decoder) → Sound d → (x : Option Layout) → Agrees (skip_on deeper d x) (after below (charge_of d) (entry_on (charge_of d) x))
on_agrees deeper below h d g (Some l) = go (is_type l.kind 7) (is_type l.kind 11)
  where
    go : (b e : Bool)
        → Agrees
        (cond b (then (reserve (at d l.next) (l.size * 2)) (λ x. deeper (l.size * 2) (on x)))
        (cond e (then (reserve (at d l.next) l.size) (λ x. deeper l.size (on x))) (on (at d l.next))))
        (after below (charge_of d)
        (cond b (nested l.next (l.size * 2) (entered (charge_of d) (l.size * 2)))
        (cond e (nested l.next l.size (entered (charge_of d) l.size)) (Some (Leaf l.next)))))
    go true e =
        nest_agrees deeper below h l.next (l.size * 2) (charge_of d) (reserve (at d l.next) (l.size * 2)) (entered (charge_of d) (l.size * 2))
        (reserve_charges l.next d.active d.used d.remaining (l.size * 2) (moved d l.next g))
    go false true =
        nest_agrees deeper below h l.next l.size (charge_of d) (reserve (at d l.next) l.size) (entered (charge_of d) l.size)
        (reserve_charges l.next d.active d.used d.remaining l.size (moved d l.next g))
    go false false = (refl, refl, moved d l.next g)
on_agrees deeper below h d g None = tt

-- the decoder's skip is ours
skip_agrees : (s : List ℕ) (l : ℕ) (d : Decoder) → Sound d → Agrees (skip s l d) (skip_at s l d.ptr (charge_of d))
unfolding skip skip_at entry_at
skip_agrees s zero d g = on_agrees (λ n w. failed) (λ n x. None) (λ n e h. tt) d g (stored_at s d.ptr)
skip_agrees s (suc l) d g =
    on_agrees (each (skip s l)) (many (skip_at s l))
    (λ n e h. each_agrees (skip s l) (skip_at s l) (skip_agrees s l) n (on e) (Some (past e.ptr (charge_of e))) (refl, refl, h))
    d g (stored_at s d.ptr)

-- navigation by one element reaches what our step reaches; at the section's end our step refuses at once
abbrev Meets : List ℕ → Reached → Step → Type 0
Meets s (found d) x = (x ≡ landed s d.ptr (charge_of d)) × Sound d
Meets s none x = x ≡ Ok None
Meets s bad x = x ≡ Err refusal.Malformed

lands : (s : List ℕ) (d : Decoder) (p : ℕ) (c : Charge) → d.ptr ≡ p → charge_of d ≡ c → Sound d → Meets s (found d) (landed s p c)
lands s d p c e f g = (ap (λ (q : ℕ). landed s q c) (sym e) ∙ ap (landed s d.ptr) (sym f), g)

-- what is known of the decoder's place and charge
carried : (s : List ℕ) (f : Decoder → Reached) (g : ℕ → Charge → Step) → ((d : Decoder) → Sound d → Meets s (f d) (g d.ptr (charge_of d)))
    → (d : Decoder) (p : ℕ) (c : Charge) → d.ptr ≡ p → charge_of d ≡ c → Sound d → Meets s (f d) (g p c)
carried s f g h d p c e k sound =
    subst (λ (q : ℕ). Meets s (f d) (g q c)) e (subst (λ (x : Charge). Meets s (f d) (g d.ptr x)) k (h d sound))

-- past a value
past_meets : (s : List ℕ) (f : Decoder → Reached) (g : ℕ → Charge → Step) → ((d : Decoder) → Sound d → Meets s (f d) (g d.ptr (charge_of d)))
    → (w : Went) (x : Option Past) → Agrees w x → Meets s (or_bad w f) (sought s g (past_value x))
past_meets s f g h (on d) (Some p) a = carried s f g h d p.next p.charge a.0 a.1 a.2
past_meets s f g h (on d) None a = absurd a
past_meets s f g h failed (Some p) a = absurd a
past_meets s f g h failed None a = refl

-- a key that is compared
compared_meets : (s k : List ℕ) (f : Decoder → Reached) (g : ℕ → Charge → Step) → ((d : Decoder) → Sound d → Meets s (f d) (g d.ptr (charge_of d)))
    → (from n next : ℕ) (w : Went) (x : Option Charge) → Charges next w x
    → Meets s (or_bad w (λ d. cond (same_bytes (take n (drop from s)) k) (found d) (or_bad (skip s 128 d) f))) (sought s g (compared s k from n next x))
compared_meets s k f g h from n next (on d) (Some c) a = go (same_bytes (take n (drop from s)) k)
  where
    skips : Agrees (skip s 128 d) (skipped_at s next c)
    skips =
        subst (λ (q : ℕ). Agrees (skip s 128 d) (skipped_at s q c)) a.0
        (subst (λ (x : Charge). Agrees (skip s 128 d) (skipped_at s d.ptr x)) a.1 (skip_agrees s 128 d a.2))

    go : (b : Bool) → Meets s (cond b (found d) (or_bad (skip s 128 d) f)) (sought s g (cond b (Some (pair.Here (cursor next c))) (past_value (skipped_at s next c))))
    go true = lands s d next c a.0 a.1 a.2
    go false = past_meets s f g h (skip s 128 d) (skipped_at s next c) skips
compared_meets s k f g h from n next (on d) None a = absurd a
compared_meets s k f g h from n next failed (Some c) a = absurd a
compared_meets s k f g h from n next failed None a = refl

key_meets : (s k : List ℕ) (f : Decoder → Reached) (g : ℕ → Charge → Step) → ((d : Decoder) → Sound d → Meets s (f d) (g d.ptr (charge_of d)))
    → (d : Decoder) → Sound d → (x : Option Name) → Meets s (key_on s k f d x) (sought s g (pair_on s k (charge_of d) x))
key_meets s k f g h d sound (Some n) =
    compared_meets s k f g h n.from n.size n.next (count_payload (at d n.next) n.size) (paid (charge_of d) n.size)
    (pay_charges n.next d.active d.used d.remaining n.size (moved d n.next sound))
key_meets s k f g h d sound None = refl

keys_meet : (s k : List ℕ) (n : ℕ) (d : Decoder) → Sound d → Meets s (keys s k n d) (find_from s k n d.ptr (charge_of d))
unfolding keys find_from pair_at
keys_meet s k zero d sound = refl
keys_meet s k (suc n) d sound = key_meets s k (keys s k n) (find_from s k n) (keys_meet s k n) d sound (name_at s d.ptr)

-- an element past others
element_meets : (s : List ℕ) (w : Went) (x : Option Past) → Agrees w x → Meets s (or_bad w found) (on_skipped s x)
element_meets s (on d) (Some p) a = lands s d p.next p.charge a.0 a.1 a.2
element_meets s (on d) None a = absurd a
element_meets s failed (Some p) a = absurd a
element_meets s failed None a = refl

elements_meet : (s : List ℕ) (i : ℕ) (d : Decoder) → Sound d → Meets s (elements s i d) (element_from s i d.ptr (charge_of d))
elements_meet s i d sound =
    element_meets s (each (skip s 128) i (on d)) (many (skipped_at s) i (Some (past d.ptr (charge_of d))))
    (each_agrees (skip s 128) (skip_at s 128) (skip_agrees s 128) i (on d) (Some (past d.ptr (charge_of d))) (refl, refl, sound))

-- a map or array that was entered
abbrev within : (ℕ → ℕ → Charge → Step) → Option Inside → Step
within g (Some x) = g x.size x.first x.charge
within g None = Err refusal.Malformed

entered_meets : (s : List ℕ) (f : Decoder → Reached) (g : ℕ → ℕ → Charge → Step) (n : ℕ) → ((d : Decoder) → Sound d → Meets s (f d) (g n d.ptr (charge_of d)))
    → (p : ℕ) (w : Went) (x : Option Charge) → Charges p w x → Meets s (or_bad w f) (within g (on_charged p n x))
entered_meets s f g n h p (on d) (Some c) a = carried s f (g n) h d p c a.0 a.1 a.2
entered_meets s f g n h p (on d) None a = absurd a
entered_meets s f g n h p failed (Some c) a = absurd a
entered_meets s f g n h p failed None a = refl

-- a value of one type is of no other
not_map : (k : Kind) → is_type k 11 ≡ true → is_type k 7 ≡ false
not_map k e = rw (eqb-true (type_number k) 11 e)

module _ (s : List ℕ) (d : Decoder) (sound : Sound d) where
  map_meets : (f : ℕ → Decoder → Reached) (g : ℕ → ℕ → Charge → Step) → ((n : ℕ) (d : Decoder) → Sound d → Meets s (f n d) (g n d.ptr (charge_of d)))
      → (x : Option Layout) → Meets s (container_on d 7 (λ n. n * 2) f x) (within g (inside_on (charge_of d) 7 x))
  map_meets f g h (Some l) = go (is_type l.kind 7)
    where
      go : (b : Bool)
          → Meets s (cond b (or_bad (reserve (at d l.payload) (l.size * 2)) (f l.size)) bad)
          (within g (cond b (on_charged l.payload l.size (entered (charge_of d) (cond b (l.size * 2) l.size))) None))
      go true =
          entered_meets s (f l.size) g l.size (h l.size) l.payload (reserve (at d l.payload) (l.size * 2)) (entered (charge_of d) (l.size * 2))
          (reserve_charges l.payload d.active d.used d.remaining (l.size * 2) (moved d l.payload sound))
      go false = refl
  map_meets f g h None = refl

  array_meets : (f : ℕ → Decoder → Reached) (g : ℕ → ℕ → Charge → Step) → ((n : ℕ) (d : Decoder) → Sound d → Meets s (f n d) (g n d.ptr (charge_of d)))
      → (x : Option Layout) → Meets s (container_on d 11 (λ n. n) f x) (within g (inside_on (charge_of d) 11 x))
  array_meets f g h (Some l) = go (is_type l.kind 11) refl
    where
      go : (b : Bool) → is_type l.kind 11 ≡ b
          → Meets s (cond b (or_bad (reserve (at d l.payload) l.size) (f l.size)) bad)
          (within g (cond b (on_charged l.payload l.size (entered (charge_of d) (cond (is_type l.kind 7) (l.size * 2) l.size))) None))
      go true e =
          rw (not_map l.kind e)
          (entered_meets s (f l.size) g l.size (h l.size) l.payload (reserve (at d l.payload) l.size) (entered (charge_of d) l.size)
          (reserve_charges l.payload d.active d.used d.remaining l.size (moved d l.payload sound)))
      go false e = refl
  array_meets f g h None = refl

  key_step_lem : (k : List ℕ) → Meets s (navigate s (key k) d) (key_step s (cursor d.ptr (charge_of d)) k)
  unfolding navigate key_step inside_at
  key_step_lem k =
      subst (Meets s (container_on d 7 (λ n. n * 2) (keys s k) (resolved_at s d.ptr))) (sym (same (inside_on (charge_of d) 7 (resolved_at s d.ptr))))
      (map_meets (keys s k) (find_from s k) (keys_meet s k) (resolved_at s d.ptr))
    where
      same : (x : Option Inside) → key_in s k x ≡ within (find_from s k) x
      same (Some x) = refl
      same None = refl

  -- an index, counted as `place` says for the array's size
  index_step_lem : (i : ℕ) (b : Bool) (place : ℕ → ℕ) → ((n : ℕ) → place n ≡ cond b (n - 1 - i) i)
      → Meets s (container_on d 11 (λ n. n) (λ n x. cond (ltb i n) (elements s (place n) x) none) (resolved_at s d.ptr))
      (index_step s (cursor d.ptr (charge_of d)) i b)
  unfolding index_step inside_at
  index_step_lem i b place e =
      subst (Meets s (container_on d 11 (λ n. n) (λ n x. cond (ltb i n) (elements s (place n) x) none) (resolved_at s d.ptr)))
      (sym (same (inside_on (charge_of d) 11 (resolved_at s d.ptr))))
      (array_meets (λ n x. cond (ltb i n) (elements s (place n) x) none) chosen meets (resolved_at s d.ptr))
    where
      chosen : ℕ → ℕ → Charge → Step
      chosen n p c = cond (ltb i n) (element_from s (place n) p c) (Ok None)

      counted : (t : Bool) (n p : ℕ) (c : Charge) → place n ≡ cond t (n - 1 - i) i → element_from s (place n) p c ≡ cond t (element_from s (n - 1 - i) p c) (element_from s i p c)
      counted true n p c f = ap (λ (j : ℕ). element_from s j p c) f
      counted false n p c f = ap (λ (j : ℕ). element_from s j p c) f

      same : (x : Option Inside) → index_in s i b x ≡ within chosen x
      same (Some x) = ap (λ (y : Step). cond (ltb i x.size) y (Ok None)) (sym (counted b x.size x.first x.charge (e x.size)))
      same None = refl

      meets : (n : ℕ) (x : Decoder) → Sound x → Meets s (cond (ltb i n) (elements s (place n) x) none) (chosen n x.ptr (charge_of x))
      meets n x h = go (ltb i n)
        where
          go : (t : Bool) → Meets s (cond t (elements s (place n) x) none) (cond t (element_from s (place n) x.ptr (charge_of x)) (Ok None))
          go true = elements_meet s (place n) x h
          go false = refl

-- each element
navigate_meets : (s : List ℕ) (e : Element) (d : Decoder) → Sound d → Meets s (navigate s e d) (step_by s e (cursor d.ptr (charge_of d)))
unfolding navigate
navigate_meets s (key k) d sound = key_step_lem s d sound k
navigate_meets s (index i) d sound = index_step_lem s d sound i false (λ n. i) (λ n. refl)
navigate_meets s (index_from_end i) d sound = index_step_lem s d sound i true (λ n. n - 1 - i) (λ n. refl)

-- nothing lies at the section's end: every path from there is refused
ended : (s : List ℕ) (p : ℕ) → length s ≤ p → resolved_at s p ≡ None
unfolding resolved_at stored_at head_at
ended s p h = rw (le-ltb p (length s) h)

ended_path : (s : List ℕ) (es : List Element) (d : Decoder) → length s ≤ d.ptr → decode_path s es d ≡ present (Err refusal.Malformed)
unfolding decode_path read_at navigate
ended_path s [] d h = rw (ended s d.ptr h)
ended_path s (key k ∷ es) d h = rw (ended s d.ptr h)
ended_path s (index i ∷ es) d h = rw (ended s d.ptr h)
ended_path s (index_from_end i ∷ es) d h = rw (ended s d.ptr h)

on_path : (s : List ℕ) (es : List Element) → ((d : Decoder) → Sound d → decode_path s es d ≡ steps s es (cursor d.ptr (charge_of d)))
    → (r : Reached) (x : Step) → Meets s r x → go_on (decode_path s es) r ≡ on_step (steps s es) x
on_path s es h (found d) x a = go (ltb d.ptr (length s)) refl ∙ ap (on_step (steps s es)) (sym a.0)
  where
    go : (b : Bool) → ltb d.ptr (length s) ≡ b → decode_path s es d ≡ on_step (steps s es) (landed s d.ptr (charge_of d))
    go true e = rw e (h d a.1)
    go false e = rw e (ended_path s es d (ltb-false d.ptr (length s) e))
on_path s es h none x a = ap (on_step (steps s es)) (sym a)
on_path s es h bad x a = ap (on_step (steps s es)) (sym a)

path_steps : (s : List ℕ) (es : List Element) (d : Decoder) → Sound d → decode_path s es d ≡ steps s es (cursor d.ptr (charge_of d))
unfolding decode_path steps
path_steps s [] d sound = refl
path_steps s (e ∷ es) d sound =
    on_path s es (path_steps s es) (navigate s e d) (step_by s e (cursor d.ptr (charge_of d))) (navigate_meets s e d sound)

-- a fresh cursor's steps, and the reading at their end, answer as one path of the crate
pub path_is_steps : (s : List ℕ) (es : List Element) (p : ℕ) → decode_path s es (new p) ≡ steps s es (cursor p (charged 0 0))
path_is_steps s es p = path_steps s es (new p) (record { left = omega arith; begun = λ e. absurd (false≢true e) })
