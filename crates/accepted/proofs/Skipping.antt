-- What can be passed over without a limit of values is passed over with it, exactly if the values inside are few enough.
use Prim.Native.Nat.{ℕ, zero, suc, ◌+◌, ◌-◌, ◌*◌, ◌≤◌, ◌<◌}
use mathlib.Core.Path.{◌≡◌, refl, ap, ◌∙◌}
use mathlib.Core.Bool.{Bool, true, false, cond}
use mathlib.Core.List.{List}
use native.Mathlib.Nat.{not-suc-le-zero, le_of_suc-le-suc}
use native.Mathlib.Omega.{arith}
use lib.Dec.{leb, eqb}
use borrow.Author.Tests.{ne_eqb, leb-true, leb-false, eqb-false}
use Rattle.control.specs.Control.{is_type}
use Rattle.charge.specs.Charge.{most_values, since_entry, entered}
use Rattle.charge.specs.declared.Charge.{Charge}
use Rattle.std.specs.Prelude.{Option, Some, None, option_and_then}
use Rattle.stored.specs.Stored.{stored_at}
use Rattle.stored.specs.declared.Layout.{Layout}
use Rattle.skip.specs.Skip.{nested, nest_of, entry_on, entry_at, past, many, after, skip_at}
use Rattle.skip.specs.declared.Entry.TheVariants.{Leaf}
use Rattle.skip.specs.declared.Past.{Past}
use Rattle.skip.proofs.SkipLaws.{many_stop}
use Rattle.sweep.specs.Pass as pass
use Rattle.sweep.specs.Pass.{pass_many, pass_at}
use Rattle.accepted.specs.Values.{and_more, held_in_many, held_on, held_at}

-- what is left of the limit of values
abbrev pub room_of : Charge → ℕ
room_of c = most_values - since_entry c.values

-- with v values inside, and an end
pub data Skips (v end : ℕ) (c : Charge) : Option Past → Type 0 where
  within : (d : Charge) → v ≤ room_of c → since_entry d.values ≡ since_entry c.values + v → Skips v end c (Some (past end d))
  over : room_of c < v → Skips v end c None

stuck : {A : Type 0} {p : ℕ} → None ≡ Some p → A
stuck e = absurd (cc)

-- a count that has begun stays begun
since_more : (a b : ℕ) → since_entry (since_entry a + b) ≡ since_entry a + b
since_more a b = by (eqb a 0) refl
  where
    pos : (n : ℕ) → 0 < n → since_entry n ≡ n
    pos n h = simp (ne_eqb n 0 (λ e. omega arith))

    by : (t : Bool) → eqb a 0 ≡ t → since_entry (cond t 1 a + b) ≡ cond t 1 a + b
    by true e = pos (1 + b) (omega arith)
    by false e = let n = eqb-false a 0 e in pos (a + b) (omega arith)

-- one after the other
joined : {v u end : ℕ} {c d : Charge} {x : Option Past} → v ≤ room_of c → since_entry d.values ≡ since_entry c.values + v → Skips u end d x → Skips (v + u) end c x
joined {v} {u} {end} {c} {d} a b (within e f g) = within e (fits (since_entry c.values) (since_entry d.values) v u a b f) (g ∙ ap (λ (k : ℕ). k + u) b ∙ omega arith)
  where
    fits : (x y v u : ℕ) → v ≤ most_values - x → y ≡ x + v → u ≤ most_values - y → v + u ≤ most_values - x
    fits x y v u a b f = omega arith
joined {v} {u} {end} {c} {d} a b (over f) = over (fits (since_entry c.values) (since_entry d.values) v u a b f)
  where
    fits : (x y v u : ℕ) → v ≤ most_values - x → y ≡ x + v → most_values - y < u → most_values - x < v + u
    fits x y v u a b f = omega arith

module _ (s : List ℕ) where
  abbrev Tells : ℕ → Type 0
  Tells l = (p end : ℕ) (c : Charge) → pass_at l s p ≡ Some end → Skips (held_at l s p) end c (skip_at s l p c)

  module _ (l : ℕ) (each : Tells l) where
    abbrev in_many : ℕ → ℕ → ℕ
    in_many = held_in_many (pass_at l s) (held_at l s)

    tells_many : (n p end : ℕ) (c : Charge) → pass_many (pass_at l s) n p ≡ Some end → Skips (in_many n p) end c (many (skip_at s l) n (Some (past p c)))
    unfolding pass_many held_in_many many
    tells_many zero p end c e = let q : p ≡ end = cc in rw q (within c (omega arith) (omega arith))
    tells_many (suc n) p end c e = by (pass_at l s p) refl e (λ q d f. tells_many n q end d f)
      where
        rest : (q : ℕ) {x : Option Past} → ((d : Charge) → Skips (in_many n q) end d (many (skip_at s l) n (Some (past q d)))) → Skips (held_at l s p) q c x
            → Skips (held_at l s p + in_many n q) end c (many (skip_at s l) n x)
        rest q f (within d a b) = joined a b (f d)
        rest q f (over a) = rw (many_stop (skip_at s l) n) (over (omega arith))

        by : (y : Option ℕ) → pass_at l s p ≡ y → option_and_then (pass_many (pass_at l s) n) y ≡ Some end
            → ((q : ℕ) (d : Charge) → pass_many (pass_at l s) n q ≡ Some end → Skips (in_many n q) end d (many (skip_at s l) n (Some (past q d))))
            → Skips (held_at l s p + and_more y (in_many n)) end c (many (skip_at s l) n (skip_at s l p c))
        by (Some q) f g more = rest q (λ d. more q d g) (each p q c f)
        by None f g more = stuck g

    -- entered: the children, and what is inside them
    tells_nest : (n next end : ℕ) (c : Charge) → pass_many (pass_at l s) n next ≡ Some end → Skips (n + in_many n next) end c (after (many (skip_at s l)) c (nest_of next n c))
    unfolding entered
    tells_nest n next end c e = by (leb n (most_values - since_entry c.values)) refl
      where
        by : (t : Bool) → leb n (most_values - since_entry c.values) ≡ t
            → Skips (n + in_many n next) end c
            (after (many (skip_at s l)) c
            (nested next n (cond t (Some (record { values = since_entry c.values + n; payload = c.payload })) None)))
        by true f = joined (leb-true _ _ f) (since_more c.values n) (tells_many n next end _ e)
        by false f = over (let g = leb-false n (most_values - since_entry c.values) f in omega arith)

    tells_layout : (y : Option Layout) (end : ℕ) (c : Charge) → pass.on_layout true (pass_at l s) y ≡ Some end → Skips (held_on in_many y) end c (after (many (skip_at s l)) c (entry_on c y))
    unfolding pass.on_layout held_in_many
    tells_layout (Some v) end c e = by v.size v.next (is_type v.kind 7) (is_type v.kind 11) e
      where
        by : (n next : ℕ) (a b : Bool) → cond a (pass_many (pass_at l s) (n * 2) next) (cond b (pass_many (pass_at l s) n next) (Some next)) ≡ Some end
            → Skips (cond a (n * 2) (cond b n 0) + in_many (cond a (n * 2) (cond b n 0)) next) end c
            (after (many (skip_at s l)) c (cond a (nest_of next (n * 2) c) (cond b (nest_of next n c) (Some (Leaf next)))))
        by n next true b f = tells_nest (n * 2) next end c f
        by n next false true f = tells_nest n next end c f
        by n next false false f = let q : next ≡ end = cc in rw q (within c (omega arith) (omega arith))
    tells_layout None end c e = stuck e

  flat : (y : Option Layout) (end : ℕ) (c : Charge) → pass.on_layout false (λ q. None) y ≡ Some end → Skips (held_on (λ n q. 0) y) end c (after (λ n x. None) c (entry_on c y))
  unfolding pass.on_layout
  flat (Some v) end c e = by v.size v.next (is_type v.kind 7) (is_type v.kind 11) e
    where
      by : (n next : ℕ) (a b : Bool) → cond a None (cond b None (Some next)) ≡ Some end
          → Skips (cond a (n * 2) (cond b n 0) + 0) end c (after (λ n x. None) c (cond a (nest_of next (n * 2) c) (cond b (nest_of next n c) (Some (Leaf next)))))
      by n next true b f = stuck f
      by n next false true f = stuck f
      by n next false false f = let q : next ≡ end = cc in rw q (within c (omega arith) (omega arith))
  flat None end c e = stuck e

  -- PASSING OVER, WITH ITS LIMIT
  pub skip_tells : (l : ℕ) → Tells l
  unfolding pass_at held_at skip_at entry_at
  skip_tells zero p end c e = flat (stored_at s p) end c e
  skip_tells (suc l) p end c e = tells_layout l (skip_tells l) (stored_at s p) end c e

  -- more levels: what can be passed over stays so
  more_many : (f g : ℕ → Option ℕ) → ((p q : ℕ) → f p ≡ Some q → g p ≡ Some q) → (n p q : ℕ) → pass_many f n p ≡ Some q → pass_many g n p ≡ Some q
  unfolding pass_many
  more_many f g h zero p q e = e
  more_many f g h (suc n) p q e = by (f p) refl e (λ r b. more_many f g h n r q b)
    where
      by : (y : Option ℕ) → f p ≡ y → option_and_then (pass_many f n) y ≡ Some q → ((r : ℕ) → pass_many f n r ≡ Some q → pass_many g n r ≡ Some q)
          → option_and_then (pass_many g n) (g p) ≡ Some q
      by (Some r) a b more = ap (option_and_then (pass_many g n)) (h p r a) ∙ more r b
      by None a b more = stuck b

  more_layout : (t : Bool) (f g : ℕ → Option ℕ) → ((p q : ℕ) → f p ≡ Some q → g p ≡ Some q) → (y : Option Layout) (q : ℕ) → pass.on_layout t f y ≡ Some q → pass.on_layout true g y ≡ Some q
  unfolding pass.on_layout
  more_layout t f g h (Some v) q e = by v.size v.next t (is_type v.kind 7) (is_type v.kind 11) e
    where
      by : (n next : ℕ) (t a b : Bool) → cond a (cond t (pass_many f (n * 2) next) None) (cond b (cond t (pass_many f n next) None) (Some next)) ≡ Some q
          → cond a (pass_many g (n * 2) next) (cond b (pass_many g n next) (Some next)) ≡ Some q
      by n next true true b d = more_many f g h (n * 2) next q d
      by n next true false true d = more_many f g h n next q d
      by n next true false false d = d
      by n next false true b d = stuck d
      by n next false false true d = stuck d
      by n next false false false d = d
  more_layout t f g h None q e = stuck e

  pub pass_more : (k l p q : ℕ) → k ≤ l → pass_at k s p ≡ Some q → pass_at l s p ≡ Some q
  unfolding pass_at
  pass_more zero zero p q h e = e
  pass_more zero (suc l) p q h e = more_layout false (λ r. None) (pass_at l s) (λ a b f. stuck f) (stored_at s p) q e
  pass_more (suc k) zero p q h e = absurd (not-suc-le-zero h)
  pass_more (suc k) (suc l) p q h e = more_layout true (pass_at k s) (pass_at l s) (λ a b f. pass_more k l a b (le_of_suc-le-suc h) f) (stored_at s p) q e
