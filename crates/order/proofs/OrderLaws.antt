-- A table gives one verdict, and how its rows are gone through.
use Prim.Native.Nat.{ℕ}
use mathlib.Core.Path.{◌≡◌, refl, sym, subst, ◌∙◌}
use mathlib.Core.Bool.{Bool, true, false, cond}
use mathlib.Core.Logic.Iff
use mathlib.Core.Logic.{◌↔◌, inl, inr}
use mathlib.Core.List.{[], ◌∷◌, ◌++◌}
use native.Mathlib.Omega.{arith}
use Rattle.order.specs.Order.{Verdict, Answers, Refuses, Table, First, None, Refusing, Exactly}

pub one_verdict : (t : Table) (v w : Verdict) → First t v → First t w → v ≡ w
one_verdict [] v w e f = e ∙ sym f
one_verdict (row ∷ rows) v w (inl p) (inl q) = p.1 ∙ sym q.1
one_verdict (row ∷ rows) v w (inl p) (inr q) = absurd (q.0 p.0)
one_verdict (row ∷ rows) v w (inr p) (inl q) = absurd (p.0 q.0)
one_verdict (row ∷ rows) v w (inr p) (inr q) = one_verdict rows v w p.1 q.1

-- so the verdict that the table gives is the one that was given, both ways
pub exactly : (t : Table) (v : Verdict) → First t v → Exactly t v
exactly t v f = λ w. (λ e. subst (First t) e f, λ g. one_verdict t v w f g)

-- a test that decides a row: where it passes the property does not hold, and the rows after it decide
pub gate :
    {A : Type 0} (verdict : A → Verdict) (passes : Bool) (next refused : A) {w : Verdict} {P : Type 0} (rows : Table)
    → (passes ≡ true → P → ⊥) → (passes ≡ false → P) → verdict refused ≡ w → (passes ≡ true → First rows (verdict next))
    → First ((w, P) ∷ rows) (verdict (cond passes next refused))
gate verdict true next refused rows not is e more = inr (not refl, more refl)
gate verdict false next refused rows not is e more = inl (is refl, e)

pub refuses_not : {n : ℕ} → Refuses n ≡ Answers → ⊥
refuses_not e = let z : ◌≡◌ {A = ℕ} 0 1 = cc in omega arith

-- where no row answers, a call answers exactly if no row's property holds
answers_none : (t : Table) → Refusing t → First t Answers ↔ None t
answers_none t r = (there t r, back t)
  where
    there : (t : Table) → Refusing t → First t Answers → None t
    there [] r f = tt
    there (row ∷ rows) r (inl p) = absurd (r.0 (sym p.1))
    there (row ∷ rows) r (inr p) = (p.0, there rows r.1 p.1)

    back : (t : Table) → None t → First t Answers
    back [] n = refl
    back (row ∷ rows) n = inr (n.0, back rows n.1)

pub answered : (t : Table) (v : Verdict) → Refusing t → Exactly t v → (v ≡ Answers) ↔ None t
answered t v r e = Iff.trans (e Answers) (answers_none t r)

-- one table after another: what the first refuses is refused
pub first_refused : (t u : Table) (v : Verdict) → First t v → (v ≡ Answers → ⊥) → First (t ++ u) v
first_refused [] u v f n = absurd (n f)
first_refused (row ∷ rows) u v (inl p) n = inl p
first_refused (row ∷ rows) u v (inr p) n = inr (p.0, first_refused rows u v p.1 n)

-- and where it answers, the second decides
pub first_answered : (t u : Table) (w : Verdict) → Refusing t → First t Answers → First u w → First (t ++ u) w
first_answered [] u w r f g = g
first_answered (row ∷ rows) u w r (inl p) g = absurd (r.0 (sym p.1))
first_answered (row ∷ rows) u w r (inr p) g = inr (p.0, first_answered rows u w r.1 p.1 g)
