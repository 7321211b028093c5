-- Passing over a value as `skip_value` does, without its limit of values: where it ends, if its parts lie in the section and it is
-- nested no deeper than the levels allow. Pointers are not followed, texts not looked into.
use Rattle.std.specs.Prelude.{ℕ, zero, suc, ◌*◌, List, Option, Some, None, option_and_then, Bool, true, false, cond}
use Rattle.control.specs.Control.{is_type}
use Rattle.stored.specs.Stored.{stored_at}
use Rattle.stored.specs.declared.Layout.{Layout}

-- n values one after the other, each from where the last one ended
unfoldable pub pass_many : (ℕ → Option ℕ) → ℕ → ℕ → Option ℕ
pass_many value zero p = Some p
pass_many value (suc n) p = option_and_then (pass_many value n) (value p)

unfoldable pub on_layout : Bool → (ℕ → Option ℕ) → Option Layout → Option ℕ
unfolding pass_many
on_layout deeper value (Some v) =
    cond (is_type v.kind 7) (cond deeper (pass_many value (v.size * 2) v.next) None)
    (cond (is_type v.kind 11) (cond deeper (pass_many value v.size v.next) None)
    (Some v.next))
on_layout deeper value None = None

unfoldable pub pass_at : ℕ → List ℕ → ℕ → Option ℕ
unfolding on_layout
pass_at zero s p = on_layout false (λ q. None) (stored_at s p)
pass_at (suc l) s p = on_layout true (pass_at l s) (stored_at s p)
