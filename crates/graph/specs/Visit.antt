-- One value of a section s that verification meets: what it costs, and what it asks for.
use Rattle.std.specs.Prelude.{ℕ, ◌-◌, ◌*◌, List, Option, Some, None, cond, take, drop, leb, eqb}
use Rattle.control.specs.Control.{is_type, is_pointer}
use Rattle.control.specs.Pointers.{link_at}
use Rattle.control.specs.declared.Kind.{Kind}
use Rattle.control.specs.declared.Link.{Link}
use Rattle.stored.specs.Stored.{stored_at}
use Rattle.stored.specs.declared.Layout.{Layout}
use Rattle.text.specs.Utf8.{well_formed}
use Rattle.graph.specs.declared.Visit.{Visit}
use Rattle.graph.specs.declared.Visit.TheVariants.{Leaf, Children, Pointer}

-- a text costs its bytes too, and is UTF-8
abbrev pub text_of : List ℕ → ℕ → ℕ → ℕ → ℕ → Option Visit
text_of s n p next work = cond (leb n work) (cond (well_formed (take n (drop p s))) (Some (Leaf next (work - n))) None) None

abbrev pub on_link : ℕ → Option Link → Option Visit
on_link work (Some l) = Some (Pointer l.target l.next work)
on_link work None = None

-- by kind: a text, a pointer, a map of n pairs, an array of n values, and what has nothing inside
unfoldable pub by_kind : List ℕ → Kind → ℕ → ℕ → ℕ → ℕ → Option Visit
by_kind s k n p next work =
    cond (is_type k 2) (text_of s n p next work)
    (cond (is_pointer k) (on_link work (link_at s n p))
    (cond (is_type k 7) (Some (Children (n * 2) next work))
    (cond (is_type k 11) (Some (Children n next work))
    (Some (Leaf next work)))))

-- every value costs 1
abbrev pub on_layout : List ℕ → ℕ → Option Layout → Option Visit
on_layout s work (Some v) = cond (eqb work 0) None (by_kind s v.kind v.size v.payload v.next (work - 1))
on_layout s work None = None

unfoldable pub visit_at : List ℕ → ℕ → ℕ → Option Visit
visit_at s at work = on_layout s work (stored_at s at)
