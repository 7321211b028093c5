-- The nine fields of `metadata.rs`, in its order: their names and their types.
use Rattle.std.specs.Prelude.{ℕ, cond, List, [], ◌∷◌, get_or, Option, Some, None}
use Prim.Native.Char.{code}
use Prim.Native.String.{String, [] as []ˢ, ◌∷◌ as ◌∷ˢ◌}
use Rattle.control.specs.declared.Kind.{Kind}
use Rattle.control.specs.declared.Kind.TheVariants as kind
use Rattle.key.specs.Keys.{same_bytes}

-- the bytes of a name
unfoldable pub bytes : String → List ℕ
bytes []ˢ = []
bytes (c ∷ˢ t) = code c ∷ bytes t

-- the field that a key names, if any
unfoldable pub field_of : List ℕ → Option ℕ
field_of key =
    cond (same_bytes key (bytes "binary_format_major_version")) (Some 0)
    (cond (same_bytes key (bytes "binary_format_minor_version")) (Some 1)
    (cond (same_bytes key (bytes "build_epoch")) (Some 2)
    (cond (same_bytes key (bytes "database_type")) (Some 3)
    (cond (same_bytes key (bytes "description")) (Some 4)
    (cond (same_bytes key (bytes "ip_version")) (Some 5)
    (cond (same_bytes key (bytes "languages")) (Some 6)
    (cond (same_bytes key (bytes "node_count")) (Some 7)
    (cond (same_bytes key (bytes "record_size")) (Some 8)
    None))))))))

-- the kind of each field
abbrev pub want_of : ℕ → Kind
want_of field = get_or (kind.U16 ∷ kind.U16 ∷ kind.U64 ∷ kind.Text ∷ kind.Map ∷ kind.U16 ∷ kind.Array ∷ kind.U32 ∷ kind.U16 ∷ []) field kind.Unknown
