-- The sets in the scratch: four states for each place.
use Rattle.std.specs.Prelude.{ℕ, ◌+◌, ◌*◌, ◌/◌, List, eqb}
use Rattle.marks.specs.Marks.{state_at, set_state, recorded, active, validated}
use Rattle.graph.specs.Graph.{Marks}

-- the words that a section needs: two for each 64 bytes begun
abbrev pub needed : ℕ → ℕ
needed len = (len + 63) / 64 * 2

abbrev pub on_words : Marks (List ℕ)
on_words =
    record {
      is_recorded = λ ws t. eqb (state_at ws t) recorded;
      is_active = λ ws t. eqb (state_at ws t) active;
      is_validated = λ ws t. eqb (state_at ws t) validated;
      activate = λ ws t. set_state ws t active;
      validate = λ ws t. set_state ws t validated;
    }
