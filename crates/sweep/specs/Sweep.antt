-- The graphs of whole sections: `verify_data_section`, and the first value of the metadata.
use Rattle.std.specs.Prelude.{ℕ, zero, suc, ◌+◌, ◌*◌, List, Option, Some, None, is_some, Bool, cond, length}
use Rattle.graph.specs.Graph.{Marks, Res, res, Walk, skipped, verify_at}
use Rattle.graph.specs.Sets.{Set, Sets, none, on_sets}
use Rattle.graph.specs.declared.Skipped.{Skipped}

-- what follows a place that was verified
unfoldable pub onward : {S : Type 0} → (ℕ → S → Res S) → Option Skipped → S → Res S
onward rest (Some p) x = rest p.work x
onward rest None x = res None x

-- the places from t on, n of them, lowest first: each that is recorded is verified
unfoldable pub sweep_at : {S : Type 0} → Marks S → Walk S → ℕ → ℕ → ℕ → S → Res S
unfolding onward
sweep_at m verify zero t work x = res (Some (skipped t work)) x
sweep_at {S} m verify (suc n) t work x =
    let r : Res S = verify t work x in
    cond (m.is_recorded x t) (onward (sweep_at m verify n (t + 1)) r.answer r.sets) (sweep_at m verify n (t + 1) work x)

-- the allowance of a section: VerificationState::new
abbrev pub allowance : List ℕ → ℕ
allowance s = 8 * length s

-- the data section: one allowance for all its places
abbrev pub data_at : {S : Type 0} → Marks S → List ℕ → S → Res S
data_at m s x = sweep_at m (verify_at m s) (length s) 0 (allowance s) x

-- the metadata: its first value, with an allowance of its own
abbrev pub metadata_at : {S : Type 0} → Marks S → List ℕ → S → Res S
metadata_at m s x = verify_at m s 0 (allowance s) x

abbrev pub accepts : Option Skipped → Bool
accepts r = is_some r

-- before anything is verified: the places that the tree recorded
abbrev pub start : Set → Sets
start recorded = record { recorded = recorded; active = none; validated = none }

-- THE VERDICTS, over the crate's sets
unfoldable pub data_accepted : List ℕ → Set → Bool
data_accepted s recorded = accepts (data_at on_sets s (start recorded)).answer

unfoldable pub metadata_accepted : List ℕ → Bool
metadata_accepted s = accepts (metadata_at on_sets s (start none)).answer
