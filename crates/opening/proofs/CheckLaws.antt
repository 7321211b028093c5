-- Laws of the checks: each is reached where those before it pass.
use Prim.Native.Nat.{ℕ, ◌≤◌, ◌<◌}
use mathlib.Core.Path.{◌≡◌, ◌∙◌}
use mathlib.Core.Bool.{true, false}
use mathlib.Core.List.{List}
use lib.Dec.{leb}
use borrow.Author.Tests.{eq-eqb, ne_eqb, le-leb, lt-leb}
use Rattle.std.specs.Prelude.{Ok, Err}
use Rattle.refusal.specs.declared.Refusal.TheVariants as refusal
use Rattle.handle.specs.Handle.{version_known, size_known, data_start}
use Rattle.metadata.specs.declared.Metadata.{Metadata}
use Rattle.opening.specs.Opening.{last_time, reader_of, gate, checked}

module _ (s : List ℕ) (marker : ℕ) (m : Metadata) where
  pub major_refused : (m.major ≡ 2 → ⊥) → checked s marker m ≡ Err refusal.FormatVersion
  major_refused h = simp (ne_eqb m.major 2 h)

  module _ (major : m.major ≡ 2) where
    pub version_refused : version_known m.version ≡ false → checked s marker m ≡ Err refusal.IpVersion
    version_refused h = simp (eq-eqb m.major 2 major, h)

    module _ (version : version_known m.version ≡ true) where
      pub nodes_refused : m.nodes < 1 → checked s marker m ≡ Err refusal.NoNodes
      nodes_refused h = simp (eq-eqb m.major 2 major, version, lt-leb 1 m.nodes h)

      module _ (nodes : 1 ≤ m.nodes) where
        pub build_refused : last_time < m.build → checked s marker m ≡ Err refusal.BuildTime
        build_refused h = simp (eq-eqb m.major 2 major, version, le-leb 1 m.nodes nodes, lt-leb m.build last_time h)

        module _ (build : m.build ≤ last_time) where
          pub size_refused : size_known m.size ≡ false → checked s marker m ≡ Err refusal.RecordSize
          size_refused h =
              simp (eq-eqb m.major 2 major, version, le-leb 1 m.nodes nodes, le-leb m.build last_time build, h)

          module _ (size : size_known m.size ≡ true) where
            at_tree :
                checked s marker m
                ≡ gate (leb (data_start m.nodes m.size) marker) refusal.TreeTooLong (Ok (reader_of s marker m))
            at_tree =
                simp (eq-eqb m.major 2 major, version, le-leb 1 m.nodes nodes, le-leb m.build last_time build, size)

            pub tree_refused : marker < data_start m.nodes m.size → checked s marker m ≡ Err refusal.TreeTooLong
            tree_refused h = at_tree ∙ simp (lt-leb (data_start m.nodes m.size) marker h)

            pub all_passed : data_start m.nodes m.size ≤ marker → checked s marker m ≡ Ok (reader_of s marker m)
            all_passed h = at_tree ∙ simp (le-leb (data_start m.nodes m.size) marker h)
