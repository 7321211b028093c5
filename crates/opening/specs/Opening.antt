-- Opening an image s, and its age: docs/SCOPE.md, "The refusal numbers".
use Rattle.std.specs.Prelude.{ℕ, ◌+◌, ◌-◌, ◌^◌, Bool, cond, List, length, drop, leb, eqb, Option, Some, None, Result, Ok, Err, ℤ, pos, ◌-ℤ◌}
use Rattle.refusal.specs.declared.Refusal.{Refusal}
use Rattle.refusal.specs.declared.Refusal.TheVariants as refusal
use Rattle.handle.specs.Handle.{image_bound, version_known, size_known, data_start}
use Rattle.handle.specs.declared.Handle.{Handle}
use Rattle.tree.specs.Marker.{marker_of}
use Rattle.tree.specs.Lookup.{ipv4_start_of}
use Rattle.tree.specs.declared.Place.{Place}
use Rattle.metadata.specs.Metadata.{metadata_of}
use Rattle.metadata.specs.declared.Metadata.{Metadata}
use Rattle.opening.specs.declared.Reader.{Reader}

-- the last second of a build time, and of a time given
abbrev pub last_time : ℕ
last_time = 2 ^ 63 - 1

-- the metadata begins past the marker's 14 bytes
abbrev pub metadata_start : ℕ → ℕ
metadata_start marker = marker + 14

abbrev pub metadata_section : List ℕ → ℕ → List ℕ
metadata_section s marker = drop (metadata_start marker) s

-- where IPv4 addresses start: an IPv4 image has start 0, depth 0
abbrev pub ipv4_of : List ℕ → Metadata → Place
ipv4_of s m = cond (eqb m.version 6) (ipv4_start_of s m.size m.nodes) (record { node = 0; depth = 0 })

abbrev pub handle_of : List ℕ → ℕ → Metadata → Handle
handle_of s marker m =
    record {
      version = m.version;
      nodes = m.nodes;
      size = m.size;
      base = data_start m.nodes m.size;
      meta = metadata_start marker;
      start4 = (ipv4_of s m).node;
      depth4 = (ipv4_of s m).depth;
    }

abbrev pub reader_of : List ℕ → ℕ → Metadata → Reader
reader_of s marker m = record { handle = handle_of s marker m; metadata = m }

-- what is asked next, or a refusal
abbrev pub gate : Bool → Refusal → Result Reader Refusal → Result Reader Refusal
gate passes refusal next = cond passes next (Err refusal)

-- the refusals from 3 to 8
abbrev pub checked : List ℕ → ℕ → Metadata → Result Reader Refusal
checked s marker m =
    gate (eqb m.major 2) refusal.FormatVersion
    (gate (version_known m.version) refusal.IpVersion
    (gate (leb 1 m.nodes) refusal.NoNodes
    (gate (leb m.build last_time) refusal.BuildTime
    (gate (size_known m.size) refusal.RecordSize
    (gate (leb (data_start m.nodes m.size) marker) refusal.TreeTooLong
    (Ok (reader_of s marker m)))))))

abbrev pub on_read : List ℕ → ℕ → Option Metadata → Result Reader Refusal
on_read s marker (Some m) = checked s marker m
on_read s marker None = Err refusal.Metadata

abbrev pub on_marker : List ℕ → Option ℕ → Result Reader Refusal
on_marker s (Some marker) = on_read s marker (metadata_of (metadata_section s marker))
on_marker s None = Err refusal.NoMarker

-- opening an image
unfoldable pub open_of : List ℕ → Result Reader Refusal
open_of s = gate (leb (length s) image_bound) refusal.ImageTooLong (on_marker s (marker_of s))

abbrev pub age_on : ℕ → Result Reader Refusal → Result ℤ Refusal
age_on time (Ok o) = cond (leb time last_time) (Ok (pos time -ℤ pos o.metadata.build)) (Err refusal.Time)
age_on time (Err refusal) = Err refusal

-- the time given minus the build time, in seconds
unfoldable pub age_of : List ℕ → ℕ → Result ℤ Refusal
age_of s time = age_on time (open_of s)
