use mathlib.Core.Path.{refl}
use Rattle.maxminddb.proofs.EntryLaws.{shown}
use Rattle.maxminddb.proofs.part.Goals as goal

pub returns : goal.returns
returns c =
    let a = c.args in
    let s = shown a.image a.h a.c a.bytes c.found.ensures c.unwrap_or.ensures refl refl in
    record { result_value = s.0; ref_ptr_value = s.1 }
