-- The worked table: every case of docs/SCOPE.md that is marked P, in its order, by computation. The statements, in full, are in
-- specs/Cases.antt.
use mathlib.Core.Path.{◌≡◌, refl}
use Rattle.std.specs.Prelude.{None, Ok, Err}
use Rattle.refusal.specs.declared.Refusal.TheVariants.{Ipv6InIpv4}
use Rattle.number.specs.Bytes.{be_at}
use Rattle.control.specs.Control.{kind_of, size_at, sized_at, head_at}
use Rattle.control.specs.Pointers.{link_at}
use Rattle.stored.specs.Stored.{lying_at, stored_at, resolved_at}
use Rattle.charge.specs.Charge.{entered, paid}
use Rattle.text.specs.Utf8.{run}
use Rattle.value.specs.Value.{read_at}
use Rattle.key.specs.Keys.{same_bytes, name_at}
use Rattle.fields.specs.Fields.{text_at, many, past_at, value_at}
use Rattle.metadata.specs.Names.{bytes, field_of}
use Rattle.metadata.specs.Metadata.{key_at, pair_at, all_seen, whole_of, gather, metadata_of}
use Rattle.tree.specs.Marker.{agree, last_below, marker_of}
use Rattle.tree.specs.Lookup.{found, down, answer_of}
use Rattle.tree.specs.Record.{record_at}
use Rattle.handle.specs.Handle.{fits_of}
use Rattle.lookup.specs.Lookup.{asked_of, found_from}
use Rattle.lookup.specs.declared.Address.TheVariants.{V6}
use Rattle.opening.specs.Opening.{open_of, age_of}
use Rattle.maxminddb.specs.Entries.{lookup_of}
use Rattle.place.specs.Kinds as kinds
use Rattle.place.specs.Kinds.{is_alias}
use Rattle.place.specs.Shape.{newest_out}
use Rattle.place.specs.Turns.{child_key, turn_of}
use Rattle.walk.specs.Starts.{first_of, begin_of}
use Rattle.walk.specs.Calls.{out_of_shape, goes, next_of}
use Rattle.carried.proofs.Worked.{answers, spent, is_bare, is_end, halving}
use Rattle.listing.proofs.Worked as listing
use Rattle.claims.specs.Cases.{image, looked, Opens, handle_with, Case1, Case2, Case3, Case4, Case5, Case6, Case7, Case8, Case9, Case10, Case11, Case12, Case13}

-- 1. records of 24 bits
pub case_1 : Case1
unfolding record_at be_at
case_1 = (refl, refl)

-- 2. records of 28 bits
pub case_2 : Case2
unfolding record_at be_at
case_2 = (refl, refl)

-- 3. records of 32 bits
pub case_3 : Case3
unfolding record_at be_at
case_3 = (refl, refl)

-- 4. sizes
pub case_4 : Case4
unfolding size_at be_at
case_4 = (refl, refl, refl)

-- 5. pointers
pub case_5 : Case5
unfolding link_at head_at sized_at kind_of be_at
case_5 = ((refl, refl), (refl, refl), (refl, refl), (refl, refl))

-- 6. signed numbers
pub case_6 : Case6
unfolding read_at resolved_at stored_at lying_at head_at sized_at size_at kind_of be_at
case_6 = (refl, refl)

-- 7. image A, looked up
pub case_7 : Case7
unfolding image lookup_of asked_of found_from fits_of answer_of down record_at bytes open_of marker_of last_below agree metadata_of resolved_at stored_at lying_at head_at sized_at size_at kind_of be_at link_at entered paid gather pair_at key_at name_at field_of same_bytes value_at text_at many past_at run all_seen whole_of
case_7 = (refl, refl)

-- and an IPv6 address of it
pub case_7_ipv6 : looked (image 4 17 1) (V6 0 1) ≡ Err Ipv6InIpv4
unfolding image lookup_of asked_of found_from fits_of answer_of down record_at bytes open_of marker_of last_below agree metadata_of resolved_at stored_at lying_at head_at sized_at size_at kind_of be_at link_at entered paid gather pair_at key_at name_at field_of same_bytes value_at text_at many past_at run all_seen whole_of
case_7_ipv6 = refl

-- 8. records that give no offset
pub case_8 : Case8
unfolding image lookup_of asked_of found_from fits_of answer_of down record_at bytes open_of marker_of last_below agree metadata_of resolved_at stored_at lying_at head_at sized_at size_at kind_of be_at link_at entered paid gather pair_at key_at name_at field_of same_bytes value_at text_at many past_at run all_seen whole_of
case_8 = (refl, refl, refl, refl)

-- an image of one node opens
opens_4 : Opens (image 4 0 1) (handle_with 4 0 0)
unfolding image down record_at bytes open_of marker_of last_below agree metadata_of resolved_at stored_at lying_at head_at sized_at size_at kind_of be_at link_at entered paid gather pair_at key_at name_at field_of same_bytes value_at text_at many past_at run all_seen whole_of
opens_4 = record { reader = _; is = refl; handle = refl }

opens_17 : Opens (image 6 17 17) (handle_with 6 17 1)
unfolding image down record_at bytes open_of marker_of last_below agree metadata_of resolved_at stored_at lying_at head_at sized_at size_at kind_of be_at link_at entered paid gather pair_at key_at name_at field_of same_bytes value_at text_at many past_at run all_seen whole_of
opens_17 = record { reader = _; is = refl; handle = refl }

opens_1 : Opens (image 6 1 17) (handle_with 6 1 1)
unfolding image down record_at bytes open_of marker_of last_below agree metadata_of resolved_at stored_at lying_at head_at sized_at size_at kind_of be_at link_at entered paid gather pair_at key_at name_at field_of same_bytes value_at text_at many past_at run all_seen whole_of
opens_1 = record { reader = _; is = refl; handle = refl }

-- 9. a tree that leads back into itself
pub case_9 : Case9
unfolding image halving spent is_bare is_end next_of goes out_of_shape newest_out turn_of kinds.kind_of is_alias child_key begin_of first_of lookup_of asked_of found_from fits_of answer_of down record_at bytes open_of marker_of last_below agree metadata_of resolved_at stored_at lying_at head_at sized_at size_at kind_of be_at link_at entered paid gather pair_at key_at name_at field_of same_bytes value_at text_at many past_at run all_seen whole_of
case_9 = (refl, refl, opens_4, refl, refl, refl)

-- 10. aliases
pub case_10 : Case10
unfolding image answers next_of goes out_of_shape newest_out turn_of kinds.kind_of is_alias child_key begin_of first_of fits_of answer_of down record_at be_at bytes
case_10 = (opens_17, refl, refl)

-- 11. a tree without IPv4 subtree
pub case_11 : Case11
unfolding image answers next_of goes out_of_shape newest_out turn_of kinds.kind_of is_alias child_key begin_of first_of lookup_of asked_of found_from fits_of answer_of down record_at bytes open_of marker_of last_below agree metadata_of resolved_at stored_at lying_at head_at sized_at size_at kind_of be_at link_at entered paid gather pair_at key_at name_at field_of same_bytes value_at text_at many past_at run all_seen whole_of
case_11 = (refl, opens_1, refl)

-- and the same address by its key
pub case_11_key : looked (image 6 1 17) (V6 0 0x01020304) ≡ Ok (found None 1)
unfolding image lookup_of asked_of found_from fits_of answer_of down record_at bytes open_of marker_of last_below agree metadata_of resolved_at stored_at lying_at head_at sized_at size_at kind_of be_at link_at entered paid gather pair_at key_at name_at field_of same_bytes value_at text_at many past_at run all_seen whole_of
case_11_key = refl

-- 12. an age below zero
pub case_12 : Case12
unfolding image age_of bytes open_of marker_of last_below agree metadata_of resolved_at stored_at lying_at head_at sized_at size_at kind_of be_at link_at entered paid gather pair_at key_at name_at field_of same_bytes value_at text_at many past_at run all_seen whole_of
case_12 = refl

-- 13. the lines of image A
pub case_13 : Case13
case_13 = listing.case13
