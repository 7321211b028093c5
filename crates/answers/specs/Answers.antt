-- Each answer as numbers. Status 0 is the answer asked for; a refusal's status is its number.
use Rattle.std.specs.Prelude.{ℕ, ℤ, ◌^◌, ◌-◌, cond, pos, Option, Some, None, Result, Ok, Err}
use Rattle.refusal.specs.declared.Refusal.{Refusal}
use Rattle.refusal.specs.Refusals.{number_of}
use Rattle.handle.specs.declared.Handle.{Handle}
use Rattle.opening.specs.declared.Reader.{Reader}
use Rattle.tree.specs.declared.Found.{Found}
use Rattle.value.specs.declared.Value.{Value}
use Rattle.value.specs.declared.Value.TheVariants as value
use Rattle.path.specs.declared.Cursor.{Cursor}
use Rattle.walk.specs.declared.rows.Halt.{Halt}
use Rattle.walk.specs.declared.rows.Halt.TheVariants as halt
use Rattle.walk.specs.Rows.{kind_number, offset_word}
use Rattle.place.specs.declared.Network.{Network}
use Rattle.place.specs.declared.Outcome.{Outcome}
use Rattle.place.specs.declared.Outcome.TheVariants as outcome
use Rattle.answers.specs.declared.ErmOpened.{ErmOpened}
use Rattle.answers.specs.declared.ErmAged.{ErmAged}
use Rattle.answers.specs.declared.ErmFound.{ErmFound}
use Rattle.answers.specs.declared.ErmValue.{ErmValue}
use Rattle.answers.specs.declared.ErmStepped.{ErmStepped}
use Rattle.answers.specs.declared.ErmNetwork.{ErmNetwork}
use Rattle.answers.specs.declared.ErmCalled.{ErmCalled}
use Rattle.answers.specs.declared.ErmScratch.{ErmScratch}
use Rattle.answers.specs.declared.ErmVerified.{ErmVerified}

abbrev pub refused : ℕ
refused = 2 ^ 64 - 2

-- answers that are no refusal
abbrev pub absent : ℕ
absent = 256

abbrev pub paused : ℕ
paused = 257

abbrev pub end : ℕ
end = 258

abbrev pub no_handle : Handle
no_handle = record { version = 0; nodes = 0; size = 0; base = 0; meta = 0; start4 = 0; depth4 = 0 }

abbrev pub opened_of : Result Reader Refusal → ErmOpened
opened_of (Ok r) =
    record {
      status = 0;
      handle = r.handle;
      major = r.metadata.major;
      minor = r.metadata.minor;
      build = r.metadata.build;
      languages = r.metadata.languages.size;
      descriptions = r.metadata.description.size;
    }
opened_of (Err refusal) =
    record { status = number_of refusal; handle = no_handle; major = 0; minor = 0; build = 0; languages = 0; descriptions = 0 }

abbrev pub aged_of : Result ℤ Refusal → ErmAged
aged_of (Ok seconds) = record { status = 0; seconds = seconds }
aged_of (Err refusal) = record { status = number_of refusal; seconds = pos 0 }

-- without data the offset is `no_data`
abbrev pub found_of : Result Found Refusal → ErmFound
found_of (Ok found) = record { offset = offset_word found.offset; second = found.len }
found_of (Err refusal) = record { offset = refused; second = number_of refusal }

-- a value's kind is its type number in the format, 0 for none
abbrev pub unsigned_of : ℕ → ℕ → ℕ → ErmValue
unsigned_of kind high low = record { kind = kind; high = high; low = low; integer = pos 0 }

abbrev pub valued_of : Result Value Refusal → ErmValue
valued_of (Ok (value.Map pairs)) = unsigned_of 7 0 pairs
valued_of (Ok (value.Array elements)) = unsigned_of 11 0 elements
valued_of (Ok (value.Text length)) = unsigned_of 2 0 length
valued_of (Ok (value.Bytes length)) = unsigned_of 4 0 length
valued_of (Ok (value.U16 n)) = unsigned_of 5 0 n
valued_of (Ok (value.U32 n)) = unsigned_of 6 0 n
valued_of (Ok (value.U64 n)) = unsigned_of 9 0 n
valued_of (Ok (value.U128 high low)) = unsigned_of 10 high low
valued_of (Ok (value.I32 z)) = record { kind = 8; high = 0; low = 0; integer = z }
valued_of (Ok (value.Boolean b)) = unsigned_of 14 0 (cond b 1 0)
valued_of (Ok (value.Double x bits)) = unsigned_of 3 0 bits
valued_of (Ok (value.Float x bits)) = unsigned_of 15 0 bits
valued_of (Err refusal) = unsigned_of 0 0 (number_of refusal)

abbrev pub nowhere_of : ℕ → ErmStepped
nowhere_of status = record { status = status; cursor = record { place = 0; charge = record { values = 0; payload = 0 } } }

abbrev pub stepped_of : Result (Option Cursor) Refusal → ErmStepped
stepped_of (Ok (Some cursor)) = record { status = 0; cursor = cursor }
stepped_of (Ok None) = nowhere_of absent
stepped_of (Err refusal) = nowhere_of (number_of refusal)

abbrev pub status_of : Result Unit Refusal → ℕ
status_of (Ok begun) = 0
status_of (Err refusal) = number_of refusal

abbrev pub network_of : Network → ErmNetwork
network_of n =
    record {
      high = n.key.high;
      low = n.key.low;
      length = n.len;
      kind = kind_number n.kind;
      offset = offset_word n.offset;
    }

abbrev pub without_of : ℕ → ℕ → ErmCalled
without_of status taken =
    record { status = status; taken = taken; network = record { high = 0; low = 0; length = 0; kind = 0; offset = 0 } }

abbrev pub called_of : Outcome → ℕ → ErmCalled
called_of (outcome.Given n) taken = record { status = 0; taken = taken; network = network_of n }
called_of (outcome.Failed refusal) taken = without_of (number_of refusal) taken
called_of (outcome.Refused refusal) taken = without_of (number_of refusal) taken
called_of outcome.Paused taken = without_of paused taken
called_of outcome.End taken = without_of end taken

-- why a call of many rows ended; 0 where there was no room for a further row
abbrev pub halted_of : Halt → ℕ
halted_of halt.Full = 0
halted_of (halt.Failed refusal) = number_of refusal
halted_of (halt.Refused refusal) = number_of refusal
halted_of halt.Paused = paused
halted_of halt.End = end

abbrev pub scratch_of : Result ℕ Refusal → ErmScratch
scratch_of (Ok count) = record { status = 0; words = count }
scratch_of (Err refusal) = record { status = number_of refusal; words = 0 }

abbrev pub verified_of : Result ℕ Refusal → ErmVerified
verified_of (Ok offsets) = record { status = 0; offsets = offsets }
verified_of (Err refusal) = record { status = number_of refusal; offsets = 0 }
