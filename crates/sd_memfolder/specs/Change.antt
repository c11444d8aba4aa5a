-- What a change makes of a file.
use Rattle.std.specs.Prelude.{true, ◌||◌, length, if◌then◌else◌}
use Rattle.sd_folder.specs.Meaning.{FileState}
use Rattle.sd_folder.specs.Steps.{added, named_too, cut_at}
use Rattle.sd_memfolder.specs.declared.stored.Change.{Change}
use Rattle.sd_memfolder.specs.declared.stored.Change.TheVariants.{Append, SyncData, SyncName, Cut}

-- a sync of its bytes failed
abbrev pub torn_too : FileState → FileState
torn_too state = record { bytes = state.bytes; written = state.written; named = state.named; torn = true }

-- the file after a change: if a sync failed before, another one shows nothing
abbrev pub after : Change → FileState → FileState
after (Append bytes) state = added bytes.now state
after (SyncData fails) state = record {
  bytes = state.bytes;
  written = if state.torn then state.written else length state.bytes;
  named = state.named;
  torn = state.torn || fails;
}
after SyncName state = named_too state
after (Cut to) state = cut_at to state
