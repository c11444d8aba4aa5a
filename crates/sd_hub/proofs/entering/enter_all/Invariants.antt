use Rattle.std.proofs.Common.{◌≤◌, length}
use Rattle.std.specs.Vec.{vec_capacity}
use Rattle.sd_hub.specs.Worlds.{SettlesEach}
use Rattle.sd_hub.proofs.entering.enter_all.Given as goal

-- the sessions so far are in the world; there is room for all
abbrev pub invariant-loop-told : goal.invariant-loop-told
invariant-loop-told g l = record {
  settles : SettlesEach l.drive.journal l.yielded l.entries.items;
  room : length l.fn.sessions.items ≤ vec_capacity l.entries;
}
