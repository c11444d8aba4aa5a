-- What comes back of a session that was closed, whatever stops and runs follow.
use Rattle.std.specs.Prelude.{◌+◌, ◌<◌, ◌≤◌, All, true, Result, List}
use Rattle.sd_base.specs.Record.{Record}
use Rattle.sd_base.specs.declared.number.SessionKey.{SessionKey}
use Rattle.sd_base.specs.declared.refusal.Refusal.{Refusal}
use Rattle.sd_driver.specs.Shelf.{Shelf, AfterStop, low_mark}
use Rattle.sd_readback.specs.Reading.{Reads, volumes_on}
use Rattle.sd_readback.specs.declared.read.ReadEnd.{ReadEnd}
use Rattle.sd_span.specs.declared.span.Span.{Span}
use Rattle.sd_world.specs.World.{WorldView}
use Rattle.sd_world.specs.Deeds.{IsRead}
use Rattle.sd_theorem.specs.Gives.{GivesAll}
use Rattle.sd_theorem.specs.Runs.{RunsOn, RunsStop, NonePurgesOf}
use Rattle.sd_theorem.specs.Start.{Meanings}
use Rattle.sd_theorem.specs.Told.{WereAdopted}

-- A session was closed with these spans when its device had the one shelf, and now it has the other. From then on the
-- low mark of each volume of the spans is at least where the span ends. What any stop leaves, also one inside a call,
-- and the stops of later runs that purged no volume of the spans, reads to exactly these records. So does a later run,
-- of a greater time, that adopted the volumes and purged none of them: it gives them, and is refused only if the device
-- failed or it was out of memory.
pub record Returns {D Q S : Type 0} (Z : Type 0) (is : Meanings D Q S) (key : SessionKey) (spans : List Span) (records : List Record) (then now : Shelf) : Type 0 where
  pub mark : All (λ (s : Span). s.end ≤ low_mark now then.moment s.volume) spans
  pub survives : (left last : Shelf) (others : List Shelf)
      → AfterStop then.moment now left
      → RunsStop Z is spans left others last
      → Reads (volumes_on last) key spans records true
  pub comes_back : (left last : Shelf) (others : List Shelf) (again after : WorldView D) (got got' : List Record) (result : Result ReadEnd Refusal)
      → AfterStop then.moment now left
      → RunsStop Z is spans left others last
      → (runs : RunsOn Z is last again)
      → WereAdopted (runs.at + 1) spans runs.deeds
      → key.time < again.limits.time
      → NonePurgesOf spans runs.deeds
      → IsRead is.device key spans got got' result again after
      → GivesAll records true got got' result
