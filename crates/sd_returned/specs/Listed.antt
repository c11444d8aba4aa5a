-- The sessions of jobs in the world of their settled line, each with its list.
use Rattle.std.specs.Prelude.{◌≡◌, ℕ, Bool, true, false, List, [], ◌∷◌, ◌++◌, length, map, Some, IsSome, Result, slice_get}
use Rattle.std.specs.Option.{option_to_list}
use Rattle.atomic_table.specs.Seated.{TableId}
use Rattle.sd_base.specs.Record.{Record}
use Rattle.sd_base.specs.declared.number.SessionKey.{SessionKey}
use Rattle.sd_base.specs.declared.refusal.Refusal.{Refusal}
use Rattle.sd_driver.specs.Meaning.{Meaning, IsHonest}
use Rattle.sd_drive.specs.Receipt.{ReceiptIs}
use Rattle.sd_drive.specs.View.{DriveIs}
use Rattle.sd_hub.specs.Worlds.{IsSettledFrom}
use Rattle.sd_jobs.specs.Jobs.{JobIs, JobEndIs, EndEach}
use Rattle.sd_label.specs.Cutting.{total_bytes}
use Rattle.sd_line.specs.Ends.{EndIs, ToldSession, RestsOn, lane_store}
use Rattle.sd_line.specs.Side.{LineIs}
use Rattle.sd_line.specs.declared.stop.Stop.TheVariants.{Done}
use Rattle.sd_readback.specs.Reading.{Reads, volumes_on}
use Rattle.sd_readback.specs.declared.read.ReadEnd.{ReadEnd}
use Rattle.sd_session.specs.declared.status.Status.TheVariants.{Closed}
use Rattle.sd_span.specs.declared.span.Span.{Span}
use Rattle.sd_theorem.specs.Gives.{GivesAll}
use Rattle.sd_world.specs.Deeds.{IsRead}
use Rattle.sd_world.specs.Honest.{StoreIsTrue}
use Rattle.sd_world.specs.Stays.{AreClaimed}
use Rattle.sd_world.specs.Steps.{IsSound}
use Rattle.sd_world.specs.World.{WorldView, WorldSession, BayView, IsOnline, session_at}

-- What jobs came to, as it is handed in.

-- the ends of their lanes
abbrev pub lane_ends : List JobEndIs → List EndIs
lane_ends ends = map (λ (e : JobEndIs). e.lane_end) ends

-- the receipts of those that have one
abbrev pub receipts_in : List JobEndIs → List ReceiptIs
receipts_in [] = []
receipts_in (e ∷ es) = option_to_list e.receipt ++ receipts_in es

-- the last of these sessions spools
abbrev pub last_spools : List ToldSession → Bool
last_spools [] = false
last_spools (s ∷ []) = s.spools
last_spools (s ∷ t ∷ ss) = last_spools (t ∷ ss)

-- of these ends none but the one at this place tells of a session of this number
abbrev pub IsAlone : List EndIs → ℕ → ℕ → Type 0
IsAlone ends place number = (at : ℕ) (end : EndIs) (k : ℕ) (s : ToldSession) → slice_get ends at ≡ Some end
    → slice_get end.sessions k ≡ Some s → s.session.key.id ≡ number → at ≡ place

-- A session with its list.

-- The session of this key is closed in the world. Its drive is online, for which the volumes of these spans are claimed, and on
-- whose shelf they read to these records, with their end; and these are as many as the session counted.
pub record HasList {D : Type 0} (meaning : D → Meaning) (w : WorldView D) (key : SessionKey) (spans : List Span) (records : List Record) : Type 0 where
  pub e : WorldSession
  pub there : session_at key.id w.sessions ≡ Some e
  pub key_is : e.session.key ≡ key
  pub closed : e.session.status ≡ Closed
  pub count_is : length records ≡ e.session.count
  pub bytes_are : total_bytes records ≡ e.session.bytes
  pub at : ℕ
  pub bay : BayView D
  pub d : DriveIs D
  pub online : IsOnline w e.drive at bay d
  pub claimed : AreClaimed w.desk e.drive spans
  pub reads : Reads (volumes_on (meaning d.device).shelf) key spans records true

-- every session that has its list in the one world has it in the other
abbrev pub KeepsLists : {D : Type 0} → (D → Meaning) → WorldView D → WorldView D → Type 0
KeepsLists meaning old new = (key : SessionKey) (spans : List Span) (records : List Record) → HasList meaning old key spans records
    → HasList meaning new key spans records

-- A job that is done has a receipt for its session, which has, with the spans of the receipt, this list: the records that its
-- part was told to have taken before, and then those of the job.
pub record DoneHasList {D : Type 0} (meaning : D → Meaning) (w : WorldView D) (job : JobIs) (end : JobEndIs) : Type 0 where
  pub r : ReceiptIs
  pub receipt_is : end.receipt ≡ Some r
  pub key_is : r.key ≡ job.part.session.key
  pub has : HasList meaning w r.key r.spans (job.part.told ++ job.recs)

-- Laws.

-- every device of this kind keeps what it was given
abbrev pub AllHonest : {D : Type 0} → (D → Meaning) → Type 0
AllHonest {D} meaning = (device : D) → IsHonest (meaning device)

-- If a line is settled with all that its jobs came to, each job that is done has its list in the world. Its number has to be
-- there, and told by no other end; and it doesn't spool, or its lane's store is honest.
abbrev pub SettledJobsRead : Type 0 → Type 0
SettledJobsRead D =
    (meaning : D → Meaning) (table : ℕ → TableId) (time : ℕ → ℕ) (line : LineIs) (jobs : List JobIs) (ends : List JobEndIs) (w : WorldView D)
    → EndEach jobs ends
    → IsSettledFrom meaning table time line (lane_ends ends) (receipts_in ends) w
    → IsSound meaning w
    → AllHonest meaning
    → (place : ℕ) (job : JobIs) (end : JobEndIs)
    → slice_get jobs place ≡ Some job
    → slice_get ends place ≡ Some end
    → end.stop ≡ Done
    → IsAlone (lane_ends ends) place job.part.session.key.id
    → IsSome (session_at job.part.session.key.id w.sessions)
    → RestsOn (last_spools end.lane_end.sessions) (StoreIsTrue (lane_store end.lane_end))
    → DoneHasList meaning w job end

-- whatever is read of a world, each session has its list afterwards
abbrev pub ReadingKeepsLists : Type 0 → Type 0
ReadingKeepsLists D =
    (meaning : D → Meaning) (old new : WorldView D) (key : SessionKey) (spans : List Span) (got got' : List Record) (result : Result ReadEnd Refusal)
    → AllHonest meaning
    → IsRead meaning key spans got got' result old new
    → KeepsLists meaning old new

-- a session that has its list is read to it
abbrev pub ListsAreRead : Type 0 → Type 0
ListsAreRead D =
    (meaning : D → Meaning) (old new : WorldView D) (key : SessionKey) (spans : List Span) (records got got' : List Record) (result : Result ReadEnd Refusal)
    → AllHonest meaning
    → IsSound meaning old
    → HasList meaning old key spans records
    → IsRead meaning key spans got got' result old new
    → GivesAll records true got got' result
