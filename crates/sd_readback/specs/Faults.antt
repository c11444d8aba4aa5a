-- Why spans can't be read: the first fault, in the order in which they are looked for.
use Rattle.std.specs.Prelude.{◌≡◌, ◌≢◌, ◌⊎◌, ℕ, ◌+◌, ◌<◌, ◌≤◌, ◌^◌, Bool, Option, Some, None, List, [], ◌∷◌, ◌++◌, length, take}
use Rattle.std.specs.List.{flat_map}
use Rattle.sd_base.specs.Limits.{least_block, most_block}
use Rattle.sd_base.specs.Record.{Record}
use Rattle.sd_base.specs.declared.number.SessionKey.{SessionKey}
use Rattle.sd_base.specs.declared.refusal.Refusal.{Refusal}
use Rattle.sd_base.specs.declared.refusal.Refusal.TheVariants as refusal
use Rattle.sd_block.specs.Image.{block_image, IsBlockImage}
use Rattle.sd_block.specs.Head.{HasId, IsHeadOf}
use Rattle.sd_block.specs.Fault.{HasBadSize, HasSum}
use Rattle.sd_block.specs.declared.head.Head.{Head}
use Rattle.sd_label.specs.Cutting.{Standing, Holds, total_bytes}
use Rattle.sd_driver.specs.declared.driver.DriverFault.{DriverFault}
use Rattle.sd_driver.specs.declared.driver.DriverFault.TheVariants as driver
use Rattle.sd_unpack.specs.declared.damage.AddFault.{AddFault}
use Rattle.sd_unpack.specs.declared.damage.AddFault.TheVariants as adding
use Rattle.sd_span.specs.declared.span.Span.{Span}
use Rattle.sd_readback.specs.declared.fault.ReadFault.{ReadFault}
use Rattle.sd_readback.specs.declared.fault.ReadFault.TheVariants.{BadSpan, VolumeNotOnShelf, SpanEndsEarly, DamagedBlock, Device, Memory}
use Rattle.sd_volume.specs.Image.{Block, images, AreImages}
use Rattle.sd_readback.specs.Reading.{Volumes, blocks_of, AreNumbered, IsPartOf, AllHold, Reads}

-- the refusal of a fault
abbrev pub fault_refusal : ReadFault → Refusal
fault_refusal BadSpan = refusal.BadSpan
fault_refusal VolumeNotOnShelf = refusal.VolumeNotOnShelf
fault_refusal SpanEndsEarly = refusal.SpanEndsEarly
fault_refusal DamagedBlock = refusal.DamagedBlock
fault_refusal Device = refusal.DeviceFault
fault_refusal Memory = refusal.Memory

-- what a fault of the unpacker is to the reader
abbrev pub fault_of : AddFault → ReadFault
fault_of (adding.Damaged damage) = DamagedBlock
fault_of adding.Memory = Memory

-- and what a device's answer is to it; no call of it is answered that a name is taken, or that there is no room
abbrev pub device_fault_of : DriverFault → ReadFault
device_fault_of driver.NotThere = VolumeNotOnShelf
device_fault_of driver.Exists = Device
device_fault_of driver.NoRoom = Device
device_fault_of driver.Device = Device
device_fault_of driver.Memory = Memory

-- there are spans, numbered from 1 on, and each begins below its end
abbrev pub AreSpans : List Span → Type 0
AreSpans spans = (spans ≢ []) × AreNumbered 1 spans

-- as many records and data bytes as an end label can say
abbrev pub AreCountable : List Record → Type 0
AreCountable records = (length records < 2 ^ 64) × (total_bytes records < 2 ^ 64)

-- nothing is wrong with a session's bodies so far: they hold it, with no more whole records than an end label can say
abbrev pub AreReadable : List (List ℕ) → Type 0
AreReadable bodies = (bodies ≡ []) ⊎ ((records : List Record) × (standing : Standing) × Holds bodies records standing × AreCountable records)

-- the number of the last of these blocks; none at the start of a span
abbrev pub last_number : ℕ → List Block → Option ℕ
last_number number [] = None
last_number number (b ∷ bs) = Some (number + length bs)

-- after that number comes this one; at the start of a span any may come
abbrev pub ComesNext : Option ℕ → ℕ → Type 0
ComesNext None number = Unit {0}
ComesNext (Some last) number = number ≡ last + 1

-- the bytes begin with this block, whose number comes next
pub record BeginsWithBlock (last : Option ℕ) (bytes : List ℕ) (b : Block) (number : ℕ) (behind : List ℕ) : Type 0 where
  pub bytes_are : bytes ≡ block_image b.key number b.body ++ behind
  pub block_is : IsBlockImage most_block (block_image b.key number b.body) b.key number b.body
  pub next_is : ComesNext last number

-- the header of the bytes has a bad id or a bad size
abbrev pub HasBadHead : List ℕ → Type 0
HasBadHead bytes = ¬ HasId bytes ⊎ (HasId bytes × HasBadSize most_block bytes)

-- the block with this header has a bad checksum, or its number doesn't come next
abbrev pub HasBadBlock : Option ℕ → List ℕ → Head → Type 0
HasBadBlock last bytes head = ¬ HasSum (take head.size bytes) ⊎ (ComesNext last head.number → ⊥)

-- The bytes that are left of a span don't begin with the block that comes next: there are too few of
-- them for any block, or for this one, or what is there is no such block.
abbrev pub BeginsWithNoBlock : ReadFault → Option ℕ → List ℕ → Type 0
BeginsWithNoBlock BadSpan last bytes =
    (length bytes < least_block) ⊎ ((head : Head) × IsHeadOf most_block bytes head × (length bytes < head.size))
BeginsWithNoBlock DamagedBlock last bytes =
    (least_block ≤ length bytes)
    × (HasBadHead bytes ⊎ ((head : Head) × IsHeadOf most_block bytes head × (head.size ≤ length bytes) × HasBadBlock last bytes head))
BeginsWithNoBlock fault last bytes = ⊥

-- the bytes begin with the block that comes next, and with its body the session can't be read
pub record BeginsWithRefused (key : SessionKey) (before : List Block) (last : Option ℕ) (bytes : List ℕ) : Type 0 where
  pub block : Block
  pub number : ℕ
  pub behind : List ℕ
  pub begins : BeginsWithBlock last bytes block number behind
  pub refused : AreReadable (blocks_of key (before ++ block ∷ [])) → ⊥

-- after the blocks of earlier spans the part begins with blocks that can be read, and what follows them can't
pub record StopsWithin (key : SessionKey) (earlier : List Block) (part : List ℕ) (fault : ReadFault) : Type 0 where
  pub done : List Block
  pub number : ℕ
  pub rest : List ℕ
  pub part_is : part ≡ images number done ++ rest
  pub done_are : AreImages number done
  pub readable : AreReadable (blocks_of key (earlier ++ done))
  pub rest_left : rest ≢ []
  pub stops : BeginsWithNoBlock fault (last_number number done) rest
      ⊎ ((fault ≡ DamagedBlock) × BeginsWithRefused key (earlier ++ done) (last_number number done) rest)

-- the part of a volume that the span names can't be read
pub record StopsInPart (volumes : Volumes) (key : SessionKey) (earlier : List Block) (s : Span) (fault : ReadFault) : Type 0 where
  pub bytes : List ℕ
  pub part : List ℕ
  pub there : volumes s.volume ≡ Some bytes
  pub part_is : IsPartOf bytes s part
  pub stops : StopsWithin key earlier part fault

-- after the blocks of earlier spans, this span can't be read: its volume isn't there, or ends early, or its bytes stop
abbrev pub CantRead : ReadFault → Volumes → SessionKey → List Block → Span → Type 0
CantRead VolumeNotOnShelf volumes key earlier s = volumes s.volume ≡ None
CantRead SpanEndsEarly volumes key earlier s = (bytes : List ℕ) × (volumes s.volume ≡ Some bytes) × (length bytes < s.end)
CantRead fault volumes key earlier s = StopsInPart volumes key earlier s fault

-- the spans before it hold blocks that can be read, and this one can't
pub record StopsAtSpan (volumes : Volumes) (key : SessionKey) (spans : List Span) (fault : ReadFault) : Type 0 where
  pub before : List Span
  pub at : Span
  pub after : List Span
  pub spans_are : spans ≡ before ++ at ∷ after
  pub blocks : List (List Block)
  pub hold : AllHold volumes before blocks
  pub readable : AreReadable (blocks_of key (flat_map (λ bs. bs) blocks))
  pub stops : CantRead fault volumes key (flat_map (λ bs. bs) blocks) at

-- The first fault: the spans are bad; else one of them can't be read, after some that can; else no block is the session's.
abbrev pub MeetsFault : Volumes → SessionKey → List Span → ReadFault → Type 0
MeetsFault volumes key spans fault =
    ((fault ≡ BadSpan) × (AreSpans spans → ⊥))
    ⊎ (AreSpans spans × (StopsAtSpan volumes key spans fault
    ⊎ ((fault ≡ BadSpan) × (blocks : List (List Block)) × AllHold volumes spans blocks × (blocks_of key (flat_map (λ bs. bs) blocks) ≡ []))))

-- The fault is one of the spans or of what is in them: neither the device nor memory failed.
abbrev pub IsOfSpans : ReadFault → Type 0
IsOfSpans fault = (fault ≢ Device) × (fault ≢ Memory)

-- Laws.

-- spans with a fault read to no records that an end label can count
abbrev pub FaultIsNoReading : Type 0
FaultIsNoReading = (volumes : Volumes) (key : SessionKey) (spans : List Span) (fault : ReadFault) (records : List Record) (ended : Bool)
    → MeetsFault volumes key spans fault → Reads volumes key spans records ended → AreCountable records → ⊥

-- the first fault is one: spans don't meet two
abbrev pub OneFirstFault : Type 0
OneFirstFault = (volumes : Volumes) (key : SessionKey) (spans : List Span) (fault other : ReadFault)
    → MeetsFault volumes key spans fault → MeetsFault volumes key spans other → fault ≡ other
