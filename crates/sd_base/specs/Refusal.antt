-- The refusals: each has a number and a text.
use Rattle.std.specs.Prelude.{ℕ, List, ◌++◌, codes}
use Rattle.std.specs.Fmt.{decimal}
use Rattle.sd_base.specs.declared.refusal.Refusal.{Refusal}
use Rattle.sd_base.specs.declared.refusal.Refusal.TheVariants.{BadCommand, SessionNotOpen, BadFileIndex, PacketTooLong, SessionFailed, SessionCancelled, NotYet, Busy, NoSessionNumberLeft, NoDriveOfMedia, NoFreeLane, DriveOffline, SpoolFault, VolumeNotOnShelf, NotOurVolume, OtherPoolOrMedia, InUse, NotAppendable, AlreadyLabelled, BlocksOfThisRun, BadName, NoSuchDrive, NoRoom, DeviceFault, BadSpan, DamagedBlock, SpanEndsEarly, VolumePurged, VolumeNotFull, Memory}

-- the number of a refusal
abbrev pub number_of : Refusal → ℕ
number_of BadCommand = 3901
number_of SessionNotOpen = 3902
number_of BadFileIndex = 3903
number_of PacketTooLong = 3904
number_of SessionFailed = 3905
number_of SessionCancelled = 3906
number_of NotYet = 3907
number_of Busy = 3908
number_of NoSessionNumberLeft = 3909
number_of NoDriveOfMedia = 3910
number_of NoFreeLane = 3911
number_of DriveOffline = 3912
number_of SpoolFault = 3920
number_of VolumeNotOnShelf = 3930
number_of NotOurVolume = 3931
number_of OtherPoolOrMedia = 3932
number_of InUse = 3933
number_of NotAppendable = 3934
number_of AlreadyLabelled = 3935
number_of BlocksOfThisRun = 3936
number_of BadName = 3937
number_of NoSuchDrive = 3938
number_of NoRoom = 3939
number_of DeviceFault = 3940
number_of BadSpan = 3950
number_of DamagedBlock = 3951
number_of SpanEndsEarly = 3952
number_of VolumePurged = 3953
number_of VolumeNotFull = 3954
number_of Memory = 3960

-- the text of a refusal
abbrev pub text_of : Refusal → List ℕ
text_of BadCommand = codes "Bad command"
text_of SessionNotOpen = codes "Session not open"
text_of BadFileIndex = codes "Bad file index"
text_of PacketTooLong = codes "Packet too long"
text_of SessionFailed = codes "Session failed"
text_of SessionCancelled = codes "Session cancelled"
text_of NotYet = codes "Not yet"
text_of Busy = codes "Busy"
text_of NoSessionNumberLeft = codes "No session number left"
text_of NoDriveOfMedia = codes "No drive of this media"
text_of NoFreeLane = codes "No free lane"
text_of DriveOffline = codes "Drive offline"
text_of SpoolFault = codes "Spool fault"
text_of VolumeNotOnShelf = codes "Volume not on the shelf"
text_of NotOurVolume = codes "Not a volume of this profile"
text_of OtherPoolOrMedia = codes "Other pool or media"
text_of InUse = codes "In use"
text_of NotAppendable = codes "Volume not appendable"
text_of AlreadyLabelled = codes "Volume already labelled"
text_of BlocksOfThisRun = codes "Volume has blocks of this run"
text_of BadName = codes "Bad name"
text_of NoSuchDrive = codes "No such drive"
text_of NoRoom = codes "No room on the device"
text_of DeviceFault = codes "Device fault"
text_of BadSpan = codes "Bad span"
text_of DamagedBlock = codes "Damaged block"
text_of SpanEndsEarly = codes "Span ends early"
text_of VolumePurged = codes "Volume purged"
text_of VolumeNotFull = codes "Volume not full"
text_of Memory = codes "Want of memory"

-- the line of a refusal, without a newline: its number and its text
abbrev pub refusal_text : Refusal → List ℕ
refusal_text why = decimal (number_of why) ++ codes " " ++ text_of why
