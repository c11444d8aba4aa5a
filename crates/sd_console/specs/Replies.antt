-- The lines of replies.
use Rattle.std.specs.Prelude.{ℕ, List, [], ◌∷◌, ◌++◌, length, codes}
use Rattle.std.specs.Fmt.{decimal}
use Rattle.sd_base.specs.Refusal.{number_of, text_of}
use Rattle.sd_base.specs.declared.number.SessionKey.{SessionKey}
use Rattle.sd_text.specs.Fields.{joined}
use Rattle.sd_text.specs.Lines.{line}
use Rattle.sd_span.specs.JobMedia.{jobmedia_text}
use Rattle.sd_machine.specs.declared.reply.Reply.{Reply}
use Rattle.sd_machine.specs.declared.reply.Reply.TheVariants.{Refused, Opened, Taken, Ended, Closed, Cancelled, Spooled, SpoolFull, Nothing, NoSpool, Sent, LaneFull, NotDue, InHand, HandFull, Idle, Placed, NeedVolume, VolumeFull, VolumeError, Synced, Labelled, Adopted, Mounted, Unmounted, Requested, NoNeed, Retired, Purged, Media}

-- the words of a reply that says no more than what it is
abbrev pub plain_words : Reply → List ℕ
plain_words Ended = codes "ok ended"
plain_words Cancelled = codes "ok cancelled"
plain_words Spooled = codes "ok spooled"
plain_words SpoolFull = codes "ok spool full"
plain_words Nothing = codes "ok nothing"
plain_words NoSpool = codes "ok no spool"
plain_words Sent = codes "ok sent"
plain_words LaneFull = codes "ok queue full"
plain_words NotDue = codes "ok not due"
plain_words HandFull = codes "ok hand full"
plain_words Idle = codes "ok idle"
plain_words NeedVolume = codes "ok need volume"
plain_words VolumeFull = codes "ok volume full"
plain_words VolumeError = codes "ok volume error"
plain_words Synced = codes "ok synced"
plain_words Labelled = codes "ok labelled"
plain_words Unmounted = codes "ok unmounted"
plain_words Requested = codes "ok requested"
plain_words NoNeed = codes "ok no need"
plain_words Retired = codes "ok retired"
plain_words Purged = codes "ok purged"
plain_words reply = []

-- the line of a reply, without its newline; a closed session's first one, and none of spans alone
abbrev pub reply_line : Reply → List ℕ
reply_line (Refused why) = joined (decimal (number_of why) ∷ text_of why ∷ [])
reply_line (Opened ticket drive) =
    joined (codes "ok" ∷ codes "ticket" ∷ decimal ticket ∷ codes "drive" ∷ decimal drive ∷ [])
reply_line (Taken count) = joined (codes "ok" ∷ codes "taken" ∷ decimal count ∷ [])
reply_line (Closed key spans) =
    joined (codes "ok" ∷ codes "closed" ∷ decimal (length spans) ∷ [])
reply_line (InHand ticket seq) =
    joined (codes "ok" ∷ codes "hand" ∷ decimal ticket ∷ decimal seq ∷ [])
reply_line (Placed volume start end) =
    joined (codes "ok" ∷ codes "placed" ∷ volume ∷ decimal start ∷ decimal end ∷ [])
reply_line (Adopted end next) =
    joined (codes "ok" ∷ codes "adopted" ∷ decimal end ∷ decimal next ∷ [])
reply_line (Mounted name) = joined (codes "ok" ∷ codes "mounted" ∷ name ∷ [])
reply_line reply = plain_words reply

-- All lines of a console's reply, as one text. A volume that was asked for by name isn't named again; spans that are
-- told alone are those of the session with that key.
abbrev pub reply_lines : SessionKey → Reply → List ℕ
reply_lines key (Media spans) = jobmedia_text key spans
reply_lines key (Closed own spans) =
    line (reply_line (Closed own spans)) ++ jobmedia_text own spans
reply_lines key (Mounted name) = line (codes "ok mounted")
reply_lines key reply = line (reply_line reply)
