-- The lines that the daemon answers, but for those of spans.
use Rattle.std.specs.Prelude.{ℕ, Bool, true, false, List, ◌++◌, codes}
use Rattle.std.specs.Fmt.{decimal}
use Rattle.sd_base.specs.Refusal.{refusal_text}
use Rattle.sd_span.specs.JobMedia.{session_text}
use Rattle.sd_append.specs.declared.line.ReplyLine.{ReplyLine}
use Rattle.sd_append.specs.declared.line.ReplyLine.TheVariants.{Opened, Data, Appended, Ended, Closed, Session, Read, Header, Refused}

-- how it is said that a session has its end label
abbrev pub ended_text : Bool → List ℕ
ended_text true = codes " Ended=1"
ended_text false = codes " Ended=0"

-- a line without its newline
abbrev pub line_text : ReplyLine → List ℕ
line_text (Opened ticket) = codes "3000 OK open ticket = " ++ decimal ticket
line_text Data = codes "3000 OK data"
line_text Appended = codes "3000 OK append data"
line_text Ended = codes "3000 OK end"
line_text Closed = codes "3000 OK close Status = 84"
line_text (Session key) = session_text key
line_text (Read end) =
    codes "3000 OK read Records=" ++ decimal end.records ++ codes " Bytes=" ++ decimal end.bytes ++ ended_text end.ended
line_text (Header header) = decimal header.index ++ codes " " ++ decimal header.stream ++ codes " 0"
line_text (Refused refusal) = refusal_text refusal
