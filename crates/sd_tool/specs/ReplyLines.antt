-- What is printed of a script's lines.
use Rattle.std.specs.Prelude.{ℕ, List, [], ◌∷◌, ◌++◌, length, take, Result, Ok, Err, codes}
use Rattle.std.specs.List.{flat_map}
use Rattle.std.specs.Fmt.{decimal}
use Rattle.hex.specs.Hex.{encode_lower}
use Rattle.sd_base.specs.Record.{Record}
use Rattle.sd_base.specs.Refusal.{refusal_text}
use Rattle.sd_base.specs.declared.number.SessionKey.{SessionKey}
use Rattle.sd_base.specs.declared.refusal.Refusal.{Refusal}
use Rattle.sd_console.specs.Replies.{reply_line}
use Rattle.sd_console.specs.Requests.{requests_lines}
use Rattle.sd_console.specs.Status.{status_lines}
use Rattle.sd_desk.specs.declared.request.Request.{Request}
use Rattle.sd_machine.specs.declared.reply.Reply.{Reply}
use Rattle.sd_machine.specs.declared.reply.Reply.TheVariants.{Closed, Media, Mounted}
use Rattle.sd_readback.specs.declared.read.ReadEnd.{ReadEnd}
use Rattle.sd_files.specs.End.{end_text}
use Rattle.sd_span.specs.JobMedia.{jobmedia_text}
use Rattle.sd_machine.specs.declared.view.View.{View}
use Rattle.sd_text.specs.Lines.{line}

-- the line of a refusal
abbrev pub refused_line : Refusal → List ℕ
refused_line why = line (refusal_text why)

-- Records and readings.

-- the first bytes of a record, in hexadecimal digits; a dash if there are none
abbrev pub shown_text : List ℕ → List ℕ
shown_text [] = codes "-"
shown_text (b ∷ bs) = encode_lower (take 16 (b ∷ bs))

-- a record: its FileIndex, its Stream, how many bytes it has, and the first of them
abbrev pub record_text : Record → List ℕ
record_text r =
    codes "rec " ++ decimal r.index ++ codes " " ++ decimal r.stream ++ codes " " ++ decimal (length r.bytes)
    ++ codes " " ++ shown_text r.bytes

-- what is printed of a record
abbrev pub record_lines : Record → List ℕ
record_lines r = line (record_text r)

-- what is printed of records, one after another
abbrev pub records_lines : List Record → List ℕ
records_lines records = flat_map record_lines records

-- how a reading ended
abbrev pub read_text : Result ReadEnd Refusal → List ℕ
read_text (Ok end) = end_text end
read_text (Err why) = refusal_text why

-- Replies.

-- of the spans of a session with this key its JobMedia text, and of another reply its line
abbrev pub media_words : SessionKey → Reply → List ℕ
media_words key (Media spans) = jobmedia_text key spans
media_words key reply = line (reply_line reply)

-- of a volume that was asked for by name no name, and of another reply its line
abbrev pub mounted_words : Reply → List ℕ
mounted_words (Mounted name) = line (codes "ok mounted")
mounted_words reply = line (reply_line reply)

-- of a closed session its line and its JobMedia text, and of another reply its line
abbrev pub closed_words : Reply → List ℕ
closed_words (Closed key spans) = line (reply_line (Closed key spans)) ++ jobmedia_text key spans
closed_words reply = line (reply_line reply)

-- Requests and the status.

-- all requests, and how many they are
abbrev pub requests_text : List Request → List ℕ
requests_text requests = flat_map line (requests_lines requests)

-- all drives, volumes and sessions
abbrev pub status_text : View → List ℕ
status_text view = flat_map line (status_lines view)
