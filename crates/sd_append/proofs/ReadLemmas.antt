-- A session that is read back, as packets.
use Rattle.std.proofs.Common.{◌≡◌, ℕ, sym, ap, ap₂, subst, ◌∙◌, List, [], ◌∷◌, ◌++◌, codes}
use Rattle.std.specs.List.{flat_map}
use Rattle.sd_base.specs.Record.{Record}
use Rattle.sd_bnet.specs.Packet.{packet_bytes}
use Rattle.sd_bnet.specs.Stream.{stream_of}
use Rattle.sd_bnet.specs.declared.packet.Packet.{Packet}
use Rattle.sd_bnet.specs.declared.packet.Packet.TheVariants.{Bytes}
use Rattle.sd_append.specs.declared.line.ReplyLine.TheVariants as lines
use Rattle.sd_append.specs.Header.{HeaderParts}
use Rattle.sd_append.specs.ReplyLine.{line_text}
use Rattle.sd_append.specs.Out.{OutView, PutsOut}
use Rattle.sd_append.specs.Talk.{end_of_data, record_said}
use Rattle.sd_append.proofs.OutLemmas.{puts_then}
use Rattle.sd_append.proofs.TalkLemmas.{says_one, says_then}
use Rattle.std.proofs.lemmas.List.{append_assoc, append-nil}

records-last : (rs : List Record) (r : Record) → flat_map record_said (rs ++ r ∷ []) ≡ flat_map record_said rs ++ record_said r
records-last [] r = append-nil (record_said r)
records-last (s ∷ rs) r =
    ap (λ (l : List Packet). record_said s ++ l) (records-last rs r) ∙ sym (append_assoc (record_said s) (flat_map record_said rs) (record_said r))

-- the packets of one record more
pub one_more : (a b c : OutView) (rs : List Record) (r : Record) (all : List Record) → all ≡ rs ++ r ∷ [] → PutsOut a b (stream_of (flat_map record_said rs))
    → PutsOut b c (stream_of (record_said r)) → PutsOut a c (stream_of (flat_map record_said all))
one_more a b c rs r all is p q =
    subst (λ (ps : List Packet). PutsOut a c (stream_of ps)) (sym (ap (flat_map record_said) is ∙ records-last rs r))
    (says_then a b c (flat_map record_said rs) (record_said r) p q)

pub record_says : (a b c d : OutView) (r : Record) (header : HeaderParts) (data_bytes : List ℕ) → header.index ≡ r.index → header.stream ≡ r.stream → data_bytes ≡ r.bytes
    → PutsOut a b (packet_bytes (Bytes (line_text (lines.Header header)))) → PutsOut b c (packet_bytes (Bytes data_bytes)) → PutsOut c d (packet_bytes end_of_data) → PutsOut a d (stream_of (record_said r))
record_says a b c d r header data_bytes index stream same p q s =
    let own : HeaderParts = record { index = r.index; stream = r.stream } in
    let is : header ≡ own = ap₂ (λ (i j : ℕ). record { index = i; stream = j }) index stream in
    let first = subst (λ (h : HeaderParts). PutsOut a b (packet_bytes (Bytes (line_text (lines.Header h))))) is p in
    let second = subst (λ (bytes : List ℕ). PutsOut b c (packet_bytes (Bytes bytes))) same q in
    let ending = says_one c d end_of_data s in
    puts_then a b d (packet_bytes (Bytes (line_text (lines.Header own)))) (packet_bytes (Bytes r.bytes) ++ stream_of (end_of_data ∷ [])) first
    (puts_then b c d (packet_bytes (Bytes r.bytes)) (stream_of (end_of_data ∷ [])) second ending)

-- the text of a session and its spans, in one piece
pub whole_text : (time id lines_so_far : List ℕ) → codes "session " ++ (time ++ (codes " " ++ (id ++ (codes "\n" ++ lines_so_far))))
    ≡ (codes "session " ++ time ++ codes " " ++ id ++ codes "\n") ++ lines_so_far
whole_text time id lines_so_far = simp append_assoc
