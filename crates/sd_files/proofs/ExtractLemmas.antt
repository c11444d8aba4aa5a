-- A record that is printed, and how a reading ends.
use Rattle.std.proofs.Common.{◌≡◌, ℕ, sym, ap, ap₂, subst, ◌∙◌, List, [], ◌∷◌, ◌++◌, length}
use Rattle.std.specs.Prelude.{IfOk, Result, Ok, Err}
use Rattle.sd_base.specs.Record.{Record}
use Rattle.sd_base.specs.declared.number.SessionKey.{SessionKey}
use Rattle.sd_label.specs.Cutting.{total_bytes}
use Rattle.sd_text.specs.Says.{SaidView, Says}
use Rattle.sd_text.proofs.SaysLemmas.{says_then}
use Rattle.sd_readback.specs.Reading.{Reads, Volumes}
use Rattle.sd_readback.specs.declared.fault.ReadFault.{ReadFault}
use Rattle.sd_readback.specs.declared.read.ReadEnd.{ReadEnd}
use Rattle.sd_span.specs.declared.span.Span.{Span}
use Rattle.sd_text.specs.Lines.{line}
use Rattle.sd_files.specs.Lines.{record_lines, record_text}

-- a record's line, its bytes, and a newline
pub record_says : (a b c d : SaidView) (r : Record) (index stream : ℕ) (data_bytes : List ℕ) → index ≡ r.index → stream ≡ r.stream → data_bytes ≡ r.bytes
    → Says a b (line (record_text index stream (length data_bytes))) → Says b c data_bytes → Says c d (10 ∷ []) → Says a d (record_lines r)
record_says a b c d r index stream data_bytes index_is stream_is same p q s =
    let head : record_text index stream (length data_bytes) ≡ record_text r.index r.stream (length r.bytes) =
    ap₂ (λ i j. record_text i j (length data_bytes)) index_is stream_is ∙ ap (λ (bs : List ℕ). record_text r.index r.stream (length bs)) same in
    let body = says_then b c d data_bytes (10 ∷ []) q s in
    says_then a b d _ (line r.bytes) (subst (λ (l : List ℕ). Says a b (line l)) head p) (subst (λ (l : List ℕ). Says b d (line l)) same body)

-- What was handed over to a sink that had nothing.

pub counts_all : (result : Result ReadEnd ReadFault) (all : List Record)
    → IfOk result (λ end. (records : List Record) × (all ≡ [] ++ records) × (end.records ≡ length records) × (end.bytes ≡ total_bytes records))
    → IfOk result (λ end. (end.records ≡ length all) × (end.bytes ≡ total_bytes all))
counts_all (Ok end) all (records, is, count, bytes) = (count ∙ ap length (sym is), bytes ∙ ap total_bytes (sym is))
counts_all (Err fault) all counts = tt

pub reads_all : (volumes : Volumes) (key : SessionKey) (spans : List Span) (result : Result ReadEnd ReadFault) (all : List Record)
    → IfOk result (λ end. (records : List Record) × (all ≡ [] ++ records) × Reads volumes key spans records end.ended × (end.records ≡ length records) × (end.bytes ≡ total_bytes records))
    → IfOk result (λ end. Reads volumes key spans all end.ended)
reads_all volumes key spans (Ok end) all (records, is, reads, count, bytes) = subst (λ (rs : List Record). Reads volumes key spans rs end.ended) (sym is) reads
reads_all volumes key spans (Err fault) all reads = tt
