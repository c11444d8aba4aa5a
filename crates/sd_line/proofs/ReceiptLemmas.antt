-- What a close of a part answers, as a receipt of its session.
use Rattle.std.proofs.Common.{◌≡◌, sym, ap, ◌∙◌, List}
use Rattle.std.specs.Prelude.{Ok}
use Rattle.sd_drive.specs.Receipt.{ReceiptIs}
use Rattle.sd_line.specs.Goes.{IsReceiptOf}
use Rattle.sd_journal.specs.Journal.{Entry, placed_of, placements, synced_of}
use Rattle.sd_line.specs.Closes.{Closes}
use Rattle.sd_line.specs.declared.closing.Closing.TheVariants.{Closed}
use Rattle.sd_session.specs.Session.{SessionView, parts_of}
use Rattle.sd_span.specs.Spans.{spans_of}

pub receipt_of : (apart : Type 0) (journal : List Entry) (r : ReceiptIs) (s v : SessionView) → Closes apart journal s (Ok (Closed r)) v
    → IsReceiptOf v r × (r.spans ≡ spans_of s.key (placements journal))
receipt_of apart journal r s v c =
    let key = ap (λ (x : SessionView). x.key) c.0.is in
    let sent = ap (λ (x : SessionView). x.sent) c.0.is in
    let spans = ap (λ (x : ReceiptIs). x.spans) c.2 in (
      record {
        closed_by = record {
          closed = ap (λ (x : SessionView). x.status) c.0.is;
          none_left = ap parts_of c.0.is ∙ c.0.may.none_left;
          span_all = record {
            journal = journal;
            placed_are = ap (λ k. placed_of k journal) key ∙ c.1 ∙ sym sent;
            synced_are = ap (λ k. synced_of k journal) key
                ∙ c.0.may.all_synced ∙ sym sent;
            spans_are = spans ∙ ap (λ k. spans_of k (placements journal)) (sym key);
          };
        };
        key_is = ap (λ (x : ReceiptIs). x.key) c.2 ∙ sym key;
        blocks_are = ap (λ (x : ReceiptIs). x.blocks) c.2 ∙ sym sent;
      },
      spans,
    )
