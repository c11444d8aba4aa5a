-- When two receipts are one.
use Rattle.std.proofs.Common.{◌≡◌, ℕ, Bool, refl, sym, ap, subst, ◌∙◌, List, Option, Some, None}
use Rattle.std.specs.Prelude.{IfSome, IsSome, IsTrue, ◌↔◌}
use Rattle.sd_base.specs.declared.number.SessionKey.{SessionKey}
use Rattle.sd_drive.specs.Receipt.{ReceiptIs}
use Rattle.sd_journal.specs.Journal.{Entry, placements, placed_of, synced_of}
use Rattle.sd_hub.specs.Settles.{SameFields, IsGiven}
use Rattle.sd_span.specs.Spans.{spans_of}
use Rattle.sd_span.specs.declared.span.Span.{Span}

-- Spans.

span_with : List ℕ → ℕ → ℕ → ℕ → ℕ → ℕ → Span
span_with volume index first last start end = record { volume = volume; vol_index = index; first = first; last = last; start = start; end = end }

pub alike_same : (a b : Span) → SameFields a b → a ≡ b
unfolding span_with
alike_same a b h =
    ap (λ v. span_with v a.vol_index a.first a.last a.start a.end) h.0
    ∙ ap (λ n. span_with b.volume n a.first a.last a.start a.end) h.1
    ∙ ap (λ n. span_with b.volume b.vol_index n a.last a.start a.end) h.2
    ∙ ap (λ n. span_with b.volume b.vol_index b.first n a.start a.end) h.3
    ∙ ap (λ n. span_with b.volume b.vol_index b.first b.last n a.end) h.4
    ∙ ap (λ n. span_with b.volume b.vol_index b.first b.last b.start n) h.5

pub same_alike : (a b : Span) → a ≡ b → SameFields a b
same_alike a b e = (
  ap (λ (s : Span). s.volume) e,
  ap (λ (s : Span). s.vol_index) e,
  ap (λ (s : Span). s.first) e,
  ap (λ (s : Span). s.last) e,
  ap (λ (s : Span). s.start) e,
  ap (λ (s : Span). s.end) e,
)

-- Receipts.

-- so many blocks of the session are placed and synced
abbrev AllSynced : List Entry → SessionKey → ℕ → Type 0
AllSynced journal key blocks = (placed_of key journal ≡ blocks) × (synced_of key journal ≡ blocks)

-- so many blocks are placed and synced of another key and number too, which are these
synced_as : (journal : List Entry) (key key' : SessionKey) (blocks blocks' : ℕ) → key ≡ key' → blocks ≡ blocks' → AllSynced journal key blocks → AllSynced journal key' blocks'
synced_as journal key key' blocks blocks' k n h =
    subst (λ (x : SessionKey). AllSynced journal x blocks') k (subst (λ (m : ℕ). AllSynced journal key m) n h)

pub given_by : (journal : List Entry) (r own : ReceiptIs) (key : SessionKey) (blocks : ℕ) (option : Option ReceiptIs) (b : Bool) → option ≡ Some own → key ≡ r.key → blocks ≡ r.blocks
    → (IsSome option ↔ AllSynced journal key blocks)
    → IfSome option (λ x. x ≡ record { key = key; spans = spans_of key (placements journal); blocks = blocks })
    → (IsTrue b ↔ (own.spans ≡ r.spans)) → IsTrue b ↔ IsGiven journal r
given_by journal r own key blocks None b is k n exactly tells same = absurd (cc is)
given_by journal r own key blocks (Some x) b is k n exactly tells same =
    let all = synced_as journal key r.key blocks r.blocks k n (exactly.0 refl) in
    let one : x ≡ own = cc is in
    let spans : own.spans ≡ spans_of r.key (placements journal) =
    ap (λ (y : ReceiptIs). y.spans) (sym one ∙ tells) ∙ ap (λ (y : SessionKey). spans_of y (placements journal)) k in (
      λ e. record { placed = all.0; synced = all.1; spans_are = sym (same.0 e) ∙ spans },
      λ (given : IsGiven journal r). same.1 (spans ∙ sym given.spans_are),
    )

pub not_given : (journal : List Entry) (r : ReceiptIs) (key : SessionKey) (blocks : ℕ) (option : Option ReceiptIs) → option ≡ None → key ≡ r.key → blocks ≡ r.blocks
    → (IsSome option ↔ AllSynced journal key blocks) → IsGiven journal r → ⊥
not_given journal r key blocks None is k n exactly given =
    let some = exactly.1 (synced_as journal r.key key r.blocks blocks (sym k) (sym n) (given.placed, given.synced)) in cc some
not_given journal r key blocks (Some x) is k n exactly given = cc is
