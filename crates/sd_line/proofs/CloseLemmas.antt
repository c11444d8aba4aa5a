-- What a close comes to, by what the session and its drive say.
use Rattle.std.proofs.Common.{◌≡◌, ◌≢◌, ℕ, refl, sym, ap, subst, ◌∙◌, inl, inr, List, Ok, Err, Result, Option, Some, None}
use Rattle.std.specs.Prelude.{IsTrue, IfSome, IsSome, ◌↔◌}
use Rattle.sd_base.specs.declared.refusal.Refusal.{Refusal}
use Rattle.sd_base.specs.declared.refusal.Refusal.TheVariants.{SessionNotOpen, SessionFailed, NotYet as IsNotYet, Memory}
use Rattle.sd_base.specs.declared.number.SessionKey.{SessionKey}
use Rattle.sd_drive.specs.Receipt.{ReceiptIs}
use Rattle.sd_drive.specs.View.{DriveIs}
use Rattle.sd_journal.specs.Journal.{Entry, placements, placed_of, synced_of}
use Rattle.sd_session.specs.Session.{SessionView, IsRunning, MayClose, ClosesSession, CloseRefused, FailsSession, status_refusal}
use Rattle.sd_session.specs.declared.status.Status.{Status}
use Rattle.sd_session.specs.declared.status.Status.TheVariants.{Active, Ended, Closed as IsClosed, Cancelled, Failed, Purged}
use Rattle.sd_span.specs.Spans.{spans_of}
use Rattle.sd_span.specs.declared.progress.Progress.{Progress}
use Rattle.sd_line.specs.Closes.{Closes, IsDue, IsOnItsWay, MayCloseBy, progress_in}
use Rattle.sd_line.specs.Parts.{PartIs}
use Rattle.sd_line.specs.Side.{SideIs}
use Rattle.sd_line.specs.Tells.{AreApart}
use Rattle.sd_line.specs.declared.closing.Closing.TheVariants.{Closed}

-- who has failed goes on no more
status_failed : (status : Status) → SessionFailed ≡ status_refusal status → IsRunning status → ⊥
status_failed status is (inl active) = let e : SessionFailed ≡ SessionNotOpen = is ∙ ap status_refusal active in cc
status_failed status is (inr ended) = let e : SessionFailed ≡ SessionNotOpen = is ∙ ap status_refusal ended in cc

-- what became of a session that may not be closed for this cause
pub record Refuses (s v : SessionView) (why : Refusal) (result : Result (Option ReceiptIs) Refusal) : Type 0 where
  pub not_yet : why ≡ IsNotYet → (result ≡ Ok None) × (v ≡ s)
  pub failed : why ≡ SessionFailed → (result ≡ Err why) × FailsSession s v
  pub other : why ≢ IsNotYet → why ≢ SessionFailed → (result ≡ Err why) × (v ≡ s)

-- if the cause is the status
by_status : (journal : List Entry) (s v : SessionView) (status : Status) (why : Refusal) (result : Result (Option ReceiptIs) Refusal) → s.status ≡ status → status ≢ Ended
    → why ≡ status_refusal status → Refuses s v why result → (result ≡ Err why) × (v ≡ s)
by_status journal s v Active why result is not same h = h.other (λ e. cc (e, same)) (λ e. cc (e, same))
by_status journal s v Ended why result is not same h = absurd (not refl)
by_status journal s v IsClosed why result is not same h = h.other (λ e. cc (e, same)) (λ e. cc (e, same))
by_status journal s v Cancelled why result is not same h = h.other (λ e. cc (e, same)) (λ e. cc (e, same))
by_status journal s v Failed why result is not same h =
    let f = h.failed same in
    (f.0, elim f.1 [ inl runs ↦ absurd (status_failed s.status (ap status_refusal (sym is)) runs.0) | inr stays ↦ stays.1 ])
by_status journal s v Purged why result is not same h = h.other (λ e. cc (e, same)) (λ e. cc (e, same))

pub refuses : (journal : List Entry) (s v : SessionView) (progress : Progress) (why : Refusal) (result : Result (Option ReceiptIs) Refusal) → progress ≡ progress_in journal s
    → CloseRefused s progress why → Refuses s v why result → IsDue ⊥ journal s result v
refuses journal s v progress why result far (inl t) h =
    let d = by_status journal s v s.status why result refl t.0 t.1 h in
    subst (λ r. IsDue ⊥ journal s r v) (sym d.0) (inl (t.0, t.1, d.1))
refuses journal s v progress why result far (inr (inl t)) h =
    let d = h.failed t.2 in
    subst (λ r. IsDue ⊥ journal s r v) (sym d.0) (inr (inl (t.0, subst (λ (p : Progress). IsTrue p.failed) far t.1, t.2, d.1)))
refuses journal s v progress why result far (inr (inr t)) h =
    let d = h.not_yet t.3 in
    subst (λ r. IsDue ⊥ journal s r v) (sym d.0) (
      t.0,
      ap (λ (p : Progress). p.failed) (sym far) ∙ t.1,
      elim t.2 [
        | inl left ↦ inl left
        | inr apart ↦ inr (inl (subst (λ (p : Progress). p.synced ≢ s.sent) far apart))
      ],
      d.1,
    )

-- what the receipt was asked for
pub wanted : (journal : List Entry) (s : SessionView) (progress : Progress) → progress ≡ progress_in journal s → MayClose s progress → MayClose s (progress_in journal s)
wanted journal s progress far may = subst (MayClose s) far may

pub no_memory : (journal : List Entry) (s : SessionView) (progress : Progress) → progress ≡ progress_in journal s → MayClose s progress
    → placed_of s.key journal ≡ s.sent → IsDue ⊥ journal s (Err Memory) s
no_memory journal s progress far may placed = inr (inr (wanted journal s progress far may, placed, refl, refl))

-- what a drive's receipt tells of the session
pub receipt_told : (journal : List Entry) (s : SessionView) (key : SessionKey) (blocks : ℕ) (option : Option ReceiptIs) (r : ReceiptIs) → option ≡ Some r
    → key ≡ s.key → blocks ≡ s.sent → (IsSome option ↔ ((placed_of key journal ≡ blocks) × (synced_of key journal ≡ blocks)))
    → IfSome option (λ x. x ≡ record { key = key; spans = spans_of key (placements journal); blocks = blocks })
    → (placed_of s.key journal ≡ s.sent) × (r ≡ record { key = s.key; spans = spans_of s.key (placements journal); blocks = s.sent })
receipt_told journal s key blocks None r is same many exactly tells = absurd (cc is)
receipt_told journal s key blocks (Some x) r is same many exactly tells =
    let both = exactly.0 refl in
    let e : x ≡ r = cc is in
    let made : SessionKey → ℕ → ReceiptIs = λ k n. record { key = k; spans = spans_of k (placements journal); blocks = n } in
    (ap (λ k. placed_of k journal) (sym same) ∙ both.0 ∙ many, sym e ∙ tells ∙ ap (λ k. made k blocks) same ∙ ap (made s.key) many)

pub due : (journal : List Entry) (s : SessionView) (progress : Progress) (key : SessionKey) (blocks : ℕ) (option : Option ReceiptIs) → progress ≡ progress_in journal s
    → MayClose s progress → key ≡ s.key → blocks ≡ s.sent → (IsSome option ↔ ((placed_of key journal ≡ blocks) × (synced_of key journal ≡ blocks)))
    → IfSome option (λ x. x ≡ record { key = key; spans = spans_of key (placements journal); blocks = blocks }) → IsDue ⊥ journal s (Ok option) s
due journal s progress key blocks None far may same many exactly tells =
    let m = wanted journal s progress far may in (
      m.ended,
      m.sound,
      inr (inr (inl (λ placed. (let x = exactly.1 (ap (λ k. placed_of k journal) same ∙ placed ∙ sym many, ap (λ k. synced_of k journal) same ∙ m.all_synced ∙ sym many) in cc x)))),
      refl,
    )
due journal s progress key blocks (Some r) far may same many exactly tells =
    let told = receipt_told journal s key blocks (Some r) r refl same many exactly tells in
    (record { may = wanted journal s progress far may; placed_are = told.0; receipt_is = told.1 }, refl)

-- A session that may be closed by a receipt, whatever was asked of its progress then.

pub closed_by : (journal : List Entry) (s v : SessionView) (progress : Progress) (receipt : ReceiptIs) → ClosesSession s progress v → MayCloseBy journal s receipt
    → Closes ⊥ journal s (Ok (Closed receipt)) v
closed_by journal s v progress receipt c m = (record { may = m.may; is = c.is }, m.placed_are, m.receipt_is)

-- What is answered if nobody looks whether the drive and the seat are apart is answered whatever they are.

pub due_whatever : (apart : Type 0) (journal : List Entry) (s v : SessionView) (result : Result (Option ReceiptIs) Refusal) → IsDue ⊥ journal s result v → IsDue apart journal s result v
due_whatever apart journal s v (Ok (Some receipt)) d = d
due_whatever apart journal s v (Ok None) d = (d.0, d.1, whatever d.2, d.3)
  where
    whatever : IsOnItsWay ⊥ journal s → IsOnItsWay apart journal s
    whatever (inl left) = inl left
    whatever (inr (inl unsynced)) = inr (inl unsynced)
    whatever (inr (inr (inl other))) = inr (inr (inl other))
    whatever (inr (inr (inr never))) = absurd never
due_whatever apart journal s v (Err why) d = d

-- if they are apart, a session that could be closed isn't yet
pub apart_due : (apart : Type 0) (journal : List Entry) (s v : SessionView) (receipt : ReceiptIs) → IsDue ⊥ journal s (Ok (Some receipt)) v → apart → IsDue apart journal s (Ok None) v
apart_due apart journal s v receipt d is = (d.0.may.ended, d.0.may.sound, inr (inr (inr is)), d.1)

-- what is due to a session by its drive, as the part and the side of the lock have them
pub due_of : {D : Type 0} (apart : Type 0) (d e : DriveIs D) (p q : PartIs) (v : SessionView) (result : Result (Option ReceiptIs) Refusal) → e ≡ d → p ≡ q
    → IsDue ⊥ e.journal p.session result v → IsDue apart d.journal q.session result v
due_of {D} apart d e p q v result is same due =
    due_whatever apart d.journal q.session v result
    (subst (λ (x : PartIs). IsDue ⊥ d.journal x.session result v) same (subst (λ (x : DriveIs D). IsDue ⊥ x.journal p.session result v) is due))

-- and if those are apart
pub apart_of : {D : Type 0} (side : SideIs D) (e : DriveIs D) (p q : PartIs) (v : SessionView) (r : ReceiptIs) → e ≡ side.drive → p ≡ q
    → IsDue ⊥ e.journal p.session (Ok (Some r)) v → AreApart side p.seat r.key → IsDue (AreApart side q.seat q.session.key) side.drive.journal q.session (Ok None) v
apart_of {D} side e p q v r is same due apart =
    let own : AreApart side p.seat p.session.key = subst (λ (k : SessionKey). AreApart side p.seat k) (ap (λ (x : ReceiptIs). x.key) due.0.receipt_is) apart in
    subst (λ (x : PartIs). IsDue (AreApart side x.seat x.session.key) side.drive.journal x.session (Ok None) v) same
    (apart_due (AreApart side p.seat p.session.key) side.drive.journal p.session v r
    (subst (λ (x : DriveIs D). IsDue ⊥ x.journal p.session (Ok (Some r)) v) is due) own)
