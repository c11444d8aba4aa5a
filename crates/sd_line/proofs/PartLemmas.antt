-- What a part keeps through its calls, whatever they answer.
use Rattle.std.proofs.Common.{◌≡◌, ℕ, ℤ, Bool, sym, subst, inl, inr, List, [], ◌∷◌, ◌++◌}
use Rattle.std.specs.Prelude.{Option, Some, None, Result, Ok, Err, OnOk, OnErr, IfOk, IfErr}
use Rattle.sd_base.specs.Record.{Record}
use Rattle.sd_base.specs.declared.refusal.Refusal.{Refusal}
use Rattle.sd_journal.specs.Journal.{Entry}
use Rattle.sd_line.specs.Side.{SeatIs}
use Rattle.sd_session.specs.Session.{SessionView, TakesRecord, EndsSession, CancelsSession}
use Rattle.sd_session.specs.Sending.{DespoolRefused}
use Rattle.sd_session.specs.Spooling.{Spools, SpoolRefused}
use Rattle.sd_session.specs.declared.answer.Despooled.{Despooled}
use Rattle.sd_session.specs.declared.answer.Despooled.TheVariants.{Sent, LaneFull, Nothing, NotDue}
use Rattle.sd_session.specs.declared.answer.Spooling.{Spooling}
use Rattle.sd_drive.specs.Receipt.{ReceiptIs}
use Rattle.sd_line.specs.Closes.{Closes, IsDue, progress_in}
use Rattle.sd_line.specs.Ends.{ToldSession}
use Rattle.sd_line.specs.Parts.{PartIs, KeepsPart, SendsBy, queue_at}
use Rattle.sd_line.specs.declared.closing.Closing.{Closing}
use Rattle.sd_line.specs.declared.closing.Closing.TheVariants.{Closed, NotYet}
use Rattle.sd_line.proofs.Keeps.{steps_keep, sends_keep}
use Rattle.sd_line.proofs.Steps.{stays, appended, ended, cancelled, failed, spooled, not_spooled, found_full, not_sent, closed}
use Rattle.sd_line.proofs.ToldLemmas.{StepsOn}

-- a part of these
abbrev pub part_of : SeatIs → List ToldSession → SessionView → List Record → Bool → Bool → PartIs
part_of seat before s records spools whole = record { seat = seat; before = before; session = s; told = records; spools = spools; whole = whole }

module _ (time : ℕ → ℕ) (seat : SeatIs) (before : List ToldSession) (s v : SessionView) (records : List Record) (spools whole : Bool) where
  -- by a step of the session that sends nothing
  on : StepsOn s records v records → KeepsPart time (part_of seat before s records spools whole) → KeepsPart time (part_of seat before v records spools whole)
  on steps h = steps_keep time (part_of seat before s records spools whole) v records steps h

  pub appends_keep : (r : Record) (n : ℕ) → TakesRecord s r n v → KeepsPart time (part_of seat before s records spools whole)
      → KeepsPart time (part_of seat before v (records ++ r ∷ []) spools whole)
  appends_keep r n t h = steps_keep time (part_of seat before s records spools whole) v (records ++ r ∷ []) (appended s v records r n t) h

  pub ends_keep : {T : Type 0} (moment : ℤ) (result : Result T Refusal) → OnOk result (EndsSession s moment v) → OnErr result (v ≡ s)
      → KeepsPart time (part_of seat before s records spools whole) → KeepsPart time (part_of seat before v records spools whole)
  ends_keep moment (Ok x) ok err h = on (ended s v records moment ok) h
  ends_keep moment (Err why) ok err h = on (stays s v records err) h

  pub cancels_keep : {T : Type 0} (result : Result T Refusal) → OnOk result (CancelsSession s v) → OnErr result (v ≡ s)
      → KeepsPart time (part_of seat before s records spools whole) → KeepsPart time (part_of seat before v records spools whole)
  cancels_keep (Ok x) ok err h = on (cancelled s v records ok) h
  cancels_keep (Err why) ok err h = on (stays s v records err) h

  pub spools_keep : (result : Result Spooling Refusal) → IfOk result (λ answer. Spools answer s v) → IfErr result (λ why. SpoolRefused s why v)
      → KeepsPart time (part_of seat before s records spools whole) → KeepsPart time (part_of seat before v records spools whole)
  spools_keep (Ok answer) ok err h = on (spooled answer s v records ok) h
  spools_keep (Err why) ok err h = on (not_spooled s v records why err) h

  pub closes_keep : (apart : Type 0) (journal : List Entry) (result : Result Closing Refusal) → Closes apart journal s result v
      → KeepsPart time (part_of seat before s records spools whole) → KeepsPart time (part_of seat before v records spools whole)
  closes_keep apart journal (Ok (Closed receipt)) c h = on (closed s v records (progress_in journal s) c.0) h
  closes_keep apart journal (Ok NotYet) c h = on (stays s v records c.3) h
  closes_keep apart journal (Err why) (inl c) h = on (stays s v records c.2) h
  closes_keep apart journal (Err why) (inr (inl c)) h = on (failed s v records c.3) h
  closes_keep apart journal (Err why) (inr (inr c)) h = on (stays s v records c.3) h

  pub due_keep : (apart : Type 0) (journal : List Entry) (result : Result (Option ReceiptIs) Refusal) → IsDue apart journal s result v
      → KeepsPart time (part_of seat before s records spools whole) → KeepsPart time (part_of seat before v records spools whole)
  due_keep apart journal (Ok (Some receipt)) c h = on (stays s v records c.1) h
  due_keep apart journal (Ok None) c h = closes_keep apart journal (Ok NotYet) c h
  due_keep apart journal (Err why) c h = closes_keep apart journal (Err why) c h

  -- by a step of sending that sent nothing
  same_seat : (seat' : SeatIs) → seat' ≡ seat → StepsOn s records v records → KeepsPart time (part_of seat before s records spools whole) → KeepsPart time (part_of seat' before v records spools whole)
  same_seat seat' is steps h = subst (λ x. KeepsPart time (part_of x before v records spools whole)) (sym is) (on steps h)

  pub answers_keep : (answer : Despooled) (capacity : ℕ) (seat' : SeatIs) → SendsBy answer capacity seat s seat' v
      → KeepsPart time (part_of seat before s records spools whole) → KeepsPart time (part_of seat' before v records spools whole)
  answers_keep Sent capacity seat' t h =
      subst (λ x. KeepsPart time (part_of x before v records spools whole)) (sym t.1)
      (sends_keep time (part_of seat before s records spools whole) v (queue_at capacity seat) (queue_at capacity seat') t.0 h)
  answers_keep LaneFull capacity seat' t h = same_seat seat' t.1 (found_full s v records (queue_at capacity seat) (queue_at capacity seat') t.0) h
  answers_keep Nothing capacity seat' t h = same_seat seat' t.1 (stays s v records t.0.3) h
  answers_keep NotDue capacity seat' t h = same_seat seat' t.1 (stays s v records t.0.2) h

  pub pushes_keep : (capacity : ℕ) (seat' : SeatIs) (result : Result Despooled Refusal) → IfOk result (λ answer. SendsBy answer capacity seat s seat' v)
      → IfErr result (λ why. DespoolRefused s why v) → OnErr result (seat' ≡ seat)
      → KeepsPart time (part_of seat before s records spools whole) → KeepsPart time (part_of seat' before v records spools whole)
  pushes_keep capacity seat' (Ok answer) ok err same h = answers_keep answer capacity seat' ok h
  pushes_keep capacity seat' (Err why) ok err same h = same_seat seat' same (not_sent s v records why err) h
