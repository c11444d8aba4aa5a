-- The theorem of running threads.
use Rattle.std.proofs.Common.{◌≡◌, ℕ, sym, ap, subst, ◌∙◌, inl, inr, List, length}
use Rattle.std.specs.Prelude.{IsPermutation}
use Rattle.atomic_table.specs.Seated.{TableId}
use Rattle.sd_base.specs.declared.number.SessionKey.{SessionKey}
use Rattle.sd_driver.specs.Meaning.{Meaning}
use Rattle.sd_drive.specs.Receipt.{ReceiptIs}
use Rattle.sd_drive.specs.View.{DriveIs}
use Rattle.sd_line.specs.Side.{LineIs}
use Rattle.sd_line.specs.Ends.{EndIs, ToldSession}
use Rattle.sd_hub.specs.Settles.{LaneSettles, sessions_to}
use Rattle.sd_hub.specs.Worlds.{IsSettledFrom, lane_sessions, machine_of}
use Rattle.sd_hub.proofs.Entries.{distinct_moved}
use Rattle.sd_hub.proofs.Lines.{all_of_ends}
use Rattle.sd_span.specs.declared.span.Span.{Span}
use Rattle.sd_theorem.proofs.Head.{reads_cancelled, reads_closed, reads_told}
use Rattle.sd_theorem.proofs.Returns.{stands_closed}
use Rattle.sd_theorem.proofs.Stood.{all_for, asked_stood, told_stood}
use Rattle.sd_theorem.specs.Since.{IsOfListsSince, WereToldOfClosed}
use Rattle.sd_theorem.specs.State.{GivesReceipts, HasPieces, HasState}
use Rattle.sd_theorem.specs.Threads.{ThreadTheorem}
use Rattle.sd_theorem.proofs.Closed.{began, closed_here, closed_with, given, settled_world, told_by}
use Rattle.sd_world.specs.Deeds.{Deed, LeadsTo}
use Rattle.sd_world.specs.Stands.{StandsClosed}
use Rattle.sd_world.specs.Steps.{IsSound}
use Rattle.sd_world.specs.World.{WorldView}
use Rattle.sd_world.proofs.DeedLemmas.{leads_keep, leads_run}
use Rattle.sd_world.proofs.Sessions.{found_session}

module _ {D : Type 0} (meaning : D → Meaning) (table : ℕ → TableId) (time : ℕ → ℕ) (line : LineIs) (ends : List EndIs) (receipts : List ReceiptIs) (w : WorldView D)
    (from : IsSettledFrom meaning table time line ends receipts w) where
  -- What the world is.

  has_state : HasState meaning time line ends from.settled from.told w
  has_state =
      let own = ap (λ (l : LineIs). l.no) from.line_is in
      let n = length from.settled.lanes in
      let all : sessions_to line.no n ends ≡ lane_sessions from.settled.lanes =
      sym (ap (λ (k : ℕ). sessions_to k n ends) own) ∙ sym (ap (λ (es : List EndIs). sessions_to from.checked.line.no n es) from.ends_are)
      ∙ all_of_ends meaning table time from.checked from.settled from.settles in
      record {
        all = subst (λ (ss : List ToldSession). IsPermutation ss from.told) (sym all) from.becomes.all;
        rise = from.becomes.rise;
        distinct = distinct_moved (lane_sessions from.settled.lanes) from.told from.becomes.all (settled_world meaning table time line ends receipts w from).lanes.distinct;
        run_is = ap (λ l. l.time) from.becomes.limits_are ∙ ap (λ (d : DriveIs D). d.limits.time) from.settles.drive_is ∙ from.settles.keeps.run
            ∙ ap time from.settles.passes.synced.keys.lanes.no_is ∙ ap time own;
        matches = began meaning table time line ends receipts w from;
      }

  has_pieces : HasPieces meaning time line ends from.settled w
  has_pieces =
      let h = settled_world meaning table time line ends receipts w from in
      record {
        bays_are = from.becomes.bays_are;
        follows = h.follows;
        holds = h.holds;
        of_lanes = h.lanes.of_lanes;
        lanes = λ at lane there.
            subst (λ (es : List EndIs). LaneSettles time line.no es from.settled.queue at lane) from.ends_are
            (subst (λ (l : LineIs). LaneSettles time l.no from.checked.ends from.settled.queue at lane) from.line_is (from.settles.lanes_are at lane there));
      }

  gives_receipts : GivesReceipts from.settled receipts w
  gives_receipts = record {
    given = given meaning table time line ends receipts w from;
    none_out = λ ticket e there closed out.
        let f = found_session meaning w ticket w.sessions (machine_of from.settled from.told).sessions e (began meaning table time line ends receipts w from).sessions there in
        f.matches.closed (f.matches.status_is ∙ closed) out;
  }

  -- What it does from there on.
  module _ (sound : IsSound meaning w) (deeds : List Deed) (now : WorldView D) (leads : LeadsTo meaning w deeds now) where
    -- a closed session stands closed with the spans that were told of it
    told_stands : (key : SessionKey) (spans : List Span) → WereToldOfClosed (machine_of from.settled from.told) receipts key spans deeds → StandsClosed now key spans
    told_stands key spans (inl (has, inl receipt)) =
        (leads_keep meaning w now deeds sound leads).1.closed key spans
        (stands_closed meaning w key spans sound (closed_with meaning table time line ends receipts w from key spans has receipt))
    told_stands key spans (inl (has, inr asked)) =
        asked_stood meaning w now key spans _ deeds sound
        (stands_closed meaning w key _ sound (closed_here meaning table time line ends receipts w from key has)) leads asked
    told_stands key spans (inr told) = told_stood meaning w now key spans deeds sound leads told

    of_lists : IsOfListsSince meaning w (machine_of from.settled from.told) receipts deeds now
    of_lists =
        let pairs0 = began meaning table time line ends receipts w from in
        let kept = leads_keep meaning w now deeds sound leads in
        let run = leads_run meaning w now deeds (machine_of from.settled from.told) sound leads pairs0 in
        record {
          m = run.0;
          run = run.1;
          matches = run.2;
          closed = λ honest key spans told after got got' result read.
              reads_closed meaning now run.0 kept.0 run.2 key (all_for meaning now (kept.1.honest honest) key) spans after got got' result read (told_stands key spans told);
          cancelled = λ honest key spans told some has after got got' result read. elim told [
            | inl asked ↦ reads_cancelled meaning now run.0 kept.0 run.2 key (all_for meaning now (kept.1.honest honest) key) spans after got got' result read
                deeds sound leads asked some has
            | inr known ↦ reads_told meaning now run.0 kept.0 run.2 key (all_for meaning now (kept.1.honest honest) key) spans after got got' result read
                w deeds kept.1 (told_by meaning table time line ends receipts w from sound key spans known.0 known.1) some has
          ];
        }

pub thread_theorem : {D : Type 0} → ThreadTheorem D
thread_theorem meaning table time line ends receipts w from sound = record {
  state = has_state meaning table time line ends receipts w from;
  pieces = has_pieces meaning table time line ends receipts w from;
  given = gives_receipts meaning table time line ends receipts w from;
  goes_on = λ deeds now leads. of_lists meaning table time line ends receipts w from sound deeds now leads;
}
