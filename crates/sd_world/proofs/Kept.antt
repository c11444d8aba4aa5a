-- What a move leaves of closed and purged sessions, when sessions change, or one bay, or both.
use Rattle.std.proofs.Common.{◌≡◌, ◌⊎◌, ℕ, ◌+◌, refl, sym, ap, subst, ◌∙◌, arith, inl, inr, Some, None, List, slice_get, slice_set}
use Rattle.sd_base.specs.declared.number.SessionKey.{SessionKey}
use Rattle.sd_drive.specs.View.{DriveIs}
use Rattle.sd_journal.specs.Journal.{placements, placed_of}
use Rattle.sd_machine.specs.Kept.{IsClosedOrPurged}
use Rattle.sd_span.specs.Spans.{placements_of, stretches, numbered_from}
use Rattle.sd_world.specs.World.{WorldView, WorldSession, BayView, session_at, with_session}
use Rattle.sd_world.specs.Rules.{IsSeated, IsWorld}
use Rattle.sd_world.specs.Kept.{StatusesStay, SpansStay}
use Rattle.sd_world.proofs.Lookups.{one_or_two, session_id, get_set-same, get_set-other}
use Rattle.sd_world.proofs.Items.{none_in_hand}
use Rattle.sd_world.proofs.Pairs.{PairAt, WithOne, pair_after, with_pairs}
use Rattle.sd_world.proofs.Seats.{DriveStays}
use Rattle.sd_world.proofs.Views.{SessionStays}

-- closed and purged sessions stay so, and have the spans that they had
pub record ClosedStay {D : Type 0} (old new : WorldView D) : Type 0 where
  pub statuses : StatusesStay old new
  pub spans : SpansStay old new

-- a session is there again, closed or purged, and at its drive
pub record IsSameClosed (e : WorldSession) (e' : WorldSession) : Type 0 where
  pub key_is : e'.session.key ≡ e.session.key
  pub stands : IsClosedOrPurged e'.session.status
  pub drive_is : e'.drive ≡ e.drive

-- so of each ticket
abbrev pub ClosedAreThere : List WorldSession → List WorldSession → Type 0
ClosedAreThere es es' = (ticket : ℕ) (e : WorldSession) → session_at ticket es ≡ Some e → IsClosedOrPurged e.session.status
    → (e' : WorldSession) × (session_at ticket es' ≡ Some e') × IsSameClosed e e'

-- the bay is there again with the session's placements, or its drive is offline
abbrev pub PlacedOrOffline : {D : Type 0} → SessionKey → DriveIs D → List (BayView D) → ℕ → Type 0
PlacedOrOffline {D} key d bays' at =
    ((bay' : BayView D) × (d' : DriveIs D) × (slice_get bays' at ≡ Some bay') × (bay'.drive ≡ Some d')
    × (placements_of key (placements d'.journal) ≡ placements_of key (placements d.journal)))
    ⊎ ((bay' : BayView D) × (slice_get bays' at ≡ Some bay') × (bay'.drive ≡ None))

-- so of each that is closed or purged
abbrev pub PlacedAreThere : {D : Type 0} → WorldView D → WorldView D → Type 0
PlacedAreThere {D} w w' = (ticket : ℕ) (e : WorldSession) (at : ℕ) (bay : BayView D) (d : DriveIs D)
    → session_at ticket w.sessions ≡ Some e → IsClosedOrPurged e.session.status → e.drive ≡ at + 1 → slice_get w.bays at ≡ Some bay → bay.drive ≡ Some d
    → PlacedOrOffline e.session.key d w'.bays at

pub closed_stay : {D : Type 0} (w w' : WorldView D) → ClosedAreThere w.sessions w'.sessions → PlacedAreThere w w' → ClosedStay w w'
closed_stay {D} w w' there placed = record {
  statuses = λ key h.
      let p = there key.id h.e h.there h.holds in
      record { e = p.0; there = p.1; key_is = p.2.key_is ∙ h.key_is; holds = p.2.stands };
  spans = λ key spans h.
      let p = there key.id h.e h.there h.holds.0 in
      let was = h.holds.1 in
      let online = was.3 in
      record {
        e = p.0;
        there = p.1;
        key_is = p.2.key_is ∙ h.key_is;
        holds = elim (placed key.id h.e was.0 was.1 was.2 h.there h.holds.0 online.number online.there online.online) [
          | inl q ↦ inl (
            p.2.stands,
            (
              was.0,
              q.0,
              q.1,
              record { number = p.2.drive_is ∙ online.number; there = q.2; online = q.3 },
              was.4 ∙ ap (λ ps. numbered_from 1 (stretches ps)) (sym q.4)
                  ∙ ap (λ k. numbered_from 1 (stretches (placements_of k (placements q.1.journal)))) (sym p.2.key_is),
            ),
          )
          | inr q ↦ inr (was.0, q.0, p.2.drive_is ∙ online.number, q.1, q.2)
        ];
      };
}

-- Sessions.

pub same_closed : (e : WorldSession) → IsClosedOrPurged e.session.status → IsSameClosed e e
same_closed e closed = record { key_is = refl; stands = closed; drive_is = refl }

pub all_there : (es : List WorldSession) → ClosedAreThere es es
all_there es ticket e found closed = (e, found, same_closed e closed)

-- if pairs stay
pub pairs_there : (R : WorldSession → WorldSession → Type 0) (es es' : List WorldSession) → ((ticket : ℕ) → PairAt R es es' ticket)
    → ((x y : WorldSession) → R x y → IsClosedOrPurged x.session.status → IsSameClosed x y) → ClosedAreThere es es'
pairs_there R es es' pairs tells ticket e found closed =
    let p = pair_after R (session_at ticket es) (session_at ticket es') e (pairs ticket) found in (p.0, p.1, tells e p.0 p.2 closed)

-- a session that stays is as it was
pub stands_still : (x y : WorldSession) → y.drive ≡ x.drive → SessionStays x.session y.session → IsClosedOrPurged x.session.status → IsSameClosed x y
stands_still x y drive stays (inl closed) = record { key_is = stays.key_is; stands = inl (stays.stays_closed closed); drive_is = drive }
stands_still x y drive stays (inr purged) = record { key_is = stays.key_is; stands = inr (stays.stays_purged purged); drive_is = drive }

-- if one changes that was neither closed nor purged
pub one_there : (es : List WorldSession) (ticket : ℕ) (e f : WorldSession) → session_at ticket es ≡ Some e → f.session.key ≡ e.session.key
    → (IsClosedOrPurged e.session.status → ⊥) → ClosedAreThere es (with_session f es)
one_there es ticket e f found key open_yet =
    let id : f.session.key.id ≡ ticket = ap (λ (k : SessionKey). k.id) key ∙ session_id ticket es e found in
    pairs_there (WithOne ticket e f) es (with_session f es) (with_pairs es ticket e f found id) (λ x y q closed. elim q [
      | inl r ↦ absurd (open_yet (subst (λ (z : WorldSession). IsClosedOrPurged z.session.status) r.0 closed))
      | inr r ↦ subst (IsSameClosed x) (sym r.1) (same_closed x closed)
    ])

-- Bays.

pub all_placed_there : {D : Type 0} (w w' : WorldView D) → w'.bays ≡ w.bays → PlacedAreThere w w'
all_placed_there w w' same ticket e at bay d found closed on there online = inl (bay, d, ap (λ bs. slice_get bs at) same ∙ there, online, refl)

-- if one bay changes
pub bay_there : {D : Type 0} (w w' : WorldView D) (place : ℕ) (bay bay' : BayView D) → slice_get w.bays place ≡ Some bay → w'.bays ≡ slice_set w.bays place bay'
    → ((ticket : ℕ) (e : WorldSession) (d : DriveIs D) → session_at ticket w.sessions ≡ Some e → IsClosedOrPurged e.session.status → e.drive ≡ place + 1
    → bay.drive ≡ Some d → ((d' : DriveIs D) × (bay'.drive ≡ Some d') × (placements_of e.session.key (placements d'.journal) ≡ placements_of e.session.key (placements d.journal)))
    ⊎ (bay'.drive ≡ None))
    → PlacedAreThere w w'
bay_there {D} w w' place bay bay' stood bays tells ticket e at b d found closed on there online =
    elim (one_or_two at place) [
      | inl same ↦
          let is : b ≡ bay = cc (sym there ∙ ap (slice_get w.bays) same ∙ stood) in
          let now : slice_get w'.bays at ≡ Some bay' =
          ap (λ bs. slice_get bs at) bays ∙ ap (slice_get (slice_set w.bays place bay')) same ∙ get_set-same w.bays place bay' bay stood in
          elim (tells ticket e d found closed (on ∙ ap (λ n. n + 1) same) (ap (λ (x : BayView D). x.drive) (sym is) ∙ online)) [
            | inl q ↦ inl (bay', q.0, now, q.1, q.2)
            | inr q ↦ inr (bay', now, q)
          ]
      | inr apart ↦ inl (b, d, ap (λ bs. slice_get bs at) bays ∙ get_set-other w.bays place at bay' apart ∙ there, online, refl)
    ]

-- each piece of a closed or purged session is placed
over_placed : {D : Type 0} (w : WorldView D) (e : WorldSession) (d : DriveIs D) → (seat : IsSeated w e) → seat.bay.drive ≡ Some d → IsClosedOrPurged e.session.status
    → placed_of e.session.key d.journal ≡ e.session.sent
over_placed w e d seat on (inl closed) = seat.closed closed d on
over_placed w e d seat on (inr purged) = seat.purged purged d on

-- the drive keeps the pieces of others, and a closed or purged session has none in the hand
pub closed_placed : {D : Type 0} (w : WorldView D) (place : ℕ) (bay : BayView D) (d after : DriveIs D) (ticket : ℕ) (e : WorldSession) → IsWorld w
    → slice_get w.bays place ≡ Some bay → bay.drive ≡ Some d → DriveStays d after
    → session_at ticket w.sessions ≡ Some e → IsClosedOrPurged e.session.status → e.drive ≡ place + 1
    → placements_of e.session.key (placements after.journal) ≡ placements_of e.session.key (placements d.journal)
closed_placed {D} w place bay d after ticket e h stood online stays found closed on =
    let seat = h.seated ticket e found in
    let here : seat.at ≡ place = omega (arith, seat.drive_is, on) in
    let is : seat.bay ≡ bay = cc (sym seat.bay_there ∙ ap (slice_get w.bays) here ∙ stood) in
    let own : seat.bay.drive ≡ Some d = ap (λ (b : BayView D). b.drive) is ∙ online in
    elim (stays.own e.session.key) [
      | inl same ↦ same
      | inr p ↦ absurd (none_in_hand e.session.key d seat.bay.queue p.0 (over_placed w e d seat own closed ∙ seat.sent_is d own) p.1 p.2)
    ]

pub drive_there : {D : Type 0} (w w' : WorldView D) (place : ℕ) (bay : BayView D) (d after : DriveIs D) → IsWorld w
    → slice_get w.bays place ≡ Some bay → bay.drive ≡ Some d → DriveStays d after → w'.bays ≡ slice_set w.bays place (record bay { drive = Some after })
    → PlacedAreThere w w'
drive_there {D} w w' place bay d after h stood online stays bays =
    bay_there w w' place bay (record bay { drive = Some after }) stood bays
    (λ ticket e x found closed on is.
    let one : d ≡ x = cc (sym online ∙ is) in
    inl (
      after,
      refl,
      closed_placed w place bay d after ticket e h stood online stays found closed on
          ∙ ap (λ (y : DriveIs D). placements_of e.session.key (placements y.journal)) one,
    ))

-- if the journal of the one drive stays
pub journal_there : {D : Type 0} (w w' : WorldView D) (place : ℕ) (bay bay' : BayView D) (d after : DriveIs D) → slice_get w.bays place ≡ Some bay → bay.drive ≡ Some d
    → bay'.drive ≡ Some after → after.journal ≡ d.journal → w'.bays ≡ slice_set w.bays place bay' → PlacedAreThere w w'
journal_there {D} w w' place bay bay' d after stood online now same bays =
    bay_there w w' place bay bay' stood bays
    (λ ticket e x found closed on is.
    let one : d ≡ x = cc (sym online ∙ is) in
    inl (after, now, ap (λ es. placements_of e.session.key (placements es)) same ∙ ap (λ (y : DriveIs D). placements_of e.session.key (placements y.journal)) one))
