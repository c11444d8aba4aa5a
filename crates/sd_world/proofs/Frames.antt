-- What stays of the match of a session when the world around it changes.
use Rattle.std.proofs.Common.{◌≡◌, ◌≢◌, ◌⊎◌, ℕ, ◌+◌, refl, sym, ap, ap₂, subst, ◌∙◌, inl, inr, Some, List, ◌++◌, slice_get, slice_set}
use Rattle.sd_base.specs.declared.number.SessionKey.{SessionKey}
use Rattle.sd_driver.specs.Meaning.{Meaning, IsHonest}
use Rattle.sd_drive.specs.View.{DriveIs}
use Rattle.sd_lane.specs.Queue.{LanesView}
use Rattle.sd_machine.specs.Machine.{MachineSession}
use Rattle.sd_pack.specs.Body.{PackedBody}
use Rattle.sd_session.specs.Session.{parts_of}
use Rattle.sd_world.specs.World.{WorldView, WorldSession, BayView, IsOnline}
use Rattle.sd_world.proofs.Lookups.{get_set-tells}
use Rattle.sd_world.specs.Matches.{sent_to, bodies_with, IsOnTheWay, IsUnsynced, IsOutstanding, IsHonestAt, HasBodies, SessionMatches}

-- the drive of this number is online and honest, and these bodies of the session were sent to it
pub record WasSent {D : Type 0} (meaning : D → Meaning) (w : WorldView D) (drive : ℕ) (key : SessionKey) (sent : List PackedBody) : Type 0 where
  pub at : ℕ
  pub bay : BayView D
  pub d : DriveIs D
  pub online : IsOnline w drive at bay d
  pub honest : IsHonestAt meaning w at bay d
  pub sent_is : bodies_with key (sent_to (meaning d.device).shelf d bay.queue) ≡ sent

-- if the drive is online and honest, it was so before, and the same bodies of the session were sent to it
abbrev pub BodiesStay : {D : Type 0} → (D → Meaning) → WorldView D → WorldView D → ℕ → SessionKey → Type 0
BodiesStay {D} meaning w w' drive key = (at : ℕ) (bay : BayView D) (d : DriveIs D) → IsOnline w' drive at bay d → IsHonestAt meaning w' at bay d
    → WasSent meaning w drive key (bodies_with key (sent_to (meaning d.device).shelf d bay.queue))

-- the world around a session that stays changes so that it matches what it did
pub record Framed {D : Type 0} (meaning : D → Meaning) (w w' : WorldView D) (x : WorldSession) : Type 0 where
  pub bodies : BodiesStay meaning w w' x.drive x.session.key
  pub outstanding : IsOutstanding w' x → IsOutstanding w x

pub same_session : {D : Type 0} (meaning : D → Meaning) (w w' : WorldView D) (x : WorldSession) (y : MachineSession) → Framed meaning w w' x
    → SessionMatches meaning w x y → SessionMatches meaning w' x y
same_session meaning w w' x y frame h = record {
  key_is = h.key_is;
  status_is = h.status_is;
  count_is = h.count_is;
  bytes_are = h.bytes_are;
  last_is = h.last_is;
  bodies_are = λ at bay d online honest. let was = frame.bodies at bay d online honest in
      subst (λ sent. HasBodies x.session.packer.room sent (sent ++ parts_of x.session) y.status y.records) was.sent_is
      (h.bodies_are was.at was.bay was.d was.online was.honest);
  closed = λ c out. h.closed c (frame.outstanding out);
}

-- honesty that was there before
abbrev pub HonestBack : {D : Type 0} → (D → Meaning) → WorldView D → WorldView D → Type 0
HonestBack {D} meaning w w' = (at : ℕ) (bay : BayView D) (d : DriveIs D) → IsHonestAt meaning w' at bay d → IsHonestAt meaning w at bay d

-- If no bay changes.

pub online_back : {D : Type 0} (w w' : WorldView D) → w'.bays ≡ w.bays → (drive at : ℕ) (bay : BayView D) (d : DriveIs D) → IsOnline w' drive at bay d → IsOnline w drive at bay d
online_back w w' bays drive at bay d h = record { number = h.number; there = ap (λ bs. slice_get bs at) (sym bays) ∙ h.there; online = h.online }

pub bodies_unmoved : {D : Type 0} (meaning : D → Meaning) (w w' : WorldView D) (drive : ℕ) (key : SessionKey) → w'.bays ≡ w.bays
    → HonestBack meaning w w' → BodiesStay meaning w w' drive key
bodies_unmoved meaning w w' drive key bays back at bay d online honest = record {
  at = at;
  bay = bay;
  d = d;
  online = online_back w w' bays drive at bay d online;
  honest = back at bay d honest;
  sent_is = refl;
}

pub outstanding_unmoved : {D : Type 0} (w w' : WorldView D) (x : WorldSession) → w'.bays ≡ w.bays → IsOutstanding w' x → IsOutstanding w x
outstanding_unmoved w w' x bays (inl parts) = inl parts
outstanding_unmoved w w' x bays (inr out) = inr (out.0, out.1, out.2, online_back w w' bays x.drive out.0 out.1 out.2 out.3, out.4)

pub frame_unmoved : {D : Type 0} (meaning : D → Meaning) (w w' : WorldView D) (x : WorldSession) → w'.bays ≡ w.bays
    → HonestBack meaning w w' → Framed meaning w w' x
frame_unmoved meaning w w' x bays back =
    record { bodies = bodies_unmoved meaning w w' x.drive x.session.key bays back; outstanding = outstanding_unmoved w w' x bays }

-- If one bay changes.

-- a bay whose drive is online is another now, whose drive is online; if it is honest now, it was before, and so
-- elsewhere
pub record BayChange {D : Type 0} (meaning : D → Meaning) (w w' : WorldView D) (at : ℕ) (bay bay' : BayView D) (d d' : DriveIs D) : Type 0 where
  pub there : slice_get w.bays at ≡ Some bay
  pub online : bay.drive ≡ Some d
  pub bays : w'.bays ≡ slice_set w.bays at bay'
  pub online_now : bay'.drive ≡ Some d'
  pub here : IsHonestAt meaning w' at bay' d' → IsHonestAt meaning w at bay d
  pub elsewhere : (place : ℕ) (other : BayView D) (o : DriveIs D) → place ≢ at → IsHonestAt meaning w' place other o → IsHonestAt meaning w place other o

-- what is online after the change: that bay, or one that was
abbrev pub OnlineAfter : {D : Type 0} → WorldView D → ℕ → ℕ → BayView D → DriveIs D → ℕ → BayView D → DriveIs D → Type 0
OnlineAfter w drive at bay' d' place other o = ((place ≡ at) × (other ≡ bay') × (o ≡ d')) ⊎ ((place ≢ at) × IsOnline w drive place other o)

pub online_after : {D : Type 0} (w w' : WorldView D) (drive at : ℕ) (bay' : BayView D) (d' : DriveIs D) → w'.bays ≡ slice_set w.bays at bay' → bay'.drive ≡ Some d'
    → (place : ℕ) (other : BayView D) (o : DriveIs D) → IsOnline w' drive place other o → OnlineAfter w drive at bay' d' place other o
online_after {D} w w' drive at bay' d' bays now place other o h =
    elim (get_set-tells w.bays at place bay' other (ap (λ bs. slice_get bs place) (sym bays) ∙ h.there)) [
      | inl p ↦ inl (p.0, p.1, cc (sym h.online ∙ ap (λ (b : BayView D). b.drive) p.1 ∙ now))
      | inr p ↦ inr (p.0, record { number = h.number; there = p.1; online = h.online })
    ]

pub bodies_in_bay : {D : Type 0} (meaning : D → Meaning) (w w' : WorldView D) (at : ℕ) (bay bay' : BayView D) (d d' : DriveIs D) (drive : ℕ) (key : SessionKey)
    → BayChange meaning w w' at bay bay' d d'
    → (drive ≡ at + 1 → IsHonest (meaning d.device) → bodies_with key (sent_to (meaning d'.device).shelf d' bay'.queue) ≡ bodies_with key (sent_to (meaning d.device).shelf d bay.queue))
    → BodiesStay meaning w w' drive key
bodies_in_bay {D} meaning w w' at bay bay' d d' drive key c sent place other o online honest =
    elim (online_after w w' drive at bay' d' c.bays c.online_now place other o online) [
      | inl p ↦
          let now : IsHonestAt meaning w' at bay' d' = subst (λ n. IsHonestAt meaning w' n bay' d') p.0
          (subst (λ b. IsHonestAt meaning w' place b d') p.1 (subst (λ z. IsHonestAt meaning w' place other z) p.2 honest)) in
          let was = c.here now in
          record {
            at = at;
            bay = bay;
            d = d;
            online = record { number = online.number ∙ ap (λ n. n + 1) p.0; there = c.there; online = c.online };
            honest = was;
            sent_is = sym (sent (online.number ∙ ap (λ n. n + 1) p.0) was.device)
                ∙ ap₂ (λ (z : DriveIs D) (b : BayView D). bodies_with key (sent_to (meaning z.device).shelf z b.queue)) (sym p.2) (sym p.1);
          }
      | inr p ↦ record {
        at = place;
        bay = other;
        d = o;
        online = p.1;
        honest = c.elsewhere place other o p.0 honest;
        sent_is = refl;
      }
    ]

-- what of a session is not yet on its volume
abbrev pub IsUnsettled : {D : Type 0} → DriveIs D → LanesView → SessionKey → Type 0
IsUnsettled d queue key = IsOnTheWay d queue key ⊎ IsUnsynced d.journal key

pub outstanding_in_bay : {D : Type 0} (w w' : WorldView D) (at : ℕ) (bay bay' : BayView D) (d d' : DriveIs D) (x : WorldSession)
    → slice_get w.bays at ≡ Some bay → bay.drive ≡ Some d → w'.bays ≡ slice_set w.bays at bay' → bay'.drive ≡ Some d'
    → (x.drive ≡ at + 1 → IsUnsettled d' bay'.queue x.session.key → IsUnsettled d bay.queue x.session.key) → IsOutstanding w' x → IsOutstanding w x
outstanding_in_bay w w' at bay bay' d d' x there on bays now settle (inl parts) = inl parts
outstanding_in_bay {D} w w' at bay bay' d d' x there on bays now settle (inr out) =
    elim (online_after w w' x.drive at bay' d' bays now out.0 out.1 out.2 out.3) [
      | inl p ↦ inr (
        at,
        bay,
        d,
        record { number = out.3.number ∙ ap (λ n. n + 1) p.0; there = there; online = on },
        settle (out.3.number ∙ ap (λ n. n + 1) p.0) (subst (λ (z : DriveIs D). IsUnsettled z bay'.queue x.session.key) p.2 (subst (λ (b : BayView D). IsUnsettled out.2 b.queue x.session.key) p.1 out.4)),
      )
      | inr p ↦ inr (out.0, out.1, out.2, p.1, out.4)
    ]

pub frame_in_bay : {D : Type 0} (meaning : D → Meaning) (w w' : WorldView D) (at : ℕ) (bay bay' : BayView D) (d d' : DriveIs D) (x : WorldSession)
    → BayChange meaning w w' at bay bay' d d'
    → (x.drive ≡ at + 1 → IsHonest (meaning d.device) → bodies_with x.session.key (sent_to (meaning d'.device).shelf d' bay'.queue) ≡ bodies_with x.session.key (sent_to (meaning d.device).shelf d bay.queue))
    → (x.drive ≡ at + 1 → IsUnsettled d' bay'.queue x.session.key → IsUnsettled d bay.queue x.session.key) → Framed meaning w w' x
frame_in_bay meaning w w' at bay bay' d d' x c sent settle = record {
  bodies = bodies_in_bay meaning w w' at bay bay' d d' x.drive x.session.key c sent;
  outstanding = outstanding_in_bay w w' at bay bay' d d' x c.there c.online c.bays c.online_now settle;
}
