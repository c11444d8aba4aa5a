-- If a store that a session has is honest now, it was before.
use Rattle.std.specs.Prelude.{IsTrue}
use Rattle.std.proofs.Common.{◌≡◌, ℕ, ◌+◌, ◌==◌, cond, refl, sym, ap, subst, ◌∙◌, inl, inr, true, false, Bool, Some, List, [], ◌∷◌, slice_get}
use Rattle.sd_base.specs.declared.number.SessionKey.{SessionKey}
use Rattle.sd_driver.specs.Meaning.{Meaning}
use Rattle.sd_drive.specs.View.{DriveIs}
use Rattle.sd_session.specs.Session.{SessionView, FailsSession, store_of}
use Rattle.sd_world.specs.World.{WorldView, WorldSession, BayView, session_at, with_session}
use Rattle.sd_world.specs.Drives.{FailsWhere, FailExactly}
use Rattle.sd_world.proofs.Lookups.{one_or_two, session_at-same, session_at-other}
use Rattle.sd_world.specs.Honest.{StoreIsTrue}
use Rattle.sd_world.specs.Matches.{IsHonestAt}
use Rattle.sd_world.proofs.Frames.{HonestBack}

-- the stores of the sessions at a drive are honest
abbrev pub AreTrueAt : List WorldSession → ℕ → Type 0
AreTrueAt es at = (ticket : ℕ) (e : WorldSession) → session_at ticket es ≡ Some e → e.drive ≡ at + 1 → StoreIsTrue (store_of e.session)

-- they were, if they are now
abbrev pub StoresBack : List WorldSession → List WorldSession → Type 0
StoresBack es es' = (at : ℕ) → AreTrueAt es' at → AreTrueAt es at

pub with_stores : (es : List WorldSession) (ticket : ℕ) (e f : WorldSession) → session_at ticket es ≡ Some e → f.session.key.id ≡ ticket → f.drive ≡ e.drive
    → (StoreIsTrue (store_of f.session) → StoreIsTrue (store_of e.session)) → StoresBack es (with_session f es)
with_stores es ticket e f there id drive back at h t x here on = elim (one_or_two t ticket) [
  | inl same ↦
      let is : e ≡ x = cc (sym there ∙ ap (λ n. session_at n es) (sym same) ∙ here) in
      subst (λ (z : WorldSession). StoreIsTrue (store_of z.session)) is
      (back (h ticket f (session_at-same ticket f es e there id) (drive ∙ ap (λ (z : WorldSession). z.drive) is ∙ on)))
  | inr apart ↦ h t x (session_at-other t f es (λ p. apart (sym p ∙ id)) ∙ here) on
]

-- what a session keeps that fails or stays
pub record FailKeeps (e e' : WorldSession) : Type 0 where
  pub key_is : e'.session.key ≡ e.session.key
  pub drive_is : e'.drive ≡ e.drive
  pub store_is : store_of e'.session ≡ store_of e.session

fails_keeps : (s s' : SessionView) (drive : ℕ) → FailsSession s s' → FailKeeps (record { session = s; drive = drive }) (record { session = s'; drive = drive })
fails_keeps s s' drive (inl h) = record {
  key_is = ap (λ (v : SessionView). v.key) h.1.is;
  drive_is = refl;
  store_is = ap store_of h.1.is;
}
fails_keeps s s' drive (inr h) = record { key_is = ap (λ (v : SessionView). v.key) h.1; drive_is = refl; store_is = ap store_of h.1 }

pub fail_keeps : (b : Bool) (e e' : WorldSession) → FailsWhere b e e' → FailKeeps e e'
fail_keeps true e e' h = subst (FailKeeps e) (sym h.2) (fails_keeps e.session h.0 e.drive h.1)
fail_keeps false e e' h = subst (FailKeeps e) (sym h) (record { key_is = refl; drive_is = refl; store_is = refl })

-- the session of a ticket after some failed
failed_at : (loses : WorldSession → Bool) (es es' : List WorldSession) (t : ℕ) (x : WorldSession) → FailExactly loses es es' → session_at t es ≡ Some x
    → (y : WorldSession) × (session_at t es' ≡ Some y) × FailKeeps x y
failed_at loses [] [] t x h at = absurd (cc at)
failed_at loses [] (y ∷ es') t x h at = absurd h
failed_at loses (z ∷ es) [] t x h at = absurd h
failed_at loses (z ∷ es) (y ∷ es') t x h at =
    let keeps = fail_keeps (loses z) z y h.0 in
    subst (λ (id : ℕ). (u : WorldSession) × (cond (id == t) (Some y) (session_at t es') ≡ Some u) × FailKeeps x u)
    (sym (ap (λ (k : SessionKey). k.id) keeps.key_is))
    ((elim (z.session.key.id == t) as (λ b. cond b (Some z) (session_at t es) ≡ Some x → (u : WorldSession) × (cond b (Some y) (session_at t es') ≡ Some u) × FailKeeps x u) [
      | true ↦ λ here. (y, refl, (let is : z ≡ x = cc here in subst (λ v. FailKeeps v y) is keeps))
      | false ↦ λ later. failed_at loses es es' t x h.1 later
    ]) at)

pub fail_stores : (loses : WorldSession → Bool) (es es' : List WorldSession) → FailExactly loses es es' → StoresBack es es'
fail_stores loses es es' h at honest t x here on =
    let f = failed_at loses es es' t x h here in
    subst StoreIsTrue f.2.store_is (honest t f.0 f.1 (f.2.drive_is ∙ on))

-- honesty that was there before, in a world with other sessions
pub honest_back : {D : Type 0} (meaning : D → Meaning) (w w' : WorldView D) → StoresBack w.sessions w'.sessions → HonestBack meaning w w'
honest_back meaning w w' stores at bay d h = record { device = h.device; lanes = h.lanes; sessions = stores at h.sessions }

-- and in a bay with another drive, whose device is as honest as that one's
pub honest_here : {D : Type 0} (meaning : D → Meaning) (w w' : WorldView D) (at : ℕ) (bay bay' : BayView D) (d d' : DriveIs D) → StoresBack w.sessions w'.sessions
    → bay'.lanes ≡ bay.lanes → (meaning d'.device).honest ≡ (meaning d.device).honest → IsHonestAt meaning w' at bay' d' → IsHonestAt meaning w at bay d
honest_here meaning w w' at bay bay' d d' stores lanes honest h = record {
  device = subst IsTrue honest h.device;
  lanes = λ place lane there. h.lanes place lane (ap (λ ls. slice_get ls place) lanes ∙ there);
  sessions = stores at h.sessions;
}
