-- Closed sessions stay closed while no volume of their spans is purged, and a run that purged none notes none as purged.
use Rattle.std.proofs.Common.{◌≡◌, ◌≢◌, ℕ, ◌+◌, refl, sym, ap, subst, ◌∙◌, inl, inr, arith, true, false, true≢false, Bool, Option, Some, None, List, [], ◌∷◌, slice_get}
use Rattle.std.specs.Prelude.{◌||◌}
use Rattle.std.specs.List.{AllByRecursion, list_any}
use Rattle.std.specs.Option.{option_map}
use Rattle.std.specs.Str.{bytes_eq}
use Rattle.std.proofs.lemmas.List.Elements.{recursion_from_All}
use Rattle.std.proofs.lemmas.Slice.Eq.{bytes_eq-Decides}
use Rattle.sd_base.specs.declared.number.SessionKey.{SessionKey}
use Rattle.sd_desk.specs.Desk.{claim_of, claimed_by, is_purged_at, tells_purged}
use Rattle.sd_desk.specs.declared.claim.Claim.{Claim}
use Rattle.sd_driver.specs.Meaning.{Meaning}
use Rattle.sd_drive.specs.View.{DriveIs}
use Rattle.sd_journal.specs.Journal.{Entry, placements, has_on}
use Rattle.sd_journal.proofs.ShareLemmas.{stretches_on}
use Rattle.sd_machine.specs.declared.event.Event.{Event}
use Rattle.sd_machine.specs.declared.event.Event.TheVariants.{Purge}
use Rattle.sd_machine.specs.declared.reply.Reply.{Reply}
use Rattle.sd_session.specs.declared.status.Status.TheVariants.{Closed as IsClosed}
use Rattle.sd_span.specs.Spans.{placements_of, stretches, numbered_from, spans_of}
use Rattle.sd_span.specs.declared.span.Span.{Span}
use Rattle.sd_world.specs.Fails.{VolumeWasPurged}
use Rattle.sd_world.specs.Kept.{PurgesName}
use Rattle.sd_world.specs.World.{WorldView, WorldSession, BayView, session_at}
use Rattle.sd_world.proofs.PurgedByCause.{purged_by_cause}
use Rattle.sd_world.specs.Deeds.{Deed, Answered, ReadBack, LeadsTo, NonePurges}
use Rattle.sd_world.specs.Reading.{ReadsWorld, any_purged_at}
use Rattle.sd_world.specs.Stands.{StandsClosed}
use Rattle.sd_world.specs.Steps.{IsSound, IsStep}
use Rattle.sd_world.proofs.ClaimLemmas.{one_drive}
use Rattle.sd_world.proofs.DeedLemmas.{leads_keep}
use Rattle.sd_world.proofs.StandLemmas.{steps_keep_spans}
use Rattle.sd_theorem.specs.Runs.{NonePurgesOf}

-- Volumes of spans.

-- numbers change no volume
numbered_on : (name : List ℕ) (index : ℕ) (ss : List Span) → list_any (λ (s : Span). bytes_eq s.volume name) (numbered_from index ss) ≡ list_any (λ (s : Span). bytes_eq s.volume name) ss
numbered_on name index [] = refl
numbered_on name index (s ∷ ss) = ap (λ b. bytes_eq s.volume name || b) (numbered_on name (index + 1) ss)

-- a session has a block on a volume if one of its spans is on it
spans_on : (key : SessionKey) (name : List ℕ) (es : List Entry) → list_any (λ (s : Span). bytes_eq s.volume name) (spans_of key (placements es)) ≡ has_on key name es
spans_on key name es =
    numbered_on name 1 (stretches (placements_of key (placements es))) ∙ stretches_on name (placements_of key (placements es))

either_none : (a b : Bool) → a ≡ false → b ≡ false → (a || b) ≡ false
either_none true b one other = one
either_none false b one other = other

none_on : (name : List ℕ) (ss : List Span) → AllByRecursion (λ (s : Span). s.volume ≢ name) ss → list_any (λ (s : Span). bytes_eq s.volume name) ss ≡ false
none_on name [] all = refl
none_on name (s ∷ ss) all = either_none (bytes_eq s.volume name) (list_any (λ (x : Span). bytes_eq x.volume name) ss) (apart (bytes_eq s.volume name) refl) (none_on name ss all.1)
  where
    apart : (b : Bool) → bytes_eq s.volume name ≡ b → b ≡ false
    apart true is = absurd (all.0 ((bytes_eq-Decides s.volume name).0 is))
    apart false is = refl

-- Steps.

-- the event that purged a volume of the session purged it by its name
purges_it : {D : Type 0} (w : WorldView D) (event : Event) (reply : Reply) (e : WorldSession) → (v : VolumeWasPurged w event reply e) → PurgesName event reply v.name
purges_it w event reply e v =
    let P : Event → Reply → Type 0 = λ x r. PurgesName x r v.name in
    subst (λ x. P x reply) (sym v.of_purge) (elim v.answer [
      | inl is ↦ subst (P (Purge e.drive v.name)) (sym is) refl
      | inr is ↦ subst (P (Purge e.drive v.name)) (sym is) refl
    ])

-- an event purges one volume
purges_one : (event : Event) (reply : Reply) (name other : List ℕ) → PurgesName event reply name → name ≡ other → PurgesName event reply other
purges_one event reply name other purges same = subst (PurgesName event reply) same purges

-- a volume that holds a block of the session, and was purged, is that of a span
not_purged : {D : Type 0} (w : WorldView D) (event : Event) (reply : Reply) (key : SessionKey) (spans : List Span) → (s : StandsClosed w key spans)
    → AllByRecursion (λ (x : Span). PurgesName event reply x.volume → ⊥) spans → VolumeWasPurged w event reply s.e → ⊥
not_purged {D} w event reply key spans s none v =
    let here : PurgesName event reply v.name = purges_it w event reply s.e v in
    let apart = apart_from event reply v.name spans here none in
    elim s.holds.3 [
      | inl at ↦ (
          let d : at.2 ≡ v.d = one_drive w s.e.drive v.at at.0 v.bay at.1 v.d at.2 v.online at.3 in
          let on : list_any (λ (x : Span). bytes_eq x.volume v.name) spans ≡ true =
          ap (list_any (λ (x : Span). bytes_eq x.volume v.name)) at.4 ∙ spans_on s.e.session.key v.name at.2.journal
          ∙ ap (λ (x : DriveIs D). has_on s.e.session.key v.name x.journal) d ∙ v.on in
          true≢false (sym on ∙ none_on v.name spans apart))
      | inr off ↦ (
          let place : off.0 ≡ v.at = omega (arith, off.2, v.online.number) in
          let bay : off.1 ≡ v.bay = cc (sym off.3 ∙ ap (slice_get w.bays) place ∙ v.online.there) in
          cc (sym off.4 ∙ ap (λ (b : BayView D). b.drive) bay ∙ v.online.online))
    ]
  where
    apart_from : (event : Event) (reply : Reply) (name : List ℕ) (ss : List Span) → PurgesName event reply name
        → AllByRecursion (λ (x : Span). PurgesName event reply x.volume → ⊥) ss → AllByRecursion (λ (x : Span). x.volume ≢ name) ss
    apart_from event reply name [] here none = tt
    apart_from event reply name (x ∷ ss) here none = ((λ is. none.0 (purges_one event reply name x.volume here (sym is))), apart_from event reply name ss here none.1)

step_closed : {D : Type 0} (meaning : D → Meaning) (w w' : WorldView D) (event : Event) (reply : Reply) (key : SessionKey) (spans : List Span) → IsSound meaning w
    → IsStep meaning w event reply w' → (s : StandsClosed w key spans) → s.e.session.status ≡ IsClosed → AllByRecursion (λ (x : Span). PurgesName event reply x.volume → ⊥) spans
    → (t : StandsClosed w' key spans) × (t.e.session.status ≡ IsClosed)
step_closed meaning w w' event reply key spans sound step s closed none =
    let t = (steps_keep_spans meaning w w' event reply sound step).closed_last key spans s in
    let cause = purged_by_cause meaning w w' event reply sound.rules step.moves key.id s.e t.e s.there t.there (λ purged. cc (sym closed ∙ purged)) in
    elim t.holds.0 [
      | inl is ↦ (t, is)
      | inr is ↦ absurd (not_purged w event reply key spans s none (cause.0 is))
    ]

-- Deeds.

read_closed : {D : Type 0} (meaning : D → Meaning) (w w' : WorldView D) (key : SessionKey) (spans : List Span) → IsSound meaning w → (deed : Deed) → LeadsTo meaning w (deed ∷ []) w'
    → w'.sessions ≡ w.sessions → (s : StandsClosed w key spans) → s.e.session.status ≡ IsClosed → (t : StandsClosed w' key spans) × (t.e.session.status ≡ IsClosed)
read_closed meaning w w' key spans sound deed leads same s closed =
    let t = (leads_keep meaning w w' (deed ∷ []) sound leads).1.closed key spans s in
    let one : t.e ≡ s.e = cc (sym t.there ∙ ap (session_at key.id) same ∙ s.there) in
    (t, ap (λ (e : WorldSession). e.session.status) one ∙ closed)

-- a read changes no session
read_sessions : {D : Type 0} (meaning : D → Meaning) (w w' : WorldView D) (key : SessionKey) (spans : List Span) (got got' : _) (result : _)
    → ReadsWorld meaning key spans got got' result w w' → w'.sessions ≡ w.sessions
read_sessions {D} meaning w w' key spans got got' result (inl r) = ap (λ (x : WorldView D). x.sessions) r.4
read_sessions {D} meaning w w' key spans got got' result (inr r) = ap (λ (x : WorldView D). x.sessions) r.8

still_closed_of : {D : Type 0} (meaning : D → Meaning) (w w' : WorldView D) (deeds : List Deed) (key : SessionKey) (spans : List Span) → IsSound meaning w → LeadsTo meaning w deeds w'
    → (s : StandsClosed w key spans) → s.e.session.status ≡ IsClosed → AllByRecursion (λ (x : Span). NonePurges deeds x.volume) spans
    → (t : StandsClosed w' key spans) × (t.e.session.status ≡ IsClosed)
still_closed_of {D} meaning w w' [] key spans sound same s closed none =
    subst (λ (x : WorldView D). (t : StandsClosed x key spans) × (t.e.session.status ≡ IsClosed)) (sym same) (s, closed)
still_closed_of meaning w w' (Answered event reply ∷ deeds) key spans sound leads s closed none =
    let t = step_closed meaning w leads.0 event reply key spans sound leads.1 s closed (firsts spans none) in
    still_closed_of meaning leads.0 w' deeds key spans leads.1.sound leads.2 t.0 t.1 (others spans none)
  where
    firsts : (ss : List Span) → AllByRecursion (λ (x : Span). NonePurges (Answered event reply ∷ deeds) x.volume) ss → AllByRecursion (λ (x : Span). PurgesName event reply x.volume → ⊥) ss
    firsts [] all = tt
    firsts (x ∷ ss) all = (all.0.0, firsts ss all.1)

    others : (ss : List Span) → AllByRecursion (λ (x : Span). NonePurges (Answered event reply ∷ deeds) x.volume) ss → AllByRecursion (λ (x : Span). NonePurges deeds x.volume) ss
    others [] all = tt
    others (x ∷ ss) all = (all.0.1, others ss all.1)
still_closed_of meaning w w' (ReadBack k ss got got' result ∷ deeds) key spans sound leads s closed none =
    let t = read_closed meaning w leads.0 key spans sound (ReadBack k ss got got' result) (leads.0, leads.1, refl) (read_sessions meaning w leads.0 k ss got got' result leads.1.reads) s closed in
    still_closed_of meaning leads.0 w' deeds key spans leads.1.sound leads.2 t.0 t.1 none

-- a closed session is still closed if no deed purged a volume of its spans
pub still_closed : {D : Type 0} (meaning : D → Meaning) (w w' : WorldView D) (deeds : List Deed) (key : SessionKey) (spans : List Span) → IsSound meaning w → LeadsTo meaning w deeds w'
    → (s : StandsClosed w key spans) → s.e.session.status ≡ IsClosed → NonePurgesOf spans deeds → (t : StandsClosed w' key spans) × (t.e.session.status ≡ IsClosed)
still_closed meaning w w' deeds key spans sound leads s closed none =
    still_closed_of meaning w w' deeds key spans sound leads s closed (recursion_from_All (λ (x : Span). NonePurges deeds x.volume) spans none)

-- Runs.

-- what isn't claimed isn't noted as purged
unclaimed : (o : Option Claim) → option_map (λ (c : Claim). c.drive) o ≡ None → tells_purged o ≡ true → ⊥
unclaimed None none purged = cc purged
unclaimed (Some claim) none purged = cc none

-- a run that began with no claim, and purged no volume of the spans, notes none of them as purged
pub none_noted : {D : Type 0} (meaning : D → Meaning) (first w : WorldView D) (deeds : List Deed) (spans : List Span) → IsSound meaning first → LeadsTo meaning first deeds w
    → ((name : List ℕ) → claimed_by first.desk name ≡ None) → NonePurgesOf spans deeds → any_purged_at w.desk spans ≡ false
none_noted meaning first w deeds spans sound leads no_claim none = noted spans (recursion_from_All (λ (x : Span). NonePurges deeds x.volume) spans none)
  where
    noted : (ss : List Span) → AllByRecursion (λ (x : Span). NonePurges deeds x.volume) ss → any_purged_at w.desk ss ≡ false
    noted [] all = refl
    noted (x ∷ ss) all = either_none (is_purged_at w.desk x.volume) (any_purged_at w.desk ss) (here (is_purged_at w.desk x.volume) refl) (noted ss all.1)
      where
        here : (b : Bool) → is_purged_at w.desk x.volume ≡ b → b ≡ false
        here true is =
            absurd (unclaimed (claim_of first.desk x.volume) (no_claim x.volume) ((leads_keep meaning first w deeds sound leads).1.unpurged x.volume all.0 is))
        here false is = refl
