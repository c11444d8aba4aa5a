-- The volumes of a session's spans are claimed for its drive.
use Rattle.std.proofs.Common.{◌≡◌, ℕ, true, false, if◌then◌else◌, Some, List, [], ◌∷◌, ◌++◌, ap, sym, subst, ◌∙◌, arith, slice_get, append-nil}
use Rattle.std.specs.List.{AllByRecursion}
use Rattle.sd_base.specs.Key.{is_key}
use Rattle.sd_base.specs.declared.number.SessionKey.{SessionKey}
use Rattle.sd_desk.specs.Desk.{claimed_by}
use Rattle.sd_driver.specs.Meaning.{Meaning}
use Rattle.sd_drive.specs.Shelf.{Kept, LiesOn}
use Rattle.sd_drive.specs.View.{DriveIs}
use Rattle.sd_journal.specs.Journal.{Entry, placements}
use Rattle.sd_world.proofs.EndLemmas.{spans_all}
use Rattle.sd_span.specs.Spans.{placements_of, spans_of}
use Rattle.sd_span.specs.declared.placement.Placement.{Placement}
use Rattle.sd_span.specs.declared.span.Span.{Span}
use Rattle.sd_volume.specs.Volume.{VolumeView}
use Rattle.sd_world.specs.World.{WorldView, BayView, IsOnline}
use Rattle.sd_world.specs.Kept.{IsClosedAt}
use Rattle.sd_world.specs.Rules.{IsWorld}
use Rattle.sd_world.specs.Stays.{AreClaimed}

-- what is so of where each entry lies is so of each placement
all_lie : (P : Placement → Type 0) (volumes : List VolumeView) (es : List Entry) → ((e : Entry) → LiesOn volumes e → P e.placement)
    → AllByRecursion (LiesOn volumes) es → AllByRecursion P (placements es)
all_lie P volumes [] each all = tt
all_lie P volumes (e ∷ es) each all = (each e all.0, all_lie P volumes es each all.1)

-- and of those of a session among the first
own_front : (P : Placement → Type 0) (key : SessionKey) (ps more : List Placement) → AllByRecursion P (ps ++ more) → AllByRecursion P (placements_of key ps)
own_front P key [] more all = tt
own_front P key (p ∷ ps) more all =
    elim (is_key key p.key) as (λ own. AllByRecursion P (if own then p ∷ placements_of key ps else placements_of key ps)) [
      | true ↦ (all.0, own_front P key ps more all.1)
      | false ↦ own_front P key ps more all.1
    ]

pub placed_is_found : {D : Type 0} (meaning : D → Meaning) (w : WorldView D) (key : SessionKey) (drive at : ℕ) (bay : BayView D) (d : DriveIs D) (ps more : List Placement)
    → IsWorld w → IsOnline w drive at bay d → Kept (meaning d.device) d.volumes d.loaded d.journal → placements d.journal ≡ ps ++ more → AreClaimed w.desk drive (spans_of key ps)
placed_is_found meaning w key drive at bay d ps more h online kept split =
    let Claimed : Placement → Type 0 = λ p. claimed_by w.desk p.volume ≡ Some drive in
    let lie = all_lie Claimed d.volumes d.journal
    (λ e lies. ap (claimed_by w.desk) lies.name_is ∙ (h.bays at bay online.there).claimed d online.online lies.at lies.volume lies.there ∙ ap Some (sym online.number))
    kept.lie in
    spans_all (λ name end. claimed_by w.desk name ≡ Some drive) key ps (own_front Claimed key ps more (subst (AllByRecursion Claimed) split lie))

-- The drive of a closed session.

-- a drive of one number is one drive
pub one_drive : {D : Type 0} (w : WorldView D) (drive at other : ℕ) (bay b : BayView D) (d x : DriveIs D) → IsOnline w drive at bay d → IsOnline w drive other b x → x ≡ d
one_drive {D} w drive at other bay b d x online is =
    let here : other ≡ at = omega (arith, online.number, is.number) in
    let same : b ≡ bay = cc (sym is.there ∙ ap (slice_get w.bays) here ∙ online.there) in
    cc (sym is.online ∙ ap (λ (y : BayView D). y.drive) same ∙ online.online)

-- a closed session's spans are those of its drive's journal
pub closed_spans : {D : Type 0} (w : WorldView D) (key : SessionKey) (spans : List Span) (at : ℕ) (bay : BayView D) (d : DriveIs D) → (c : IsClosedAt w key spans)
    → IsOnline w c.e.drive at bay d → spans ≡ spans_of key (placements d.journal)
closed_spans {D} w key spans at bay d c online =
    let is = c.holds.1 in
    is.4 ∙ ap (λ k. spans_of k (placements is.2.journal)) c.key_is
    ∙ ap (λ (y : DriveIs D). spans_of key (placements y.journal)) (one_drive w c.e.drive at is.0 bay is.1 d is.2 online is.3)

pub closed_is_found : {D : Type 0} (meaning : D → Meaning) (w : WorldView D) (key : SessionKey) (spans : List Span) (at : ℕ) (bay : BayView D) (d : DriveIs D)
    → IsWorld w → (c : IsClosedAt w key spans) → IsOnline w c.e.drive at bay d → Kept (meaning d.device) d.volumes d.loaded d.journal → AreClaimed w.desk c.e.drive spans
closed_is_found meaning w key spans at bay d h c online kept =
    let ps = placements d.journal in
    subst (AreClaimed w.desk c.e.drive) (sym (closed_spans w key spans at bay d c online))
    (placed_is_found meaning w key c.e.drive at bay d ps [] h online kept (sym (append-nil ps)))
