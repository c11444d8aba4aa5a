-- Which lanes are free, seen from the sessions that used them last.
use Rattle.std.proofs.Common.{◌≡◌, ℕ, ◌+◌, ◌<◌, ◌==◌, Bool, sym, ap, ◌∙◌, Option, Some, List, [], ◌∷◌, ◌++◌, length, take, get_or, true}
use Rattle.std.proofs.lemmas.List.{take_more, map-append}
use Rattle.std.specs.Option.{option_map_or}
use Rattle.sd_base.specs.declared.number.SessionKey.{SessionKey}
use Rattle.sd_journal.specs.Journal.{Entry, placed_of, progress_of}
use Rattle.sd_span.specs.declared.progress.Progress.{Progress}
use Rattle.sd_session.specs.Session.{SessionView}
use Rattle.sd_session.specs.declared.status.Status.{Status}
use Rattle.sd_world.specs.World.{WorldSession, LaneView, session_at, leaves_lane, is_done, lane_is_free, free_lanes}

-- a lane is free as the session that used it last tells
pub lane_tells : (es : List WorldSession) (journal : List Entry) (holder : Option ℕ) (ticket : ℕ) (e : WorldSession) (free : Bool)
    → holder ≡ Some ticket → session_at ticket es ≡ Some e → free ≡ is_done journal e.session → free ≡ lane_is_free es journal holder
lane_tells es journal holder ticket e free held found done =
    done ∙ sym (ap (lane_is_free es journal) held ∙ ap (λ o. option_map_or (λ (e : WorldSession). is_done journal e.session) o true) found)

-- what the status alone tells
pub status_tells : (journal : List Entry) (s : SessionView) (status : Status) (free : Bool) → s.status ≡ status
    → ((placed : Bool) → leaves_lane status placed ≡ free) → free ≡ is_done journal s
status_tells journal s status free is tells =
    sym (ap (λ x. leaves_lane x (s.sent == placed_of s.key journal)) is ∙ tells (s.sent == placed_of s.key journal))

-- what the placed pieces tell
pub placed_tells : (journal : List Entry) (s : SessionView) (status : Status) (sent : ℕ) (key : SessionKey) (progress : Progress) → s.status ≡ status
    → ((placed : Bool) → leaves_lane status placed ≡ placed) → sent ≡ s.sent → key ≡ s.key → progress ≡ progress_of key journal
    → (sent == progress.placed) ≡ is_done journal s
placed_tells journal s status sent key progress is tells sent_is key_is progress_is =
    ap (λ n. n == progress.placed) sent_is ∙ ap (λ (p : Progress). s.sent == p.placed) progress_is ∙ ap (λ k. s.sent == placed_of k journal) key_is
    ∙ sym (ap (λ x. leaves_lane x (s.sent == placed_of s.key journal)) is ∙ tells (s.sent == placed_of s.key journal))

-- the answers for the lanes so far, and the next one's, are those for one lane more
pub frees_more : (es : List WorldSession) (journal : List Entry) (lanes : List LaneView) (n : ℕ) (lane : LaneView) (free : Bool) (frees after : List Bool)
    → frees ≡ free_lanes es journal (take n lanes) → lane ≡ get_or lanes n lane → n < length lanes → free ≡ lane_is_free es journal lane.holder
    → after ≡ frees ++ free ∷ [] → after ≡ free_lanes es journal (take (n + 1) lanes)
frees_more es journal lanes n lane free frees after told read within is more =
    let tells : LaneView → Bool = λ l. lane_is_free es journal l.holder in
    more ∙ ap (λ (l : List Bool). l ++ free ∷ []) told ∙ ap (λ b. free_lanes es journal (take n lanes) ++ b ∷ []) (is ∙ ap tells read)
    ∙ sym (ap (free_lanes es journal) (take_more lanes n lane within) ∙ map-append tells (take n lanes) (get_or lanes n lane ∷ []))
