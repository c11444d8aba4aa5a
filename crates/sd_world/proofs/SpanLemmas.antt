-- A closed session has a span at least.
use Rattle.std.proofs.Common.{◌≡◌, ◌≢◌, ℕ, ◌≤◌, Bool, true, false, if◌then◌else◌, sym, ap, ◌∙◌, arith, Some, List, [], ◌∷◌, length, slice_get}
use Rattle.std.specs.Str.{bytes_eq}
use Rattle.sd_base.specs.declared.number.SessionKey.{SessionKey}
use Rattle.sd_base.specs.FileIndex.{first_nonzero}
use Rattle.sd_journal.specs.Journal.{placements, placed_of}
use Rattle.sd_span.specs.Spans.{placements_of, stretch_of, in_front, stretches, numbered_from}
use Rattle.sd_span.specs.declared.placement.Placement.{Placement}
use Rattle.sd_span.specs.declared.span.Span.{Span}
use Rattle.sd_world.specs.World.{WorldView, BayView}
use Rattle.sd_world.specs.Rules.{IsWorld}
use Rattle.sd_world.specs.Kept.{IsClosedAt}

-- one of two stretches is there, whichever is meant
either_some : (b : Bool) (s t : Span) (ss ts : List Span) → (if b then s ∷ ss else t ∷ ts) ≢ []
either_some true s t ss ts = λ none. cc
either_some false s t ss ts = λ none. cc

in_front_some : (p : Placement) (ss : List Span) → in_front p ss ≢ []
in_front_some p [] = λ none. cc
in_front_some p (s ∷ ss) =
    either_some (bytes_eq p.volume s.volume) (record s { first = first_nonzero p.first s.first; last = first_nonzero s.last p.last; start = p.start }) (stretch_of p) ss (s ∷ ss)

numbered_some : (index : ℕ) (ss : List Span) → ss ≢ [] → numbered_from index ss ≢ []
numbered_some index [] some = λ none. some none
numbered_some index (s ∷ ss) some = λ none. cc

-- placements have a stretch
stretches_some : (ps : List Placement) → 1 ≤ length ps → stretches ps ≢ []
stretches_some [] one = omega arith
stretches_some (p ∷ ps) one = in_front_some p (stretches ps)

pub closed_has_span : {D : Type 0} (w : WorldView D) (key : SessionKey) (spans : List Span) → IsWorld w → IsClosedAt w key spans → spans ≢ []
closed_has_span {D} w key spans h c none =
    let s = c.holds.1 in
    let own = c.e.session.key in
    let seat = h.seated key.id c.e c.there in
    let at : seat.at ≡ s.0 = omega (arith, seat.drive_is, s.3.number) in
    let here : seat.bay ≡ s.1 = cc (sym seat.bay_there ∙ ap (slice_get w.bays) at ∙ s.3.there) in
    let on : seat.bay.drive ≡ Some s.2 = ap (λ (b : BayView D). b.drive) here ∙ s.3.online in
    let placed : placed_of own s.2.journal ≡ c.e.session.sent = seat.closed c.holds.0 s.2 on in
    let some = seat.some_sent c.holds.0 in
    let one : 1 ≤ length (placements_of own (placements s.2.journal)) = omega (arith, placed, some) in
    numbered_some 1 (stretches (placements_of own (placements s.2.journal))) (stretches_some (placements_of own (placements s.2.journal)) one) (sym s.4 ∙ none)
