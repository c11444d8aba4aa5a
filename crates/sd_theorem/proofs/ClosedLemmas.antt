-- What a scan tells of closed sessions.
use Rattle.std.proofs.Common.{◌≡◌, ◌≢◌, if◌then◌else◌, ◌&&◌, ℕ, ◌+◌, Bool, true, false, true≢false, inl, inr, Some, List, [], ◌∷◌, ◌++◌, All, map, take, append-nil, refl, sym, ap, subst, ◌∙◌, arith, slice_get}
use Rattle.std.proofs.lemmas.Bool.{or_parts}
use Rattle.std.proofs.lemmas.List.Elements.{All-append, All-from_recursion, All-head, All-nil, All-tail, recursion_from_All}
use Rattle.std.specs.List.{AllByRecursion}
use Rattle.sd_base.specs.Key.{is_key}
use Rattle.sd_base.specs.declared.number.SessionKey.{SessionKey}
use Rattle.sd_drive.specs.Shelf.{placements_on}
use Rattle.sd_drive.specs.View.{DriveIs, names}
use Rattle.sd_drive.proofs.Places.{some_is}
use Rattle.sd_driver.specs.Meaning.{Meaning}
use Rattle.sd_driver.specs.Shelf.{BeginsWith, Shelf}
use Rattle.sd_driver.proofs.Lasting.{BeginsWith-own_take}
use Rattle.sd_scan.specs.Found.{Found, blocks_in, bodies_of}
use Rattle.sd_journal.specs.Journal.{Entry, has_purged, is_purged, is_purged_of, live, placements}
use Rattle.sd_label.specs.Cutting.{AtEnd, Holds}
use Rattle.sd_machine.specs.Machine.{Machine, MachineSession, session_of}
use Rattle.sd_pack.specs.Packing.{bytes_of}
use Rattle.sd_readback.specs.Reading.{KeepSpans, blocks_of, bytes_of as held_bytes, volumes_on}
use Rattle.sd_readback.proofs.ReadingLemmas.{kept_read}
use Rattle.sd_world.proofs.EndLemmas.{spans_all}
use Rattle.sd_world.proofs.ReachLemmas.{of_if}
use Rattle.sd_scan.specs.Scan.{Scans, ScansVolumes}
use Rattle.sd_scan.specs.Volume.{ScansVolume}
use Rattle.sd_scan.specs.declared.told.Told.{Told}
use Rattle.sd_scan.specs.declared.told.Told.TheVariants as ways
use Rattle.sd_scan.specs.declared.outcome.Outcome.{Outcome}
use Rattle.sd_session.specs.Session.{parts_of}
use Rattle.sd_session.specs.declared.status.Status.{Status}
use Rattle.sd_session.specs.declared.status.Status.TheVariants.{Closed}
use Rattle.sd_span.specs.Spans.{numbered_from, placements_of, spans_of, stretches}
use Rattle.sd_span.specs.declared.placement.Placement.{Placement}
use Rattle.sd_span.specs.declared.span.Span.{Span}
use Rattle.sd_volume.specs.Volume.{VolumeView}
use Rattle.sd_world.specs.Kept.{IsClosedAt}
use Rattle.sd_world.specs.Matches.{HasBodies, Matches, bodies_with, sent_to}
use Rattle.sd_world.specs.Reads.{HasHonestDrive}
use Rattle.sd_world.specs.World.{BayView, WorldView}
use Rattle.sd_world.proofs.BodyLemmas.{all_synced, none_gone, none_of}
use Rattle.sd_world.proofs.ClaimLemmas.{closed_spans, one_drive}
use Rattle.sd_world.proofs.ReadLemmas.{closed_reads}
use Rattle.sd_world.proofs.Sent.{coming, packed_holds, placed_bodies, sent_are}
use Rattle.sd_world.proofs.Sessions.{found_session}
use Rattle.sd_theorem.specs.Closed.{HaveSession, IsComplete, ScanTellsClosed, ScanTellsSession}
use Rattle.sd_theorem.specs.Placed.{FindOwn, FindsOwn, SayIndexes, placements_over}
use Rattle.sd_theorem.proofs.PlacedLemmas.{AllOn, all_on, found_laid}
use Rattle.sd_theorem.proofs.FoundLemmas.{bytes_at, found_over}
use Rattle.sd_theorem.proofs.ReportLemmas.{Printed, printed, told_whole}
use Rattle.sd_theorem.proofs.SayLemmas.{placed_body, placed_own, placements_say}
use Rattle.sd_theorem.proofs.SpanLemmas.{scan_tells_spans}

-- ---- what is found on complete volumes

finds_own : (key : SessionKey) (shelf scanned : Shelf) (ps : List Placement) (v : VolumeView) (way : Told) (found : List Found) (due : List ℕ) (undamaged : Bool)
    → IsComplete key shelf scanned ps v → ScansVolume way scanned v.name found due undamaged → FindsOwn key shelf ps v found
finds_own key shelf scanned ps v way found due undamaged complete scans =
    let there = sym complete.bytes_are ∙ ap held_bytes scans.there in
    let on = found_laid shelf ps v scans.held.bytes found scans.end complete.laid there scans.finds in
    record {
      finds = on.finds;
      none_earlier = ap (blocks_of key) on.earlier_are ∙ complete.none_earlier;
      none_behind = complete.none_behind (blocks_in on.finds.behind) on.rest on.behind_are on.tail_is;
    }

find_own : (key : SessionKey) (shelf scanned : Shelf) (ps : List Placement) (vs : List VolumeView) (way : Told) (found : List Found) (due : List ℕ) (undamaged : Bool)
    → All (IsComplete key shelf scanned ps) vs → ScansVolumes way scanned (names vs) found due undamaged → FindOwn key shelf ps vs found
find_own key shelf scanned ps [] way found due undamaged complete scans = scans.0
find_own key shelf scanned ps (v ∷ vs) way found due undamaged complete (here, rest, first, behind, whole, others, one, more, all_are, due_is, undamaged_is) = (
  here,
  rest,
  all_are,
  finds_own key shelf scanned ps v way here first whole (All-head (IsComplete key shelf scanned ps) v vs complete) one,
  find_own key shelf scanned ps vs way rest behind others (All-tail (IsComplete key shelf scanned ps) v vs complete) more,
)

-- ---- what is kept of spans

-- what a volume has up to a place is scanned
abbrev IsScanned : Shelf → Shelf → List ℕ → ℕ → Type 0
IsScanned shelf scanned name end =
    (bytes : List ℕ) → volumes_on shelf name ≡ Some bytes → (after : List ℕ) × (volumes_on scanned name ≡ Some after) × BeginsWith after (take end bytes)

-- and so it is at each placement
abbrev AtPlace : Shelf → Shelf → Placement → Type 0
AtPlace shelf scanned p = IsScanned shelf scanned p.volume (p.start + p.length)

scanned_here : (shelf scanned : Shelf) (name : List ℕ) (end : ℕ) → volumes_on scanned name ≡ volumes_on shelf name → IsScanned shelf scanned name end
scanned_here shelf scanned name end same bytes there = (bytes, same ∙ there, BeginsWith-own_take bytes end)

scanned_on : (key : SessionKey) (shelf scanned : Shelf) (name : List ℕ) (ps : List Placement) → volumes_on scanned name ≡ volumes_on shelf name → AllOn name ps
    → AllByRecursion (AtPlace shelf scanned) (placements_of key ps)
scanned_on key shelf scanned name [] same on = tt
scanned_on key shelf scanned name (p ∷ ps) same on =
    let here = subst (λ n. IsScanned shelf scanned n (p.start + p.length)) (sym on.0) (scanned_here shelf scanned name (p.start + p.length) same) in
    let rest = scanned_on key shelf scanned name ps same on.1 in
    elim (is_key key p.key) as (λ b. AllByRecursion (AtPlace shelf scanned) (if b then p ∷ placements_of key ps else placements_of key ps)) [
      | true ↦ (here, rest)
      | false ↦ rest
    ]

scanned_over : (key : SessionKey) (shelf scanned : Shelf) (ps : List Placement) (vs : List VolumeView) → All (IsComplete key shelf scanned ps) vs
    → All (AtPlace shelf scanned) (placements_over key ps vs)
scanned_over key shelf scanned ps [] complete = All-nil (AtPlace shelf scanned)
scanned_over key shelf scanned ps (v ∷ vs) complete =
    let P = AtPlace shelf scanned in
    let one = All-head (IsComplete key shelf scanned ps) v vs complete in
    let here = scanned_on key shelf scanned v.name (placements_on v.name ps) one.bytes_are (all_on v.name ps) in
    All-append P (placements_of key (placements_on v.name ps)) (placements_over key ps vs) (All-from_recursion P (placements_of key (placements_on v.name ps)) here)
    (scanned_over key shelf scanned ps vs (All-tail (IsComplete key shelf scanned ps) v vs complete))

-- the spans of a session are scanned with all their bytes
spans_scanned : (key : SessionKey) (shelf scanned : Shelf) (ps : List Placement) (vs : List VolumeView) → HaveSession key shelf scanned ps vs
    → KeepSpans (spans_of key ps) (volumes_on shelf) (volumes_on scanned)
spans_scanned key shelf scanned ps vs have =
    let P = AtPlace shelf scanned in
    spans_all (IsScanned shelf scanned) key ps
    (recursion_from_All P (placements_of key ps) (subst (All P) have.in_order (scanned_over key shelf scanned ps vs have.complete)))

-- the spans of a session's placements are what is printed of it
spans_printed : (key : SessionKey) (shelf scanned : Shelf) (ps : List Placement) (vs : List VolumeView) (due : List ℕ) (outcome : Outcome) (spans : List Span)
    → HaveSession key shelf scanned ps vs → SayIndexes key shelf ps → spans_of key ps ≡ spans → spans ≢ [] → (scans : Scans ways.All scanned (names vs) due outcome)
    → Printed key scans.found spans due
spans_printed key shelf scanned ps vs due outcome spans have say are some scans =
    let found = find_own key shelf scanned ps vs ways.All scans.found scans.front scans.undamaged have.complete scans.volumes in
    let tells = scan_tells_spans key shelf ps scans.reports_are.placements vs scans.found found say have.in_order scans.reports_are.placements_are in
    printed scanned (names vs) due outcome key spans scans (tells ∙ are) some

-- ---- sessions of a world

-- the placements of a session of which no block is gone are all of its own
live_own : (key : SessionKey) (es : List Entry) → has_purged key es ≡ false → placements_of key (live es) ≡ placements_of key (placements es)
live_own key [] none = refl
live_own key (e ∷ es) none =
    let parts = or_parts (is_purged_of key e) (has_purged key es) none in
    from (is_purged e.mark) (is_key key e.placement.key) refl parts.0 (live_own key es parts.1)
  where
    from : (gone own : Bool) → is_key key e.placement.key ≡ own → (own && gone) ≡ false → placements_of key (live es) ≡ placements_of key (placements es)
        → placements_of key (if gone then live es else e.placement ∷ live es) ≡ placements_of key (e.placement ∷ placements es)
    from true true is kept rest = absurd (true≢false kept)
    from true false is kept rest = rest ∙ sym (of_if key e.placement (placements es) false is)
    from false own is kept rest = ap (λ (l : List Placement). if is_key key e.placement.key then e.placement ∷ l else l) rest

pub scan_tells_session : {D : Type 0} → ScanTellsSession D
scan_tells_session {D} meaning w m ticket e spans at bay d scanned vs due outcome rules pairs there unfailed unpurged told some online honest have scans =
    let key = e.session.key in
    let seat = rules.seated ticket e there in
    let place : seat.at ≡ at = omega (arith, seat.drive_is, online.number) in
    let here : seat.bay ≡ bay = cc (sym seat.bay_there ∙ ap (slice_get w.bays) place ∙ online.there) in
    let none = seat.none_gone unpurged d (ap (λ (b : BayView D). b.drive) here ∙ online.online) in
    let one : told.2 ≡ d = one_drive w e.drive at told.0 bay told.1 d told.2 online told.3 in
    let are : spans_of key (live d.journal) ≡ spans =
    ap (λ (l : List Placement). numbered_from 1 (stretches l)) (live_own key d.journal none) ∙ sym (ap (λ (x : DriveIs D). spans_of key (placements x.journal)) one) ∙ sym told.4 in
    let say = placements_say meaning w m ticket e at bay d pairs there unfailed unpurged online honest in
    (spans_printed key (meaning d.device).shelf scanned (live d.journal) vs due outcome spans have say are some scans).prints

-- ---- closed sessions

-- What a drive's journal says of a closed session: its placements say the FileIndexes of their bodies, and these hold the records of
-- the machine's session, with their end label.
record SaysClosed (key : SessionKey) (shelf : Shelf) (journal : List Entry) (m : Machine) : Type 0 where
  own : placements_of key (live journal) ≡ placements_of key (placements journal)
  say : SayIndexes key shelf (live journal)
  s : MachineSession
  there : session_of key.id m.sessions ≡ Some s
  holds : Holds (bytes_at shelf (placements_of key (live journal))) s.records AtEnd

says_closed : {D : Type 0} (meaning : D → Meaning) (w : WorldView D) (m : Machine) (key : SessionKey) (spans : List Span) (at : ℕ) (bay : BayView D) (d : DriveIs D)
    → Matches meaning w m → (c : IsClosedAt w key spans) → HasHonestDrive meaning w c.e.drive at bay d → SaysClosed key (meaning d.device).shelf d.journal m
says_closed meaning w m key spans at bay d pairs c h =
    let shelf = (meaning d.device).shelf in
    let own = c.e.session.key in
    let ps = live d.journal in
    let f = found_session meaning w key.id w.sessions m.sessions c.e pairs.sessions c.there in
    let is : f.session.status ≡ Closed = f.matches.status_is ∙ c.holds.0 in
    let none_out = f.matches.closed is in
    let parts = parts_of c.e.session in
    let onward = bodies_with own (coming d bay.queue) in
    let none_own : parts ≡ [] = none_of parts (λ some. none_out (inl some)) in
    let none_coming : onward ≡ [] = none_of onward (λ some. none_out (inr (at, bay, d, h.online, inl some))) in
    let synced = all_synced own d.journal (λ un. none_out (inr (at, bay, d, h.online, inr un))) in
    let sent = bodies_with own (sent_to shelf d bay.queue) in
    let placed = bodies_with own (placed_bodies shelf ps) in
    let all_are : sent ++ parts ≡ map (placed_body shelf) (placements_of own ps) =
    ap (λ l. sent ++ l) none_own ∙ append-nil sent ∙ sent_are own shelf d bay.queue ∙ ap (λ l. placed ++ l) none_coming ∙ append-nil placed ∙ placed_own own shelf ps in
    let room = c.e.session.packer.room in
    let packs = subst (λ (status : Status). HasBodies room sent (sent ++ parts) status f.session.records) is (f.matches.bodies_are at bay d h.online h.honest) in
    let holds = packed_holds room (sent ++ parts) f.session.records AtEnd packs in
    let Here : SessionKey → Type 0 = λ k. session_of k.id m.sessions ≡ Some f.session in
    let here : SaysClosed own shelf d.journal m = record {
      own = live_own own d.journal (none_gone own d.journal synced);
      say = placements_say meaning w m key.id c.e at bay d pairs c.there (λ failed. cc (sym c.holds.0 ∙ failed)) (λ purged. cc (sym c.holds.0 ∙ purged)) h.online h.honest;
      s = f.session;
      there = subst Here (sym c.key_is) f.there;
      holds = subst (λ l. Holds (bytes_of l) f.session.records AtEnd) all_are holds;
    } in
    subst (λ k. SaysClosed k shelf d.journal m) c.key_is here

pub scan_tells_closed : {D : Type 0} → ScanTellsClosed D
scan_tells_closed meaning w m key spans at bay d scanned vs due outcome pairs closed h have scans =
    let shelf = (meaning d.device).shelf in
    let ps = live d.journal in
    let says = says_closed meaning w m key spans at bay d pairs closed h in
    let are : spans_of key ps ≡ spans =
    ap (λ (l : List Placement). numbered_from 1 (stretches l)) says.own ∙ sym (closed_spans w key spans at bay d closed h.online) in
    let all = closed_reads meaning w m key spans at bay d pairs closed h in
    let one : says.s ≡ all.s = some_is (sym says.there ∙ all.there) in
    let p = spans_printed key shelf scanned ps vs due outcome spans have says.say are all.reads.some_span scans in
    let found = find_own key shelf scanned ps vs ways.All scans.found scans.front scans.undamaged have.complete scans.volumes in
    let bodies : bodies_of key scans.found ≡ bytes_at shelf (placements_of key ps) = found_over key shelf ps vs scans.found found ∙ ap (bytes_at shelf) have.in_order in
    let holds : Holds (bodies_of key scans.found) all.s.records AtEnd =
    subst (λ (s : MachineSession). Holds (bodies_of key scans.found) s.records AtEnd) one (subst (λ l. Holds l says.s.records AtEnd) (sym bodies) says.holds) in
    let keep = subst (λ (l : List Span). KeepSpans l (volumes_on shelf) (volumes_on scanned)) are (spans_scanned key shelf scanned ps vs have) in
    record {
      reads = record {
        s = all.s;
        there = all.there;
        key_is = all.key_is;
        closed = all.closed;
        reads = kept_read (volumes_on shelf) (volumes_on scanned) key spans all.s.records true keep all.reads;
      };
      prints = p.prints;
      start = p.report.start;
      found_is = p.found_is ∙ told_whole key (bodies_of key scans.found) all.s.records p.report p.key_is p.reads holds;
    }
