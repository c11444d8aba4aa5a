-- What a drive's placements say of the bodies of a session.
use Rattle.std.proofs.Common.{◌≡◌, ◌≢◌, ◌⊎◌, inl, inr, if◌then◌else◌, ℕ, true, false, List, [], ◌∷◌, ◌++◌, map, refl, sym, ap, subst, ◌∙◌}
use Rattle.std.proofs.lemmas.List.Elements.{All-from_recursion}
use Rattle.std.specs.List.{AllByRecursion}
use Rattle.sd_base.specs.Key.{is_key}
use Rattle.sd_base.specs.Record.{Record}
use Rattle.sd_base.specs.declared.number.SessionKey.{SessionKey}
use Rattle.sd_drive.specs.Shelf.{block_at}
use Rattle.sd_driver.specs.Shelf.{Shelf}
use Rattle.sd_journal.specs.Journal.{item_of, live}
use Rattle.sd_label.specs.Cutting.{AreBodies, AtEnd, Between, Standing}
use Rattle.sd_pack.specs.Body.{PackedBody, body_of}
use Rattle.sd_pack.specs.Packing.{Packs}
use Rattle.sd_record.specs.Fragment.{FitTogether, Fragment}
use Rattle.sd_session.specs.Session.{parts_of}
use Rattle.sd_session.specs.declared.status.Status.{Status}
use Rattle.sd_session.specs.declared.status.Status.TheVariants.{Active, Cancelled, Closed, Ended, Failed, Purged}
use Rattle.sd_span.specs.Spans.{placements_of}
use Rattle.sd_span.specs.declared.placement.Placement.{Placement}
use Rattle.sd_world.specs.Matches.{HasBodies, bodies_with, sent_body, sent_to}
use Rattle.sd_world.proofs.Sent.{coming, placed_bodies, sent_are}
use Rattle.sd_world.proofs.Sessions.{found_session}
use Rattle.sd_theorem.specs.Closed.{PlacementsSay}
use Rattle.sd_theorem.proofs.SpanLemmas.{Says}

-- ---- packed bodies

-- the body is that of whole fragments
abbrev IsPacked : PackedBody → Type 0
IsPacked body = (fs : List Fragment) × FitTogether fs × (body ≡ body_of fs)

packed_each : (fragments : List (List Fragment)) → AreBodies fragments → AllByRecursion IsPacked (map body_of fragments)
packed_each [] are = tt
packed_each (fs ∷ rest) are = ((fs, are.1, refl), packed_each rest are.2)

-- so is each body of a packed cutting
packed : (room : ℕ) (bodies : List PackedBody) (records : List Record) (standing : Standing) → Packs room bodies records standing → AllByRecursion IsPacked bodies
packed room bodies records standing p = subst (AllByRecursion IsPacked) (sym p.bodies_are) (packed_each p.fragments p.holds_by.bodies_are)

packed_cutting : (room : ℕ) (bodies : List PackedBody) (records : List Record)
    → Packs room bodies records Between ⊎ Packs room bodies records AtEnd → AllByRecursion IsPacked bodies
packed_cutting room bodies records (inl p) = packed room bodies records Between p
packed_cutting room bodies records (inr p) = packed room bodies records AtEnd p

-- and each of the first of them
packed_front : (xs ys : List PackedBody) → AllByRecursion IsPacked (xs ++ ys) → AllByRecursion IsPacked xs
packed_front [] ys all = tt
packed_front (x ∷ xs) ys all = (all.0, packed_front xs ys all.1)

-- and each that was sent of a session that neither failed nor was purged
packed_sent : (room : ℕ) (sent parts : List PackedBody) (status : Status) (records : List Record) → HasBodies room sent (sent ++ parts) status records
    → status ≢ Failed → status ≢ Purged → AllByRecursion IsPacked sent
packed_sent room sent parts Active records has unfailed unpurged = packed_front sent parts (packed room (sent ++ parts) records Between has)
packed_sent room sent parts Ended records has unfailed unpurged = packed_front sent parts (packed room (sent ++ parts) records AtEnd has)
packed_sent room sent parts Closed records has unfailed unpurged = packed_front sent parts (packed room (sent ++ parts) records AtEnd has)
packed_sent room sent parts Cancelled records has unfailed unpurged =
    packed_front sent has.dropped (packed_cutting room (sent ++ has.dropped) records has.packs)
packed_sent room sent parts Failed records has unfailed unpurged = absurd (unfailed refl)
packed_sent room sent parts Purged records has unfailed unpurged = absurd (unpurged refl)

-- ---- placements

-- the body that lies at a placement, which says its FileIndexes
abbrev pub placed_body : Shelf → Placement → PackedBody
placed_body shelf p = (sent_body (item_of p) (block_at shelf p)).body

-- the bodies of a session that were placed are those at its own placements
pub placed_own : (key : SessionKey) (shelf : Shelf) (ps : List Placement) → bodies_with key (placed_bodies shelf ps) ≡ map (placed_body shelf) (placements_of key ps)
placed_own key shelf [] = refl
placed_own key shelf (p ∷ ps) =
    let rest = placed_own key shelf ps in
    let placed = bodies_with key (placed_bodies shelf ps) in
    elim (is_key key p.key) as (λ b. (if b then placed_body shelf p ∷ placed else placed) ≡ map (placed_body shelf) (if b then p ∷ placements_of key ps else placements_of key ps)) [
      | true ↦ ap (λ (l : List PackedBody). placed_body shelf p ∷ l) rest
      | false ↦ rest
    ]

-- placements of packed bodies say their FileIndexes
say_each : (shelf : Shelf) (ps : List Placement) → AllByRecursion IsPacked (map (placed_body shelf) ps) → AllByRecursion (Says shelf) ps
say_each shelf [] all = tt
say_each shelf (p ∷ ps) all =
    let is = all.0 in
    let one : Says shelf p = record {
      fragments = is.0;
      fit = is.1;
      body_is = ap (λ (b : PackedBody). b.bytes) is.2;
      first_is = ap (λ (b : PackedBody). b.first) is.2;
      last_is = ap (λ (b : PackedBody). b.last) is.2;
    } in
    (one, say_each shelf ps all.1)

pub placements_say : {D : Type 0} → PlacementsSay D
placements_say meaning w m ticket e at bay d pairs there unfailed unpurged online honest =
    let shelf = (meaning d.device).shelf in
    let key = e.session.key in
    let ps = live d.journal in
    let f = found_session meaning w ticket w.sessions m.sessions e pairs.sessions there in
    let is = f.matches.status_is in
    let sent = bodies_with key (sent_to shelf d bay.queue) in
    let placed = bodies_with key (placed_bodies shelf ps) in
    let all = packed_sent e.session.packer.room sent (parts_of e.session) f.session.status f.session.records (f.matches.bodies_are at bay d online honest)
    (λ failed. unfailed (sym is ∙ failed)) (λ purged. unpurged (sym is ∙ purged)) in
    let front = packed_front placed (bodies_with key (coming d bay.queue)) (subst (AllByRecursion IsPacked) (sent_are key shelf d bay.queue) all) in
    All-from_recursion (Says shelf) (placements_of key ps) (say_each shelf (placements_of key ps) (subst (AllByRecursion IsPacked) (placed_own key shelf ps) front))
