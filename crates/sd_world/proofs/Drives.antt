-- What stays of the match of world and machine when a drive changes, and which changes of a drive settle what was not settled.
use Rattle.std.proofs.Common.{◌≡◌, ◌≢◌, ◌⊎◌, ℕ, cond, refl, sym, ap, subst, ◌∙◌, inl, inr, Bool, true, false, Option, Some, None, List, [], ◌∷◌, ◌++◌, map, option_to_list, slice_set}
use Rattle.std.specs.Prelude.{◌&&◌, ◌||◌, not}
use Rattle.std.specs.List.{list_any}
use Rattle.std.proofs.lemmas.Bool.{and_from, and_parts}
use Rattle.std.proofs.lemmas.List.Folds.{list_any-append}
use Rattle.sd_base.specs.Key.{is_key}
use Rattle.sd_base.specs.declared.number.SessionKey.{SessionKey}
use Rattle.sd_driver.specs.Meaning.{Meaning}
use Rattle.sd_drive.specs.Moves.{settled_on, synced_journal}
use Rattle.sd_drive.specs.Shelf.{KeepsPieces}
use Rattle.sd_drive.specs.View.{DriveIs, name_loaded}
use Rattle.sd_journal.specs.Journal.{Entry, noted, settled, settled_one, awaits_sync as awaits, is_unsynced, is_synced}
use Rattle.sd_journal.specs.declared.mark.Mark.{Mark}
use Rattle.sd_journal.specs.declared.mark.Mark.TheVariants.{Unsynced, Synced, Lost, Purged}
use Rattle.sd_lane.specs.Queue.{LanesView}
use Rattle.sd_lane.specs.declared.piece.Piece.{Piece}
use Rattle.sd_machine.specs.Machine.{Machine}
use Rattle.sd_machine.specs.Step.{Turns, MayStrike}
use Rattle.sd_machine.specs.declared.event.Event.{Event}
use Rattle.sd_machine.specs.declared.reply.Reply.{Reply}
use Rattle.sd_span.specs.declared.placement.Placement.{Placement}
use Rattle.sd_world.specs.World.{WorldView, WorldSession, BayView, IsOnline}
use Rattle.sd_world.proofs.Framed.{with_desk}
use Rattle.sd_world.specs.Matches.{Matches, IsOnTheWay, IsUnsynced, body_of_piece, bodies_with, queued_bodies}
use Rattle.sd_world.specs.MachineSteps.{StepsTo, newly_struck}
use Rattle.sd_world.proofs.Bodies.{given_kept}
use Rattle.sd_world.proofs.Striking.{steps, unstruck_stay}
use Rattle.sd_world.proofs.Frames.{Framed, frame_in_bay, frame_unmoved, IsUnsettled}
use Rattle.sd_world.proofs.Honesty.{StoresBack, honest_back, honest_here}
use Rattle.sd_world.proofs.Sessions.{all_same}

-- What is unsettled.

-- what is unsettled of a session now was before, whatever is in the queue
abbrev pub Settles : {D : Type 0} → DriveIs D → DriveIs D → Type 0
Settles d after = (queue : LanesView) (key : SessionKey) → IsUnsettled after queue key → IsUnsettled d queue key

pub way_same : {D : Type 0} (d after : DriveIs D) (queue : LanesView) (key : SessionKey) → after.hand ≡ d.hand → IsOnTheWay after queue key → IsOnTheWay d queue key
way_same d after queue key hand way none = way (ap (λ (h : Option Piece). bodies_with key (map body_of_piece (option_to_list h) ++ queued_bodies queue)) hand ∙ none)

-- journal and hand stay
pub settles_same : {D : Type 0} (d after : DriveIs D) → after.journal ≡ d.journal → after.hand ≡ d.hand → Settles d after
settles_same d after journal hand queue key (inl way) = inl (way_same d after queue key hand way)
settles_same d after journal hand queue key (inr unsynced) = inr (subst (λ es. IsUnsynced es key) journal unsynced)

-- a mark that may be synced isn't
not_synced : (m : Mark) → is_unsynced m ≡ true → not (is_synced m) ≡ true
not_synced Unsynced is = refl
not_synced Synced is = absurd (cc is)
not_synced Lost is = refl
not_synced Purged is = refl

or_then : (a b a' b' : Bool) → (a ≡ true → a' ≡ true) → (b ≡ true → b' ≡ true) → (a || b) ≡ true → (a' || b') ≡ true
or_then true b true b' f g h = refl
or_then true b false b' f g h = absurd (cc (f refl))
or_then false b true b' f g h = refl
or_then false b false b' f g h = g h

or_parts : (a b : Bool) → (a || b) ≡ true → (a ≡ true) ⊎ (b ≡ true)
or_parts true b h = inl refl
or_parts false b h = inr h

open_settled : (mark : Mark) (volume : List ℕ) (key : SessionKey) (e : Entry)
    → (is_key key (settled_one mark volume e).placement.key && not (is_synced (settled_one mark volume e).mark)) ≡ true
    → (is_key key e.placement.key && not (is_synced e.mark)) ≡ true
open_settled mark volume key e =
    let k = is_key key e.placement.key in
    let test : Entry → Bool = λ x. is_key key x.placement.key && not (is_synced x.mark) in
    let given : (b : Bool) → awaits volume e ≡ b → test (cond b (record e { mark = mark }) e) ≡ true → test e ≡ true =
    λ b. elim b as (λ b. awaits volume e ≡ b → test (cond b (record e { mark = mark }) e) ≡ true → test e ≡ true) [
      | true ↦ λ is h. and_from k (not (is_synced e.mark)) (and_parts k (not (is_synced mark)) h).0
          (not_synced e.mark (and_parts (is_unsynced e.mark) _ is).0)
      | false ↦ λ is h. h
    ] in
    given (awaits volume e) refl

unsynced_settled : (mark : Mark) (volume : List ℕ) (key : SessionKey) (es : List Entry) → IsUnsynced (settled mark volume es) key → IsUnsynced es key
unsynced_settled mark volume key [] h = h
unsynced_settled mark volume key (e ∷ es) h =
    or_then _ _ (is_key key e.placement.key && not (is_synced e.mark)) (list_any (λ (x : Entry). is_key key x.placement.key && not (is_synced x.mark)) es)
    (open_settled mark volume key e) (unsynced_settled mark volume key es) h

unsynced_settled_on : (mark : Mark) (name : Option (List ℕ)) (key : SessionKey) (es : List Entry) → IsUnsynced (settled_on mark name es) key → IsUnsynced es key
unsynced_settled_on mark None key es h = h
unsynced_settled_on mark (Some name) key es h = unsynced_settled mark name key es h

-- a sync of a volume is over
pub settles_settled : {D : Type 0} (d after : DriveIs D) (mark : Mark) (volume : List ℕ) → after.journal ≡ settled mark volume d.journal → after.hand ≡ d.hand → Settles d after
settles_settled d after mark volume journal hand queue key (inl way) = inl (way_same d after queue key hand way)
settles_settled d after mark volume journal hand queue key (inr unsynced) = inr (unsynced_settled mark volume key d.journal (subst (λ es. IsUnsynced es key) journal unsynced))

-- the loaded volume is synced
pub settles_synced : {D : Type 0} (d after : DriveIs D) → after.journal ≡ synced_journal d → after.hand ≡ d.hand → Settles d after
settles_synced d after journal hand queue key (inl way) = inl (way_same d after queue key hand way)
settles_synced d after journal hand queue key (inr unsynced) =
    inr (unsynced_settled_on Synced (name_loaded d.volumes d.loaded) key d.journal (subst (λ es. IsUnsynced es key) journal unsynced))

-- the noted entry is of the session
key_of : (k : Bool) → ((k && true) || false) ≡ true → k ≡ true
key_of true h = refl
key_of false h = absurd (cc h)

-- a piece goes from the hand to the journal
pub settles_placed : {D : Type 0} (d after : DriveIs D) (piece : Piece) (p : Placement) → d.hand ≡ Some piece → p.key ≡ piece.key
    → after.journal ≡ d.journal ++ noted p ∷ [] → after.hand ≡ None → Settles d after
settles_placed {D} d after piece p hand own journal hand' queue key u =
    let rest = bodies_with key (queued_bodies queue) in
    let in_hand : (is_key key piece.key ≡ true) ⊎ (rest ≢ []) → IsOnTheWay d queue key = λ some none.
    let all : cond (is_key key piece.key) (piece.body ∷ rest) rest ≡ [] =
    ap (λ (h : Option Piece). bodies_with key (map body_of_piece (option_to_list h) ++ queued_bodies queue)) (sym hand) ∙ none in
    (elim (is_key key piece.key) as (λ b. (b ≡ true) ⊎ (rest ≢ []) → cond b (piece.body ∷ rest) rest ≡ [] → ⊥) [
      | true ↦ λ o is. cc is
      | false ↦ λ o is. elim o [
        | inl q ↦ cc q
        | inr some ↦ some is
      ]
    ]) some all in
    elim u [
      | inl way ↦ inl (in_hand (inr (λ none. way (ap (λ (h : Option Piece). bodies_with key (map body_of_piece (option_to_list h) ++ queued_bodies queue)) hand' ∙ none))))
      | inr unsynced ↦
          let test : Entry → Bool = λ x. is_key key x.placement.key && not (is_synced x.mark) in
          let all : (list_any test d.journal || list_any test (noted p ∷ [])) ≡ true =
          sym (list_any-append test d.journal (noted p ∷ [])) ∙ sym (ap (list_any test) journal) ∙ unsynced in
          elim (or_parts (list_any test d.journal) (list_any test (noted p ∷ [])) all) [
            | inl before ↦ inr before
            | inr now ↦ inl (in_hand (inl (ap (is_key key) (sym own) ∙ key_of (is_key key p.key) now)))
          ]
    ]

-- A drive changes.

-- the world around a session changes by a drive that changes
pub drive_frame : {D : Type 0} (meaning : D → Meaning) (w w' : WorldView D) (drive at : ℕ) (bay : BayView D) (d after : DriveIs D) → IsOnline w drive at bay d
    → w'.bays ≡ slice_set w.bays at (record bay { drive = Some after }) → StoresBack w.sessions w'.sessions
    → KeepsPieces (meaning d.device) (meaning after.device) d.journal after.journal d.hand after.hand → Settles d after
    → (x : WorldSession) → Framed meaning w w' x
drive_frame {D} meaning w w' drive at bay d after on bays stores keeps settles x =
    let bay' : BayView D = record bay { drive = Some after } in
    frame_in_bay meaning w w' at bay bay' d after x
    (record {
      there = on.there;
      online = on.online;
      bays = bays;
      online_now = refl;
      here = honest_here meaning w w' at bay bay' d after stores refl keeps.honest;
      elsewhere = λ place other o n honest. honest_back meaning w w' stores place other o honest;
    })
    (λ here honest. ap (λ l. bodies_with x.session.key (l ++ queued_bodies bay.queue)) (given_kept meaning d after keeps honest))
    (λ here. settles bay.queue x.session.key)

-- A drive changes, and perhaps the desk: the machine stays.
pub drive_step : {D : Type 0} (meaning : D → Meaning) (old new : WorldView D) (m : Machine) (event : Event) (reply : Reply) (drive at : ℕ) (bay : BayView D) (d after : DriveIs D) (desk : _)
    → IsOnline old drive at bay d → KeepsPieces (meaning d.device) (meaning after.device) d.journal after.journal d.hand after.hand → Settles d after
    → Turns m event reply m → MayStrike m event reply [] → Matches meaning old m → new ≡ with_desk at bay after desk old → StepsTo meaning m old event reply new
drive_step meaning old new m event reply drive at bay d after desk on keeps settles turns fail h is =
    steps meaning old new m m event reply (ap (λ w. newly_struck old.sessions w.sessions) is ∙ unstruck_stay old.sessions) turns fail
    (subst (λ w. Matches meaning w m) (sym is)
    (all_same meaning old (with_desk at bay after desk old) m refl refl refl
    (drive_frame meaning old (with_desk at bay after desk old) drive at bay d after on refl (λ place honest. honest) keeps settles) h))

-- Only the desk changes: the machine stays.
pub desk_step : {D : Type 0} (meaning : D → Meaning) (old new : WorldView D) (m : Machine) (event : Event) (reply : Reply) (desk : _)
    → Turns m event reply m → MayStrike m event reply [] → Matches meaning old m → new ≡ record old { desk = desk } → StepsTo meaning m old event reply new
desk_step {D} meaning old new m event reply desk turns fail h is =
    let w' : WorldView D = record old { desk = desk } in
    steps meaning old new m m event reply (ap (λ w. newly_struck old.sessions w.sessions) is ∙ unstruck_stay old.sessions) turns fail
    (subst (λ w. Matches meaning w m) (sym is)
    (all_same meaning old w' m refl refl refl (λ x. frame_unmoved meaning old w' x refl (honest_back meaning old w' (λ place honest. honest))) h))
