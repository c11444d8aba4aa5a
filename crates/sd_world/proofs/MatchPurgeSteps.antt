-- A purge is a step of the list machine, which strikes the sessions with Purged that have a block on the volume.
use Rattle.std.proofs.Common.{◌≡◌, ℕ, ◌+◌, cond, refl, sym, ap, ap₂, subst, ◌∙◌, inl, inr, suc, Bool, true, false, true≢false, Some, List, [], ◌∷◌, ◌++◌, map, option_to_list, append_assoc, slice_get, slice_set}
use Rattle.std.specs.Prelude.{◌&&◌, ◌||◌, not}
use Rattle.std.specs.List.{list_any}
use Rattle.std.specs.Str.{bytes_eq}
use Rattle.std.proofs.lemmas.Bool.{cond-false}
use Rattle.sd_base.specs.Key.{is_key}
use Rattle.sd_base.specs.declared.number.SessionKey.{SessionKey}
use Rattle.sd_base.specs.declared.refusal.Refusal.{Refusal}
use Rattle.sd_base.specs.declared.refusal.Refusal.TheVariants.{InUse, VolumeNotOnShelf, VolumeNotFull, DeviceFault, Memory}
use Rattle.sd_driver.specs.Meaning.{Meaning, IsHonest}
use Rattle.sd_driver.specs.Shelf.{Shelf}
use Rattle.sd_drive.specs.Shelf.{block_at, blocks}
use Rattle.sd_drive.specs.View.{DriveIs, items}
use Rattle.sd_journal.specs.Journal.{Entry, item_of, placements, is_synced, is_purged, purged, live, has_on}
use Rattle.sd_journal.specs.declared.mark.Mark.TheVariants.{Purged as IsGone}
use Rattle.sd_machine.specs.Machine.{Machine, Strike}
use Rattle.sd_machine.specs.Step.{Turns, MayStrike, MayRefuse, StrikeWith}
use Rattle.sd_machine.specs.declared.event.Event.TheVariants.{Purge}
use Rattle.sd_session.specs.declared.status.Status.TheVariants.{Purged as IsPurged}
use Rattle.sd_machine.specs.declared.reply.Reply.{Reply}
use Rattle.sd_machine.specs.declared.reply.Reply.TheVariants.{Refused, Purged}
use Rattle.sd_session.specs.Session.{IsRunning, store_of}
use Rattle.sd_span.specs.Spans.{placements_of}
use Rattle.sd_world.specs.Drives.{LeavesVolume, PurgeRefused, purged_sessions}
use Rattle.sd_world.specs.Honest.{StoreIsTrue}
use Rattle.sd_world.specs.Moves.{Moves}
use Rattle.sd_world.specs.Rules.{IsWorld}
use Rattle.sd_world.specs.World.{WorldView, WorldSession, BayView, session_at}
use Rattle.sd_world.proofs.LaneSteps.{running_keeps}
use Rattle.sd_world.proofs.Lookups.{found_by_number}
use Rattle.sd_world.proofs.Pairs.{pair_after}
use Rattle.sd_world.proofs.PurgeSteps.{PurgesIn, PurgedOrStays, purges_in, purged_one, purged_pairs, on_done, refuses_purge}
use Rattle.sd_world.specs.Matches.{Matches, IsUnsynced, bodies_with, sent_body, sent_bodies, sent_to, queued_bodies, given_to, body_of_piece}
use Rattle.sd_world.specs.MachineSteps.{StepsTo, newly_struck}
use Rattle.sd_world.proofs.Bodies.{bodies_with-append, placed_bodies}
use Rattle.sd_world.proofs.Drives.{settles_same, way_same, drive_step}
use Rattle.sd_world.proofs.MatchDriveSteps.{missing, refused}
use Rattle.sd_world.proofs.Frames.{Framed, frame_in_bay}
use Rattle.sd_world.proofs.Honesty.{StoresBack, honest_back, honest_here}
use Rattle.sd_world.proofs.Sent.{given_are}
use Rattle.sd_world.proofs.Striking.{IsPurge, Struck, StruckOrStay, purges_struck, struck_step, all_struck, machine_purges}

-- A session with no block on the volume.

-- no entry of the session is on the volume: the first isn't, nor any other
none_on : (key : SessionKey) (name : List ℕ) (e : Entry) (es : List Entry) → has_on key name (e ∷ es) ≡ false
    → (is_key key e.placement.key ≡ true → bytes_eq e.placement.volume name ≡ false) × (has_on key name es ≡ false)
none_on key name e es = from (is_key key e.placement.key)
  where
    or_none : (a b : Bool) → (a || b) ≡ false → (a ≡ false) × (b ≡ false)
    or_none true b is = absurd (true≢false is)
    or_none false b is = (refl, is)

    from : (own : Bool) → list_any (λ p. bytes_eq p.volume name) (cond own (e.placement ∷ placements_of key (placements es)) (placements_of key (placements es))) ≡ false
        → (own ≡ true → bytes_eq e.placement.volume name ≡ false) × (has_on key name es ≡ false)
    from true none = let parts = or_none (bytes_eq e.placement.volume name) (has_on key name es) none in (λ own. parts.0, parts.1)
    from false none = (λ own. absurd (true≢false (sym own)), none)

-- its bodies at the first entry and after it
abbrev front : SessionKey → Shelf → Entry → List Entry → Type 0
front key shelf e es = bodies_with key (placed_bodies shelf (live (e ∷ es))) ≡ bodies_with key (placed_bodies shelf (live es))

-- an entry of another session has none
other_front : (key : SessionKey) (shelf : Shelf) (e : Entry) (es : List Entry) → is_key key e.placement.key ≡ false
    → front key shelf e es
other_front key shelf e es other = from (is_purged e.mark)
  where
    from : (b : Bool) → bodies_with key (placed_bodies shelf (cond b (live es) (e.placement ∷ live es))) ≡ bodies_with key (placed_bodies shelf (live es))
    from true = refl
    from false = cond-false (is_key key e.placement.key) _ (bodies_with key (placed_bodies shelf (live es))) other

-- an entry that stays has what it had
same_front : (key : SessionKey) (shelf : Shelf) (e : Entry) (es es' : List Entry)
    → bodies_with key (placed_bodies shelf (live es')) ≡ bodies_with key (placed_bodies shelf (live es))
    → bodies_with key (placed_bodies shelf (live (e ∷ es'))) ≡ bodies_with key (placed_bodies shelf (live (e ∷ es)))
same_front key shelf e es es' same = from (is_purged e.mark)
  where
    from : (b : Bool) → bodies_with key (placed_bodies shelf (cond b (live es') (e.placement ∷ live es'))) ≡ bodies_with key (placed_bodies shelf (cond b (live es) (e.placement ∷ live es)))
    from true = same
    from false = ap (λ l. cond (is_key key e.placement.key) ((sent_body (item_of e.placement) (block_at shelf e.placement)).body ∷ l) l) same

-- the bodies that were placed of the session stay
pub placed_stay : (key : SessionKey) (name : List ℕ) (shelf : Shelf) (es : List Entry) → has_on key name es ≡ false
    → bodies_with key (placed_bodies shelf (live (purged name es))) ≡ bodies_with key (placed_bodies shelf (live es))
placed_stay key name shelf [] none = refl
placed_stay key name shelf (e ∷ es) none =
    from (placed_stay key name shelf es (none_on key name e es none).1) (bytes_eq e.placement.volume name) refl (is_key key e.placement.key) refl
  where
    from : bodies_with key (placed_bodies shelf (live (purged name es))) ≡ bodies_with key (placed_bodies shelf (live es))
        → (on : Bool) → bytes_eq e.placement.volume name ≡ on → (own : Bool) → is_key key e.placement.key ≡ own
        → bodies_with key (placed_bodies shelf (live (cond on (record e { mark = IsGone }) e ∷ purged name es))) ≡ bodies_with key (placed_bodies shelf (live (e ∷ es)))
    from rest true is true own = absurd (true≢false (sym is ∙ (none_on key name e es none).0 own))
    from rest true is false own = rest ∙ sym (other_front key shelf e es own)
    from rest false is own' own = same_front key shelf e es (purged name es) rest

-- and what of it is unsynced was
unsynced_stay : (key : SessionKey) (name : List ℕ) (es : List Entry) → has_on key name es ≡ false
    → IsUnsynced (purged name es) key → IsUnsynced es key
unsynced_stay key name [] none h = h
unsynced_stay key name (e ∷ es) none h =
    from (unsynced_stay key name es (none_on key name e es none).1) (bytes_eq e.placement.volume name) refl (is_key key e.placement.key) refl h
  where
    test : Entry → Bool
    test x = is_key key x.placement.key && not (is_synced x.mark)

    or_then : (a b b' : Bool) → (b ≡ true → b' ≡ true) → (a || b) ≡ true → (a || b') ≡ true
    or_then true b b' f is = refl
    or_then false b b' f is = f is

    from : (list_any test (purged name es) ≡ true → list_any test es ≡ true)
        → (on : Bool) → bytes_eq e.placement.volume name ≡ on → (own : Bool) → is_key key e.placement.key ≡ own
        → (test (cond on (record e { mark = IsGone }) e) || list_any test (purged name es)) ≡ true → (test e || list_any test es) ≡ true
    from rest true is true own k = absurd (true≢false (sym is ∙ (none_on key name e es none).0 own))
    from rest true is false own k =
        ap (λ b. (b && not (is_synced e.mark)) || list_any test es) own ∙ rest (sym (ap (λ b. (b && true) || list_any test (purged name es)) own) ∙ k)
    from rest false is own' own k = or_then (test e) (list_any test (purged name es)) (list_any test es) rest k

-- A drive whose volume is purged.

module _ {D : Type 0} {meaning : D → Meaning} {old new : WorldView D} {drive : ℕ} {name : List ℕ} (m : PurgesIn meaning old drive name new) where
  -- the drive's journal and its hand
  journal_is : m.after.journal ≡ purged name m.d.journal
  journal_is = ap (λ (x : DriveIs D). x.journal) m.empties ∙ ap (λ n. purged n m.d.journal) m.name_is

  hand_is : m.after.hand ≡ m.d.hand
  hand_is = ap (λ (x : DriveIs D). x.hand) m.empties

  -- the bodies of a session with no block on the volume stay
  bodies_stay : (key : SessionKey) → has_on key name m.d.journal ≡ false → IsHonest (meaning m.d.device)
      → bodies_with key (sent_to (meaning m.after.device).shelf m.after m.bay.queue) ≡ bodies_with key (sent_to (meaning m.d.device).shelf m.d m.bay.queue)
  bodies_stay key none honest =
      let queue = queued_bodies m.bay.queue in
      let hand = map body_of_piece (option_to_list m.d.hand) in
      let shelf = (meaning m.d.device).shelf in
      let gone : DriveIs D = record m.d { journal = purged name m.d.journal } in
      let given : given_to (meaning m.after.device).shelf m.after ≡ given_to shelf gone =
      ap₂ (λ js h. sent_bodies (items js h) (blocks (meaning m.after.device).shelf js h)) journal_is hand_is
      ∙ ap (sent_bodies (items (purged name m.d.journal) m.d.hand)) (m.keeps.blocks honest) in
      ap (λ l. bodies_with key (l ++ queue)) (given ∙ given_are shelf gone)
      ∙ ap (bodies_with key) (append_assoc (placed_bodies shelf (live gone.journal)) hand queue)
      ∙ bodies_with-append key (placed_bodies shelf (live gone.journal)) (hand ++ queue)
      ∙ ap (λ l. l ++ bodies_with key (hand ++ queue)) (placed_stay key name shelf m.d.journal none)
      ∙ sym (bodies_with-append key (placed_bodies shelf (live m.d.journal)) (hand ++ queue))
      ∙ sym (ap (bodies_with key) (append_assoc (placed_bodies shelf (live m.d.journal)) hand queue))
      ∙ sym (ap (λ l. bodies_with key (l ++ queue)) (given_are shelf m.d))

  -- the world then
  abbrev after_purge : WorldView D
  after_purge = record old {
    sessions = purged_sessions drive name m.d.journal old.sessions;
    bays = slice_set old.bays m.at (record m.bay { drive = Some m.after });
    desk = m.desk;
  }

  -- stores that are true now were
  stores : StoresBack old.sessions (purged_sessions drive name m.d.journal old.sessions)
  stores at honest t x there own =
      let R = PurgedOrStays drive name m.d.journal in
      let p = pair_after R (session_at t old.sessions) (session_at t (purged_sessions drive name m.d.journal old.sessions)) x (purged_pairs drive name m.d.journal old.sessions t) there in
      elim p.2 [
        | inl q ↦ subst (λ (z : WorldSession). (z.drive ≡ at + 1 → StoreIsTrue (store_of z.session)) → StoreIsTrue (store_of x.session)) (sym q.2) (λ was. was own)
            (honest t p.0 p.1)
        | inr q ↦ subst (λ (z : WorldSession). (z.drive ≡ at + 1 → StoreIsTrue (store_of z.session)) → StoreIsTrue (store_of x.session)) (sym q.1) (λ was. was own)
            (honest t p.0 p.1)
      ]

  -- the world around a session that stays
  frame : (x : WorldSession) → (x.drive ≡ drive → has_on x.session.key name m.d.journal ≡ false)
      → Framed meaning old after_purge x
  frame x none =
      let bay' : BayView D = record m.bay { drive = Some m.after } in
      let here : x.drive ≡ m.at + 1 → has_on x.session.key name m.d.journal ≡ false = λ at. none (at ∙ sym m.online.number) in
      frame_in_bay meaning old after_purge m.at m.bay bay' m.d m.after x
      (record {
        there = m.online.there;
        online = m.online.online;
        bays = refl;
        online_now = refl;
        here = honest_here meaning old after_purge m.at m.bay bay' m.d m.after stores refl m.honest;
        elsewhere = λ place other o n honest. honest_back meaning old after_purge stores place other o honest;
      })
      (λ at honest. bodies_stay x.session.key (here at) honest)
      (λ at u. elim u [
        | inl way ↦ inl (way_same m.d m.after m.bay.queue x.session.key hand_is way)
        | inr unsynced ↦ inr (unsynced_stay x.session.key name m.d.journal (here at) (subst (λ es. IsUnsynced es x.session.key) journal_is unsynced))
      ])

  -- a session that goes on has no block on the volume
  running_off : (x : WorldSession) → session_at x.session.key.id old.sessions ≡ Some x → x.drive ≡ drive
      → has_on x.session.key name m.d.journal ≡ true → IsRunning x.session.status → ⊥
  running_off x there own on running =
      let done = on_done old.sessions drive m.d name x.session.key.id x m.due there own on in
      true≢false (sym done ∙ running_keeps x.session.status _ running)

  pairs : (es : List WorldSession)
      → ((at : ℕ) (x : WorldSession) → slice_get es at ≡ Some x → x.drive ≡ drive → has_on x.session.key name m.d.journal ≡ true
      → IsRunning x.session.status → ⊥)
      → StruckOrStay IsPurge meaning old after_purge es (purged_sessions drive name m.d.journal es)
  pairs [] off = tt
  pairs (x ∷ es) off = (
    elim (purged_one drive name m.d.journal x) [
      | inl p ↦ inl (subst (Struck IsPurge x) (sym p.2) (purges_struck x (off 0 x refl p.0 p.1)))
      | inr p ↦ inr (p.1, frame x p.0)
    ],
    pairs es (λ at. off (suc at)),
  )

  -- the sessions that have a block on the volume are purged, and the machine's with them
  purged_step : (machine : Machine) (reply : Reply) → IsWorld old → Turns machine (Purge drive name) reply machine
      → ((strikes : List Strike) → StrikeWith IsPurged (λ status. IsRunning status → ⊥) machine strikes → MayStrike machine (Purge drive name) reply strikes)
      → Matches meaning old machine → StepsTo meaning machine old (Purge drive name) reply new
  purged_step machine reply rules turns may h =
      let es' = purged_sessions drive name m.d.journal old.sessions in
      let all = pairs old.sessions (λ at x there. running_off x (found_by_number old.limits.time 1 old.next old.sessions at x rules.numbers there)) in
      subst (λ w. StepsTo meaning machine old (Purge drive name) reply w) (sym m.new_is)
      (struck_step IsPurge meaning old after_purge machine (Purge drive name) reply refl refl rules.numbers all turns
      (may (newly_struck old.sessions es') (machine_purges meaning old machine (newly_struck old.sessions es') h
      (all_struck IsPurge meaning old after_purge old.limits.time 1 old.next old.sessions es' rules.numbers all))) h)

-- Refused.

-- nothing changes but the device
purges_none : {D : Type 0} (meaning : D
    → Meaning) (old new : WorldView D) (drive : ℕ) (name : List ℕ) (why reason : Refusal) (m : Machine) → why ≡ reason
    → MayRefuse m (Purge drive name) reason
    → MayStrike m (Purge drive name) (Refused reason) [] → LeavesVolume meaning old drive name why new → Matches meaning old m
    → StepsTo meaning m old (Purge drive name) (Refused why) new
purges_none {D} meaning old new drive name why reason m is may strike p h =
    subst (λ r. StepsTo meaning m old (Purge drive name) (Refused r) new) (sym is)
    (drive_step meaning old new m (Purge drive name) (Refused reason) drive p.at p.bay p.d p.after old.desk p.online p.none.calls.keeps
    (settles_same p.d p.after (ap (λ (x : DriveIs D). x.journal) p.none.adds_none) (ap (λ (x : DriveIs D). x.hand) p.none.adds_none)) (may, refl) strike h p.new_is)

purge_refused : {D : Type 0} (meaning : D
    → Meaning) (old new : WorldView D) (drive : ℕ) (name : List ℕ) (why : Refusal) (m : Machine) → IsWorld old
    → PurgeRefused meaning old drive name why new → Matches meaning old m
    → StepsTo meaning m old (Purge drive name) (Refused why) new
purge_refused meaning old new drive name why m rules (inl p) h = missing meaning old new m (Purge drive name) drive why p.0 (λ r no. inl no) refl refl h p.1
purge_refused meaning old new drive name why m rules (inr (inl p)) h = elim (refuses_purge old.sessions drive p.2 name why p.4) [
  | inl is ↦ refused meaning old new m (Purge drive name) why VolumeNotOnShelf is (inr (inl refl)) refl h p.5
  | inr (inl is) ↦ refused meaning old new m (Purge drive name) why VolumeNotFull is (inr (inr (inl refl))) refl h p.5
  | inr (inr is) ↦ refused meaning old new m (Purge drive name) why InUse is (inr (inr (inr (inl refl)))) refl h p.5
]
purge_refused meaning old new drive name why m rules (inr (inr (inl p))) h = elim p.none.why_is [
  | inl is ↦ purges_none meaning old new drive name why VolumeNotOnShelf m is (inr (inl refl)) refl p h
  | inr is ↦ purges_none meaning old new drive name why Memory m is (inr (inr (inr (inr (inr (inl refl)))))) refl p h
]
purge_refused meaning old new drive name why m rules (inr (inr (inr p))) h =
    subst (λ r. StepsTo meaning m old (Purge drive name) (Refused r) new) (sym p.0)
    (purged_step (purges_in p.1) m (Refused DeviceFault) rules (inr (inr (inr (inr (inl refl)))), refl) (λ strikes are. are) h)

pub purge_steps : {D : Type 0} (meaning : D
    → Meaning) (old new : WorldView D) (drive : ℕ) (name : List ℕ) (reply : Reply) (m : Machine) → IsWorld old
    → Moves meaning old (Purge drive name) reply new → Matches meaning old m
    → StepsTo meaning m old (Purge drive name) reply new
purge_steps meaning old new drive name Purged m rules moves h = purged_step (purges_in moves) m Purged rules refl (λ strikes are. are) h
purge_steps meaning old new drive name (Refused why) m rules moves h = purge_refused meaning old new drive name why m rules moves h
purge_steps meaning old new drive name reply m rules moves h = absurd moves
