-- Which sessions fail by a sync that failed, looked at lane by lane.
use Rattle.std.proofs.Common.{◌≡◌, ◌≢◌, ℕ, zero, suc, ◌+◌, ◌<◌, ◌≤◌, ◌==◌, ◌&&◌, ◌||◌, Bool, true, false, refl, sym, ap, subst, ◌∙◌, arith, inl, inr, Option, Some, None, IfSome, IsSome, List, [], ◌∷◌, ◌++◌, length, take, get_or, slice_get}
use Rattle.std.specs.List.{list_any}
use Rattle.std.proofs.lemmas.Bool.Decides.{eqb_tells}
use Rattle.std.proofs.lemmas.List.{take_more, take_all}
use Rattle.std.proofs.lemmas.List.Folds.{list_any-append}
use Rattle.sd_base.specs.declared.number.SessionKey.{SessionKey}
use Rattle.sd_drive.specs.View.{DriveIs}
use Rattle.sd_drive.specs.Moves.{FailsToSync}
use Rattle.sd_journal.specs.Journal.{Entry, fails, fails_with, settled}
use Rattle.sd_journal.proofs.EntryLemmas.{failing}
use Rattle.sd_journal.specs.declared.mark.Mark.TheVariants.{Lost}
use Rattle.sd_session.specs.Session.{SessionView, FailsSession, IsRunning, store_of}
use Rattle.sd_world.specs.World.{WorldView, WorldSession, BayView, LaneView, IsOnline, session_at}
use Rattle.sd_world.specs.Drives.{FailsWhere, FailExactly, is_running, loses_by}
use Rattle.sd_world.specs.Rules.{IsWorld}
use Rattle.sd_world.proofs.Lookups.{found_by_number}
use Rattle.sd_world.proofs.Pairs.{fails_key}
use Rattle.sd_world.proofs.Views.{runs, running_is, not_running, failed_over}
use Rattle.sd_events.specs.Losing.{is_holder, holds_lane, has_lost}
use Rattle.sd_events.proofs.Lists.{fail_alike, all_stay}

and_false : (a : Bool) → (a && false) ≡ false
and_false true = refl
and_false false = refl

-- a session that failed goes on no more
failed_is_over : (e f : WorldSession) → FailsWhere true e f → is_running f.session.status ≡ false
failed_is_over e f failed =
    ap (λ (x : WorldSession). is_running x.session.status) failed.2 ∙ not_running failed.0.status (failed_over e.session failed.0 failed.1)

-- one session, looked at twice
one_step : (journal : List Entry) (a b l : Bool) (e f g : WorldSession) → has_lost journal e ≡ l
    → FailsWhere (a && l) e f → FailsWhere (b && has_lost journal f) f g → FailsWhere ((a || b) && l) e g
one_step journal true b true e f g is first second =
    let nope : (b && has_lost journal f) ≡ false = ap (λ r. b && (r && fails f.session.key journal)) (failed_is_over e f first) ∙ and_false b in
    let stays : g ≡ f = subst (λ c. FailsWhere c f g) nope second in
    subst (λ x. FailsWhere true e x) (sym stays) first
one_step journal true b false e f g is first second =
    let nope : (b && has_lost journal f) ≡ false = ap (λ x. b && has_lost journal x) first ∙ ap (λ r. b && r) is ∙ and_false b in
    let stays : g ≡ f = subst (λ c. FailsWhere c f g) nope second in
    stays ∙ first
one_step journal false b l e f g is first second =
    subst (λ r. FailsWhere (b && r) e g) is (subst (λ x. FailsWhere (b && has_lost journal x) x g) first second)

-- first those fail that a test tells, then those that another does, which tells by the key alone
pub two_steps : (journal : List Entry) (p q : WorldSession → Bool) (es fs gs : List WorldSession)
    → ((e f : WorldSession) → f.session.key ≡ e.session.key → q f ≡ q e)
    → FailExactly (λ e. p e && has_lost journal e) es fs → FailExactly (λ e. q e && has_lost journal e) fs gs
    → FailExactly (λ e. (p e || q e) && has_lost journal e) es gs
two_steps journal p q [] [] [] keyed first second = tt
two_steps journal p q [] [] (g ∷ gs) keyed first second = second
two_steps journal p q [] (f ∷ fs) gs keyed first second = absurd first
two_steps journal p q (e ∷ es) [] gs keyed first second = absurd first
two_steps journal p q (e ∷ es) (f ∷ fs) [] keyed first second = absurd second
two_steps journal p q (e ∷ es) (f ∷ fs) (g ∷ gs) keyed first second =
    let key = fails_key (p e && has_lost journal e) e f first.0 in (
      one_step journal (p e) (q e) (has_lost journal e) e f g refl first.0
          (subst (λ b. FailsWhere (b && has_lost journal f) f g) (keyed e f key) second.0),
      two_steps journal p q es fs gs keyed first.1 second.1,
    )

-- whether one of the elements up to this one has it
pub any_more : {A : Type 0} (p : A → Bool) (xs : List A) (i : ℕ) (x : A) → x ≡ get_or xs i x → i < length xs
    → list_any p (take (i + 1) xs) ≡ (list_any p (take i xs) || p x)
any_more p xs i x is below =
    ap (list_any p) (take_more xs i x below ∙ ap (λ y. take i xs ++ y ∷ []) (sym is)) ∙ list_any-append p (take i xs) (x ∷ [])
    ∙ ap (λ b. list_any p (take i xs) || b) (or_false (p x))
  where
    or_false : (b : Bool) → (b || false) ≡ b
    or_false true = refl
    or_false false = refl

holder_keyed : (holder : Option ℕ) (e f : WorldSession) → f.session.key ≡ e.session.key → is_holder holder f ≡ is_holder holder e
holder_keyed None e f same = refl
holder_keyed (Some ticket) e f same = ap (λ (k : SessionKey). k.id == ticket) same

-- one lane more
pub lane_step : (journal : List Entry) (lanes : List LaneView) (i : ℕ) (lane : LaneView) (es fs gs : List WorldSession)
    → lane ≡ get_or lanes i lane → i < length lanes
    → FailExactly (λ e. holds_lane (take i lanes) e && has_lost journal e) es fs
    → FailExactly (λ e. is_holder lane.holder e && has_lost journal e) fs gs
    → FailExactly (λ e. holds_lane (take (i + 1) lanes) e && has_lost journal e) es gs
lane_step journal lanes i lane es fs gs is below first second =
    fail_alike (λ e. (holds_lane (take i lanes) e || is_holder lane.holder e) && has_lost journal e) (λ e. holds_lane (take (i + 1) lanes) e && has_lost journal e) es gs
    (λ at e there. ap (λ b. b && has_lost journal e) (sym (any_more (λ (l : LaneView). is_holder l.holder e) lanes i lane is below)))
    (two_steps journal (holds_lane (take i lanes)) (is_holder lane.holder) es fs gs (holder_keyed lane.holder) first second)

-- all lanes
pub lane_last : (journal : List Entry) (lanes : List LaneView) (i : ℕ) (es fs : List WorldSession) → length lanes ≤ i
    → FailExactly (λ e. holds_lane (take i lanes) e && has_lost journal e) es fs
    → FailExactly (λ e. holds_lane lanes e && has_lost journal e) es fs
lane_last journal lanes i es fs past fail =
    subst (λ (ls : List LaneView). FailExactly (λ e. holds_lane ls e && has_lost journal e) es fs) (take_all i lanes past) fail

-- Who loses.

-- what one of a list has, some of it has
pub any_there : {A : Type 0} (p : A → Bool) (xs : List A) (at : ℕ) (x : A) → slice_get xs at ≡ Some x → p x ≡ true → list_any p xs ≡ true
any_there p [] at x there is = absurd (cc there)
any_there p (y ∷ ys) zero x there is = let same : x ≡ y = cc there in ap (λ b. b || list_any p ys) (ap p (sym same) ∙ is)
any_there p (y ∷ ys) (suc k) x there is = or_true (p y) (list_any p ys) (any_there p ys k x there is)
  where
    or_true : (a b : Bool) → b ≡ true → (a || b) ≡ true
    or_true true b is = refl
    or_true false b is = is

-- what none of a list has
none_there : {A : Type 0} (p : A → Bool) (xs : List A) → ((at : ℕ) (x : A) → slice_get xs at ≡ Some x → p x ≡ false) → list_any p xs ≡ false
none_there p [] nope = refl
none_there p (y ∷ ys) nope = ap (λ b. b || list_any p ys) (nope 0 y refl) ∙ none_there p ys (λ at x there. nope (suc at) x there)

-- another session used the lane last
pub not_holder : (holder : Option ℕ) (e : WorldSession) → holder ≢ Some e.session.key.id → is_holder holder e ≡ false
not_holder None e nope = refl
not_holder (Some ticket) e nope = elim (eqb_tells e.session.key.id ticket) [
  | inl p ↦ absurd (nope (ap Some (sym p.1)))
  | inr p ↦ p.0
]

-- this session did
pub is_holder_of : (holder : Option ℕ) (e : WorldSession) → holder ≡ Some e.session.key.id → is_holder holder e ≡ true
is_holder_of holder e is = ap (λ (h : Option ℕ). is_holder h e) is ∙ same_number e.session.key.id
  where
    same_number : (n : ℕ) → (n == n) ≡ true
    same_number n = elim (eqb_tells n n) [
      | inl p ↦ p.0
      | inr p ↦ absurd (p.1 refl)
    ]

-- the bay of a session of this drive is the drive's
pub seat_is : {D : Type 0} (w : WorldView D) (drive at : ℕ) (bay : BayView D) (d : DriveIs D) (e : WorldSession) (at' : ℕ) (bay' : BayView D)
    → IsOnline w drive at bay d → e.drive ≡ drive → e.drive ≡ at' + 1 → slice_get w.bays at' ≡ Some bay' → bay ≡ bay'
seat_is {D} w drive at bay d e at' bay' on is number there =
    let same : at' ≡ at = (let y = on.number in omega arith) in
    let bays : slice_get w.bays at ≡ Some bay' = subst (λ k. slice_get w.bays k ≡ Some bay') same there in
    let o = on.there in
    cc (bays, o)

-- a session that goes on holds a lane of its own drive, and of no other
holds_here : {D : Type 0} (w : WorldView D) (drive at place : ℕ) (bay : BayView D) (d : DriveIs D) (e : WorldSession)
    → IsWorld w → IsOnline w drive at bay d → slice_get w.sessions place ≡ Some e → IsRunning e.session.status
    → holds_lane bay.lanes e ≡ (e.drive == drive)
holds_here {D} w drive at place bay d e world on there running =
    let found = found_by_number w.limits.time 1 w.next w.sessions place e world.numbers there in
    let seat = world.seated e.session.key.id e found in
    elim (eqb_tells e.drive drive) [
      | inl p ↦
          subst (λ (b : BayView D). holds_lane b.lanes e ≡ (e.drive == drive)) (sym (seat_is w drive at bay d e seat.at seat.bay on p.1 seat.drive_is seat.bay_there))
          (any_there (λ (l : LaneView). is_holder l.holder e) seat.bay.lanes seat.place seat.lane seat.lane_there (is_holder_of seat.lane.holder e (seat.holds running)) ∙ sym p.0)
      | inr p ↦
          none_there (λ (l : LaneView). is_holder l.holder e) bay.lanes (λ k l stands. not_holder l.holder e (λ holds.
          let lane = (world.bays at bay on.there).lanes k l stands in
          let of = subst (λ (h : Option ℕ). IfSome h (λ ticket. (x : WorldSession) × (session_at ticket w.sessions ≡ Some x)
          × (x.drive ≡ at + 1) × (x.session.lane ≡ k + 1) × (l.store ≡ None → IsSome (store_of x.session)))) holds lane.holder in
          let one : of.0 ≡ e = (let a = of.1 in cc (a, found)) in
          p.1 (ap (λ (x : WorldSession). x.drive) (sym one) ∙ of.2 ∙ sym on.number)))
          ∙ sym p.0
    ]

-- a session loses a block by the failed sync exactly if it holds a lane of the drive and has a lost block then
pub lost_here : {D : Type 0} (w : WorldView D) (drive at place : ℕ) (bay : BayView D) (d : DriveIs D) (volume : List ℕ) (e : WorldSession)
    → IsWorld w → IsOnline w drive at bay d → slice_get w.sessions place ≡ Some e
    → (holds_lane bay.lanes e && has_lost (settled Lost volume d.journal) e) ≡ loses_by drive volume d.journal e
lost_here {D} w drive at place bay d volume e world on there =
    from (is_running e.session.status) refl
  where
    key : SessionKey
    key = e.session.key

    from : (r : Bool) → is_running e.session.status ≡ r
        → (holds_lane bay.lanes e && (is_running e.session.status && fails e.session.key (settled Lost volume d.journal)))
        ≡ ((e.drive == drive) && (is_running e.session.status && fails_with e.session.key volume d.journal))
    from false is =
        ap (λ r. holds_lane bay.lanes e && (r && fails e.session.key (settled Lost volume d.journal))) is ∙ and_false (holds_lane bay.lanes e)
        ∙ sym (ap (λ r. (e.drive == drive) && (r && fails_with e.session.key volume d.journal)) is ∙ and_false (e.drive == drive))
    from true is =
        let running = running_is e.session.status is in
        let found = found_by_number w.limits.time 1 w.next w.sessions place e world.numbers there in
        let seat = world.seated e.session.key.id e found in
        ap (λ h. h && (is_running e.session.status && fails e.session.key (settled Lost volume d.journal))) (holds_here w drive at place bay d e world on there running)
        ∙ elim (eqb_tells e.drive drive) [
          | inl p ↦
              let one = seat_is w drive at bay d e seat.at seat.bay on p.1 seat.drive_is seat.bay_there in
              let none : fails e.session.key d.journal ≡ false = seat.lost_none running d (ap (λ (b : BayView D). b.drive) (sym one) ∙ on.online) in
              ap (λ f. (e.drive == drive) && (is_running e.session.status && f))
              ((failing volume d.journal).failed e.session.key ∙ ap (λ f. f || fails_with e.session.key volume d.journal) none)
          | inr p ↦
              ap (λ b. b && (is_running e.session.status && fails e.session.key (settled Lost volume d.journal))) p.0
              ∙ sym (ap (λ b. b && (is_running e.session.status && fails_with e.session.key volume d.journal)) p.0)
        ]

-- The sessions of a failed sync.

-- what becomes of one session of a lane
pub fail_session : (holder : Option ℕ) (journal : List Entry) (e : WorldSession) (s : SessionView) → holder ≡ Some e.session.key.id
    → (fails e.session.key journal ≡ true → FailsSession e.session s) → (fails e.session.key journal ≡ false → s ≡ e.session)
    → FailsWhere (is_holder holder e && has_lost journal e) e (record e { session = s })
fail_session holder journal e s is lost kept =
    subst (λ b. FailsWhere (b && (is_running e.session.status && fails e.session.key journal)) e (record e { session = s })) (sym (is_holder_of holder e is))
    (from (is_running e.session.status) (fails e.session.key journal) refl refl)
  where
    stays : s ≡ e.session → record e { session = s } ≡ e
    stays same = ap (λ (x : SessionView). record e { session = x }) same

    from : (r l : Bool) → is_running e.session.status ≡ r → fails e.session.key journal ≡ l
        → FailsWhere (is_running e.session.status && fails e.session.key journal) e (record e { session = s })
    from r false goes is_lost =
        subst (λ b. FailsWhere (is_running e.session.status && b) e (record e { session = s })) (sym is_lost)
        (subst (λ b. FailsWhere b e (record e { session = s })) (sym (and_false (is_running e.session.status))) (stays (kept is_lost)))
    from true true goes is_lost =
        subst (λ b. FailsWhere (b && fails e.session.key journal) e (record e { session = s })) (sym goes)
        (subst (λ b. FailsWhere b e (record e { session = s })) (sym is_lost) (s, lost is_lost, refl))
    from false true over is_lost =
        subst (λ b. FailsWhere (b && fails e.session.key journal) e (record e { session = s })) (sym over)
        (elim (lost is_lost) [
          | inl p ↦ absurd (let goes : false ≡ true = sym over ∙ runs e.session.status p.0 in cc goes)
          | inr p ↦ stays p.1
        ])

-- exactly the sessions have failed that lose blocks
pub loses : {D : Type 0} (w : WorldView D) (drive at : ℕ) (bay : BayView D) (d after : DriveIs D) (sessions : List WorldSession)
    → IsWorld w → IsOnline w drive at bay d → (failed : FailsToSync d after)
    → FailExactly (λ e. holds_lane bay.lanes e && has_lost after.journal e) w.sessions sessions
    → FailExactly (loses_by drive failed.volume.name d.journal) w.sessions sessions
loses {D} w drive at bay d after sessions world on failed exactly =
    fail_alike (λ e. holds_lane bay.lanes e && has_lost after.journal e) (loses_by drive failed.volume.name d.journal) w.sessions sessions
    (λ place e there. ap (λ (x : DriveIs D). holds_lane bay.lanes e && has_lost x.journal e) failed.becomes ∙ lost_here w drive at place bay d failed.volume.name e world on there)
    exactly

-- if the journal tells of no further lost block, none of a session that goes on is lost
none_lost : {D : Type 0} (w : WorldView D) (drive at place : ℕ) (bay : BayView D) (d : DriveIs D) (journal : List Entry) (e : WorldSession)
    → IsWorld w → IsOnline w drive at bay d → ((key : SessionKey) → fails key d.journal ≡ false → fails key journal ≡ false) → slice_get w.sessions place ≡ Some e
    → (holds_lane bay.lanes e && has_lost journal e) ≡ false
none_lost {D} w drive at place bay d journal e world on same there =
    from (is_running e.session.status) refl
  where
    from : (r : Bool) → is_running e.session.status ≡ r → (holds_lane bay.lanes e && (is_running e.session.status && fails e.session.key journal)) ≡ false
    from false is = ap (λ r. holds_lane bay.lanes e && (r && fails e.session.key journal)) is ∙ and_false (holds_lane bay.lanes e)
    from true is =
        let running = running_is e.session.status is in
        let found = found_by_number w.limits.time 1 w.next w.sessions place e world.numbers there in
        let seat = world.seated e.session.key.id e found in
        ap (λ h. h && (is_running e.session.status && fails e.session.key journal)) (holds_here w drive at place bay d e world on there running)
        ∙ elim (eqb_tells e.drive drive) [
          | inl p ↦
              let one = seat_is w drive at bay d e seat.at seat.bay on p.1 seat.drive_is seat.bay_there in
              let none : fails e.session.key d.journal ≡ false = seat.lost_none running d (ap (λ (b : BayView D). b.drive) (sym one) ∙ on.online) in
              ap (λ f. (e.drive == drive) && (is_running e.session.status && f)) (same e.session.key none)
              ∙ ap (λ f. (e.drive == drive) && f) (and_false (is_running e.session.status)) ∙ and_false (e.drive == drive)
          | inr p ↦ ap (λ b. b && (is_running e.session.status && fails e.session.key journal)) p.0
        ]

-- and the sessions stay
pub sessions_stay : {D : Type 0} (w : WorldView D) (drive at : ℕ) (bay : BayView D) (d : DriveIs D) (journal : List Entry) (sessions : List WorldSession)
    → IsWorld w → IsOnline w drive at bay d → ((key : SessionKey) → fails key d.journal ≡ false → fails key journal ≡ false)
    → FailExactly (λ e. holds_lane bay.lanes e && has_lost journal e) w.sessions sessions → sessions ≡ w.sessions
sessions_stay w drive at bay d journal sessions world on same exactly =
    all_stay (λ e. holds_lane bay.lanes e && has_lost journal e) w.sessions sessions
    (λ place e there. none_lost w drive at place bay d journal e world on same there) exactly
