-- What is known of a settled line and of the world that it becomes, and of each session in both.
use Rattle.std.proofs.Common.{◌≡◌, ℕ, suc, ◌≤◌, refl, sym, ap, subst, ◌∙◌, inl, inr, arith, false, Some, List, [], ◌∷◌, ◌++◌, length, slice_get}
use Rattle.std.specs.List.{AllByRecursion}
use Rattle.atomic_table.specs.Seated.{TableId}
use Rattle.sd_base.specs.Limits.{most_lanes}
use Rattle.sd_base.specs.declared.number.SessionKey.{SessionKey}
use Rattle.sd_driver.specs.Meaning.{IsHonest, Meaning}
use Rattle.sd_drive.specs.Limits.{AreLimits}
use Rattle.sd_drive.specs.Shelf.{blocks}
use Rattle.sd_drive.specs.View.{DriveIs, items}
use Rattle.sd_journal.specs.Journal.{has_purged, placed_of, synced_of}
use Rattle.sd_line.specs.Side.{blocks_taken, items_taken}
use Rattle.sd_line.specs.Ends.{ToldSession}
use Rattle.sd_session.specs.declared.status.Status.TheVariants.{Closed}
use Rattle.sd_hub.specs.Settles.{CheckedIs, SettledIs, Settles}
use Rattle.sd_world.proofs.Lookups.{found_by_number, one_or_two}
use Rattle.sd_world.specs.Rules.{NumbersRise}
use Rattle.sd_world.specs.World.{WorldSession, WorldView, session_at}
use Rattle.sd_hub.specs.Worlds.{BecomesWorld, SettlesOne, next_number, lane_sessions}
use Rattle.sd_hub.proofs.Entries.{IsEntry, distinct_moved, entry_at, in_world, moved, moved_back, index_of, stays_of}
use Rattle.sd_hub.proofs.Lines.{KeepsLanes, Stands, keeps_lanes, stands}
use Rattle.sd_hub.proofs.NumberLemmas.{AreOfRun, IsOfRun, numbers_rise}

-- A settled line, and its world: the lanes keep what they keep; the drive follows what was taken, none of whose blocks is gone, and
-- while its device is honest their blocks are those of what was taken; and there are as many lanes as the queue has.
pub record IsSettledWorld {D : Type 0} (meaning : D → Meaning) (settled : SettledIs D) (told : List ToldSession) (w : WorldView D) : Type 0 where
  pub becomes : BecomesWorld settled told w
  pub lanes : KeepsLanes settled.drive.limits.time settled.drive.journal (settled.queue.taken ++ settled.queue.held) settled.lanes
  pub follows : items settled.drive.journal settled.drive.hand ≡ items_taken settled.queue.taken
  pub holds : IsHonest (meaning settled.drive.device)
      → blocks (meaning settled.drive.device).shelf settled.drive.journal settled.drive.hand ≡ blocks_taken settled.queue.taken
  pub none_gone : (key : SessionKey) → has_purged key settled.drive.journal ≡ false
  pub limits : AreLimits settled.drive.limits
  pub lanes_are : settled.queue.lanes ≡ length settled.lanes
  pub lanes_most : length settled.lanes ≤ most_lanes

-- so it is once a line is settled
pub is_settled : {D : Type 0} (meaning : D → Meaning) (table : ℕ → TableId) (time : ℕ → ℕ) (c : CheckedIs D) (settled : SettledIs D) (told : List ToldSession) (w : WorldView D)
    → Settles meaning table time c settled → BecomesWorld settled told w → IsSettledWorld meaning settled told w
is_settled {D} meaning table time c settled told w h b =
    let many = h.count_is.1 in
    let most = h.keeps.lanes in
    let same : c.side.drive ≡ settled.drive = sym h.drive_is in
    record {
      becomes = b;
      lanes = keeps_lanes meaning table time c settled h;
      follows = ap (λ (d : DriveIs D). items d.journal d.hand) (sym same) ∙ h.keeps.follows ∙ ap items_taken (sym h.taken_is);
      holds = subst (λ (d : DriveIs D). IsHonest (meaning d.device) → blocks (meaning d.device).shelf d.journal d.hand ≡ blocks_taken settled.queue.taken) same
          (λ honest. h.keeps.holds honest ∙ ap blocks_taken (sym h.taken_is));
      none_gone = λ key. ap (λ (d : DriveIs D). has_purged key d.journal) (sym same) ∙ h.keeps.none_gone key;
      limits = subst (λ (d : DriveIs D). AreLimits d.limits) same h.keeps.limits;
      lanes_are = h.count_is.0 ∙ sym many;
      lanes_most = omega (arith, many, most);
    }

-- what holds at each place holds by recursion
pub all_from : {A : Type 0} (P : A → Type 0) (xs : List A) → ((at : ℕ) (x : A) → slice_get xs at ≡ Some x → P x) → AllByRecursion P xs
all_from P [] each = tt
all_from P (x ∷ xs) each = (each 0 x refl, all_from P xs (λ at y there. each (suc at) y there))

module _ {D : Type 0} (meaning : D → Meaning) (settled : SettledIs D) (told : List ToldSession) (w : WorldView D) (h : IsSettledWorld meaning settled told w) where
  -- The sessions that were told.

  -- what is known of each of all lanes
  pub lane_stands : (k : ℕ) (s : ToldSession) → slice_get (lane_sessions settled.lanes) k ≡ Some s
      → Stands settled.drive.limits.time (settled.queue.taken ++ settled.queue.held) settled.lanes s
  lane_stands k s there = stands settled.drive.limits.time settled.drive.journal (settled.queue.taken ++ settled.queue.held) settled.lanes h.lanes k s there

  -- and of each that was told
  pub told_stands : (k : ℕ) (s : ToldSession) → slice_get told k ≡ Some s → Stands settled.drive.limits.time (settled.queue.taken ++ settled.queue.held) settled.lanes s
  told_stands k s there = let back = moved_back (lane_sessions settled.lanes) told k s h.becomes.all there in lane_stands back.0 s back.1

  -- each is of the run
  pub told_of_run : AreOfRun settled.drive.limits.time told
  told_of_run = all_from (λ (s : ToldSession). IsOfRun settled.drive.limits.time s.session.key) told
      (λ at s there. (let of = (told_stands at s there).of_lane in record { time_is = of.time_is; id_least = of.id_least; id_most = of.id_most }))

  -- of a closed one all that it sent is placed and synced
  pub told_settled : (k : ℕ) (s : ToldSession) → slice_get told k ≡ Some s → s.session.status ≡ Closed
      → (placed_of s.session.key settled.drive.journal ≡ s.session.sent) × (synced_of s.session.key settled.drive.journal ≡ s.session.sent)
  told_settled k s there closed =
      let back = moved_back (lane_sessions settled.lanes) told k s h.becomes.all there in
      let none = h.lanes.settled back.0 s back.1 in (
        (elim (one_or_two (placed_of s.session.key settled.drive.journal) s.session.sent) [
          | inl same ↦ same
          | inr apart ↦ absurd (none (closed, inl apart))
        ]),
        (elim (one_or_two (synced_of s.session.key settled.drive.journal) s.session.sent) [
          | inl same ↦ same
          | inr apart ↦ absurd (none (closed, inr apart))
        ]),
      )

  -- The sessions of the world.

  -- their numbers rise
  pub numbers : NumbersRise w.limits.time 1 w.next w.sessions
  numbers =
      let apart = distinct_moved (lane_sessions settled.lanes) told h.becomes.all h.lanes.distinct in
      let up = numbers_rise settled.drive.limits.time settled.drive.journal told w.sessions h.becomes.sessions told_of_run apart h.becomes.rise in
      subst (λ (n : ℕ). NumbersRise w.limits.time 1 n w.sessions) (sym h.becomes.next_is)
      (subst (λ (t : ℕ). NumbersRise t 1 (next_number told) w.sessions) (sym (ap (λ l. l.time) h.becomes.limits_are)) up)

  -- each of a ticket is one that was told
  pub entry_of : (ticket : ℕ) (e : WorldSession) → session_at ticket w.sessions ≡ Some e → IsEntry settled.drive.journal told e
  entry_of ticket e found = let p = index_of ticket w.sessions e found in entry_at settled.drive.journal told w.sessions p.0 e h.becomes.sessions p.1

  -- each session of all lanes is found in it by its number
  pub lane_found : (k : ℕ) (s : ToldSession) → slice_get (lane_sessions settled.lanes) k ≡ Some s
      → (e : WorldSession) × (session_at s.session.key.id w.sessions ≡ Some e) × SettlesOne settled.drive.journal s e
  lane_found k s there =
      let m = moved (lane_sessions settled.lanes) told k s h.becomes.all there in
      let i = in_world settled.drive.journal told w.sessions m.0 s h.becomes.sessions m.1 in
      let key = (stays_of settled.drive.journal s i.0 i.2).key_is in (
        i.0,
        ap (λ (x : SessionKey). session_at x.id w.sessions) (sym key) ∙ found_by_number w.limits.time 1 w.next w.sessions m.0 i.0 numbers i.1,
        i.2,
      )
