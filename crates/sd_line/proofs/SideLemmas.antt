-- What the value under a lock keeps through a call of its drive.
use Rattle.std.proofs.Common.{◌≡◌, ℕ, zero, suc, slice_get, Bool, true, false, sym, ap, subst, ◌∙◌, List, [], ◌∷◌, ◌++◌, map, None, Some}
use Rattle.std.proofs.lemmas.List.{append-nil, map-append}
use Rattle.std.specs.Prelude.{IsTrue}
use Rattle.atomic_table.specs.Seated.{TableId}
use Rattle.sd_base.specs.declared.number.SessionKey.{SessionKey}
use Rattle.sd_closes.proofs.Told.{told_stays}
use Rattle.sd_closes.specs.Stands.{StandsTold}
use Rattle.sd_driver.specs.Meaning.{Meaning, IsHonest}
use Rattle.sd_drive.specs.Limits.{AreLimits}
use Rattle.sd_driver.specs.Shelf.{Shelf}
use Rattle.sd_drive.specs.Shelf.{KeepsPieces, blocks, block_of_entry}
use Rattle.sd_drive.specs.View.{DriveIs, items, item_of_piece, block_of_piece}
use Rattle.sd_drive.specs.declared.limits.Limits.{Limits}
use Rattle.sd_journal.specs.Journal.{Entry, items_of, placements}
use Rattle.sd_lane.specs.Queue.{queued}
use Rattle.sd_lane.specs.declared.piece.Piece.{Piece}
use Rattle.sd_lane.specs.declared.piece.Queued.{Queued}
use Rattle.sd_ledger.specs.Ledger.{LedgerIs}
use Rattle.std.specs.List.{AllByRecursion}
use Rattle.sd_line.specs.Side.{CloseIs, SideIs, KeepsSide, TellsStand, items_taken, blocks_taken, told_close}
use Rattle.sd_line.specs.Turns.{Takes, Turns, is_sync_due}
use Rattle.sd_line.specs.declared.turning.Turned.{Turned}
use Rattle.sd_line.proofs.TurnLemmas.{lasts_on, places_limits, places_gone, syncs_stay}
use Rattle.sd_ruled.specs.Seats.{DriveSeatIs}
use Rattle.sd_volume.specs.Device.{OnlyReads}
use Rattle.sd_world.proofs.Seats.{GoneStays}
use Rattle.sd_world.specs.Devices.{GoesOn}

-- the side of a drive and of its seat, at which nothing was told
abbrev pub side_of : {D : Type 0} → ℕ → TableId → DriveIs D → DriveSeatIs → SideIs D
side_of own id d seat = record { no = own; drive = d; seat = seat; told = []; book = record { id = id; entries = [] } }

-- the same at which all this was told, and written down
abbrev pub side_told : {D : Type 0} → ℕ → LedgerIs (List (CloseIs D)) → DriveIs D → DriveSeatIs → List (CloseIs D) → SideIs D
side_told own book d seat told = record { no = own; drive = d; seat = seat; told = told; book = book }

-- what was told stands after what goes on
pub stand_on : {D : Type 0} (meaning : D → Meaning) (old new : D) (told : List (CloseIs D)) → GoesOn (λ _. Unit {0}) (meaning old) (meaning new)
    → TellsStand meaning old told → TellsStand meaning new told
stand_on meaning old new [] on stand = tt
stand_on meaning old new (c ∷ cs) on stand =
    (told_stays (meaning old) (meaning new) (told_close meaning c) on stand.0, stand_on meaning old new cs on stand.1)

-- and what was written down
pub written_on : {D : Type 0} (meaning : D → Meaning) (old new : D) (entries : List (List (CloseIs D))) → GoesOn (λ _. Unit {0}) (meaning old) (meaning new)
    → AllByRecursion (TellsStand meaning old) entries → AllByRecursion (TellsStand meaning new) entries
written_on meaning old new [] on all = tt
written_on meaning old new (e ∷ es) on all = (stand_on meaning old new e on all.0, written_on meaning old new es on all.1)

pub written_more : {D : Type 0} (meaning : D → Meaning) (device : D) (entries : List (List (CloseIs D))) (told : List (CloseIs D)) → AllByRecursion (TellsStand meaning device) entries
    → TellsStand meaning device told → AllByRecursion (TellsStand meaning device) (entries ++ told ∷ [])
written_more meaning device [] told all one = (one, tt)
written_more meaning device (e ∷ es) told all one = (all.0, written_more meaning device es told all.1 one)

-- each of these that is among them
pub written_at : {D : Type 0} (P : D → Type 0) (xs : List D) (at : ℕ) (x : D) → AllByRecursion P xs → slice_get xs at ≡ Some x → P x
written_at P [] at x all there = absurd (cc there)
written_at P (y ∷ ys) zero x all there = let same : y ≡ x = cc there in subst P same all.0
written_at P (y ∷ ys) (suc at) x all there = written_at P ys at x all.1 there

-- and so does one close more
pub stand_more : {D : Type 0} (meaning : D → Meaning) (device : D) (told : List (CloseIs D)) (c : CloseIs D) → TellsStand meaning device told
    → StandsTold (meaning device) (told_close meaning c) → TellsStand meaning device (told ++ c ∷ [])
stand_more meaning device [] c stand one = (one, tt)
stand_more meaning device (x ∷ xs) c stand one = (stand.0, stand_more meaning device xs c stand.1 one)

-- a device that is only read goes on
pub only_read : (fault : Type 0) (old new : Meaning) → OnlyReads fault old new → GoesOn (λ _. Unit {0}) old new
only_read fault old new r = lasts_on (λ _. Unit {0}) old new (record { honest = r.counted.honest; moment = r.counted.moment; lasts = r.lasts })

module _ {D : Type 0} (meaning : D → Meaning) (table : ℕ → TableId) (time : ℕ → ℕ) (own : ℕ) (id : TableId) where
  -- a call of the drive that keeps its pieces, of which no block is gone by it, keeps what the lock keeps
  pub calls_keep : (d after : DriveIs D) (seat : DriveSeatIs) → after.limits ≡ d.limits
      → KeepsPieces (meaning d.device) (meaning after.device) d.journal after.journal d.hand after.hand
      → ((key : SessionKey) → GoneStays key d after) → KeepsSide meaning table time (side_of own id d seat) → KeepsSide meaning table time (side_of own id after seat)
  calls_keep d after seat limits keeps gone h = record {
    here = h.here;
    lanes = h.lanes;
    run = ap (λ (l : Limits). l.time) limits ∙ h.run;
    limits = subst AreLimits (sym limits) h.limits;
    follows = keeps.items ∙ h.follows;
    none_gone = λ key. gone key (h.none_gone key);
    holds = λ honest. let was : IsHonest (meaning d.device) = subst IsTrue keeps.honest honest in keeps.blocks was ∙ h.holds was;
    stands = tt;
    booked = h.booked;
    written = tt;
  }

  -- the piece that was taken is the last of the items and of the blocks
  hand_items : (journal : List Entry) (piece : Piece) → items journal (Some piece) ≡ items journal None ++ item_of_piece piece ∷ []
  hand_items journal piece = ap (λ l. l ++ item_of_piece piece ∷ []) (sym (append-nil (items_of (placements journal))))

  hand_blocks : (shelf : Shelf) (journal : List Entry) (piece : Piece) → blocks shelf journal (Some piece) ≡ blocks shelf journal None ++ Some (block_of_piece piece) ∷ []
  hand_blocks shelf journal piece = ap (λ l. l ++ Some (block_of_piece piece) ∷ []) (sym (append-nil (map (block_of_entry shelf) journal)))

  -- so does a take
  takes_keep : (done : Bool) (d held : DriveIs D) (seat seat' : DriveSeatIs) → Takes done d seat held seat'
      → KeepsSide meaning table time (side_of own id d seat) → KeepsSide meaning table time (side_of own id held seat')
  takes_keep false d held seat seat' (is, is', empty) h =
      subst (λ (x : DriveIs D). KeepsSide meaning table time (side_of own id x seat')) (sym is)
      (subst (λ (x : DriveSeatIs). KeepsSide meaning table time (side_of own id d x)) (sym is') h)
  takes_keep true d held seat seat' (none, lane, least, most, piece, is, is') h =
      let q = queued lane piece in
      let without : items d.journal None ≡ items_taken seat.taken = ap (items d.journal) (sym none) ∙ h.follows in
      subst (λ (x : DriveIs D). KeepsSide meaning table time (side_of own id x seat')) (sym is)
      (subst (λ (x : DriveSeatIs). KeepsSide meaning table time (side_of own id (record d { hand = Some piece }) x)) (sym is') (record {
        here = h.here;
        lanes = h.lanes;
        run = h.run;
        limits = h.limits;
        follows = hand_items d.journal piece ∙ ap (λ l. l ++ item_of_piece piece ∷ []) without
            ∙ sym (map-append (λ (x : Queued). item_of_piece x.piece) seat.taken (q ∷ []));
        none_gone = h.none_gone;
        holds = λ honest.
            let shelf = (meaning d.device).shelf in
            let before : blocks shelf d.journal None ≡ blocks_taken seat.taken = ap (blocks shelf d.journal) (sym none) ∙ h.holds honest in
            hand_blocks shelf d.journal piece ∙ ap (λ l. l ++ Some (block_of_piece piece) ∷ []) before
            ∙ sym (map-append (λ (x : Queued). Some (block_of_piece x.piece)) seat.taken (q ∷ []));
        stands = tt;
        booked = h.booked;
        written = tt;
      }))

  -- and a turn
  pub turn_keeps : (did : Turned) (old new : DriveIs D) (seat seat' : DriveSeatIs) → Turns meaning did (side_of own id old seat) (side_of own id new seat')
      → KeepsSide meaning table time (side_of own id old seat) → KeepsSide meaning table time (side_of own id new seat')
  turn_keeps did old new seat seat' t h =
      let taken = takes_keep did.took old t.held seat seat' t.takes h in
      let calls = t.places.calls in
      let placed = calls_keep t.held t.after seat' (places_limits did.place t.held t.after t.places.places) calls.keeps
      (places_gone did.place t.held t.after t.places.places calls.keeps.items) taken in
      let synced = syncs_stay meaning (is_sync_due did.place) did.sync t.after new t.syncs in
      calls_keep t.after new seat' synced.limits synced.keeps synced.gone placed

  -- What was told is kept beside the rest.

  pub with_told : (d : DriveIs D) (seat : DriveSeatIs) (told : List (CloseIs D)) (entries : List (List (CloseIs D))) → TellsStand meaning d.device told
      → AllByRecursion (TellsStand meaning d.device) entries
      → KeepsSide meaning table time (side_of own id d seat) → KeepsSide meaning table time (side_told own (record { id = id; entries = entries }) d seat told)
  with_told d seat told entries stand all h = record {
    here = h.here;
    lanes = h.lanes;
    run = h.run;
    limits = h.limits;
    follows = h.follows;
    none_gone = h.none_gone;
    holds = h.holds;
    stands = stand;
    booked = h.booked;
    written = all;
  }

  pub without_told : (d : DriveIs D) (seat : DriveSeatIs) (told : List (CloseIs D)) (entries : List (List (CloseIs D)))
      → KeepsSide meaning table time (side_told own (record { id = id; entries = entries }) d seat told) → KeepsSide meaning table time (side_of own id d seat)
  without_told d seat told entries h = record {
    here = h.here;
    lanes = h.lanes;
    run = h.run;
    limits = h.limits;
    follows = h.follows;
    none_gone = h.none_gone;
    holds = h.holds;
    stands = tt;
    booked = h.booked;
    written = tt;
  }

  -- through what the drive and its seat keep, while the device goes on
  pub told_keep : (old new : DriveIs D) (seat seat' : DriveSeatIs) (told : List (CloseIs D)) (entries : List (List (CloseIs D)))
      → GoesOn (λ _. Unit {0}) (meaning old.device) (meaning new.device)
      → (KeepsSide meaning table time (side_of own id old seat) → KeepsSide meaning table time (side_of own id new seat'))
      → KeepsSide meaning table time (side_told own (record { id = id; entries = entries }) old seat told)
      → KeepsSide meaning table time (side_told own (record { id = id; entries = entries }) new seat' told)
  told_keep old new seat seat' told entries on keep h =
      with_told new seat' told entries (stand_on meaning old.device new.device told on h.stands) (written_on meaning old.device new.device entries on h.written)
      (keep (without_told old seat told entries h))
