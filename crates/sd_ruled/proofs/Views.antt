-- What contracts see of seats, after a step.
use Rattle.std.proofs.Common.{◌≡◌, ◌≤◌, ℕ, Bool, true, false, ◌==◌, eq-eqb, List, [], ◌∷◌, ◌++◌, if◌then◌else◌, length, Option, None, Some, refl, sym, ap, ◌∙◌, subst, arith}
use Rattle.std.specs.Prelude.{⊤, Result, Ok, Err, OnOk, OnErr, IfSome, IfNone, MatchOption}
use Rattle.atomic_table.specs.Seated.{TableId}
use Rattle.crossbeam_queue.specs.Fifo.{Held}
use Rattle.sd_lane.specs.declared.piece.Piece.{Piece}
use Rattle.sd_lane.specs.declared.piece.Queued.{Queued}
use Rattle.sd_lane.specs.Queue.{queued, pieces_of, Sends, WasFull}
use Rattle.sd_ruled.specs.Passes.{PassView, of_drive, with_guest}
use Rattle.sd_ruled.specs.Seats.{RuledView, LaneSeatIs, DriveSeatIs, WasEmpty}
use Rattle.sd_ruled.specs.Steps.{Tells, Took}
use Rattle.sd_ruled.proofs.Counts.{was_empty}
use Rattle.sd_ruled.proofs.Pieces.{all_taken}

abbrev drive_of : TableId → ℕ → PassView → DriveSeatIs
drive_of table lanes v = record { table = table; lanes = lanes; before = v.before; taken = v.taken }

abbrev owner_of : TableId → ℕ → ℕ → List Queued → List Queued → RuledView
owner_of table lanes capacity held taken = record { table = table; lanes = lanes; capacity = capacity; taken = taken; held = held }

-- the drive's seat after a take
drive_took : (table now : TableId) (lanes : ℕ) (v w : PassView) (q : Queued) (old : DriveSeatIs) → drive_of table lanes v ≡ old
    → w ≡ of_drive v.lanes v.away v.before (v.taken ++ q ∷ []) → now ≡ table
    → drive_of now lanes w ≡ record old { taken = old.taken ++ q ∷ [] }
drive_took table now lanes v w q old is took same =
    ap (λ t. drive_of t lanes w) same
    ∙ (ap (λ u. drive_of table lanes u) took
    ∙ ap (λ (d : DriveSeatIs). record d { taken = d.taken ++ q ∷ [] }) is)

-- what the drive's pass learns of a take
abbrev Told : PassView → PassView → Option Queued → Type 0
Told v w r = MatchOption r ((w ≡ v) × Held 0 (Tells v)) (λ q. Took v q w)

pub took_first : (table now : TableId) (lanes : ℕ) (v w : PassView) (r : Option Queued) (old : DriveSeatIs) → drive_of table lanes v ≡ old → v.lanes ≡ lanes → now ≡ table → Told v w r
    → IfSome r (λ q. (1 ≤ q.lane) × (q.lane ≤ old.lanes) × (drive_of now lanes w ≡ record old { taken = old.taken ++ q ∷ [] }))
took_first table now lanes v w None old is all same told = tt
took_first table now lanes v w (Some q) old is all same told = (
  told.1,
  omega (arith, told.2, all, ap (λ (d : DriveSeatIs). d.lanes) is),
  drive_took table now lanes v w q old is told.0 same,
)

pub took_none : (table : TableId) (lanes : ℕ) (v w : PassView) (r : Option Queued) (old : DriveSeatIs) → drive_of table lanes v ≡ old → v.takes ≡ true → Told v w r → IfNone r (WasEmpty old.before old.taken)
took_none table lanes v w None old is takes told = subst (λ (d : DriveSeatIs). WasEmpty d.before d.taken) is (was_empty v takes told.1)
took_none table lanes v w (Some q) old is takes told = tt

-- the drive's seat and a lane's, of which the drive's pass learned while it had the lane's in it
pub took_all : (drive : DriveSeatIs) (seat : LaneSeatIs) (v u w : PassView) (held : List Queued) → w ≡ with_guest v u → Tells w held → v.taken ≡ drive.taken → u.lane ≡ seat.lane → u.sent ≡ seat.sent
    → length (pieces_of seat.lane drive.taken) ≡ length seat.sent → pieces_of seat.lane drive.taken ≡ seat.sent
took_all drive seat v u w held is told taken lane sent =
    let e : pieces_of u.lane (v.taken ++ held) ≡ u.sent = (subst (λ x. Tells x held) is told).hosts refl in
    all_taken seat.lane drive.taken held seat.sent ((λ i. pieces_of (sym lane i) (sym taken i ++ held)) ∙ (e ∙ sent))

-- a queue with one owner after a take
pub owner_took : (table : TableId) (lanes capacity : ℕ) (v w : PassView) (q : Queued) (old : RuledView)
    → ◌≡◌ {A = RuledView} (record { table = table; lanes = lanes; capacity = capacity; taken = v.taken; held = v.held }) old
    → w.taken ≡ v.taken ++ q ∷ []
    → ◌≡◌ {A = RuledView} (record { table = table; lanes = lanes; capacity = capacity; taken = w.taken; held = w.held }) (record old { taken = old.taken ++ q ∷ []; held = w.held })
owner_took table lanes capacity v w q old is took =
    ap (owner_of table lanes capacity w.held) took ∙ ap (λ (r : RuledView). record r { taken = r.taken ++ q ∷ []; held = w.held }) is

-- ---- a seat, as a lane

-- what the lanes sent, so far as a seat knows
abbrev sent_of : LaneSeatIs → ℕ → List Piece
sent_of seat lane = if seat.lane == lane then seat.sent else []

seat_sends : (lane : ℕ) (old new : LaneSeatIs) (x : Piece) → lane ≡ old.lane → new ≡ record old { sent = old.sent ++ x ∷ [] } → Sends (sent_of old) (sent_of new) (queued lane x)
seat_sends lane old new x same is k =
    ap (λ s. sent_of s k) is ∙ (of_test (old.lane == k) ∙ ap (λ j. sent_of old k ++ pieces_of k (queued j x ∷ [])) (sym same))
  where
    of_test : (test : Bool) → (if test then old.sent ++ x ∷ [] else []) ≡ (if test then old.sent else []) ++ (if test then x ∷ [] else [])
    of_test true = refl
    of_test false = refl

pub ref_sends : (result : Result ⊤ Piece) (lane : ℕ) (old new : LaneSeatIs) (x : Piece) → lane ≡ old.lane → OnOk result (new ≡ record old { sent = old.sent ++ x ∷ [] })
    → OnOk result (Sends (sent_of old) (sent_of new) (queued lane x))
ref_sends (Ok u) lane old new x same is = seat_sends lane old new x same is
ref_sends (Err back) lane old new x same is = tt

pub ref_full : (result : Result ⊤ Piece) (lane capacity : ℕ) (seat : LaneSeatIs) → lane ≡ seat.lane → OnErr result (WasFull seat.lanes capacity seat.lane seat.sent)
    → OnErr result (WasFull seat.lanes capacity lane (sent_of seat lane))
ref_full (Ok u) lane capacity seat same full = tt
ref_full (Err back) lane capacity seat same full =
    subst (WasFull seat.lanes capacity lane) (sym (ap (λ b. if b then seat.sent else []) (eq-eqb seat.lane lane (sym same))))
    (subst (λ j. WasFull seat.lanes capacity j seat.sent) (sym same) full)
