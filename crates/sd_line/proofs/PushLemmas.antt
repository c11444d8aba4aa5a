-- What a push by a seat leaves of the seat and of the queue as the seat knows it.
use Rattle.std.proofs.Common.{◌≡◌, ℕ, eq-eqb, if◌then◌else◌, refl, sym, ap, subst, ◌∙◌, List, [], ◌∷◌, ◌++◌}
use Rattle.std.specs.Prelude.{Result, Ok, Err, IfOk}
use Rattle.sd_base.specs.declared.refusal.Refusal.{Refusal}
use Rattle.sd_lane.specs.declared.piece.Piece.{Piece}
use Rattle.sd_lane.specs.declared.piece.Queued.{Queued}
use Rattle.sd_lane.specs.Queue.{queued, pieces_of, Sends, SendsNone}
use Rattle.sd_line.specs.Side.{SeatIs, sends_one}
use Rattle.sd_session.specs.Session.{SessionView}
use Rattle.sd_session.specs.Sending.{SendsBody, Despools}
use Rattle.sd_session.specs.declared.answer.Despooled.{Despooled}
use Rattle.sd_session.specs.declared.answer.Despooled.TheVariants.{Sent, LaneFull, Nothing, NotDue}
use Rattle.sd_line.specs.Parts.{SendsBy, sent_by_seat, queue_at, next_piece, number_kept}

-- what a seat sent by its own lane
own_sent : (s : SeatIs) (lane : ℕ) → lane ≡ s.seat.lane → sent_by_seat s lane ≡ s.seat.sent
own_sent s lane is = ap (λ b. if b then s.seat.sent else []) (eq-eqb s.seat.lane lane (sym is))

-- one piece by the lane that pushed it
own_piece : (lane lane' : ℕ) (p : Piece) → lane' ≡ lane → pieces_of lane' (queued lane p ∷ []) ≡ p ∷ []
own_piece lane lane' p is = ap (λ b. if b then p ∷ [] else []) (eq-eqb lane lane' (sym is))

-- the number that a list tells
abbrev told_number : List Queued → ℕ
told_number [] = 0
told_number (q ∷ qs) = q.lane

pub same_number : (n m : ℕ) → number_kept n ≡ number_kept m → n ≡ m
same_number n m is = ap told_number is

-- what a seat keeps that only its lane may change by
pub record SameSeat (old new : SeatIs) : Type 0 where
  pub no_is : new.no ≡ old.no
  pub table_is : new.seat.table ≡ old.seat.table
  pub lanes_are : new.seat.lanes ≡ old.seat.lanes
  pub lane_is : new.seat.lane ≡ old.seat.lane

-- the seat, by what it sent
seat_by : (old new : SeatIs) (sent : List Piece) → SameSeat old new → new.seat.sent ≡ sent → new ≡ record old { seat = record old.seat { sent = sent } }
seat_by old new sent same is =
    ap (λ x. let s : SeatIs = record { no = x; seat = record { table = new.seat.table; lanes = new.seat.lanes; lane = new.seat.lane; sent = new.seat.sent } } in s) same.no_is
    ∙ ap (λ x. let s : SeatIs = record { no = old.no; seat = record { table = x; lanes = new.seat.lanes; lane = new.seat.lane; sent = new.seat.sent } } in s) same.table_is
    ∙ ap (λ x. let s : SeatIs = record { no = old.no; seat = record { table = old.seat.table; lanes = x; lane = new.seat.lane; sent = new.seat.sent } } in s) same.lanes_are
    ∙ ap (λ x. let s : SeatIs = record { no = old.no; seat = record { table = old.seat.table; lanes = old.seat.lanes; lane = x; sent = new.seat.sent } } in s) same.lane_is
    ∙ ap (λ x. let s : SeatIs = record { no = old.no; seat = record { table = old.seat.table; lanes = old.seat.lanes; lane = old.seat.lane; sent = x } } in s) is

pub seat_sent : (old new : SeatIs) (x : Piece) (lane : ℕ) → SameSeat old new → lane ≡ old.seat.lane
    → Sends (sent_by_seat old) (sent_by_seat new) (queued lane x) → new ≡ sends_one x old
seat_sent old new x lane same own sends =
    seat_by old new (old.seat.sent ++ x ∷ []) same
    (sym (own_sent new old.seat.lane (sym same.lane_is))
    ∙ sends old.seat.lane
    ∙ ap (λ l. l ++ pieces_of old.seat.lane (queued lane x ∷ [])) (own_sent old old.seat.lane refl)
    ∙ ap (λ l. old.seat.sent ++ l) (own_piece lane old.seat.lane x (sym own)))

pub seat_stays : (old new : SeatIs) → SameSeat old new → SendsNone (sent_by_seat old) (sent_by_seat new) → new ≡ old
seat_stays old new same none =
    seat_by old new old.seat.sent same
    (sym (own_sent new old.seat.lane (sym same.lane_is)) ∙ none old.seat.lane ∙ own_sent old old.seat.lane refl)

-- what a step of sending by a seat did
pub sends_by : (answer : Despooled) (capacity capacity' : ℕ) (old new : SeatIs) (s v : SessionView) → s.lane ≡ old.seat.lane → SameSeat old new → capacity' ≡ capacity
    → (answer ≡ Nothing → new ≡ old) → (answer ≡ NotDue → new ≡ old)
    → Despools answer s (queue_at capacity old) v (queue_at capacity' new) → SendsBy answer capacity old s new v
sends_by Sent capacity capacity' old new s v lane same room nothing not_due d =
    let sends : SendsBody s (queue_at capacity old) v (queue_at capacity new) = subst (λ n. SendsBody s (queue_at capacity old) v (queue_at n new)) room d in
    (sends, seat_sent old new (next_piece s sends.body) s.lane same lane sends.puts_in.sends)
sends_by LaneFull capacity capacity' old new s v lane same room nothing not_due d =
    (subst (λ n. Despools LaneFull s (queue_at capacity old) v (queue_at n new)) room d, seat_stays old new same d.is_full.none_sent)
sends_by Nothing capacity capacity' old new s v lane same room nothing not_due d = (d, nothing refl)
sends_by NotDue capacity capacity' old new s v lane same room nothing not_due d = (d, not_due refl)

pub answers_by : (result : Result Despooled Refusal) (capacity capacity' : ℕ) (old new : SeatIs) (s v : SessionView) → s.lane ≡ old.seat.lane → SameSeat old new → capacity' ≡ capacity
    → (result ≡ Ok Nothing → new ≡ old) → (result ≡ Ok NotDue → new ≡ old)
    → IfOk result (λ answer. Despools answer s (queue_at capacity old) v (queue_at capacity' new)) → IfOk result (λ answer. SendsBy answer capacity old s new v)
answers_by (Ok answer) capacity capacity' old new s v lane same room nothing not_due d =
    sends_by answer capacity capacity' old new s v lane same room (λ e. nothing (ap Ok e)) (λ e. not_due (ap Ok e)) d
answers_by (Err why) capacity capacity' old new s v lane same room nothing not_due d = tt
