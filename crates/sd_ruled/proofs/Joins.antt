-- Seats that are cut off and come back.
use Rattle.std.proofs.Common.{◌≡◌, ◌≢◌, ◌⊎◌, ◌≤◌, ◌<◌, ℕ, zero, suc, eq-eqb, ne_eqb, List, [], ◌∷◌, ◌++◌, ◌+◌, map, length, Some, sym, refl, ap, ◌∙◌, ⊎_elim, inl, inr, length-append, arith}
use Rattle.std.specs.Prelude.{slice_get, if◌then◌else◌}
use native.Mathlib.Decide.{ℕ_discrete}
use Rattle.atomic_table.specs.Seated.{TableId}
use Rattle.sd_lane.specs.declared.piece.Queued.{Queued}
use Rattle.sd_lane.specs.Queue.{queued, pieces_of, LanesFollow, AreOfLanes}
use Rattle.sd_ruled.specs.Passes.{of_others}
use Rattle.sd_ruled.specs.Seats.{LaneSeatIs, AreSeats, seat_of, seats_of, sent_by}
use Rattle.sd_ruled.proofs.Pieces.{others_as, own_is, none_outside}

get_snoc : (xs : List LaneSeatIs) (x s : LaneSeatIs) (k : ℕ) → slice_get (xs ++ x ∷ []) k ≡ Some s → (slice_get xs k ≡ Some s) ⊎ ((k ≡ length xs) × (x ≡ s))
get_snoc [] x s zero e = inr (refl, cc e)
get_snoc [] x s (suc k) e = absurd (cc e)
get_snoc (y ∷ ys) x s zero e = inl e
get_snoc (y ∷ ys) x s (suc k) e = ⊎_elim (λ t. inl t) (λ t. inr (ap suc t.0, t.1)) (get_snoc ys x s k e)

get_last : (xs : List LaneSeatIs) (x : LaneSeatIs) → slice_get (xs ++ x ∷ []) (length xs) ≡ Some x
get_last [] x = refl
get_last (y ∷ ys) x = get_last ys x

get_front : (xs ys : List LaneSeatIs) (k : ℕ) (s : LaneSeatIs) → slice_get xs k ≡ Some s → slice_get (xs ++ ys) k ≡ Some s
get_front [] ys k s e = absurd (cc)
get_front (x ∷ xs) ys zero s e = e
get_front (x ∷ xs) ys (suc k) s e = get_front xs ys k s e

-- ---- split

seats_length : (table : TableId) (lanes : ℕ) (all : List Queued) (n : ℕ) → length (seats_of table lanes all n) ≡ n
seats_length table lanes all zero = refl
seats_length table lanes all (suc n) =
    length-append (seats_of table lanes all n) (seat_of table lanes (suc n) (pieces_of (suc n) all) ∷ []) ∙ (let e = seats_length table lanes all n in omega (arith, e))

seats_are : (table : TableId) (lanes : ℕ) (all : List Queued) (n : ℕ) → AreSeats table (seats_of table lanes all n)
seats_are table lanes all zero k s e = absurd (cc e)
seats_are table lanes all (suc n) k s e =
    let last = seat_of table lanes (suc n) (pieces_of (suc n) all) in
    ⊎_elim (seats_are table lanes all n k s)
    (λ (t : (k ≡ length (seats_of table lanes all n)) × (last ≡ s)). (
      ap (λ (y : LaneSeatIs). y.table) (sym t.1),
      ap (λ (y : LaneSeatIs). y.lane) (sym t.1) ∙ ap suc (sym (seats_length table lanes all n) ∙ sym t.0),
    ))
    (get_snoc (seats_of table lanes all n) last s k e)

pub cut_length : (table : TableId) (lanes : ℕ) (all : List Queued) (n m : ℕ) (seats : List LaneSeatIs) → seats ≡ seats_of table lanes all n → n ≡ m → length seats ≡ m
cut_length table lanes all n m seats is same = ap length is ∙ (seats_length table lanes all n ∙ same)

pub cut_are : (table here : TableId) (lanes : ℕ) (all : List Queued) (n : ℕ) (seats : List LaneSeatIs) → seats ≡ seats_of table lanes all n → table ≡ here → AreSeats here seats
cut_are table here lanes all n seats is same k s e = let r = seats_are table lanes all n k s (ap (λ l. slice_get l k) (sym is) ∙ e) in (r.0 ∙ same, r.1)

-- ---- join

pub last_seat : (table : TableId) (seats rest : List LaneSeatIs) (seat : LaneSeatIs) → AreSeats table seats → seats ≡ rest ++ seat ∷ [] → (seat.table ≡ table) × (seat.lane ≡ suc (length rest))
last_seat table seats rest seat are all = are (length rest) seat (ap (λ l. slice_get l (length rest)) all ∙ get_last rest seat)

pub front_seats : (table : TableId) (seats rest : List LaneSeatIs) (seat : LaneSeatIs) → AreSeats table seats → seats ≡ rest ++ seat ∷ [] → AreSeats table rest
front_seats table seats rest seat are all k s e = are k s (ap (λ l. slice_get l k) all ∙ get_front rest (seat ∷ []) k s e)

-- what is known to have been sent, of the lanes after these seats and of theirs
pub gathered : (seats rest : List LaneSeatIs) (seat : LaneSeatIs) (old met new : List Queued) → seats ≡ rest ++ seat ∷ [] → seat.lane ≡ suc (length rest)
    → met ≡ of_others seat.lane old ++ map (queued seat.lane) seat.sent → ((k : ℕ) → length rest < k → pieces_of k new ≡ pieces_of k met)
    → ((k : ℕ) (s : LaneSeatIs) → slice_get rest k ≡ Some s → pieces_of (suc k) new ≡ s.sent) → (k : ℕ) (s : LaneSeatIs) → slice_get seats k ≡ Some s → pieces_of (suc k) new ≡ s.sent
gathered seats rest seat old met new all lane met_is h theirs k s e =
    ⊎_elim (theirs k s)
    (λ (t : (k ≡ length rest) × (seat ≡ s)).
    h (suc k) (omega (arith, t.0))
    ∙ (ap (pieces_of (suc k)) met_is
    ∙ (ap (λ j. pieces_of j (of_others seat.lane old ++ map (queued seat.lane) seat.sent)) (ap suc t.0 ∙ sym lane)
    ∙ (own_is seat.lane old seat.sent ∙ ap (λ (y : LaneSeatIs). y.sent) t.1))))
    (get_snoc rest seat s k (ap (λ l. slice_get l k) (sym all) ∙ e))

-- of the lanes after these seats it is as before
pub gathered_behind : (seats rest : List LaneSeatIs) (seat : LaneSeatIs) (old met new : List Queued) → seats ≡ rest ++ seat ∷ [] → seat.lane ≡ suc (length rest)
    → met ≡ of_others seat.lane old ++ map (queued seat.lane) seat.sent → ((k : ℕ) → length rest < k → pieces_of k new ≡ pieces_of k met) → (k : ℕ) → length seats < k → pieces_of k new ≡ pieces_of k old
gathered_behind seats rest seat old met new all lane met_is h k m =
    let len : length seats ≡ length rest + 1 = ap length all ∙ length-append rest (seat ∷ []) in
    h k (omega (arith, len, m)) ∙ (ap (pieces_of k) met_is ∙ others_as seat.lane k old seat.sent (λ e. absurd (omega (arith, e, lane, len, m))))

-- ---- the rule, after a join

is_sent_by : (seats : List LaneSeatIs) (qs : List Queued) (lane : ℕ) → ((k : ℕ) (s : LaneSeatIs) → slice_get seats k ≡ Some s → pieces_of s.lane qs ≡ s.sent)
    → (((k : ℕ) (s : LaneSeatIs) → slice_get seats k ≡ Some s → s.lane ≢ lane) → pieces_of lane qs ≡ []) → sent_by seats lane ≡ pieces_of lane qs
is_sent_by [] qs lane each none = sym (none (λ k s e. absurd (cc e)))
is_sent_by (x ∷ xs) qs lane each none = elim (ℕ_discrete x.lane lane) as (λ _. sent_by (x ∷ xs) lane ≡ pieces_of lane qs) [
  | yes y ↦ ap (λ b. if b then x.sent else sent_by xs lane) (eq-eqb x.lane lane y) ∙ (sym (each 0 x refl) ∙ ap (λ j. pieces_of j qs) y)
  | no n ↦ ap (λ b. if b then x.sent else sent_by xs lane) (ne_eqb x.lane lane n) ∙ is_sent_by xs qs lane (λ k s e. each (suc k) s e) (λ h. none (front h n))
]
  where
    front : ((k : ℕ) (s : LaneSeatIs) → slice_get xs k ≡ Some s → s.lane ≢ lane) → x.lane ≢ lane → (k : ℕ) (s : LaneSeatIs) → slice_get (x ∷ xs) k ≡ Some s → s.lane ≢ lane
    front h n zero s e = let same : x ≡ s = cc e in λ f. n (ap (λ (y : LaneSeatIs). y.lane) same ∙ f)
    front h n (suc k) s e = h k s e

get_some : (xs : List LaneSeatIs) (k : ℕ) → k < length xs → (s : LaneSeatIs) × (slice_get xs k ≡ Some s)
get_some [] k less = absurd (omega arith)
get_some (x ∷ xs) zero less = (x, refl)
get_some (x ∷ xs) (suc k) less = get_some xs k (omega arith)

pub joined : (table : TableId) (lanes : ℕ) (seats : List LaneSeatIs) (taken held : List Queued) → AreSeats table seats → length seats ≡ lanes → AreOfLanes lanes (taken ++ held)
    → ((k : ℕ) (s : LaneSeatIs) → slice_get seats k ≡ Some s → pieces_of (suc k) (taken ++ held) ≡ s.sent) → LanesFollow (λ lane. sent_by seats lane) taken held
joined table lanes seats taken held are many of_lanes each lane =
    is_sent_by seats (taken ++ held) lane (λ k s e. ap (λ j. pieces_of j (taken ++ held)) (are k s e).1 ∙ each k s e)
    (λ none. none_outside lanes lane (taken ++ held) of_lanes (out none))
  where
    out : ((k : ℕ) (s : LaneSeatIs) → slice_get seats k ≡ Some s → s.lane ≢ lane) → (l : ℕ) → 1 ≤ l → l ≤ lanes → l ≢ lane
    out none zero least most = absurd (omega (arith, least))
    out none (suc j) least most = let r = get_some seats j (omega (arith, many, most)) in λ e. none j r.0 r.1 ((are j r.0 r.1).1 ∙ e)
