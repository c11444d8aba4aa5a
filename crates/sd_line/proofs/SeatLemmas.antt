-- The seats of a new line, none of which sent anything.
use Rattle.std.proofs.Common.{◌≡◌, ℕ, zero, suc, refl, sym, subst, List, [], ◌∷◌, ◌++◌, Some}
use Rattle.std.specs.Prelude.{slice_get}
use Rattle.std.specs.List.{AllByRecursion}
use Rattle.atomic_table.specs.Seated.{TableId}
use Rattle.sd_line.specs.Side.{SeatIs, seats_at}
use Rattle.sd_ruled.specs.Seats.{LaneSeatIs, seats_of, seat_of}

-- the seat has this number, and sent nothing
abbrev IsNew : ℕ → SeatIs → Type 0
IsNew own s = (s.no ≡ own) × (s.seat.sent ≡ [])

-- each of them is so
abbrev AreNew : ℕ → List SeatIs → Type 0
AreNew own [] = Unit {0}
AreNew own (s ∷ ss) = IsNew own s × AreNew own ss

new_behind : (own : ℕ) (ss : List LaneSeatIs) (s : LaneSeatIs) → AreNew own (seats_at own ss) → s.sent ≡ [] → AreNew own (seats_at own (ss ++ s ∷ []))
new_behind own [] s h none = ((refl, none), tt)
new_behind own (x ∷ ss) s h none = (h.0, new_behind own ss s h.1 none)

all_new : (own : ℕ) (table : TableId) (lanes n : ℕ) → AreNew own (seats_at own (seats_of table lanes [] n))
all_new own table lanes zero = tt
all_new own table lanes (suc n) = new_behind own (seats_of table lanes [] n) (seat_of table lanes (suc n) []) (all_new own table lanes n) refl

one_of : (own : ℕ) (ss : List SeatIs) (k : ℕ) (s : SeatIs) → AreNew own ss → slice_get ss k ≡ Some s → IsNew own s
one_of own [] k s h is = absurd (cc is)
one_of own (x ∷ ss) zero s h is = let e : x ≡ s = cc is in subst (IsNew own) e h.0
one_of own (x ∷ ss) (suc k) s h is = one_of own ss k s h.1 is

pub seats_new : (own : ℕ) (table : TableId) (lanes n : ℕ) (seats : List SeatIs) → seats ≡ seats_at own (seats_of table lanes [] n)
    → (k : ℕ) (s : SeatIs) → slice_get seats k ≡ Some s → (s.no ≡ own) × (s.seat.sent ≡ [])
seats_new own table lanes n seats is k s at = one_of own seats k s (subst (AreNew own) (sym is) (all_new own table lanes n)) at

-- The lanes' own seats, before they have the number.

-- the seat sent nothing
abbrev SentNone : LaneSeatIs → Type 0
SentNone s = s.sent ≡ []

none_behind : (ss : List LaneSeatIs) (s : LaneSeatIs) → AllByRecursion SentNone ss → s.sent ≡ [] → AllByRecursion SentNone (ss ++ s ∷ [])
none_behind [] s h none = (none, tt)
none_behind (x ∷ ss) s h none = (h.0, none_behind ss s h.1 none)

all_none : (table : TableId) (lanes n : ℕ) → AllByRecursion SentNone (seats_of table lanes [] n)
all_none table lanes zero = tt
all_none table lanes (suc n) = none_behind (seats_of table lanes [] n) (seat_of table lanes (suc n) []) (all_none table lanes n) refl

none_of : (ss : List LaneSeatIs) (k : ℕ) (s : LaneSeatIs) → AllByRecursion SentNone ss → slice_get ss k ≡ Some s → s.sent ≡ []
none_of [] k s h is = absurd (cc is)
none_of (x ∷ ss) zero s h is = let e : x ≡ s = cc is in subst SentNone e h.0
none_of (x ∷ ss) (suc k) s h is = none_of ss k s h.1 is

pub lanes_new : (table : TableId) (lanes n : ℕ) (seats : List LaneSeatIs) → seats ≡ seats_of table lanes [] n
    → (k : ℕ) (s : LaneSeatIs) → slice_get seats k ≡ Some s → s.sent ≡ []
lanes_new table lanes n seats is k s at = none_of seats k s (subst (AllByRecursion SentNone) (sym is) (all_none table lanes n)) at
