-- How often a key is one of the sessions of lanes, and which pieces of a lane are a session's.
use Rattle.std.proofs.Common.{◌≡◌, ◌≢◌, ℕ, zero, suc, ◌+◌, ◌≤◌, ◌==◌, if◌then◌else◌, refl, sym, ap, ap₂, subst, ◌∙◌, arith, Bool, true, false, Some, List, [], ◌∷◌, ◌++◌, append-nil, slice_get}
use Rattle.std.specs.List.{AllByRecursion}
use Rattle.std.proofs.lemmas.Bool.{eq-eqb}
use Rattle.std.proofs.lemmas.List.Sums.{sum_by-append, sum_by-cons}
use Rattle.sd_base.specs.Key.{is_key}
use Rattle.sd_base.specs.declared.number.SessionKey.{SessionKey}
use Rattle.sd_journal.proofs.KeyLemmas.{key_same_self, key_turned}
use Rattle.sd_lane.specs.Queue.{AreOfLanes, pieces_of}
use Rattle.sd_lane.specs.declared.piece.Piece.{Piece}
use Rattle.sd_lane.specs.declared.piece.Queued.{Queued}
use Rattle.sd_pack.specs.Body.{PackedBody}
use Rattle.sd_line.specs.Ends.{RestsOn, SentBy, TellsAll, ToldSession, pieces_from}
use Rattle.sd_hub.specs.Settles.{AreDistinct, SettledLaneIs, times_of}
use Rattle.sd_hub.specs.Worlds.{lane_sessions}
use Rattle.sd_closes.specs.Pieces.{keyed, pieces_in}
use Rattle.sd_closes.proofs.Pieces.{keyed-append}
use Rattle.sd_line.proofs.TellLemmas.{keyed-own}
use Rattle.sd_hub.proofs.Pieces.{keyed-other}

-- How often a key is a session's.

-- one if it is, else none
abbrev once : Bool → ℕ
once own = if own then 1 else 0

-- one session more in front
pub times-cons : (key : SessionKey) (s : ToldSession) (ss : List ToldSession) → times_of key (s ∷ ss) ≡ once (is_key s.session.key key) + times_of key ss
times-cons key s ss = sum_by-cons (λ (x : ToldSession). once (is_key x.session.key key)) s ss

-- over two lists, one after the other
pub times-append : (key : SessionKey) (ss more : List ToldSession) → times_of key (ss ++ more) ≡ times_of key ss + times_of key more
times-append key ss more = sum_by-append (λ (x : ToldSession). once (is_key x.session.key key)) ss more

-- the key of the session in front counts
pub times_first : (s : ToldSession) (ss : List ToldSession) → times_of s.session.key (s ∷ ss) ≡ 1 + times_of s.session.key ss
times_first s ss = times-cons s.session.key s ss ∙ ap (λ own. once own + times_of s.session.key ss) (key_same_self s.session.key)

-- it counts wherever the session is
pub times_least : (ss : List ToldSession) (at : ℕ) (s : ToldSession) → slice_get ss at ≡ Some s → 1 ≤ times_of s.session.key ss
times_least [] at s there = absurd (cc there)
times_least (x ∷ ss) zero s there =
    let same : x ≡ s = cc there in
    let n = times_first x ss in
    subst (λ (y : ToldSession). 1 ≤ times_of y.session.key (x ∷ ss)) same (omega (arith, n))
times_least (x ∷ ss) (suc at) s there =
    let n = times-cons s.session.key x ss in
    let rest = times_least ss at s there in
    omega (arith, n, rest)

-- if none counts, the session in front has another key, and none after it has this one
not_counted : (own : Bool) (n : ℕ) → once own + n ≡ 0 → (own ≡ false) × (n ≡ 0)
not_counted true n none = absurd (omega (arith, none))
not_counted false n none = (refl, omega (arith, none))

-- if one counts after it and no more do, the session in front has another key
one_counted : (own : Bool) (n : ℕ) → once own + n ≤ 1 → 1 ≤ n → own ≡ false
one_counted true n most least = absurd (omega (arith, most, least))
one_counted false n most least = refl

-- those after the first are distinct too
pub distinct_behind : (s : ToldSession) (ss : List ToldSession) → AreDistinct (s ∷ ss) → AreDistinct ss
distinct_behind s ss apart at x there =
    let n = times-cons x.session.key s ss in
    let most = apart (suc at) x there in
    omega (arith, n, most)

-- Over lanes.

-- what one lane has, all lanes have
pub times_lane : (key : SessionKey) (ls : List SettledLaneIs) (at : ℕ) (l : SettledLaneIs) → slice_get ls at ≡ Some l → times_of key l.sessions ≤ times_of key (lane_sessions ls)
times_lane key [] at l there = absurd (cc there)
times_lane key (x ∷ ls) zero l there =
    let same : x ≡ l = cc there in
    let n = times-append key x.sessions (lane_sessions ls) in
    subst (λ (y : SettledLaneIs). times_of key y.sessions ≤ times_of key (lane_sessions (x ∷ ls))) same (omega (arith, n))
times_lane key (x ∷ ls) (suc at) l there =
    let n = times-append key x.sessions (lane_sessions ls) in
    let rest = times_lane key ls at l there in
    omega (arith, n, rest)

-- so have two lanes together
pub times_two : (key : SessionKey) (ls : List SettledLaneIs) (at other : ℕ) (l m : SettledLaneIs) → slice_get ls at ≡ Some l → slice_get ls other ≡ Some m → at ≢ other
    → times_of key l.sessions + times_of key m.sessions ≤ times_of key (lane_sessions ls)
times_two key [] at other l m there there' apart = absurd (cc there)
times_two key (x ∷ ls) zero zero l m there there' apart = absurd (apart refl)
times_two key (x ∷ ls) zero (suc other) l m there there' apart =
    let same : x ≡ l = cc there in
    let n = times-append key x.sessions (lane_sessions ls) in
    let rest = times_lane key ls other m there' in
    subst (λ (y : SettledLaneIs). times_of key y.sessions + times_of key m.sessions ≤ times_of key (lane_sessions (x ∷ ls))) same (omega (arith, n, rest))
times_two key (x ∷ ls) (suc at) zero l m there there' apart =
    let same : x ≡ m = cc there' in
    let n = times-append key x.sessions (lane_sessions ls) in
    let rest = times_lane key ls at l there in
    subst (λ (y : SettledLaneIs). times_of key l.sessions + times_of key y.sessions ≤ times_of key (lane_sessions (x ∷ ls))) same (omega (arith, n, rest))
times_two key (x ∷ ls) (suc at) (suc other) l m there there' apart =
    let n = times-append key x.sessions (lane_sessions ls) in
    let rest = times_two key ls at other l m there there' (λ e. apart (ap suc e)) in
    omega (arith, n, rest)

-- What a session of a lane sent.

-- a session that is not among these sent nothing
pub none_sent : (honest : Type 0) (key : SessionKey) (ss : List ToldSession) (sent : List Piece) → SentBy honest ss sent → times_of key ss ≡ 0 → keyed key sent ≡ []
none_sent honest key [] sent is none = ap (keyed key) is
none_sent honest key (s ∷ ss) sent (bodies, rest, is, tells, more) none =
    let apart = not_counted (is_key s.session.key key) (times_of key ss) (sym (times-cons key s ss) ∙ none) in
    ap (keyed key) is ∙ keyed-append key (pieces_from s.session.key 1 bodies) rest
    ∙ ap₂ (λ l m. l ++ m) (keyed-other key s.session.key 1 bodies (key_turned s.session.key key ∙ apart.0)) (none_sent honest key ss rest more apart.1)

-- The pieces of the session among these are those of bodies that go with the records that it took.
pub record OwnSent (honest : Type 0) (s : ToldSession) (sent : List Piece) : Type 0 where
  pub bodies : List PackedBody
  pub tells : TellsAll (RestsOn s.spools honest) s bodies
  pub is : keyed s.session.key sent ≡ pieces_from s.session.key 1 bodies

-- so it is of each session whose key no other has
pub own_sent : (honest : Type 0) (ss : List ToldSession) (sent : List Piece) (at : ℕ) (s : ToldSession) → SentBy honest ss sent → slice_get ss at ≡ Some s
    → times_of s.session.key ss ≤ 1 → OwnSent honest s sent
own_sent honest [] sent at s by there most = absurd (cc there)
own_sent honest (x ∷ ss) sent zero s (bodies, rest, is, tells, more) there most =
    let same : x ≡ s = cc there in
    let n = times_first x ss in
    let once : times_of x.session.key (x ∷ ss) ≤ 1 = subst (λ (y : ToldSession). times_of y.session.key (x ∷ ss) ≤ 1) (sym same) most in
    let none : times_of x.session.key ss ≡ 0 = omega (arith, n, once) in
    subst (λ (y : ToldSession). OwnSent honest y sent) same
    (record {
      bodies = bodies;
      tells = tells;
      is = ap (keyed x.session.key) is ∙ keyed-append x.session.key (pieces_from x.session.key 1 bodies) rest
          ∙ ap₂ (λ l m. l ++ m) (keyed-own x.session.key 1 bodies) (none_sent honest x.session.key ss rest more none)
          ∙ append-nil (pieces_from x.session.key 1 bodies);
    })
own_sent honest (x ∷ ss) sent (suc at) s (bodies, rest, is, tells, more) there most =
    let key = s.session.key in
    let n = times-cons key x ss in
    let least = times_least ss at s there in
    let apart = one_counted (is_key x.session.key key) (times_of key ss) (omega (arith, n, most)) least in
    let own = own_sent honest ss rest at s more there (omega (arith, n, most)) in
    record {
      bodies = own.bodies;
      tells = own.tells;
      is = ap (keyed key) is ∙ keyed-append key (pieces_from x.session.key 1 bodies) rest
          ∙ ap (λ l. l ++ keyed key rest) (keyed-other key x.session.key 1 bodies (key_turned x.session.key key ∙ apart)) ∙ own.is;
    }

-- What holds of each key.

-- of each piece of the bodies of one key
from_all : (P : SessionKey → Type 0) (key : SessionKey) (n : ℕ) (bs : List PackedBody) (rest : List Piece) → P key → AllByRecursion (λ (p : Piece). P p.key) rest
    → AllByRecursion (λ (p : Piece). P p.key) (pieces_from key n bs ++ rest)
from_all P key n [] rest own h = h
from_all P key n (b ∷ bs) rest own h = (own, from_all P key (n + 1) bs rest own h)

-- of the key of each session holds of that of each piece that they sent
pub sent_all : (P : SessionKey → Type 0) (honest : Type 0) (ss : List ToldSession) (sent : List Piece) → SentBy honest ss sent → AllByRecursion (λ (s : ToldSession). P s.session.key) ss
    → AllByRecursion (λ (p : Piece). P p.key) sent
sent_all P honest [] sent is h = subst (AllByRecursion (λ (p : Piece). P p.key)) (sym is) tt
sent_all P honest (s ∷ ss) sent (bodies, rest, is, tells, more) h =
    subst (AllByRecursion (λ (p : Piece). P p.key)) (sym is) (from_all P s.session.key 1 bodies rest h.0 (sent_all P honest ss rest more h.1))

-- of each piece of each lane holds of each piece in the queue
pub queued_all : (P : Piece → Type 0) (lanes : ℕ) (qs : List Queued) → AreOfLanes lanes qs
    → ((lane : ℕ) → 1 ≤ lane → lane ≤ lanes → AllByRecursion P (pieces_of lane qs)) → AllByRecursion P (pieces_in qs)
queued_all P lanes [] are each = tt
queued_all P lanes (q ∷ qs) are each =
    (own (q.lane == q.lane) eq_self (each q.lane are.0.0 are.0.1), queued_all P lanes qs are.1 (λ lane least most. behind lane (q.lane == lane) (each lane least most)))
  where
    eq_self : (q.lane == q.lane) ≡ true
    eq_self = eq-eqb q.lane q.lane refl

    own : (here : Bool) → here ≡ true → AllByRecursion P (if here then q.piece ∷ pieces_of q.lane qs else pieces_of q.lane qs) → P q.piece
    own true is h = h.0
    own false is h = absurd (cc is)

    behind : (lane : ℕ) (here : Bool) → AllByRecursion P (if here then q.piece ∷ pieces_of lane qs else pieces_of lane qs) → AllByRecursion P (pieces_of lane qs)
    behind lane true h = h.1
    behind lane false h = h
