-- Lists of sessions and of pieces, and one more after them.
use Rattle.std.proofs.Common.{◌≡◌, ℕ, zero, suc, ◌+◌, ◌-◌, refl, sym, ap, subst, ◌∙◌, arith, List, [], ◌∷◌, ◌++◌, Some, length, slice_get, append_assoc, append-nil}
use Rattle.std.specs.List.{AllByRecursion}
use Rattle.sd_base.specs.declared.number.SessionKey.{SessionKey}
use Rattle.sd_lane.specs.declared.piece.Piece.{Piece}
use Rattle.sd_pack.specs.Body.{PackedBody}
use Rattle.sd_session.specs.Session.{store_of}
use Rattle.sd_line.specs.Ends.{ToldSession, IsOver, LastIsOver, EarlierAreOver, SentBy, TellsAll, RestsOn, pieces_from, last_alone, last_store}

pub all_push : {A : Type 0} (P : A → Type 0) (xs : List A) (x : A) → AllByRecursion P xs → P x → AllByRecursion P (xs ++ x ∷ [])
all_push P [] x h p = (p, tt)
all_push P (y ∷ ys) x h p = (h.0, all_push P ys x h.1 p)

pub all_front : {A : Type 0} (P : A → Type 0) (xs : List A) (x : A) → AllByRecursion P (xs ++ x ∷ []) → AllByRecursion P xs
all_front P [] x h = tt
all_front P (y ∷ ys) x h = (h.0, all_front P ys x h.1)

pub all_last : {A : Type 0} (P : A → Type 0) (xs : List A) (x : A) → AllByRecursion P (xs ++ x ∷ []) → P x
all_last P [] x h = h.0
all_last P (y ∷ ys) x h = all_last P ys x h.1

-- one body more is one piece more
pub pieces_push : (key : SessionKey) (n : ℕ) (bs : List PackedBody) (b : PackedBody)
    → pieces_from key n (bs ++ b ∷ []) ≡ pieces_from key n bs ++ record { key = key; seq = n + length bs; body = b } ∷ []
pieces_push key n [] b = let e : n ≡ n + 0 = omega arith in ap (λ m. let p : Piece = record { key = key; seq = m; body = b } in p ∷ []) e
pieces_push key n (c ∷ cs) b =
    let e : n + 1 + length cs ≡ n + length (c ∷ cs) = omega arith in
    ap (λ l. record { key = key; seq = n; body = c } ∷ l)
    (pieces_push key (n + 1) cs b ∙ ap (λ m. pieces_from key (n + 1) cs ++ record { key = key; seq = m; body = b } ∷ []) e)

-- Sessions that are over.

pub earlier_over : (ss : List ToldSession) (s : ToldSession) → AllByRecursion IsOver ss → EarlierAreOver (ss ++ s ∷ [])
earlier_over [] s h = tt
earlier_over (x ∷ []) s h = (h.0, tt)
earlier_over (x ∷ y ∷ ss) s h = (h.0, earlier_over (y ∷ ss) s h.1)

pub all_over : (ss : List ToldSession) → EarlierAreOver ss → LastIsOver ss → AllByRecursion IsOver ss
all_over [] h last = tt
all_over (x ∷ []) h last = (last, tt)
all_over (x ∷ y ∷ ss) h last = (h.0, all_over (y ∷ ss) h.1 last)

pub last_over : (ss : List ToldSession) → AllByRecursion IsOver ss → LastIsOver ss
last_over [] h = tt
last_over (x ∷ []) h = h.0
last_over (x ∷ y ∷ ss) h = last_over (y ∷ ss) h.1

pub over_earlier : (ss : List ToldSession) → AllByRecursion IsOver ss → EarlierAreOver ss
over_earlier [] h = tt
over_earlier (x ∷ []) h = tt
over_earlier (x ∷ y ∷ ss) h = (h.0, over_earlier (y ∷ ss) h.1)

pub last_store_push : (ss : List ToldSession) (s : ToldSession) → last_store (ss ++ s ∷ []) ≡ store_of s.session
last_store_push [] s = refl
last_store_push (x ∷ []) s = refl
last_store_push (x ∷ y ∷ ss) s = last_store_push (y ∷ ss) s

pub last_alone_push : (ss : List ToldSession) (s : ToldSession) → last_alone (ss ++ s ∷ []) ≡ s ∷ []
last_alone_push [] s = refl
last_alone_push (x ∷ []) s = refl
last_alone_push (x ∷ y ∷ ss) s = last_alone_push (y ∷ ss) s

-- What they sent.

pub tells_weaker : (honest honest' : Type 0) (s : ToldSession) (sent : List PackedBody) → (honest' → honest) → TellsAll honest s sent → TellsAll honest' s sent
tells_weaker honest honest' s sent back h = record {
  count_is = h.count_is;
  bytes_are = h.bytes_are;
  last_is = h.last_is;
  sent_is = h.sent_is;
  bodies_are = λ x. h.bodies_are (back x);
  closed = h.closed;
  not_purged = h.not_purged;
}

pub sent_weaker : (honest honest' : Type 0) (ss : List ToldSession) (sent : List Piece) → (honest' → honest) → SentBy honest ss sent → SentBy honest' ss sent
sent_weaker honest honest' [] sent back h = h
sent_weaker honest honest' (s ∷ ss) sent back (bodies, rest, is, tells, more) =
    (bodies, rest, is, tells_weaker (RestsOn s.spools honest) (RestsOn s.spools honest') s bodies (λ rests spools. back (rests spools)) tells, sent_weaker honest honest' ss rest back more)

pub sent_push : (honest : Type 0) (ss : List ToldSession) (s : ToldSession) (before : List Piece) (bodies : List PackedBody)
    → SentBy honest ss before → TellsAll (RestsOn s.spools honest) s bodies → SentBy honest (ss ++ s ∷ []) (before ++ pieces_from s.session.key 1 bodies)
sent_push honest [] s before bodies none tells =
    let mine = pieces_from s.session.key 1 bodies in
    (bodies, [], ap (λ l. l ++ mine) none ∙ sym (append-nil mine), tells, refl)
sent_push honest (x ∷ ss) s before bodies (own, rest, is, told, more) tells =
    let mine = pieces_from s.session.key 1 bodies in
    (own, rest ++ mine, ap (λ l. l ++ mine) is ∙ append_assoc (pieces_from x.session.key 1 own) rest mine, told, sent_push honest ss s rest bodies more tells)

-- what the last one sent, after what those before it sent
pub record LastSent (honest : Type 0) (ss : List ToldSession) (s : ToldSession) (sent : List Piece) : Type 0 where
  pub before : List Piece
  pub bodies : List PackedBody
  pub sent_is : sent ≡ before ++ pieces_from s.session.key 1 bodies
  pub earlier : SentBy honest ss before
  pub tells : TellsAll (RestsOn s.spools honest) s bodies

pub sent_last : (honest : Type 0) (ss : List ToldSession) (s : ToldSession) (sent : List Piece) → SentBy honest (ss ++ s ∷ []) sent → LastSent honest ss s sent
sent_last honest [] s sent (bodies, rest, is, tells, none) = record {
  before = [];
  bodies = bodies;
  sent_is = is ∙ ap (λ l. pieces_from s.session.key 1 bodies ++ l) none ∙ append-nil (pieces_from s.session.key 1 bodies);
  earlier = refl;
  tells = tells;
}
sent_last honest (x ∷ ss) s sent (own, rest, is, told, more) =
    let l = sent_last honest ss s rest more in
    record {
      before = pieces_from x.session.key 1 own ++ l.before;
      bodies = l.bodies;
      sent_is = is ∙ ap (λ r. pieces_from x.session.key 1 own ++ r) l.sent_is
          ∙ sym (append_assoc (pieces_from x.session.key 1 own) l.before (pieces_from s.session.key 1 l.bodies));
      earlier = (own, l.before, refl, told, l.earlier);
      tells = l.tells;
    }

pub last_is_over : (ss : List ToldSession) (s : ToldSession) → LastIsOver (ss ++ s ∷ []) → IsOver s
last_is_over [] s h = h
last_is_over (x ∷ []) s h = h
last_is_over (x ∷ y ∷ ss) s h = last_is_over (y ∷ ss) s h

-- The last of the sessions, by its place.
last_of : (ss : List ToldSession) (n : ℕ) (s : ToldSession) → length ss ≡ n + 1 → slice_get ss n ≡ Some s → (LastIsOver ss → IsOver s) × (IsOver s → LastIsOver ss)
last_of [] n s many is = absurd (cc is)
last_of (x ∷ []) zero s many is = let e : x ≡ s = cc is in (subst IsOver e, subst IsOver (sym e))
last_of (x ∷ []) (suc n) s many is = absurd (cc is)
last_of (x ∷ y ∷ ss) zero s many is = absurd (omega (arith, many))
last_of (x ∷ y ∷ ss) (suc n) s many is = last_of (y ∷ ss) n s (omega (arith, many)) is

pub last_at : (ss : List ToldSession) (s : ToldSession) → slice_get ss (length ss - 1) ≡ Some s → (LastIsOver ss → IsOver s) × (IsOver s → LastIsOver ss)
last_at [] s is = absurd (cc is)
last_at (x ∷ ss) s is = last_of (x ∷ ss) (length (x ∷ ss) - 1) s (omega arith) is
