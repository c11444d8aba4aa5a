-- How a part goes on by each of its steps.
use Rattle.std.proofs.Common.{◌≡◌, ℕ, refl, sym, ap, subst, ◌∙◌, inl, inr, List, [], ◌∷◌, ◌++◌}
use Rattle.std.proofs.lemmas.List.{append_assoc, append-nil}
use Rattle.std.specs.Prelude.{Result, Ok, Err, OnOk, OnErr, IfOk, IfErr}
use Rattle.sd_base.specs.Record.{Record}
use Rattle.sd_base.specs.declared.refusal.Refusal.{Refusal}
use Rattle.sd_line.specs.Goes.{GoesOn, IsGivenUp, sends_more}
use Rattle.sd_journal.specs.Journal.{Entry}
use Rattle.sd_lane.specs.declared.piece.Piece.{Piece}
use Rattle.sd_line.specs.Side.{SeatIs}
use Rattle.sd_line.specs.Closes.{Closes}
use Rattle.sd_line.specs.Parts.{PartIs, SendsBy, with_session}
use Rattle.sd_line.specs.declared.closing.Closing.{Closing}
use Rattle.sd_line.specs.declared.closing.Closing.TheVariants.{Closed, NotYet}
use Rattle.sd_session.specs.Session.{SessionView, FailsSession, CancelsSession, NotRunning}
use Rattle.sd_session.specs.Sending.{DespoolRefused}
use Rattle.sd_session.specs.Spooling.{Spools, SpoolRefused}
use Rattle.sd_session.specs.declared.answer.Despooled.{Despooled}
use Rattle.sd_session.specs.declared.answer.Despooled.TheVariants.{Sent, LaneFull, Nothing, NotDue}
use Rattle.sd_session.specs.declared.answer.Spooling.{Spooling}
use Rattle.sd_session.specs.declared.answer.Spooling.TheVariants.{Spooled, SpoolFull, Nothing as NothingWaits, NoSpool}

-- a seat by what it sent
abbrev sent_these : SeatIs → List Piece → SeatIs
sent_these s sent = record s { seat = record s.seat { sent = sent } }

sends_none : (s : SeatIs) → s ≡ sends_more [] s
sends_none s = ap (sent_these s) (sym (append-nil s.seat.sent))

sends_both : (s : SeatIs) (a b : List Piece) → sends_more b (sends_more a s) ≡ sends_more (a ++ b) s
sends_both s a b = ap (sent_these s) (append_assoc s.seat.sent a b)

-- the part as it is
pub stays : (p q : PartIs) → q ≡ p → GoesOn p [] q
stays p q is = subst (GoesOn p []) (sym is) (record {
  more = [];
  seat_is = sends_none p.seat;
  before_is = refl;
  whole_is = refl;
  told_is = sym (append-nil p.told);
  key_is = refl;
})

-- the part that goes on twice
pub goes_then : (p q r : PartIs) (a b : List Record) → GoesOn p a q → GoesOn q b r → GoesOn p (a ++ b) r
goes_then p q r a b g h = record {
  more = g.more ++ h.more;
  seat_is = h.seat_is ∙ ap (sends_more h.more) g.seat_is ∙ sends_both p.seat g.more h.more;
  before_is = h.before_is ∙ g.before_is;
  whole_is = h.whole_is ∙ g.whole_is;
  told_is = h.told_is ∙ ap (λ l. l ++ b) g.told_is ∙ append_assoc p.told a b;
  key_is = h.key_is ∙ g.key_is;
}

-- and takes no record first, or last
pub goes_first : (p q r : PartIs) (b : List Record) → GoesOn p [] q → GoesOn q b r → GoesOn p b r
goes_first p q r b g h = goes_then p q r [] b g h

pub goes_last : (p q r : PartIs) (a : List Record) → GoesOn p a q → GoesOn q [] r → GoesOn p a r
goes_last p q r a g h = subst (λ l. GoesOn p l r) (append-nil a) (goes_then p q r a [] g h)

-- by a step of its session alone
pub steps : (p q : PartIs) → q ≡ with_session p q.session → q.session.key ≡ p.session.key → GoesOn p [] q
steps p q is key = record {
  more = [];
  seat_is = ap (λ (x : PartIs). x.seat) is ∙ sends_none p.seat;
  before_is = ap (λ (x : PartIs). x.before) is;
  whole_is = ap (λ (x : PartIs). x.whole) is;
  told_is = ap (λ (x : PartIs). x.told) is ∙ sym (append-nil p.told);
  key_is = key;
}

-- by a step of sending
sends : (p q : PartIs) (more : List Piece) → q ≡ record p { seat = q.seat; session = q.session } → q.seat ≡ sends_more more p.seat
    → q.session.key ≡ p.session.key → GoesOn p [] q
sends p q more is seat key = record {
  more = more;
  seat_is = seat;
  before_is = ap (λ (x : PartIs). x.before) is;
  whole_is = ap (λ (x : PartIs). x.whole) is;
  told_is = ap (λ (x : PartIs). x.told) is ∙ sym (append-nil p.told);
  key_is = key;
}

-- The key, which no step changes.

key_of : (s v : SessionView) → v ≡ s → v.key ≡ s.key
key_of s v is = ap (λ (x : SessionView). x.key) is

spools_key : (answer : Spooling) (s v : SessionView) → Spools answer s v → v.key ≡ s.key
spools_key Spooled s v t = ap (λ (x : SessionView). x.key) t.is
spools_key SpoolFull s v t = ap (λ (x : SessionView). x.key) t.2
spools_key NothingWaits s v t = key_of s v t.3
spools_key NoSpool s v t = key_of s v t.2

not_spooled_key : (why : Refusal) (s v : SessionView) → SpoolRefused s why v → v.key ≡ s.key
not_spooled_key why s v (inl t) = key_of s v t.1
not_spooled_key why s v (inr (inl t)) = ap (λ (x : SessionView). x.key) t.2.drops.is
not_spooled_key why s v (inr (inr t)) = key_of s v t.2

not_sent_key : (why : Refusal) (s v : SessionView) → DespoolRefused s why v → v.key ≡ s.key
not_sent_key why s v (inl t) = key_of s v t.1
not_sent_key why s v (inr (inl t)) = ap (λ (x : SessionView). x.key) t.2.drops.is
not_sent_key why s v (inr (inr t)) = key_of s v t.2

fails_key : (s v : SessionView) → FailsSession s v → v.key ≡ s.key
fails_key s v (inl t) = ap (λ (x : SessionView). x.key) t.1.is
fails_key s v (inr t) = key_of s v t.1

closes_key : (apart : Type 0) (journal : List Entry) (result : Result Closing Refusal) (s v : SessionView) → Closes apart journal s result v → v.key ≡ s.key
closes_key apart journal (Ok (Closed receipt)) s v c = ap (λ (x : SessionView). x.key) c.0.is
closes_key apart journal (Ok NotYet) s v c = key_of s v c.3
closes_key apart journal (Err why) s v (inl c) = key_of s v c.2
closes_key apart journal (Err why) s v (inr (inl c)) = fails_key s v c.3
closes_key apart journal (Err why) s v (inr (inr c)) = key_of s v c.3

-- The steps.

pub spools_on : (p q : PartIs) (result : Result Spooling Refusal) → q ≡ with_session p q.session → IfOk result (λ answer. Spools answer p.session q.session)
    → IfErr result (λ why. SpoolRefused p.session why q.session) → GoesOn p [] q
spools_on p q (Ok answer) is ok err = steps p q is (spools_key answer p.session q.session ok)
spools_on p q (Err why) is ok err = steps p q is (not_spooled_key why p.session q.session err)

sends_by : (p q : PartIs) (answer : Despooled) (capacity : ℕ) → q ≡ record p { seat = q.seat; session = q.session }
    → SendsBy answer capacity p.seat p.session q.seat q.session → GoesOn p [] q
sends_by p q Sent capacity is t = sends p q (_ ∷ []) is t.1 (ap (λ (x : SessionView). x.key) t.0.is)
sends_by p q LaneFull capacity is t = sends p q [] is (t.1 ∙ sends_none p.seat) (ap (λ (x : SessionView). x.key) t.0.is)
sends_by p q Nothing capacity is t = sends p q [] is (t.1 ∙ sends_none p.seat) (key_of p.session q.session t.0.3)
sends_by p q NotDue capacity is t = sends p q [] is (t.1 ∙ sends_none p.seat) (key_of p.session q.session t.0.2)

pub sends_on : (p q : PartIs) (capacity : ℕ) (result : Result Despooled Refusal) → q ≡ record p { seat = q.seat; session = q.session }
    → IfOk result (λ answer. SendsBy answer capacity p.seat p.session q.seat q.session)
    → IfErr result (λ why. DespoolRefused p.session why q.session) → OnErr result (q.seat ≡ p.seat) → GoesOn p [] q
sends_on p q capacity (Ok answer) is ok err seat = sends_by p q answer capacity is ok
sends_on p q capacity (Err why) is ok err seat = sends p q [] is (seat ∙ sends_none p.seat) (not_sent_key why p.session q.session err)

pub closes_on : (p q : PartIs) (result : Result Closing Refusal) → q ≡ with_session p q.session
    → (apart : Type 0) (journal : List Entry) → Closes apart journal p.session result q.session → GoesOn p [] q
closes_on p q result is apart journal c = steps p q is (closes_key apart journal result p.session q.session c)

-- by a session that is given up, if it went on
pub gives_up : {T : Type 0} (p q : PartIs) (result : Result T Refusal) → q ≡ with_session p q.session → OnOk result (CancelsSession p.session q.session)
    → IfErr result (λ why. NotRunning p.session why) → OnErr result (q ≡ p) → GoesOn p [] q × IsGivenUp p q
gives_up p q (Ok done) is ok why err = (steps p q is (ap (λ (x : SessionView). x.key) ok.is), (is, inl (ok.running, ok)))
gives_up p q (Err other) is ok why err = (stays p q err, (is, inr (why.0, ap (λ (x : PartIs). x.session) err)))
