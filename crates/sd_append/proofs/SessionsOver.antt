-- However a talk ends, its sessions are over, and it asked nothing else than it might.
use Rattle.std.proofs.Common.{◌≡◌, ℕ, ℤ, refl, sym, ap, subst, ◌∙◌, inl, inr, Bool, true, false, if◌then◌else◌, List, [], ◌∷◌, ◌++◌, Some}
use Rattle.std.proofs.lemmas.Bool.{true≢false}
use Rattle.sd_machine.specs.declared.event.Event.{Event}
use Rattle.sd_machine.specs.declared.event.Event.TheVariants as events
use Rattle.sd_machine.specs.declared.reply.Reply.{Reply}
use Rattle.sd_machine.specs.declared.reply.Reply.TheVariants as replies
use Rattle.sd_append.specs.Port.{Exchange, Stepped}
use Rattle.sd_append.specs.TalkStage.{own_of}
use Rattle.sd_append.specs.Laws.{SessionsAreOver}
use Rattle.sd_append.specs.Sessions.{AsksOpen, IsGivenUp, IsOf, IsSessionOver, Known, LastIsGivenUp, MayAsk, goes_on_by, is_over, known_behind, known_by, known_by_event, none_opened}
use Rattle.sd_append.proofs.AskedLemmas.{MayTell, Tells, converses_tell, known_in, last_given_up, last_tells, same_ticket, tells_append}

-- Lists.

none_there : (before behind : List Exchange) (e : Exchange) → [] ≡ before ++ e ∷ behind → ⊥
none_there [] behind e is = absurd (cc is)
none_there (b ∷ before) behind e is = absurd (cc is)

head_is : (a b : Exchange) (xs ys : List Exchange) → a ∷ xs ≡ b ∷ ys → a ≡ b
head_is a b xs ys is = cc

tail_is : (a b : Exchange) (xs ys : List Exchange) → a ∷ xs ≡ b ∷ ys → xs ≡ ys
tail_is a b xs ys is = cc

-- A session that goes on.

-- an exchange more before its end
over_later : (moment : ℤ) (ticket : ℕ) (e : Exchange) (behind : List Exchange) → (AsksOpen e → ⊥) → IsSessionOver moment ticket behind → IsSessionOver moment ticket (e ∷ behind)
over_later moment ticket e behind other over = record {
  meanwhile = e ∷ over.meanwhile;
  event = over.event;
  reply = over.reply;
  later = over.later;
  behind_is = ap (λ (l : List Exchange). e ∷ l) over.behind_is;
  no_other = (other, over.no_other);
  own = over.own;
  ends = over.ends;
}

-- its own event, answered so
over_now : (moment : ℤ) (ticket : ℕ) (event : Event) (reply : Reply) (behind : List Exchange) → IsOf moment ticket event → is_over reply ≡ true
    → IsSessionOver moment ticket (Stepped event reply ∷ behind)
over_now moment ticket event reply behind own is = record {
  meanwhile = [];
  event = event;
  reply = reply;
  later = behind;
  behind_is = refl;
  no_other = tt;
  own = own;
  ends = inl is;
}

-- its cancel, which is the last that is asked
over_last : (moment : ℤ) (known : Known) (ticket : ℕ) (asked : List Exchange) → known.ticket ≡ Some ticket → known.goes_on ≡ true → LastIsGivenUp known asked → IsSessionOver moment ticket asked
over_last moment known ticket asked is on (inl (none, nothing)) = absurd (cc (sym none ∙ is))
over_last moment known ticket asked is on (inr (of, of_is, given)) =
    let g : IsGivenUp true of asked = subst (λ (b : Bool). IsGivenUp b of asked) on given in
    let same : of ≡ ticket = same_ticket of ticket (sym of_is ∙ is) in
    record {
      meanwhile = [];
      event = events.Cancel of;
      reply = g.0;
      later = [];
      behind_is = g.1;
      no_other = tt;
      own = same;
      ends = inr (ap events.Cancel same, refl);
    }

-- an event of its own, by whether its reply is its end
own_event : (moment : ℤ) (known : Known) (ticket : ℕ) (event : Event) (reply : Reply) (behind : List Exchange) (over : Bool) → is_over reply ≡ over → IsOf moment ticket event
    → (AsksOpen (Stepped event reply) → ⊥) → known.goes_on ≡ true → (goes_on_by known.goes_on reply ≡ true → IsSessionOver moment ticket behind)
    → IsSessionOver moment ticket (Stepped event reply ∷ behind)
own_event moment known ticket event reply behind true is own other on rest = over_now moment ticket event reply behind own is
own_event moment known ticket event reply behind false is own other on rest =
    over_later moment ticket (Stepped event reply) behind other (rest (ap (λ (b : Bool). if b then false else known.goes_on) is ∙ on))

-- any event that may be asked: it is its own
any_event : (moment : ℤ) (known : Known) (ticket : ℕ) (event : Event) (reply : Reply) (behind : List Exchange) → known.ticket ≡ Some ticket → known.goes_on ≡ true → MayAsk moment known event
    → ((known_by_event known event reply).ticket ≡ Some ticket → (known_by_event known event reply).goes_on ≡ true → IsSessionOver moment ticket behind)
    → IsSessionOver moment ticket (Stepped event reply ∷ behind)
any_event moment known ticket (events.Open job pool media at) reply behind is on may rest = absurd (true≢false (sym on ∙ may.1))
any_event moment known ticket event reply behind is on may rest =
    own_event moment known ticket event reply behind (is_over reply) refl
    (subst (λ (t : ℕ). IsOf moment t event) (same_ticket may.0 ticket (sym may.1 ∙ is)) may.2) (λ opens. opens) on (rest is)

-- a session that goes on is over, by what is asked until the talk ends
over_from : (moment : ℤ) (ticket : ℕ) (asked last : List Exchange) (known end : Known) → known.ticket ≡ Some ticket → known.goes_on ≡ true → Tells moment known asked end → LastIsGivenUp end last
    → IsSessionOver moment ticket (asked ++ last)
over_from moment ticket [] last known end is on tells gives =
    over_last moment end ticket last (ap (λ (k : Known). k.ticket) tells ∙ is) (ap (λ (k : Known). k.goes_on) tells ∙ on) gives
over_from moment ticket (Stepped event reply ∷ asked) last known end is on tells gives =
    any_event moment known ticket event reply (asked ++ last) is on tells.0
    (λ still goes. over_from moment ticket asked last (known_by_event known event reply) end still goes tells.1 gives)
over_from moment ticket (e ∷ asked) last known end is on tells gives =
    over_later moment ticket e (asked ++ last) (λ opens. opens) (over_from moment ticket asked last known end is on tells.1 gives)

-- Each session.

-- what is asked at the end opens none
last_opens_none : (known : Known) (last before behind : List Exchange) (job : ℕ) (pool media : List ℕ) (at : ℤ) (reply : Reply) → LastIsGivenUp known last
    → last ≡ before ++ Stepped (events.Open job pool media at) reply ∷ behind → ⊥
last_opens_none known last before behind job pool media at reply (inl (none, nothing)) is = none_there before behind _ (sym nothing ∙ is)
last_opens_none known last before behind job pool media at reply (inr (of, of_is, given)) is = by known.goes_on given
  where
    alone : (of_reply : Reply) (front : List Exchange) → Stepped (events.Cancel of) of_reply ∷ [] ≡ front ++ Stepped (events.Open job pool media at) reply ∷ behind → ⊥
    alone of_reply [] e = absurd (cc e)
    alone of_reply (b ∷ front) e = none_there front behind _ (tail_is _ b [] _ e)

    by : (on : Bool) → IsGivenUp on of last → ⊥
    by true g = alone g.0 before (sym g.1 ∙ is)
    by false g = none_there before behind _ (sym g ∙ is)

each_over : (moment : ℤ) (asked last : List Exchange) (known end : Known) (before behind : List Exchange) (job : ℕ) (pool media : List ℕ) (at : ℤ) (ticket drive : ℕ)
    → Tells moment known asked end → LastIsGivenUp end last
    → asked ++ last ≡ before ++ Stepped (events.Open job pool media at) (replies.Opened ticket drive) ∷ behind → IsSessionOver moment ticket behind
each_over moment [] last known end before behind job pool media at ticket drive tells gives is =
    absurd (last_opens_none end last before behind job pool media at (replies.Opened ticket drive) gives is)
each_over moment (e ∷ asked) last known end [] behind job pool media at ticket drive tells gives is =
    let opened : Exchange = Stepped (events.Open job pool media at) (replies.Opened ticket drive) in
    let same : e ≡ opened = head_is e opened (asked ++ last) behind is in
    subst (IsSessionOver moment ticket) (tail_is e opened (asked ++ last) behind is)
    (over_from moment ticket asked last (known_by known opened) end refl refl (subst (λ (x : Exchange). Tells moment (known_by known x) asked end) same tells.1) gives)
each_over moment (e ∷ asked) last known end (b ∷ before) behind job pool media at ticket drive tells gives is =
    each_over moment asked last (known_by known e) end before behind job pool media at ticket drive tells.1 gives
    (tail_is e b (asked ++ last) (before ++ Stepped (events.Open job pool media at) (replies.Opened ticket drive) ∷ behind) is)

-- Each event.

each_own : (moment : ℤ) (asked : List Exchange) (known end : Known) (before behind : List Exchange) (event : Event) (reply : Reply) → Tells moment known asked end
    → asked ≡ before ++ Stepped event reply ∷ behind → MayAsk moment (known_behind known before) event
each_own moment [] known end before behind event reply tells is = absurd (none_there before behind (Stepped event reply) is)
each_own moment (e ∷ asked) known end [] behind event reply tells is =
    subst (MayTell moment known) (head_is e (Stepped event reply) asked behind is) tells.0
each_own moment (e ∷ asked) known end (b ∷ before) behind event reply tells is =
    let rest = each_own moment asked (known_by known e) end before behind event reply tells.1 (tail_is e b asked (before ++ Stepped event reply ∷ behind) is) in
    subst (λ (x : Exchange). MayAsk moment (known_behind (known_by known x) before) event) (head_is e b asked (before ++ Stepped event reply ∷ behind) is) rest

-- Talks.

pub sessions_are_over : {E : Type 0} → SessionsAreOver E
sessions_are_over moment packets rest asked out end talk =
    let own = own_of talk.last in
    let tells = converses_tell moment _ packets talk.before talk.says talk.last talk.converses in
    let gives = last_given_up own talk.giving talk.gives_up in
    let ends = last_tells moment own talk.giving talk.gives_up in
    let all = tells_append moment talk.before talk.giving none_opened (known_in own) ends.0 tells ends.1 in
    record {
      each_over = λ before behind job pool media at ticket drive is.
          each_over moment talk.before talk.giving none_opened (known_in own) before behind job pool media at ticket drive tells gives (sym talk.asked_is ∙ is);
      each_own = λ before behind event reply is.
          each_own moment (talk.before ++ talk.giving) none_opened ends.0 before behind event reply all (sym talk.asked_is ∙ is);
    }
