-- The loop's tries, and what a drain and an answer are of them.
use Rattle.std.proofs.Common.{◌≡◌, ℕ, ◌+◌, ◌-◌, ◌^◌, ◌≤◌, true, false, inl, inr, length, List, [], ◌∷◌, ◌++◌, Option, Some, None, refl, sym, ap, subst, ◌∙◌, arith}
use Rattle.std.specs.List.{sum_by}
use Rattle.std.proofs.lemmas.List.Sums.{sum_by-append}
use Rattle.std.proofs.lemmas.List.{length-append, length-map, map-append}
use Rattle.std.proofs.lemmas.List.Elements.{All-nil, All-cons}
use Rattle.sd_base.specs.declared.refusal.Refusal.TheVariants.{Memory}
use Rattle.sd_driver.specs.Meaning.{Meaning}
use Rattle.sd_machine.specs.declared.event.Event.{Event}
use Rattle.sd_machine.specs.declared.event.Event.TheVariants.{Append, Close}
use Rattle.sd_base.specs.Record.{Record}
use Rattle.sd_machine.specs.declared.reply.Reply.{Reply}
use Rattle.sd_machine.specs.declared.reply.Reply.TheVariants.{Refused}
use Rattle.sd_world.specs.World.{WorldView}
use Rattle.sd_world.specs.Steps.{IsStep, StepsAlong}
use Rattle.sd_core.specs.declared.headway.Round.{Round}
use Rattle.sd_core.specs.Rounds.{AllMove, Drains, IsRound, Moved, PlaysMoving, PlaysOne, PlaysRound, PlaysRounds, placed_in}
use Rattle.sd_base.specs.Count.{counted}
use Rattle.sd_core.specs.Tries.{Answers, Asks, AsksAgain, Ends, GivesAgain, Lacks, PlaysAs, Stops, Tried, Try, events_tried, is_due, may_change, replies_tried, rounds_in}
use Rattle.sd_core.proofs.Played.{along_append, counted_sum}

-- The loop.

pub tried_none : {D : Type 0} (meaning : D → Meaning) (asked : Option Event) (w : WorldView D) (placed : ℕ) → placed ≡ counted 0 → Tried meaning asked w 0 placed w
tried_none meaning asked w placed is = record { tries = []; gives = refl; count_is = refl; placed_is = is }

asks_append : {D : Type 0} (meaning : D → Meaning) (asked : Option Event) (a b c : WorldView D) (ts us : List Try) → AsksAgain meaning asked a ts b → AsksAgain meaning asked b us c
    → AsksAgain meaning asked a (ts ++ us) c
asks_append meaning asked a b c [] us p q = subst (λ w. AsksAgain meaning asked w us c) p q
asks_append meaning asked a b c (t ∷ ts) us p q = (p.0, p.1, p.2, p.3, p.4, p.5, asks_append meaning asked p.1 b c ts us p.6 q)

-- the blocks of one round more
placed_more : (rounds : List (List Reply)) (replies : List Reply) (placed here sum : ℕ) → placed ≡ counted (sum_by placed_in rounds) → here ≡ counted (placed_in replies) → sum ≡ counted (placed + here)
    → sum ≡ counted (sum_by placed_in (rounds ++ replies ∷ []))
placed_more rounds replies placed here sum before now is =
    let n = counted_sum (sum_by placed_in rounds) (placed_in replies) in
    let e : sum_by placed_in (rounds ++ replies ∷ []) ≡ sum_by placed_in rounds + placed_in replies = omega (arith, sum_by-append placed_in rounds (replies ∷ [])) in
    cc

-- one try more, after which something moved
pub tried_more : {D : Type 0} (meaning : D → Meaning) (asked : Option Event) (answer : Reply) (old world given new : WorldView D) (count placed sum : ℕ) (round : Round)
    → Tried meaning asked old count placed world → Asks meaning asked world answer given → is_due asked answer ≡ true
    → PlaysRound meaning given round new → round.moved ≡ true → sum ≡ counted (placed + round.placed) → Tried meaning asked old (count + 1) sum new
tried_more meaning asked answer old world given new count placed sum round p asks due plays moved is =
    let t : Try = record { answer = answer; events = plays.events; replies = plays.replies } in
    let same : rounds_in (p.tries ++ t ∷ []) ≡ rounds_in p.tries ++ plays.replies ∷ [] = map-append (λ (x : Try). x.replies) p.tries (t ∷ []) in
    record {
      tries = p.tries ++ t ∷ [];
      gives = asks_append meaning asked old world new p.tries (t ∷ []) p.gives
          (given, new, asks, due, (plays.is_kind, plays.along), sym plays.tells.moved ∙ moved, refl);
      count_is = length-append p.tries (t ∷ []) ∙ ap (λ n. n + 1) p.count_is;
      placed_is = placed_more (rounds_in p.tries) plays.replies placed round.placed sum p.placed_is plays.tells.placed is ∙ ap (λ rs. counted (sum_by placed_in rs)) (sym same);
    }

-- A drain.

one_of : {D : Type 0} (meaning : D → Meaning) (old given new : WorldView D) (es : List Event) (rs : List Reply) → given ≡ old → PlaysAs meaning given es rs new → PlaysOne meaning old rs new
one_of meaning old given new es rs same p = record {
  events = es;
  is_round = subst (λ w. IsRound w es rs) same p.0;
  along = subst (λ w. StepsAlong meaning w es rs new) same p.1;
}

rounds_more : {D : Type 0} (meaning : D → Meaning) (a b c : WorldView D) (rounds : List (List Reply)) (rs : List Reply)
    → PlaysRounds meaning a rounds b → PlaysOne meaning b rs c → PlaysRounds meaning a (rounds ++ rs ∷ []) c
rounds_more meaning a b c [] rs p q = (c, subst (λ w. PlaysOne meaning w rs c) p q, refl)
rounds_more meaning a b c (round ∷ rounds) rs p q = (p.0, p.1, rounds_more meaning p.0 b c rounds rs p.2 q)

-- if nothing is asked, the rounds are played, and something moves in each
rounds_play : {D : Type 0} (meaning : D → Meaning) (a b : WorldView D) (ts : List Try) → AsksAgain meaning None a ts b → PlaysRounds meaning a (rounds_in ts) b × AllMove (rounds_in ts)
rounds_play meaning a b [] p = (p, All-nil Moved)
rounds_play meaning a b (t ∷ ts) p =
    let later = rounds_play meaning p.1 b ts p.6 in
    ((p.1, one_of meaning a p.0 p.1 t.events t.replies p.2 p.4, later.0), All-cons Moved t.replies (rounds_in ts) p.5 later.1)

-- the rounds stopped: at the first in which nothing moved, or at as many as can be counted
pub drained : {D : Type 0} (meaning : D → Meaning) (old new : WorldView D) (answer : Reply) (placed : ℕ) → Stops meaning (2 ^ 64 - 1) None old answer placed new → Drains meaning old placed new
drained meaning old new answer placed (inl p) =
    let played = rounds_play meaning old p.middle p.tried.tries p.tried.gives in
    let out : p.count ≡ 2 ^ 64 - 1 = elim p.due [ inl e ↦ absurd (cc e) | inr e ↦ e ] in record {
      rounds = rounds_in p.tried.tries;
      plays = subst (λ w. PlaysRounds meaning old (rounds_in p.tried.tries) w) (sym p.asks) played.0;
      ends = inr (played.1, length-map p.tried.tries _ ∙ p.tried.count_is ∙ out);
      placed_is = p.tried.placed_is;
    }
drained meaning old new answer placed (inr p) =
    let due = p.asked_last in
    let rounds = rounds_in due.tried.tries in
    let played = rounds_play meaning old due.middle due.tried.tries due.tried.gives in record {
      rounds = rounds ++ p.plays.replies ∷ [];
      plays = rounds_more meaning old due.middle new rounds p.plays.replies played.0
          (one_of meaning due.middle p.given new p.plays.events p.plays.replies due.asks (p.plays.is_kind, p.plays.along));
      ends = inl (record { before = rounds; last = p.plays.replies; rounds_are = refl; move = played.1; still = sym p.plays.tells.moved ∙ p.still });
      placed_is = placed_more rounds p.plays.replies p.before p.round.placed placed due.tried.placed_is p.plays.tells.placed p.placed_is;
    }

-- there was no memory for one more
pub moved_so_far : {D : Type 0} (meaning : D → Meaning) (rounds : ℕ) (old new : WorldView D) → Lacks meaning rounds None old new → PlaysMoving meaning old new
moved_so_far meaning rounds old new p =
    let due = p.2 in
    let played = rounds_play meaning old due.middle due.tried.tries due.tried.gives in
    (rounds_in due.tried.tries, subst (λ w. PlaysRounds meaning old (rounds_in due.tried.tries) w) (sym due.asks) played.0, played.1)

-- An answer.

-- an answer, with some events and replies
abbrev pub AnswersSome : {D : Type 0} → (D → Meaning) → ℕ → WorldView D → Event → Reply → WorldView D → Type 0
AnswersSome meaning rounds old event reply new =
    (events : List Event) × (replies : List Reply) × Answers meaning rounds old event reply events replies new

-- what is given again if an event is asked
gives_again : {D : Type 0} (meaning : D → Meaning) (event : Event) (a b : WorldView D) (ts : List Try) → AsksAgain meaning (Some event) a ts b → GivesAgain meaning event a ts b
gives_again meaning event a b [] p = p
gives_again meaning event a b (t ∷ ts) p = (p.0, p.1, p.2, p.3, p.4, p.5, gives_again meaning event p.1 b ts p.6)

-- tries, and what ends them
ends_so : {D : Type 0} (meaning : D → Meaning) (event : Event) (reply : Reply) (old world new : WorldView D) (count placed rounds : ℕ) (es : List Event) (rs : List Reply)
    → Tried meaning (Some event) old count placed world → count ≤ rounds → Ends meaning event count rounds reply world es rs new
    → AnswersSome meaning rounds old event reply new
ends_so meaning event reply old world new count placed rounds es rs p few ends = (
  events_tried event p.tries ++ es,
  replies_tried p.tries ++ rs,
  record {
    tries = p.tries;
    few = subst (λ n. n ≤ rounds) (sym p.count_is) few;
    middle = world;
    gives = gives_again meaning event old world p.tries p.gives;
    last_events = es;
    last_replies = rs;
    ends = subst (λ n. Ends meaning event n rounds reply world es rs new) (sym p.count_is) ends;
    events_are = refl;
    replies_are = refl;
  },
)

-- the world's last answer is the answer: it doesn't change any more, there are no more rounds, or nothing moved after it
pub answered : {D : Type 0} (meaning : D → Meaning) (event : Event) (reply : Reply) (old new : WorldView D) (placed rounds : ℕ)
    → Stops meaning rounds (Some event) old reply placed new → AnswersSome meaning rounds old event reply new
answered meaning event reply old new placed rounds (inl p) =
    ends_so meaning event reply old p.middle new p.count placed rounds (event ∷ []) (reply ∷ []) p.tried p.few
    (inl (record { step = p.asks; due = p.due; events_are = refl; replies_are = refl }))
answered meaning event reply old new placed rounds (inr p) =
    let due = p.asked_last in
    let few : due.count ≤ rounds = (let left = due.left in omega arith) in
    ends_so meaning event reply old due.middle new due.count p.before rounds (event ∷ p.plays.events) (reply ∷ p.plays.replies) due.tried few
    (inr (inl (record {
      asked = p.given;
      step = due.asks;
      may = due.due;
      left = due.left;
      round_events = p.plays.events;
      round_replies = p.plays.replies;
      plays = (p.plays.is_kind, p.plays.along);
      nothing_moved = sym p.plays.tells.moved ∙ p.still;
      events_are = refl;
      replies_are = refl;
    })))

-- there was no memory for a round
pub lacked_memory : {D : Type 0} (meaning : D → Meaning) (event : Event) (old new : WorldView D) (rounds : ℕ) → Lacks meaning rounds (Some event) old new
    → AnswersSome meaning rounds old event (Refused Memory) new
lacked_memory meaning event old new rounds (answer, placed, due) =
    let few : due.count ≤ rounds = (let left = due.left in omega arith) in
    ends_so meaning event (Refused Memory) old due.middle new due.count placed rounds (event ∷ []) (answer ∷ []) due.tried few
    (inr (inr (record { answer = answer; step = due.asks; may = due.due; left = due.left; reply_is = refl; events_are = refl; replies_are = refl })))

-- What the tries do to the world.

one_along : {D : Type 0} (meaning : D → Meaning) (a b : WorldView D) (event : Event) (reply : Reply) → IsStep meaning a event reply b → StepsAlong meaning a (event ∷ []) (reply ∷ []) b
one_along meaning a b event reply step = (b, step, refl)

pub gives_along : {D : Type 0} (meaning : D → Meaning) (event : Event) (a b : WorldView D) (ts : List Try) → GivesAgain meaning event a ts b
    → StepsAlong meaning a (events_tried event ts) (replies_tried ts) b
gives_along meaning event a b [] p = p
gives_along meaning event a b (t ∷ ts) p =
    (p.0, p.2, along_append meaning p.0 p.1 b t.events (events_tried event ts) t.replies (replies_tried ts) p.4.1 (gives_along meaning event p.1 b ts p.6))

ends_along : {D : Type 0} (meaning : D → Meaning) (event : Event) (tried rounds : ℕ) (reply : Reply) (a b : WorldView D) (es : List Event) (rs : List Reply)
    → Ends meaning event tried rounds reply a es rs b → StepsAlong meaning a es rs b
ends_along meaning event tried rounds reply a b es rs (inl p) = rw (p.events_are, p.replies_are) (one_along meaning a b event reply p.step)
ends_along meaning event tried rounds reply a b es rs (inr (inl p)) = rw (p.events_are, p.replies_are) (p.asked, p.step, p.plays.1)
ends_along meaning event tried rounds reply a b es rs (inr (inr p)) = rw (p.events_are, p.replies_are) (one_along meaning a b event p.answer p.step)

-- an answer is a run of the world along its events
pub answers_along : {D : Type 0} (meaning : D → Meaning) (rounds : ℕ) (event : Event) (reply : Reply) (a b : WorldView D) (es : List Event) (rs : List Reply)
    → Answers meaning rounds a event reply es rs b → StepsAlong meaning a es rs b
answers_along meaning rounds event reply a b es rs p =
    rw (p.events_are, p.replies_are)
    (along_append meaning a p.middle b (events_tried event p.tries) p.last_events (replies_tried p.tries) p.last_replies
    (gives_along meaning event a p.middle p.tries p.gives)
    (ends_along meaning event (length p.tries) rounds reply p.middle b p.last_events p.last_replies p.ends))

-- Other events than these two have an answer that doesn't change.
pub never_changes : (e : Event) (reply : Reply) → ((ticket : ℕ) (r : Record) → e ≡ Append ticket r → ⊥) → ((ticket : ℕ) → e ≡ Close ticket → ⊥)
    → may_change e reply ≡ false
never_changes (Append ticket r) reply first second = absurd (first ticket r refl)
never_changes (Close ticket) reply first second = absurd (second ticket refl)
never_changes e reply first second = refl
