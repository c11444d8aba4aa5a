-- A talk as turns.
use Rattle.std.proofs.Common.{◌≡◌, ◌≢◌, ℕ, ℤ, negsuc, refl, sym, ap, subst, ◌∙◌, inl, inr, Bool, true, false, if◌then◌else◌, List, [], ◌∷◌, ◌++◌, Option, Some, None, Result, Ok, Err}
use Rattle.std.specs.declared.alloc.AllocError.{AllocError}
use Rattle.sd_bnet.specs.declared.packet.Packet.{Packet}
use Rattle.sd_bnet.specs.declared.packet.Packet.TheVariants.{Bytes, Signal}
use Rattle.sd_append.specs.Conversation.{Converses, IsCommandDue, IsEndedByClient, MayEnd}
use Rattle.sd_append.specs.Port.{Exchange}
use Rattle.sd_append.specs.TalkStage.{meaning_of, own_of}
use Rattle.sd_append.specs.Talk.{Takes, TakesEnd, TakesSignal, end_of_data, heartbeat_response, poll_said, refused, said}
use Rattle.sd_append.specs.declared.end.TalkEnd.{TalkEnd}
use Rattle.sd_append.specs.declared.end.TalkEnd.TheVariants.{Finished, Truncated, TooLong, ReadFault, WriteFault, OutOfTurns}
use Rattle.sd_append.specs.declared.line.ReplyLine.TheVariants as lines
use Rattle.sd_append.specs.declared.signal.Meaning.{Meaning}
use Rattle.sd_append.specs.declared.signal.Meaning.TheVariants.{Poll, Other}
use Rattle.sd_append.specs.declared.stage.Own.{Own}
use Rattle.sd_append.specs.declared.stage.TalkStage.{TalkStage}
use Rattle.sd_append.specs.declared.stage.TalkStage.TheVariants.{Command, Header, Records, Refused, Dropped, Spans, BadSpans, Over}
use Rattle.sd_append.specs.Laws.{EndsAt, RepliesAnswerTurns}
use Rattle.sd_append.specs.Turns.{Place, Between, Within, Ended}
use Rattle.sd_append.specs.Sessions.{LastIsGivenUp, Known, known_behind, none_opened}
use Rattle.sd_append.proofs.AskedLemmas.{converses_tell, known_in, last_given_up, takes_tell, tells_known}
use Rattle.sd_append.proofs.PhaseLemmas.{DroppedLeft, HeaderLeft, RecordsLeft, RefusedLeft, header_behind, no_header, no_header_refused, phase_ends, phase_more, phase_passes, refused_behind}
use Rattle.sd_append.proofs.SpanPackets.{Read, RefusalLeft, SpansLeft, read_ends, read_passes, spans_end}
use Rattle.sd_append.proofs.SignalLemmas.{IsMinor, signal_is}
use Rattle.sd_append.proofs.PacketSteps.{GoesOn, bytes_then, only_then, place_of, quiet, stops}
use Rattle.sd_append.proofs.TurnLists.{signal_then}

-- The end of data.

-- a read at its end, after which a command is due
read_over : (moment : ℤ) (place : Place) (own : Option Own) (Left : List (List ℕ) → List Exchange → List Packet → Type 0) (packets : List Packet) (more : List Exchange) (later : List Packet)
    (asked : List Exchange) (out : List Packet) (new : TalkStage) → known_behind (known_in own) asked ≡ known_in (own_of new) → GoesOn moment place new packets more later
    → Left [] asked out → new ≡ Command own → Read moment place (known_in own) Left (end_of_data ∷ packets) (asked ++ more) (out ++ later)
read_over moment place own Left packets more later asked out new known rest left stands =
    read_ends moment place (known_in own) (known_in own) Left asked out packets more later (known ∙ ap (λ (s : TalkStage). known_in (own_of s)) stands) left
    (subst (λ (s : TalkStage). GoesOn moment place s packets more later) stands rest)

end_then : (moment : ℤ) (place : Place) (old : TalkStage) (packets : List Packet) (more : List Exchange) (later : List Packet) (asked : List Exchange) (out : List Packet) (new : TalkStage)
    → known_behind (known_in (own_of old)) asked ≡ known_in (own_of new) → GoesOn moment place new packets more later → TakesEnd old asked out new
    → GoesOn moment place old (end_of_data ∷ packets) (asked ++ more) (out ++ later)
end_then moment place (Command own) packets more later asked out new known rest t =
    only_then moment place (Command own) end_of_data packets more later [] (Command own) asked out new t
    (λ turns. signal_then moment place (known_in own) (negsuc 0) packets more later (λ same. absurd (cc same)) turns) rest
end_then moment place (Header own) packets more later asked out new known rest t =
    only_then moment place (Header own) end_of_data packets more later (said lines.Appended ∷ []) (Command (Some own)) asked out new t
    (λ turns. phase_ends moment place (known_in (Some own)) (HeaderLeft own) lines.Appended packets more later (no_header own) turns) rest
end_then moment place (Records own header) packets more later asked out new known rest t =
    only_then moment place (Records own header) end_of_data packets more later [] (Header own) asked out new t
    (λ phase. phase_more moment place (known_in (Some own)) (known_in (Some own)) (RecordsLeft own header) (HeaderLeft own) end_of_data (end_of_data ∷ []) [] packets more later refl (λ l. refl)
    (λ hears asks answer left. header_behind own header hears asks answer left) phase) rest
end_then moment place (Refused own refusal) packets more later asked out new known rest t =
    only_then moment place (Refused own refusal) end_of_data packets more later (refused refusal ∷ []) (Command (Some own)) asked out new t
    (λ turns. phase_ends moment place (known_in (Some own)) (RefusedLeft refusal) (lines.Refused refusal) packets more later (no_header_refused refusal) turns) rest
end_then moment place (Dropped own refusal) packets more later asked out new known rest t =
    only_then moment place (Dropped own refusal) end_of_data packets more later [] (Refused own refusal) asked out new t
    (λ phase. phase_more moment place (known_in (Some own)) (known_in (Some own)) (DroppedLeft refusal) (RefusedLeft refusal) end_of_data (end_of_data ∷ []) [] packets more later refl (λ l. refl)
    (λ hears asks answer left. refused_behind refusal hears asks answer left) phase) rest
end_then moment place (Spans own text) packets more later asked out new known rest t =
    let by = spans_end own text asked out new t in
    read_over moment place own (SpansLeft text) packets more later asked out new known rest by.0 by.1
end_then moment place (BadSpans own refusal) packets more later asked out new known rest t =
    read_over moment place own (RefusalLeft refusal) packets more later asked out new known rest (t.0, t.1) t.2
end_then moment place (Over own) packets more later asked out new known rest t =
    only_then moment place (Over own) end_of_data packets more later [] (Over own) asked out new t (λ over. over) rest

-- Other signals.

-- no packets
abbrev none_out : List Packet
none_out = []

-- nothing goes out for it, poll or not
none_said : (polls : Bool) → (if polls then none_out else none_out) ≡ none_out
none_said true = refl
none_said false = refl

-- one that means nothing here, or is answered if a command is due
minor_passes : (moment : ℤ) (place : Place) (stage : TalkStage) (number : ℤ) (polls : Bool) (meaning : Meaning) (packets : List Packet) (more : List Exchange) (later : List Packet) → IsMinor number polls meaning
    → (says : List Packet) → says ≡ (if polls then poll_said stage else []) → GoesOn moment place stage packets more later
    → GoesOn moment place stage (Signal number ∷ packets) more (says ++ later)
minor_passes moment place (Command own) number polls meaning packets more later minor says is rest =
    subst (λ (l : List Packet). GoesOn moment place (Command own) (Signal number ∷ packets) more (l ++ later))
    (ap (λ (b : Bool). if b then heartbeat_response ∷ [] else []) minor.polls_is ∙ sym is)
    (signal_then moment place (known_in own) number packets more later minor.goes_on rest)
minor_passes moment place (Header own) number polls meaning packets more later minor says is rest =
    quiet moment place (Header own) (Signal number ∷ packets) more says later (is ∙ none_said polls)
    (phase_passes moment place (known_in (Some own)) (HeaderLeft own) number packets more later minor.unheard rest)
minor_passes moment place (Records own header) number polls meaning packets more later minor says is rest =
    quiet moment place (Records own header) (Signal number ∷ packets) more says later (is ∙ none_said polls)
    (phase_passes moment place (known_in (Some own)) (RecordsLeft own header) number packets more later minor.unheard rest)
minor_passes moment place (Refused own refusal) number polls meaning packets more later minor says is rest =
    quiet moment place (Refused own refusal) (Signal number ∷ packets) more says later (is ∙ none_said polls)
    (phase_passes moment place (known_in (Some own)) (RefusedLeft refusal) number packets more later minor.unheard rest)
minor_passes moment place (Dropped own refusal) number polls meaning packets more later minor says is rest =
    quiet moment place (Dropped own refusal) (Signal number ∷ packets) more says later (is ∙ none_said polls)
    (phase_passes moment place (known_in (Some own)) (DroppedLeft refusal) number packets more later minor.unheard rest)
minor_passes moment place (Spans own text) number polls meaning packets more later minor says is rest =
    quiet moment place (Spans own text) (Signal number ∷ packets) more says later (is ∙ none_said polls)
    (read_passes moment place (known_in own) (SpansLeft text) number packets more later minor.unheard rest)
minor_passes moment place (BadSpans own refusal) number polls meaning packets more later minor says is rest =
    quiet moment place (BadSpans own refusal) (Signal number ∷ packets) more says later (is ∙ none_said polls)
    (read_passes moment place (known_in own) (RefusalLeft refusal) number packets more later minor.unheard rest)
minor_passes moment place (Over own) number polls meaning packets more later minor says is rest =
    quiet moment place (Over own) (Signal number ∷ packets) more says later (is ∙ none_said polls) rest

signal_then_any : (moment : ℤ) (place : Place) (old : TalkStage) (number : ℤ) (packets : List Packet) (more : List Exchange) (later : List Packet) (asked : List Exchange) (out : List Packet) (new : TalkStage)
    → known_behind (known_in (own_of old)) asked ≡ known_in (own_of new) → GoesOn moment place new packets more later → TakesSignal (meaning_of number) old asked out new
    → GoesOn moment place old (Signal number ∷ packets) (asked ++ more) (out ++ later)
signal_then_any moment place old number packets more later asked out new known rest t = elim (signal_is number) [
  | inl end ↦ subst (λ (n : ℤ). GoesOn moment place old (Signal n ∷ packets) (asked ++ more) (out ++ later)) (sym end)
      (end_then moment place old packets more later asked out new known rest (subst (λ (n : ℤ). TakesSignal (meaning_of n) old asked out new) end t))
  | inr (inl stop) ↦ only_then moment place old (Signal number) packets more later [] (Over (own_of old)) asked out new
      (subst (λ (n : ℤ). TakesSignal (meaning_of n) old asked out new) stop t)
      (λ over. subst (λ (l : List Exchange). GoesOn moment place old (Signal number ∷ packets) l later) (sym over.0)
      (subst (λ (l : List Packet). GoesOn moment place old (Signal number ∷ packets) [] l) (sym over.1)
      (stops moment place old (Signal number ∷ packets) (inr (over.2, (packets, ap (λ (n : ℤ). Signal n ∷ packets) stop)))))) rest
  | inr (inr (inl minor)) ↦ only_then moment place old (Signal number) packets more later (poll_said old) old asked out new
      (subst (λ (m : Meaning). TakesSignal m old asked out new) minor.meaning_is t)
      (minor_passes moment place old number true Poll packets more later minor (poll_said old) refl) rest
  | inr (inr (inr minor)) ↦ only_then moment place old (Signal number) packets more later [] old asked out new
      (subst (λ (m : Meaning). TakesSignal m old asked out new) minor.meaning_is t)
      (minor_passes moment place old number false Other packets more later minor [] refl) rest
]

-- Talks.

packet_then : (moment : ℤ) (place : Place) (old : TalkStage) (packet : Packet) (packets : List Packet) (more : List Exchange) (later : List Packet) (asked : List Exchange) (out : List Packet) (new : TalkStage)
    → Takes moment old packet asked out new → GoesOn moment place new packets more later → GoesOn moment place old (packet ∷ packets) (asked ++ more) (out ++ later)
packet_then moment place old (Bytes bytes) packets more later asked out new t rest =
    bytes_then moment place old bytes packets more later asked out new (tells_known moment asked (known_in (own_of old)) (known_in (own_of new)) (takes_tell moment old (Bytes bytes) asked out new t)) rest t
packet_then moment place old (Signal number) packets more later asked out new t rest =
    signal_then_any moment place old number packets more later asked out new
    (tells_known moment asked (known_in (own_of old)) (known_in (own_of new)) (takes_tell moment old (Signal number) asked out new t)) rest t

goes_on : (moment : ℤ) (old : TalkStage) (packets : List Packet) (asked : List Exchange) (out : List Packet) (new : TalkStage) → Converses moment old packets asked out new
    → GoesOn moment (place_of new) old packets asked out
goes_on moment old [] asked out new (none, said_is, stands) =
    subst (λ (l : List Exchange). GoesOn moment (place_of new) old [] l out) (sym none)
    (subst (λ (l : List Packet). GoesOn moment (place_of new) old [] [] l) (sym said_is) (stops moment (place_of new) old [] (inl (ap place_of stands, refl))))
goes_on moment old (packet ∷ packets) asked out new (between, first, more, says, later, takes, rest, asked_is, out_is) =
    subst (λ (l : List Exchange). GoesOn moment (place_of new) old (packet ∷ packets) l out) (sym asked_is)
    (subst (λ (l : List Packet). GoesOn moment (place_of new) old (packet ∷ packets) (first ++ more) l) (sym out_is)
    (packet_then moment (place_of new) old packet packets more later first says between takes (goes_on moment between packets more later new rest)))

-- Ends.

ended_place : (stage : TalkStage) → IsEndedByClient stage → place_of stage ≡ Ended
ended_place (Over own) is = refl
ended_place stage is = absurd is

other_place : (stage : TalkStage) → (IsEndedByClient stage → ⊥) → place_of stage ≢ Ended
other_place (Over own) not_ended is = not_ended tt
other_place stage not_ended is = absurd (cc is)

between_place : (stage : TalkStage) → IsCommandDue stage → place_of stage ≡ Between
between_place (Command own) is = refl
between_place stage is = absurd is

within_place : (stage : TalkStage) → (IsEndedByClient stage → ⊥) → (IsCommandDue stage → ⊥) → place_of stage ≡ Within
within_place (Over own) not_ended not_due = absurd (not_ended tt)
within_place (Command own) not_ended not_due = absurd (not_due tt)
within_place stage not_ended not_due = refl

ends_at : (end : Result TalkEnd AllocError) (stage : TalkStage) (rest : List ℕ) (ended : Type 0) → MayEnd end stage rest ended → EndsAt end (place_of stage) rest ended
ends_at (Ok Finished) stage rest ended (inl is) = inl (ended_place stage is)
ends_at (Ok Finished) stage rest ended (inr (due, none, all)) = inr (between_place stage due, none, all)
ends_at (Ok Truncated) stage rest ended (other, unfinished, inl not_due, all) = (other_place stage other, unfinished, inl (within_place stage other not_due), all)
ends_at (Ok Truncated) stage rest ended (other, unfinished, inr front, all) = (other_place stage other, unfinished, inr front, all)
ends_at (Ok TooLong) stage rest ended (other, long) = (other_place stage other, long)
ends_at (Ok ReadFault) stage rest ended (other, unfinished) = (other_place stage other, unfinished)
ends_at (Ok OutOfTurns) stage rest ended (other, unfinished) = (other_place stage other, unfinished)
ends_at (Ok WriteFault) stage rest ended may = tt
ends_at (Err e) stage rest ended may = tt

pub replies_answer_turns : {E : Type 0} → RepliesAnswerTurns E
replies_answer_turns {E} moment packets rest asked out end talk =
    let own = own_of talk.last in
    let known = tells_known moment talk.before none_opened (known_in own) (converses_tell moment (Command None) packets talk.before talk.says talk.last talk.converses) in
    record {
      place = place_of talk.last;
      before = talk.before;
      gives_up = talk.giving;
      says = talk.says;
      of_turns = goes_on moment (Command None) packets talk.before talk.says talk.last talk.converses;
      given_up = subst (λ (k : Known). LastIsGivenUp k talk.giving) (sym known) (last_given_up own talk.giving talk.gives_up);
      asked_is = talk.asked_is;
      out_is = talk.out_is;
      ends = ends_at end talk.last rest E talk.ends;
    }
