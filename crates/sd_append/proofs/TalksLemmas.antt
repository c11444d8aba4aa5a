-- A talk as a whole.
use Rattle.std.proofs.Common.{◌≡◌, ◌≢◌, ◌⊎◌, ℕ, ℤ, ◌+◌, ◌*◌, ◌<◌, ◌≤◌, refl, sym, ap, subst, ◌∙◌, arith, inl, inr, Bool, false, List, [], ◌++◌, length, Option, Some, None, Result, Ok, Err, length-append}
use Rattle.std.specs.Prelude.{is_some}
use Rattle.std.specs.declared.alloc.AllocError.{AllocError}
use Rattle.std.proofs.KnownBytes.{Appends-nil}
use Rattle.std.proofs.lemmas.List.{append_assoc, append-nil}
use Rattle.sd_bnet.specs.Feeder.{FeederState}
use Rattle.sd_bnet.specs.Stream.{stream_of}
use Rattle.sd_append.specs.declared.end.TalkEnd.{TalkEnd}
use Rattle.sd_append.specs.declared.end.TalkEnd.TheVariants.{OutOfTurns}
use Rattle.sd_append.specs.declared.outbox.OutFault.{OutFault}
use Rattle.sd_append.specs.declared.outbox.OutFault.TheVariants as faults
use Rattle.sd_append.specs.declared.stage.Own.{Own}
use Rattle.sd_append.specs.declared.stage.TalkStage.{TalkStage}
use Rattle.sd_append.specs.declared.stage.TalkStage.TheVariants.{Command}
use Rattle.sd_append.specs.Conversation.{GivesUpLast, end_says}
use Rattle.sd_append.specs.Out.{OutView, PutsOut, PutsBy}
use Rattle.sd_append.specs.Port.{Exchange}
use Rattle.sd_append.specs.TalkStage.{own_of}
use Rattle.sd_append.specs.Standing.{Around, Halts, Stands, around, written_end}
use Rattle.sd_append.specs.Talks.{AreWritten, IsCutOff, IsWithin, Talks}
use Rattle.sd_append.proofs.OutLemmas.{puts_all, puts_front, puts_then_nothing}
use Rattle.sd_append.proofs.StandingLemmas.{TurnComes, consumes_none}
use Rattle.sd_append.proofs.TalkLemmas.{says_then}

-- what was written, by whether writing failed
written_by : (fault : Option OutFault) (held holds : Option (List ℕ)) (bytes : List ℕ) (end : Result TalkEnd AllocError) → PutsBy held holds false (is_some fault) [] [] bytes
    → AreWritten held holds bytes end (written_end fault end)
written_by None held holds bytes end puts = inl (refl, puts_all held holds bytes puts)
written_by (Some faults.Write) held holds bytes end puts = inr (tt, puts_front held holds bytes puts)
written_by (Some faults.Memory) held holds bytes end puts = inr (tt, puts_front held holds bytes puts)

-- what was written from an outbox in which nothing waits, at first and at last, by whether writing failed
written_of : (fault : Option OutFault) (old new : OutView) (bytes : List ℕ) (end : Result TalkEnd AllocError) → old.waiting ≡ [] → old.failed ≡ false → new.waiting ≡ []
    → new.failed ≡ is_some fault → PutsOut old new bytes → AreWritten old.written new.written bytes end (written_end fault end)
written_of fault old new bytes end first well last fails puts =
    written_by fault old.written new.written bytes end
    (subst (λ (b : Bool). PutsBy old.written new.written false b [] [] bytes) fails
    (subst (λ (l : List ℕ). PutsBy old.written new.written false new.failed [] l bytes) last
    (subst (λ (l : List ℕ). PutsBy old.written new.written false new.failed l new.waiting bytes) first
    (subst (λ (b : Bool). PutsBy old.written new.written b new.failed old.waiting new.waiting bytes) well puts))))

-- a talk that has come to its end is given up, and what waits is written out
pub talk_ended : (moment : ℤ) (fault : Option OutFault) (start : Around) (left : Option (List ℕ)) (asked after : List Exchange) (old said new : OutView) (stage : TalkStage) (end : Result TalkEnd AllocError) (bytes : List ℕ)
    → start.out.waiting ≡ [] → start.out.failed ≡ false → Halts moment start (around left asked old) stage end bytes
    → ((giving : List Exchange) × GivesUpLast (own_of stage) giving × (after ≡ asked ++ giving))
    → PutsOut old said (stream_of (end_says end)) → PutsOut said new [] → new.waiting ≡ [] → new.failed ≡ is_some fault
    → Talks moment start.left left start.asked after start.out.written new.written (written_end fault end) bytes
talk_ended moment fault start left asked after old said new stage end bytes first well h gave says ending last fails = record {
  packets = h.packets;
  rest = h.rest;
  asked = h.takes.asked ++ gave.0;
  out = h.takes.out ++ end_says end;
  due = end;
  read = h.read;
  parted = h.parted;
  conversation = record {
    last = stage;
    before = h.takes.asked;
    giving = gave.0;
    says = h.takes.out;
    converses = h.takes.outcome_is;
    gives_up = gave.1;
    asked_is = refl;
    out_is = refl;
    ends = h.ends;
  };
  asked_is = gave.2 ∙ ap (λ (l : List Exchange). l ++ gave.0) h.takes.after_is ∙ append_assoc start.asked h.takes.asked gave.0;
  written = written_of fault start.out new (stream_of (h.takes.out ++ end_says end)) end first well last fails
      (puts_then_nothing start.out said new (stream_of (h.takes.out ++ end_says end)) (says_then start.out old said h.takes.out (end_says end) h.takes.puts says) ending);
}

-- a talk that has come to its end is given up, and what waits is written out, by what was answered on the way
pub talk_done : (moment : ℤ) (fault given : Option OutFault) (start : Around) (left : Option (List ℕ)) (asked after : List Exchange) (old said new : OutView) (stage : TalkStage) (own : Option Own)
    (end ended : Result TalkEnd AllocError) (holds : Option (List ℕ)) (bytes : List ℕ)
    → given ≡ fault → own ≡ own_of stage → ended ≡ written_end given end → holds ≡ new.written
    → start.out.waiting ≡ [] → start.out.failed ≡ false → Halts moment start (around left asked old) stage end bytes
    → ((giving : List Exchange) × GivesUpLast own giving × (after ≡ asked ++ giving))
    → PutsOut old said (stream_of (end_says end)) → PutsOut said new [] → new.waiting ≡ [] → new.failed ≡ is_some fault
    → Talks moment start.left left start.asked after start.out.written holds ended bytes
talk_done moment fault given start left asked after old said new stage own end ended holds bytes same whose is held first well h gave says ending last fails =
    subst (λ (w : Option (List ℕ)). Talks moment start.left left start.asked after start.out.written w ended bytes) (sym held)
    (subst (λ (e : Result TalkEnd AllocError). Talks moment start.left left start.asked after start.out.written new.written e bytes) (sym (is ∙ ap (λ (f : Option OutFault). written_end f end) same))
    (talk_ended moment fault start left asked after old said new stage end bytes first well h
    (subst (λ (o : Option Own). (giving : List Exchange) × GivesUpLast o giving × (after ≡ asked ++ giving)) whose gave) says ending last fails))

-- without memory for its buffers a talk comes to nothing
pub talk_without_memory : (moment : ℤ) (left : Option (List ℕ)) (asked : List Exchange) (held : Option (List ℕ)) (e : AllocError) → Talks moment left left asked asked held held (Err e) []
talk_without_memory moment left asked held e = record {
  packets = [];
  rest = [];
  asked = [];
  out = [];
  due = Err e;
  read = consumes_none left;
  parted = ([], [], refl, record { joined = refl; each = tt; rest = inl (inl refl) });
  conversation = record {
    last = Command None;
    before = [];
    giving = [];
    says = [];
    converses = (refl, refl, refl);
    gives_up = refl;
    asked_is = refl;
    out_is = refl;
    ends = tt;
  };
  asked_is = sym (append-nil asked);
  written = inl (refl, Appends-nil held);
}

-- How much was read.

pub within_no_turn : (turns : ℕ) (e : AllocError) → IsWithin turns (Err e) []
within_no_turn turns e = record { most = omega arith; all_taken = λ wrong. absurd (cc wrong) }

-- of an end before the turns ran out
pub within_before : (turns i : ℕ) (end due : Result TalkEnd AllocError) (bytes piece : List ℕ) → (end ≡ due) ⊎ IsCutOff end → due ≢ Ok OutOfTurns → i < turns
    → length bytes ≤ i * 65536 → length piece ≤ 65536 → IsWithin turns end (bytes ++ piece)
within_before turns i end due bytes piece (inl same) other before most room = record {
  most = omega (arith, length-append bytes piece);
  all_taken = λ out. absurd (other (sym same ∙ out));
}
within_before turns i end due bytes piece (inr cut) other before most room = record {
  most = omega (arith, length-append bytes piece);
  all_taken = λ out. absurd (subst IsCutOff out cut);
}

-- of an end by which all turns were taken
pub within_all : (turns i : ℕ) (end : Result TalkEnd AllocError) (bytes : List ℕ) → turns ≤ i → i ≤ turns → i ≤ length bytes → length bytes ≤ i * 65536 → IsWithin turns end bytes
within_all turns i end bytes least most_turns each most = record { most = omega arith; all_taken = λ out. omega arith }

-- Turns, one after another.

-- a turn after which the talk goes on
pub turn_goes_on : (moment : ℤ) (end : Option (Result TalkEnd AllocError)) (start now : Around) (state : FeederState) (stage : TalkStage) (bytes : List ℕ) (room i : ℕ) → end ≡ None → TurnComes moment end start now state stage bytes room
    → room ≡ 65536 → i ≤ length bytes → length bytes ≤ i * 65536
    → (all : List ℕ) × Stands moment start now state stage all × (i + 1 ≤ length all) × (length all ≤ (i + 1) * 65536)
turn_goes_on moment end start now state stage bytes room i is comes wide each most =
    let t = subst (λ (e : Option (Result TalkEnd AllocError)). TurnComes moment e start now state stage bytes room) is comes in
    let some_there : 0 < length t.0 = t.2 refl in
    let fits : length t.0 ≤ room = t.1 in
    (bytes ++ t.0, t.3, omega (arith, length-append bytes t.0), omega (arith, length-append bytes t.0))

-- a turn after which it has ended
pub turn_ended : (moment : ℤ) (end : Option (Result TalkEnd AllocError)) (due : Result TalkEnd AllocError) (start now : Around) (state : FeederState) (stage : TalkStage) (bytes : List ℕ) (room : ℕ) → end ≡ Some due
    → TurnComes moment end start now state stage bytes room → TurnComes moment (Some due) start now state stage bytes room
turn_ended moment end due start now state stage bytes room is comes =
    subst (λ (e : Option (Result TalkEnd AllocError)). TurnComes moment e start now state stage bytes room) is comes

-- a talk whose writer is the one that it was given
pub talks_of_writer : (moment : ℤ) (held given : Option (List ℕ)) (left remains : Option (List ℕ)) (before after : List Exchange) (holds : Option (List ℕ)) (turns : ℕ) (end : Result TalkEnd AllocError) → held ≡ given
    → ((bytes : List ℕ) × Talks moment left remains before after held holds end bytes × IsWithin turns end bytes)
    → (bytes : List ℕ) × Talks moment left remains before after given holds end bytes × IsWithin turns end bytes
talks_of_writer moment held given left remains before after holds turns end same t =
    (t.0, subst (λ (w : Option (List ℕ)). Talks moment left remains before after w holds end t.0) same t.1, t.2)
