-- Where a talk stands from one read to the next.
use Rattle.std.proofs.Common.{◌≡◌, ◌≢◌, ℕ, ℤ, ◌<◌, ◌≤◌, refl, sym, ap, subst, ◌∙◌, arith, inl, inr, Bool, List, [], ◌∷◌, ◌++◌, length, take, Option, Some, None, Result, Ok, Err, pos, length-append}
use Rattle.std.specs.Prelude.{◌↔◌, IsNone, IsTrue}
use Rattle.std.specs.declared.alloc.AllocError.{AllocError}
use Rattle.std.specs.Io.KnownBytes.{Consumes, IsAtEnd, Keeps}
use Rattle.std.proofs.lemmas.List.{append_assoc, append-nil, length-take-le}
use Rattle.sd_base.specs.Field.{i32_bytes}
use Rattle.sd_bnet.specs.Feeder.{FeederState, Fits, IsMidway}
use Rattle.sd_bnet.specs.Feeder.FeederState.{Waiting, Failed}
use Rattle.sd_bnet.specs.Stream.{IsFront, IsTooLong, IsUnfinished, Packets, stream_of}
use Rattle.sd_bnet.specs.declared.packet.Packet.{Packet}
use Rattle.sd_bnet.proofs.PacketLemmas.{length-i32_bytes}
use Rattle.sd_append.specs.declared.end.TalkEnd.{TalkEnd}
use Rattle.sd_append.specs.declared.end.TalkEnd.TheVariants.{Finished, Truncated, TooLong, ReadFault, WriteFault, OutOfTurns}
use Rattle.sd_append.specs.declared.outbox.OutFault.{OutFault}
use Rattle.sd_append.specs.declared.outbox.OutFault.TheVariants as faults
use Rattle.sd_append.specs.declared.stage.TalkStage.{TalkStage}
use Rattle.sd_append.specs.declared.stage.TalkStage.TheVariants.{Command}
use Rattle.sd_append.specs.Conversation.{Converses}
use Rattle.sd_append.specs.Does.{Does}
use Rattle.sd_append.specs.Out.{OutView, PutsOut}
use Rattle.sd_append.specs.Port.{Exchange}
use Rattle.sd_append.specs.Standing.{Around, Comes, EndsBehind, EndsInput, Halts, Stands, around, fault_end}
use Rattle.sd_append.proofs.ConverseLemmas.{converses_none, does_then}
use Rattle.sd_append.proofs.OutLemmas.{puts_then_nothing}

-- What a reader loses.

pub consumes_none : (a : Option (List ℕ)) → Consumes a a []
consumes_none None = tt
consumes_none (Some xs) = refl

consumes_then : (a b c : Option (List ℕ)) (x y : List ℕ) → Consumes a b x → Consumes b c y → Consumes a c (x ++ y)
consumes_then None b c x y p q = tt
consumes_then (Some xs) None c x y p q = absurd p
consumes_then (Some xs) (Some ys) None x y p q = absurd q
consumes_then (Some xs) (Some ys) (Some zs) x y p q = p ∙ ap (λ l. x ++ l) q ∙ sym (append_assoc x y zs)

pub keeps_all : (a b : Option (List ℕ)) → Keeps a b → Consumes a b []
keeps_all None b p = tt
keeps_all (Some xs) None p = absurd p
keeps_all (Some xs) (Some ys) p = sym p

consumes_nothing_more : (a b c : Option (List ℕ)) (x : List ℕ) → Consumes a b x → Consumes b c [] → Consumes a c x
consumes_nothing_more a b c x p q = subst (Consumes a c) (append-nil x) (consumes_then a b c x [] p q)

-- What a feeder keeps.

-- some bytes come after its packets
parts : (state : FeederState) (bytes : List ℕ) (packets : List Packet) → Fits state bytes packets → (rest : List ℕ) × Packets bytes packets rest
parts (Waiting begun) bytes packets fits = (begun, fits.0)
parts Failed bytes packets fits = (fits.0, fits.1)

-- if it hasn't failed, they are nothing or the front of a packet
waits : (state : FeederState) (bytes : List ℕ) (packets : List Packet) → state ≢ Failed → Fits state bytes packets → (rest : List ℕ) × Packets bytes packets rest × IsUnfinished rest
waits (Waiting begun) bytes packets well fits = (begun, fits.0, fits.1)
waits Failed bytes packets well fits = absurd (well refl)

-- the front of a packet if one has begun
waits_midway : (state : FeederState) (bytes : List ℕ) (packets : List Packet) → state ≢ Failed → IsMidway state → Fits state bytes packets
    → (rest : List ℕ) × Packets bytes packets rest × IsUnfinished rest × IsFront rest
waits_midway (Waiting begun) bytes packets well midway fits = (begun, fits.0, fits.1, midway)
waits_midway Failed bytes packets well midway fits = absurd (well refl)

nothing_of : (begun : List ℕ) → (IsFront begun → ⊥) → IsUnfinished begun → begun ≡ []
nothing_of begun none (inl e) = e
nothing_of begun none (inr front) = absurd (none front)

-- nothing if none has begun
waits_between : (state : FeederState) (bytes : List ℕ) (packets : List Packet) → state ≢ Failed → (IsMidway state → ⊥) → Fits state bytes packets → Packets bytes packets []
waits_between (Waiting begun) bytes packets well none fits = subst (Packets bytes packets) (nothing_of begun none fits.1) fits.0
waits_between Failed bytes packets well none fits = absurd (well refl)

-- too long a length is no empty list
not_too_long : (remainder : List ℕ) → [] ≡ remainder → IsTooLong remainder → ⊥
not_too_long remainder e long =
    omega (arith, length-append (i32_bytes (pos long.0)) long.1, length-i32_bytes (pos long.0), ap length (e ∙ long.4))

-- a new feeder hasn't failed
new_waits : (state : FeederState) → Fits state [] [] → state ≢ Failed
new_waits (Waiting begun) fits = λ wrong. cc wrong
new_waits Failed fits = λ same. not_too_long fits.0 fits.1.joined fits.2

-- Going on.

-- a talk begins
pub stands_first : (moment : ℤ) (left : Option (List ℕ)) (asked : List Exchange) (out : OutView) (state : FeederState) → Fits state [] []
    → Stands moment (around left asked out) (around left asked out) state (Command None) []
stands_first moment left asked out state fits = record {
  packets = [];
  read = consumes_none left;
  fits = fits;
  takes = converses_none moment (Command None) asked out;
  goes_on = ((λ over. over), new_waits state fits);
}

does_written : (f : List Exchange → List Packet → Type 0) (before after : List Exchange) (a b c : OutView) → Does f before after a b → PutsOut b c [] → Does f before after a c
does_written f before after a b c does puts = record {
  asked = does.asked;
  out = does.out;
  outcome_is = does.outcome_is;
  after_is = does.after_is;
  puts = puts_then_nothing a b c (stream_of does.out) does.puts puts;
}

-- what waited was written out
pub stands_written : (moment : ℤ) (start : Around) (left : Option (List ℕ)) (asked : List Exchange) (old new : OutView) (state : FeederState) (stage : TalkStage) (bytes : List ℕ) → PutsOut old new []
    → Stands moment start (around left asked old) state stage bytes → Stands moment start (around left asked new) state stage bytes
stands_written moment start left asked old new state stage bytes puts h = record {
  packets = h.packets;
  read = h.read;
  fits = h.fits;
  takes = does_written (λ more out. Converses moment (Command None) h.packets more out stage) start.asked asked start.out old new h.takes puts;
  goes_on = h.goes_on;
}

-- Pieces of the input.

-- the packets of a piece were taken
pub piece_taken : (moment : ℤ) (end : Option (Result TalkEnd AllocError)) (start : Around) (left remains : Option (List ℕ)) (asked asks : List Exchange) (old new : OutView)
    (state next : FeederState) (stage stands : TalkStage) (bytes piece : List ℕ) (found : List Packet) (failed : Bool)
    → Consumes left remains piece → Stands moment start (around left asked old) state stage bytes
    → ((front : List ℕ) (before : List Packet) → Fits state front before → Fits next (front ++ piece) (before ++ found))
    → IsTrue failed ↔ (next ≡ Failed) → Does (λ more out. Converses moment stage found more out stands) asked asks old new → EndsBehind end failed stands
    → Comes moment end start (around remains asks new) next stands (bytes ++ piece)
piece_taken moment None start left remains asked asks old new state next stage stands bytes piece found failed more h feeds fails takes ends = record {
  packets = h.packets ++ found;
  read = consumes_then start.left left remains bytes piece h.read more;
  fits = feeds bytes h.packets h.fits;
  takes = does_then moment (Command None) stage stands h.packets found start.asked asked asks start.out old new h.takes takes;
  goes_on = (ends.0, λ is. ends.1 (fails.1 is));
}
piece_taken moment (Some (Ok Finished)) start left remains asked asks old new state next stage stands bytes piece found failed more h feeds fails takes ends =
    let p = parts next (bytes ++ piece) (h.packets ++ found) (feeds bytes h.packets h.fits) in (
      record {
        packets = h.packets ++ found;
        rest = p.0;
        read = consumes_then start.left left remains bytes piece h.read more;
        parted = p.1;
        takes = does_then moment (Command None) stage stands h.packets found start.asked asked asks start.out old new h.takes takes;
        ends = inl ends;
      },
      λ wrong. cc wrong,
    )
piece_taken moment (Some (Ok TooLong)) start left remains asked asks old new state next stage stands bytes piece found failed more h feeds fails takes ends =
    let f = subst (λ (s : FeederState). Fits s (bytes ++ piece) (h.packets ++ found)) (fails.0 ends.1) (feeds bytes h.packets h.fits) in (
      record {
        packets = h.packets ++ found;
        rest = f.0;
        read = consumes_then start.left left remains bytes piece h.read more;
        parted = f.1;
        takes = does_then moment (Command None) stage stands h.packets found start.asked asked asks start.out old new h.takes takes;
        ends = (ends.0, f.2);
      },
      λ wrong. cc wrong,
    )
piece_taken moment (Some (Ok Truncated)) start left remains asked asks old new state next stage stands bytes piece found failed more h feeds fails takes ends = absurd ends
piece_taken moment (Some (Ok ReadFault)) start left remains asked asks old new state next stage stands bytes piece found failed more h feeds fails takes ends = absurd ends
piece_taken moment (Some (Ok WriteFault)) start left remains asked asks old new state next stage stands bytes piece found failed more h feeds fails takes ends = absurd ends
piece_taken moment (Some (Ok OutOfTurns)) start left remains asked asks old new state next stage stands bytes piece found failed more h feeds fails takes ends = absurd ends
piece_taken moment (Some (Err e)) start left remains asked asks old new state next stage stands bytes piece found failed more h feeds fails takes ends = absurd ends

-- Ends without a piece.

-- nothing was read
pub no_piece : (moment : ℤ) (end : Result TalkEnd AllocError) (start now : Around) (state : FeederState) (stage : TalkStage) (bytes : List ℕ) (room : ℕ) → Comes moment (Some end) start now state stage bytes
    → (piece : List ℕ) × (length piece ≤ room) × (IsNone (Some end) → 0 < length piece) × Comes moment (Some end) start now state stage (bytes ++ piece)
no_piece moment end start now state stage bytes room comes =
    ([], omega arith, (λ none. absurd (cc none)), subst (λ (l : List ℕ). Comes moment (Some end) start now state stage l) (sym (append-nil bytes)) comes)

-- writing has failed
pub writing_failed : (moment : ℤ) (fault : OutFault) (start : Around) (left : Option (List ℕ)) (asked : List Exchange) (out : OutView) (state : FeederState) (stage : TalkStage) (bytes : List ℕ)
    → Stands moment start (around left asked out) state stage bytes → Comes moment (Some (fault_end fault)) start (around left asked out) state stage bytes
writing_failed moment faults.Write start left asked out state stage bytes h =
    let p = parts state bytes h.packets h.fits in
    (record { packets = h.packets; rest = p.0; read = h.read; parted = p.1; takes = h.takes; ends = tt }, λ wrong. cc wrong)
writing_failed moment faults.Memory start left asked out state stage bytes h =
    let p = parts state bytes h.packets h.fits in
    (record { packets = h.packets; rest = p.0; read = h.read; parted = (bytes, [], sym (append-nil bytes), p.1); takes = h.takes; ends = tt }, λ wrong. cc wrong)

-- reading has failed
pub reading_failed : (moment : ℤ) (start : Around) (left remains : Option (List ℕ)) (asked : List Exchange) (out : OutView) (state : FeederState) (stage : TalkStage) (bytes : List ℕ)
    → Keeps left remains → Stands moment start (around left asked out) state stage bytes → Comes moment (Some (Ok ReadFault)) start (around remains asked out) state stage bytes
reading_failed moment start left remains asked out state stage bytes keeps h =
    let w = waits state bytes h.packets h.goes_on.1 h.fits in (
      record {
        packets = h.packets;
        rest = w.0;
        read = consumes_nothing_more start.left left remains bytes h.read (keeps_all left remains keeps);
        parted = w.1;
        takes = h.takes;
        ends = (h.goes_on.0, w.2);
      },
      λ wrong. cc wrong,
    )

-- the input has ended
pub input_ended : (moment : ℤ) (end : TalkEnd) (start : Around) (left remains : Option (List ℕ)) (asked : List Exchange) (out : OutView) (state : FeederState) (stage : TalkStage) (bytes : List ℕ)
    → EndsInput end state stage → Consumes left remains [] → IsAtEnd remains → Stands moment start (around left asked out) state stage bytes
    → Comes moment (Some (Ok end)) start (around remains asked out) state stage bytes
input_ended moment Finished start left remains asked out state stage bytes ends more empty h = (
  record {
    packets = h.packets;
    rest = [];
    read = consumes_nothing_more start.left left remains bytes h.read more;
    parted = waits_between state bytes h.packets h.goes_on.1 ends.1 h.fits;
    takes = h.takes;
    ends = inr (ends.0, refl, empty);
  },
  λ wrong. cc wrong,
)
input_ended moment Truncated start left remains asked out state stage bytes (inl undue) more empty h =
    let w = waits state bytes h.packets h.goes_on.1 h.fits in (
      record {
        packets = h.packets;
        rest = w.0;
        read = consumes_nothing_more start.left left remains bytes h.read more;
        parted = w.1;
        takes = h.takes;
        ends = (h.goes_on.0, w.2, inl undue, empty);
      },
      λ wrong. cc wrong,
    )
input_ended moment Truncated start left remains asked out state stage bytes (inr midway) more empty h =
    let w = waits_midway state bytes h.packets h.goes_on.1 midway h.fits in (
      record {
        packets = h.packets;
        rest = w.0;
        read = consumes_nothing_more start.left left remains bytes h.read more;
        parted = w.1;
        takes = h.takes;
        ends = (h.goes_on.0, w.2, inr w.3, empty);
      },
      λ wrong. cc wrong,
    )
input_ended moment TooLong start left remains asked out state stage bytes ends more empty h = absurd ends
input_ended moment ReadFault start left remains asked out state stage bytes ends more empty h = absurd ends
input_ended moment WriteFault start left remains asked out state stage bytes ends more empty h = absurd ends
input_ended moment OutOfTurns start left remains asked out state stage bytes ends more empty h = absurd ends

-- the turns ran out
pub turns_ended : (moment : ℤ) (start : Around) (left : Option (List ℕ)) (asked : List Exchange) (out : OutView) (state : FeederState) (stage : TalkStage) (bytes : List ℕ)
    → Stands moment start (around left asked out) state stage bytes → Halts moment start (around left asked out) stage (Ok OutOfTurns) bytes
turns_ended moment start left asked out state stage bytes h =
    let w = waits state bytes h.packets h.goes_on.1 h.fits in
    record { packets = h.packets; rest = w.0; read = h.read; parted = w.1; takes = h.takes; ends = (h.goes_on.0, w.2) }

-- Turns.

-- one more turn comes to this
abbrev pub TurnComes : ℤ → Option (Result TalkEnd AllocError) → Around → Around → FeederState → TalkStage → List ℕ → ℕ → Type 0
TurnComes moment end start now state stage bytes room =
    (piece : List ℕ) × (length piece ≤ room) × (IsNone end → 0 < length piece) × Comes moment end start now state stage (bytes ++ piece)

-- what waited could not be written out
pub turn_unwritten : (moment : ℤ) (fault : OutFault) (end : Result TalkEnd AllocError) (start : Around) (left : Option (List ℕ)) (asked : List Exchange) (old new : OutView) (state : FeederState) (stage : TalkStage) (bytes : List ℕ) (room : ℕ)
    → end ≡ fault_end fault → PutsOut old new [] → Stands moment start (around left asked old) state stage bytes → TurnComes moment (Some end) start (around left asked new) state stage bytes room
turn_unwritten moment fault end start left asked old new state stage bytes room is puts h =
    no_piece moment end start (around left asked new) state stage bytes room
    (subst (λ (e : Result TalkEnd AllocError). Comes moment (Some e) start (around left asked new) state stage bytes) (sym is)
    (writing_failed moment fault start left asked new state stage bytes (stands_written moment start left asked old new state stage bytes puts h)))

take_none : (xs : List ℕ) → take 0 xs ≡ []
take_none [] = refl
take_none (x ∷ xs) = refl

-- the reader gave nothing
pub turn_at_end : (moment : ℤ) (end : TalkEnd) (start : Around) (left remains : Option (List ℕ)) (asked : List Exchange) (old new : OutView) (state : FeederState) (stage : TalkStage) (bytes gave : List ℕ) (count room : ℕ)
    → count ≡ 0 → 0 < length gave → (Consumes left remains (take count gave) × (count ≡ 0 → 0 < length gave → IsAtEnd remains)) → EndsInput end state stage
    → PutsOut old new [] → Stands moment start (around left asked old) state stage bytes → TurnComes moment (Some (Ok end)) start (around remains asked new) state stage bytes room
turn_at_end moment end start left remains asked old new state stage bytes gave count room none some_there read ends puts h =
    no_piece moment (Ok end) start (around remains asked new) state stage bytes room
    (input_ended moment end start left remains asked new state stage bytes ends
    (subst (Consumes left remains) (ap (λ (n : ℕ). take n gave) none ∙ take_none gave) read.0) (read.1 none some_there)
    (stands_written moment start left asked old new state stage bytes puts h))

-- the reader failed
pub turn_unread : (moment : ℤ) (start : Around) (left remains : Option (List ℕ)) (asked : List Exchange) (old new : OutView) (state : FeederState) (stage : TalkStage) (bytes : List ℕ) (room : ℕ)
    → Keeps left remains → PutsOut old new [] → Stands moment start (around left asked old) state stage bytes → TurnComes moment (Some (Ok ReadFault)) start (around remains asked new) state stage bytes room
turn_unread moment start left remains asked old new state stage bytes room keeps puts h =
    no_piece moment (Ok ReadFault) start (around remains asked new) state stage bytes room
    (reading_failed moment start left remains asked new state stage bytes keeps (stands_written moment start left asked old new state stage bytes puts h))

-- the reader gave a piece
pub turn_taken : (moment : ℤ) (end : Option (Result TalkEnd AllocError)) (start now : Around) (left remains : Option (List ℕ)) (asked : List Exchange) (old new : OutView) (state next : FeederState) (stage stands : TalkStage)
    (bytes gave : List ℕ) (count room : ℕ) → 0 < count → count ≤ length gave → length gave ≤ room → (Consumes left remains (take count gave) × (count ≡ 0 → 0 < length gave → IsAtEnd remains))
    → PutsOut old new [] → Stands moment start (around left asked old) state stage bytes
    → (Consumes left remains (take count gave) → Stands moment start (around left asked new) state stage bytes → Comes moment end start now next stands (bytes ++ take count gave))
    → TurnComes moment end start now next stands bytes room
turn_taken moment end start now left remains asked old new state next stage stands bytes gave count room some_there within fits read puts h comes = (
  take count gave,
  omega (arith, length-take-le count gave within),
  (λ none. omega (arith, length-take-le count gave within)),
  comes read.0 (stands_written moment start left asked old new state stage bytes puts h),
)
