-- Packets, each taken as what it is, and sessions read back.
use Rattle.std.proofs.Common.{◌≡◌, ℕ, ℤ, refl, sym, ap, subst, ◌∙◌, inl, inr, List, [], ◌∷◌, ◌++◌, Option, Result, Err}
use Rattle.std.specs.List.{flat_map}
use Rattle.sd_base.specs.Record.{Record}
use Rattle.sd_base.specs.declared.number.SessionKey.{SessionKey}
use Rattle.sd_base.specs.declared.refusal.Refusal.{Refusal}
use Rattle.sd_base.specs.declared.refusal.Refusal.TheVariants as refusals
use Rattle.sd_bnet.specs.Stream.{stream_of}
use Rattle.sd_bnet.specs.declared.packet.Packet.{Packet}
use Rattle.sd_bnet.specs.declared.packet.Packet.TheVariants.{Signal}
use Rattle.sd_span.specs.JobMedia.{IsJobMedia, jobmedia_refusal}
use Rattle.sd_span.specs.declared.span.Span.{Span}
use Rattle.sd_span.specs.declared.jobmedia.SessionSpans.{SessionSpans}
use Rattle.sd_span.specs.declared.jobmedia.JobMediaFault.{JobMediaFault}
use Rattle.sd_span.specs.declared.jobmedia.JobMediaFault.TheVariants.{BadSpan, Memory}
use Rattle.sd_readback.specs.declared.read.ReadEnd.{ReadEnd}
use Rattle.sd_append.specs.declared.signal.Meaning.{Meaning}
use Rattle.sd_append.specs.declared.stage.Own.{Own}
use Rattle.sd_append.specs.declared.stage.TalkStage.{TalkStage}
use Rattle.sd_append.specs.declared.stage.TalkStage.TheVariants.{Command}
use Rattle.sd_append.specs.Does.{Does}
use Rattle.sd_append.specs.Out.{OutView, PutsOut}
use Rattle.sd_append.specs.Port.{Exchange, WasRead}
use Rattle.sd_append.specs.TalkStage.{meaning_of}
use Rattle.sd_append.specs.Talk.{Only, ReadsBack, Takes, TakesEnd, TakesSignal, end_of_data, read_end_said, record_said, refused}
use Rattle.sd_append.proofs.TakeLemmas.{does_map}
use Rattle.sd_append.proofs.TalkLemmas.{only_says, says_then}

-- a packet is taken as the one that it is
pub packet_as : (moment : ℤ) (stage : TalkStage) (packet given : Packet) (next : TalkStage) (before after : List Exchange) (old new : OutView) → packet ≡ given
    → Does (λ asked out. Takes moment stage given asked out next) before after old new → Does (λ asked out. Takes moment stage packet asked out next) before after old new
packet_as moment stage packet given next before after old new is does =
    subst (λ (p : Packet). Does (λ asked out. Takes moment stage p asked out next) before after old new) (sym is) does

pub signal_as : (moment : ℤ) (stage : TalkStage) (packet : Packet) (number : ℤ) (meaning : Meaning) (next : TalkStage) (before after : List Exchange) (old new : OutView) → packet ≡ Signal number
    → meaning ≡ meaning_of number → Does (λ asked out. TakesSignal meaning stage asked out next) before after old new → Does (λ asked out. Takes moment stage packet asked out next) before after old new
signal_as moment stage packet number meaning next before after old new is same does =
    packet_as moment stage packet (Signal number) next before after old new is
    (subst (λ (m : Meaning). Does (λ asked out. TakesSignal m stage asked out next) before after old new) same does)

-- a signal is taken as what it means
pub meaning_as : (meaning given : Meaning) (stage next : TalkStage) (before after : List Exchange) (old new : OutView) → meaning ≡ given
    → Does (λ asked out. TakesSignal given stage asked out next) before after old new → Does (λ asked out. TakesSignal meaning stage asked out next) before after old new
meaning_as meaning given stage next before after old new is does =
    subst (λ (m : Meaning). Does (λ asked out. TakesSignal m stage asked out next) before after old new) (sym is) does

-- the end of data is taken as where the talk stands
pub end_as : (stage given next : TalkStage) (before after : List Exchange) (old new : OutView) → stage ≡ given
    → Does (λ asked out. TakesEnd given asked out next) before after old new → Does (λ asked out. TakesEnd stage asked out next) before after old new
end_as stage given next before after old new is does =
    subst (λ (s : TalkStage). Does (λ asked out. TakesEnd s asked out next) before after old new) (sym is) does

-- a session was read back
pub read_done : (own : Option Own) (text : List ℕ) (key : SessionKey) (spans slice : List Span) (answer : Result ReadEnd Refusal) (before after : List Exchange) (a b c : OutView)
    → IsJobMedia text key spans → slice ≡ spans
    → ((records : List Record) × (after ≡ before ++ WasRead key slice records answer ∷ []) × PutsOut a b (stream_of (flat_map record_said records)))
    → PutsOut b c (stream_of (end_of_data ∷ read_end_said answer ∷ [])) → Does (λ asked out. ReadsBack own text asked out (Command own)) before after a c
read_done own text key spans slice answer before after a b c says same read ending = record {
  asked = WasRead key spans read.0 answer ∷ [];
  out = flat_map record_said read.0 ++ end_of_data ∷ read_end_said answer ∷ [];
  outcome_is = inl (key, spans, read.0, answer, says, refl, refl, refl);
  after_is = read.1 ∙ ap (λ (s : List Span). before ++ WasRead key s read.0 answer ∷ []) same;
  puts = says_then a b c (flat_map record_said read.0) (end_of_data ∷ read_end_said answer ∷ []) read.2 ending;
}

-- a session can't be read back
pub read_refused : (own : Option Own) (text : List ℕ) (r : Result SessionSpans JobMediaFault) (fault : JobMediaFault) (before : List Exchange) (a c : OutView) → r ≡ Err fault
    → (r ≡ Err BadSpan → (key : SessionKey) (spans : List Span) → IsJobMedia text key spans → ⊥)
    → PutsOut a c (stream_of (end_of_data ∷ refused (jobmedia_refusal fault) ∷ [])) → Does (λ asked out. ReadsBack own text asked out (Command own)) before before a c
read_refused own text r BadSpan before a c is none puts =
    does_map (λ asked out. Only (end_of_data ∷ refused refusals.BadSpan ∷ []) (Command own) asked out (Command own)) (λ asked out. ReadsBack own text asked out (Command own)) before before a c
    (λ asked out only. inr (inl (none is, only)))
    (only_says (end_of_data ∷ refused refusals.BadSpan ∷ []) (Command own) before a c puts)
read_refused own text r Memory before a c is none puts =
    does_map (λ asked out. Only (end_of_data ∷ refused refusals.Memory ∷ []) (Command own) asked out (Command own)) (λ asked out. ReadsBack own text asked out (Command own)) before before a c
    (λ asked out only. inr (inr only))
    (only_says (end_of_data ∷ refused refusals.Memory ∷ []) (Command own) before a c puts)
