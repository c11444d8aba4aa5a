-- The packets of a talk, each taken as what it is.
use Rattle.std.proofs.Common.{◌≡◌, ℕ, ℤ, refl, sym, subst, inl, inr, Bool, true, false, List, [], ◌∷◌, ◌++◌, Option, Result, Err}
use Rattle.std.specs.Prelude.{◌↔◌, ◌<◌, ◌&&◌, ◌==◌, nat_lt, not, All}
use Rattle.std.specs.List.{AllByRecursion}
use Rattle.std.proofs.lemmas.Bool.{and_parts, ltb-true}
use Rattle.std.proofs.lemmas.List.Elements.{All-from_recursion}
use Rattle.std.proofs.lemmas.List.{append-nil}
use Rattle.sd_base.specs.declared.number.SessionKey.{SessionKey}
use Rattle.sd_base.specs.declared.refusal.Refusal.TheVariants as refusals
use Rattle.sd_text.specs.Lines.{line}
use Rattle.sd_span.specs.JobMedia.{session_text}
use Rattle.sd_bnet.specs.Stream.{stream_of}
use Rattle.sd_bnet.specs.declared.packet.Packet.{Packet}
use Rattle.sd_append.specs.declared.command.Command.{Command as Asked}
use Rattle.sd_append.specs.declared.command.Command.TheVariants as commands
use Rattle.sd_append.specs.declared.command.CommandFault.{CommandFault}
use Rattle.sd_append.specs.declared.command.CommandFault.TheVariants.{BadCommand, BadName}
use Rattle.sd_append.specs.declared.stage.Own.{Own}
use Rattle.sd_append.specs.declared.stage.TalkStage.{TalkStage}
use Rattle.sd_append.specs.declared.stage.TalkStage.TheVariants.{Command, Header, Records, Spans, BadSpans}
use Rattle.sd_append.specs.Command.{AreNames, SpellsCommand, HasShape, command_refusal}
use Rattle.sd_append.specs.Does.{Does}
use Rattle.sd_append.specs.Header.{HeaderParts}
use Rattle.sd_append.specs.Out.{OutView, PutsOut}
use Rattle.sd_append.specs.Port.{Exchange}
use Rattle.sd_append.specs.TalkStage.{is_running, own_with}
use Rattle.sd_append.specs.Talk.{Only, TakesSpan, is_one_line, Obeys, ObeysOpen, ObeysData, ObeysEnd, ObeysClose, ObeysConsole, TakesCommand, TakesHeader, TakesRecordPacket, TakesBytes, refused}
use Rattle.sd_append.specs.Text.{trimmed}
use Rattle.sd_append.proofs.OutLemmas.{puts_none}
use Rattle.sd_append.proofs.TalkLemmas.{obeys_as, only_says}

-- a step with an outcome that follows from its own
pub does_map : (f h : List Exchange → List Packet → Type 0) (before after : List Exchange) (old new : OutView) → ((asked : List Exchange) (out : List Packet) → f asked out → h asked out)
    → Does f before after old new → Does h before after old new
does_map f h before after old new gives does = record {
  asked = does.asked;
  out = does.out;
  outcome_is = gives does.asked does.out does.outcome_is;
  after_is = does.after_is;
  puts = does.puts;
}

pub open_obeyed : (moment : ℤ) (own : Option Own) (command : Asked) (running : Bool) (job : ℕ) (pool media : List ℕ) (next : TalkStage) (before after : List Exchange) (old new : OutView)
    → command ≡ commands.Open job pool media → running ≡ is_running own → Does (λ asked out. ObeysOpen moment running own job pool media asked out next) before after old new
    → Does (λ asked out. Obeys moment own command asked out next) before after old new
open_obeyed moment own command running job pool media next before after old new is same does =
    obeys_as moment own command (commands.Open job pool media) next before after old new is
    (subst (λ (b : Bool). Does (λ asked out. ObeysOpen moment b own job pool media asked out next) before after old new) same does)

pub data_obeyed : (moment : ℤ) (own : Option Own) (command : Asked) (ticket : Option ℕ) (named : Result Own (Option Own)) (next : TalkStage) (before after : List Exchange) (old new : OutView)
    → command ≡ commands.Data ticket → named ≡ own_with own ticket → Does (λ asked out. ObeysData named asked out next) before after old new
    → Does (λ asked out. Obeys moment own command asked out next) before after old new
data_obeyed moment own command ticket named next before after old new is same does =
    obeys_as moment own command (commands.Data ticket) next before after old new is
    (subst (λ (n : Result Own (Option Own)). Does (λ asked out. ObeysData n asked out next) before after old new) same does)

pub end_obeyed : (moment : ℤ) (own : Option Own) (command : Asked) (ticket : Option ℕ) (named : Result Own (Option Own)) (next : TalkStage) (before after : List Exchange) (old new : OutView)
    → command ≡ commands.End ticket → named ≡ own_with own ticket → Does (λ asked out. ObeysEnd moment named asked out next) before after old new
    → Does (λ asked out. Obeys moment own command asked out next) before after old new
end_obeyed moment own command ticket named next before after old new is same does =
    obeys_as moment own command (commands.End ticket) next before after old new is
    (subst (λ (n : Result Own (Option Own)). Does (λ asked out. ObeysEnd moment n asked out next) before after old new) same does)

pub close_obeyed : (moment : ℤ) (own : Option Own) (command : Asked) (ticket : Option ℕ) (named : Result Own (Option Own)) (next : TalkStage) (before after : List Exchange) (old new : OutView)
    → command ≡ commands.Close ticket → named ≡ own_with own ticket → Does (λ asked out. ObeysClose named asked out next) before after old new
    → Does (λ asked out. Obeys moment own command asked out next) before after old new
close_obeyed moment own command ticket named next before after old new is same does =
    obeys_as moment own command (commands.Close ticket) next before after old new is
    (subst (λ (n : Result Own (Option Own)). Does (λ asked out. ObeysClose n asked out next) before after old new) same does)

pub console_obeyed : (moment : ℤ) (own : Option Own) (command : Asked) (text slice : List ℕ) (next : TalkStage) (before after : List Exchange) (old new : OutView)
    → command ≡ commands.Console text → slice ≡ text → Does (λ asked out. ObeysConsole moment own slice asked out next) before after old new
    → Does (λ asked out. Obeys moment own command asked out next) before after old new
console_obeyed moment own command text slice next before after old new is same does =
    obeys_as moment own command (commands.Console text) next before after old new is
    (subst (λ (t : List ℕ). Does (λ asked out. ObeysConsole moment own t asked out next) before after old new) same does)

pub read_obeyed : (moment : ℤ) (own : Option Own) (command : Asked) (key : SessionKey) (text : List ℕ) (asked : List Exchange) (v : OutView)
    → command ≡ commands.Read key → text ≡ line (session_text key) → Does (λ more out. Obeys moment own command more out (Spans own text)) asked asked v v
read_obeyed moment own command key text asked v is same =
    obeys_as moment own command (commands.Read key) (Spans own text) asked asked v v is
    (subst (λ (t : List ℕ). Does (λ more out. Only [] (Spans own (line (session_text key))) more out (Spans own t)) asked asked v v) (sym same)
    (only_says [] (Spans own (line (session_text key))) asked v v (puts_none v)))

-- a packet that is no command
pub fault_taken : (moment : ℤ) (own : Option Own) (bytes : List ℕ) (r : Result Asked CommandFault) (fault : CommandFault) (asked : List Exchange) (old new : OutView) → r ≡ Err fault
    → ((r ≡ Err BadName) ↔ ((command : Asked) × HasShape bytes command × (AreNames command → ⊥))) → ((r ≡ Err BadCommand) ↔ ((command : Asked) → HasShape bytes command → ⊥))
    → PutsOut old new (stream_of (refused (command_refusal fault) ∷ [])) → Does (λ more out. TakesCommand moment own bytes more out (Command own)) asked asked old new
fault_taken moment own bytes r BadName asked old new is bad_name bad_command puts =
    let named = bad_name.0 is in
    does_map (λ more out. Only (refused refusals.BadName ∷ []) (Command own) more out (Command own)) (λ more out. TakesCommand moment own bytes more out (Command own)) asked asked old new
    (λ more out says. inr (inl (named.0, named.1, named.2, says)))
    (only_says (refused refusals.BadName ∷ []) (Command own) asked old new puts)
fault_taken moment own bytes r BadCommand asked old new is bad_name bad_command puts =
    does_map (λ more out. Only (refused refusals.BadCommand ∷ []) (Command own) more out (Command own)) (λ more out. TakesCommand moment own bytes more out (Command own)) asked asked old new
    (λ more out says. inr (inr (bad_command.0 is, says)))
    (only_says (refused refusals.BadCommand ∷ []) (Command own) asked old new puts)

pub command_taken : (moment : ℤ) (own : Option Own) (bytes : List ℕ) (command : Asked) (next : TalkStage) (before after : List Exchange) (old new : OutView) → SpellsCommand bytes command
    → Does (λ asked out. Obeys moment own command asked out next) before after old new → Does (λ asked out. TakesCommand moment own bytes asked out next) before after old new
command_taken moment own bytes command next before after old new form does =
    does_map (λ asked out. Obeys moment own command asked out next) (λ asked out. TakesCommand moment own bytes asked out next) before after old new
    (λ asked out obeys. inl (command, form, obeys)) does

-- Spans.

one_line-small : (text : List ℕ) → is_one_line text ≡ true → AllByRecursion (λ c. c < 128) text
one_line-small [] e = tt
one_line-small (c ∷ text) e =
    let both = and_parts (nat_lt c 128 && not (c == 10)) (is_one_line text) e in
    (ltb-true c 128 (and_parts (nat_lt c 128) (not (c == 10)) both.0).0, one_line-small text both.1)

-- one line is ASCII
pub one_line-ascii : (text : List ℕ) → is_one_line text ≡ true → All (λ c. c < 128) text
one_line-ascii text e = All-from_recursion (λ c. c < 128) text (one_line-small text e)

pub span_refused : (b : Bool) (own : Option Own) (text more : List ℕ) → b ≡ false → TakesSpan b own text more [] [] (BadSpans own refusals.BadSpan)
span_refused b own text more is =
    subst (λ (x : Bool). TakesSpan x own text more [] [] (BadSpans own refusals.BadSpan)) (sym is) (refl, refl, refl)

-- Payloads.

-- a step that says nothing
pub quiet_step : (f : List Exchange → List Packet → Type 0) (before after : List Exchange) (v : OutView)
    → ((asked : List Exchange) × f asked [] × (after ≡ before ++ asked)) → Does f before after v v
quiet_step f before after v step = record { asked = step.0; out = []; outcome_is = step.1; after_is = step.2; puts = puts_none v }

-- a payload is taken as where the talk stands
bytes_as : (moment : ℤ) (stage given : TalkStage) (bytes : List ℕ) (next : TalkStage) (before after : List Exchange) (old new : OutView) → stage ≡ given
    → Does (λ asked out. TakesBytes moment given bytes asked out next) before after old new → Does (λ asked out. TakesBytes moment stage bytes asked out next) before after old new
bytes_as moment stage given bytes next before after old new is does =
    subst (λ (s : TalkStage). Does (λ asked out. TakesBytes moment s bytes asked out next) before after old new) (sym is) does

pub command_step : (moment : ℤ) (stage : TalkStage) (own : Option Own) (bytes slice : List ℕ) (next : TalkStage) (before after : List Exchange) (old new : OutView) → stage ≡ Command own → slice ≡ bytes
    → Does (λ asked out. TakesCommand moment own slice asked out next) before after old new → Does (λ asked out. TakesBytes moment stage bytes asked out next) before after old new
command_step moment stage own bytes slice next before after old new is same does =
    bytes_as moment stage (Command own) bytes next before after old new is
    (subst (λ (b : List ℕ). Does (λ asked out. TakesCommand moment own b asked out next) before after old new) same does)

pub header_step : (moment : ℤ) (stage : TalkStage) (own : Own) (bytes slice : List ℕ) (next : TalkStage) (before after : List Exchange) (v : OutView) → stage ≡ Header own → slice ≡ bytes
    → ((asked : List Exchange) × TakesHeader own slice asked [] next × (after ≡ before ++ asked)) → Does (λ asked out. TakesBytes moment stage bytes asked out next) before after v v
header_step moment stage own bytes slice next before after v is same step =
    bytes_as moment stage (Header own) bytes next before after v v is
    (subst (λ (b : List ℕ). Does (λ asked out. TakesHeader own b asked out next) before after v v) same
    (quiet_step (λ asked out. TakesHeader own slice asked out next) before after v step))

pub record_step : (moment : ℤ) (stage : TalkStage) (own : Own) (header : HeaderParts) (bytes : List ℕ) (next : TalkStage) (before after : List Exchange) (v : OutView) → stage ≡ Records own header
    → ((asked : List Exchange) × TakesRecordPacket own header bytes asked [] next × (after ≡ before ++ asked)) → Does (λ asked out. TakesBytes moment stage bytes asked out next) before after v v
record_step moment stage own header bytes next before after v is step =
    bytes_as moment stage (Records own header) bytes next before after v v is (quiet_step (λ asked out. TakesRecordPacket own header bytes asked out next) before after v step)

pub span_step : (moment : ℤ) (stage : TalkStage) (own : Option Own) (text bytes slice : List ℕ) (next : TalkStage) (before : List Exchange) (v : OutView) → stage ≡ Spans own text → slice ≡ bytes
    → TakesSpan (is_one_line (trimmed slice)) own text (trimmed slice) [] [] next → Does (λ asked out. TakesBytes moment stage bytes asked out next) before before v v
span_step moment stage own text bytes slice next before v is same step =
    bytes_as moment stage (Spans own text) bytes next before before v v is
    (subst (λ (b : List ℕ). Does (λ asked out. TakesSpan (is_one_line (trimmed b)) own text (trimmed b) asked out next) before before v v) same
    (quiet_step (λ asked out. TakesSpan (is_one_line (trimmed slice)) own text (trimmed slice) asked out next) before before v ([], step, sym (append-nil before))))

pub plain_step : (moment : ℤ) (stage given : TalkStage) (bytes : List ℕ) (next : TalkStage) (before : List Exchange) (v : OutView) → stage ≡ given
    → TakesBytes moment given bytes [] [] next → Does (λ asked out. TakesBytes moment stage bytes asked out next) before before v v
plain_step moment stage given bytes next before v is step =
    bytes_as moment stage given bytes next before before v v is
    (quiet_step (λ asked out. TakesBytes moment given bytes asked out next) before before v ([], step, sym (append-nil before)))
