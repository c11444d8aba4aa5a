-- The steps of a talk, put together.
use Rattle.std.proofs.Common.{◌≡◌, ℕ, ℤ, ◌+◌, ◌<◌, refl, sym, ap, subst, ◌∙◌, inr, Bool, true, List, [], ◌∷◌, ◌++◌, length, get_or, take, map, Option, Result, Ok, Err}
use Rattle.std.proofs.lemmas.List.{append-nil, append_assoc, take_more}
use Rattle.sd_base.specs.declared.refusal.Refusal.{Refusal}
use Rattle.sd_base.specs.declared.refusal.Refusal.TheVariants.{BadCommand, BadFileIndex, SessionNotOpen}
use Rattle.sd_base.specs.declared.number.SessionKey.{SessionKey}
use Rattle.sd_bnet.specs.Packet.{packet_bytes}
use Rattle.sd_bnet.specs.Stream.{stream_of}
use Rattle.sd_bnet.specs.declared.packet.Packet.{Packet}
use Rattle.sd_bnet.specs.declared.packet.Packet.TheVariants.{Bytes}
use Rattle.sd_span.specs.declared.span.Span.{Span}
use Rattle.sd_machine.specs.declared.reply.Reply.{Reply}
use Rattle.sd_machine.specs.declared.reply.Reply.TheVariants as replies
use Rattle.sd_readback.specs.declared.read.ReadEnd.{ReadEnd}
use Rattle.sd_append.specs.declared.command.Command.{Command as Asked}
use Rattle.sd_append.specs.declared.line.ReplyLine.TheVariants as lines
use Rattle.sd_append.specs.declared.stage.Own.{Own}
use Rattle.sd_append.specs.declared.stage.TalkStage.{TalkStage}
use Rattle.sd_append.specs.declared.stage.TalkStage.TheVariants.{Command, Header, Dropped}
use Rattle.sd_append.specs.Does.{Does}
use Rattle.sd_append.specs.Header.{HasHeaderForm, HeaderParts}
use Rattle.sd_append.specs.Out.{OutView, PutsOut}
use Rattle.sd_append.specs.Port.{Exchange}
use Rattle.sd_append.specs.Talk.{Only, GivesUp, TakesHeader, Obeys, ObeysOpen, ObeysData, ObeysEnd, ObeysClose, close_said, console_said, end_of_data, read_end_said, refused, said, span_said}
use Rattle.sd_append.proofs.OutLemmas.{puts_then}

-- Packets one after another.

pub stream-append : (ps qs : List Packet) → stream_of (ps ++ qs) ≡ stream_of ps ++ stream_of qs
stream-append [] qs = refl
stream-append (p ∷ ps) qs =
    ap (λ (l : List ℕ). packet_bytes p ++ l) (stream-append ps qs) ∙ sym (append_assoc (packet_bytes p) (stream_of ps) (stream_of qs))

-- one packet
pub says_one : (a b : OutView) (p : Packet) → PutsOut a b (packet_bytes p) → PutsOut a b (stream_of (p ∷ []))
says_one a b p puts = subst (PutsOut a b) (sym (append-nil (packet_bytes p))) puts

-- packets, and others after them
pub says_then : (a b c : OutView) (ps qs : List Packet) → PutsOut a b (stream_of ps) → PutsOut b c (stream_of qs) → PutsOut a c (stream_of (ps ++ qs))
says_then a b c ps qs x y = subst (PutsOut a c) (sym (stream-append ps qs)) (puts_then a b c (stream_of ps) (stream_of qs) x y)

stream_last : {X : Type 0} (f : X → Packet) (xs : List X) (x : X) → stream_of (map f (xs ++ x ∷ [])) ≡ stream_of (map f xs) ++ packet_bytes (f x)
stream_last f [] x = append-nil (packet_bytes (f x))
stream_last f (y ∷ ys) x =
    ap (λ (l : List ℕ). packet_bytes (f y) ++ l) (stream_last f ys x) ∙ sym (append_assoc (packet_bytes (f y)) (stream_of (map f ys)) (packet_bytes (f x)))

-- the packet of one element more
pub says_more : {X : Type 0} (f : X → Packet) (xs : List X) (i : ℕ) (x : X) (a b c : OutView) → i < length xs → x ≡ get_or xs i x
    → PutsOut a b (stream_of (map f (take i xs))) → PutsOut b c (packet_bytes (f x)) → PutsOut a c (stream_of (map f (take (i + 1) xs)))
says_more {X} f xs i x a b c within is p q =
    let front : take (i + 1) xs ≡ take i xs ++ x ∷ [] = take_more xs i x within ∙ ap (λ (y : X). take i xs ++ y ∷ []) (sym is) in
    subst (PutsOut a c) (sym (ap (λ (ys : List X). stream_of (map f ys)) front ∙ stream_last f (take i xs) x))
    (puts_then a b c (stream_of (map f (take i xs))) (packet_bytes (f x)) p q)

pub read_end_says : (a b c : OutView) (answer given : Result ReadEnd Refusal) → answer ≡ given → PutsOut a b (packet_bytes end_of_data)
    → PutsOut b c (stream_of (read_end_said given ∷ [])) → PutsOut a c (stream_of (end_of_data ∷ read_end_said answer ∷ []))
read_end_says a b c answer given is p q =
    subst (λ (r : Result ReadEnd Refusal). PutsOut a c (stream_of (end_of_data ∷ read_end_said r ∷ []))) (sym is)
    (puts_then a b c (packet_bytes end_of_data) (stream_of (read_end_said given ∷ [])) p q)

pub console_says : (a b c : OutView) (answer : Result (List (List ℕ)) Refusal) (texts slice : List (List ℕ)) → answer ≡ Ok texts → slice ≡ texts
    → PutsOut a b (stream_of (map Bytes slice)) → PutsOut b c (packet_bytes end_of_data) → PutsOut a c (stream_of (console_said answer))
console_says a b c answer texts slice is same p q =
    subst (λ (r : Result (List (List ℕ)) Refusal). PutsOut a c (stream_of (console_said r))) (sym is)
    (says_then a b c (map Bytes texts) (end_of_data ∷ []) (subst (λ (l : List (List ℕ)). PutsOut a b (stream_of (map Bytes l))) same p) (says_one b c end_of_data q))

pub close_says : (a b c d e : OutView) (reply : Reply) (key : SessionKey) (spans slice : List Span) → reply ≡ replies.Closed key spans → slice ≡ spans
    → PutsOut a b (stream_of (said lines.Closed ∷ [])) → PutsOut b c (stream_of (said (lines.Session key) ∷ [])) → PutsOut c d (stream_of (map span_said slice))
    → PutsOut d e (packet_bytes end_of_data) → PutsOut a e (stream_of (close_said reply))
close_says a b c d e reply key spans slice is same p q r s =
    let spans_said = subst (λ (l : List Span). PutsOut c d (stream_of (map span_said l))) same r in
    let end = says_then c d e (map span_said spans) (end_of_data ∷ []) spans_said (says_one d e end_of_data s) in
    subst (λ (x : Reply). PutsOut a e (stream_of (close_said x))) (sym is)
    (says_then a b e (said lines.Closed ∷ []) (said (lines.Session key) ∷ (map span_said spans ++ end_of_data ∷ [])) p
    (says_then b c e (said (lines.Session key) ∷ []) (map span_said spans ++ end_of_data ∷ []) q end))

-- Steps.

-- a step that only says something
pub only_says : (says : List Packet) (next : TalkStage) (asked : List Exchange) (old new : OutView) → PutsOut old new (stream_of says)
    → Does (λ more out. Only says next more out next) asked asked old new
only_says says next asked old new puts = record {
  asked = [];
  out = says;
  outcome_is = (refl, refl, refl);
  after_is = sym (append-nil asked);
  puts = puts;
}

pub data_says : (named : Result Own (Option Own)) (it : Own) (asked : List Exchange) (old new : OutView) → named ≡ Ok it → PutsOut old new (stream_of (said lines.Data ∷ []))
    → Does (λ more out. ObeysData named more out (Header it)) asked asked old new
data_says named it asked old new is puts =
    subst (λ (n : Result Own (Option Own)). Does (λ more out. ObeysData n more out (Header it)) asked asked old new) (sym is)
    (only_says (said lines.Data ∷ []) (Header it) asked old new puts)

-- the refusal of a ticket that isn't the talk's
refuses_ticket : (own : Option Own) (asked : List Exchange) (old new : OutView) → PutsOut old new (stream_of (refused SessionNotOpen ∷ []))
    → Does (λ more out. Only (refused SessionNotOpen ∷ []) (Command own) more out (Command own)) asked asked old new
refuses_ticket own asked old new puts = only_says (refused SessionNotOpen ∷ []) (Command own) asked old new puts

pub data_refuses : (own : Option Own) (named : Result Own (Option Own)) (asked : List Exchange) (old new : OutView) → named ≡ Err own → PutsOut old new (stream_of (refused SessionNotOpen ∷ []))
    → Does (λ more out. ObeysData named more out (Command own)) asked asked old new
data_refuses own named asked old new is puts =
    subst (λ (n : Result Own (Option Own)). Does (λ more out. ObeysData n more out (Command own)) asked asked old new) (sym is) (refuses_ticket own asked old new puts)

pub end_refuses : (moment : ℤ) (own : Option Own) (named : Result Own (Option Own)) (asked : List Exchange) (old new : OutView) → named ≡ Err own → PutsOut old new (stream_of (refused SessionNotOpen ∷ []))
    → Does (λ more out. ObeysEnd moment named more out (Command own)) asked asked old new
end_refuses moment own named asked old new is puts =
    subst (λ (n : Result Own (Option Own)). Does (λ more out. ObeysEnd moment n more out (Command own)) asked asked old new) (sym is) (refuses_ticket own asked old new puts)

pub close_refuses : (own : Option Own) (named : Result Own (Option Own)) (asked : List Exchange) (old new : OutView) → named ≡ Err own → PutsOut old new (stream_of (refused SessionNotOpen ∷ []))
    → Does (λ more out. ObeysClose named more out (Command own)) asked asked old new
close_refuses own named asked old new is puts =
    subst (λ (n : Result Own (Option Own)). Does (λ more out. ObeysClose n more out (Command own)) asked asked old new) (sym is) (refuses_ticket own asked old new puts)

pub end_obeys : (moment : ℤ) (named : Result Own (Option Own)) (it : Own) (next : TalkStage) (before after : List Exchange) (old new : OutView) → named ≡ Ok it
    → Does (λ asked out. ObeysEnd moment (Ok it) asked out next) before after old new → Does (λ asked out. ObeysEnd moment named asked out next) before after old new
end_obeys moment named it next before after old new is does =
    subst (λ (n : Result Own (Option Own)). Does (λ asked out. ObeysEnd moment n asked out next) before after old new) (sym is) does

pub close_obeys : (named : Result Own (Option Own)) (it : Own) (next : TalkStage) (before after : List Exchange) (old new : OutView) → named ≡ Ok it
    → Does (λ asked out. ObeysClose (Ok it) asked out next) before after old new → Does (λ asked out. ObeysClose named asked out next) before after old new
close_obeys named it next before after old new is does =
    subst (λ (n : Result Own (Option Own)). Does (λ asked out. ObeysClose n asked out next) before after old new) (sym is) does

pub open_refuses : (moment : ℤ) (running : Bool) (own : Option Own) (job : ℕ) (pool media : List ℕ) (asked : List Exchange) (old new : OutView) → running ≡ true
    → PutsOut old new (stream_of (refused BadCommand ∷ [])) → Does (λ more out. ObeysOpen moment running own job pool media more out (Command own)) asked asked old new
open_refuses moment running own job pool media asked old new is puts =
    subst (λ (b : Bool). Does (λ more out. ObeysOpen moment b own job pool media more out (Command own)) asked asked old new) (sym is)
    (only_says (refused BadCommand ∷ []) (Command own) asked old new puts)

-- what was done of a session that was given up
abbrev pub GaveUp : Own → Own → List Exchange → List Exchange → Type 0
GaveUp own left before after = (asked : List Exchange) × GivesUp own asked left × (after ≡ before ++ asked)

pub header_drops : (own left : Own) (bytes : List ℕ) (before after : List Exchange) → ((header : HeaderParts) → HasHeaderForm bytes header → ⊥)
    → GaveUp own left before after → (asked : List Exchange) × TakesHeader own bytes asked [] (Dropped left BadFileIndex) × (after ≡ before ++ asked)
header_drops own left bytes before after none gave =
    (gave.0, inr (none, record { left = left; gives_up = gave.1; out_is = refl; new_is = refl }), gave.2)

-- a command is obeyed as the one that it is
pub obeys_as : (moment : ℤ) (own : Option Own) (command given : Asked) (next : TalkStage) (before after : List Exchange) (old new : OutView) → command ≡ given
    → Does (λ asked out. Obeys moment own given asked out next) before after old new → Does (λ asked out. Obeys moment own command asked out next) before after old new
obeys_as moment own command given next before after old new is does =
    subst (λ (k : Asked). Does (λ asked out. Obeys moment own k asked out next) before after old new) (sym is) does
