-- Lines, replies and readings, by what they are not.
use Rattle.std.proofs.Common.{◌≡◌, ℕ, refl, sym, subst, ◌∙◌, List, [], Option, None, Some}
use Rattle.std.specs.Prelude.{ℤ, IfSome}
use Rattle.sd_base.specs.declared.number.SessionKey.{SessionKey}
use Rattle.sd_base.specs.declared.refusal.Refusal.{Refusal}
use Rattle.sd_driver.specs.Meaning.{Meaning}
use Rattle.sd_machine.specs.declared.event.Event.{Event}
use Rattle.sd_machine.specs.declared.reply.Reply.{Reply}
use Rattle.sd_machine.specs.declared.reply.Reply.TheVariants.{Media}
use Rattle.sd_text.specs.Says.{SaidView, Says}
use Rattle.sd_text.proofs.SaysLemmas.{says_none, says_then_nothing}
use Rattle.sd_script.specs.declared.console.ConsoleCmd.{ConsoleCmd}
use Rattle.sd_script.specs.declared.console.ConsoleCmd.TheVariants as console
use Rattle.sd_script.specs.declared.line.ScriptLine.{ScriptLine}
use Rattle.sd_script.specs.declared.line.ScriptLine.TheVariants as line
use Rattle.sd_span.specs.declared.span.Span.{Span}
use Rattle.sd_text.specs.Lines.{line as as_line}
use Rattle.sd_tool.specs.Doing.{Acts, ConsoleDoes, Gives, GivesSome, LineDoes, ReadsReply, ReadsUnless, console_event, plain_words}
use Rattle.sd_tool.specs.Script.{Prints, ScriptView}

-- nothing happens, and nothing is printed
pub prints_none : {D : Type 0} (s : ScriptView D) → Prints s s []
prints_none s = (refl, (refl, refl), says_none s.said)

-- a line was printed, and what was held back passed on
pub line_shown : (o : Option (List ℕ)) (a b c : SaidView) → IfSome o (λ said. Says a b (as_line said)) → Says b c [] → IfSome o (λ said. Says a c (as_line said))
line_shown None a b c p q = tt
line_shown (Some said) a b c p q = says_then_nothing a b c (as_line said) p q

-- there is no event
pub gives_none : {D : Type 0} (meaning : D → Meaning) (o : Option Event) (s : ScriptView D) → ((e : Event) → o ≡ Some e → ⊥) → GivesSome meaning o s s
gives_none meaning None s none = prints_none s
gives_none meaning (Some e) s none = absurd (none e refl)

-- what a console's line does that is an event
pub console_does : {D : Type 0} (meaning : D → Meaning) (command : ConsoleCmd) (e : Event) (old new : ScriptView D) → console_event command old.moment ≡ Some e → Gives meaning e plain_words old new → ConsoleDoes meaning command old new
console_does meaning (console.Mount drive volume) e old new is h = absurd (cc is)
console_does meaning (console.JobMedia ticket) e old new is h = absurd (cc is)
console_does meaning console.Status e old new is h = absurd (cc is)
console_does meaning console.Requests e old new is h = absurd (cc is)
console_does meaning command e old new is h = subst (λ o. GivesSome meaning o old new) (sym is) h

-- what a line does that reads nothing back
pub acts_other : {D : Type 0} (meaning : D → Meaning) (l : ScriptLine) (old new : ScriptView D) → ((ticket : ℕ) → l ≡ line.Read ticket → ⊥) → ((key : SessionKey) → l ≡ line.Again key → ⊥) → Acts meaning l old new → LineDoes meaning l old new
acts_other meaning (line.Read ticket) old new no_read no_again acts = absurd (no_read ticket refl)
acts_other meaning (line.Again key) old new no_read no_again acts = absurd (no_again key refl)
acts_other meaning l old new no_read no_again acts = acts

-- nothing forbids the reading
pub reads_unless : {D : Type 0} (meaning : D → Meaning) (ticket : ℕ) (o : Option Refusal) (old new : ScriptView D) → ((why : Refusal) → o ≡ Some why → ⊥) → ReadsUnless meaning ticket None old new → ReadsUnless meaning ticket o old new
reads_unless meaning ticket None old new none h = h
reads_unless meaning ticket (Some why) old new none h = absurd (none why refl)

-- there are no spans
pub reads_other : {D : Type 0} (meaning : D → Meaning) (key : SessionKey) (r : Reply) (old new : ScriptView D) → ((spans : List Span) → r ≡ Media spans → ⊥) → Prints old new (plain_words r) → ReadsReply meaning key r old new
reads_other meaning key (Media spans) old new other prints = absurd (other spans refl)
reads_other meaning key r old new other prints = prints

-- the moment is set
pub acts_at : {D : Type 0} (meaning : D → Meaning) (l : ScriptLine) (moment : ℤ) (old new : ScriptView D) → l ≡ line.At moment → new.stage ≡ old.stage → new.moment ≡ moment → new.closed ≡ old.closed → new.said ≡ old.said
    → Acts meaning l old new
acts_at meaning (line.At other) moment old new is stage moment_is closed said =
    (stage, moment_is ∙ sym (cc is), closed, subst (λ (v : SaidView). Says old.said v []) (sym said) (says_none old.said))
acts_at meaning l moment old new is stage moment_is closed said = absurd (cc is)

-- none is there
pub none_of : {A : Type 0} (o : Option A) → ((x : A) → o ≡ Some x → ⊥) → o ≡ None
none_of None none = refl
none_of (Some x) none = absurd (none x refl)
