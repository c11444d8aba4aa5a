-- What answers an operator is lines, each with its newline.
use Rattle.std.proofs.Common.{◌≡◌, ℕ, refl, sym, subst, inl, inr, List, [], ◌∷◌, map}
use Rattle.std.specs.Prelude.{All, IfOk}
use Rattle.std.proofs.lemmas.List.Elements.{All-nil, All-cons}
use Rattle.sd_append.specs.Port.{IsLine}
use Rattle.sd_base.specs.declared.number.SessionKey.{SessionKey}
use Rattle.sd_text.specs.Lines.{line, lines_of}
use Rattle.sd_console.specs.Replies.{reply_lines}
use Rattle.sd_machine.specs.declared.reply.Reply.{Reply}
use Rattle.sd_machine.specs.declared.reply.Reply.TheVariants.{Refused}
use Rattle.sd_console.specs.Lines.{Shows}
use Rattle.sd_console.specs.Told.{Answer, TellsReply}

abbrev pub AreLines : Answer → Type 0
AreLines answer = IfOk answer (λ lines. All IsLine lines)

all_lines : (texts : List (List ℕ)) → All IsLine (map line texts)
all_lines [] = All-nil IsLine
all_lines (t ∷ ts) = All-cons IsLine (line t) (map line ts) (t, refl) (all_lines ts)

pub one_line : (text : List ℕ) → All IsLine (line text ∷ [])
one_line text = All-cons IsLine (line text) [] (text, refl) (All-nil IsLine)

pub shown_lines : (text : List ℕ) (answer : Answer) → Shows text answer → AreLines answer
shown_lines text answer (inl p) = subst (λ (a : Answer). AreLines a) (sym p) (all_lines (lines_of text))
shown_lines text answer (inr (inl p)) = subst (λ (a : Answer). AreLines a) (sym p) tt
shown_lines text answer (inr (inr p)) = subst (λ (a : Answer). AreLines a) (sym p.0) tt

pub told_lines : (key : SessionKey) (reply : Reply) (answer : Answer) → TellsReply key reply answer → AreLines answer
told_lines key (Refused why) answer p = subst (λ (a : Answer). AreLines a) (sym p) tt
told_lines key reply answer p = shown_lines (reply_lines key reply) answer p
