-- What was accepted was taken.
use Rattle.std.proofs.Common.{◌≡◌, ℕ, ◌+◌, ◌/◌, ◌%◌, ◌≤◌, ◌<◌, arith, refl, sym, ap, subst, ◌∙◌, inl, inr, List, [], ◌∷◌, ◌++◌, codes}
use Rattle.std.specs.Fmt.{decimal}
use Rattle.std.proofs.lemmas.Fmt.{decimal_digit, decimal_step}
use Rattle.sd_base.specs.Refusal.{number_of, text_of}
use Rattle.sd_base.specs.declared.refusal.Refusal.{Refusal}
use Rattle.sd_base.specs.declared.refusal.Refusal.TheVariants as refusals
use Rattle.sd_bnet.specs.declared.packet.Packet.{Packet}
use Rattle.sd_bnet.specs.declared.packet.Packet.TheVariants.{Bytes}
use Rattle.sd_text.specs.Lines.{line}
use Rattle.sd_append.specs.Talk.{said}
use Rattle.sd_append.specs.declared.line.ReplyLine.{ReplyLine}
use Rattle.sd_append.specs.declared.line.ReplyLine.TheVariants as lines
use Rattle.sd_append.specs.Laws.{AppendedIsTaken}
use Rattle.sd_append.specs.Phases.{AreTaken, AskFor, BecomesOf}

-- the second byte of a packet
abbrev second_byte : Packet → ℕ
second_byte (Bytes (a ∷ b ∷ bytes)) = b
second_byte packet = 0

-- each number of a refusal has four digits, of which these are the first two
number_within : (refusal : Refusal) → (3900 ≤ number_of refusal) × (number_of refusal < 4000)
number_within refusals.BadCommand = (omega arith, omega arith)
number_within refusal = (omega arith, omega arith)

number_begins : (n : ℕ) → 3900 ≤ n → n < 4000 → (a : ℕ) × (b : ℕ) × (decimal n ≡ 51 ∷ 57 ∷ a ∷ b ∷ [])
number_begins n least most =
    let front : decimal 39 ≡ 51 ∷ 57 ∷ [] = decimal_step 39 (omega arith) (omega arith) ∙ ap (λ (l : List ℕ). l ++ 57 ∷ []) (decimal_digit 3 (omega arith)) in
    let third = decimal_step (n / 10) (omega arith) (omega arith) in
    let fourth = decimal_step n (omega arith) (omega arith) in
    let is : n / 10 / 10 ≡ 39 = omega arith in (
      48 + n / 10 % 10,
      48 + n % 10,
      fourth ∙ ap (λ (l : List ℕ). l ++ (48 + n % 10) ∷ [])
          (third ∙ ap (λ (l : List ℕ). l ++ (48 + n / 10 % 10) ∷ []) (ap decimal is ∙ front)),
    )

refusal_begins : (refusal : Refusal) → second_byte (said (lines.Refused refusal)) ≡ 57
refusal_begins refusal =
    let within = number_within refusal in
    let digits = number_begins (number_of refusal) within.0 within.1 in
    ap (λ (l : List ℕ). second_byte (Bytes (line (l ++ codes " " ++ text_of refusal)))) digits.2

other_digit : (a b : ℕ) → a ≡ b → a + 9 ≡ b → ⊥
other_digit a b same more = omega arith

-- so none is the line that accepts
no_refusal : (refusal : Refusal) (answer : ReplyLine) → answer ≡ lines.Refused refusal → said answer ≡ said lines.Appended → ⊥
no_refusal refusal answer is same =
    other_digit 48 57 (sym (ap second_byte same) ∙ ap (λ (l : ReplyLine). second_byte (said l)) is ∙ refusal_begins refusal) refl

second_is : (a b c d : Packet) → a ∷ b ∷ [] ≡ c ∷ d ∷ [] → b ≡ d
second_is a b c d e = cc

pub appended_is_taken : AppendedIsTaken
appended_is_taken known turn phase says = by phase.becomes
  where
    same : said phase.answer ≡ said lines.Appended
    same = second_is (said lines.Data) (said phase.answer) (said lines.Data) (said lines.Appended) (sym phase.says_is ∙ says)

    by : BecomesOf phase.ticket known.goes_on phase.records phase.unread turn.asked phase.answer → AskFor phase.groups phase.records [] × AreTaken phase.ticket phase.records turn.asked
    by (inl (all, taken, is)) = (subst (AskFor phase.groups phase.records) all phase.ask_for, taken)
    by (inr (inl (refusal, stops, is))) = absurd (no_refusal refusal phase.answer is same)
    by (inr (inr (begins, stops, is))) = absurd (no_refusal refusals.BadFileIndex phase.answer is same)
