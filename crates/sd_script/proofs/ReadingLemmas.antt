-- The lines of one number, and the words of calls that fail: what is read as one is written so, and what
-- is written so is read.
use Rattle.std.proofs.Common.{◌≡◌, ◌≢◌, ℕ, ◌^◌, ◌<◌, ◌≤◌, refl, rules, ap, subst, ◌∙◌, lit<, true, false, cond, List, [], ◌∷◌, length, Option, Some, None}
use Rattle.std.specs.Fmt.{decimal}
use Rattle.std.specs.List.{AllByRecursion}
use Rattle.std.specs.Str.{bytes_eq}
use Rattle.std.proofs.lemmas.List.Elements.{All-from_recursion}
use Rattle.std.proofs.lemmas.Slice.Eq.{bytes_eq-Decides}
use Rattle.sd_plan.specs.declared.call.Call.{Call}
use Rattle.sd_plan.specs.declared.call.Call.TheVariants as call
use Rattle.sd_plan.specs.declared.fail.When.{When}
use Rattle.sd_plan.specs.declared.fail.When.TheVariants as «when»
use Rattle.sd_text.specs.Fields.{Fields, HasNoBlank}
use Rattle.sd_text.specs.Reading.{◌>>=◌, only_number, word_at}
use Rattle.sd_text.proofs.ReadingLemmas.{bind_some, some_is, TakesNumber, only_number_takes, only_number_again, word_at_takes, word_at_again}
use Rattle.sd_script.specs.declared.line.ScriptLine.{ScriptLine}
use Rattle.sd_script.specs.Grammar.{call_text, when_text}
use Rattle.sd_script.specs.Reading.{one_number, call_in, when_in, call_at, when_at}

-- a line of one number
pub record TakesOne (least most : ℕ) (made : ℕ → ScriptLine) (fs : Fields) (line : ScriptLine) : Type 0 where
  pub n : ℕ
  pub takes : TakesNumber least most fs n []
  pub made_is : made n ≡ line

pub one_number_takes : (least most : ℕ) (made : ℕ → ScriptLine) (fs : Fields) (line : ScriptLine) → one_number least most made fs ≡ Some line → TakesOne least most made fs line
one_number_takes least most made fs line e =
    let b = bind_some (only_number least most fs) (λ n. Some (made n)) line e in
    record { n = b.0; takes = only_number_takes least most fs b.0 b.1; made_is = some_is (made b.0) line b.2 }

pub one_number_again : (least most n : ℕ) (made : ℕ → ScriptLine) → most < 2 ^ 64 → least ≤ n → n ≤ most → one_number least most made (decimal n ∷ []) ≡ Some (made n)
one_number_again least most n made small low high =
    ap (λ (o : Option ℕ). o >>= λ m. Some (made m)) (only_number_again least most n small low high)

-- a word that one test after another is tried on: it is spelled as the value that is found
spelled_or : {K : Type 0} (text : K → List ℕ) (word : List ℕ) (k x : K) (other : Option K) → (other ≡ Some x → word ≡ text x)
    → cond (bytes_eq word (text k)) (Some k) other ≡ Some x → word ≡ text x
spelled_or text word k x other next e =
    elim (bytes_eq word (text k)) as (λ b. bytes_eq word (text k) ≡ b → cond b (Some k) other ≡ Some x → word ≡ text x) [
      | true ↦ λ test found. (bytes_eq-Decides word (text k)).0 test ∙ ap text (some_is k x found)
      | false ↦ λ test found. next found
    ] refl e

call_in_takes : (word : List ℕ) (x : Call) → call_in word ≡ Some x → word ≡ call_text x
call_in_takes word x e =
    spelled_or call_text word call.Create x _ (spelled_or call_text word call.Load x _ (spelled_or call_text word call.Len x _
    (spelled_or call_text word call.Read x _ (spelled_or call_text word call.Append x _ (spelled_or call_text word call.Sync x _
    (spelled_or call_text word call.Cut x None (λ none. absurd (cc none)))))))) e

call_in_again : (k : Call) → call_in (call_text k) ≡ Some k
call_in_again call.Create = refl
call_in_again call.Load = refl
call_in_again call.Len = refl
call_in_again call.Read = refl
call_in_again call.Append = refl
call_in_again call.Sync = refl
call_in_again call.Cut = refl

when_in_takes : (word : List ℕ) (x : When) → when_in word ≡ Some x → word ≡ when_text x
when_in_takes word x e =
    spelled_or when_text word «when».Before x _ (spelled_or when_text word «when».Half x _
    (spelled_or when_text word «when».After x None (λ none. absurd (cc none)))) e

when_in_again : (k : When) → when_in (when_text k) ≡ Some k
when_in_again «when».Before = refl
when_in_again «when».Half = refl
when_in_again «when».After = refl

-- a field that is read as a kind of call, or as how a call fails
pub call_at_takes : (fs : Fields) (p : Call × Fields) → call_at fs ≡ Some p → fs ≡ call_text p.0 ∷ p.1
unfolding call_at
call_at_takes fs p e =
    let w = bind_some (word_at fs) (λ word. call_in word.0 >>= λ kind. Some (kind, word.1)) p e in
    let k = bind_some (call_in w.0.0) (λ kind. Some (kind, w.0.1)) p w.2 in
    let made : Call × Fields = (k.0, w.0.1) in
    subst (λ (q : Call × Fields). fs ≡ call_text q.0 ∷ q.1) (some_is made p k.2)
    ((word_at_takes fs w.0 w.1).0 ∙ ap (λ (word : List ℕ). word ∷ w.0.1) (call_in_takes w.0.0 k.0 k.1))

pub when_at_takes : (fs : Fields) (p : When × Fields) → when_at fs ≡ Some p → fs ≡ when_text p.0 ∷ p.1
unfolding when_at
when_at_takes fs p e =
    let w = bind_some (word_at fs) (λ word. when_in word.0 >>= λ way. Some (way, word.1)) p e in
    let k = bind_some (when_in w.0.0) (λ way. Some (way, w.0.1)) p w.2 in
    let made : When × Fields = (k.0, w.0.1) in
    subst (λ (q : When × Fields). fs ≡ when_text q.0 ∷ q.1) (some_is made p k.2)
    ((word_at_takes fs w.0 w.1).0 ∙ ap (λ (word : List ℕ). word ∷ w.0.1) (when_in_takes w.0.0 k.0 k.1))

call_some : (k : Call) → 0 < length (call_text k)
call_some call.Create = lit< tt
call_some call.Load = lit< tt
call_some call.Len = lit< tt
call_some call.Read = lit< tt
call_some call.Append = lit< tt
call_some call.Sync = lit< tt
call_some call.Cut = lit< tt

when_some : (k : When) → 0 < length (when_text k)
when_some «when».Before = lit< tt
when_some «when».Half = lit< tt
when_some «when».After = lit< tt

-- these words hold no blank
plain_call : (k : Call) → AllByRecursion (λ c. c ≢ 32) (call_text k)
plain_call call.Create = search rules
plain_call call.Load = search rules
plain_call call.Len = search rules
plain_call call.Read = search rules
plain_call call.Append = search rules
plain_call call.Sync = search rules
plain_call call.Cut = search rules

pub call-plain : (k : Call) → HasNoBlank (call_text k)
call-plain k = All-from_recursion (λ c. c ≢ 32) (call_text k) (plain_call k)

plain_when : (k : When) → AllByRecursion (λ c. c ≢ 32) (when_text k)
plain_when «when».Before = search rules
plain_when «when».Half = search rules
plain_when «when».After = search rules

pub when-plain : (k : When) → HasNoBlank (when_text k)
when-plain k = All-from_recursion (λ c. c ≢ 32) (when_text k) (plain_when k)

-- and a field that is written so is read
pub call_at_again : (k : Call) (rest : Fields) → call_at (call_text k ∷ rest) ≡ Some (k, rest)
unfolding call_at
call_at_again k rest = rw (word_at_again (call_text k) rest (call_some k), call_in_again k) refl

pub when_at_again : (k : When) (rest : Fields) → when_at (when_text k ∷ rest) ≡ Some (k, rest)
unfolding when_at
when_at_again k rest = rw (word_at_again (when_text k) rest (when_some k), when_in_again k) refl
