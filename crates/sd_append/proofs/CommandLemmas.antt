-- The commands of a client: what is read is spelled so, and what is spelled so is read.
use Rattle.std.proofs.Common.{◌≡◌, ◌≢◌, ℕ, ◌<◌, ◌≤◌, refl, sym, ap, subst, ◌∙◌, arith, true, false, cond, List, [], ◌∷◌, ◌++◌, length, get_or, Option, Some, None, Ok, Err, Result, codes, eq-eqb, eqb-true}
use Rattle.std.specs.Prelude.{◌==◌, ◌↔◌, All}
use Rattle.std.specs.Fmt.{decimal}
use Rattle.std.specs.Str.Pattern.{LacksTextAt}
use Rattle.std.proofs.lemmas.Bool.{cond-true}
use Rattle.std.proofs.lemmas.List.{append_cancel_left}
use Rattle.sd_base.specs.Limits.{most_number}
use Rattle.sd_text.specs.Fields.{Fields, fields_of}
use Rattle.sd_text.specs.Reading.{◌>>=◌, number_in, word_at, all_read}
use Rattle.sd_text.proofs.NumberLemmas.{number_in_takes, number_in_again}
use Rattle.sd_text.proofs.ReadingLemmas.{bind_some, some_is, word_at_takes, word_at_again, all_read_takes}
use Rattle.sd_append.specs.declared.command.Command.{Command}
use Rattle.sd_append.specs.declared.command.Command.TheVariants.{Open, Data, End, Close, Read, Console}
use Rattle.sd_append.specs.declared.command.CommandFault.{CommandFault}
use Rattle.sd_append.specs.declared.command.CommandFault.TheVariants.{BadCommand, BadName}
use Rattle.sd_append.specs.declared.command.Kind.{Kind}
use Rattle.sd_append.specs.declared.command.Kind.TheVariants as kinds
use Rattle.sd_append.specs.Text.{trimmed}
use Rattle.sd_append.specs.Command.{head_text, kind_of, HasBody, HasShape, SpellsCommand, AreNames}
use Rattle.sd_base.specs.Limits.{IsNumber}
use Rattle.sd_append.specs.Reading.{behind, keyed_at, keyed_number_at, open_shape, read_shape, Gives, Tells}

-- What comes after a key.

pub behind-again : (key value : List ℕ) → behind key (key ++ value) ≡ Some value
behind-again [] value = refl
behind-again (k ∷ key) value = cond-true (k == k) _ _ (eq-eqb k k refl) ∙ behind-again key value

pub behind-takes : (key text value : List ℕ) → behind key text ≡ Some value → text ≡ key ++ value
behind-takes [] text value e = some_is text value e
behind-takes (k ∷ key) [] value e = absurd (cc e)
behind-takes (k ∷ key) (c ∷ text) value e =
    elim (k == c) as (λ b. (k == c) ≡ b → cond b (behind key text) None ≡ Some value → c ∷ text ≡ (k ∷ key) ++ value) [
      | true ↦ λ same taken. let one = eqb-true k c same in let rest = behind-takes key text value taken in cc
      | false ↦ λ other wrong. absurd (cc wrong)
    ] refl e

behind-lacks_at : (key text : List ℕ) (o : Option (List ℕ)) → ((rest : List ℕ) → text ≢ key ++ rest) → behind key text ≡ o → o ≡ None
behind-lacks_at key text None lacks e = refl
behind-lacks_at key text (Some value) lacks e = absurd (lacks value (behind-takes key text value e))

pub behind-lacks : (key text : List ℕ) → ((rest : List ℕ) → text ≢ key ++ rest) → behind key text ≡ None
behind-lacks key text lacks = behind-lacks_at key text (behind key text) lacks refl

pub keyed_some : (key : List ℕ) (fs : Fields) (word value : List ℕ) (rest : Fields) → word_at fs ≡ Some (word, rest) → word ≡ key ++ value → keyed_at key fs ≡ Some (value, rest)
unfolding keyed_at
keyed_some key fs word value rest e same =
    ap (λ (o : Option (List ℕ × Fields)). o >>= λ w. behind key w.0 >>= λ v. Some (v, w.1)) e
    ∙ ap (λ (o : Option (List ℕ)). o >>= λ v. Some (v, rest)) (ap (behind key) same ∙ behind-again key value)

pub keyed_none : (key : List ℕ) (fs : Fields) (word : List ℕ) (rest : Fields) → word_at fs ≡ Some (word, rest) → ((more : List ℕ) → word ≢ key ++ more) → keyed_at key fs ≡ None
unfolding keyed_at
keyed_none key fs word rest e lacks =
    ap (λ (o : Option (List ℕ × Fields)). o >>= λ w. behind key w.0 >>= λ v. Some (v, w.1)) e
    ∙ ap (λ (o : Option (List ℕ)). o >>= λ v. Some (v, rest)) (behind-lacks key word lacks)

-- a field of this key
pub record TakesKeyed (key : List ℕ) (fs : Fields) (value : List ℕ) (rest : Fields) : Type 0 where
  pub fields_are : fs ≡ (key ++ value) ∷ rest

keyed_takes : (key : List ℕ) (fs : Fields) (p : List ℕ × Fields) → keyed_at key fs ≡ Some p → TakesKeyed key fs p.0 p.1
unfolding keyed_at
keyed_takes key fs p e =
    let w = bind_some (word_at fs) (λ w. behind key w.0 >>= λ v. Some (v, w.1)) p e in
    let v = bind_some (behind key w.0.0) (λ v. Some (v, w.0.1)) p w.2 in
    let word = word_at_takes fs w.0 w.1 in
    let made : List ℕ × Fields = (v.0, w.0.1) in
    subst (λ (q : List ℕ × Fields). TakesKeyed key fs q.0 q.1) (some_is made p v.2)
    (record { fields_are = word.0 ∙ ap (λ (t : List ℕ). t ∷ w.0.1) (behind-takes key w.0.0 v.0 v.1) })

keyed_again : (key value : List ℕ) (rest : Fields) → 0 < length (key ++ value) → keyed_at key ((key ++ value) ∷ rest) ≡ Some (value, rest)
keyed_again key value rest some_there = keyed_some key ((key ++ value) ∷ rest) (key ++ value) value rest (word_at_again (key ++ value) rest some_there) refl

-- a field of this key, whose value is a number from 1 to `most`
record TakesNumber (key : List ℕ) (most : ℕ) (fs : Fields) (n : ℕ) (rest : Fields) : Type 0 where
  fields_are : fs ≡ (key ++ decimal n) ∷ rest
  least_is : 1 ≤ n
  most_is : n ≤ most

keyed_number_takes : (key : List ℕ) (most : ℕ) (fs : Fields) (p : ℕ × Fields) → keyed_number_at key most fs ≡ Some p → TakesNumber key most fs p.0 p.1
unfolding keyed_number_at
keyed_number_takes key most fs p e =
    let v = bind_some (keyed_at key fs) (λ v. number_in 1 most v.0 >>= λ n. Some (n, v.1)) p e in
    let n = bind_some (number_in 1 most v.0.0) (λ n. Some (n, v.0.1)) p v.2 in
    let field = keyed_takes key fs v.0 v.1 in
    let w = number_in_takes 1 most v.0.0 n.0 n.1 in
    let made : ℕ × Fields = (n.0, v.0.1) in
    subst (λ (q : ℕ × Fields). TakesNumber key most fs q.0 q.1) (some_is made p n.2)
    (record { fields_are = field.fields_are ∙ ap (λ (t : List ℕ). (key ++ t) ∷ v.0.1) (sym w.text); least_is = w.least_is; most_is = w.most_is })

keyed_number_again : (key : List ℕ) (n : ℕ) (rest : Fields) → 0 < length (key ++ decimal n) → IsNumber n → keyed_number_at key most_number ((key ++ decimal n) ∷ rest) ≡ Some (n, rest)
unfolding keyed_number_at
keyed_number_again key n rest some_there within =
    ap (λ (o : Option (List ℕ × Fields)). o >>= λ v. number_in 1 most_number v.0 >>= λ m. Some (m, v.1)) (keyed_again key (decimal n) rest some_there)
    ∙ ap (λ (o : Option ℕ). o >>= λ m. Some (m, rest)) (number_in_again 1 most_number n (omega (arith, within.1)) within.0 within.1)

-- What a kind's fields spell.

-- the command has this kind and these fields
pub record IsOf (kind : Kind) (text : List ℕ) (command : Command) : Type 0 where
  pub kind_is : kind_of command ≡ kind
  pub body : HasBody text command

open_takes : (text : List ℕ) (command : Command) → open_shape (fields_of text) ≡ Some command → IsOf kinds.Open text command
unfolding open_shape
open_takes text command e =
    let a = bind_some (keyed_number_at (codes "JobId=") most_number (fields_of text))
    (λ job. keyed_at (codes "Pool=") job.1 >>= λ pool. keyed_at (codes "Media=") pool.1 >>= λ media. all_read (Open job.0 pool.0 media.0) media.1) command e in
    let p = bind_some (keyed_at (codes "Pool=") a.0.1) (λ pool. keyed_at (codes "Media=") pool.1 >>= λ media. all_read (Open a.0.0 pool.0 media.0) media.1) command a.2 in
    let m = bind_some (keyed_at (codes "Media=") p.0.1) (λ media. all_read (Open a.0.0 p.0.0 media.0) media.1) command p.2 in
    let all = all_read_takes (Open a.0.0 p.0.0 m.0.0) command m.0.1 m.2 in
    let job = keyed_number_takes (codes "JobId=") most_number (fields_of text) a.0 a.1 in
    let pool = keyed_takes (codes "Pool=") a.0.1 p.0 p.1 in
    let media = keyed_takes (codes "Media=") p.0.1 m.0 m.1 in
    subst (λ (x : Command). IsOf kinds.Open text x) all.1 (record {
      kind_is = refl;
      body = (
        job.fields_are ∙ ap (λ (gs : Fields). (codes "JobId=" ++ decimal a.0.0) ∷ gs) (pool.fields_are ∙ ap (λ (gs : Fields). (codes "Pool=" ++ p.0.0) ∷ gs)
            (media.fields_are ∙ ap (λ (gs : Fields). (codes "Media=" ++ m.0.0) ∷ gs) all.0)),
        (job.least_is, job.most_is),
      );
    })

open_fields : (job : ℕ) (pool media : List ℕ) → IsNumber job
    → open_shape ((codes "JobId=" ++ decimal job) ∷ (codes "Pool=" ++ pool) ∷ (codes "Media=" ++ media) ∷ []) ≡ Some (Open job pool media)
unfolding open_shape
open_fields job pool media within =
    rw (
      keyed_number_again (codes "JobId=") job ((codes "Pool=" ++ pool) ∷ (codes "Media=" ++ media) ∷ []) (omega arith) within,
      keyed_again (codes "Pool=") pool ((codes "Media=" ++ media) ∷ []) (omega arith),
      keyed_again (codes "Media=") media [] (omega arith),
    ) refl

read_takes : (text : List ℕ) (command : Command) → read_shape (fields_of text) ≡ Some command → IsOf kinds.Read text command
unfolding read_shape
read_takes text command e =
    let a = bind_some (keyed_number_at (codes "Time=") most_number (fields_of text))
    (λ time. keyed_number_at (codes "Id=") most_number time.1 >>= λ id. all_read (Read (record { time = time.0; id = id.0 })) id.1) command e in
    let b = bind_some (keyed_number_at (codes "Id=") most_number a.0.1) (λ id. all_read (Read (record { time = a.0.0; id = id.0 })) id.1) command a.2 in
    let all = all_read_takes (Read (record { time = a.0.0; id = b.0.0 })) command b.0.1 b.2 in
    let time = keyed_number_takes (codes "Time=") most_number (fields_of text) a.0 a.1 in
    let id = keyed_number_takes (codes "Id=") most_number a.0.1 b.0 b.1 in
    subst (λ (x : Command). IsOf kinds.Read text x) all.1 (record {
      kind_is = refl;
      body = (
        time.fields_are ∙ ap (λ (gs : Fields). (codes "Time=" ++ decimal a.0.0) ∷ gs) (id.fields_are ∙ ap (λ (gs : Fields). (codes "Id=" ++ decimal b.0.0) ∷ gs) all.0),
        (time.least_is, time.most_is),
        (id.least_is, id.most_is),
      );
    })

read_fields : (time id : ℕ) → IsNumber time → IsNumber id
    → read_shape ((codes "Time=" ++ decimal time) ∷ (codes "Id=" ++ decimal id) ∷ []) ≡ Some (Read (record { time = time; id = id }))
unfolding read_shape
read_fields time id time_is id_is =
    rw (
      keyed_number_again (codes "Time=") time ((codes "Id=" ++ decimal id) ∷ []) (omega arith) time_is,
      keyed_number_again (codes "Id=") id [] (omega arith) id_is,
    ) refl

open_again : (text : List ℕ) (command : Command) → IsOf kinds.Open text command → open_shape (fields_of text) ≡ Some command
open_again text (Open job pool media) is = ap open_shape is.body.0 ∙ open_fields job pool media is.body.1
open_again text command is = absurd (cc is.kind_is)

read_again : (text : List ℕ) (command : Command) → IsOf kinds.Read text command → read_shape (fields_of text) ≡ Some command
read_again text (Read key) is = ap read_shape is.body.0 ∙ read_fields key.time key.id is.body.1 is.body.2
read_again text command is = absurd (cc is.kind_is)

gives_told : (kind : Kind) (text : List ℕ) (r : Result Command CommandFault) (o : Option Command)
    → ((command : Command) → o ≡ Some command → IsOf kind text command) → ((command : Command) → IsOf kind text command → o ≡ Some command) → Gives r o → Tells kind text r
gives_told kind text r None takes again gives =
    subst (λ (x : Result Command CommandFault). Tells kind text x) (sym gives)
    (λ command kind_is body. absurd (cc (again command (record { kind_is = kind_is; body = body }))))
gives_told kind text (Ok found) (Some command) takes again gives =
    let t = takes command refl in
    subst (λ (x : Command). (kind_of x ≡ kind) × HasBody text x × AreNames x) (sym gives.0) (t.kind_is, t.body, gives.1)
gives_told kind text (Err BadName) (Some command) takes again gives =
    let t = takes command refl in (command, t.kind_is, t.body, gives.1)
gives_told kind text (Err BadCommand) (Some command) takes again gives = absurd (cc gives.0)

pub open_told : (text : List ℕ) (words : Fields) (r : Result Command CommandFault) → words ≡ fields_of text → Gives r (open_shape words) → Tells kinds.Open text r
open_told text words r fields gives =
    gives_told kinds.Open text r (open_shape (fields_of text)) (open_takes text) (open_again text) (subst (λ (ws : Fields). Gives r (open_shape ws)) fields gives)

pub read_told : (text : List ℕ) (words : Fields) (r : Result Command CommandFault) → words ≡ fields_of text → Gives r (read_shape words) → Tells kinds.Read text r
read_told text words r fields gives =
    gives_told kinds.Read text r (read_shape (fields_of text)) (read_takes text) (read_again text) (subst (λ (ws : Fields). Gives r (read_shape ws)) fields gives)

-- no text is the body of two commands of one kind
body_one : (text : List ℕ) (a b : Command) → kind_of a ≡ kind_of b → HasBody text a → HasBody text b → a ≡ b
body_one text (Open j p m) (Open j' p' m') kind x y =
    let one = open_again text (Open j p m) (record { kind_is = refl; body = x }) in
    let other = open_again text (Open j' p' m') (record { kind_is = refl; body = y }) in
    some_is (Open j p m) (Open j' p' m') (sym one ∙ other)
body_one text (Data t) (Data u) kind x y = ap Data (x.1 ∙ sym y.1)
body_one text (End t) (End u) kind x y = ap End (x.1 ∙ sym y.1)
body_one text (Close t) (Close u) kind x y = ap Close (x.1 ∙ sym y.1)
body_one text (Read k) (Read l) kind x y =
    let one = read_again text (Read k) (record { kind_is = refl; body = x }) in
    let other = read_again text (Read l) (record { kind_is = refl; body = y }) in
    some_is (Read k) (Read l) (sym one ∙ other)
body_one text (Console l) (Console m) kind x y = ap Console (sym x ∙ y)
body_one text a b kind x y = absurd (cc kind)

-- Lines: the first words tell the kind.

-- the eighth character tells it
kind_at : ℕ → Option Kind
kind_at c =
    cond (c == 111) (Some kinds.Open) (cond (c == 100) (Some kinds.Data) (cond (c == 101) (Some kinds.End) (
    cond (c == 99) (Some kinds.Close) (cond (c == 115) (Some kinds.Read) (cond (c == 32) (Some kinds.Console) None)))))

kind_found : (k : Kind) (rest : List ℕ) → kind_at (get_or (head_text k ++ rest) 7 0) ≡ Some k
unfolding kind_at
kind_found kinds.Open rest = refl
kind_found kinds.Data rest = refl
kind_found kinds.End rest = refl
kind_found kinds.Close rest = refl
kind_found kinds.Read rest = refl
kind_found kinds.Console rest = refl

kind_one : (k j : Kind) (rest text : List ℕ) → head_text k ++ rest ≡ head_text j ++ text → k ≡ j
kind_one k j rest text e =
    let both = sym (kind_found k rest) ∙ ap (λ (l : List ℕ). kind_at (get_or l 7 0)) e ∙ kind_found j text in cc

-- the packet's line begins so
pub record Begins (packet : List ℕ) (kind : Kind) (rest : List ℕ) : Type 0 where
  pub ascii : All (λ byte. byte < 128) (trimmed packet)
  pub line_is : trimmed packet ≡ head_text kind ++ rest

pub begins : (packet trim line : List ℕ) (kind : Kind) (rest : List ℕ) → trim ≡ trimmed packet → (line ≡ trim) × All (λ byte. byte < 128) trim → line ≡ head_text kind ++ rest
    → Begins packet kind rest
begins packet trim line kind rest same text line_is = record {
  ascii = subst (All (λ byte. byte < 128)) same text.1;
  line_is = sym same ∙ sym text.0 ∙ line_is;
}

shape_of : (packet : List ℕ) (kind : Kind) (rest : List ℕ) (command : Command) → Begins packet kind rest → HasShape packet command → IsOf kind rest command
shape_of packet kind rest command line has =
    let whole : head_text (kind_of command) ++ has.text ≡ head_text kind ++ rest = sym has.spelled ∙ line.line_is in
    let one = kind_one (kind_of command) kind has.text rest whole in
    let same : head_text kind ++ has.text ≡ head_text kind ++ rest = subst (λ (k : Kind). head_text k ++ has.text ≡ head_text kind ++ rest) one whole in
    record { kind_is = one; body = subst (λ (t : List ℕ). HasBody t command) (append_cancel_left (head_text kind) has.text rest same) has.body }

shape_from : (packet : List ℕ) (kind : Kind) (rest : List ℕ) (command : Command) → Begins packet kind rest → kind_of command ≡ kind → HasBody rest command → HasShape packet command
shape_from packet kind rest command line kind_is body = record {
  ascii = line.ascii;
  text = rest;
  spelled = line.line_is ∙ ap (λ (k : Kind). head_text k ++ rest) (sym kind_is);
  body = body;
}

pub told_found : (packet : List ℕ) (kind : Kind) (rest : List ℕ) (r : Result Command CommandFault) → Begins packet kind rest → Tells kind rest r
    → (command : Command) → SpellsCommand packet command → r ≡ Ok command
told_found packet kind rest (Ok found) line told command has =
    let is = shape_of packet kind rest command line has.shape in
    ap Ok (body_one rest found command (told.0 ∙ sym is.kind_is) told.1 is.body)
told_found packet kind rest (Err BadName) line told command has =
    let is = shape_of packet kind rest command line has.shape in
    absurd (told.3 (subst AreNames (sym (body_one rest told.0 command (told.1 ∙ sym is.kind_is) told.2 is.body)) has.names))
told_found packet kind rest (Err BadCommand) line told command has =
    let is = shape_of packet kind rest command line has.shape in absurd (told command is.kind_is is.body)

pub told_bad_command : (packet : List ℕ) (kind : Kind) (rest : List ℕ) (r : Result Command CommandFault) → Begins packet kind rest → Tells kind rest r
    → (r ≡ Err BadCommand) ↔ ((command : Command) → HasShape packet command → ⊥)
told_bad_command packet kind rest (Ok found) line told =
    ((λ e. absurd (cc e)), (λ none. absurd (none found (shape_from packet kind rest found line told.0 told.1))))
told_bad_command packet kind rest (Err BadName) line told =
    ((λ e. absurd (cc e)), (λ none. absurd (none told.0 (shape_from packet kind rest told.0 line told.1 told.2))))
told_bad_command packet kind rest (Err BadCommand) line told =
    ((λ e command has. let is = shape_of packet kind rest command line has in told command is.kind_is is.body), (λ none. refl))

-- a line that begins as no command
pub no_kind : (line : List ℕ) → LacksTextAt (head_text kinds.Open) line 0 → LacksTextAt (head_text kinds.Data) line 0 → LacksTextAt (head_text kinds.End) line 0
    → LacksTextAt (head_text kinds.Close) line 0 → LacksTextAt (head_text kinds.Read) line 0 → LacksTextAt (head_text kinds.Console) line 0
    → (kind : Kind) (rest : List ℕ) → line ≡ head_text kind ++ rest → ⊥
no_kind line a b c d e f kinds.Open rest is = a rest is
no_kind line a b c d e f kinds.Data rest is = b rest is
no_kind line a b c d e f kinds.End rest is = c rest is
no_kind line a b c d e f kinds.Close rest is = d rest is
no_kind line a b c d e f kinds.Read rest is = e rest is
no_kind line a b c d e f kinds.Console rest is = f rest is
