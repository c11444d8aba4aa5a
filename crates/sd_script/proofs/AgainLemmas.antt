-- What is spelled so is read so.
use Rattle.std.proofs.Common.{◌≡◌, ◌≢◌, ℕ, ◌^◌, ◌<◌, ◌≤◌, refl, sym, ap, ◌∙◌, arith, lit<, inl, inr, true, List, [], ◌∷◌, length, Option, Some, None}
use Rattle.std.specs.Prelude.{IfSome, IfNone, pos, negsuc, nat_le, FitsSigned}
use Rattle.std.specs.List.{AllByRecursion}
use Rattle.std.specs.Int.{w64}
use Rattle.std.specs.Fmt.{decimal}
use Rattle.std.proofs.lemmas.Bool.{cond-true, le-leb}
use Rattle.std.proofs.lemmas.Int.{ints}
use Rattle.sd_base.specs.Limits.{least_block_limit, most_block, most_data, most_drives, most_lanes, most_number, most_queue, most_volume}
use Rattle.sd_script.specs.declared.command.Command.{Command}
use Rattle.sd_script.specs.declared.command.Command.TheVariants.{Block, Volume, SpoolLimit, Queue, Time, Host, Drive, Capacity, Fail, At, Label, Adopt, Mount, Unmount, Seek, Retire, Purge, Open, Rec, Fill, End, Cancel, Spool, Despool, Take, Place, Sync, Close, JobMedia, Read, Again, Drain, Status, Requests, Restart}
use Rattle.sd_script.specs.declared.console.ConsoleCmd.TheVariants as console
use Rattle.sd_script.specs.declared.line.Setting.TheVariants as setting
use Rattle.sd_script.specs.declared.line.ScriptLine.{ScriptLine}
use Rattle.sd_script.specs.declared.line.ScriptLine.TheVariants as line
use Rattle.sd_base.specs.declared.number.SessionKey.{SessionKey}
use Rattle.sd_plan.specs.declared.call.Call.{Call}
use Rattle.sd_plan.specs.declared.fail.Fail as plan
use Rattle.sd_script.specs.declared.line.Part.{Part}
use Rattle.sd_script.specs.declared.line.Tail.{Tail}
use Rattle.sd_script.specs.Command.{command_text, stands}
use Rattle.sd_text.specs.Fields.{HasNoBlank, joined, Fields, fields_of}
use Rattle.sd_script.specs.Grammar.{IsWord, IsSpelled, IsWithin, AreWords, IsDrive, call_text, most_capacity, when_text}
use Rattle.sd_base.specs.Limits.{IsNumber}
use Rattle.sd_text.specs.Reading.{word_at}
use Rattle.sd_script.specs.Reading.{most_moment, most_wide, shape, one_number, label_shape, adopt_shape, mount_shape, purge_shape, open_shape, rec_shape, fill_shape, host_shape, drive_shape, capacity_shape, fail_shape, again_shape, behind_shape, restart_shape}
use Rattle.sd_text.proofs.NumberLemmas.{decimal-plain}
use Rattle.sd_text.proofs.FieldLemmas.{fields_of-joined, fields_of-behind, joined-fields_of}
use Rattle.sd_text.proofs.ReadingLemmas.{number_at_again, word_at_again, word_at_takes, only_number_again}
use Rattle.sd_script.proofs.ReadingLemmas.{one_number_again, call-plain, when-plain, call_at_again, when_at_again}
use Rattle.sd_script.proofs.CommandLemmas.{kinds, line_kinds, command-plain}

-- the command that bytes begin with, what its lines have in common, the fields after it, and that these are read as
-- that line
pub record Parts (bytes : List ℕ) (l : ScriptLine) : Type 0 where
  pub command : Command
  pub kinds_are : kinds command ≡ line_kinds l
  pub rest : Fields
  pub fields_are : fields_of bytes ≡ command_text command ∷ rest
  pub shape_is : shape command rest ≡ Some l

plain_parts : (bytes : List ℕ) (k : Command) (rest : Fields) (l : ScriptLine) → kinds k ≡ line_kinds l → AllByRecursion HasNoBlank rest → bytes ≡ joined (command_text k ∷ rest)
    → shape k rest ≡ Some l → Parts bytes l
plain_parts bytes k rest l same_kinds plain e read = record {
  command = k;
  kinds_are = same_kinds;
  rest = rest;
  fields_are = ap fields_of e ∙ fields_of-joined (command_text k) rest (command-plain k, plain);
  shape_is = read;
}

-- a line of one number
one_parts : (bytes : List ℕ) (k : Command) (least most n : ℕ) (made : ℕ → ScriptLine) → kinds k ≡ line_kinds (made n) → most < 2 ^ 64 → (least ≤ n) × (n ≤ most)
    → shape k (decimal n ∷ []) ≡ one_number least most made (decimal n ∷ []) → bytes ≡ joined (command_text k ∷ decimal n ∷ []) → Parts bytes (made n)
one_parts bytes k least most n made kind small within same e =
    plain_parts bytes k (decimal n ∷ []) (made n) kind (decimal-plain n (omega arith), tt) e (same ∙ one_number_again least most n made small within.0 within.1)

drive_parts : (bytes : List ℕ) (k : Command) (n : ℕ) (made : ℕ → ScriptLine) → kinds k ≡ line_kinds (made n) → IsDrive n
    → shape k (decimal n ∷ []) ≡ one_number 1 most_drives made (decimal n ∷ []) → bytes ≡ joined (command_text k ∷ decimal n ∷ []) → Parts bytes (made n)
drive_parts bytes k n made kind within same e = one_parts bytes k 1 most_drives n made kind (lit< tt) within same e

session_parts : (bytes : List ℕ) (k : Command) (n : ℕ) (made : ℕ → ScriptLine) → kinds k ≡ line_kinds (made n) → IsNumber n
    → shape k (decimal n ∷ []) ≡ one_number 1 most_number made (decimal n ∷ []) → bytes ≡ joined (command_text k ∷ decimal n ∷ []) → Parts bytes (made n)
session_parts bytes k n made kind within same e = one_parts bytes k 1 most_number n made kind (lit< tt) within same e

label_again : (d : ℕ) (v p m : List ℕ) → IsDrive d → IsWord v → IsWord p → IsWord m → label_shape (decimal d ∷ v ∷ p ∷ m ∷ []) ≡ Some (line.Console (console.Label d v p m))
unfolding label_shape
label_again d v p m within v_word p_word m_word =
    rw (number_at_again 1 most_drives d (v ∷ p ∷ m ∷ []) (lit< tt) within.0 within.1, word_at_again v (p ∷ m ∷ []) v_word.0, word_at_again p (m ∷ []) p_word.0, word_at_again m [] m_word.0) refl

adopt_again : (d : ℕ) (v : List ℕ) → IsDrive d → IsWord v → adopt_shape (decimal d ∷ v ∷ []) ≡ Some (line.Console (console.Adopt d v))
unfolding adopt_shape
adopt_again d v within v_word = rw (number_at_again 1 most_drives d (v ∷ []) (lit< tt) within.0 within.1, word_at_again v [] v_word.0) refl

mount_again : (d : ℕ) (v : List ℕ) → IsDrive d → IsWord v → mount_shape (decimal d ∷ v ∷ []) ≡ Some (line.Console (console.Mount d v))
unfolding mount_shape
mount_again d v within v_word = rw (number_at_again 1 most_drives d (v ∷ []) (lit< tt) within.0 within.1, word_at_again v [] v_word.0) refl

purge_again : (d : ℕ) (v : List ℕ) → IsDrive d → IsWord v → purge_shape (decimal d ∷ v ∷ []) ≡ Some (line.Console (console.Purge d v))
unfolding purge_shape
purge_again d v within v_word = rw (number_at_again 1 most_drives d (v ∷ []) (lit< tt) within.0 within.1, word_at_again v [] v_word.0) refl

open_again : (j : ℕ) (p m : List ℕ) → IsNumber j → IsWord p → IsWord m → open_shape (decimal j ∷ p ∷ m ∷ []) ≡ Some (line.Open j p m)
unfolding open_shape
open_again j p m within p_word m_word =
    rw (number_at_again 1 most_number j (p ∷ m ∷ []) (lit< tt) within.0 within.1, word_at_again p (m ∷ []) p_word.0, word_at_again m [] m_word.0) refl

rec_again : (t i s : ℕ) (rest : Fields) (text : List ℕ) → joined rest ≡ text → IsWithin (line.Rec t i s text)
    → rec_shape (decimal t ∷ decimal i ∷ decimal s ∷ rest) ≡ Some (line.Rec t i s text)
unfolding rec_shape
rec_again t i s rest text same within =
    let fits = within.3 in
    rw (
      number_at_again 1 most_number t (decimal i ∷ decimal s ∷ rest) (lit< tt) within.0.0 within.0.1,
      number_at_again 1 most_number i (decimal s ∷ rest) (lit< tt) within.1.0 within.1.1,
      number_at_again 1 most_number s rest (lit< tt) within.2.0 within.2.1,
    )
    (cond-true (nat_le (length (joined rest)) most_data) (Some (line.Rec t i s (joined rest))) None (le-leb (length (joined rest)) most_data (omega (arith, ap length same)))
    ∙ ap (λ (x : List ℕ). Some (line.Rec t i s x)) same)

fill_again : (t i s n : ℕ) → IsWithin (line.Fill t i s n) → fill_shape (decimal t ∷ decimal i ∷ decimal s ∷ decimal n ∷ []) ≡ Some (line.Fill t i s n)
unfolding fill_shape
fill_again t i s n within =
    rw (
      number_at_again 1 most_number t (decimal i ∷ decimal s ∷ decimal n ∷ []) (lit< tt) within.0.0 within.0.1,
      number_at_again 1 most_number i (decimal s ∷ decimal n ∷ []) (lit< tt) within.1.0 within.1.1,
      number_at_again 1 most_number s (decimal n ∷ []) (lit< tt) within.2.0 within.2.1,
      only_number_again 0 most_data n (lit< tt) (omega arith) within.3,
    ) refl

host_again : (host : List ℕ) → IsWord host → host_shape (host ∷ []) ≡ Some (line.Set (setting.Host host))
unfolding host_shape
host_again host host_word = rw (word_at_again host [] host_word.0) refl

drive_again : (media : List ℕ) (n : ℕ) → IsWord media → 1 ≤ n → n ≤ most_lanes → drive_shape (media ∷ decimal n ∷ []) ≡ Some (line.Set (setting.Drive media n))
unfolding drive_shape
drive_again media n media_word low high = rw (word_at_again media (decimal n ∷ []) media_word.0, only_number_again 1 most_lanes n (lit< tt) low high) refl

capacity_again : (d n : ℕ) → IsDrive d → n ≤ most_capacity → capacity_shape (decimal d ∷ decimal n ∷ []) ≡ Some (line.Set (setting.Capacity d n))
unfolding capacity_shape
capacity_again d n within high =
    rw (number_at_again 1 most_drives d (decimal n ∷ []) (lit< tt) within.0 within.1, only_number_again 0 most_capacity n (lit< tt) (omega arith) high) refl

fail_again : (d : ℕ) (fail : plan.Fail Call) → IsWithin (line.Set (setting.Fail d fail))
    → fail_shape (decimal d ∷ call_text fail.call ∷ decimal fail.nth ∷ when_text fail.when ∷ []) ≡ Some (line.Set (setting.Fail d fail))
unfolding fail_shape
fail_again d fail within =
    let high : fail.nth ≤ most_wide = omega (arith, within.2) in
    rw (
      number_at_again 1 most_drives d (call_text fail.call ∷ decimal fail.nth ∷ when_text fail.when ∷ []) (lit< tt) within.0.0 within.0.1,
      call_at_again fail.call (decimal fail.nth ∷ when_text fail.when ∷ []),
      number_at_again 1 most_wide fail.nth (when_text fail.when ∷ []) (lit< tt) within.1 high,
      when_at_again fail.when [],
    ) refl

again_again : (key : SessionKey) → IsNumber key.time → IsNumber key.id → again_shape (decimal key.time ∷ decimal key.id ∷ []) ≡ Some (line.Again key)
unfolding again_shape
again_again key time_is id_is =
    rw (number_at_again 1 most_number key.time (decimal key.id ∷ []) (lit< tt) time_is.0 time_is.1, only_number_again 1 most_number key.id (lit< tt) id_is.0 id_is.1) refl

restart_alone : (t : ℕ) → IsNumber t → restart_shape (decimal t ∷ []) ≡ Some (line.Restart t None)
unfolding restart_shape
restart_alone t within = rw (number_at_again 1 most_number t [] (lit< tt) within.0 within.1) refl

restart_again : (t : ℕ) (tail : Tail) → IsWithin (line.Restart t (Some tail)) → IsWord tail.volume
    → restart_shape (decimal t ∷ decimal tail.drive ∷ tail.volume ∷ decimal tail.count ∷ []) ≡ Some (line.Restart t (Some tail))
unfolding restart_shape behind_shape
restart_again t tail within volume_word =
    let high : tail.count ≤ most_wide = omega (arith, within.2) in
    rw (
      number_at_again 1 most_number t (decimal tail.drive ∷ tail.volume ∷ decimal tail.count ∷ []) (lit< tt) within.0.0 within.0.1,
      number_at_again 1 most_drives tail.drive (tail.volume ∷ decimal tail.count ∷ []) (lit< tt) within.1.0 within.1.1,
      word_at_again tail.volume (decimal tail.count ∷ []) volume_word.0,
      only_number_again 0 most_wide tail.count (lit< tt) (omega arith) high,
    ) refl

number-plain : (n : ℕ) → IsNumber n → HasNoBlank (decimal n)
number-plain n within = decimal-plain n (omega (arith, within.1))

drive-plain : (n : ℕ) → IsDrive n → HasNoBlank (decimal n)
drive-plain n within = decimal-plain n (omega (arith, within.1))

-- the fields of a record, whose text is what comes after the fourth blank
rec_fields : (t i s : ℕ) (text : List ℕ) → IsNumber t → IsNumber i → IsNumber s
    → fields_of (joined (command_text Rec ∷ decimal t ∷ decimal i ∷ decimal s ∷ text ∷ [])) ≡ command_text Rec ∷ decimal t ∷ decimal i ∷ decimal s ∷ fields_of text
rec_fields t i s text t_is i_is s_is =
    fields_of-behind (command_text Rec) (joined (decimal t ∷ decimal i ∷ decimal s ∷ text ∷ [])) (command-plain Rec) ∙ ap (λ (fs : Fields). command_text Rec ∷ fs)
    (fields_of-behind (decimal t) (joined (decimal i ∷ decimal s ∷ text ∷ [])) (number-plain t t_is) ∙ ap (λ (fs : Fields). decimal t ∷ fs)
    (fields_of-behind (decimal i) (joined (decimal s ∷ text ∷ [])) (number-plain i i_is) ∙ ap (λ (fs : Fields). decimal i ∷ fs)
    (fields_of-behind (decimal s) text (number-plain s s_is))))

rec_parts : (bytes : List ℕ) (t i s : ℕ) (text : List ℕ) → IsWithin (line.Rec t i s text)
    → bytes ≡ joined (command_text Rec ∷ decimal t ∷ decimal i ∷ decimal s ∷ text ∷ []) → Parts bytes (line.Rec t i s text)
rec_parts bytes t i s text within e = record {
  command = Rec;
  kinds_are = refl;
  rest = decimal t ∷ decimal i ∷ decimal s ∷ fields_of text;
  fields_are = ap fields_of e ∙ rec_fields t i s text within.0 within.1 within.2;
  shape_is = rec_again t i s (fields_of text) text (joined-fields_of text) within;
}

short_parts : (bytes : List ℕ) (t i s : ℕ) → IsWithin (line.Rec t i s [])
    → bytes ≡ joined (command_text Rec ∷ decimal t ∷ decimal i ∷ decimal s ∷ []) → Parts bytes (line.Rec t i s [])
short_parts bytes t i s within e =
    plain_parts bytes Rec (decimal t ∷ decimal i ∷ decimal s ∷ []) (line.Rec t i s []) refl
    (number-plain t within.0, (number-plain i within.1, (number-plain s within.2, tt))) e (rec_again t i s [] [] refl within)

-- a moment that is not negative
moment_most : (n : ℕ) → FitsSigned w64 (pos n) → n ≤ most_moment
moment_most n fits = omega (arith, fits.sfits)

pub parts_of : (bytes : List ℕ) (l : ScriptLine) → bytes ≢ [] → IsSpelled bytes l → IsWithin l → AreWords l → Parts bytes l
parts_of bytes line.Empty some_there spelled within words = elim spelled [ inl e ↦ absurd (some_there e) | inr short ↦ absurd short ]
parts_of bytes (line.Set (setting.Block n)) some_there spelled within words =
    elim spelled [ inl e ↦ one_parts bytes Block least_block_limit most_block n (λ m. line.Set (setting.Block m)) refl (lit< tt) within refl e | inr short ↦ absurd short ]
parts_of bytes (line.Set (setting.Volume n)) some_there spelled within words =
    elim spelled [ inl e ↦ one_parts bytes Volume 0 most_volume n (λ m. line.Set (setting.Volume m)) refl (lit< tt) (omega arith, within) refl e | inr short ↦ absurd short ]
parts_of bytes (line.Set (setting.Spool n)) some_there spelled within words =
    elim spelled [ inl e ↦ one_parts bytes SpoolLimit 0 most_volume n (λ m. line.Set (setting.Spool m)) refl (lit< tt) (omega arith, within) refl e | inr short ↦ absurd short ]
parts_of bytes (line.Set (setting.Queue n)) some_there spelled within words =
    elim spelled [ inl e ↦ one_parts bytes Queue 1 most_queue n (λ m. line.Set (setting.Queue m)) refl (lit< tt) within refl e | inr short ↦ absurd short ]
parts_of bytes (line.Set (setting.Time n)) some_there spelled within words =
    elim spelled [ inl e ↦ one_parts bytes Time 1 most_number n (λ m. line.Set (setting.Time m)) refl (lit< tt) within refl e | inr short ↦ absurd short ]
parts_of bytes (line.Set (setting.Host host)) some_there spelled within words =
    elim spelled [
      | inl e ↦ plain_parts bytes Host (host ∷ []) (line.Set (setting.Host host)) refl (words.0.1, tt) e (host_again host words.0)
      | inr short ↦ absurd short
    ]
parts_of bytes (line.Set (setting.Drive media n)) some_there spelled within words =
    elim spelled [
      | inl e ↦
          plain_parts bytes Drive (media ∷ decimal n ∷ []) (line.Set (setting.Drive media n)) refl
          (words.0.1, (decimal-plain n (omega (arith, within.1)), tt)) e (drive_again media n words.0 within.0 within.1)
      | inr short ↦ absurd short
    ]
parts_of bytes (line.Set (setting.Capacity d n)) some_there spelled within words =
    elim spelled [
      | inl e ↦
          plain_parts bytes Capacity (decimal d ∷ decimal n ∷ []) (line.Set (setting.Capacity d n)) refl
          (drive-plain d within.0, (decimal-plain n (omega (arith, within.1)), tt)) e (capacity_again d n within.0 within.1)
      | inr short ↦ absurd short
    ]
parts_of bytes (line.Set (setting.Fail d fail)) some_there spelled within words =
    elim spelled [
      | inl e ↦
          plain_parts bytes Fail (decimal d ∷ call_text fail.call ∷ decimal fail.nth ∷ when_text fail.when ∷ []) (line.Set (setting.Fail d fail)) refl
          (drive-plain d within.0, (call-plain fail.call, (decimal-plain fail.nth within.2, (when-plain fail.when, tt)))) e (fail_again d fail within)
      | inr short ↦ absurd short
    ]
parts_of bytes (line.At (pos n)) some_there spelled within words =
    elim spelled [ inl e ↦ one_parts bytes At 0 most_moment n (λ m. line.At (pos m)) refl (lit< tt) (omega arith, moment_most n within.1) refl e | inr short ↦ absurd short ]
parts_of bytes (line.At (negsuc n)) some_there spelled within words = absurd (omega (arith, ints, within.0))
parts_of bytes (line.Console (console.Label d v p m)) some_there spelled within words =
    elim spelled [
      | inl e ↦
          plain_parts bytes Label (decimal d ∷ v ∷ p ∷ m ∷ []) (line.Console (console.Label d v p m)) refl
          (drive-plain d within, (words.0.1, (words.1.0.1, (words.1.1.0.1, tt)))) e (label_again d v p m within words.0 words.1.0 words.1.1.0)
      | inr short ↦ absurd short
    ]
parts_of bytes (line.Console (console.Adopt d v)) some_there spelled within words =
    elim spelled [
      | inl e ↦ plain_parts bytes Adopt (decimal d ∷ v ∷ []) (line.Console (console.Adopt d v)) refl (drive-plain d within, (words.0.1, tt)) e (adopt_again d v within words.0)
      | inr short ↦ absurd short
    ]
parts_of bytes (line.Console (console.Mount d v)) some_there spelled within words =
    elim spelled [
      | inl e ↦ plain_parts bytes Mount (decimal d ∷ v ∷ []) (line.Console (console.Mount d v)) refl (drive-plain d within, (words.0.1, tt)) e (mount_again d v within words.0)
      | inr short ↦ absurd short
    ]
parts_of bytes (line.Console (console.Unmount n)) some_there spelled within words =
    elim spelled [ inl e ↦ drive_parts bytes Unmount n (λ m. line.Console (console.Unmount m)) refl within refl e | inr short ↦ absurd short ]
parts_of bytes (line.Console (console.Retire n)) some_there spelled within words =
    elim spelled [ inl e ↦ drive_parts bytes Retire n (λ m. line.Console (console.Retire m)) refl within refl e | inr short ↦ absurd short ]
parts_of bytes (line.Console (console.Purge d v)) some_there spelled within words =
    elim spelled [
      | inl e ↦ plain_parts bytes Purge (decimal d ∷ v ∷ []) (line.Console (console.Purge d v)) refl (drive-plain d within, (words.0.1, tt)) e (purge_again d v within words.0)
      | inr short ↦ absurd short
    ]
parts_of bytes (line.Console (console.Cancel n)) some_there spelled within words =
    elim spelled [ inl e ↦ session_parts bytes Cancel n (λ m. line.Console (console.Cancel m)) refl within refl e | inr short ↦ absurd short ]
parts_of bytes (line.Console (console.JobMedia n)) some_there spelled within words =
    elim spelled [ inl e ↦ session_parts bytes JobMedia n (λ m. line.Console (console.JobMedia m)) refl within refl e | inr short ↦ absurd short ]
parts_of bytes (line.Console console.Status) some_there spelled within words =
    elim spelled [ inl e ↦ plain_parts bytes Status [] (line.Console console.Status) refl tt e refl | inr short ↦ absurd short ]
parts_of bytes (line.Console console.Requests) some_there spelled within words =
    elim spelled [ inl e ↦ plain_parts bytes Requests [] (line.Console console.Requests) refl tt e refl | inr short ↦ absurd short ]
parts_of bytes (line.Open j p m) some_there spelled within words =
    elim spelled [
      | inl e ↦
          plain_parts bytes Open (decimal j ∷ p ∷ m ∷ []) (line.Open j p m) refl
          (number-plain j within, (words.0.1, (words.1.0.1, tt))) e (open_again j p m within words.0 words.1.0)
      | inr short ↦ absurd short
    ]
parts_of bytes (line.Rec t i s []) some_there spelled within words =
    elim spelled [ inl e ↦ rec_parts bytes t i s [] within e | inr e ↦ short_parts bytes t i s within e ]
parts_of bytes (line.Rec t i s (x ∷ text)) some_there spelled within words =
    elim spelled [ inl e ↦ rec_parts bytes t i s (x ∷ text) within e | inr short ↦ absurd short ]
parts_of bytes (line.Fill t i s n) some_there spelled within words =
    elim spelled [
      | inl e ↦
          plain_parts bytes Fill (decimal t ∷ decimal i ∷ decimal s ∷ decimal n ∷ []) (line.Fill t i s n) refl
          (number-plain t within.0, (number-plain i within.1, (number-plain s within.2, (decimal-plain n (omega (arith, within.3)), tt)))) e (fill_again t i s n within)
      | inr short ↦ absurd short
    ]
parts_of bytes (line.Seek n) some_there spelled within words =
    elim spelled [ inl e ↦ drive_parts bytes Seek n line.Seek refl within refl e | inr short ↦ absurd short ]
parts_of bytes (line.Take n) some_there spelled within words =
    elim spelled [ inl e ↦ drive_parts bytes Take n line.Take refl within refl e | inr short ↦ absurd short ]
parts_of bytes (line.Place n) some_there spelled within words =
    elim spelled [ inl e ↦ drive_parts bytes Place n line.Place refl within refl e | inr short ↦ absurd short ]
parts_of bytes (line.Sync n) some_there spelled within words =
    elim spelled [ inl e ↦ drive_parts bytes Sync n line.Sync refl within refl e | inr short ↦ absurd short ]
parts_of bytes (line.End n) some_there spelled within words =
    elim spelled [ inl e ↦ session_parts bytes End n line.End refl within refl e | inr short ↦ absurd short ]
parts_of bytes (line.Spool n) some_there spelled within words =
    elim spelled [ inl e ↦ session_parts bytes Spool n line.Spool refl within refl e | inr short ↦ absurd short ]
parts_of bytes (line.Despool n) some_there spelled within words =
    elim spelled [ inl e ↦ session_parts bytes Despool n line.Despool refl within refl e | inr short ↦ absurd short ]
parts_of bytes (line.Close n) some_there spelled within words =
    elim spelled [ inl e ↦ session_parts bytes Close n line.Close refl within refl e | inr short ↦ absurd short ]
parts_of bytes (line.Read n) some_there spelled within words =
    elim spelled [ inl e ↦ session_parts bytes Read n line.Read refl within refl e | inr short ↦ absurd short ]
parts_of bytes (line.Again key) some_there spelled within words =
    elim spelled [
      | inl e ↦
          plain_parts bytes Again (decimal key.time ∷ decimal key.id ∷ []) (line.Again key) refl
          (number-plain key.time within.0, (number-plain key.id within.1, tt)) e (again_again key within.0 within.1)
      | inr short ↦ absurd short
    ]
parts_of bytes (line.Restart t None) some_there spelled within words =
    elim spelled [
      | inl e ↦ plain_parts bytes Restart (decimal t ∷ []) (line.Restart t None) refl (number-plain t within, tt) e (restart_alone t within)
      | inr short ↦ absurd short
    ]
parts_of bytes (line.Restart t (Some tail)) some_there spelled within words =
    elim spelled [
      | inl e ↦
          plain_parts bytes Restart (decimal t ∷ decimal tail.drive ∷ tail.volume ∷ decimal tail.count ∷ []) (line.Restart t (Some tail)) refl
          (number-plain t within.0, (drive-plain tail.drive within.1, (words.0.1, (decimal-plain tail.count within.2, tt)))) e (restart_again t tail within words.0)
      | inr short ↦ absurd short
    ]
parts_of bytes line.Drain some_there spelled within words =
    elim spelled [ inl e ↦ plain_parts bytes Drain [] line.Drain refl tt e refl | inr short ↦ absurd short ]

-- the command of the first word, or none
pub command_read : (part : Part) (fs : Fields) (word : List ℕ) (rest : Fields) (r : Option Command) → word_at fs ≡ Some (word, rest)
    → IfSome r (λ k. (word ≡ command_text k) × (stands part k ≡ true)) → IfSome r (λ k. (fs ≡ command_text k ∷ rest) × (stands part k ≡ true))
command_read part fs word rest None read none = tt
command_read part fs word rest (Some k) read found = ((word_at_takes fs (word, rest) read).0 ∙ ap (λ (w : List ℕ). w ∷ rest) found.0, found.1)

pub no_command : (part : Part) (fs : Fields) (word : List ℕ) (rest : Fields) (r : Option Command) → word_at fs ≡ Some (word, rest)
    → IfNone r ((k : Command) → word ≡ command_text k → stands part k ≡ true → ⊥)
    → IfNone r ((k : Command) (others : Fields) → fs ≡ command_text k ∷ others → stands part k ≡ true → ⊥)
no_command part fs word rest None read none = λ k others e there.
    let both : word ∷ rest ≡ command_text k ∷ others = sym (word_at_takes fs (word, rest) read).0 ∙ e in
    let same : word ≡ command_text k = cc in none k same there
no_command part fs word rest (Some k) read found = tt
