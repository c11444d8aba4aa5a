-- The line that is read from fields is spelled by the text of these fields.
use Rattle.std.proofs.Common.{◌≡◌, ℕ, ◌≤◌, refl, sym, ap, subst, ◌∙◌, arith, inl, inr, cond, List, [], ◌∷◌, length, Some, None}
use Rattle.std.specs.Prelude.{pos, nat_le, FitsSigned}
use Rattle.std.specs.Int.{w64}
use Rattle.std.specs.List.{AllByRecursion}
use Rattle.std.specs.Fmt.{decimal}
use Rattle.std.proofs.lemmas.Bool.{leb-true}
use Rattle.std.proofs.lemmas.Int.{ints}
use Rattle.std.proofs.lemmas.Option.{cond_some}
use Rattle.sd_base.specs.Limits.{least_block_limit, most_block, most_data, most_drives, most_lanes, most_number, most_queue, most_volume}
use Rattle.sd_script.specs.declared.command.Command.{Command}
use Rattle.sd_script.specs.declared.command.Command.TheVariants.{Block, Volume, SpoolLimit, Queue, Time, Host, Drive, Capacity, Fail, At, Label, Adopt, Mount, Unmount, Seek, Retire, Purge, Open, Rec, Fill, End, Cancel, Spool, Despool, Take, Place, Sync, Close, JobMedia, Read, Again, Drain, Status, Requests, Restart}
use Rattle.sd_script.specs.declared.console.ConsoleCmd.TheVariants as console
use Rattle.sd_script.specs.declared.line.Setting.TheVariants as setting
use Rattle.sd_script.specs.declared.line.ScriptLine.{ScriptLine}
use Rattle.sd_script.specs.declared.line.ScriptLine.TheVariants as line
use Rattle.sd_script.specs.Command.{command_text}
use Rattle.sd_text.specs.Fields.{HasNoBlank, joined, Fields, fields_of}
use Rattle.sd_plan.specs.declared.call.Call.{Call}
use Rattle.sd_plan.specs.declared.fail.When.{When}
use Rattle.sd_script.specs.Grammar.{IsSpelled, IsWithin, AreWords, call_text, most_capacity, when_text}
use Rattle.sd_base.specs.Limits.{IsNumber}
use Rattle.sd_text.specs.Reading.{◌>>=◌, number_at, word_at, all_read, only_number}
use Rattle.sd_script.specs.Reading.{most_moment, most_wide, shape, one_number, label_shape, adopt_shape, mount_shape, purge_shape, open_shape, rec_shape, fill_shape, host_shape, drive_shape, capacity_shape, call_at, when_at, fail_shape, again_shape, behind_shape, restart_behind, restart_shape}
use Rattle.sd_text.proofs.FieldLemmas.{joined-fields_of, fields_of-plain}
use Rattle.sd_text.proofs.ReadingLemmas.{bind_some, some_is, TakesNumber, number_at_takes, word_at_takes, all_read_takes, only_number_takes}
use Rattle.sd_script.proofs.ReadingLemmas.{one_number_takes, call_at_takes, when_at_takes}
use Rattle.sd_script.proofs.CommandLemmas.{kinds, line_kinds}

-- what a line of that command is that these bytes spell, whatever its names are
pub record Spells (k : Command) (bytes : List ℕ) (l : ScriptLine) : Type 0 where
  pub spelled : IsSpelled bytes l
  pub within : IsWithin l
  pub words : AreWords l
  pub kinds_are : kinds k ≡ line_kinds l

-- the bytes of these fields, none of which holds a blank
pub record HasFields (bytes : List ℕ) (command : List ℕ) (fs : Fields) : Type 0 where
  pub text : bytes ≡ joined (command ∷ fs)
  pub plain : AllByRecursion HasNoBlank fs

has_fields : (bytes command : List ℕ) (fs : Fields) → fields_of bytes ≡ command ∷ fs → HasFields bytes command fs
has_fields bytes command fs e = record {
  text = sym (joined-fields_of bytes) ∙ ap joined e;
  plain = (subst (λ (gs : Fields). AllByRecursion HasNoBlank gs) e (fields_of-plain bytes)).1;
}

one_text : (bytes command : List ℕ) (fs : Fields) (least most n : ℕ) → HasFields bytes command fs → TakesNumber least most fs n [] → bytes ≡ joined (command ∷ decimal n ∷ [])
one_text bytes command fs least most n has takes = has.text ∙ ap (λ (gs : Fields). joined (command ∷ gs)) takes.fields_are

label_takes : (bytes : List ℕ) (fs : Fields) (l : ScriptLine) → HasFields bytes (command_text Label) fs → label_shape fs ≡ Some l → Spells Label bytes l
unfolding label_shape
label_takes bytes fs l has e =
    let a = bind_some (number_at 1 most_drives fs) (λ drive. word_at drive.1 >>= λ volume. word_at volume.1 >>= λ pool. word_at pool.1 >>= λ media. all_read (line.Console (console.Label drive.0 volume.0 pool.0 media.0)) media.1) l e in
    let b = bind_some (word_at a.0.1) (λ volume. word_at volume.1 >>= λ pool. word_at pool.1 >>= λ media. all_read (line.Console (console.Label a.0.0 volume.0 pool.0 media.0)) media.1) l a.2 in
    let p = bind_some (word_at b.0.1) (λ pool. word_at pool.1 >>= λ media. all_read (line.Console (console.Label a.0.0 b.0.0 pool.0 media.0)) media.1) l b.2 in
    let m = bind_some (word_at p.0.1) (λ media. all_read (line.Console (console.Label a.0.0 b.0.0 p.0.0 media.0)) media.1) l p.2 in
    let all = all_read_takes (line.Console (console.Label a.0.0 b.0.0 p.0.0 m.0.0)) l m.0.1 m.2 in
    let drive = number_at_takes 1 most_drives fs a.0 a.1 in
    let volume = word_at_takes a.0.1 b.0 b.1 in
    let pool = word_at_takes b.0.1 p.0 p.1 in
    let media = word_at_takes p.0.1 m.0 m.1 in
    let fields : fs ≡ decimal a.0.0 ∷ b.0.0 ∷ p.0.0 ∷ m.0.0 ∷ [] =
    drive.fields_are ∙ ap (λ (gs : Fields). decimal a.0.0 ∷ gs) (volume.0 ∙ ap (λ (gs : Fields). b.0.0 ∷ gs) (pool.0 ∙ ap (λ (gs : Fields). p.0.0 ∷ gs) (media.0 ∙ ap (λ (gs : Fields). m.0.0 ∷ gs) all.0))) in
    let plain = subst (λ (gs : Fields). AllByRecursion HasNoBlank gs) fields has.plain in
    subst (λ (x : ScriptLine). Spells Label bytes x) all.1 (record {
      spelled = inl (has.text ∙ ap (λ (gs : Fields). joined (command_text Label ∷ gs)) fields);
      within = (drive.least_is, drive.most_is);
      words = ((volume.1, plain.1.0), ((pool.1, plain.1.1.0), ((media.1, plain.1.1.1.0), tt)));
      kinds_are = refl;
    })

adopt_takes : (bytes : List ℕ) (fs : Fields) (l : ScriptLine) → HasFields bytes (command_text Adopt) fs → adopt_shape fs ≡ Some l → Spells Adopt bytes l
unfolding adopt_shape
adopt_takes bytes fs l has e =
    let a = bind_some (number_at 1 most_drives fs) (λ drive. word_at drive.1 >>= λ volume. all_read (line.Console (console.Adopt drive.0 volume.0)) volume.1) l e in
    let b = bind_some (word_at a.0.1) (λ volume. all_read (line.Console (console.Adopt a.0.0 volume.0)) volume.1) l a.2 in
    let all = all_read_takes (line.Console (console.Adopt a.0.0 b.0.0)) l b.0.1 b.2 in
    let drive = number_at_takes 1 most_drives fs a.0 a.1 in
    let volume = word_at_takes a.0.1 b.0 b.1 in
    let fields : fs ≡ decimal a.0.0 ∷ b.0.0 ∷ [] = drive.fields_are ∙ ap (λ (gs : Fields). decimal a.0.0 ∷ gs) (volume.0 ∙ ap (λ (gs : Fields). b.0.0 ∷ gs) all.0) in
    let plain = subst (λ (gs : Fields). AllByRecursion HasNoBlank gs) fields has.plain in
    subst (λ (x : ScriptLine). Spells Adopt bytes x) all.1 (record {
      spelled = inl (has.text ∙ ap (λ (gs : Fields). joined (command_text Adopt ∷ gs)) fields);
      within = (drive.least_is, drive.most_is);
      words = ((volume.1, plain.1.0), tt);
      kinds_are = refl;
    })

mount_takes : (bytes : List ℕ) (fs : Fields) (l : ScriptLine) → HasFields bytes (command_text Mount) fs → mount_shape fs ≡ Some l → Spells Mount bytes l
unfolding mount_shape
mount_takes bytes fs l has e =
    let a = bind_some (number_at 1 most_drives fs) (λ drive. word_at drive.1 >>= λ volume. all_read (line.Console (console.Mount drive.0 volume.0)) volume.1) l e in
    let b = bind_some (word_at a.0.1) (λ volume. all_read (line.Console (console.Mount a.0.0 volume.0)) volume.1) l a.2 in
    let all = all_read_takes (line.Console (console.Mount a.0.0 b.0.0)) l b.0.1 b.2 in
    let drive = number_at_takes 1 most_drives fs a.0 a.1 in
    let volume = word_at_takes a.0.1 b.0 b.1 in
    let fields : fs ≡ decimal a.0.0 ∷ b.0.0 ∷ [] = drive.fields_are ∙ ap (λ (gs : Fields). decimal a.0.0 ∷ gs) (volume.0 ∙ ap (λ (gs : Fields). b.0.0 ∷ gs) all.0) in
    let plain = subst (λ (gs : Fields). AllByRecursion HasNoBlank gs) fields has.plain in
    subst (λ (x : ScriptLine). Spells Mount bytes x) all.1 (record {
      spelled = inl (has.text ∙ ap (λ (gs : Fields). joined (command_text Mount ∷ gs)) fields);
      within = (drive.least_is, drive.most_is);
      words = ((volume.1, plain.1.0), tt);
      kinds_are = refl;
    })

purge_takes : (bytes : List ℕ) (fs : Fields) (l : ScriptLine) → HasFields bytes (command_text Purge) fs → purge_shape fs ≡ Some l → Spells Purge bytes l
unfolding purge_shape
purge_takes bytes fs l has e =
    let a = bind_some (number_at 1 most_drives fs) (λ drive. word_at drive.1 >>= λ volume. all_read (line.Console (console.Purge drive.0 volume.0)) volume.1) l e in
    let b = bind_some (word_at a.0.1) (λ volume. all_read (line.Console (console.Purge a.0.0 volume.0)) volume.1) l a.2 in
    let all = all_read_takes (line.Console (console.Purge a.0.0 b.0.0)) l b.0.1 b.2 in
    let drive = number_at_takes 1 most_drives fs a.0 a.1 in
    let volume = word_at_takes a.0.1 b.0 b.1 in
    let fields : fs ≡ decimal a.0.0 ∷ b.0.0 ∷ [] = drive.fields_are ∙ ap (λ (gs : Fields). decimal a.0.0 ∷ gs) (volume.0 ∙ ap (λ (gs : Fields). b.0.0 ∷ gs) all.0) in
    let plain = subst (λ (gs : Fields). AllByRecursion HasNoBlank gs) fields has.plain in
    subst (λ (x : ScriptLine). Spells Purge bytes x) all.1 (record {
      spelled = inl (has.text ∙ ap (λ (gs : Fields). joined (command_text Purge ∷ gs)) fields);
      within = (drive.least_is, drive.most_is);
      words = ((volume.1, plain.1.0), tt);
      kinds_are = refl;
    })

open_takes : (bytes : List ℕ) (fs : Fields) (l : ScriptLine) → HasFields bytes (command_text Open) fs → open_shape fs ≡ Some l → Spells Open bytes l
unfolding open_shape
open_takes bytes fs l has e =
    let a = bind_some (number_at 1 most_number fs) (λ job. word_at job.1 >>= λ pool. word_at pool.1 >>= λ media. all_read (line.Open job.0 pool.0 media.0) media.1) l e in
    let p = bind_some (word_at a.0.1) (λ pool. word_at pool.1 >>= λ media. all_read (line.Open a.0.0 pool.0 media.0) media.1) l a.2 in
    let m = bind_some (word_at p.0.1) (λ media. all_read (line.Open a.0.0 p.0.0 media.0) media.1) l p.2 in
    let all = all_read_takes (line.Open a.0.0 p.0.0 m.0.0) l m.0.1 m.2 in
    let job = number_at_takes 1 most_number fs a.0 a.1 in
    let pool = word_at_takes a.0.1 p.0 p.1 in
    let media = word_at_takes p.0.1 m.0 m.1 in
    let fields : fs ≡ decimal a.0.0 ∷ p.0.0 ∷ m.0.0 ∷ [] =
    job.fields_are ∙ ap (λ (gs : Fields). decimal a.0.0 ∷ gs) (pool.0 ∙ ap (λ (gs : Fields). p.0.0 ∷ gs) (media.0 ∙ ap (λ (gs : Fields). m.0.0 ∷ gs) all.0)) in
    let plain = subst (λ (gs : Fields). AllByRecursion HasNoBlank gs) fields has.plain in
    subst (λ (x : ScriptLine). Spells Open bytes x) all.1 (record {
      spelled = inl (has.text ∙ ap (λ (gs : Fields). joined (command_text Open ∷ gs)) fields);
      within = (job.least_is, job.most_is);
      words = ((pool.1, plain.1.0), ((media.1, plain.1.1.0), tt));
      kinds_are = refl;
    })

-- the text after three numbers, with a blank before it or not there
rec_spelled : (bytes : List ℕ) (t i s : ℕ) (rest : Fields) → bytes ≡ joined (command_text Rec ∷ decimal t ∷ decimal i ∷ decimal s ∷ rest)
    → IsSpelled bytes (line.Rec t i s (joined rest))
rec_spelled bytes t i s [] e = inr e
rec_spelled bytes t i s (f ∷ rest) e = inl e

rec_takes : (bytes : List ℕ) (fs : Fields) (l : ScriptLine) → HasFields bytes (command_text Rec) fs → rec_shape fs ≡ Some l → Spells Rec bytes l
unfolding rec_shape
rec_takes bytes fs l has e =
    let a = bind_some (number_at 1 most_number fs) (λ ticket. number_at 1 most_number ticket.1 >>= λ index. number_at 1 most_number index.1 >>= λ stream.
    cond (nat_le (length (joined stream.1)) most_data) (Some (line.Rec ticket.0 index.0 stream.0 (joined stream.1))) None) l e in
    let b = bind_some (number_at 1 most_number a.0.1) (λ index. number_at 1 most_number index.1 >>= λ stream.
    cond (nat_le (length (joined stream.1)) most_data) (Some (line.Rec a.0.0 index.0 stream.0 (joined stream.1))) None) l a.2 in
    let d = bind_some (number_at 1 most_number b.0.1) (λ stream.
    cond (nat_le (length (joined stream.1)) most_data) (Some (line.Rec a.0.0 b.0.0 stream.0 (joined stream.1))) None) l b.2 in
    let all = cond_some (nat_le (length (joined d.0.1)) most_data) (line.Rec a.0.0 b.0.0 d.0.0 (joined d.0.1)) l d.2 in
    let ticket = number_at_takes 1 most_number fs a.0 a.1 in
    let index = number_at_takes 1 most_number a.0.1 b.0 b.1 in
    let stream = number_at_takes 1 most_number b.0.1 d.0 d.1 in
    let fields : fs ≡ decimal a.0.0 ∷ decimal b.0.0 ∷ decimal d.0.0 ∷ d.0.1 =
    ticket.fields_are ∙ ap (λ (gs : Fields). decimal a.0.0 ∷ gs) (index.fields_are ∙ ap (λ (gs : Fields). decimal b.0.0 ∷ gs) stream.fields_are) in
    subst (λ (x : ScriptLine). Spells Rec bytes x) all.1 (record {
      spelled = rec_spelled bytes a.0.0 b.0.0 d.0.0 d.0.1 (has.text ∙ ap (λ (gs : Fields). joined (command_text Rec ∷ gs)) fields);
      within = ((ticket.least_is, ticket.most_is), (index.least_is, index.most_is), (stream.least_is, stream.most_is), leb-true _ _ all.0);
      words = tt;
      kinds_are = refl;
    })

fill_takes : (bytes : List ℕ) (fs : Fields) (l : ScriptLine) → HasFields bytes (command_text Fill) fs → fill_shape fs ≡ Some l → Spells Fill bytes l
unfolding fill_shape
fill_takes bytes fs l has e =
    let a = bind_some (number_at 1 most_number fs) (λ ticket. number_at 1 most_number ticket.1 >>= λ index. number_at 1 most_number index.1 >>= λ stream.
    only_number 0 most_data stream.1 >>= λ count. Some (line.Fill ticket.0 index.0 stream.0 count)) l e in
    let b = bind_some (number_at 1 most_number a.0.1) (λ index. number_at 1 most_number index.1 >>= λ stream.
    only_number 0 most_data stream.1 >>= λ count. Some (line.Fill a.0.0 index.0 stream.0 count)) l a.2 in
    let d = bind_some (number_at 1 most_number b.0.1) (λ stream. only_number 0 most_data stream.1 >>= λ count. Some (line.Fill a.0.0 b.0.0 stream.0 count)) l b.2 in
    let n = bind_some (only_number 0 most_data d.0.1) (λ count. Some (line.Fill a.0.0 b.0.0 d.0.0 count)) l d.2 in
    let ticket = number_at_takes 1 most_number fs a.0 a.1 in
    let index = number_at_takes 1 most_number a.0.1 b.0 b.1 in
    let stream = number_at_takes 1 most_number b.0.1 d.0 d.1 in
    let count = only_number_takes 0 most_data d.0.1 n.0 n.1 in
    let fields : fs ≡ decimal a.0.0 ∷ decimal b.0.0 ∷ decimal d.0.0 ∷ decimal n.0 ∷ [] =
    ticket.fields_are ∙ ap (λ (gs : Fields). decimal a.0.0 ∷ gs) (index.fields_are ∙ ap (λ (gs : Fields). decimal b.0.0 ∷ gs)
    (stream.fields_are ∙ ap (λ (gs : Fields). decimal d.0.0 ∷ gs) count.fields_are)) in
    subst (λ (x : ScriptLine). Spells Fill bytes x) (some_is (line.Fill a.0.0 b.0.0 d.0.0 n.0) l n.2) (record {
      spelled = inl (has.text ∙ ap (λ (gs : Fields). joined (command_text Fill ∷ gs)) fields);
      within = ((ticket.least_is, ticket.most_is), (index.least_is, index.most_is), (stream.least_is, stream.most_is), count.most_is);
      words = tt;
      kinds_are = refl;
    })

-- a line of one number, if what is made of it is spelled so and has no names
one_takes : (bytes : List ℕ) (k : Command) (fs : Fields) (least most : ℕ) (made : ℕ → ScriptLine) (l : ScriptLine)
    → ((n : ℕ) → least ≤ n → n ≤ most → bytes ≡ joined (command_text k ∷ decimal n ∷ []) → Spells k bytes (made n))
    → HasFields bytes (command_text k) fs → one_number least most made fs ≡ Some l → Spells k bytes l
one_takes bytes k fs least most made l spells has e =
    let one = one_number_takes least most made fs l e in
    subst (λ (x : ScriptLine). Spells k bytes x) one.made_is
    (spells one.n one.takes.least_is one.takes.most_is (one_text bytes (command_text k) fs least most one.n has one.takes))

abbrev spelled_so : (k : Command) (bytes : List ℕ) (l : ScriptLine) → IsSpelled bytes l → IsWithin l → AreWords l → kinds k ≡ line_kinds l → Spells k bytes l
spelled_so k bytes l spelled within words same = record { spelled = spelled; within = within; words = words; kinds_are = same }

moment_fits : (n : ℕ) → n ≤ most_moment → FitsSigned w64 (pos n)
moment_fits n most = record { sfits = omega arith }

host_takes : (bytes : List ℕ) (fs : Fields) (l : ScriptLine) → HasFields bytes (command_text Host) fs → host_shape fs ≡ Some l → Spells Host bytes l
unfolding host_shape
host_takes bytes fs l has e =
    let a = bind_some (word_at fs) (λ host. all_read (line.Set (setting.Host host.0)) host.1) l e in
    let all = all_read_takes (line.Set (setting.Host a.0.0)) l a.0.1 a.2 in
    let host = word_at_takes fs a.0 a.1 in
    let fields : fs ≡ a.0.0 ∷ [] = host.0 ∙ ap (λ (gs : Fields). a.0.0 ∷ gs) all.0 in
    let plain = subst (λ (gs : Fields). AllByRecursion HasNoBlank gs) fields has.plain in
    subst (λ (x : ScriptLine). Spells Host bytes x) all.1 (record {
      spelled = inl (has.text ∙ ap (λ (gs : Fields). joined (command_text Host ∷ gs)) fields);
      within = tt;
      words = ((host.1, plain.0), tt);
      kinds_are = refl;
    })

drive_takes : (bytes : List ℕ) (fs : Fields) (l : ScriptLine) → HasFields bytes (command_text Drive) fs → drive_shape fs ≡ Some l → Spells Drive bytes l
unfolding drive_shape
drive_takes bytes fs l has e =
    let a = bind_some (word_at fs) (λ media. only_number 1 most_lanes media.1 >>= λ lanes. Some (line.Set (setting.Drive media.0 lanes))) l e in
    let n = bind_some (only_number 1 most_lanes a.0.1) (λ lanes. Some (line.Set (setting.Drive a.0.0 lanes))) l a.2 in
    let media = word_at_takes fs a.0 a.1 in
    let lanes = only_number_takes 1 most_lanes a.0.1 n.0 n.1 in
    let fields : fs ≡ a.0.0 ∷ decimal n.0 ∷ [] = media.0 ∙ ap (λ (gs : Fields). a.0.0 ∷ gs) lanes.fields_are in
    let plain = subst (λ (gs : Fields). AllByRecursion HasNoBlank gs) fields has.plain in
    subst (λ (x : ScriptLine). Spells Drive bytes x) (some_is (line.Set (setting.Drive a.0.0 n.0)) l n.2) (record {
      spelled = inl (has.text ∙ ap (λ (gs : Fields). joined (command_text Drive ∷ gs)) fields);
      within = (lanes.least_is, lanes.most_is);
      words = ((media.1, plain.0), tt);
      kinds_are = refl;
    })

capacity_takes : (bytes : List ℕ) (fs : Fields) (l : ScriptLine) → HasFields bytes (command_text Capacity) fs → capacity_shape fs ≡ Some l → Spells Capacity bytes l
unfolding capacity_shape
capacity_takes bytes fs l has e =
    let a = bind_some (number_at 1 most_drives fs) (λ drive. only_number 0 most_capacity drive.1 >>= λ size. Some (line.Set (setting.Capacity drive.0 size))) l e in
    let n = bind_some (only_number 0 most_capacity a.0.1) (λ size. Some (line.Set (setting.Capacity a.0.0 size))) l a.2 in
    let drive = number_at_takes 1 most_drives fs a.0 a.1 in
    let size = only_number_takes 0 most_capacity a.0.1 n.0 n.1 in
    let fields : fs ≡ decimal a.0.0 ∷ decimal n.0 ∷ [] = drive.fields_are ∙ ap (λ (gs : Fields). decimal a.0.0 ∷ gs) size.fields_are in
    subst (λ (x : ScriptLine). Spells Capacity bytes x) (some_is (line.Set (setting.Capacity a.0.0 n.0)) l n.2) (record {
      spelled = inl (has.text ∙ ap (λ (gs : Fields). joined (command_text Capacity ∷ gs)) fields);
      within = ((drive.least_is, drive.most_is), size.most_is);
      words = tt;
      kinds_are = refl;
    })

-- the line of a call that fails, and of how it fails
abbrev failing : ℕ → Call → ℕ → When → ScriptLine
failing drive kind nth way = line.Set (setting.Fail drive (record { call = kind; nth = nth; when = way }))

fail_takes : (bytes : List ℕ) (fs : Fields) (l : ScriptLine) → HasFields bytes (command_text Fail) fs → fail_shape fs ≡ Some l → Spells Fail bytes l
unfolding fail_shape
fail_takes bytes fs l has e =
    let a = bind_some (number_at 1 most_drives fs) (λ drive. call_at drive.1 >>= λ kind. number_at 1 most_wide kind.1 >>= λ nth. when_at nth.1 >>= λ way. all_read (failing drive.0 kind.0 nth.0 way.0) way.1) l e in
    let b = bind_some (call_at a.0.1) (λ kind. number_at 1 most_wide kind.1 >>= λ nth. when_at nth.1 >>= λ way. all_read (failing a.0.0 kind.0 nth.0 way.0) way.1) l a.2 in
    let d = bind_some (number_at 1 most_wide b.0.1) (λ nth. when_at nth.1 >>= λ way. all_read (failing a.0.0 b.0.0 nth.0 way.0) way.1) l b.2 in
    let w = bind_some (when_at d.0.1) (λ way. all_read (failing a.0.0 b.0.0 d.0.0 way.0) way.1) l d.2 in
    let all = all_read_takes (failing a.0.0 b.0.0 d.0.0 w.0.0) l w.0.1 w.2 in
    let drive = number_at_takes 1 most_drives fs a.0 a.1 in
    let kind = call_at_takes a.0.1 b.0 b.1 in
    let nth = number_at_takes 1 most_wide b.0.1 d.0 d.1 in
    let way = when_at_takes d.0.1 w.0 w.1 in
    let fields : fs ≡ decimal a.0.0 ∷ call_text b.0.0 ∷ decimal d.0.0 ∷ when_text w.0.0 ∷ [] =
    drive.fields_are ∙ ap (λ (gs : Fields). decimal a.0.0 ∷ gs) (kind ∙ ap (λ (gs : Fields). call_text b.0.0 ∷ gs)
    (nth.fields_are ∙ ap (λ (gs : Fields). decimal d.0.0 ∷ gs) (way ∙ ap (λ (gs : Fields). when_text w.0.0 ∷ gs) all.0))) in
    subst (λ (x : ScriptLine). Spells Fail bytes x) all.1 (record {
      spelled = inl (has.text ∙ ap (λ (gs : Fields). joined (command_text Fail ∷ gs)) fields);
      within = ((drive.least_is, drive.most_is), nth.least_is, omega (arith, nth.most_is));
      words = tt;
      kinds_are = refl;
    })

again_takes : (bytes : List ℕ) (fs : Fields) (l : ScriptLine) → HasFields bytes (command_text Again) fs → again_shape fs ≡ Some l → Spells Again bytes l
unfolding again_shape
again_takes bytes fs l has e =
    let a = bind_some (number_at 1 most_number fs) (λ time. only_number 1 most_number time.1 >>= λ id. Some (line.Again (record { time = time.0; id = id }))) l e in
    let n = bind_some (only_number 1 most_number a.0.1) (λ id. Some (line.Again (record { time = a.0.0; id = id }))) l a.2 in
    let time = number_at_takes 1 most_number fs a.0 a.1 in
    let id = only_number_takes 1 most_number a.0.1 n.0 n.1 in
    let fields : fs ≡ decimal a.0.0 ∷ decimal n.0 ∷ [] = time.fields_are ∙ ap (λ (gs : Fields). decimal a.0.0 ∷ gs) id.fields_are in
    subst (λ (x : ScriptLine). Spells Again bytes x) (some_is (line.Again (record { time = a.0.0; id = n.0 })) l n.2) (record {
      spelled = inl (has.text ∙ ap (λ (gs : Fields). joined (command_text Again ∷ gs)) fields);
      within = ((time.least_is, time.most_is), (id.least_is, id.most_is));
      words = tt;
      kinds_are = refl;
    })

-- a restart after which no field is left, or what a stop leaves
behind_takes : (bytes : List ℕ) (t : ℕ) (fs : Fields) (l : ScriptLine) → HasFields bytes (command_text Restart) (decimal t ∷ fs) → IsNumber t
    → behind_shape t fs ≡ Some l → Spells Restart bytes l
unfolding behind_shape
behind_takes bytes t fs l has t_is e =
    let a = bind_some (number_at 1 most_drives fs) (λ drive. word_at drive.1 >>= λ volume. only_number 0 most_wide volume.1 >>= λ count. Some (line.Restart t (Some (record { drive = drive.0; volume = volume.0; count = count })))) l e in
    let b = bind_some (word_at a.0.1) (λ volume. only_number 0 most_wide volume.1 >>= λ count. Some (line.Restart t (Some (record { drive = a.0.0; volume = volume.0; count = count })))) l a.2 in
    let n = bind_some (only_number 0 most_wide b.0.1) (λ count. Some (line.Restart t (Some (record { drive = a.0.0; volume = b.0.0; count = count })))) l b.2 in
    let drive = number_at_takes 1 most_drives fs a.0 a.1 in
    let volume = word_at_takes a.0.1 b.0 b.1 in
    let count = only_number_takes 0 most_wide b.0.1 n.0 n.1 in
    let fields : fs ≡ decimal a.0.0 ∷ b.0.0 ∷ decimal n.0 ∷ [] =
    drive.fields_are ∙ ap (λ (gs : Fields). decimal a.0.0 ∷ gs) (volume.0 ∙ ap (λ (gs : Fields). b.0.0 ∷ gs) count.fields_are) in
    let plain = subst (λ (gs : Fields). AllByRecursion HasNoBlank (decimal t ∷ gs)) fields has.plain in
    subst (λ (x : ScriptLine). Spells Restart bytes x) (some_is (line.Restart t (Some (record { drive = a.0.0; volume = b.0.0; count = n.0 }))) l n.2) (record {
      spelled = inl (has.text ∙ ap (λ (gs : Fields). joined (command_text Restart ∷ decimal t ∷ gs)) fields);
      within = (t_is, (drive.least_is, drive.most_is), omega (arith, count.most_is));
      words = ((volume.1, plain.1.1.0), tt);
      kinds_are = refl;
    })

restart_takes_behind : (bytes : List ℕ) (t : ℕ) (fs : Fields) (l : ScriptLine) → HasFields bytes (command_text Restart) (decimal t ∷ fs) → IsNumber t
    → restart_behind t fs ≡ Some l → Spells Restart bytes l
restart_takes_behind bytes t [] l has t_is e =
    subst (λ (x : ScriptLine). Spells Restart bytes x) (some_is (line.Restart t None) l e) (spelled_so Restart bytes (line.Restart t None) (inl has.text) t_is tt refl)
restart_takes_behind bytes t (f ∷ fs) l has t_is e = behind_takes bytes t (f ∷ fs) l has t_is e

restart_takes : (bytes : List ℕ) (fs : Fields) (l : ScriptLine) → HasFields bytes (command_text Restart) fs → restart_shape fs ≡ Some l → Spells Restart bytes l
unfolding restart_shape
restart_takes bytes fs l has e =
    let a = bind_some (number_at 1 most_number fs) (λ time. restart_behind time.0 time.1) l e in
    let time = number_at_takes 1 most_number fs a.0 a.1 in
    restart_takes_behind bytes a.0.0 a.0.1 l (subst (λ (gs : Fields). HasFields bytes (command_text Restart) gs) time.fields_are has) (time.least_is, time.most_is) a.2

-- what is read of a command and the fields after it
fields_take : (k : Command) (bytes : List ℕ) (fs : Fields) (l : ScriptLine) → HasFields bytes (command_text k) fs → shape k fs ≡ Some l → Spells k bytes l
fields_take Block bytes fs l has e =
    one_takes bytes Block fs least_block_limit most_block (λ n. line.Set (setting.Block n)) l (λ n low high text. spelled_so Block bytes (line.Set (setting.Block n)) (inl text) (low, high) tt refl) has e
fields_take Volume bytes fs l has e =
    one_takes bytes Volume fs 0 most_volume (λ n. line.Set (setting.Volume n)) l (λ n low high text. spelled_so Volume bytes (line.Set (setting.Volume n)) (inl text) high tt refl) has e
fields_take SpoolLimit bytes fs l has e =
    one_takes bytes SpoolLimit fs 0 most_volume (λ n. line.Set (setting.Spool n)) l (λ n low high text. spelled_so SpoolLimit bytes (line.Set (setting.Spool n)) (inl text) high tt refl) has e
fields_take Queue bytes fs l has e =
    one_takes bytes Queue fs 1 most_queue (λ n. line.Set (setting.Queue n)) l (λ n low high text. spelled_so Queue bytes (line.Set (setting.Queue n)) (inl text) (low, high) tt refl) has e
fields_take Time bytes fs l has e =
    one_takes bytes Time fs 1 most_number (λ n. line.Set (setting.Time n)) l (λ n low high text. spelled_so Time bytes (line.Set (setting.Time n)) (inl text) (low, high) tt refl) has e
fields_take Host bytes fs l has e = host_takes bytes fs l has e
fields_take Drive bytes fs l has e = drive_takes bytes fs l has e
fields_take Capacity bytes fs l has e = capacity_takes bytes fs l has e
fields_take Fail bytes fs l has e = fail_takes bytes fs l has e
fields_take At bytes fs l has e =
    one_takes bytes At fs 0 most_moment (λ n. line.At (pos n)) l (λ n low high text. spelled_so At bytes (line.At (pos n)) (inl text) (omega (arith, ints), moment_fits n high) tt refl) has e
fields_take Label bytes fs l has e = label_takes bytes fs l has e
fields_take Adopt bytes fs l has e = adopt_takes bytes fs l has e
fields_take Mount bytes fs l has e = mount_takes bytes fs l has e
fields_take Purge bytes fs l has e = purge_takes bytes fs l has e
fields_take Open bytes fs l has e = open_takes bytes fs l has e
fields_take Rec bytes fs l has e = rec_takes bytes fs l has e
fields_take Fill bytes fs l has e = fill_takes bytes fs l has e
fields_take Again bytes fs l has e = again_takes bytes fs l has e
fields_take Restart bytes fs l has e = restart_takes bytes fs l has e
fields_take Seek bytes fs l has e =
    one_takes bytes Seek fs 1 most_drives line.Seek l (λ n low high text. spelled_so Seek bytes (line.Seek n) (inl text) (low, high) tt refl) has e
fields_take Take bytes fs l has e =
    one_takes bytes Take fs 1 most_drives line.Take l (λ n low high text. spelled_so Take bytes (line.Take n) (inl text) (low, high) tt refl) has e
fields_take Place bytes fs l has e =
    one_takes bytes Place fs 1 most_drives line.Place l (λ n low high text. spelled_so Place bytes (line.Place n) (inl text) (low, high) tt refl) has e
fields_take Sync bytes fs l has e =
    one_takes bytes Sync fs 1 most_drives line.Sync l (λ n low high text. spelled_so Sync bytes (line.Sync n) (inl text) (low, high) tt refl) has e
fields_take End bytes fs l has e =
    one_takes bytes End fs 1 most_number line.End l (λ n low high text. spelled_so End bytes (line.End n) (inl text) (low, high) tt refl) has e
fields_take Spool bytes fs l has e =
    one_takes bytes Spool fs 1 most_number line.Spool l (λ n low high text. spelled_so Spool bytes (line.Spool n) (inl text) (low, high) tt refl) has e
fields_take Despool bytes fs l has e =
    one_takes bytes Despool fs 1 most_number line.Despool l (λ n low high text. spelled_so Despool bytes (line.Despool n) (inl text) (low, high) tt refl) has e
fields_take Close bytes fs l has e =
    one_takes bytes Close fs 1 most_number line.Close l (λ n low high text. spelled_so Close bytes (line.Close n) (inl text) (low, high) tt refl) has e
fields_take Read bytes fs l has e =
    one_takes bytes Read fs 1 most_number line.Read l (λ n low high text. spelled_so Read bytes (line.Read n) (inl text) (low, high) tt refl) has e
fields_take Unmount bytes fs l has e =
    one_takes bytes Unmount fs 1 most_drives (λ n. line.Console (console.Unmount n)) l (λ n low high text. spelled_so Unmount bytes (line.Console (console.Unmount n)) (inl text) (low, high) tt refl) has e
fields_take Retire bytes fs l has e =
    one_takes bytes Retire fs 1 most_drives (λ n. line.Console (console.Retire n)) l (λ n low high text. spelled_so Retire bytes (line.Console (console.Retire n)) (inl text) (low, high) tt refl) has e
fields_take Cancel bytes fs l has e =
    one_takes bytes Cancel fs 1 most_number (λ n. line.Console (console.Cancel n)) l (λ n low high text. spelled_so Cancel bytes (line.Console (console.Cancel n)) (inl text) (low, high) tt refl) has e
fields_take JobMedia bytes fs l has e =
    one_takes bytes JobMedia fs 1 most_number (λ n. line.Console (console.JobMedia n)) l (λ n low high text. spelled_so JobMedia bytes (line.Console (console.JobMedia n)) (inl text) (low, high) tt refl) has e
fields_take Drain bytes fs l has e =
    let all = all_read_takes line.Drain l fs e in
    subst (λ (x : ScriptLine). Spells Drain bytes x) all.1 (spelled_so Drain bytes line.Drain (inl (has.text ∙ ap (λ (gs : Fields). joined (command_text Drain ∷ gs)) all.0)) tt tt refl)
fields_take Status bytes fs l has e =
    let all = all_read_takes (line.Console console.Status) l fs e in
    subst (λ (x : ScriptLine). Spells Status bytes x) all.1 (spelled_so Status bytes (line.Console console.Status) (inl (has.text ∙ ap (λ (gs : Fields). joined (command_text Status ∷ gs)) all.0)) tt tt refl)
fields_take Requests bytes fs l has e =
    let all = all_read_takes (line.Console console.Requests) l fs e in
    subst (λ (x : ScriptLine). Spells Requests bytes x) all.1 (spelled_so Requests bytes (line.Console console.Requests) (inl (has.text ∙ ap (λ (gs : Fields). joined (command_text Requests ∷ gs)) all.0)) tt tt refl)

pub takes : (k : Command) (bytes : List ℕ) (fs : Fields) (l : ScriptLine) → fields_of bytes ≡ command_text k ∷ fs → shape k fs ≡ Some l → Spells k bytes l
takes k bytes fs l fields e = fields_take k bytes fs l (has_fields bytes (command_text k) fs fields) e
