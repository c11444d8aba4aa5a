-- The words of commands: which command a word is in each part of a script, and where lines of it belong.
use Rattle.std.proofs.Common.{◌≡◌, ◌≢◌, ℕ, ◌<◌, refl, sym, ap, ◌∙◌, lit<, Bool, true, false, cond, List, length, Option, Some, None, rules}
use Rattle.std.specs.Prelude.{codes, ◌&&◌, not, if◌then◌else◌, IfSome}
use Rattle.std.specs.List.{AllByRecursion}
use Rattle.std.specs.Str.{bytes_eq}
use Rattle.std.proofs.lemmas.List.Elements.{All-from_recursion}
use Rattle.sd_script.specs.declared.command.Command.{Command}
use Rattle.sd_script.specs.declared.command.Command.TheVariants.{Block, Volume, SpoolLimit, Queue, Time, Host, Drive, Capacity, Fail, At, Label, Adopt, Mount, Unmount, Seek, Retire, Purge, Open, Rec, Fill, End, Cancel, Spool, Despool, Take, Place, Sync, Close, JobMedia, Read, Again, Drain, Status, Requests, Restart}
use Rattle.sd_script.specs.declared.line.Part.{Part}
use Rattle.sd_script.specs.declared.line.Part.TheVariants.{Head, Body}
use Rattle.sd_script.specs.declared.line.ScriptLine.{ScriptLine}
use Rattle.sd_script.specs.declared.line.ScriptLine.TheVariants as line
use Rattle.sd_script.specs.Command.{command_text, is_console, is_head, is_setting, is_spool, stands}
use Rattle.sd_script.specs.Grammar.{StandsIn}
use Rattle.sd_text.specs.Fields.{HasNoBlank}

-- the setting of a word, found by trying each, or another command
abbrev setting_at : List ℕ → Option Command → Option Command
setting_at word other =
    cond (bytes_eq word (command_text Block)) (Some Block) (
    cond (bytes_eq word (command_text Volume)) (Some Volume) (
    cond (bytes_eq word (command_text SpoolLimit)) (Some SpoolLimit) (
    cond (bytes_eq word (command_text Queue)) (Some Queue) (
    cond (bytes_eq word (command_text Time)) (Some Time) (
    cond (bytes_eq word (command_text Host)) (Some Host) (
    cond (bytes_eq word (command_text Drive)) (Some Drive) (
    cond (bytes_eq word (command_text Capacity)) (Some Capacity) (
    cond (bytes_eq word (command_text Fail)) (Some Fail) other))))))))

-- the command of a word that is no setting
abbrev other_at : List ℕ → Option Command
other_at word =
    cond (bytes_eq word (command_text At)) (Some At) (
    cond (bytes_eq word (command_text Label)) (Some Label) (
    cond (bytes_eq word (command_text Adopt)) (Some Adopt) (
    cond (bytes_eq word (command_text Mount)) (Some Mount) (
    cond (bytes_eq word (command_text Unmount)) (Some Unmount) (
    cond (bytes_eq word (command_text Seek)) (Some Seek) (
    cond (bytes_eq word (command_text Retire)) (Some Retire) (
    cond (bytes_eq word (command_text Purge)) (Some Purge) (
    cond (bytes_eq word (command_text Open)) (Some Open) (
    cond (bytes_eq word (command_text Rec)) (Some Rec) (
    cond (bytes_eq word (command_text Fill)) (Some Fill) (
    cond (bytes_eq word (command_text End)) (Some End) (
    cond (bytes_eq word (command_text Cancel)) (Some Cancel) (
    cond (bytes_eq word (command_text Spool)) (Some Spool) (
    cond (bytes_eq word (command_text Despool)) (Some Despool) (
    cond (bytes_eq word (command_text Take)) (Some Take) (
    cond (bytes_eq word (command_text Place)) (Some Place) (
    cond (bytes_eq word (command_text Sync)) (Some Sync) (
    cond (bytes_eq word (command_text Close)) (Some Close) (
    cond (bytes_eq word (command_text JobMedia)) (Some JobMedia) (
    cond (bytes_eq word (command_text Read)) (Some Read) (
    cond (bytes_eq word (command_text Again)) (Some Again) (
    cond (bytes_eq word (command_text Drain)) (Some Drain) (
    cond (bytes_eq word (command_text Status)) (Some Status) (
    cond (bytes_eq word (command_text Requests)) (Some Requests) (
    cond (bytes_eq word (command_text Restart)) (Some Restart) None)))))))))))))))))))))))))

-- the command of a word in that part of a script
abbrev command_at : Part → List ℕ → Option Command
command_at Head word = setting_at word (other_at word)
command_at Body word = other_at word

command_found : (part : Part) (k : Command) → stands part k ≡ true → command_at part (command_text k) ≡ Some k
command_found Head Spool e = absurd (cc e)
command_found Head k e = refl
command_found Body Block e = absurd (cc e)
command_found Body Volume e = absurd (cc e)
command_found Body SpoolLimit e = absurd (cc e)
command_found Body Queue e = absurd (cc e)
command_found Body Time e = absurd (cc e)
command_found Body Host e = absurd (cc e)
command_found Body Drive e = absurd (cc e)
command_found Body Capacity e = absurd (cc e)
command_found Body Fail e = absurd (cc e)
command_found Body k e = refl

-- no two commands of one part are written alike
pub command_one : (part : Part) (k j : Command) → stands part k ≡ true → stands part j ≡ true → command_text k ≡ command_text j → k ≡ j
command_one part k j k_stands j_stands e =
    let both = sym (command_found part k k_stands) ∙ ap (command_at part) e ∙ command_found part j j_stands in cc

-- a command that is not `spool` belongs at the head
head_other : (k : Command) → command_text k ≢ codes "spool" → stands Head k ≡ true
head_other Spool e = absurd (e refl)
head_other k e = refl

-- what a word is found to be
abbrev IsFound : List ℕ → (Command → Bool) → Bool → Option Command → Type 0
IsFound word test is r = IfSome r (λ k. (word ≡ command_text k) × (test k ≡ is))

pub head_of_other : (word : List ℕ) (r : Option Command) → ((k : Command) → word ≡ command_text k → is_setting k ≡ true → ⊥)
    → IsFound word is_setting false r → IsFound word (stands Head) true r
head_of_other word None none found = tt
head_of_other word (Some k) none found = (found.0, head_other k (λ e. none SpoolLimit (found.0 ∙ e) refl))

-- no command holds a blank, and none is written by no characters
plain_command : (k : Command) → AllByRecursion (λ c. c ≢ 32) (command_text k)
plain_command Block = search rules
plain_command Volume = search rules
plain_command SpoolLimit = search rules
plain_command Queue = search rules
plain_command Time = search rules
plain_command Host = search rules
plain_command Drive = search rules
plain_command Capacity = search rules
plain_command Fail = search rules
plain_command At = search rules
plain_command Label = search rules
plain_command Adopt = search rules
plain_command Mount = search rules
plain_command Unmount = search rules
plain_command Seek = search rules
plain_command Retire = search rules
plain_command Purge = search rules
plain_command Open = search rules
plain_command Rec = search rules
plain_command Fill = search rules
plain_command End = search rules
plain_command Cancel = search rules
plain_command Spool = search rules
plain_command Despool = search rules
plain_command Take = search rules
plain_command Place = search rules
plain_command Sync = search rules
plain_command Close = search rules
plain_command JobMedia = search rules
plain_command Read = search rules
plain_command Again = search rules
plain_command Drain = search rules
plain_command Status = search rules
plain_command Requests = search rules
plain_command Restart = search rules

pub command-plain : (k : Command) → HasNoBlank (command_text k)
command-plain k = All-from_recursion (λ c. c ≢ 32) (command_text k) (plain_command k)

pub command-some : (k : Command) → 0 < length (command_text k)
command-some Block = lit< tt
command-some Volume = lit< tt
command-some SpoolLimit = lit< tt
command-some Queue = lit< tt
command-some Time = lit< tt
command-some Host = lit< tt
command-some Drive = lit< tt
command-some Capacity = lit< tt
command-some Fail = lit< tt
command-some At = lit< tt
command-some Label = lit< tt
command-some Adopt = lit< tt
command-some Mount = lit< tt
command-some Unmount = lit< tt
command-some Seek = lit< tt
command-some Retire = lit< tt
command-some Purge = lit< tt
command-some Open = lit< tt
command-some Rec = lit< tt
command-some Fill = lit< tt
command-some End = lit< tt
command-some Cancel = lit< tt
command-some Spool = lit< tt
command-some Despool = lit< tt
command-some Take = lit< tt
command-some Place = lit< tt
command-some Sync = lit< tt
command-some Close = lit< tt
command-some JobMedia = lit< tt
command-some Read = lit< tt
command-some Again = lit< tt
command-some Drain = lit< tt
command-some Status = lit< tt
command-some Requests = lit< tt
command-some Restart = lit< tt

-- a console has the line too
abbrev pub is_console_line : ScriptLine → Bool
is_console_line (line.Console command) = true
is_console_line l = false

-- the line is a setting
abbrev pub is_setting_line : ScriptLine → Bool
is_setting_line (line.Set s) = true
is_setting_line l = false

-- the line is the step of a session that has the word of a setting
abbrev pub is_spool_line : ScriptLine → Bool
is_spool_line (line.Spool ticket) = true
is_spool_line l = false

-- what of a command its lines have too: whether a console has them, and what tells where they belong
abbrev pub kinds : Command → Bool × Bool × Bool
kinds k = (is_console k, is_setting k, is_spool k)

abbrev pub line_kinds : ScriptLine → Bool × Bool × Bool
line_kinds l = (is_console_line l, is_setting_line l, is_spool_line l)

abbrev line_stands : Part → ScriptLine → Bool
line_stands part l = if is_setting_line l then is_head part else not (is_spool_line l && is_head part)

same_stands : (part : Part) (k : Command) (l : ScriptLine) → kinds k ≡ line_kinds l → stands part k ≡ line_stands part l
same_stands part k l is = ap (λ (t : Bool × Bool × Bool). if t.1 then is_head part else not (t.2 && is_head part)) is

stands-true : (part : Part) (l : ScriptLine) → StandsIn part l → line_stands part l ≡ true
stands-true Head (line.Spool ticket) there = absurd there
stands-true Head l there = refl
stands-true Body (line.Set s) there = absurd there
stands-true Body l there = refl

true-stands : (part : Part) (l : ScriptLine) → line_stands part l ≡ true → StandsIn part l
true-stands Head (line.Spool ticket) e = absurd (cc e)
true-stands Head l e = tt
true-stands Body (line.Set s) e = absurd (cc e)
true-stands Body l e = tt

-- a command belongs where its line does
pub command_stands : (part : Part) (k : Command) (l : ScriptLine) → kinds k ≡ line_kinds l → StandsIn part l → stands part k ≡ true
command_stands part k l is there = same_stands part k l is ∙ stands-true part l there

pub line_stands_there : (part : Part) (k : Command) (l : ScriptLine) → kinds k ≡ line_kinds l → stands part k ≡ true → StandsIn part l
line_stands_there part k l is there = true-stands part l (sym (same_stands part k l is) ∙ there)
