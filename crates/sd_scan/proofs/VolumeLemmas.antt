-- What is found on a volume, and what is printed of it.
use Rattle.std.proofs.Common.{◌≡◌, inl, inr, ℕ, zero, suc, ◌+◌, ◌-◌, ◌<◌, ◌≤◌, Bool, true, false, List, [], ◌∷◌, ◌++◌, length, map, take, drop, refl, sym, ap, ap₂, subst, ◌∙◌, arith, add-one}
use Rattle.std.specs.Prelude.{max, ◌&&◌, Some, slice_get}
use Rattle.std.proofs.lemmas.List.{append_assoc, append-nil, drop-drop, drop-take, length-append, length-drop, length-take, map-append, take-take, take_all}
use Rattle.std.proofs.lemmas.Grind.{flat_map-append}
use Rattle.std.proofs.lemmas.Bool.{cases_lt}
use Rattle.sd_base.specs.Limits.{most_block}
use Rattle.sd_base.specs.declared.number.SessionKey.{SessionKey}
use Rattle.sd_block.specs.Head.{IsHeadOf}
use Rattle.sd_block.specs.declared.head.Head.{Head}
use Rattle.sd_block.proofs.ImageLemmas.{IsHeadOf-image, length-block_image}
use Rattle.sd_block.specs.Image.{block_image}
use Rattle.sd_driver.specs.Shelf.{Shelf}
use Rattle.sd_scan.specs.Found.{Found as FoundBlock}
use Rattle.sd_scan.specs.Sessions.{AreReports, Keeps, KeepsBy, Reports, ReportsEach, keys_in, sessions_in}
use Rattle.sd_scan.specs.declared.report.Report.{Report}
use Rattle.sd_scan.specs.declared.sessions.Sessions.{Sessions}
use Rattle.sd_text.proofs.SaysLemmas.{says_none, says_then}
use Rattle.sd_text.specs.Says.{SaidView, Says}
use Rattle.sd_span.specs.JobMedia.{jobmedia_text}
use Rattle.sd_span.specs.declared.placement.Placement.{Placement}
use Rattle.sd_text.specs.Lines.{line}
use Rattle.sd_volume.specs.Adopt.{BlockStandsAt}
use Rattle.sd_volume.specs.Image.{BeginsWithBlock, Block, images}
use Rattle.sd_scan.specs.Lines.{broken_lines, cut_lines, found_of, found_text, of_report, of_reports, of_volumes, report_lines, reports_lines, told_text, whole_lines, worse}
use Rattle.sd_scan.specs.declared.line.Found.{Found}
use Rattle.sd_scan.specs.Run.{IsFirstWhole, NoneAt, NoneBetween, RunTo, found_from}
use Rattle.sd_scan.specs.Scan.{Looks, Scans, ScansVolumes}
use Rattle.sd_scan.specs.declared.outcome.Outcome.{Outcome}
use Rattle.sd_scan.specs.declared.outcome.Outcome.TheVariants.{Sound, Unended, Damaged}
use Rattle.sd_scan.specs.declared.told.Told.{Told}
use Rattle.sd_scan.specs.Volume.{Region, ScansVolume, TellsBehind, TellsRun, damage_line}
use Rattle.sd_scan.specs.Kind.{IsKind}
use Rattle.sd_scan.specs.declared.kind.Kind.{Kind}
use Rattle.sd_scan.specs.declared.line.ScanLine.TheVariants.{Behind, Broken, Done, Session}

-- The first whole block after a place.

-- no place
pub between_start : (bytes : List ℕ) (from : ℕ) → NoneBetween bytes from from
between_start bytes from at behind before = absurd (omega arith)

-- the header at a place that is told otherwise
pub head_moved : (bytes : List ℕ) (at place : ℕ) (head : Head) → place ≡ at → IsHeadOf most_block (drop place bytes) head
    → IsHeadOf most_block (take (length bytes - at) (drop at bytes)) head
head_moved bytes at place head same is =
    subst (λ (l : List ℕ). IsHeadOf most_block l head) (sym (take_all (length bytes - at) (drop at bytes) (omega (arith, length-drop at bytes))))
    (subst (λ n. IsHeadOf most_block (drop n bytes) head) same is)

-- fewer places
pub between_less : (bytes : List ℕ) (from to less : ℕ) → less ≤ to → NoneBetween bytes from to → NoneBetween bytes from less
between_less bytes from to less fewer none at behind before = none at behind (omega arith)

-- one place more
pub between_more : (bytes : List ℕ) (from to : ℕ) → NoneBetween bytes from to → NoneAt bytes to → NoneBetween bytes from (to + 1)
between_more bytes from to none here at behind before = elim (cases_lt at to) [
  | inl below ↦ none at behind below
  | inr past ↦ (let same : at ≡ to = omega arith in subst (NoneAt bytes) (sym same) here)
]

-- the places that were looked at, and at none of which there is the header of a block
pub between_headless : (bytes shown : List ℕ) (from at count : ℕ) → shown ≡ take most_block (drop at bytes)
    → ((k : ℕ) → k < count → (k + 24 ≤ length shown) × ((head : Head) → ¬ IsHeadOf most_block (drop k shown) head))
    → NoneBetween bytes from at → NoneBetween bytes from (at + count)
between_headless bytes shown from at count shown_is none before place behind within = elim (cases_lt place at) [
  | inl below ↦ before place behind below
  | inr past ↦ headless (place - at) (omega arith) (omega arith)
]
  where
    headless : (k : ℕ) → at + k ≡ place → k < count → NoneAt bytes place
    headless k k_is below key number body begins =
        let looked = none k below in
        let image = take (24 + length body) (drop place bytes) in
        let shown_long = ap length shown_is ∙ length-take most_block (drop at bytes) in
        let enough : k + 24 ≤ most_block = omega (arith, looked.0, shown_long) in
        let split : most_block ≡ k + (most_block - k) = omega (arith, enough) in
        let rest : drop k shown ≡ take (most_block - k) (drop place bytes) =
        ap (drop k) (shown_is ∙ ap (λ n. take n (drop at bytes)) split) ∙ drop-take k (most_block - k) (drop at bytes)
        ∙ ap (take (most_block - k)) (drop-drop k at bytes ∙ ap (λ n. drop n bytes) k_is) in
        let front : take 24 (drop k shown) ≡ take 24 image =
        ap (take 24) rest ∙ take-take 24 (most_block - k) (drop place bytes) (omega (arith, enough)) ∙ sym (take-take 24 (24 + length body) (drop place bytes) (omega arith)) in
        looked.1 _ (IsHeadOf-image most_block image (drop k shown) key number body begins front)

-- the first whole block
pub first_whole : (bytes : List ℕ) (from at : ℕ) (head : Head) → from ≤ at → BlockStandsAt at head.number bytes head → NoneBetween bytes from at → IsFirstWhole bytes from at head.number
first_whole bytes from at head behind stands none = record { behind = behind; key = head.key; body = stands.0; there = stands.1; none_before = none }

-- What is printed of sessions.

some_is : {X : Type 0} {a b : X} → Some a ≡ Some b → a ≡ b
some_is e = cc

-- what is told of the first of them
pub record PrintsFirst (told : Told) (found : List FoundBlock) (placements : List Placement) (keys : List SessionKey) (count : ℕ) (due : List ℕ) (outcome : Outcome) : Type 0 where
  pub reports : List Report
  pub keys_are : map (λ r. r.key) reports ≡ take count keys
  pub each : ReportsEach found placements reports
  pub due_is : due ≡ reports_lines told reports
  pub outcome_is : outcome ≡ of_reports reports

pub prints_none : (told : Told) (found : List FoundBlock) (placements : List Placement) (keys : List SessionKey) → PrintsFirst told found placements keys 0 [] Sound
prints_none told found placements keys = record { reports = []; keys_are = refl; each = tt; due_is = refl; outcome_is = refl }

each_more : (found : List FoundBlock) (placements : List Placement) (reports : List Report) (r : Report) → ReportsEach found placements reports → Reports found placements r
    → ReportsEach found placements (reports ++ r ∷ [])
each_more found placements [] r each one = (one, tt)
each_more found placements (s ∷ reports) r each one = (each.0, each_more found placements reports r each.1 one)

take_suc : {X : Type 0} (xs : List X) (count : ℕ) (x : X) → slice_get xs count ≡ Some x → take (suc count) xs ≡ take count xs ++ x ∷ []
take_suc [] count x e = absurd cc
take_suc (y ∷ xs) zero x e = ap (λ z. z ∷ []) (some_is e)
take_suc (y ∷ xs) (suc count) x e = ap (λ (l : List _). y ∷ l) (take_suc xs count x e)

pub take_one : {X : Type 0} (xs : List X) (count : ℕ) (x : X) → slice_get xs count ≡ Some x → take (count + 1) xs ≡ take count xs ++ x ∷ []
take_one xs count x e = ap (λ n. take n xs) (add-one count) ∙ take_suc xs count x e

-- a line that names a volume by a copy of its name
pub says_named : (a b : SaidView) (text : List ℕ → List ℕ) (copy name : List ℕ) → copy ≡ name → Says a b (line (text copy)) → Says a b (line (text name))
says_named a b text copy name same says = subst (λ (l : List ℕ). Says a b (line (text l))) same says

and_true : (b : Bool) → (b && true) ≡ b
and_true true = refl
and_true false = refl

worse_assoc : (a b c : Outcome) → worse (worse a b) c ≡ worse a (worse b c)
worse_assoc Damaged b c = refl
worse_assoc Unended Damaged c = refl
worse_assoc Unended Unended Damaged = refl
worse_assoc Unended Unended Unended = refl
worse_assoc Unended Unended Sound = refl
worse_assoc Unended Sound c = refl
worse_assoc Sound b c = refl

worse_sound : (a : Outcome) → worse a Sound ≡ a
worse_sound Damaged = refl
worse_sound Unended = refl
worse_sound Sound = refl

of_reports-more : (rs : List Report) (r : Report) → of_reports (rs ++ r ∷ []) ≡ worse (of_reports rs) (of_report r)
of_reports-more [] r = worse_sound (of_report r)
of_reports-more (s ∷ rs) r = ap (worse (of_report s)) (of_reports-more rs r) ∙ sym (worse_assoc (of_report s) (of_reports rs) (of_report r))

-- one more
pub prints_more : (told : Told) (found : List FoundBlock) (placements : List Placement) (keys : List SessionKey) (count : ℕ) (due : List ℕ) (outcome this both : Outcome) (r : Report) (lines : List ℕ)
    → PrintsFirst told found placements keys count due outcome → slice_get keys count ≡ Some r.key → Reports found placements r → lines ≡ report_lines told r → this ≡ of_report r → both ≡ worse outcome this
    → PrintsFirst told found placements keys (count + 1) (due ++ lines) both
prints_more told found placements keys count due outcome this both r lines first key one lines_are this_is both_is = record {
  reports = first.reports ++ r ∷ [];
  keys_are = map-append (λ (x : Report). x.key) first.reports (r ∷ []) ∙ ap (λ (l : List SessionKey). l ++ r.key ∷ []) first.keys_are ∙ sym (take_one keys count r.key key);
  each = each_more found placements first.reports r first.each one;
  due_is = ap₂ (λ (x y : List ℕ). x ++ y) first.due_is (lines_are ∙ sym (append-nil (report_lines told r))) ∙ sym (flat_map-append (report_lines told) first.reports (r ∷ []));
  outcome_is = both_is ∙ ap₂ worse first.outcome_is this_is ∙ sym (of_reports-more first.reports r);
}

-- all of them
pub prints_all : (told : Told) (found : List FoundBlock) (placements : List Placement) (s : Sessions) (count : ℕ) (due : List ℕ) (outcome : Outcome) → KeepsBy found placements (sessions_in s)
    → length (keys_in s) ≤ count → PrintsFirst told found placements (keys_in s) count due outcome
    → (reports : List Report) × AreReports found reports × (due ≡ reports_lines told reports) × (outcome ≡ of_reports reports)
prints_all told found placements s count due outcome keeps many first = (
  first.reports,
  record {
    placements = placements;
    placements_are = keeps.placements_are;
    keys_are = first.keys_are ∙ take_all count (keys_in s) many ∙ keeps.keys_are;
    each = first.each;
  },
  first.due_is,
  first.outcome_is,
)

-- of one session
pub prints_whole : (a b c : SaidView) (r : Report) (f : Found) (text : List ℕ) → f ≡ found_of r → text ≡ jobmedia_text r.key r.spans → Says a b (line (found_text f)) → Says b c text
    → Says a c (whole_lines r)
prints_whole a b c r f text f_is text_is first then =
    says_then a b c (line (found_text (found_of r))) (jobmedia_text r.key r.spans) (subst (λ x. Says a b (line (found_text x))) f_is first) (subst (Says b c) text_is then)

pub prints_ended : (told : Told) (a : SaidView) (r : Report) → r.ended ≡ true → Says a a (cut_lines told r.ended (found_of r))
prints_ended told a r is = subst (λ e. Says a a (cut_lines told e (found_of r))) (sym is) (says_none a)

pub prints_cut : (told : Told) (a b : SaidView) (r : Report) (f : Found) → r.ended ≡ false → f ≡ found_of r → Says a b (line (told_text told (Session f))) → Says a b (cut_lines told r.ended (found_of r))
prints_cut told a b r f is f_is says =
    subst (λ e. Says a b (cut_lines told e (found_of r))) (sym is) (subst (λ x. Says a b (line (told_text told (Session x)))) f_is says)

pub prints_unbroken : (told : Told) (a : SaidView) (r : Report) → r.broken ≡ false → Says a a (broken_lines told r.broken r.key)
prints_unbroken told a r is = subst (λ e. Says a a (broken_lines told e r.key)) (sym is) (says_none a)

pub prints_broken : (told : Told) (a b : SaidView) (r : Report) → r.broken ≡ true → Says a b (line (told_text told (Broken r.key))) → Says a b (broken_lines told r.broken r.key)
prints_broken told a b r is says = subst (λ e. Says a b (broken_lines told e r.key)) (sym is) says

-- What comes after damage.

-- a run that begins with a block ends after its place
run_goes_on : (bytes : List ℕ) (at number end : ℕ) (blocks : List Block) (key : SessionKey) (body : List ℕ) → RunTo bytes at number blocks end
    → BeginsWithBlock (drop at bytes) key number body → at < end
run_goes_on bytes at number end [] key body (next, stand, ended) begins =
    let place : at ≡ end = omega (arith, stand.end_is) in
    let due : number ≡ next = omega (arith, stand.next_is) in
    absurd (ended key body (subst (λ n. BeginsWithBlock (drop end bytes) key n body) due (subst (λ n. BeginsWithBlock (drop n bytes) key number body) place begins)))
run_goes_on bytes at number end (b ∷ bs) key body (next, stand, ended) begins =
    omega (arith, stand.end_is, length-append (block_image b.key number b.body) (images (number + 1) bs), length-block_image b.key number b.body)

-- what is printed of a run
pub tells_run : (told : Told) (name bytes : List ℕ) (at number end result : ℕ) (more : List FoundBlock) (blocks : List Block) (reports : List Report) (lines : List ℕ) (key : SessionKey) (body : List ℕ)
    → more ≡ found_from name at blocks → RunTo bytes at number blocks end → AreReports more reports → lines ≡ reports_lines told reports → result ≡ max end (at + 1)
    → BeginsWithBlock (drop at bytes) key number body
    → TellsRun told name bytes at number result (line (told_text told (Behind name at)) ++ lines)
tells_run told name bytes at number end result more blocks reports lines key body more_is run are lines_are result_is begins =
    let goes = run_goes_on bytes at number end blocks key body run begins in
    let same : end ≡ result = omega (arith, goes) in
    record {
      blocks = blocks;
      run = subst (RunTo bytes at number blocks) same run;
      reports = reports;
      reports_are = subst (λ (l : List FoundBlock). AreReports l reports) more_is are;
      due_is = ap (λ (l : List ℕ). line (told_text told (Behind name at)) ++ l) lines_are;
    }

-- what was printed from one place on goes on with what is printed from another on
abbrev pub GoesOn : Told → List ℕ → List ℕ → ℕ → ℕ → List ℕ → Type 0
GoesOn told name bytes end from due =
    (rs : List Region) (rest : List ℕ) → TellsBehind told name bytes from rs rest → (all : List Region) × TellsBehind told name bytes end all (due ++ rest)

pub goes_none : (told : Told) (name bytes : List ℕ) (end : ℕ) → GoesOn told name bytes end end []
goes_none told name bytes end rs rest tells = (rs, tells)

pub goes_more : (told : Told) (name bytes : List ℕ) (end from next : ℕ) (due lines : List ℕ) (kind : Kind) (at number : ℕ) → GoesOn told name bytes end from due → from < length bytes
    → IsKind (drop from bytes) kind → IsFirstWhole bytes from at number → TellsRun told name bytes at number next lines
    → GoesOn told name bytes end next (due ++ (damage_line told name from kind ++ lines))
goes_more told name bytes end from next due lines kind at number goes within kind_is first tells rs rest then =
    let r : Region = record { kind = kind; at = at; number = number; end = next; due = lines } in
    let here = goes (r ∷ rs) (damage_line told name from kind ++ (lines ++ rest)) (record { within = within; kind_is = kind_is; first = first; tells = tells }, (rest, then, refl)) in
    (here.0, subst (TellsBehind told name bytes end here.0) (regrouped due (damage_line told name from kind) lines rest) here.1)
  where
    regrouped : (a b c d : List ℕ) → a ++ (b ++ (c ++ d)) ≡ (a ++ (b ++ c)) ++ d
    regrouped a b c d = ap (λ (l : List ℕ). a ++ l) (sym (append_assoc b c d)) ∙ sym (append_assoc a (b ++ c) d)

-- damage after which there is no whole block
pub goes_damaged : (told : Told) (name bytes : List ℕ) (end from : ℕ) (due : List ℕ) (kind : Kind) → GoesOn told name bytes end from due → from < length bytes
    → IsKind (drop from bytes) kind → NoneBetween bytes from (length bytes)
    → (all : List Region) × TellsBehind told name bytes end all (due ++ damage_line told name from kind)
goes_damaged told name bytes end from due kind goes within kind_is none = goes [] (damage_line told name from kind) (inr (within, (kind, kind_is, none, refl)))

-- the volume's end
pub goes_ended : (told : Told) (name bytes : List ℕ) (end from : ℕ) (due : List ℕ) → GoesOn told name bytes end from due → length bytes ≤ from
    → (all : List Region) × TellsBehind told name bytes end all due
goes_ended told name bytes end from due goes past =
    let here = goes [] [] (inl (past, refl)) in
    (here.0, subst (TellsBehind told name bytes end here.0) (append-nil due) here.1)

-- Volumes, one after another.

-- what was told of a volume is told of it if it is unchanged
pub scan_same : (told : Told) (old now : Shelf) (name : List ℕ) (found : List FoundBlock) (due : List ℕ) (whole : Bool) → now.volume name ≡ old.volume name → ScansVolume told now name found due whole
    → ScansVolume told old name found due whole
scan_same told old now name found due whole same scans = record {
  held = scans.held;
  there = sym same ∙ scans.there;
  end = scans.end;
  finds = scans.finds;
  regions = scans.regions;
  behind = scans.behind;
  tells = scans.tells;
  due_is = scans.due_is;
  undamaged_is = scans.undamaged_is;
}

and_assoc : (a b c : Bool) → ((a && b) && c) ≡ (a && (b && c))
and_assoc true b c = refl
and_assoc false b c = refl

-- one more
pub volumes_more : (told : Told) (shelf : Shelf) (names : List (List ℕ)) (name : List ℕ) (found here : List FoundBlock) (due first : List ℕ) (undamaged whole both : Bool)
    → ScansVolumes told shelf names found due undamaged → ScansVolume told shelf name here first whole → both ≡ (undamaged && whole)
    → ScansVolumes told shelf (names ++ name ∷ []) (found ++ here) (due ++ first) both
volumes_more told shelf [] name found here due first undamaged whole both so_far scan both_is = (
  here,
  [],
  first,
  [],
  whole,
  true,
  scan,
  (refl, refl, refl),
  ap (λ (l : List FoundBlock). l ++ here) so_far.0 ∙ sym (append-nil here),
  ap (λ (l : List ℕ). l ++ first) so_far.1 ∙ sym (append-nil first),
  both_is ∙ ap (λ b. b && whole) so_far.2 ∙ sym (and_true whole),
)
volumes_more told shelf (n ∷ names) name found here due first undamaged whole both (here', rest, first', behind, whole', others, v, vs, found_is, due_is, is) scan both_is = (
  here',
  rest ++ here,
  first',
  behind ++ first,
  whole',
  others && whole,
  v,
  volumes_more told shelf names name rest here behind first others whole (others && whole) vs scan refl,
  ap (λ (l : List FoundBlock). l ++ here) found_is ∙ append_assoc here' rest here,
  ap (λ (l : List ℕ). l ++ first) due_is ∙ append_assoc first' behind first,
  both_is ∙ ap (λ b. b && whole) is ∙ and_assoc whole' others whole,
)

pub keeps_join : (found more others : List FoundBlock) (s : Sessions) → Keeps ((found ++ more) ++ others) s → Keeps (found ++ (more ++ others)) s
keeps_join found more others s keeps = subst (λ (l : List FoundBlock). Keeps l s) (append_assoc found more others) keeps

-- a whole scan
pub looks_all : (told : Told) (shelf : Shelf) (names : List (List ℕ)) (front lines : List ℕ) (found : List FoundBlock) (undamaged : Bool) (volumes_to printed : Outcome) (reports : List Report) (s : Sessions) (outcome : Outcome)
    → ScansVolumes told shelf names found front undamaged → Keeps found s → AreReports found reports → lines ≡ reports_lines told reports → printed ≡ of_reports reports
    → volumes_to ≡ of_volumes undamaged → outcome ≡ worse volumes_to printed → Looks told shelf names (front ++ lines) outcome s
looks_all told shelf names front lines found undamaged volumes_to printed reports s outcome volumes keeps are lines_are printed_is volumes_is outcome_is = record {
  found = found;
  front = front;
  undamaged = undamaged;
  volumes = volumes;
  keeps = keeps;
  reports = reports;
  reports_are = are;
  due_is = ap (λ (l : List ℕ). front ++ l) lines_are;
  outcome_is = outcome_is ∙ ap₂ worse volumes_is printed_is;
}

-- with the last line
pub scans_all : (told : Told) (shelf : Shelf) (names : List (List ℕ)) (due : List ℕ) (outcome : Outcome) (s : Sessions) → Looks told shelf names due outcome s
    → Scans told shelf names (due ++ line (told_text told (Done (length names) (length (keys_in s))))) outcome
scans_all told shelf names due outcome s looks =
    let last = line (told_text told (Done (length names) (length (keys_in s)))) in record {
      found = looks.found;
      front = looks.front;
      undamaged = looks.undamaged;
      volumes = looks.volumes;
      reports = looks.reports;
      reports_are = looks.reports_are;
      due_is = ap (λ (l : List ℕ). l ++ last) looks.due_is ∙ append_assoc looks.front (reports_lines told looks.reports) last
          ∙ ap (λ n. looks.front ++ (reports_lines told looks.reports ++ line (told_text told (Done (length names) n)))) (ap length looks.keeps.1.keys_are);
      outcome_is = looks.outcome_is;
    }
