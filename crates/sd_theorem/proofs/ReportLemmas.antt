-- The report of a session of which a block is found, and where it is printed.
use Rattle.std.proofs.Common.{◌≡◌, ◌≢◌, if◌then◌else◌, ◌||◌, Bool, true, false, true≢false, ℕ, Option, List, [], ◌∷◌, ◌++◌, length, map, append_assoc, refl, sym, ap, ap₂, subst, ◌∙◌}
use Rattle.std.proofs.lemmas.Bool.{or_left, or_right}
use Rattle.std.proofs.lemmas.List.Concat.{flat_map-append}
use Rattle.std.proofs.lemmas.List.Folds.{list_any-append}
use Rattle.std.specs.List.{list_any}
use Rattle.sd_base.specs.Key.{is_key}
use Rattle.sd_base.specs.Record.{Record}
use Rattle.sd_base.specs.declared.number.SessionKey.{SessionKey}
use Rattle.sd_scan.specs.Found.{Found, bodies_of}
use Rattle.sd_scan.specs.Session.{ReadsTo}
use Rattle.sd_scan.specs.Sessions.{ReportsEach, keys_behind, keys_of}
use Rattle.sd_journal.specs.Journal.{with_key}
use Rattle.sd_scan.specs.declared.report.Report.{Report}
use Rattle.sd_scan.specs.declared.report.Start.{Start}
use Rattle.sd_scan.proofs.TableLemmas.{none_placed}
use Rattle.sd_journal.proofs.KeyLemmas.{key_same, key_same_self}
use Rattle.sd_label.specs.Cutting.{AtEnd, Holds, total_bytes}
use Rattle.sd_label.proofs.CuttingLemmas.{holds_one}
use Rattle.sd_scan.specs.Lines.{found_of, found_text, line_text, report_lines, reports_lines}
use Rattle.sd_scan.specs.Scan.{Scans}
use Rattle.sd_scan.specs.declared.line.Found.{Found as FoundSession}
use Rattle.sd_scan.specs.declared.line.ScanLine.TheVariants.{Done}
use Rattle.sd_scan.specs.declared.told.Told.TheVariants as told
use Rattle.sd_scan.specs.declared.outcome.Outcome.{Outcome}
use Rattle.sd_driver.specs.Shelf.{Shelf}
use Rattle.sd_span.specs.JobMedia.{jobmedia_text}
use Rattle.sd_span.specs.Spans.{numbered_from, spans_of, stretches}
use Rattle.sd_span.specs.declared.placement.Placement.{Placement}
use Rattle.sd_span.specs.declared.span.Span.{Span}
use Rattle.sd_text.specs.Lines.{line}
use Rattle.sd_theorem.specs.Closed.{PrintsSpans, ended_with}

-- ---- keys

-- a key that is among keys is among those with one more
among_with : (key other : SessionKey) (keys : List SessionKey) → list_any (is_key key) keys ≡ true → list_any (is_key key) (with_key other keys) ≡ true
among_with key other keys there = elim (list_any (is_key other) keys) as (λ b. list_any (is_key key) (if b then keys else keys ++ other ∷ []) ≡ true) [
  | true ↦ there
  | false ↦ list_any-append (is_key key) keys (other ∷ []) ∙ or_left (list_any (is_key key) keys) (list_any (is_key key) (other ∷ [])) there
]

-- and so is that one
own_with : (key : SessionKey) (keys : List SessionKey) → list_any (is_key key) (with_key key keys) ≡ true
own_with key keys = from (list_any (is_key key) keys) refl
  where
    from : (b : Bool) → list_any (is_key key) keys ≡ b → list_any (is_key key) (if b then keys else keys ++ key ∷ []) ≡ true
    from true there = there
    from false there =
        list_any-append (is_key key) keys (key ∷ [])
        ∙ or_right (list_any (is_key key) keys) (list_any (is_key key) (key ∷ [])) (or_left (is_key key key) false (key_same_self key))

among_behind : (key : SessionKey) (keys : List SessionKey) (found : List Found) → list_any (is_key key) keys ≡ true → list_any (is_key key) (keys_behind keys found) ≡ true
among_behind key keys [] there = there
among_behind key keys (f ∷ found) there = among_behind key (with_key f.block.key keys) found (among_with key f.block.key keys there)

-- a session of which a block is found is among those of the blocks
among_found : (key : SessionKey) (keys : List SessionKey) (found : List Found) → bodies_of key found ≢ [] → list_any (is_key key) (keys_behind keys found) ≡ true
among_found key keys [] some = absurd (some refl)
among_found key keys (f ∷ found) some = from (is_key key f.block.key) refl (λ others. among_found key (with_key f.block.key keys) found others)
  where
    from : (b : Bool) → is_key key f.block.key ≡ b → (bodies_of key found ≢ [] → list_any (is_key key) (keys_behind keys (f ∷ found)) ≡ true)
        → list_any (is_key key) (keys_behind keys (f ∷ found)) ≡ true
    from true own others =
        let one : key ≡ f.block.key = key_same key f.block.key own in
        among_behind key (with_key f.block.key keys) found (subst (λ k. list_any (is_key key) (with_key k keys) ≡ true) one (own_with key keys))
    from false other others = others (λ none. some (ap (λ b. if b then f.block.body ∷ bodies_of key found else bodies_of key found) other ∙ none))

-- ---- reports

-- the session's report among reports
record Reported (key : SessionKey) (found : List Found) (ps : List Placement) (reports : List Report) : Type 0 where
  before : List Report
  report : Report
  after : List Report
  all_are : reports ≡ before ++ report ∷ after
  key_is : report.key ≡ key
  spans_are : report.spans ≡ spans_of key ps
  reads : ReadsTo (bodies_of key found) report.records report.bytes report.ended

reported : (key : SessionKey) (found : List Found) (ps : List Placement) (reports : List Report) → ReportsEach found ps reports
    → list_any (is_key key) (map (λ (r : Report). r.key) reports) ≡ true → Reported key found ps reports
reported key found ps [] each among = absurd (true≢false (sym among))
reported key found ps (r ∷ reports) each among = from (is_key key r.key) refl (λ later. reported key found ps reports each.1 later) among
  where
    others : Bool
    others = list_any (is_key key) (map (λ (x : Report). x.key) reports)

    from : (b : Bool) → is_key key r.key ≡ b → (others ≡ true → Reported key found ps reports) → (b || others) ≡ true → Reported key found ps (r ∷ reports)
    from true own rest is =
        let one : r.key ≡ key = sym (key_same key r.key own) in
        record {
          before = [];
          report = r;
          after = reports;
          all_are = refl;
          key_is = one;
          spans_are = each.0.spans_are ∙ ap (λ k. spans_of k ps) one;
          reads = subst (λ k. ReadsTo (bodies_of k found) r.records r.bytes r.ended) one each.0.reads;
        }
    from false other rest is =
        let later = rest is in
        record {
          before = r ∷ later.before;
          report = later.report;
          after = later.after;
          all_are = ap (λ (l : List Report). r ∷ l) later.all_are;
          key_is = later.key_is;
          spans_are = later.spans_are;
          reads = later.reads;
        }

-- one part of a text among others
among_parts : (front before lines text after last : List ℕ)
    → front ++ ((before ++ ((lines ++ text) ++ after)) ++ last) ≡ (front ++ before) ++ (lines ++ (text ++ (after ++ last)))
among_parts front before lines text after last =
    ap (λ (l : List ℕ). front ++ l)
    (append_assoc before ((lines ++ text) ++ after) last
    ∙ ap (λ (l : List ℕ). before ++ l) (append_assoc (lines ++ text) after last ∙ append_assoc lines text (after ++ last)))
    ∙ sym (append_assoc front before (lines ++ (text ++ (after ++ last))))

-- what a line says of a session
abbrev told_as : SessionKey → Option Start → Bool → ℕ → ℕ → FoundSession
told_as key start ended records bytes = record { key = key; start = start; ended = ended; records = records; bytes = bytes }

-- a report of bodies that hold these records with their end label
pub told_whole : (key : SessionKey) (bodies : List (List ℕ)) (records : List Record) (r : Report) → r.key ≡ key → ReadsTo bodies r.records r.bytes r.ended → Holds bodies records AtEnd
    → found_of r ≡ ended_with key r.start records
told_whole key bodies records r key_is reads holds =
    let ended : r.ended ≡ true = reads.whole records holds in
    let counts = reads.ended_is ended in
    let one : reads.taken ≡ records = (holds_one bodies reads.taken records AtEnd AtEnd counts.0 holds).0 in
    ap (λ k. told_as k r.start r.ended r.records r.bytes) key_is ∙ ap (λ b. told_as key r.start b r.records r.bytes) ended
    ∙ ap₂ (λ n bytes. told_as key r.start true n bytes) (counts.1 ∙ ap length one) (counts.2 ∙ ap total_bytes one)

-- what a scan prints of a session: its spans, and what its bodies come to
pub record Printed (key : SessionKey) (found : List Found) (spans : List Span) (due : List ℕ) : Type 0 where
  pub prints : PrintsSpans key spans due
  pub report : Report
  pub key_is : report.key ≡ key
  pub found_is : prints.found ≡ found_of report
  pub reads : ReadsTo (bodies_of key found) report.records report.bytes report.ended

-- so it does if the session's blocks are found at places that have these spans, one at least
pub printed : (shelf : Shelf) (volumes : List (List ℕ)) (due : List ℕ) (outcome : Outcome) (key : SessionKey) (spans : List Span)
    → (scans : Scans told.All shelf volumes due outcome) → spans_of key scans.reports_are.placements ≡ spans → spans ≢ [] → Printed key scans.found spans due
printed shelf volumes due outcome key spans scans same some =
    let are = scans.reports_are in
    let bodies : bodies_of key scans.found ≢ [] =
    λ none. some (sym same ∙ ap (λ (l : List Placement). numbered_from 1 (stretches l)) (none_placed scans.found are.placements key are.placements_are none)) in
    let among = ap (list_any (is_key key)) are.keys_are ∙ among_found key [] scans.found bodies in
    let own = reported key scans.found are.placements scans.reports are.each among in
    let r = own.report in
    let before = reports_lines told.All own.before in
    let after = reports_lines told.All own.after in
    let last = line (line_text (Done (length volumes) (length (keys_of scans.found)))) in
    let lines = line (found_text (found_of r)) in
    let text : jobmedia_text r.key r.spans ≡ jobmedia_text key spans = ap₂ jobmedia_text own.key_is (own.spans_are ∙ same) in
    let parted : reports_lines told.All scans.reports ≡ before ++ ((lines ++ jobmedia_text key spans) ++ after) =
    ap (reports_lines told.All) own.all_are ∙ flat_map-append (report_lines told.All) own.before (r ∷ own.after)
    ∙ ap (λ (l : List ℕ). before ++ ((lines ++ l) ++ after)) text in
    record {
      prints = record {
        found = found_of r;
        key_is = own.key_is;
        front = scans.front ++ before;
        behind = after ++ last;
        due_is = scans.due_is ∙ ap (λ (l : List ℕ). scans.front ++ (l ++ last)) parted ∙ among_parts scans.front before lines (jobmedia_text key spans) after last;
      };
      report = r;
      key_is = own.key_is;
      found_is = refl;
      reads = own.reads;
    }
