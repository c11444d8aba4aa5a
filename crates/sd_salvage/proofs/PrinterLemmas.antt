-- What is printed, with one event more; and of a session of which nothing is lost.
use Rattle.std.proofs.Common.{◌≡◌, ◌+◌, ◌<◌, ◌^◌, Bool, true, false, ℕ, refl, sym, ap, ap₂, subst, ◌∙◌, arith, List, [], ◌∷◌, ◌++◌, length}
use Rattle.std.specs.Prelude.{Err, IfOk, None, Ok, Result, Some}
use Rattle.std.proofs.lemmas.List.{append_assoc, append-nil, length-append}
use Rattle.std.proofs.lemmas.List.Sums.{sum_by-append, sum_by-cons}
use Rattle.sd_base.specs.Record.{Record}
use Rattle.sd_collect.specs.Whole.{Place}
use Rattle.sd_files.specs.End.{end_text}
use Rattle.sd_files.specs.Lines.{record_lines, records_lines}
use Rattle.sd_label.specs.Cutting.{total_bytes}
use Rattle.sd_readback.specs.declared.fault.ReadFault.{ReadFault}
use Rattle.sd_text.proofs.SaysLemmas.{says_then}
use Rattle.sd_text.specs.Lines.{line}
use Rattle.sd_text.specs.Says.{SaidView, Says}
use Rattle.sd_salvage.specs.Lines.{AreCountable, counted_lines, end_lines, event_lines, last_after, line_text, lost_after, missing_lines, places_in, records_in}
use Rattle.sd_salvage.specs.Printer.{CountsThem, Keeps}
use Rattle.sd_salvage.specs.declared.printer.Counts.{Counts}
use Rattle.sd_salvage.specs.declared.session.SalvageEnd.{SalvageEnd}
use Rattle.sd_salvage.specs.declared.event.Event.{Event}
use Rattle.sd_salvage.specs.declared.event.Event.TheVariants as events
use Rattle.sd_salvage.specs.declared.line.SalvageLine.TheVariants.{Gap}

-- what is printed of one event
abbrev one_lines : Bool → ℕ → Event → List ℕ
one_lines lost last (events.Record r) = missing_lines lost last (Some r.index) ++ record_lines r
one_lines lost last (events.Lost volume at) = line (line_text (Gap volume at))

lines_more : (lost : Bool) (last : ℕ) (es : List Event) (e : Event) → event_lines lost last (es ++ e ∷ []) ≡ event_lines lost last es ++ one_lines (lost_after lost es) (last_after last es) e
lines_more lost last [] (events.Record r) = ap (λ (l : List ℕ). missing_lines lost last (Some r.index) ++ l) (append-nil (record_lines r))
lines_more lost last [] (events.Lost volume at) = append-nil (line (line_text (Gap volume at)))
lines_more lost last (events.Record r ∷ es) e =
    ap (λ (l : List ℕ). missing_lines lost last (Some r.index) ++ (record_lines r ++ l)) (lines_more false r.index es e)
    ∙ regrouped (missing_lines lost last (Some r.index)) (record_lines r) (event_lines false r.index es) (one_lines (lost_after false es) (last_after r.index es) e)
  where
    regrouped : (a b c d : List ℕ) → a ++ (b ++ (c ++ d)) ≡ (a ++ (b ++ c)) ++ d
    regrouped a b c d = ap (λ (l : List ℕ). a ++ l) (sym (append_assoc b c d)) ∙ sym (append_assoc a (b ++ c) d)
lines_more lost last (events.Lost volume at ∷ es) e =
    ap (λ (l : List ℕ). line (line_text (Gap volume at)) ++ l) (lines_more true last es e)
    ∙ sym (append_assoc (line (line_text (Gap volume at))) (event_lines true last es) (one_lines (lost_after true es) (last_after last es) e))

lost_more : (lost : Bool) (es : List Event) (e : Event) → lost_after lost (es ++ e ∷ []) ≡ lost_after (lost_after lost es) (e ∷ [])
lost_more lost [] e = refl
lost_more lost (events.Record r ∷ es) e = lost_more false es e
lost_more lost (events.Lost volume at ∷ es) e = lost_more true es e

last_more : (last : ℕ) (es : List Event) (e : Event) → last_after last (es ++ e ∷ []) ≡ last_after (last_after last es) (e ∷ [])
last_more last [] e = refl
last_more last (events.Record r ∷ es) e = last_more r.index es e
last_more last (events.Lost volume at ∷ es) e = last_more last es e

pub records_more : (es : List Event) (e : Event) → records_in (es ++ e ∷ []) ≡ records_in es ++ records_in (e ∷ [])
records_more [] e = refl
records_more (events.Record r ∷ es) e = ap (λ (l : List Record). r ∷ l) (records_more es e)
records_more (events.Lost volume at ∷ es) e = records_more es e

pub places_more : (es : List Event) (e : Event) → places_in (es ++ e ∷ []) ≡ places_in es ++ places_in (e ∷ [])
places_more [] e = refl
places_more (events.Record r ∷ es) e = places_more es e
places_more (events.Lost volume at ∷ es) e = ap (λ (l : List Place). record { volume = volume; at = at } ∷ l) (places_more es e)

-- what is counted of a record more
counts_record : (es all : List Event) (r : Record) (old new : Counts) → CountsThem es old → all ≡ es ++ events.Record r ∷ []
    → (old.records + 1 < 2 ^ 64 → new.records ≡ old.records + 1) → (old.bytes + length r.bytes < 2 ^ 64 → new.bytes ≡ old.bytes + length r.bytes)
    → new.gaps ≡ old.gaps → CountsThem all new
counts_record es all r old new counts all_is one more same =
    let rs = records_in es in
    let is : records_in all ≡ rs ++ r ∷ [] = ap records_in all_is ∙ records_more es (events.Record r) in
    let long : length (records_in all) ≡ length rs + 1 = ap length is ∙ length-append rs (r ∷ []) in
    let bytes : total_bytes (records_in all) ≡ total_bytes rs + length r.bytes =
    omega (arith, ap total_bytes is, sum_by-append (λ (x : Record). length x.bytes) rs (r ∷ []), sum_by-cons (λ (x : Record). length x.bytes) r []) in
    let places : places_in all ≡ places_in es = ap places_in all_is ∙ places_more es (events.Record r) ∙ append-nil (places_in es) in record {
      records = λ less. let was = counts.records (omega (arith, less, long)) in omega (arith, was, long, one (omega (arith, was, long, less)));
      bytes = λ less. let was = counts.bytes (omega (arith, less, bytes)) in omega (arith, was, bytes, more (omega (arith, was, bytes, less)));
      gaps = λ less. same ∙ counts.gaps (subst (λ (ps : List Place). length ps < 2 ^ 64) places less) ∙ sym (ap length places);
    }

-- and of a place more
counts_place : (es all : List Event) (volume : List ℕ) (at : ℕ) (old new : Counts) → CountsThem es old → all ≡ es ++ events.Lost volume at ∷ []
    → new.records ≡ old.records → new.bytes ≡ old.bytes → (old.gaps + 1 < 2 ^ 64 → new.gaps ≡ old.gaps + 1) → CountsThem all new
counts_place es all volume at old new counts all_is same also one =
    let is : records_in all ≡ records_in es = ap records_in all_is ∙ records_more es (events.Lost volume at) ∙ append-nil (records_in es) in
    let long : length (places_in all) ≡ length (places_in es) + 1 = ap length (ap places_in all_is ∙ places_more es (events.Lost volume at)) ∙ length-append (places_in es) (record { volume = volume; at = at } ∷ []) in record {
      records = λ less. same ∙ counts.records (subst (λ (rs : List Record). length rs < 2 ^ 64) is less) ∙ sym (ap length is);
      bytes = λ less. also ∙ counts.bytes (subst (λ (rs : List Record). total_bytes rs < 2 ^ 64) is less) ∙ sym (ap total_bytes is);
      gaps = λ less. let was = counts.gaps (omega (arith, less, long)) in omega (arith, was, long, one (omega (arith, was, long, less)));
    }

-- if nothing is lost, what is printed are the records' lines
pub none_lost_lines : (last : ℕ) (es : List Event) → places_in es ≡ [] → event_lines false last es ≡ records_lines (records_in es)
none_lost_lines last [] none = refl
none_lost_lines last (events.Record r ∷ es) none = ap (λ (l : List ℕ). record_lines r ++ l) (none_lost_lines r.index es none)
none_lost_lines last (events.Lost volume at ∷ es) none = absurd (cc none)

none_lost_after : (es : List Event) → places_in es ≡ [] → lost_after false es ≡ false
none_lost_after [] none = refl
none_lost_after (events.Record r ∷ es) none = none_lost_after es none
none_lost_after (events.Lost volume at ∷ es) none = absurd (cc none)

-- a record more
pub keeps_record : (a b c d : SaidView) (es all : List Event) (lost : Bool) (last : ℕ) (r : Record) (old new : Counts) → Keeps a b es lost last old → all ≡ es ++ events.Record r ∷ []
    → Says b c (missing_lines lost last (Some r.index)) → Says c d (record_lines r)
    → (old.records + 1 < 2 ^ 64 → new.records ≡ old.records + 1) → (old.bytes + length r.bytes < 2 ^ 64 → new.bytes ≡ old.bytes + length r.bytes)
    → new.gaps ≡ old.gaps → Keeps a d all false r.index new
keeps_record a b c d es all lost last r old new keeps all_is missing lines one more same = record {
  says_so = subst (Says a d) (sym (ap (event_lines false 0) all_is ∙ lines_more false 0 es (events.Record r)))
      (says_then a b d (event_lines false 0 es) (missing_lines (lost_after false es) (last_after 0 es) (Some r.index) ++ record_lines r) keeps.says_so
      (subst (λ n. Says b d (missing_lines (lost_after false es) n (Some r.index) ++ record_lines r)) keeps.last_is
      (subst (λ w. Says b d (missing_lines w last (Some r.index) ++ record_lines r)) keeps.lost_is
      (says_then b c d (missing_lines lost last (Some r.index)) (record_lines r) missing lines))));
  lost_is = sym (ap (lost_after false) all_is ∙ lost_more false es (events.Record r));
  last_is = sym (ap (last_after 0) all_is ∙ last_more 0 es (events.Record r));
  counted = counts_record es all r old new keeps.counted all_is one more same;
}

-- a place more
pub keeps_place : (a b c : SaidView) (es all : List Event) (lost : Bool) (last : ℕ) (volume copy other : List ℕ) (at : ℕ) (old new : Counts) → Keeps a b es lost last old → all ≡ es ++ events.Lost other at ∷ []
    → copy ≡ volume → other ≡ volume → Says b c (line (line_text (Gap copy at)))
    → new.records ≡ old.records → new.bytes ≡ old.bytes → (old.gaps + 1 < 2 ^ 64 → new.gaps ≡ old.gaps + 1) → Keeps a c all true last new
keeps_place a b c es all lost last volume copy other at old new keeps all_is copy_is other_is says same also one =
    let all_so : all ≡ es ++ events.Lost volume at ∷ [] = all_is ∙ ap (λ (v : List ℕ). es ++ events.Lost v at ∷ []) other_is in record {
      says_so = subst (Says a c) (sym (ap (event_lines false 0) all_so ∙ lines_more false 0 es (events.Lost volume at)))
          (says_then a b c (event_lines false 0 es) (line (line_text (Gap volume at))) keeps.says_so (subst (λ v. Says b c (line (line_text (Gap v at)))) copy_is says));
      lost_is = sym (ap (lost_after false) all_so ∙ lost_more false es (events.Lost volume at));
      last_is = keeps.last_is ∙ sym (ap (last_after 0) all_so ∙ last_more 0 es (events.Lost volume at));
      counted = counts_place es all volume at old new keeps.counted all_so same also one;
    }

counted_same : (end : SalvageEnd) (a b : Counts) → a.records ≡ b.records → a.bytes ≡ b.bytes → a.gaps ≡ b.gaps → counted_lines end a ≡ counted_lines end b
counted_same end a b records bytes gaps =
    ap (λ (n : ℕ). counted_lines end (record { records = n; bytes = a.bytes; gaps = a.gaps })) records
    ∙ ap (λ (n : ℕ). counted_lines end (record { records = b.records; bytes = n; gaps = a.gaps })) bytes
    ∙ ap (λ (n : ℕ). counted_lines end (record { records = b.records; bytes = b.bytes; gaps = n })) gaps

-- what the printer keeps tells how a salvage ends
pub ends_so : (a b : SaidView) (told : List Event) (lost : Bool) (last : ℕ) (counts : Counts) (end : SalvageEnd) → Keeps a b told lost last counts → AreCountable told
    → missing_lines lost last None ++ counted_lines end counts ≡ end_lines told (Ok end)
ends_so a b told lost last counts end keeps countable =
    ap (λ (w : Bool). missing_lines w last None ++ counted_lines end counts) keeps.lost_is
    ∙ ap (λ (n : ℕ). missing_lines (lost_after false told) n None ++ counted_lines end counts) keeps.last_is
    ∙ ap (λ (l : List ℕ). missing_lines (lost_after false told) (last_after 0 told) None ++ l)
    (counted_same end counts (record { records = length (records_in told); bytes = total_bytes (records_in told); gaps = length (places_in told) })
    (keeps.counted.records countable.records) (keeps.counted.bytes countable.bytes) (keeps.counted.gaps countable.gaps))

-- if nothing is lost, a salvage that ends as sound prints what a reading does
pub sound_lines : (told : List Event) (records : List Record) (ended : Bool) (end : SalvageEnd) → places_in told ≡ [] → records_in told ≡ records → end ≡ record { sound = true; ended = ended }
    → event_lines false 0 told ++ end_lines told (Ok end) ≡ records_lines records ++ line (end_text (record { records = length records; bytes = total_bytes records; ended = ended }))
sound_lines told records ended end none are end_is =
    ap₂ (λ (a b : List ℕ). a ++ b) (none_lost_lines 0 told none ∙ ap records_lines are)
    (ap (λ (e : SalvageEnd). end_lines told (Ok e)) end_is
    ∙ ap (λ (w : Bool). missing_lines w (last_after 0 told) None ++ line (end_text (record { records = length (records_in told); bytes = total_bytes (records_in told); ended = ended }))) (none_lost_after told none)
    ∙ ap (λ (rs : List Record). line (end_text (record { records = length rs; bytes = total_bytes rs; ended = ended }))) are)

-- a salvage that hands over just these records, and tells nothing, prints what a reading of them does
pub whole_says : (a b : SaidView) (before told : List Event) (last : List ℕ) (result : Result SalvageEnd ReadFault) (records : List Record) (ended : Bool)
    → length records < 2 ^ 64 → total_bytes records < 2 ^ 64 → before ≡ []
    → Says a b (event_lines false 0 told ++ last) → (AreCountable told → last ≡ end_lines told result)
    → IfOk result (λ end. (end ≡ record { sound = true; ended = ended }) × (records_in told ≡ records_in before ++ records) × (places_in told ≡ places_in before))
    → IfOk result (λ _end. Says a b (records_lines records ++ line (end_text (record { records = length records; bytes = total_bytes records; ended = ended }))))
whole_says a b before told last (Ok end) records ended few small nothing says last_is (end_is, got, lost) =
    let are : records_in told ≡ records = got ∙ ap (λ (es : List Event). records_in es ++ records) nothing in
    let none : places_in told ≡ [] = lost ∙ ap places_in nothing in
    let countable : AreCountable told = record {
      records = subst (λ (rs : List Record). length rs < 2 ^ 64) (sym are) few;
      bytes = subst (λ (rs : List Record). total_bytes rs < 2 ^ 64) (sym are) small;
      gaps = subst (λ (ps : List Place). length ps < 2 ^ 64) (sym none) (omega (arith));
    } in
    subst (Says a b) (ap (λ (l : List ℕ). event_lines false 0 told ++ l) (last_is countable) ∙ sound_lines told records ended end none are end_is) says
whole_says a b before told last (Err fault) records ended few small nothing says last_is end = tt
