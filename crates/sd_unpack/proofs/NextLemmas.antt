-- What may come next, and thus that nothing else may.
use Rattle.std.proofs.Common.{◌≡◌, ◌≢◌, ◌⊎◌, inl, inr, ℕ, ◌-◌, ◌≤◌, refl, sym, ap, subst, ◌∙◌, arith, List, [], ◌∷◌, ◌++◌, drop, length, replicate}
use Rattle.std.specs.Prelude.{ℤ, pos, neg_ℤ}
use Rattle.std.proofs.lemmas.List.{append_assoc, append-nil, append_cancel_left, length-drop, length-replicate}
use Rattle.std.specs.List.{AllByRecursion}
use Rattle.sd_base.specs.Record.{Record, IsRecord}
use Rattle.sd_record.specs.Fragment.{Fragment, BeginsData, Continue, Fragments, FragmentsOfAll}
use Rattle.sd_record.proofs.RecordLemmas.{first_same, rest_same, fragments_of_one}
use Rattle.sd_label.specs.declared.label.SessionLabel.{SessionLabel}
use Rattle.sd_label.specs.Label.{session_label_fragment}
use Rattle.sd_label.specs.Cutting.{Standing, Between, Within, AtEnd, Unfinished, Behind, IsEnd, IsSession}
use Rattle.sd_label.proofs.CuttingLemmas.{behind_no_record, label_is_no_record, fronts, front_nil}
use Rattle.sd_unpack.specs.declared.stage.Due.{Due}
use Rattle.sd_unpack.specs.Stage.{due_record, Opens, IsPartway}
use Rattle.sd_unpack.specs.Damage.{Continues}
use Rattle.sd_unpack.proofs.StageLemmas.{due_record_is, last_continues}

-- what is left of a session's fragments after those of its first records
record Later (all rs rs' : List Record) (standing : Standing) (tail behind' : List Fragment) : Type 0 where
  more : List Record
  parts : List Fragment
  records_split : rs' ≡ rs ++ more
  parts_are : FragmentsOfAll more parts
  order : tail ≡ parts ++ behind'

later : (all rs rs' : List Record) (standing : Standing) (parts parts' tail behind' : List Fragment) → FragmentsOfAll rs parts
    → FragmentsOfAll rs' parts' → Behind all standing behind' → parts ++ tail ≡ parts' ++ behind' → Later all rs rs' standing tail behind'
later all [] rs' standing parts parts' tail behind' c d b e = record {
  more = rs';
  parts = parts';
  records_split = refl;
  parts_are = d;
  order = ap (λ l. l ++ tail) (sym c) ∙ e;
}
later all (r ∷ rs) [] standing parts parts' tail behind' c d b e =
    absurd (behind_no_record all standing r behind' c.0 (c.1 ++ tail) b c.3
    (ap (λ l. l ++ behind') (sym d) ∙ sym e ∙ ap (λ l. l ++ tail) c.2 ∙ append_assoc c.0 c.1 tail))
later all (r ∷ rs) (s ∷ rs') standing parts parts' tail behind' c d b e =
    let flat : c.0 ++ (c.1 ++ tail) ≡ d.0 ++ (d.1 ++ behind') =
    sym (append_assoc c.0 c.1 tail) ∙ ap (λ l. l ++ tail) (sym c.2) ∙ e ∙ ap (λ l. l ++ behind') d.2 ∙ append_assoc d.0 d.1 behind' in
    let one = fragments_of_one r s c.0 d.0 (c.1 ++ tail) (d.1 ++ behind') c.3 d.3 flat in
    let rest = later all rs rs' standing c.1 d.1 tail behind' c.4 d.4 b one.2 in
    record {
      more = rest.more;
      parts = rest.parts;
      records_split = ap (λ x. x ∷ rs') (sym one.0) ∙ ap (λ l. r ∷ l) rest.records_split;
      parts_are = rest.parts_are;
      order = rest.order;
    }

-- After whole records.

-- the fragment is the first of a record
pub record BeginsRecord (f : Fragment) : Type 0 where
  pub begun : Record
  pub record_is : IsRecord begun
  pub data_begin : BeginsData f (pos begun.index) (pos begun.stream) begun.bytes

-- the fragment is an end label after these records
abbrev pub EndsSession : List Record → Fragment → Type 0
EndsSession records f = (label : SessionLabel) × IsEnd label records × (f ≡ session_label_fragment label)

begins_first : (r : Record) (first : List Fragment) (f : Fragment) (fs xs : List Fragment) → IsRecord r → Fragments r first → f ∷ fs ≡ first ++ xs → BeginsRecord f
begins_first r [] f fs xs is c e = absurd c
begins_first r (g ∷ rest) f fs xs is c e =
    subst BeginsRecord (sym (first_same f g fs (rest ++ xs) e)) (record { begun = r; record_is = is; data_begin = c.0 })

records-back : (xs ys : List Record) → AllByRecursion IsRecord (xs ++ ys) → AllByRecursion IsRecord ys
records-back [] ys are = are
records-back (x ∷ xs) ys are = records-back xs ys are.1

next_of : (all records more : List Record) (standing : Standing) (parts behind : List Fragment) (f : Fragment) (fs : List Fragment) → all ≡ records ++ more
    → AllByRecursion IsRecord more → FragmentsOfAll more parts → Behind all standing behind → f ∷ fs ≡ parts ++ behind → BeginsRecord f ⊎ EndsSession records f
next_of all records (r ∷ more) standing parts behind f fs split are c b e =
    inl (begins_first r c.0 f fs (c.1 ++ behind) are.0 c.3 (e ∙ ap (λ l. l ++ behind) c.2 ∙ append_assoc c.0 c.1 behind))
next_of all records [] Between parts behind f fs split are c b e =
    absurd (cc (e ∙ ap (λ l. l ++ behind) c ∙ b))
next_of all records [] Within parts behind f fs split are c b e =
    inl (begins_first b.unfinished (behind ++ b.remaining) f (fs ++ b.remaining) [] b.record_is b.fragments_are
    (ap (λ l. l ++ b.remaining) (e ∙ ap (λ l. l ++ behind) c) ∙ sym (append-nil (behind ++ b.remaining))))
next_of all records [] AtEnd parts behind f fs split are c b e =
    inr (b.0, subst (IsEnd b.0) (split ∙ append-nil records) b.1, first_same f (session_label_fragment b.0) fs [] (e ∙ ap (λ l. l ++ behind) c ∙ b.2))

-- two sessions of which one begins the other agree after the start label
labels_off : (start start' : SessionLabel) (fs parts behind parts' behind' tail : List Fragment) → fs ≡ session_label_fragment start ∷ (parts ++ behind)
    → fs ++ tail ≡ session_label_fragment start' ∷ (parts' ++ behind') → parts ++ (behind ++ tail) ≡ parts' ++ behind'
labels_off start start' fs parts behind parts' behind' tail order order' =
    sym (append_assoc parts behind tail)
    ∙ rest_same (session_label_fragment start) (session_label_fragment start') ((parts ++ behind) ++ tail) (parts' ++ behind') (sym (ap (λ l. l ++ tail) order) ∙ order')

-- after whole records comes the first fragment of one more, or their end label
pub next_whole : (fs : List Fragment) (records records' : List Record) (standing : Standing) (f : Fragment) (more : List Fragment) → IsSession fs records Between
    → IsSession (fs ++ f ∷ more) records' standing → BeginsRecord f ⊎ EndsSession records f
next_whole fs records records' standing f more s t =
    let flat = labels_off s.start t.start fs s.parts s.behind t.parts t.behind (f ∷ more) s.order t.order in
    let bare : s.parts ++ f ∷ more ≡ t.parts ++ t.behind = ap (λ b. s.parts ++ (b ++ f ∷ more)) (sym s.behind_is) ∙ flat in
    let l = later records' records records' standing s.parts t.parts (f ∷ more) t.behind s.parts_are t.parts_are t.behind_is bare in
    next_of records' records l.more standing l.parts t.behind f more l.records_split
    (records-back records l.more (subst (AllByRecursion IsRecord) l.records_split t.records_are)) l.parts_are t.behind_is l.order

-- After a record's first fragments.

-- fragments that go on with the same fragments say the same
continue_same : (i i' s s' : ℤ) (left left' : List ℕ) (pre : List Fragment) (f g : Fragment) (fs gs : List Fragment) → i ≡ i' → s ≡ s' → length left ≡ length left'
    → Continue i s left (pre ++ f ∷ fs) → Continue i' s' left' (pre ++ g ∷ gs) → (f.index ≡ g.index) × (f.stream ≡ g.stream) × (f.size ≡ g.size) × (f.part ≢ [])
continue_same i i' s s' left left' [] f g fs gs ei es long c d = (
  c.0.index_is ∙ ei ∙ sym d.0.index_is,
  c.0.stream_is ∙ ap neg_ℤ es ∙ sym d.0.stream_is,
  c.0.size_is ∙ long ∙ sym d.0.size_is,
  c.1,
)
continue_same i i' s s' left left' (p ∷ pre) f g fs gs ei es long c d =
    continue_same i i' s s' (drop (length p.part) left) (drop (length p.part) left') pre f g fs gs ei es
    (length-drop (length p.part) left ∙ ap (λ n. n - length p.part) long ∙ sym (length-drop (length p.part) left')) c.2 d.2

zeros_some : (n : ℕ) → 1 ≤ n → replicate {A = ℕ} n 0 ≡ [] → ⊥
zeros_some n least none =
    let long : length {A = ℕ} (replicate {A = ℕ} n 0) ≡ n = length-replicate n 0 in
    let zero : length {A = ℕ} (replicate {A = ℕ} n 0) ≡ 0 = ap length none in
    omega arith

-- what continues the record, if all that is due came at once
rest_continues : (behind : List Fragment) (due : Due) (so_far : List ℕ) → Opens behind due so_far → (f : Fragment) × (length f.part ≡ due.left) × Continues due f
rest_continues behind due so_far opens =
    let long : length (replicate due.left 0) ≡ due.left = length-replicate due.left 0 in (
      record { index = pos due.index; stream = neg_ℤ (pos due.stream); size = due.left; part = replicate due.left 0 },
      long,
      record {
        index_is = refl;
        stream_is = refl;
        size_is = refl;
        some_there = zeros_some due.left opens.due_is.left_least;
      },
    )

-- so the first fragments of the record that is due are those of a record, but not all of them
pub opens_unfinished : (behind : List Fragment) (due : Due) (so_far : List ℕ) → Opens behind due so_far → Unfinished behind
opens_unfinished behind due so_far opens =
    let rest = rest_continues behind due so_far opens in
    record {
      unfinished = due_record due (so_far ++ rest.0.part);
      remaining = rest.0 ∷ [];
      record_is = due_record_is due so_far rest.0.part opens.due_is rest.1;
      some_there = opens.some_there;
      some_remain = (λ none. cc none);
      fragments_are = opens.whatever_comes rest.0.part (rest.0 ∷ []) rest.1 (last_continues due rest.0 rest.2 rest.1);
    }

fragments_same : (r s : Record) (pre : List Fragment) (f g : Fragment) (fs gs : List Fragment) → pre ≢ [] → Fragments r (pre ++ f ∷ fs) → Fragments s (pre ++ g ∷ gs)
    → (f.index ≡ g.index) × (f.stream ≡ g.stream) × (f.size ≡ g.size) × (f.part ≢ [])
fragments_same r s [] f g fs gs some c d = absurd (some refl)
fragments_same r s (p ∷ pre) f g fs gs some c d =
    continue_same (pos r.index) (pos s.index) (pos r.stream) (pos s.stream) (drop (length p.part) r.bytes) (drop (length p.part) s.bytes) pre f g fs gs
    (sym c.0.index_is ∙ d.0.index_is) (sym c.0.stream_is ∙ d.0.stream_is)
    (length-drop (length p.part) r.bytes ∙ ap (λ n. n - length p.part) (sym c.0.size_is ∙ d.0.size_is) ∙ sym (length-drop (length p.part) s.bytes)) c.1 d.1

opens_next : (behind : List Fragment) (due : Due) (so_far : List ℕ) (r : Record) (f : Fragment) (fs : List Fragment) → Opens behind due so_far
    → Fragments r (behind ++ f ∷ fs) → Continues due f
opens_next behind due so_far r f fs opens c =
    let rest = rest_continues behind due so_far opens in
    let d = opens.whatever_comes rest.0.part (rest.0 ∷ []) rest.1 (last_continues due rest.0 rest.2 rest.1) in
    let same = fragments_same r (due_record due (so_far ++ rest.0.part)) behind f rest.0 fs [] opens.some_there c d in
    record {
      index_is = same.0 ∙ rest.2.index_is;
      stream_is = same.1 ∙ rest.2.stream_is;
      size_is = same.2 ∙ rest.2.size_is;
      some_there = same.3;
    }

-- the rest of a record's fragments, if the first of them are these
next_in_record : (behind : List Fragment) (due : Due) (so_far : List ℕ) (r : Record) (more : List Fragment) (f : Fragment) (fs xs : List Fragment) → Opens behind due so_far
    → Fragments r (behind ++ more) → more ≢ [] → f ∷ fs ≡ more ++ xs → Continues due f
next_in_record behind due so_far r [] f fs xs opens c some e = absurd (some refl)
next_in_record behind due so_far r (g ∷ more) f fs xs opens c some e =
    subst (Continues due) (sym (first_same f g fs (more ++ xs) e)) (opens_next behind due so_far r g more opens c)

label_alone : (behind : List Fragment) (f : Fragment) (fs : List Fragment) (label : SessionLabel) → Unfinished behind → behind ++ f ∷ fs ≡ session_label_fragment label ∷ [] → ⊥
label_alone [] f fs label u e = u.some_there refl
label_alone (g ∷ []) f fs label u e = cc (rest_same g (session_label_fragment label) (f ∷ fs) [] e)
label_alone (g ∷ h ∷ gs) f fs label u e = cc (rest_same g (session_label_fragment label) (h ∷ (gs ++ f ∷ fs)) [] e)

next_due : (all more : List Record) (standing : Standing) (parts behind' behind : List Fragment) (due : Due) (so_far : List ℕ) (f : Fragment) (fs : List Fragment)
    → Opens behind due so_far → FragmentsOfAll more parts → Behind all standing behind' → behind ++ f ∷ fs ≡ parts ++ behind' → Continues due f
next_due all (r ∷ more) standing parts behind' behind due so_far f fs opens c b e =
    let flat : behind ++ f ∷ fs ≡ c.0 ++ (c.1 ++ behind') = e ∙ ap (λ l. l ++ behind') c.2 ∙ append_assoc c.0 c.1 behind' in
    elim (fronts behind (f ∷ fs) c.0 (c.1 ++ behind') flat) [
      | inl h ↦ absurd (behind_no_record all Within r behind c.0 h.0 (opens_unfinished behind due so_far opens) c.3 h.1)
      | inr h ↦ next_in_record behind due so_far r h.0 f fs (c.1 ++ behind') opens (subst (Fragments r) h.2 c.3) h.1
          (append_cancel_left behind (f ∷ fs) (h.0 ++ (c.1 ++ behind')) (flat ∙ ap (λ l. l ++ (c.1 ++ behind')) h.2 ∙ append_assoc behind h.0 (c.1 ++ behind')))
    ]
next_due all [] Between parts behind' behind due so_far f fs opens c b e =
    absurd (opens.some_there (front_nil behind (f ∷ fs) (e ∙ ap (λ l. l ++ behind') c ∙ b)))
next_due all [] Within parts behind' behind due so_far f fs opens c b e =
    let whole : behind' ++ b.remaining ≡ behind ++ f ∷ (fs ++ b.remaining) =
    ap (λ l. l ++ b.remaining) (sym (e ∙ ap (λ l. l ++ behind') c)) ∙ append_assoc behind (f ∷ fs) b.remaining in
    opens_next behind due so_far b.unfinished f (fs ++ b.remaining) opens (subst (Fragments b.unfinished) whole b.fragments_are)
next_due all [] AtEnd parts behind' behind due so_far f fs opens c b e =
    absurd (label_alone behind f fs b.0 (opens_unfinished behind due so_far opens) (e ∙ ap (λ l. l ++ behind') c ∙ b.2))

-- after a record's first fragments comes one that goes on with it
pub next_partway : (fs : List Fragment) (records records' : List Record) (due : Due) (so_far : List ℕ) (standing : Standing) (f : Fragment) (more : List Fragment)
    → IsPartway fs records due so_far → IsSession (fs ++ f ∷ more) records' standing → Continues due f
next_partway fs records records' due so_far standing f more s t =
    let flat = labels_off s.start t.start fs s.parts s.behind t.parts t.behind (f ∷ more) s.order t.order in
    let l = later records' records records' standing s.parts t.parts (s.behind ++ f ∷ more) t.behind s.parts_are t.parts_are t.behind_is flat in
    next_due records' l.more standing l.parts t.behind s.behind due so_far f more s.behind_is l.parts_are t.behind_is l.order

-- After the end label.

label_begins_none : (label : SessionLabel) → BeginsRecord (session_label_fragment label) → ⊥
label_begins_none label b = label_is_no_record label b.begun.index b.data_begin.index_is

none_after : (all more : List Record) (standing : Standing) (parts behind : List Fragment) (label : SessionLabel) (f : Fragment) (fs : List Fragment)
    → AllByRecursion IsRecord more → FragmentsOfAll more parts → Behind all standing behind → session_label_fragment label ∷ (f ∷ fs) ≡ parts ++ behind → ⊥
none_after all (r ∷ more) standing parts behind label f fs are c b e =
    label_begins_none label (begins_first r c.0 (session_label_fragment label) (f ∷ fs) (c.1 ++ behind) are.0 c.3 (e ∙ ap (λ l. l ++ behind) c.2 ∙ append_assoc c.0 c.1 behind))
none_after all [] Between parts behind label f fs are c b e = cc (e ∙ ap (λ l. l ++ behind) c ∙ b)
none_after all [] Within parts behind label f fs are c b e =
    label_begins_none label (begins_first b.unfinished (behind ++ b.remaining) (session_label_fragment label) ((f ∷ fs) ++ b.remaining) [] b.record_is b.fragments_are
    (ap (λ l. l ++ b.remaining) (e ∙ ap (λ l. l ++ behind) c) ∙ sym (append-nil (behind ++ b.remaining))))
none_after all [] AtEnd parts behind label f fs are c b e =
    cc (rest_same (session_label_fragment label) (session_label_fragment b.0) (f ∷ fs) [] (e ∙ ap (λ l. l ++ behind) c ∙ b.2))

-- after the end label comes nothing
pub next_closed : (fs : List Fragment) (records records' : List Record) (standing : Standing) (f : Fragment) (more : List Fragment) → IsSession fs records AtEnd
    → IsSession (fs ++ f ∷ more) records' standing → ⊥
next_closed fs records records' standing f more s t =
    let flat = labels_off s.start t.start fs s.parts s.behind t.parts t.behind (f ∷ more) s.order t.order in
    let l = later records' records records' standing s.parts t.parts (s.behind ++ f ∷ more) t.behind s.parts_are t.parts_are t.behind_is flat in
    none_after records' l.more standing l.parts t.behind s.behind_is.0 f more (records-back records l.more (subst (AllByRecursion IsRecord) l.records_split t.records_are))
    l.parts_are t.behind_is (ap (λ b. b ++ f ∷ more) (sym s.behind_is.2) ∙ l.order)
