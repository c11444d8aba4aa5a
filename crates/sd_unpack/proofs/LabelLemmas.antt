-- Labels among the fragments, and what can't follow.
use Rattle.std.proofs.Common.{◌≡◌, ◌≢◌, ◌⊎◌, inl, inr, ℕ, ◌≤◌, refl, sym, ap, subst, ◌∙◌, arith, List, [], ◌∷◌, ◌++◌, length}
use Rattle.std.specs.Prelude.{ℤ, pos, ◌<ℤ◌, ◌≤ℤ◌, Some, None, IfSome}
use Rattle.std.proofs.lemmas.Int.{ints}
use Rattle.sd_base.specs.Record.{Record}
use Rattle.sd_record.specs.Fragment.{Fragment, fragment_bytes, IsFragment}
use Rattle.sd_record.proofs.FragmentLemmas.{fragment_apart}
use Rattle.sd_record.proofs.RecordLemmas.{first_same}
use Rattle.sd_label.specs.declared.label.SessionLabel.{SessionLabel}
use Rattle.sd_label.specs.Label.{start_label_index, end_label_index}
use Rattle.sd_label.specs.Label.{IsSessionLabel, AreTotals, session_label_fragment, session_label_bytes, session_label_index}
use Rattle.sd_label.specs.declared.label.Totals.{Totals}
use Rattle.sd_label.specs.Cutting.{Standing, IsStart, IsEnd, IsSession, total_bytes}
use Rattle.sd_label.proofs.LabelLemmas.{IsFragment-session_label, session_labels_apart, starts_with_none}
use Rattle.sd_unpack.specs.declared.damage.Damage.{Damage}
use Rattle.sd_unpack.specs.declared.damage.Damage.TheVariants.{NoStart, LabelAgain, BadIndex, BadFragment, BadContinuation, BadTotals, AfterEnd}
use Rattle.sd_unpack.specs.declared.stage.Stage.{Stage}
use Rattle.sd_unpack.specs.declared.stage.Stage.TheVariants.{Fresh, Whole, Partway, Closed}
use Rattle.sd_unpack.specs.Stage.{Reaches, AreTotalsOf}
use Rattle.sd_unpack.specs.Damage.{CantFollow, HasOtherTotals}
use Rattle.sd_unpack.proofs.NextLemmas.{BeginsRecord, EndsSession, next_whole, next_partway, next_closed}

-- a fragment with the bytes of a label is the label's
pub label_stands : (f : Fragment) (label : SessionLabel) → IsFragment f → IsSessionLabel label → fragment_bytes f ≡ session_label_bytes label → f ≡ session_label_fragment label
label_stands f label fits is e =
    (fragment_apart f (session_label_fragment label) [] [] fits (IsFragment-session_label label is) (λ more. refl) (λ more. refl) (ap (λ l. l ++ []) e)).0

-- one fragment is one label
pub one_label : (f : Fragment) (l m : SessionLabel) → IsSessionLabel l → IsSessionLabel m → f ≡ session_label_fragment l → f ≡ session_label_fragment m → l ≡ m
one_label f l m l_is m_is el em = session_labels_apart l m l_is m_is (ap fragment_bytes (sym el ∙ em))

start_index : (f : Fragment) (label : SessionLabel) → IsStart label → f ≡ session_label_fragment label → f.index ≡ start_label_index
start_index f label is e = ap (λ g. g.index) e ∙ ap session_label_index is.no_totals

end_index : (f : Fragment) (label : SessionLabel) (records : List Record) → IsEnd label records → f ≡ session_label_fragment label → f.index ≡ end_label_index
end_index f label records is e = ap (λ g. g.index) e ∙ ap session_label_index is.totals_are

-- the bytes of a fragment that are a label's
pub start_found : (f : Fragment) (bytes : List ℕ) (label : SessionLabel) → IsFragment f → IsSessionLabel label → bytes ≡ session_label_bytes label
    → bytes ≡ fragment_bytes f → f.index ≡ start_label_index → (found : SessionLabel) × IsStart found × (f ≡ session_label_fragment found)
start_found f bytes label fits is read there index =
    let e = label_stands f label fits is (sym there ∙ read) in
    (label, record { label_is = is; no_totals = starts_with_none label.totals (sym (ap (λ g. g.index) e) ∙ index) }, e)

pub end_found : (f : Fragment) (bytes : List ℕ) (label : SessionLabel) (totals : Totals) (records : List Record) → IsFragment f → IsSessionLabel label
    → bytes ≡ session_label_bytes label → bytes ≡ fragment_bytes f → label.totals ≡ Some totals → AreTotalsOf (Some totals) records
    → (found : SessionLabel) × IsEnd found records × (f ≡ session_label_fragment found)
end_found f bytes label totals records fits is read there said are =
    (label, record { label_is = is; totals_are = said ∙ ap (λ t. Some t) are }, label_stands f label fits is (sym there ∙ read))

pub other_totals : (f : Fragment) (bytes : List ℕ) (label : SessionLabel) (totals : Totals) (records : List Record) → IsFragment f → IsSessionLabel label
    → bytes ≡ session_label_bytes label → bytes ≡ fragment_bytes f → label.totals ≢ Some totals → AreTotalsOf (Some totals) records → HasOtherTotals records f
other_totals f bytes label totals records fits is read there other are =
    (label, is, label_stands f label fits is (sym there ∙ read), (λ e. other (e ∙ ap (λ t. Some t) (sym are))))

-- no label says totals that don't fit it
no_such_totals : (label : SessionLabel) (records : List Record) → IsSessionLabel label → AreTotalsOf None records
    → label.totals ≡ Some (record { records = length records; bytes = total_bytes records }) → ⊥
no_such_totals label records is past e =
    let fit = subst (λ t. IfSome t AreTotals) e is.totals in
    elim past [
      | inl records_past ↦ (let most = fit.records in absurd (omega arith))
      | inr bytes_past ↦ (let most = fit.bytes in absurd (omega arith))
    ]

pub totals_past : (f : Fragment) (bytes : List ℕ) (label : SessionLabel) (records : List Record) → IsFragment f → IsSessionLabel label
    → bytes ≡ session_label_bytes label → bytes ≡ fragment_bytes f → AreTotalsOf None records → HasOtherTotals records f
totals_past f bytes label records fits is read there past =
    (label, is, label_stands f label fits is (sym there ∙ read), no_such_totals label records is past)

-- what comes after whole records has the index of a record or of an end label
next_index : {P : Type 0} (records : List Record) (f : Fragment) → BeginsRecord f ⊎ EndsSession records f → ((n : ℕ) → 1 ≤ n → f.index ≡ pos n → P)
    → (f.index ≡ end_label_index → P) → P
next_index records f next record_case end_case = elim next [
  | inl b ↦ record_case b.begun.index b.record_is.index_least b.data_begin.index_is
  | inr h ↦ end_case (end_index f h.0 records h.1 h.2)
]

start_is_no_pos : (z : ℤ) (n : ℕ) → z ≡ start_label_index → z ≡ pos n → ⊥
start_is_no_pos z n e e' = cc (sym e ∙ e')

end_is_no_pos : (z : ℤ) (n : ℕ) → z ≡ end_label_index → z ≡ pos n → ⊥
end_is_no_pos z n e e' = cc (sym e ∙ e')

start_is_no_end : (z : ℤ) → z ≡ start_label_index → z ≡ end_label_index → ⊥
start_is_no_end z e e' = cc (sym e ∙ e')

below_one : (z : ℤ) (n : ℕ) → z <ℤ pos 1 → z ≡ pos n → 1 ≤ n → ⊥
below_one z n low e least = let low' : pos n <ℤ pos 1 = subst (λ x. x <ℤ pos 1) e low in omega (arith, ints)

end_below_one : (z : ℤ) → pos 1 ≤ℤ z → z ≡ end_label_index → ⊥
end_below_one z high e = let high' : pos 1 ≤ℤ end_label_index = subst (λ x. pos 1 ≤ℤ x) e high in omega arith

below_zero : (z : ℤ) (n : ℕ) → z <ℤ pos 0 → z ≡ pos n → ⊥
below_zero z n low e = let low' : pos n <ℤ pos 0 = subst (λ x. x <ℤ pos 0) e low in omega (arith, ints)

-- if a fragment can't follow, no session goes on with it
pub cant_follow : (damage : Damage) (stage : Stage) (fs : List Fragment) (records records' : List Record) (so_far : List ℕ) (standing : Standing) (f : Fragment) (more : List Fragment)
    → Reaches stage fs records so_far → CantFollow damage stage records f → IsSession (fs ++ f ∷ more) records' standing → ⊥
cant_follow NoStart Fresh fs records records' so_far standing f more r c t =
    let e = first_same f (session_label_fragment t.start) more (t.parts ++ t.behind) (ap (λ l. l ++ f ∷ more) (sym r.0) ∙ t.order) in
    c (start_index f t.start t.start_is e)
cant_follow BadFragment Fresh fs records records' so_far standing f more r c t =
    c.1 t.start t.start_is.label_is (first_same f (session_label_fragment t.start) more (t.parts ++ t.behind) (ap (λ l. l ++ f ∷ more) (sym r.0) ∙ t.order))
cant_follow LabelAgain Whole fs records records' so_far standing f more r c t =
    next_index records f (next_whole fs records records' standing f more r t) (λ n least e. start_is_no_pos f.index n c e) (λ e. start_is_no_end f.index c e)
cant_follow BadTotals Whole fs records records' so_far standing f more r c t = elim (next_whole fs records records' standing f more r t) [
  | inl b ↦ end_is_no_pos f.index b.begun.index c.0 b.data_begin.index_is
  | inr h ↦ c.1.3 (ap (λ l. l.totals) (one_label f c.1.0 h.0 c.1.1 h.1.label_is c.1.2 h.2) ∙ h.1.totals_are)
]
cant_follow BadIndex Whole fs records records' so_far standing f more r c t =
    next_index records f (next_whole fs records records' standing f more r t) (λ n least e. below_one f.index n c.2 e least) c.1
cant_follow BadContinuation Whole fs records records' so_far standing f more r c t = elim (next_whole fs records records' standing f more r t) [
  | inl b ↦ below_zero f.stream b.begun.stream c.1 b.data_begin.stream_is
  | inr h ↦ end_below_one f.index c.0 (end_index f h.0 records h.1 h.2)
]
cant_follow BadFragment Whole fs records records' so_far standing f more r c t = elim (next_whole fs records records' standing f more r t) [
  | inl b ↦ elim c [
    | inl no_label ↦ end_is_no_pos f.index b.begun.index no_label.0 b.data_begin.index_is
    | inr long ↦ (let most = b.record_is.data_most in let size = b.data_begin.size_is in let above = long.2 in absurd (omega arith))
  ]
  | inr h ↦ elim c [
    | inl no_label ↦ no_label.1 h.0 h.1.label_is h.2
    | inr long ↦ end_below_one f.index long.0 (end_index f h.0 records h.1 h.2)
  ]
]
cant_follow BadContinuation (Partway due) fs records records' so_far standing f more r c t = c (next_partway fs records records' due so_far standing f more r t)
cant_follow AfterEnd Closed fs records records' so_far standing f more r c t = next_closed fs records records' standing f more r t
cant_follow damage stage fs records records' so_far standing f more r c t = absurd c
