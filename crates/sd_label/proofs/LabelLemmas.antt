-- Labels and their records: how long they are, that they are whole fragments, and that no two share bytes.
use Rattle.std.proofs.Common.{◌≡◌, ℕ, ◌+◌, ◌^◌, ◌<◌, ◌≤◌, refl, sym, ap, ◌∙◌, arith, inl, inr, List, [], ◌++◌, length, Some, None}
use Rattle.std.specs.Prelude.{ℤ, pos, FitsSigned, IfSome, Option}
use Rattle.std.specs.Int.{w32}
use Rattle.std.proofs.lemmas.List.{append_assoc, append-nil, length-append, append_cancel_left}
use Rattle.sd_base.specs.Field.{u32_bytes, i64_bytes}
use Rattle.sd_base.proofs.FieldLemmas.{length-u32_bytes, length-u64_bytes, u32_apart, u64_apart, i32_apart, i64_apart}
use Rattle.sd_base.specs.Limits.{most_number}
use Rattle.sd_base.specs.Name.{IsName}
use Rattle.sd_record.specs.Fragment.{Fragment, IsFragment, GoesOn}
use Rattle.sd_record.proofs.FragmentLemmas.{length-fragment_bytes, fragment_apart}
use Rattle.sd_label.specs.Label.{volume_label_index, start_label_index, end_label_index, volume_label_version, most_volume_label, most_session_label, AreTotals, IsVolumeLabel, IsSessionLabel, VolumeLabelsApart, SessionLabelsApart, LabelKindsApart, text_bytes, front_bytes, host_bytes, totals_bytes, volume_label_data, session_label_data, session_label_index, volume_label_fragment, session_label_fragment, volume_label_bytes, session_label_bytes}
use Rattle.sd_label.specs.declared.label.Totals.{Totals}
use Rattle.sd_label.specs.declared.label.VolumeLabel.{VolumeLabel}
use Rattle.sd_label.specs.declared.label.SessionLabel.{SessionLabel}
use Rattle.sd_label.proofs.TextLemmas.{IsName-no_zero, length-text_bytes, length-front_bytes, text_apart, front_apart}

-- the data of a volume label, field by field
pub volume_data_parts : (l : VolumeLabel) (xs : List ℕ) → xs ≡ volume_label_data l
    → xs ≡ front_bytes (volume_label_version l.host) ++ (i64_bytes l.moment ++ (text_bytes l.name ++ (text_bytes l.pool ++ (text_bytes l.media ++ (host_bytes l.host ++ [])))))
unfolding volume_label_data
volume_data_parts l xs e = e ∙ simp (append_assoc, append-nil)

pub session_data_parts : (l : SessionLabel) (xs : List ℕ) → xs ≡ session_label_data l
    → xs ≡ front_bytes 1 ++ (u32_bytes l.job ++ (i64_bytes l.moment ++ (text_bytes l.pool ++ (text_bytes l.media ++ totals_bytes l.totals))))
unfolding session_label_data
session_data_parts l xs e = e ∙ simp append_assoc

pub length-totals_bytes : (t : Totals) → length (totals_bytes (Some t)) ≡ 20
length-totals_bytes t = simp (length-append, length-u64_bytes, length-u32_bytes)

pub length-volume_label_data : (l : VolumeLabel)
    → length (volume_label_data l) ≡ 27 + length l.name + length l.pool + length l.media + length (host_bytes l.host)
unfolding volume_label_data
length-volume_label_data l = simp (length-append, length-front_bytes, length-u64_bytes, length-text_bytes) (omega arith)

pub length-session_label_data : (l : SessionLabel)
    → length (session_label_data l) ≡ 30 + length l.pool + length l.media + length (totals_bytes l.totals)
unfolding session_label_data
length-session_label_data l = simp (length-append, length-front_bytes, length-u32_bytes, length-u64_bytes, length-text_bytes) (omega arith)

pub length-volume_label_bytes : (l : VolumeLabel)
    → length (volume_label_bytes l) ≡ 39 + length l.name + length l.pool + length l.media + length (host_bytes l.host)
length-volume_label_bytes l = omega (arith, length-fragment_bytes (volume_label_fragment l), length-volume_label_data l)

pub length-session_label_bytes : (l : SessionLabel)
    → length (session_label_bytes l) ≡ 42 + length l.pool + length l.media + length (totals_bytes l.totals)
length-session_label_bytes l = omega (arith, length-fragment_bytes (session_label_fragment l), length-session_label_data l)

-- the index of an end label is that of totals, and the index of a start label that of none
pub ends_with_totals : (totals : Option Totals) → session_label_index totals ≡ end_label_index → IfSome totals AreTotals
    → (t : Totals) × (totals ≡ Some t) × AreTotals t
ends_with_totals None e fits = absurd (cc e)
ends_with_totals (Some t) e fits = (t, refl, fits)

pub starts_with_none : (totals : Option Totals) → session_label_index totals ≡ start_label_index → totals ≡ None
starts_with_none None e = refl
starts_with_none (Some t) e = absurd (cc e)

-- fields that are read one after another are the data
pub volume_data_whole : (l : VolumeLabel) (xs front moment name pool media host : List ℕ) (version : ℕ) → volume_label_version l.host ≡ version
    → xs ≡ front_bytes version ++ front → front ≡ i64_bytes l.moment ++ moment → moment ≡ text_bytes l.name ++ name
    → name ≡ text_bytes l.pool ++ pool → pool ≡ text_bytes l.media ++ media → media ≡ host_bytes l.host ++ host → host ≡ []
    → xs ≡ volume_label_data l
unfolding volume_label_data
volume_data_whole l xs front moment name pool media host version e_version e_front e_moment e_name e_pool e_media e_host none =
    e_front ∙ ap (λ v. front_bytes v ++ front) (sym e_version) ∙ ap (λ r. front_bytes (volume_label_version l.host) ++ r)
    (e_moment ∙ ap (λ r. i64_bytes l.moment ++ r) (e_name ∙ ap (λ r. text_bytes l.name ++ r) (e_pool ∙ ap (λ r. text_bytes l.pool ++ r)
    (e_media ∙ ap (λ r. text_bytes l.media ++ r) (e_host ∙ ap (λ r. host_bytes l.host ++ r) none))))) ∙ simp (append_assoc, append-nil)

pub session_data_whole : (l : SessionLabel) (xs front job moment pool media : List ℕ) → xs ≡ front_bytes 1 ++ front
    → front ≡ u32_bytes l.job ++ job → job ≡ i64_bytes l.moment ++ moment → moment ≡ text_bytes l.pool ++ pool
    → pool ≡ text_bytes l.media ++ media → media ≡ totals_bytes l.totals → xs ≡ session_label_data l
unfolding session_label_data
session_data_whole l xs front job moment pool media e_front e_job e_moment e_pool e_media e_totals =
    e_front ∙ ap (λ r. front_bytes 1 ++ r) (e_job ∙ ap (λ r. u32_bytes l.job ++ r) (e_moment ∙ ap (λ r. i64_bytes l.moment ++ r)
    (e_pool ∙ ap (λ r. text_bytes l.pool ++ r) (e_media ∙ ap (λ r. text_bytes l.media ++ r) e_totals)))) ∙ simp append_assoc

abbrev volume_label_of : List ℕ → List ℕ → List ℕ → ℤ → Option (List ℕ) → VolumeLabel
volume_label_of n p m t h = record { name = n; pool = p; media = m; moment = t; host = h }

-- labels with the same fields are one
pub same_volume_label : (l m : VolumeLabel) → l.name ≡ m.name → l.pool ≡ m.pool → l.media ≡ m.media → l.moment ≡ m.moment
    → l.host ≡ m.host → l ≡ m
same_volume_label l m name pool media moment host =
    ap (λ x. volume_label_of x l.pool l.media l.moment l.host) name ∙ ap (λ x. volume_label_of m.name x l.media l.moment l.host) pool
    ∙ ap (λ x. volume_label_of m.name m.pool x l.moment l.host) media ∙ ap (λ x. volume_label_of m.name m.pool m.media x l.host) moment
    ∙ ap (λ x. volume_label_of m.name m.pool m.media m.moment x) host

abbrev session_label_of : ℕ → List ℕ → List ℕ → ℤ → Option Totals → SessionLabel
session_label_of j p m t o = record { job = j; pool = p; media = m; moment = t; totals = o }

pub same_session_label : (l m : SessionLabel) → l.job ≡ m.job → l.pool ≡ m.pool → l.media ≡ m.media → l.moment ≡ m.moment
    → l.totals ≡ m.totals → l ≡ m
same_session_label l m job pool media moment totals =
    ap (λ x. session_label_of x l.pool l.media l.moment l.totals) job ∙ ap (λ x. session_label_of m.job x l.media l.moment l.totals) pool
    ∙ ap (λ x. session_label_of m.job m.pool x l.moment l.totals) media ∙ ap (λ x. session_label_of m.job m.pool m.media x l.totals) moment
    ∙ ap (λ x. session_label_of m.job m.pool m.media m.moment x) totals

pub length-host_bytes-le : (host : Option (List ℕ)) → IfSome host IsName → length (host_bytes host) ≤ 128
length-host_bytes-le None fits = omega arith
length-host_bytes-le (Some host) fits = omega (arith, length-text_bytes host, fits.1)

-- labels are whole fragments
pub IsFragment-volume_label : (l : VolumeLabel) → IsVolumeLabel l → IsFragment (volume_label_fragment l)
IsFragment-volume_label l fits = record {
  index_fits = record { sfits = omega arith };
  stream_fits = record { sfits = omega arith };
  stream_named = λ zero. elim zero [ inl none ↦ cc | inr least ↦ cc ];
  size_fits = omega (arith, length-volume_label_data l, length-host_bytes-le l.host fits.host, fits.name.1, fits.pool.1, fits.media.1);
  part_within = omega arith;
}

length-totals_bytes-le : (totals : Option Totals) → length (totals_bytes totals) ≤ 20
length-totals_bytes-le None = omega arith
length-totals_bytes-le (Some t) = omega (arith, length-totals_bytes t)

pub length-volume_label_bytes-le : (l : VolumeLabel) → IsVolumeLabel l → length (volume_label_bytes l) ≤ most_volume_label
length-volume_label_bytes-le l fits =
    omega (arith, length-volume_label_bytes l, length-host_bytes-le l.host fits.host, fits.name.1, fits.pool.1, fits.media.1)

pub length-session_label_bytes-le : (l : SessionLabel) → IsSessionLabel l → length (session_label_bytes l) ≤ most_session_label
length-session_label_bytes-le l fits = omega (arith, length-session_label_bytes l, length-totals_bytes-le l.totals, fits.pool.1, fits.media.1)

session_index_fits : (totals : Option Totals) → FitsSigned w32 (session_label_index totals)
session_index_fits None = record { sfits = omega arith }
session_index_fits (Some t) = record { sfits = omega arith }

job_not_zero : (job : ℕ) → 1 ≤ job → pos job ≡ pos 0 → ⊥
job_not_zero job least e = let same : job ≡ 0 = cc in omega arith

pub IsFragment-session_label : (l : SessionLabel) → IsSessionLabel l → IsFragment (session_label_fragment l)
IsFragment-session_label l fits = record {
  index_fits = session_index_fits l.totals;
  stream_fits = let most = fits.job_most in record { sfits = omega arith };
  stream_named = λ zero. elim zero [ inl none ↦ job_not_zero l.job fits.job_least none | inr least ↦ cc ];
  size_fits = omega (arith, length-session_label_data l, length-totals_bytes-le l.totals, fits.pool.1, fits.media.1);
  part_within = omega arith;
}

-- a version fits its field
pub version_fits : (host : Option (List ℕ)) → volume_label_version host < 2 ^ 32
version_fits None = omega arith
version_fits (Some host) = omega arith

-- hosts of one version and with the same bytes are one
host_apart : (a b : Option (List ℕ)) → IfSome a IsName → IfSome b IsName → volume_label_version a ≡ volume_label_version b
    → host_bytes a ++ [] ≡ host_bytes b ++ [] → a ≡ b
host_apart None None a_fits b_fits version e = refl
host_apart None (Some b) a_fits b_fits version e = absurd (cc version)
host_apart (Some a) None a_fits b_fits version e = absurd (cc version)
host_apart (Some a) (Some b) a_fits b_fits version e =
    ap Some (text_apart a b [] [] (IsName-no_zero a a_fits) (IsName-no_zero b b_fits) e).0

-- the data are those of one label
volume_data_apart : (l m : VolumeLabel) → IsVolumeLabel l → IsVolumeLabel m → volume_label_data l ≡ volume_label_data m → l ≡ m
volume_data_apart l m l_fits m_fits e =
    let front = front_apart _ _ _ _ (version_fits l.host) (version_fits m.host) (sym (volume_data_parts l (volume_label_data l) refl) ∙ e ∙ volume_data_parts m (volume_label_data m) refl) in
    let moment = i64_apart l.moment m.moment _ _ l_fits.moment m_fits.moment front.1 in
    let name = text_apart l.name m.name _ _ (IsName-no_zero l.name l_fits.name) (IsName-no_zero m.name m_fits.name) moment.1 in
    let pool = text_apart l.pool m.pool _ _ (IsName-no_zero l.pool l_fits.pool) (IsName-no_zero m.pool m_fits.pool) name.1 in
    let media = text_apart l.media m.media _ _ (IsName-no_zero l.media l_fits.media) (IsName-no_zero m.media m_fits.media) pool.1 in
    same_volume_label l m name.0 pool.0 media.0 moment.0 (host_apart l.host m.host l_fits.host m_fits.host front.0 media.1)

pub volume_fragments_apart : (l m : VolumeLabel) → IsVolumeLabel l → IsVolumeLabel m → volume_label_fragment l ≡ volume_label_fragment m → l ≡ m
volume_fragments_apart l m l_fits m_fits e = volume_data_apart l m l_fits m_fits (ap (λ f. f.part) e)

-- a fragment whose part is as long as its size goes on no more
pub ends_there : (f : Fragment) (xs : List ℕ) → f.size ≡ length f.part → GoesOn f → xs ≡ []
ends_there f xs whole more = absurd (omega arith)

pub volume_labels_apart : VolumeLabelsApart
volume_labels_apart l m l_fits m_fits e =
    let same = fragment_apart (volume_label_fragment l) (volume_label_fragment m) [] [] (IsFragment-volume_label l l_fits) (IsFragment-volume_label m m_fits)
    (ends_there (volume_label_fragment l) [] refl) (ends_there (volume_label_fragment m) [] refl) (ap (λ bytes. bytes ++ []) e) in
    volume_fragments_apart l m l_fits m_fits same.0

abbrev totals_of : ℕ → ℕ → Totals
totals_of r b = record { records = r; bytes = b }

job_fits : (job : ℕ) → job ≤ most_number → job < 2 ^ 32
job_fits job most = omega arith

-- totals that have one index and the same bytes are one
totals_apart : (t u : Option Totals) → IfSome t AreTotals → IfSome u AreTotals → session_label_index t ≡ session_label_index u
    → totals_bytes t ≡ totals_bytes u → t ≡ u
totals_apart None None t_fits u_fits index e = refl
totals_apart None (Some u) t_fits u_fits index e = absurd (cc index)
totals_apart (Some t) None t_fits u_fits index e = absurd (cc index)
totals_apart (Some t) (Some u) t_fits u_fits index e =
    let flat = simp append_assoc at e in
    let records = u64_apart t.records u.records _ _ t_fits.records u_fits.records flat in
    let bytes = u64_apart t.bytes u.bytes _ _ t_fits.bytes u_fits.bytes records.1 in
    ap Some (ap (λ x. totals_of x t.bytes) records.0 ∙ ap (λ x. totals_of u.records x) bytes.0)

session_data_apart : (l m : SessionLabel) → IsSessionLabel l → IsSessionLabel m → session_label_index l.totals ≡ session_label_index m.totals
    → session_label_data l ≡ session_label_data m → l ≡ m
session_data_apart l m l_fits m_fits index e =
    let behind = append_cancel_left (front_bytes 1) _ _ (sym (session_data_parts l (session_label_data l) refl) ∙ e ∙ session_data_parts m (session_label_data m) refl) in
    let job = u32_apart l.job m.job _ _ (job_fits l.job l_fits.job_most) (job_fits m.job m_fits.job_most) behind in
    let moment = i64_apart l.moment m.moment _ _ l_fits.moment m_fits.moment job.1 in
    let pool = text_apart l.pool m.pool _ _ (IsName-no_zero l.pool l_fits.pool) (IsName-no_zero m.pool m_fits.pool) moment.1 in
    let media = text_apart l.media m.media _ _ (IsName-no_zero l.media l_fits.media) (IsName-no_zero m.media m_fits.media) pool.1 in
    same_session_label l m job.0 pool.0 media.0 moment.0 (totals_apart l.totals m.totals l_fits.totals m_fits.totals index media.1)

pub session_fragments_apart : (l m : SessionLabel) → IsSessionLabel l → IsSessionLabel m → session_label_fragment l ≡ session_label_fragment m → l ≡ m
session_fragments_apart l m l_fits m_fits e =
    session_data_apart l m l_fits m_fits (ap (λ f. f.index) e) (ap (λ f. f.part) e)

pub session_labels_apart : SessionLabelsApart
session_labels_apart l m l_fits m_fits e =
    let same = fragment_apart (session_label_fragment l) (session_label_fragment m) [] [] (IsFragment-session_label l l_fits) (IsFragment-session_label m m_fits)
    (ends_there (session_label_fragment l) [] refl) (ends_there (session_label_fragment m) [] refl) (ap (λ bytes. bytes ++ []) e) in
    session_fragments_apart l m l_fits m_fits same.0

-- no session label has the index of a volume label
session_index_other : (totals : Option Totals) → volume_label_index ≡ session_label_index totals → ⊥
session_index_other None e = cc
session_index_other (Some t) e = cc

pub label_kinds_apart : LabelKindsApart
label_kinds_apart l m xs ys e =
    let flat = simp append_assoc at e in
    session_index_other m.totals (i32_apart volume_label_index (session_label_index m.totals) _ _ (record { sfits = omega arith }) (session_index_fits m.totals) flat).0
