-- The labels of volumes and sessions: which values they have, and their bytes. What is `unfoldable`
-- stays closed in the proofs above: lemmas say how long it is, and that no two labels share it.
use Rattle.std.specs.Prelude.{◌≡◌, ℕ, ◌^◌, ◌≤◌, ◌<◌, ℤ, pos, neg_ℤ, FitsSigned, List, [], ◌∷◌, ◌++◌, length, All, IfSome, Option, Some, None, codes}
use Rattle.std.specs.Int.{w64}
use Rattle.sd_base.specs.Field.{u32_bytes, u64_bytes, i64_bytes}
use Rattle.sd_base.specs.Name.{IsName}
use Rattle.sd_base.specs.Limits.{most_number}
use Rattle.sd_record.specs.Fragment.{Fragment, fragment_bytes}
use Rattle.sd_label.specs.declared.label.VolumeLabel.{VolumeLabel}
use Rattle.sd_label.specs.declared.label.SessionLabel.{SessionLabel}
use Rattle.sd_label.specs.declared.label.Totals.{Totals}

-- The codes and lengths of labels, as numbers of their own: a constant of the code that differs from
-- its number here breaks the proofs of what it serves.

-- the FileIndex of a volume label
abbrev pub volume_label_index : ℤ
volume_label_index = neg_ℤ (pos 2)

-- the FileIndex of a session label that starts its session
abbrev pub start_label_index : ℤ
start_label_index = neg_ℤ (pos 4)

-- the FileIndex of a session label that ends its session
abbrev pub end_label_index : ℤ
end_label_index = neg_ℤ (pos 5)

-- the version that a volume label says: 1 if it has no host, 2 if it has one
abbrev pub volume_label_version : Option (List ℕ) → ℕ
volume_label_version None = 1
volume_label_version (Some host) = 2

-- the most data bytes of a label: those of a volume label with its host, all four names of 127 characters
abbrev pub most_label_data : ℕ
most_label_data = 536

-- the most bytes of a volume label's record
abbrev pub most_volume_label : ℕ
most_volume_label = 548

-- the most bytes of a session label's record
abbrev pub most_session_label : ℕ
most_session_label = 316

-- three names, a moment, and perhaps the name of a host
pub record IsVolumeLabel (l : VolumeLabel) : Type 0 where
  pub name : IsName l.name
  pub pool : IsName l.pool
  pub media : IsName l.media
  pub moment : FitsSigned w64 l.moment
  pub host : IfSome l.host IsName

-- both counts fit their fields
pub record AreTotals (t : Totals) : Type 0 where
  pub records : t.records < 2 ^ 64
  pub bytes : t.bytes < 2 ^ 64

-- a job, two names, a moment, and at the end of a session its totals
pub record IsSessionLabel (l : SessionLabel) : Type 0 where
  pub job_least : 1 ≤ l.job
  pub job_most : l.job ≤ most_number
  pub pool : IsName l.pool
  pub media : IsName l.media
  pub moment : FitsSigned w64 l.moment
  pub totals : IfSome l.totals AreTotals

-- none of its bytes is zero, so the first zero byte after it ends it
abbrev pub HasNoZero : List ℕ → Type 0
HasNoZero text = All (λ byte. 0 < byte) text

-- a text, and one zero byte
unfoldable pub text_bytes : List ℕ → List ℕ
text_bytes text = text ++ 0 ∷ []

-- what every label begins with: the name of the profile, and the version of the label
unfoldable pub front_bytes : ℕ → List ℕ
front_bytes version = text_bytes (codes "sd-profile\n") ++ u32_bytes version

-- the host that a volume label says last, if it has one
abbrev pub host_bytes : Option (List ℕ) → List ℕ
host_bytes None = []
host_bytes (Some host) = text_bytes host

-- the data of a volume label
unfoldable pub volume_label_data : VolumeLabel → List ℕ
volume_label_data l =
    front_bytes (volume_label_version l.host) ++ i64_bytes l.moment
    ++ text_bytes l.name ++ text_bytes l.pool ++ text_bytes l.media ++ host_bytes l.host

-- a start label has no totals; an end label has them, and the status of a job that ended, `T`
abbrev pub totals_bytes : Option Totals → List ℕ
totals_bytes None = []
totals_bytes (Some t) = u64_bytes t.records ++ u64_bytes t.bytes ++ u32_bytes 84

-- the data of a session label, of version 1
unfoldable pub session_label_data : SessionLabel → List ℕ
session_label_data l =
    front_bytes 1 ++ u32_bytes l.job ++ i64_bytes l.moment
    ++ text_bytes l.pool ++ text_bytes l.media ++ totals_bytes l.totals

-- the index says whether a session starts or ends
abbrev pub session_label_index : Option Totals → ℤ
session_label_index None = start_label_index
session_label_index (Some t) = end_label_index

-- a volume label as a record, which is never split; its stream is 1
abbrev pub volume_label_fragment : VolumeLabel → Fragment
volume_label_fragment l =
    record {
      index = volume_label_index;
      stream = pos 1;
      size = length (volume_label_data l);
      part = volume_label_data l;
    }

-- a session label as a record, which is never split; its stream is the job
abbrev pub session_label_fragment : SessionLabel → Fragment
session_label_fragment l =
    record {
      index = session_label_index l.totals;
      stream = pos l.job;
      size = length (session_label_data l);
      part = session_label_data l;
    }

-- a volume label's record, header and data
abbrev pub volume_label_bytes : VolumeLabel → List ℕ
volume_label_bytes l = fragment_bytes (volume_label_fragment l)

-- a session label's record, header and data
abbrev pub session_label_bytes : SessionLabel → List ℕ
session_label_bytes l = fragment_bytes (session_label_fragment l)

-- two volume labels with the same bytes are one label
abbrev pub VolumeLabelsApart : Type 0
VolumeLabelsApart =
    (l m : VolumeLabel) → IsVolumeLabel l → IsVolumeLabel m
    → volume_label_bytes l ≡ volume_label_bytes m → l ≡ m

-- two session labels with the same bytes are one label
abbrev pub SessionLabelsApart : Type 0
SessionLabelsApart =
    (l m : SessionLabel) → IsSessionLabel l → IsSessionLabel m
    → session_label_bytes l ≡ session_label_bytes m → l ≡ m

-- no bytes are those of a volume label and of a session label, whatever follows either
abbrev pub LabelKindsApart : Type 0
LabelKindsApart =
    (l : VolumeLabel) (m : SessionLabel) (xs ys : List ℕ)
    → volume_label_bytes l ++ xs ≡ session_label_bytes m ++ ys → ⊥
