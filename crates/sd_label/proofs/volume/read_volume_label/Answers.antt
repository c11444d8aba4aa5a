use Rattle.std.proofs.Common.{◌≡◌, refl, ap, ◌∙◌, inl, inr, rules, Err}
use Rattle.std.specs.Prelude.{IfOk}
use Rattle.std.specs.Int.{w32, cast_unsigned}
use Rattle.sd_record.specs.Fragment.{Fragment}
use Rattle.sd_label.specs.declared.label.NotOurs.{NotOurs}
use Rattle.sd_label.specs.Label.{IsVolumeLabel, volume_label_bytes, volume_label_fragment}
use Rattle.sd_label.proofs.AnswerLemmas.{never_ok, same_ok, ours_from, none_ours}
use Rattle.sd_label.proofs.LabelLemmas.{IsFragment-volume_label}
use Rattle.sd_label.proofs.volume.read_volume_label.Goals as goal

pub returns-in_err-record-clause-read_back : goal.returns-in_err-record-clause-read_back
returns-in_err-record-clause-read_back c l fits e =
    absurd (never_ok _ (volume_label_fragment l) (c.in_err-record.ensures.read_back (volume_label_fragment l) (IsFragment-volume_label l fits) refl e))

pub returns-in_err-record-clause-ours : goal.returns-in_err-record-clause-ours
returns-in_err-record-clause-ours c =
    none_ours c.from_residual.result IsVolumeLabel (λ l. c.args.bytes.now ≡ volume_label_bytes l) c.from_residual.ensures.0 (λ l fits e.
    never_ok _ (volume_label_fragment l) (c.in_err-record.ensures.read_back (volume_label_fragment l) (IsFragment-volume_label l fits) refl e))

pub returns-then-record-clause-read_back : goal.returns-then-record-clause-read_back
returns-then-record-clause-read_back c l fits e =
    let found = c.record.view_is ∙ same_ok _ (volume_label_fragment l) (c.in_ok-record.ensures.read_back (volume_label_fragment l) (IsFragment-volume_label l fits) refl e) in
    absurd (elim c.then-record.either [
      | inl other ↦ other (ap (λ (f : Fragment). cast_unsigned w32 f.index) found)
      | inr other ↦ other.1 (ap (λ (f : Fragment). cast_unsigned w32 f.stream) found)
    ])

pub returns-then-record-clause-ours : goal.returns-then-record-clause-ours
returns-then-record-clause-ours c =
    none_ours {E = NotOurs} (Err (record {})) IsVolumeLabel (λ l. c.args.bytes.now ≡ volume_label_bytes l) refl (λ l fits e.
    never_ok _ l (returns-then-record-clause-read_back c l fits e))

pub returns-clause-read_back : goal.returns-clause-read_back
returns-clause-read_back c l fits e =
    let found = same_ok _ (volume_label_fragment l) (c.in_ok-record.ensures.read_back (volume_label_fragment l) (IsFragment-volume_label l fits) refl e) in
    c.label_of.ensures.read_back l fits (ap (λ (f : Fragment). f.part) (c.record.view_is ∙ found))

pub returns-clause-ours : goal.returns-clause-ours
returns-clause-ours c =
    let label : IfOk c.label_of.result (λ l. IsVolumeLabel l × (c.args.bytes.now ≡ volume_label_bytes l)) = search rules in
    ours_from c.label_of.result IsVolumeLabel (λ l. c.args.bytes.now ≡ volume_label_bytes l) label (returns-clause-read_back c)
