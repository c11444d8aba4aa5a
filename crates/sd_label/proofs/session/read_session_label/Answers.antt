use Rattle.std.proofs.Common.{◌≡◌, refl, ap, sym, ◌∙◌, rules, Err}
use Rattle.std.specs.Prelude.{FitsSigned}
use Rattle.std.specs.Int.{w32, cast_unsigned}
use Rattle.std.proofs.lemmas.Int.{to_z-of_z}
use Rattle.sd_record.specs.Fragment.{Fragment}
use Rattle.sd_label.specs.declared.label.SessionLabel.{SessionLabel}
use Rattle.sd_label.specs.declared.label.NotOurs.{NotOurs}
use Rattle.sd_label.specs.Label.{IsSessionLabel, session_label_bytes, session_label_fragment}
use Rattle.sd_label.proofs.AnswerLemmas.{never_ok, same_ok, none_ours}
use Rattle.sd_label.proofs.LabelLemmas.{IsFragment-session_label}
use Rattle.sd_label.proofs.session.read_session_label.Goals as goal

pub returns-in_err-record-clause-read_back : goal.returns-in_err-record-clause-read_back
returns-in_err-record-clause-read_back c l fits e =
    absurd (never_ok _ (session_label_fragment l) (c.in_err-record.ensures.read_back (session_label_fragment l) (IsFragment-session_label l fits) refl e))

pub returns-in_err-record-clause-ours : goal.returns-in_err-record-clause-ours
returns-in_err-record-clause-ours c =
    none_ours c.from_residual.result IsSessionLabel (λ l. c.args.bytes.now ≡ session_label_bytes l) c.from_residual.ensures.0 (λ l fits e.
    never_ok _ (session_label_fragment l) (c.in_err-record.ensures.read_back (session_label_fragment l) (IsFragment-session_label l fits) refl e))

pub returns-in_err-label-clause-ours : goal.returns-in_err-label-clause-ours
returns-in_err-label-clause-ours c =
    none_ours c.from_residual-in_err-label.result IsSessionLabel (λ l. c.args.bytes.now ≡ session_label_bytes l) c.from_residual-in_err-label.ensures.0 (λ l fits e.
    let found = c.record.view_is ∙ same_ok _ (session_label_fragment l) (c.in_ok-record.ensures.read_back (session_label_fragment l) (IsFragment-session_label l fits) refl e) in
    let range : FitsSigned w32 c.record.inside.index = search rules in
    let index = sym (ap (λ (f : Fragment). f.index) found) ∙ sym (to_z-of_z w32 c.record.inside.index range) in
    never_ok _ l (c.in_err-label.ensures.read_back l fits index (ap (λ (f : Fragment). f.part) found)))

pub returns-in_err-label-clause-read_back : goal.returns-in_err-label-clause-read_back
returns-in_err-label-clause-read_back c l fits e =
    let found = c.record.view_is ∙ same_ok _ (session_label_fragment l) (c.in_ok-record.ensures.read_back (session_label_fragment l) (IsFragment-session_label l fits) refl e) in
    let range : FitsSigned w32 c.record.inside.index = search rules in
    let index = sym (ap (λ (f : Fragment). f.index) found) ∙ sym (to_z-of_z w32 c.record.inside.index range) in
    absurd (never_ok _ l (c.in_err-label.ensures.read_back l fits index (ap (λ (f : Fragment). f.part) found)))

pub returns-then-record-get-clause-read_back : goal.returns-then-record-get-clause-read_back
returns-then-record-get-clause-read_back c l fits e =
    let found = c.record.view_is ∙ same_ok _ (session_label_fragment l) (c.in_ok-record.ensures.read_back (session_label_fragment l) (IsFragment-session_label l fits) refl e) in
    let range : FitsSigned w32 c.record.inside.index = search rules in
    let index = sym (ap (λ (f : Fragment). f.index) found) ∙ sym (to_z-of_z w32 c.record.inside.index range) in
    let label = same_ok _ l (c.in_ok-label.ensures.read_back l fits index (ap (λ (f : Fragment). f.part) found)) in
    let job = c.get.ensures.value ∙ ap (λ (m : SessionLabel). m.job) label in
    absurd (c.if-record-get.true (ap (λ (f : Fragment). cast_unsigned w32 f.stream) found ∙ sym job))

pub returns-then-record-get-clause-ours : goal.returns-then-record-get-clause-ours
returns-then-record-get-clause-ours c =
    none_ours {E = NotOurs} (Err (record {})) IsSessionLabel (λ l. c.args.bytes.now ≡ session_label_bytes l) refl (λ l fits e.
    never_ok _ l (returns-then-record-get-clause-read_back c l fits e))

pub returns-clause-read_back : goal.returns-clause-read_back
returns-clause-read_back c l fits e =
    let found = c.record.view_is ∙ same_ok _ (session_label_fragment l) (c.in_ok-record.ensures.read_back (session_label_fragment l) (IsFragment-session_label l fits) refl e) in
    let range : FitsSigned w32 c.record.inside.index = search rules in
    let index = sym (ap (λ (f : Fragment). f.index) found) ∙ sym (to_z-of_z w32 c.record.inside.index range) in
    c.in_ok-label.ensures.read_back l fits index (ap (λ (f : Fragment). f.part) found)
