use Rattle.std.proofs.Common.{◌≡◌, arith, ap, sym, ◌∙◌, rules, ◌++◌, Ok}
use Rattle.std.specs.Prelude.{FitsSigned}
use Rattle.std.specs.Int.{w32, w64}
use Rattle.std.proofs.lemmas.Int.{to_z-of_z}
use Rattle.sd_base.specs.Field.{i64_bytes}
use Rattle.sd_label.specs.Label.{front_bytes}
use Rattle.sd_label.proofs.AnswerLemmas.{never_ok, same_ok}
use Rattle.sd_label.proofs.LabelLemmas.{session_data_parts, session_data_whole, same_session_label}
use Rattle.sd_label.proofs.session.label_of.Goals as goal

pub returns-in_err-version-clause-read_back : goal.returns-in_err-version-clause-read_back
returns-in_err-version-clause-read_back c l fits index e =
    absurd (never_ok _ 1 (c.in_err-version.ensures.read_back 1 _ (omega arith) (c.new-fields.ensures ∙ session_data_parts l c.args.bytes.now e)).0)

pub returns-then-version-ne-SESSION_LABEL_VERSION-clause-read_back : goal.returns-then-version-ne-SESSION_LABEL_VERSION-clause-read_back
returns-then-version-ne-SESSION_LABEL_VERSION-clause-read_back c l fits index e =
    let front = c.in_ok-version.ensures.read_back 1 _ (omega arith) (c.new-fields.ensures ∙ session_data_parts l c.args.bytes.now e) in
    let same = same_ok c.in_ok-version.version 1 front.0 in
    absurd (omega arith)

pub returns-in_err-job-clause-read_back : goal.returns-in_err-job-clause-read_back
returns-in_err-job-clause-read_back c l fits index e =
    let front = c.in_ok-version.ensures.read_back 1 _ (omega arith) (c.new-fields.ensures ∙ session_data_parts l c.args.bytes.now e) in
    absurd (never_ok _ l.job (c.in_err-job.ensures.read_back l.job _ fits.job_least fits.job_most front.1).0)

pub returns-in_err-moment-clause-read_back : goal.returns-in_err-moment-clause-read_back
returns-in_err-moment-clause-read_back c l fits index e =
    let front = c.in_ok-version.ensures.read_back 1 _ (omega arith) (c.new-fields.ensures ∙ session_data_parts l c.args.bytes.now e) in
    let job = c.in_ok-job.ensures.read_back l.job _ fits.job_least fits.job_most front.1 in
    absurd (never_ok _ l.moment (c.in_err-moment.ensures.read_back l.moment _ fits.moment job.1).0)

pub returns-in_err-pool-clause-read_back : goal.returns-in_err-pool-clause-read_back
returns-in_err-pool-clause-read_back c l fits index e =
    let front = c.in_ok-version.ensures.read_back 1 _ (omega arith) (c.new-fields.ensures ∙ session_data_parts l c.args.bytes.now e) in
    let job = c.in_ok-job.ensures.read_back l.job _ fits.job_least fits.job_most front.1 in
    let moment = c.in_ok-moment.ensures.read_back l.moment _ fits.moment job.1 in
    absurd (never_ok _ l.pool (c.in_err-pool.ensures.read_back l.pool _ fits.pool moment.1).0)

pub returns-in_err-media-clause-read_back : goal.returns-in_err-media-clause-read_back
returns-in_err-media-clause-read_back c l fits index e =
    let front = c.in_ok-version.ensures.read_back 1 _ (omega arith) (c.new-fields.ensures ∙ session_data_parts l c.args.bytes.now e) in
    let job = c.in_ok-job.ensures.read_back l.job _ fits.job_least fits.job_most front.1 in
    let moment = c.in_ok-moment.ensures.read_back l.moment _ fits.moment job.1 in
    let pool = c.in_ok-pool.ensures.read_back l.pool _ fits.pool moment.1 in
    absurd (never_ok _ l.media (c.in_err-media.ensures.read_back l.media _ fits.media pool.1).0)

pub returns-in_err-totals-clause-read_back : goal.returns-in_err-totals-clause-read_back
returns-in_err-totals-clause-read_back c l fits index e =
    let front = c.in_ok-version.ensures.read_back 1 _ (omega arith) (c.new-fields.ensures ∙ session_data_parts l c.args.bytes.now e) in
    let job = c.in_ok-job.ensures.read_back l.job _ fits.job_least fits.job_most front.1 in
    let moment = c.in_ok-moment.ensures.read_back l.moment _ fits.moment job.1 in
    let pool = c.in_ok-pool.ensures.read_back l.pool _ fits.pool moment.1 in
    let media = c.in_ok-media.ensures.read_back l.media _ fits.media pool.1 in
    let range : FitsSigned w32 c.args.index = search rules in
    let asked = index ∙ sym (to_z-of_z w32 c.args.index range) in
    absurd (never_ok _ l.totals (c.in_err-totals.ensures.read_back l.totals fits.totals asked media.1))

pub returns-clause-bytes : goal.returns-clause-bytes
returns-clause-bytes c =
    let read : FitsSigned w64 c.in_ok-moment.moment = search rules in
    let moment = to_z-of_z w64 c.in_ok-moment.moment read in
    let version : c.in_ok-version.version ≡ 1 = omega arith in
    session_data_whole (record { job = c.in_ok-job.job; pool = c.in_ok-pool.pool; media = c.in_ok-media.media; moment = _; totals = c.in_ok-totals.totals }) c.args.bytes.now _ _ _ _ _
    (sym c.new-fields.ensures ∙ c.in_ok-version.ensures.field ∙ ap (λ v. front_bytes v ++ c.take_front.new.self) version) c.in_ok-job.ensures.field (c.in_ok-moment.ensures.field ∙ ap (λ z. i64_bytes z ++ c.take_i64.new.self) (sym moment))
    c.in_ok-pool.ensures.field c.in_ok-media.ensures.field c.in_ok-totals.ensures.field

pub returns-clause-read_back : goal.returns-clause-read_back
returns-clause-read_back c l fits index e =
    let front = c.in_ok-version.ensures.read_back 1 _ (omega arith) (c.new-fields.ensures ∙ session_data_parts l c.args.bytes.now e) in
    let job = c.in_ok-job.ensures.read_back l.job _ fits.job_least fits.job_most front.1 in
    let moment = c.in_ok-moment.ensures.read_back l.moment _ fits.moment job.1 in
    let pool = c.in_ok-pool.ensures.read_back l.pool _ fits.pool moment.1 in
    let media = c.in_ok-media.ensures.read_back l.media _ fits.media pool.1 in
    let range : FitsSigned w32 c.args.index = search rules in
    let asked = index ∙ sym (to_z-of_z w32 c.args.index range) in
    let totals = c.in_ok-totals.ensures.read_back l.totals fits.totals asked media.1 in
    let read : FitsSigned w64 c.in_ok-moment.moment = search rules in
    ap Ok (same_session_label _ l (same_ok _ l.job job.0) (same_ok _ l.pool pool.0) (same_ok _ l.media media.0)
    (to_z-of_z w64 c.in_ok-moment.moment read ∙ same_ok _ l.moment moment.0) (same_ok _ l.totals totals))
