use Rattle.std.proofs.Common.{refl, ap, sym, ◌∙◌, rules, [], ◌++◌, Ok}
use Rattle.std.specs.Prelude.{FitsSigned}
use Rattle.std.specs.Int.{w64}
use Rattle.std.proofs.lemmas.Bool.{false≢true}
use Rattle.std.proofs.lemmas.Int.{to_z-of_z}
use Rattle.sd_base.specs.Field.{i64_bytes}
use Rattle.sd_label.proofs.AnswerLemmas.{never_ok, same_ok}
use Rattle.sd_label.proofs.LabelLemmas.{version_fits, volume_data_parts, volume_data_whole, same_volume_label}
use Rattle.sd_label.proofs.volume.label_of.Goals as goal

pub returns-in_err-version-clause-read_back : goal.returns-in_err-version-clause-read_back
returns-in_err-version-clause-read_back c l fits e =
    absurd (never_ok _ _ (c.in_err-version.ensures.read_back _ _ (version_fits l.host) (c.new-fields.ensures ∙ volume_data_parts l c.args.bytes.now e)).0)

pub returns-in_err-moment-clause-read_back : goal.returns-in_err-moment-clause-read_back
returns-in_err-moment-clause-read_back c l fits e =
    let front = c.in_ok-version.ensures.read_back _ _ (version_fits l.host) (c.new-fields.ensures ∙ volume_data_parts l c.args.bytes.now e) in
    absurd (never_ok _ l.moment (c.in_err-moment.ensures.read_back l.moment _ fits.moment front.1).0)

pub returns-in_err-name-clause-read_back : goal.returns-in_err-name-clause-read_back
returns-in_err-name-clause-read_back c l fits e =
    let front = c.in_ok-version.ensures.read_back _ _ (version_fits l.host) (c.new-fields.ensures ∙ volume_data_parts l c.args.bytes.now e) in
    let moment = c.in_ok-moment.ensures.read_back l.moment _ fits.moment front.1 in
    absurd (never_ok _ l.name (c.in_err-name.ensures.read_back l.name _ fits.name moment.1).0)

pub returns-in_err-pool-clause-read_back : goal.returns-in_err-pool-clause-read_back
returns-in_err-pool-clause-read_back c l fits e =
    let front = c.in_ok-version.ensures.read_back _ _ (version_fits l.host) (c.new-fields.ensures ∙ volume_data_parts l c.args.bytes.now e) in
    let moment = c.in_ok-moment.ensures.read_back l.moment _ fits.moment front.1 in
    let name = c.in_ok-name.ensures.read_back l.name _ fits.name moment.1 in
    absurd (never_ok _ l.pool (c.in_err-pool.ensures.read_back l.pool _ fits.pool name.1).0)

pub returns-in_err-media-clause-read_back : goal.returns-in_err-media-clause-read_back
returns-in_err-media-clause-read_back c l fits e =
    let front = c.in_ok-version.ensures.read_back _ _ (version_fits l.host) (c.new-fields.ensures ∙ volume_data_parts l c.args.bytes.now e) in
    let moment = c.in_ok-moment.ensures.read_back l.moment _ fits.moment front.1 in
    let name = c.in_ok-name.ensures.read_back l.name _ fits.name moment.1 in
    let pool = c.in_ok-pool.ensures.read_back l.pool _ fits.pool name.1 in
    absurd (never_ok _ l.media (c.in_err-media.ensures.read_back l.media _ fits.media pool.1).0)

pub returns-in_err-host-clause-read_back : goal.returns-in_err-host-clause-read_back
returns-in_err-host-clause-read_back c l fits e =
    let front = c.in_ok-version.ensures.read_back _ _ (version_fits l.host) (c.new-fields.ensures ∙ volume_data_parts l c.args.bytes.now e) in
    let moment = c.in_ok-moment.ensures.read_back l.moment _ fits.moment front.1 in
    let name = c.in_ok-name.ensures.read_back l.name _ fits.name moment.1 in
    let pool = c.in_ok-pool.ensures.read_back l.pool _ fits.pool name.1 in
    let media = c.in_ok-media.ensures.read_back l.media _ fits.media pool.1 in
    absurd (never_ok _ l.host (c.in_err-host.ensures.read_back l.host [] fits.host (sym (same_ok _ _ front.0)) media.1).0)

pub returns-then-not-is_empty-clause-read_back : goal.returns-then-not-is_empty-clause-read_back
returns-then-not-is_empty-clause-read_back c l fits e =
    let front = c.in_ok-version.ensures.read_back _ _ (version_fits l.host) (c.new-fields.ensures ∙ volume_data_parts l c.args.bytes.now e) in
    let moment = c.in_ok-moment.ensures.read_back l.moment _ fits.moment front.1 in
    let name = c.in_ok-name.ensures.read_back l.name _ fits.name moment.1 in
    let pool = c.in_ok-pool.ensures.read_back l.pool _ fits.pool name.1 in
    let media = c.in_ok-media.ensures.read_back l.media _ fits.media pool.1 in
    let host = c.in_ok-host.ensures.read_back l.host [] fits.host (sym (same_ok _ _ front.0)) media.1 in
    absurd (false≢true (c.if-not-is_empty.ensures.1 host.1))

pub returns-clause-bytes : goal.returns-clause-bytes
returns-clause-bytes c =
    let read : FitsSigned w64 c.in_ok-moment.moment = search rules in
    let moment = to_z-of_z w64 c.in_ok-moment.moment read in
    volume_data_whole (record { name = c.in_ok-name.name; pool = c.in_ok-pool.pool; media = c.in_ok-media.media; moment = _; host = c.in_ok-host.host }) c.args.bytes.now _ _ _ _ _ _ _ c.in_ok-host.ensures.version
    (sym c.new-fields.ensures ∙ c.in_ok-version.ensures.field) (c.in_ok-moment.ensures.field ∙ ap (λ z. i64_bytes z ++ c.take_i64.new.self) (sym moment)) c.in_ok-name.ensures.field c.in_ok-pool.ensures.field
    c.in_ok-media.ensures.field c.in_ok-host.ensures.field (c.if-not-is_empty.ensures.0 refl)

pub returns-clause-read_back : goal.returns-clause-read_back
returns-clause-read_back c l fits e =
    let front = c.in_ok-version.ensures.read_back _ _ (version_fits l.host) (c.new-fields.ensures ∙ volume_data_parts l c.args.bytes.now e) in
    let moment = c.in_ok-moment.ensures.read_back l.moment _ fits.moment front.1 in
    let name = c.in_ok-name.ensures.read_back l.name _ fits.name moment.1 in
    let pool = c.in_ok-pool.ensures.read_back l.pool _ fits.pool name.1 in
    let media = c.in_ok-media.ensures.read_back l.media _ fits.media pool.1 in
    let host = c.in_ok-host.ensures.read_back l.host [] fits.host (sym (same_ok _ _ front.0)) media.1 in
    let read : FitsSigned w64 c.in_ok-moment.moment = search rules in
    ap Ok (same_volume_label _ l (same_ok _ l.name name.0) (same_ok _ l.pool pool.0) (same_ok _ l.media media.0) (to_z-of_z w64 c.in_ok-moment.moment read ∙ same_ok _ l.moment moment.0) (same_ok _ l.host host.0))
