use Rattle.std.proofs.Common.{refl, sym, ◌∙◌}
use Rattle.sd_append.proofs.HeaderLemmas.{text_is, header_form, header_read, not_header, header_one}
use Rattle.sd_append.proofs.header.read_header.Goals as goal

pub returns-in_default-clause-found : goal.returns-in_default-clause-found
returns-in_default-clause-found c header has =
    let read = header_read c.args.packet.now c.in_ok-line.line.now c.new.result header
    (text_is c.args.packet.now c.trimmed.result.now c.in_ok-line.line.now c.trimmed.ensures c.in_ok-line.ensures.found) c.new.ensures has in
    absurd (cc (sym c.in_default.ensures.shape ∙ read))

pub returns-then-not-is_info-clause-found : goal.returns-then-not-is_info-clause-found
returns-then-not-is_info-clause-found c header has =
    let read = header_read c.args.packet.now c.in_ok-line.line.now c.new.result header
    (text_is c.args.packet.now c.trimmed.result.now c.in_ok-line.line.now c.trimmed.ensures c.in_ok-line.ensures.found) c.new.ensures has in
    absurd (cc (c.if-not-is_info.ensures.1 (not_header c.new.result _ header _ has.info c.in-Ok.ensures.shape read has.is_info)))

pub returns-clause-found : goal.returns-clause-found
returns-clause-found c header has =
    let read = header_read c.args.packet.now c.in_ok-line.line.now c.new.result header
    (text_is c.args.packet.now c.trimmed.result.now c.in_ok-line.line.now c.trimmed.ensures c.in_ok-line.ensures.found) c.new.ensures has in
    header_one c.new.result _ header _ has.info c.in-Ok.ensures.shape read

pub returns-clause-form : goal.returns-clause-form
returns-clause-form c =
    header_form c.args.packet.now c.in_ok-line.line.now c.new.result _ c.in-Ok.spelled.info.now
    (text_is c.args.packet.now c.trimmed.result.now c.in_ok-line.line.now c.trimmed.ensures c.in_ok-line.ensures.found) c.new.ensures c.in-Ok.ensures.shape (c.if-not-is_info.ensures.0 refl)
