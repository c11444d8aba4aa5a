use Rattle.std.proofs.Common.{refl, ap, ◌∙◌, ◌++◌}
use Rattle.sd_base.specs.Field.{u32_bytes}
use Rattle.sd_label.specs.Label.{text_bytes}
use Rattle.sd_label.proofs.TextLemmas.{profile_text-no_zero, profile_text, front_parts, front_read}
use Rattle.sd_label.proofs.fields.Fields.take_front.Goals as goal

pub returns-in_err-text-clause-read_back : goal.returns-in_err-text-clause-read_back
returns-in_err-text-clause-read_back c version more fits begins =
    absurd (c.in_err-text.ensures.read_back profile_text (u32_bytes version ++ more) profile_text-no_zero (front_parts version c.args.self.now more begins)).0

pub returns-then-not-is_profile-clause-read_back : goal.returns-then-not-is_profile-clause-read_back
returns-then-not-is_profile-clause-read_back c version more fits begins =
    let text = c.in_ok-text.ensures.read_back profile_text (u32_bytes version ++ more) profile_text-no_zero (front_parts version c.args.self.now more begins) in
    absurd (cc (c.if-not-is_profile.ensures.1 text.0))

pub returns-clause-field : goal.returns-clause-field
returns-clause-field c =
    let profile = c.if-not-is_profile.ensures.0 refl in
    front_read c.take_u32.result c.args.self.now c.take_text.new.self c.take_u32.new.self
    (c.in_ok-text.ensures.field ∙ ap (λ t. text_bytes t ++ c.take_text.new.self) profile) c.take_u32.ensures.field

pub returns-clause-read_back : goal.returns-clause-read_back
returns-clause-read_back c version more fits begins =
    let text = c.in_ok-text.ensures.read_back profile_text (u32_bytes version ++ more) profile_text-no_zero (front_parts version c.args.self.now more begins) in
    c.take_u32.ensures.read_back version more fits text.1
