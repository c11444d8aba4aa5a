use Rattle.std.proofs.Common.{◌∙◌}
use Rattle.sd_text.specs.Says.{said_view}
use Rattle.sd_conf.proofs.CheckLemmas.{says_drive_line}
use Rattle.sd_conf.proofs.check.print_drive.Goals as goal

pub returns : goal.returns
returns g c =
    says_drive_line c.args.number c.args.drive.now _ _ _ (said_view g.W.Write.contents c.bytes.new.self) (said_view g.W.Write.contents c.print_number.new.out)
    (said_view g.W.Write.contents c.bytes-2.new.self) (said_view g.W.Write.contents c.bytes-3.new.self) (said_view g.W.Write.contents c.bytes-4.new.self)
    (said_view g.W.Write.contents c.print_number-2.new.out) (said_view g.W.Write.contents c.bytes-5.new.self) (said_view g.W.Write.contents c.bytes-6.new.self) _
    (c.as_bytes.ensures.value ∙ c.as_str.ensures.spelled) (c.as_bytes-2.ensures.value ∙ c.as_str-2.ensures) c.bytes.ensures.says c.print_number.ensures c.bytes-2.ensures.says c.bytes-3.ensures.says
    c.bytes-4.ensures.says c.print_number-2.ensures c.bytes-5.ensures.says c.bytes-6.ensures.says c.bytes-7.ensures.says
