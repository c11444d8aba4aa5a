use Rattle.std.proofs.Common.{◌∙◌}
use Rattle.sd_text.specs.Says.{said_view}
use Rattle.sd_conf.proofs.CheckLemmas.{says_fault_line}
use Rattle.sd_conf.proofs.check.print_fault.Goals as goal

pub returns : goal.returns
returns g c =
    says_fault_line c.args.key.now _ _ c.args.kind _ (said_view g.W.Write.contents c.bytes.new.self) (said_view g.W.Write.contents c.bytes-2.new.self) (said_view g.W.Write.contents c.bytes-3.new.self)
    (said_view g.W.Write.contents c.bytes-4.new.self) _ (c.as_bytes.ensures.value ∙ c.as_str.ensures) (c.as_bytes-2.ensures.value ∙ c.kind_word.ensures) c.bytes.ensures.says c.bytes-2.ensures.says c.bytes-3.ensures.says
    c.bytes-4.ensures.says c.bytes-5.ensures.says
