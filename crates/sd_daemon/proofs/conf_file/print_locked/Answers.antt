use Rattle.std.proofs.Common.{◌∙◌}
use Rattle.sd_text.specs.Says.{said_view}
use Rattle.sd_daemon.proofs.ServeLemmas.{says_folder_line}
use Rattle.sd_daemon.proofs.conf_file.print_locked.Goals as goal

pub returns : goal.returns
returns g c =
    says_folder_line c.args.folder.now _ _ (said_view g.W.Write.contents c.bytes.new.self) (said_view g.W.Write.contents c.bytes-2.new.self)
    (said_view g.W.Write.contents c.bytes-3.new.self) _ (c.as_bytes.ensures.value ∙ c.as_str.ensures)
    c.bytes.ensures.says c.bytes-2.ensures.says c.bytes-3.ensures.says c.bytes-4.ensures.says
