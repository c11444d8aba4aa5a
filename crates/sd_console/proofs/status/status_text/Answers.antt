use Rattle.sd_console.proofs.TextLemmas.{status_whole}
use Rattle.sd_console.proofs.status.status_text.Goals as goal

pub returns : goal.returns
returns c =
    status_whole c.args.view.now _ _ _ _ _ _ _ _ c.as_slice.ensures c.as_slice-2.ensures c.as_slice-3.ensures c.new-text.ensures.bytes
    c.in_ok-put_drives.ensures c.in_ok-put_volumes.ensures c.in_ok-put_sessions.ensures c.in_ok-push_str.ensures.bytes
