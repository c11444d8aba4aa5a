use Rattle.sd_console.proofs.TextLemmas.{requests_whole}
use Rattle.sd_console.proofs.requests.requests_text.Goals as goal

pub returns : goal.returns
returns c =
    requests_whole c.args.requests.now _ _ _ c.new-text.ensures.bytes c.in_ok-put_requests.ensures c.in_ok-put_count.ensures
