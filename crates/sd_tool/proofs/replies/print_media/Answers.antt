use Rattle.std.proofs.Common.{ℕ, List, subst}
use Rattle.sd_text.specs.Says.{Says, said_view}
use Rattle.sd_tool.proofs.TranscriptLemmas.{media_other}
use Rattle.sd_tool.proofs.replies.print_media.Goals as goal

pub returns-in_default : goal.returns-in_default
returns-in_default g c =
    let Prints : List ℕ → Type 0 = λ l. Says (said_view g.W.Write.contents c.args.out.now) (said_view g.W.Write.contents c.print_reply.new.out) l in
    subst Prints (media_other c.args.key c.args.reply.now c.in_default.not-Media) c.print_reply.ensures
