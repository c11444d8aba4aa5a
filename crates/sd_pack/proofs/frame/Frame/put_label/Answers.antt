use Rattle.std.proofs.Common.{ℕ, List, ◌++◌, ap, ◌∙◌}
use Rattle.sd_label.specs.Label.{session_label_bytes}
use Rattle.sd_pack.proofs.FrameLemmas.{added}
use Rattle.sd_pack.proofs.frame.Frame.put_label.Goals as goal

pub returns-clause-ok : goal.returns-clause-ok
returns-clause-ok c =
    added c.self.inside.frame.items c.make_header_room.new.frame.items c.put_session_label.new.out.items _ c.in_ok-make_header_room.ensures.room c.make_header_room.ensures.body c.in_ok-put_session_label.ensures.ok
    ∙ ap (λ (old : List ℕ). old ++ session_label_bytes c.args.label.now) c.self.view_is
