use Rattle.std.proofs.Common.{ℕ, List, ◌++◌, ap, ◌∙◌}
use Rattle.sd_record.specs.Fragment.{fragment_bytes}
use Rattle.sd_pack.proofs.FrameLemmas.{added}
use Rattle.sd_pack.proofs.frame.Frame.put_fragment.Goals as goal

pub returns-clause-ok : goal.returns-clause-ok
returns-clause-ok c =
    added c.self.inside.frame.items c.make_header_room.new.frame.items c.put_fragment.new.body.items _ c.in_ok-make_header_room.ensures.room c.make_header_room.ensures.body c.in_ok-put_fragment.ensures.ok
    ∙ ap (λ (old : List ℕ). old ++ fragment_bytes c.args.fragment.now) c.self.view_is
