use Rattle.std.proofs.Common.{rules, ℕ, List, ◌++◌, length, ap, Err, ◌∙◌}
use Rattle.sd_spool.specs.Job.{begin_bytes}
use Rattle.sd_pack.specs.Body.{PackedBody}
use Rattle.sd_spool.proofs.Entries.{fails_to_put, puts, keeps}
use Rattle.sd_spool.proofs.job.JobSpool.put_body.Goals as goal
use Rattle.sd_spool.proofs.job.JobSpool.put_body.Goals.{then-is_first, else-is_first}

pub put-requires-clause-fits : goal.put-requires-clause-fits
put-requires-clause-fits g c κs within = elim c.if-is_first.branch [ then-is_first w ↦ search rules | else-is_first w ↦ search rules ]

pub returns-in-Err-Device-clause-device : goal.returns-in-Err-Device-clause-device
returns-in-Err-Device-clause-device g c = λ _. fails_to_put c.args.self.now (g.S.SpoolStore.meaning c.self.inside.store) (g.S.SpoolStore.meaning c.put.new.store) c.self.inside.entries.items c.reserve.new.self.items c.self.inside.extent c.put.new.self c.self.inside.limit c.is_empty-is_first.result c.self.view_is c.reserve.ensures.items c.self.invariant c.is_empty-is_first.ensures.shapes c.in-Err-Device.ensures.stand (λ f. c.in-Err-Device.ensures.device f (ap Err c.in-Err-Device.field-0-is))

pub invariant_of-self-2 : goal.invariant_of-self-2
invariant_of-self-2 g c = keeps c.args.self.now (g.S.SpoolStore.meaning c.self.inside.store) (g.S.SpoolStore.meaning c.put.new.store) c.self.inside.entries.items c.push_back.new.self.items c.self.inside.extent c.put.new.self c.self.inside.limit c.is_empty-is_first.result (record { at = c.in-Ok.at; length = length c.as_slice-bytes.result.now; first = c.body.inside.first; last = c.body.inside.last }) (record { bytes = c.body.inside.bytes.bytes; first = c.body.inside.first; last = c.body.inside.last }) c.self.view_is (search rules) c.self.invariant c.is_empty-is_first.ensures.shapes c.body.invariant (search rules) c.in-Ok.ensures.at (search rules) (search rules) c.in-Ok.ensures.ends

pub returns-clause-ok : goal.returns-clause-ok
returns-clause-ok g c = puts c.args.self.now (g.S.SpoolStore.meaning c.self.inside.store) (g.S.SpoolStore.meaning c.put.new.store) c.self.inside.entries.items c.push_back.new.self.items c.self.inside.extent c.put.new.self c.self.inside.limit c.is_empty-is_first.result (record { at = c.in-Ok.at; length = length c.as_slice-bytes.result.now; first = c.body.inside.first; last = c.body.inside.last }) c.args.body.now c.self.view_is (search rules) c.self.invariant c.is_empty-is_first.ensures.shapes (search rules) c.in-Ok.ensures.at (search rules) c.in-Ok.ensures.torn (let e = c.as_slice-bytes.ensures ∙ ap (λ (b : PackedBody). b.bytes) c.body.view_is in λ h. c.in-Ok.ensures.bytes h ∙ ap (λ (x : List ℕ). begin_bytes c.is_empty-is_first.result (g.S.SpoolStore.meaning c.self.inside.store).bytes ++ x) e)
