use Rattle.sd_lines.proofs.unused.UnusedDrive.begin.Goals as goal

pub ends_of-requires-after_bounds : goal.ends_of-requires-after_bounds
ends_of-requires-after_bounds g c κs within = λ k seat is. (c.in-Ok.ensures.new k seat is).1
