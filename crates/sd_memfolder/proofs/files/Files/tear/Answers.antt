use Rattle.std.proofs.Common.{ap, arith, refl, false}
use Rattle.sd_folder.specs.Meaning.{held_of}
use Rattle.sd_memfolder.specs.Files.{AreSound, NamedFile}
use Rattle.sd_memfolder.proofs.Places.{StandsFirstAt-within}
use Rattle.sd_memfolder.proofs.Calls.{Goes-set, Takes-set, sound-torn}
use Rattle.sd_memfolder.proofs.files.Files.tear.Goals as goal

pub index_mut-file-requires : goal.index_mut-file-requires
index_mut-file-requires c = omega (arith, StandsFirstAt-within _ _ _ c.requires, c.args.self.now.files.ok.0)

pub invariant_of-self : goal.invariant_of-self
invariant_of-self c =
    let sound : AreSound c.args.self.now.files.items c.args.self.now.past.items = record { differ = c.args.self.now.differ; within = c.args.self.now.within; were = c.args.self.now.were } in
    let new = sound-torn _ _ c.args.name.now _ c.index_mut-file.result.now c.tear.new.self sound c.requires c.index_mut-file.ensures.value c.tear.ensures in
    record { differ = new.differ; within = new.within; were = new.were }

pub returns-clause-goes : goal.returns-clause-goes
returns-clause-goes c =
    Goes-set _ _ _ c.args.name.now _ c.index_mut-file.result.now c.tear.new.self false c.requires c.index_mut-file.ensures.value
    (ap (λ (f : NamedFile). f.name) c.tear.ensures) (ap (λ (f : NamedFile). held_of f.state) c.tear.ensures) refl

pub returns-clause-ok : goal.returns-clause-ok
returns-clause-ok c =
    Takes-set _ _ _ _ c.args.name.now _ c.index_mut-file.result.now c.tear.new.self c.requires c.index_mut-file.ensures.value
    (ap (λ (f : NamedFile). f.name) c.tear.ensures) (ap (λ (f : NamedFile). f.state) c.tear.ensures)
