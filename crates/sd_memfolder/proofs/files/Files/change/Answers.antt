use Rattle.std.proofs.Common.{false, map, ap, ◌∙◌, arith, refl}
use Rattle.sd_folder.specs.Meaning.{held_of}
use Rattle.sd_memfolder.specs.Files.{AreSound, NamedFile, left_of}
use Rattle.sd_memfolder.proofs.Places.{StandsFirstAt-within}
use Rattle.sd_memfolder.proofs.Calls.{noted_as, Goes-none, Goes-set, Takes-set, sound-set, sound-same, within-after}
use Rattle.sd_memfolder.proofs.files.Files.change.Goals as goal

pub returns-in_err-left-clause-goes : goal.returns-in_err-left-clause-goes
returns-in_err-left-clause-goes c = Goes-none _ _ _ _ refl refl

pub returns-in_err-reserve-clause-goes : goal.returns-in_err-reserve-clause-goes
returns-in_err-reserve-clause-goes c = Goes-none _ _ _ _ refl c.reserve.ensures.items

pub index_mut-file-requires : goal.index_mut-file-requires
index_mut-file-requires c = omega (arith, StandsFirstAt-within _ _ _ c.requires, c.args.self.now.files.ok.0)

pub invariant_of-self-in-Break-branch-3 : goal.invariant_of-self-in-Break-branch-3
invariant_of-self-in-Break-branch-3 c =
    let sound : AreSound c.args.self.now.files.items c.args.self.now.past.items = record { differ = c.args.self.now.differ; within = c.args.self.now.within; were = c.args.self.now.were } in
    let new = sound-same _ _ _ c.args.name.now _ c.index_mut-file.result.now c.make.new.self sound c.requires c.index_mut-file.ensures.value c.in_err-counts.ensures.err c.reserve.ensures.items in
    record { differ = new.differ; within = new.within; were = new.were }

pub returns-in_err-counts-clause-goes : goal.returns-in_err-counts-clause-goes
returns-in_err-counts-clause-goes c =
    Goes-set _ _ _ c.args.name.now _ c.index_mut-file.result.now c.make.new.self false c.requires c.index_mut-file.ensures.value
    (ap (λ (f : NamedFile). f.name) c.in_err-counts.ensures.err) (ap (λ (f : NamedFile). held_of f.state) c.in_err-counts.ensures.err) c.reserve.ensures.items

pub invariant_of-self-2 : goal.invariant_of-self-2
invariant_of-self-2 c =
    let sound : AreSound c.args.self.now.files.items c.args.self.now.past.items = record { differ = c.args.self.now.differ; within = c.args.self.now.within; were = c.args.self.now.were } in
    let left = c.in_ok-left.ensures ∙ ap (map left_of) c.deref.ensures.value in
    let noted = noted_as c.in_ok-counts.counts _ _ _ _ _ c.note.ensures left c.reserve.ensures.items in
    let new = sound-set _ _ _ c.args.name.now _ c.index_mut-file.result.now c.make.new.self c.in_ok-counts.counts sound c.requires c.index_mut-file.ensures.value
    (ap (λ (f : NamedFile). f.name) c.in_ok-counts.ensures.ok) (within-after c.args.change c.index_mut-file.result.now c.make.new.self c.in_ok-counts.ensures.ok) noted in
    record { differ = new.differ; within = new.within; were = new.were }

pub returns-clause-goes : goal.returns-clause-goes
returns-clause-goes c =
    let left = c.in_ok-left.ensures ∙ ap (map left_of) c.deref.ensures.value in
    let noted = noted_as c.in_ok-counts.counts _ _ _ _ _ c.note.ensures left c.reserve.ensures.items in
    Goes-set _ _ _ c.args.name.now _ c.index_mut-file.result.now c.make.new.self c.in_ok-counts.counts c.requires c.index_mut-file.ensures.value
    (ap (λ (f : NamedFile). f.name) c.in_ok-counts.ensures.ok) c.in_ok-counts.ensures.counts noted

pub returns-clause-ok : goal.returns-clause-ok
returns-clause-ok c =
    Takes-set _ _ _ _ c.args.name.now _ c.index_mut-file.result.now c.make.new.self c.requires c.index_mut-file.ensures.value
    (ap (λ (f : NamedFile). f.name) c.in_ok-counts.ensures.ok) (ap (λ (f : NamedFile). f.state) c.in_ok-counts.ensures.ok)
