use Rattle.std.proofs.Common.{◌≡◌, ◌++◌, ◌∷◌, [], List, map, true, ap, sym, ◌∙◌, arith, refl, subst}
use Rattle.sd_folder.specs.Steps.{Makes}
use Rattle.sd_folder.specs.Meaning.{Goes}
use Rattle.sd_memfolder.specs.Files.{AreSound, NamedFile, new_file, left_of}
use Rattle.sd_memfolder.specs.Folder.{folder_of}
use Rattle.sd_memfolder.proofs.Calls.{pushed, noted_as, Goes-none, Goes-push, Makes-push, sound-push}
use Rattle.sd_memfolder.proofs.files.Files.create.Goals as goal

pub returns-in_err-left-clause-goes : goal.returns-in_err-left-clause-goes
returns-in_err-left-clause-goes c = Goes-none _ _ _ _ refl refl

pub returns-in_err-reserve-clause-goes : goal.returns-in_err-reserve-clause-goes
returns-in_err-reserve-clause-goes c = Goes-none _ _ _ _ refl c.reserve.ensures.items

pub returns-in_err-push-clause-goes : goal.returns-in_err-push-clause-goes
returns-in_err-push-clause-goes c = Goes-none _ _ _ _ c.in_err-push.ensures.items c.reserve.ensures.items

pub invariant_of-self-2 : goal.invariant_of-self-2
invariant_of-self-2 c =
    let sound : AreSound c.args.self.now.files.items c.args.self.now.past.items = record { differ = c.args.self.now.differ; within = c.args.self.now.within; were = c.args.self.now.were } in
    let made : c.new.result ≡ new_file c.args.name.now = c.new.ensures ∙ ap new_file c.copy.ensures in
    let items : c.push.new.self.items ≡ c.args.self.now.files.items ++ c.new.result ∷ [] = c.in_ok-push.ensures.items in
    let left = c.in_ok-left.ensures ∙ ap (map left_of) c.deref.ensures.value in
    let noted = noted_as true _ _ _ _ _ (pushed _ _ _ _ _ (c.push-2.ensures.succeeds (omega (arith, c.in_ok-reserve.ensures.ok))) c.push-2.ensures.items refl) left c.reserve.ensures.items in
    let P : List NamedFile → Type 0 = λ fs. AreSound fs c.push-2.new.self.items in
    let new = subst P (sym items) (sound-push _ _ _ c.args.name.now c.new.result sound c.requires made noted) in
    record { differ = new.differ; within = new.within; were = new.were }

pub returns-clause-goes : goal.returns-clause-goes
returns-clause-goes c =
    let made : c.new.result ≡ new_file c.args.name.now = c.new.ensures ∙ ap new_file c.copy.ensures in
    let items : c.push.new.self.items ≡ c.args.self.now.files.items ++ c.new.result ∷ [] = c.in_ok-push.ensures.items in
    let left = c.in_ok-left.ensures ∙ ap (map left_of) c.deref.ensures.value in
    let noted = noted_as true _ _ _ _ _ (pushed _ _ _ _ _ (c.push-2.ensures.succeeds (omega (arith, c.in_ok-reserve.ensures.ok))) c.push-2.ensures.items refl) left c.reserve.ensures.items in
    let P : List NamedFile → Type 0 = λ fs. Goes (folder_of c.args.self.now.files.items c.args.self.now.past.items) (folder_of fs c.push-2.new.self.items) in
    subst P (sym items) (Goes-push _ _ _ c.args.name.now c.new.result c.requires made noted)

pub returns-clause-ok : goal.returns-clause-ok
returns-clause-ok c =
    let made : c.new.result ≡ new_file c.args.name.now = c.new.ensures ∙ ap new_file c.copy.ensures in
    let items : c.push.new.self.items ≡ c.args.self.now.files.items ++ c.new.result ∷ [] = c.in_ok-push.ensures.items in
    let P : List NamedFile → Type 0 = λ fs. Makes c.args.name.now (folder_of c.args.self.now.files.items c.args.self.now.past.items) (folder_of fs c.push-2.new.self.items) in
    subst P (sym items) (Makes-push _ _ _ c.args.name.now c.new.result c.requires made)
