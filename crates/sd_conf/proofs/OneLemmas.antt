-- Tests come to one thing.
use Rattle.std.proofs.Common.{◌≡◌, inl, inr, ℕ, List, [], ◌∷◌, Option, Some, None, Ordering, Less, Equal, Greater, nat_cmp, false, refl, sym, ap, ◌∙◌, codes}
use Rattle.std.proofs.lemmas.Cmp.{nat_list_cmp_total}
use Rattle.std.specs.Cmp.Lexicographic.{slice_cmp}
use Rattle.std.specs.Ordering.{is_lt, ordering_reverse}
use Rattle.toml.specs.Data.{Data, Members, get_member, as_str}
use Rattle.sd_conf.specs.Conf.{FirstFaultIsOne}
use Rattle.sd_conf.specs.FirstFault.{Fault, ◌then◌, At, UnknownKey, NameTest, HostTest, MediaTest, FolderTest, LanesTest, DriveFault, TablesFault, BlockTest, VolumeTest, SpoolTest, QueueTest, PortTest, SpoolFolderTest, DriveTest, OwnFault}
use Rattle.sd_conf.specs.Values.{tables_at}
use Rattle.sd_conf.specs.declared.fault.FaultKind.{FaultKind}
use Rattle.sd_conf.specs.declared.keys.Level.{Level}
use Rattle.sd_conf.specs.declared.keys.Level.TheVariants.{Daemon, Drive}
use Rattle.sd_conf.proofs.KeyLemmas.{same_key}

-- what a test comes to is one thing
abbrev pub IsOne : (Option Fault → Type 0) → Type 0
IsOne Test = (found other : Option Fault) → Test found → Test other → found ≡ other

then_one : (First Others : Option Fault → Type 0) → IsOne First → IsOne Others → IsOne (First then Others)
then_one First Others first others found other (inl (f, bad, is)) (inl (g, bad', is')) = is ∙ first (Some f) (Some g) bad bad' ∙ sym is'
then_one First Others first others found other (inl (f, bad, is)) (inr (good, rest)) = absurd (let clash = first (Some f) None bad good in cc)
then_one First Others first others found other (inr (good, rest)) (inl (f, bad, is)) = absurd (let clash = first (Some f) None bad good in cc)
then_one First Others first others found other (inr (good, rest)) (inr (good', rest')) = others found other rest rest'

at_one : (key : List ℕ) (wrong : Option FaultKind) → IsOne (At key wrong)
at_one key None found other is is' = is ∙ sym is'
at_one key (Some wrong) found other is is' = is ∙ sym is'

-- of two keys neither of which is before the other both are one
neither_before : (o : Ordering) → is_lt o ≡ false → is_lt (ordering_reverse o) ≡ false → o ≡ Equal
neither_before Less a b = absurd cc
neither_before Equal a b = refl
neither_before Greater a b = absurd cc

unknown_one : (level : Level) (table : Members) → IsOne (UnknownKey level table)
unknown_one level table None None known known' = refl
unknown_one level table None (Some (key, wrong)) known (least, is) = absurd (let k = known key least.there in let u = least.unknown in cc)
unknown_one level table (Some (key, wrong)) None (least, is) known = absurd (let k = known key least.there in let u = least.unknown in cc)
unknown_one level table (Some (key, wrong)) (Some (key', wrong')) (least, is) (least', is') =
    let back = nat_list_cmp_total.antisymm key' key in
    let before : is_lt (slice_cmp nat_cmp key key') ≡ false = least'.least key least.there least.unknown in
    let behind : is_lt (ordering_reverse (slice_cmp nat_cmp key key')) ≡ false = ap is_lt (sym back) ∙ least.least key' least'.there least'.unknown in
    let same : key ≡ key' = same_key key key' (neither_before (slice_cmp nat_cmp key key') before behind) in
    ap (λ k. Some (k, wrong)) same ∙ ap (λ w. Some (key', w)) (is ∙ sym is')

name_one : (key : List ℕ) (text : Option (List ℕ)) → IsOne (NameTest key text)
name_one key None found other is is' = is ∙ sym is'
name_one key (Some text) found other (inl (name, is)) (inl (name', is')) = is ∙ sym is'
name_one key (Some text) found other (inl (name, is)) (inr (never, is')) = absurd (never name)
name_one key (Some text) found other (inr (never, is)) (inl (name, is')) = absurd (never name)
name_one key (Some text) found other (inr (never, is)) (inr (never', is')) = is ∙ sym is'

media_one : (value : Option Data) → IsOne (MediaTest value)
media_one None found other is is' = is ∙ sym is'
media_one (Some value) found other is is' = name_one (codes "media") (as_str value) found other is is'

host_one : (value : Option Data) → IsOne (HostTest value)
host_one None found other is is' = is ∙ sym is'
host_one (Some value) found other is is' = name_one (codes "host") (as_str value) found other is is'

drive_one : (table : Members) → IsOne (DriveFault table)
drive_one table =
    then_one (UnknownKey Drive table) (MediaTest (get_member (codes "media") table) then FolderTest table then LanesTest table) (unknown_one Drive table)
    (then_one (MediaTest (get_member (codes "media") table)) (FolderTest table then LanesTest table) (media_one (get_member (codes "media") table))
    (then_one (FolderTest table) (LanesTest table) (at_one _ _) (at_one _ _)))

tables_one : (tables : List Members) → IsOne (TablesFault tables)
tables_one [] = λ found other is is'. is ∙ sym is'
tables_one (table ∷ more) = then_one (DriveFault table) (TablesFault more) (drive_one table) (tables_one more)

own_one : (table : Members) → IsOne (OwnFault table)
own_one table =
    then_one (UnknownKey Daemon table) (BlockTest table then VolumeTest table then SpoolTest table then QueueTest table then PortTest table then HostTest (get_member (codes "host") table) then SpoolFolderTest table) (unknown_one Daemon table)
    (then_one (BlockTest table) (VolumeTest table then SpoolTest table then QueueTest table then PortTest table then HostTest (get_member (codes "host") table) then SpoolFolderTest table) (at_one _ _)
    (then_one (VolumeTest table) (SpoolTest table then QueueTest table then PortTest table then HostTest (get_member (codes "host") table) then SpoolFolderTest table) (at_one _ _)
    (then_one (SpoolTest table) (QueueTest table then PortTest table then HostTest (get_member (codes "host") table) then SpoolFolderTest table) (at_one _ _)
    (then_one (QueueTest table) (PortTest table then HostTest (get_member (codes "host") table) then SpoolFolderTest table) (at_one _ _)
    (then_one (PortTest table) (HostTest (get_member (codes "host") table) then SpoolFolderTest table) (at_one _ _)
    (then_one (HostTest (get_member (codes "host") table)) (SpoolFolderTest table) (host_one _) (at_one _ _)))))))

pub first_fault_one : FirstFaultIsOne
first_fault_one table =
    let drives = TablesFault (tables_at (get_member (codes "drive") table)) in
    then_one (OwnFault table) (DriveTest table then drives) (own_one table) (then_one (DriveTest table) drives (at_one _ _) (tables_one _))
