-- What was read is a manifest.
use Rattle.std.proofs.Common.{◌≡◌, ◌≤◌, ℕ, Bool, true, false, List, [], ◌∷◌, map, Option, Some, None, codes, refl, arith, IfSome}
use Rattle.std.specs.Prelude.{if◌then◌else◌}
use Rattle.std.specs.List.{All}
use Rattle.std.specs.Str.{bytes_eq}
use Rattle.std.proofs.lemmas.List.Elements.{All-nil, All-cons, All-head, All-tail}
use Rattle.serde_json.specs.Data.{Data}
use Rattle.ac_types.specs.FieldForms.{required, filled_text, unless_among}
use Rattle.ac_types.specs.JsonPaths.{field_path}
use Rattle.ac_types.specs.Names.{IsAcName}
use Rattle.ac_types.specs.Outcomes.{Outcome, reads, fails, ◌>>=◌, ◌>>◌}
use Rattle.ac_types.specs.SeenTexts.{is_among}
use Rattle.ac_types.specs.declared.fault.FaultKind.TheVariants.{AppTwice, BadVolume}
use Rattle.path_map.specs.Paths.{path_fault}
use Rattle.path_map.specs.declared.listed.Listed.{Listed}
use Rattle.path_map.specs.declared.path_fault.PathFault.{PathFault}
use Rattle.app_section.proofs.AppLaws.{app_given}
use Rattle.app_section.proofs.Elements.{isolator_given}
use Rattle.app_section.proofs.Fields.{required_given, optional_given, default_given, any_flag, list_given, list_of_given}
use Rattle.app_section.proofs.Readings.{GivesOnly, Gives, AreNamed, IsNew, gives, gives_none, gives_then, gives_behind, all_given, named_given, new_given, no_names}
use Rattle.app_section.proofs.Texts.{text_given, filled_text_given, name_given, filled_identifier_given, filled_place_given, whole_given}
use Rattle.manifest_parts.specs.DistinctForms.{after_names, each_distinct, distinct_list}
use Rattle.manifest_parts.specs.DocumentForm.{document}
use Rattle.manifest_parts.specs.PartRules.{IsDependency, IsAnnotation}
use Rattle.manifests.specs.DocumentData.{any_manifest, fields_of}
use Rattle.manifests.specs.DocumentData.DocumentData.{an_image, a_pod}
use Rattle.manifests.specs.ImageForm.{image_fields, image_kind, image_manifest}
use Rattle.manifests.specs.LastFields.{last_app_fields, last_image_fields}
use Rattle.manifests.specs.ManifestRules.{IsListed, IsMount, IsPodPort, IsVolumeKind, IsVolume, IsRuntimeApp, IsImageManifest, IsPodManifest, IsManifest}
use Rattle.manifests.specs.MountForm.{mount}
use Rattle.manifests.specs.PodData.{RuntimeAppData}
use Rattle.manifests.specs.PodForm.{pod_fields, pod_kind, pod_manifest}
use Rattle.manifests.specs.PodPortForm.{pod_port}
use Rattle.manifests.specs.RuntimeAppForm.{app_name, named_app, runtime_app}
use Rattle.manifests.specs.VolumeForm.{or_bad_volume, is_mode, if_mode, mode, host, empty, kind_of, volume_fields, volume}
use Rattle.manifests.specs.WhitelistForm.{listed, listed_text, listed_path, if_path, ends_in_slash, entries, whitelist_of}
use Rattle.manifests.specs.declared.last_fields.LastAppFields.{LastAppFields}
use Rattle.manifests.specs.declared.last_fields.LastImageFields.{LastImageFields}
use Rattle.manifests.specs.declared.volume.Volume.{Volume}
use Rattle.manifests.specs.declared.volume.VolumeKind.TheVariants.{Host, Empty}
use Rattle.manifests.proofs.Parts.{ac_version_given, labels_given, annotation_given, dependency_given, runtime_image_given}

-- either of two readings
if_given : {A : Type 0} {P : A → Type 0} (test : Bool) (m n : Outcome A) → GivesOnly P m → GivesOnly P n
    → GivesOnly P (if test then m else n)
if_given true m n is other = is
if_given false m n is other = other

-- ---- mounts

mount_given : Gives IsMount mount
unfolding mount
mount_given = record {
  law = λ at d.
      gives_then _ _ (gives_behind _ _ (required_given name_given at (codes "volume") d)) λ name n.
      gives_then _ _ (required_given filled_place_given at (codes "path") d) λ path p.
      gives IsMount _ (record { named = n; place = p });
}

-- ---- ports

pod_port_given : Gives IsPodPort pod_port
unfolding pod_port
pod_port_given = record {
  law = λ at d.
      gives_then _ _ (gives_behind _ _ (required_given name_given at (codes "name") d)) λ name n.
      gives_then _ _ (required_given (whole_given 65535) at (codes "hostPort") d) λ number p.
      gives IsPodPort _ (record { named = n; port = p });
}

-- ---- volumes

known_given : {A : Type 0} {P : A → Type 0} (at : List ℕ) (o : Outcome A) → GivesOnly P o → GivesOnly P (or_bad_volume at o)
known_given at (reads a) is = is
known_given {P = P} at (fails path kind) is = gives_none P at _

abbrev IsMode : List ℕ → Type 0
IsMode t = is_mode t ≡ true

mode_given : Gives IsMode mode
mode_given = record { law = λ at d. gives_then _ _ (text_given.law at d) λ t u. by at t (is_mode t) refl }
  where
    by : (at t : List ℕ) (good : Bool) → is_mode t ≡ good → GivesOnly IsMode (if_mode at good t)
    by at t true is = gives IsMode t is
    by at t false is = gives_none IsMode at _

host_given : (at : List ℕ) (d : Data) → GivesOnly IsVolumeKind (host at d)
unfolding host
host_given at d =
    gives_then _ _ (known_given at _ (required_given filled_place_given at (codes "source") d)) λ source s.
    gives_then _ _ (any_flag at (codes "readOnly") d) λ read_only r.
    gives IsVolumeKind (Host source read_only) s

empty_given : (at : List ℕ) (d : Data) → GivesOnly IsVolumeKind (empty at d)
unfolding empty
empty_given at d =
    let none : 0 ≤ 4294967295 = omega arith in
    gives_then _ _ (known_given at _ (default_given (codes "0755") refl mode_given at (codes "mode") d)) λ digits m.
    gives_then _ _ (default_given 0 none (whole_given 4294967295) at (codes "uid") d) λ user u.
    gives_then _ _ (default_given 0 none (whole_given 4294967295) at (codes "gid") d) λ group g.
    gives IsVolumeKind (Empty digits user group) (m, u, g)

kind_given : (kind at : List ℕ) (d : Data) → GivesOnly IsVolumeKind (kind_of kind at d)
unfolding kind_of
kind_given kind at d =
    if_given (bytes_eq kind (codes "host")) _ _ (host_given at d)
    (if_given (bytes_eq kind (codes "empty")) _ _ (empty_given at d) (gives_none IsVolumeKind at _))

fields_given : (at : List ℕ) (d : Data) → GivesOnly IsVolume (volume_fields at d)
unfolding volume_fields
fields_given at d =
    gives_then _ _ (gives_behind _ _ (required_given name_given at (codes "name") d)) λ name n.
    gives_then _ _ (required_given filled_text_given at (codes "kind") d) λ kind f.
    gives_then _ _ (kind_given kind at d) λ read k.
    gives IsVolume _ (record { named = n; where_it_is = k })

volume_given : (before : List Volume) (at : List ℕ) (d : Data)
    → GivesOnly (IsNew (λ v. v.name) IsVolume before) (after_names (λ v. v.name) volume before at d)
unfolding volume
volume_given before at d = gives_then _ _ (fields_given at d) λ v is. new_given (λ x. x.name) IsVolume before at BadVolume v is

-- ---- whitelists

abbrev IsEntry : Option Listed → Type 0
IsEntry o = IfSome o IsListed

path_given : (at : List ℕ) (slash : Bool) (path : List ℕ) → GivesOnly IsEntry (listed_path at slash path)
unfolding listed_path
path_given at slash path = by (path_fault path) refl
  where
    by : (o : Option PathFault) → path_fault path ≡ o → GivesOnly IsEntry (if_path at o (record { path = path; empty = slash }))
    by None is = gives IsEntry (Some (record { path = path; empty = slash })) is
    by (Some fault) is = gives_none IsEntry at _

text_listed : (at t : List ℕ) → GivesOnly IsEntry (listed_text at t)
unfolding listed_text
text_listed at t =
    if_given (bytes_eq t (codes "/")) _ _ (gives IsEntry None tt)
    (if_given (ends_in_slash t) _ _ (path_given at true _) (path_given at false t))

listed_given : Gives IsEntry listed
listed_given = record { law = λ at d. gives_then _ _ (text_given.law at d) λ t u. text_listed at t }

entries_are : (found : List (Option Listed)) → All IsEntry found → All IsListed (entries found)
entries_are [] are = All-nil IsListed
entries_are (None ∷ found) are = entries_are found (All-tail IsEntry None found are)
entries_are (Some l ∷ found) are =
    All-cons IsListed l (entries found) (All-head IsEntry (Some l) found are) (entries_are found (All-tail IsEntry (Some l) found are))

whitelist_of_given : (at : List ℕ) (ds : List Data) → GivesOnly (All IsListed) (whitelist_of at ds)
whitelist_of_given at ds = gives_then _ _ (all_given listed_given at ds) λ found are. gives (All IsListed) (entries found) (entries_are found are)

-- ---- apps of a pod

abbrev AreLastOfApp : LastAppFields → Type 0
AreLastOfApp last = All IsMount last.mounts × All IsAnnotation last.annotations

last_of_app : (at : List ℕ) (d : Data) → GivesOnly AreLastOfApp (last_app_fields at d)
unfolding last_app_fields
last_of_app at d =
    gives_then _ _ (any_flag at (codes "readOnlyRootFS") d) λ read_only r.
    gives_then _ _ (list_of_given mount_given at (codes "mounts") d) λ mounts m.
    gives_then _ _ (list_of_given annotation_given at (codes "annotations") d) λ annotations a.
    gives AreLastOfApp _ (m, a)

abbrev IsNewName : List (List ℕ) → List ℕ → Type 0
IsNewName names name = IsAcName name × (is_among name names ≡ false)

app_name_given : (names : List (List ℕ)) (at : List ℕ) (d : Data) → GivesOnly (IsNewName names) (app_name names at d)
unfolding app_name
app_name_given names at d =
    gives_then _ _ (gives_behind _ _ (required_given name_given at (codes "name") d)) λ name n. by name n (is_among name names) refl
  where
    by : (name : List ℕ) → IsAcName name → (among : Bool) → is_among name names ≡ among
        → GivesOnly (IsNewName names) (unless_among AppTwice (field_path at (codes "name")) among name)
    by name n true is = gives_none (IsNewName names) _ _
    by name n false is = gives (IsNewName names) name (n, is)

app_of_pod_given : (before : List RuntimeAppData) (at : List ℕ) (d : Data)
    → GivesOnly (IsNew (λ a. a.name) IsRuntimeApp before) (after_names (λ a. a.name) runtime_app before at d)
unfolding runtime_app named_app
app_of_pod_given before at d =
    gives_then _ _ (app_name_given (map (λ (a : RuntimeAppData). a.name) before) at d) λ name n.
    gives_then _ _ (required_given runtime_image_given at (codes "image") d) λ image i.
    gives_then _ _ (optional_given app_given at (codes "app") d) λ section s.
    gives_then _ _ (last_of_app at d) λ last l.
    gives (IsNew (λ a. a.name) IsRuntimeApp before) _
    (record { named = n.0; image_known = i; section = s; mounted = l.0; remarks = l.1 }, n.1)

-- ---- image manifests

abbrev AreLastOfImage : LastImageFields → Type 0
AreLastOfImage last = All IsDependency last.dependencies × All IsListed last.path_whitelist × All IsAnnotation last.annotations

last_of_image : (d : Data) → GivesOnly AreLastOfImage (last_image_fields d)
unfolding last_image_fields
last_of_image d =
    gives_then _ _ (list_of_given dependency_given (codes "$") (codes "dependencies") d) λ dependencies e.
    gives_then _ _ (default_given [] (All-nil IsListed) (list_given (All IsListed) whitelist_of whitelist_of_given) (codes "$")
    (codes "pathWhitelist") d) λ paths p.
    gives_then _ _ (list_of_given annotation_given (codes "$") (codes "annotations") d) λ annotations a.
    gives AreLastOfImage _ (e, p, a)

image_given : (d : Data) → GivesOnly IsImageManifest (image_fields d)
unfolding image_fields
image_given d =
    gives_then _ _ (required_given ac_version_given (codes "$") (codes "acVersion") d) λ version v.
    gives_then _ _ (required_given filled_identifier_given (codes "$") (codes "name") d) λ name n.
    gives_then _ _ (labels_given (codes "$") (codes "labels") d) λ ls l.
    gives_then _ _ (optional_given app_given (codes "$") (codes "app") d) λ section s.
    gives_then _ _ (last_of_image d) λ last e.
    gives IsImageManifest _ (record {
      version = v;
      named = n;
      labelled = l;
      section = s;
      stands_on = e.0;
      kept = e.1;
      remarks = e.2;
    })

pub image_manifest_given : (bytes : List ℕ) → GivesOnly IsImageManifest (image_manifest bytes)
unfolding image_manifest
image_manifest_given bytes =
    gives_then {Q = λ d. Unit {0}} (document bytes) (λ d. image_kind d >> image_fields d) (λ d h. tt) λ d u.
    gives_behind (image_kind d) (image_fields d) (image_given d)

-- ---- pod manifests

abbrev app_list : Gives (AreNamed (λ a. a.name) IsRuntimeApp) (distinct_list (λ a. a.name) runtime_app)
app_list =
    list_given (AreNamed (λ a. a.name) IsRuntimeApp) (each_distinct (λ a. a.name) runtime_app)
    (named_given (λ a. a.name) IsRuntimeApp (after_names (λ a. a.name) runtime_app) app_of_pod_given)

abbrev volume_list : Gives (AreNamed (λ v. v.name) IsVolume) (distinct_list (λ v. v.name) volume)
volume_list =
    list_given (AreNamed (λ v. v.name) IsVolume) (each_distinct (λ v. v.name) volume)
    (named_given (λ v. v.name) IsVolume (after_names (λ v. v.name) volume) volume_given)

pod_given : (d : Data) → GivesOnly IsPodManifest (pod_fields d)
unfolding pod_fields
pod_given d =
    gives_then _ _ (required_given ac_version_given (codes "$") (codes "acVersion") d) λ version v.
    gives_then _ _ (required_given app_list (codes "$") (codes "apps") d) λ apps a.
    gives_then _ _ (default_given [] (no_names (λ x. x.name) IsVolume) volume_list (codes "$") (codes "volumes") d) λ volumes w.
    gives_then _ _ (list_of_given isolator_given (codes "$") (codes "isolators") d) λ isolators i.
    gives_then _ _ (list_of_given annotation_given (codes "$") (codes "annotations") d) λ annotations r.
    gives_then _ _ (list_of_given pod_port_given (codes "$") (codes "ports") d) λ ports p.
    gives IsPodManifest _ (record {
      version = v;
      each_app = a.0;
      app_names = a.1;
      each_volume = w.0;
      volume_names = w.1;
      limits = i;
      remarks = r;
      listens = p;
    })

pub pod_manifest_given : (bytes : List ℕ) → GivesOnly IsPodManifest (pod_manifest bytes)
unfolding pod_manifest
pod_manifest_given bytes =
    gives_then {Q = λ d. Unit {0}} (document bytes) (λ d. pod_kind d >> pod_fields d) (λ d h. tt) λ d u.
    gives_behind (pod_kind d) (pod_fields d) (pod_given d)

-- ---- either

either_given : (kind : List ℕ) (d : Data) → GivesOnly IsManifest (fields_of kind d)
unfolding fields_of
either_given kind d =
    if_given (bytes_eq kind (codes "ImageManifest")) _ _
    (gives_then _ _ (image_given d) λ m is. gives IsManifest (an_image m) is)
    (if_given (bytes_eq kind (codes "PodManifest")) _ _
    (gives_then _ _ (pod_given d) λ m is. gives IsManifest (a_pod m) is) (gives_none IsManifest _ _))

pub any_manifest_given : (bytes : List ℕ) → GivesOnly IsManifest (any_manifest bytes)
unfolding any_manifest
any_manifest_given bytes =
    let kind_of_it : Data → Outcome (List ℕ) = λ d. required filled_text (codes "$") (codes "acKind") d in
    gives_then {Q = λ d. Unit {0}} (document bytes) (λ d. kind_of_it d >>= λ kind. fields_of kind d) (λ d h. tt) λ d u.
    gives_then {Q = λ kind. Unit {0}} (kind_of_it d) (λ kind. fields_of kind d) (λ kind h. tt) λ kind v. either_given kind d
