-- What is a manifest is read again from what is written for it, and its numbers are whole.
use Rattle.std.proofs.Common.{◌≡◌, ◌≤◌, ℕ, true, false, List, [], map, length, Some, codes, nat_le, refl, ap}
use Rattle.std.specs.Str.{IsUtf8}
use Rattle.std.proofs.lemmas.Bool.{le-leb}
use Rattle.serde_json.specs.Data.{Members, string, object}
use Rattle.serde_json.specs.Read.{read}
use Rattle.serde_json.specs.Written.{has_float}
use Rattle.ac_types.specs.FieldForms.{required_at}
use Rattle.ac_types.specs.JsonPaths.{field_path}
use Rattle.ac_types.specs.Outcomes.{reads, ◌>>◌}
use Rattle.ac_types.specs.SeenTexts.{is_among}
use Rattle.ac_types.specs.FieldForms.{unless_among}
use Rattle.ac_types.specs.declared.fault.FaultKind.TheVariants.{AppTwice, BadVolume}
use Rattle.app_section.specs.AppObject.{app_object}
use Rattle.app_section.specs.Objects.{written, list_data}
use Rattle.app_section.proofs.AppLaws.{app_again}
use Rattle.app_section.proofs.Elements.{isolator_again}
use Rattle.app_section.proofs.Fields.{present_in, required_again, optional_again, default_again, flag_again, list_reads, filled_again, list_of_again, members_are_whole, filled_is_whole, list_is_whole, optional_is_whole, flag_is_whole}
use Rattle.app_section.proofs.Readings.{Rereads, AreNamed, IsNew, then_reads, then_behind, named_again}
use Rattle.app_section.proofs.Texts.{name_again, filled_identifier_again, filled_place_again, whole_again}
use Rattle.manifest_parts.specs.DistinctForms.{after_names, each_distinct, distinct_list}
use Rattle.manifest_parts.specs.DocumentForm.{document}
use Rattle.manifest_parts.specs.HeadForms.{ac_kind}
use Rattle.manifest_parts.proofs.JsonTexts.{json_read}
use Rattle.manifests.specs.ImageData.{ImageData}
use Rattle.manifests.specs.ImageForm.{image_fields, image_kind, image_manifest}
use Rattle.manifests.specs.LastFields.{last_app_fields, last_image_fields}
use Rattle.manifests.specs.ManifestRules.{IsMount, IsPodPort, IsVolume, IsRuntimeApp, IsImageManifest, IsPodManifest}
use Rattle.manifests.specs.MountForm.{mount}
use Rattle.manifests.specs.PodData.{PodData, RuntimeAppData}
use Rattle.manifests.specs.PodForm.{pod_fields, pod_kind, pod_manifest}
use Rattle.manifests.specs.PodPortForm.{pod_port}
use Rattle.manifests.specs.RuntimeAppForm.{app_name, named_app, runtime_app}
use Rattle.manifests.specs.VolumeForm.{or_bad_volume, is_mode, if_mode, mode, host, empty, kind_of, volume_fields, volume}
use Rattle.manifests.specs.WhitelistForm.{whitelist_of}
use Rattle.manifests.specs.declared.volume.Volume.{Volume}
use Rattle.manifests.specs.declared.volume.VolumeKind.{VolumeKind}
use Rattle.manifests.specs.declared.volume.VolumeKind.TheVariants.{Host, Empty}
use Rattle.manifests.specs.ElementObjects.{listed_data, mount_fields, mount_object, pod_port_fields, pod_port_object, runtime_image_object}
use Rattle.manifests.specs.ImageObject.{image_members, image_object}
use Rattle.manifests.specs.PodObject.{pod_members, pod_object, runtime_app_fields, runtime_app_object}
use Rattle.manifests.specs.VolumeObject.{host_fields, empty_fields, volume_fields as volume_list, volume_object}
use Rattle.manifests.proofs.PartsAgain.{ac_version_again, labels_again, labels_are_whole, annotation_again, dependency_again, runtime_image_again}
use Rattle.manifests.proofs.WhitelistAgain.{whitelist_again, whitelist_is_whole}

-- ---- mounts

mount_again : Rereads IsMount mount mount_object
unfolding mount mount_object
mount_again = record {
  law = λ at m is.
      then_reads _ _ _ _ (required_again name_again at (codes "volume") (mount_fields m) m.volume refl is.named)
      (then_reads _ _ _ _ (required_again filled_place_again at (codes "path") (mount_fields m) m.path refl is.place) refl);
  shown = λ m is. refl;
  whole = λ m is. refl;
}

-- ---- ports

pod_port_again : Rereads IsPodPort pod_port pod_port_object
unfolding pod_port pod_port_object
pod_port_again = record {
  law = λ at p is.
      then_reads _ _ _ _ (required_again name_again at (codes "name") (pod_port_fields p) p.name refl is.named)
      (then_reads _ _ _ _ (required_again (whole_again 65535) at (codes "hostPort") (pod_port_fields p) p.host_port refl is.port) refl);
  shown = λ p is. refl;
  whole = λ p is. refl;
}

-- ---- volumes

mode_again : Rereads (λ t. is_mode t ≡ true) mode string
mode_again = record { law = λ at t is. ap (λ good. if_mode at good t) is; shown = λ t is. refl; whole = λ t is. refl }

fields_read : (at name : List ℕ) (kind : VolumeKind) → IsVolume (record { name = name; kind = kind })
    → volume_fields at (volume_object (record { name = name; kind = kind })) ≡ reads (record { name = name; kind = kind })
unfolding volume_fields volume_object kind_of host empty
fields_read at name (Host source read_only) is =
    let fields = host_fields name source read_only in
    then_reads _ _ _ _ (required_again name_again at (codes "name") fields name refl is.named)
    (then_reads _ _ (Host source read_only) _
    (then_reads _ _ source _ (ap (or_bad_volume at) (required_again filled_place_again at (codes "source") fields source refl is.where_it_is))
    (then_reads _ _ _ _ (flag_again at (codes "readOnly") fields read_only refl) refl))
    refl)
fields_read at name (Empty digits user group) is =
    let fields = empty_fields name digits user group in
    let kind = is.where_it_is in
    then_reads _ _ _ _ (required_again name_again at (codes "name") fields name refl is.named)
    (then_reads _ _ (Empty digits user group) _
    (then_reads _ _ digits _ (ap (or_bad_volume at) (default_again (codes "0755") mode_again at (codes "mode") fields digits refl kind.0))
    (then_reads _ _ _ _ (default_again 0 (whole_again 4294967295) at (codes "uid") fields user refl kind.1)
    (then_reads _ _ _ _ (default_again 0 (whole_again 4294967295) at (codes "gid") fields group refl kind.2) refl)))
    refl)

fields_whole : (name : List ℕ) (kind : VolumeKind) → has_float (object (written (volume_list name kind))) ≡ false
fields_whole name (Host source read_only) =
    members_are_whole (host_fields name source read_only) (refl, (refl, (flag_is_whole read_only, (refl, tt))))
fields_whole name (Empty digits user group) = refl

fields_again : Rereads IsVolume volume_fields volume_object
unfolding volume_object
fields_again = record {
  law = λ at v is. fields_read at v.name v.kind is;
  shown = λ v is. refl;
  whole = λ v is. fields_whole v.name v.kind;
}

volume_again : (before : List Volume) (at : List ℕ) (v : Volume) → IsNew (λ v. v.name) IsVolume before v
    → after_names (λ v. v.name) volume before at (volume_object v) ≡ reads v
unfolding volume
volume_again before at v is =
    then_reads _ _ v v (fields_again.law at v is.0) (ap (λ among. unless_among BadVolume at among v) is.1)

-- ---- apps of a pod

app_read : (names : List (List ℕ)) (at : List ℕ) (a : RuntimeAppData) → IsRuntimeApp a → is_among a.name names ≡ false
    → runtime_app names at (runtime_app_object a) ≡ reads a
unfolding runtime_app app_name named_app last_app_fields runtime_app_object runtime_image_object app_object
app_read names at a is new =
    let fields = runtime_app_fields a in
    then_reads _ _ a.name a
    (then_reads _ _ a.name a.name (required_again name_again at (codes "name") fields a.name refl is.named)
    (ap (λ among. unless_among AppTwice (field_path at (codes "name")) among a.name) new))
    (then_reads _ _ _ _ (required_again runtime_image_again at (codes "image") fields a.image refl is.image_known)
    (then_reads _ _ _ _ (optional_again app_again at (codes "app") fields a.app refl is.section)
    (then_reads _ _ (record { read_only_root_fs = a.read_only_root_fs; mounts = a.mounts; annotations = a.annotations }) _
    (then_reads _ _ _ _ (flag_again at (codes "readOnlyRootFS") fields a.read_only_root_fs refl)
    (then_reads _ _ _ _ (list_of_again mount_again at (codes "mounts") fields a.mounts refl is.mounted)
    (then_reads _ _ _ _ (list_of_again annotation_again at (codes "annotations") fields a.annotations refl is.remarks) refl)))
    refl)))

app_of_pod_again : Rereads IsRuntimeApp (runtime_app []) runtime_app_object
unfolding runtime_app_object
app_of_pod_again = record {
  law = λ at a is. app_read [] at a is refl;
  shown = λ a is. refl;
  whole = λ a is.
      let annotations = filled_is_whole annotation_again a.annotations is.remarks in
      let section = optional_is_whole app_again a.app is.section in
      let mounts = filled_is_whole mount_again a.mounts is.mounted in
      members_are_whole (runtime_app_fields a)
      (annotations, (section, (runtime_image_again.whole a.image is.image_known, (mounts, (refl, (flag_is_whole a.read_only_root_fs, tt))))));
}

app_list_again : Rereads (AreNamed (λ a. a.name) IsRuntimeApp) (distinct_list (λ a. a.name) runtime_app) (list_data runtime_app_object)
app_list_again = record {
  law = λ at apps are.
      list_reads (each_distinct (λ a. a.name) runtime_app) runtime_app_object at apps
      (named_again (λ a. a.name) IsRuntimeApp (after_names (λ a. a.name) runtime_app) runtime_app_object
      (λ before path a is. app_read (map (λ (x : RuntimeAppData). x.name) before) path a is.0 is.1) at apps are);
  shown = λ apps are. refl;
  whole = λ apps are. list_is_whole app_of_pod_again apps are.0;
}

-- ---- documents

document_again : (ms : Members) (bytes : List ℕ) → length bytes ≤ 1048576 → IsUtf8 bytes → read bytes ≡ Some (object ms)
    → document bytes ≡ reads (object ms)
unfolding document
document_again ms bytes short utf8 is =
    let few : nat_le (length bytes) 1048576 ≡ true = le-leb (length bytes) 1048576 short in
    rw (few, json_read bytes (object ms) utf8 is) refl

abbrev whole : List ℕ
whole = codes "$"

-- ---- image manifests

image_read : (m : ImageData) → IsImageManifest m → image_fields (image_object m) ≡ reads m
unfolding image_fields last_image_fields image_object
image_read m is =
    let fields = image_members m in
    then_reads _ _ _ _ (required_again ac_version_again whole (codes "acVersion") fields m.ac_version refl is.version)
    (then_reads _ _ _ _ (required_again filled_identifier_again whole (codes "name") fields m.name refl is.named)
    (then_reads _ _ _ _ (labels_again whole fields m.labels refl is.labelled)
    (then_reads _ _ _ _ (optional_again app_again whole (codes "app") fields m.app refl is.section)
    (then_reads _ _ (record { dependencies = m.dependencies; path_whitelist = m.path_whitelist; annotations = m.annotations }) _
    (then_reads _ _ _ _ (list_of_again dependency_again whole (codes "dependencies") fields m.dependencies refl is.stands_on)
    (then_reads _ _ _ _ (filled_again whitelist_of listed_data whole (codes "pathWhitelist") fields m.path_whitelist refl
    (λ path. whitelist_again path m.path_whitelist is.kept))
    (then_reads _ _ _ _ (list_of_again annotation_again whole (codes "annotations") fields m.annotations refl is.remarks) refl)))
    refl))))

pub image_is_whole : (m : ImageData) → IsImageManifest m → has_float (image_object m) ≡ false
unfolding image_object
image_is_whole m is =
    let annotations = filled_is_whole annotation_again m.annotations is.remarks in
    let section = optional_is_whole app_again m.app is.section in
    let dependencies = filled_is_whole dependency_again m.dependencies is.stands_on in
    let paths = whitelist_is_whole m.path_whitelist in
    members_are_whole (image_members m)
    (refl, (refl, (annotations, (section, (dependencies, (labels_are_whole m.labels is.labelled, (refl, (paths, tt))))))))

pub image_again : (m : ImageData) (bytes : List ℕ) → length bytes ≤ 1048576 → IsUtf8 bytes → read bytes ≡ Some (image_object m)
    → IsImageManifest m → image_manifest bytes ≡ reads m
unfolding image_manifest image_object
image_again m bytes short utf8 is kind =
    let fields = image_members m in
    let named = ap (required_at (ac_kind (codes "ImageManifest")) (field_path whole (codes "acKind")))
    (present_in (codes "acKind") fields (Some (string (codes "ImageManifest"))) refl) in
    then_reads (document bytes) (λ d. image_kind d >> image_fields d) (object (written fields)) m
    (document_again (written fields) bytes short utf8 is)
    (then_behind (image_kind (object (written fields))) (image_fields (object (written fields))) (codes "ImageManifest") m named
    (image_read m kind))

-- ---- pod manifests

pod_read : (m : PodData) → IsPodManifest m → pod_fields (pod_object m) ≡ reads m
unfolding pod_fields pod_object
pod_read m is =
    let fields = pod_members m in
    then_reads _ _ _ _ (required_again ac_version_again whole (codes "acVersion") fields m.ac_version refl is.version)
    (then_reads _ _ _ _ (required_again app_list_again whole (codes "apps") fields m.apps refl (is.each_app, is.app_names))
    (then_reads _ _ _ _ (filled_again (each_distinct (λ v. v.name) volume) volume_object whole (codes "volumes") fields m.volumes refl
    (λ path. named_again (λ v. v.name) IsVolume (after_names (λ v. v.name) volume) volume_object volume_again path m.volumes
    (is.each_volume, is.volume_names)))
    (then_reads _ _ _ _ (list_of_again isolator_again whole (codes "isolators") fields m.isolators refl is.limits)
    (then_reads _ _ _ _ (list_of_again annotation_again whole (codes "annotations") fields m.annotations refl is.remarks)
    (then_reads _ _ _ _ (list_of_again pod_port_again whole (codes "ports") fields m.ports refl is.listens) refl)))))

pub pod_is_whole : (m : PodData) → IsPodManifest m → has_float (pod_object m) ≡ false
unfolding pod_object
pod_is_whole m is =
    let annotations = filled_is_whole annotation_again m.annotations is.remarks in
    let apps = list_is_whole app_of_pod_again m.apps is.each_app in
    let isolators = filled_is_whole isolator_again m.isolators is.limits in
    let ports = filled_is_whole pod_port_again m.ports is.listens in
    let volumes = filled_is_whole fields_again m.volumes is.each_volume in
    members_are_whole (pod_members m) (refl, (refl, (annotations, (apps, (isolators, (ports, (volumes, tt)))))))

pub pod_again : (m : PodData) (bytes : List ℕ) → length bytes ≤ 1048576 → IsUtf8 bytes → read bytes ≡ Some (pod_object m)
    → IsPodManifest m → pod_manifest bytes ≡ reads m
unfolding pod_manifest pod_object
pod_again m bytes short utf8 is kind =
    let fields = pod_members m in
    let named = ap (required_at (ac_kind (codes "PodManifest")) (field_path whole (codes "acKind")))
    (present_in (codes "acKind") fields (Some (string (codes "PodManifest"))) refl) in
    then_reads (document bytes) (λ d. pod_kind d >> pod_fields d) (object (written fields)) m
    (document_again (written fields) bytes short utf8 is)
    (then_behind (pod_kind (object (written fields))) (pod_fields (object (written fields))) (codes "PodManifest") m named
    (pod_read m kind))
