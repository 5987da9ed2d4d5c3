-- An app: what its form gives, and that what is written for it is read again.
use Rattle.std.proofs.Common.{◌≡◌, ◌≢◌, ◌≤◌, ℕ, List, [], codes, refl, IfSome}
use Rattle.std.specs.List.{All}
use Rattle.serde_json.specs.Data.{Data, string, object}
use Rattle.ac_types.specs.Outcomes.{reads}
use Rattle.ac_types.specs.declared.fault.FaultKind.TheVariants.{BadHandler, NameTwice}
use Rattle.app_section.specs.AppData.{AppData}
use Rattle.app_section.specs.AppForm.{app, first_fields, last_fields}
use Rattle.app_section.specs.AppObject.{app_fields, app_object}
use Rattle.app_section.specs.AppParts.{LastData, last_of}
use Rattle.app_section.specs.AppRules.{IsApp, IsExec, IsPlace, IsHandler, IsEnvVar, IsMountPoint, IsPortRange, IsIsolator}
use Rattle.app_section.specs.ExecForm.{exec, words}
use Rattle.app_section.specs.HandlerForm.{kind_name}
use Rattle.app_section.specs.Objects.{written}
use Rattle.app_section.specs.declared.app_fields.FirstFields.{FirstFields}
use Rattle.app_section.proofs.Elements.{env_given, env_again, words_given, words_again, handler_given, handler_again, mount_given, mount_again, port_given, port_again, isolator_given, isolator_again}
use Rattle.app_section.proofs.Fields.{default_given, required_given, required_again, optional_given, optional_again, list_given, filled_again, list_of_given, list_of_again, named_list_given, named_list_again, members_are_whole, filled_is_whole, optional_is_whole}
use Rattle.app_section.proofs.Readings.{GivesOnly, Gives, Rereads, AreNamed, gives, gives_then, gives_behind, then_reads}
use Rattle.app_section.proofs.Texts.{text_again, filled_text_given, filled_text_again, place_given, place_field_again, whole_given, whole_again}

exec_given : Gives IsExec exec
exec_given = list_given IsExec words words_given

-- what the first fields are, and the last
record AreFirst (f : FirstFields) : Type 0 where
  words : IsExec f.exec
  owner : f.user ≢ []
  owner_group : f.group ≢ []
  groups : All (λ g. g ≤ 4294967295) f.supplementary_gids
  handlers : AreNamed (λ h. kind_name h.kind) IsHandler f.event_handlers

record AreLast (l : LastData) : Type 0 where
  directory : IfSome l.working_directory IsPlace
  variables : All IsEnvVar l.environment
  mounts : AreNamed (λ m. m.name) IsMountPoint l.mount_points
  listens : AreNamed (λ p. p.name) IsPortRange l.ports
  limits : All IsIsolator l.isolators

first_given : (at : List ℕ) (d : Data) → GivesOnly AreFirst (first_fields at d)
unfolding first_fields
first_given at d =
    gives_then _ _ (default_given {P = IsExec} [] tt exec_given at (codes "exec") d) λ words w.
    gives_then _ _ (required_given filled_text_given at (codes "user") d) λ user u.
    gives_then _ _ (required_given filled_text_given at (codes "group") d) λ group g.
    gives_then _ _ (list_of_given (whole_given 4294967295) at (codes "supplementaryGIDs") d) λ gids s.
    gives_then _ _ (named_list_given BadHandler (λ h. kind_name h.kind) handler_given at (codes "eventHandlers") d) λ handlers h.
    gives AreFirst _ (record { words = w; owner = u; owner_group = g; groups = s; handlers = h })

last_given : (at : List ℕ) (d : Data) → GivesOnly AreLast (last_fields at d)
unfolding last_fields
last_given at d =
    gives_then _ _ (optional_given place_given at (codes "workingDirectory") d) λ directory f.
    gives_then _ _ (list_of_given env_given at (codes "environment") d) λ environment e.
    gives_then _ _ (named_list_given NameTwice (λ m. m.name) mount_given at (codes "mountPoints") d) λ mount_points m.
    gives_then _ _ (named_list_given NameTwice (λ p. p.name) port_given at (codes "ports") d) λ ports p.
    gives_then _ _ (list_of_given isolator_given at (codes "isolators") d) λ isolators i.
    gives AreLast _ (record { directory = f; variables = e; mounts = m; listens = p; limits = i })

pub app_given : Gives IsApp app
unfolding app
app_given = record {
  law = λ at d.
      gives_then _ _ (gives_behind _ _ (first_given at d)) λ first f.
      gives_then _ _ (last_given at d) λ last l.
      gives IsApp _ (record {
        words = f.words;
        owner = f.owner;
        owner_group = f.owner_group;
        groups = f.groups;
        handlers = f.handlers.0;
        handler_kinds = f.handlers.1;
        directory = l.directory;
        variables = l.variables;
        mounts = l.mounts.0;
        mount_names = l.mounts.1;
        listens = l.listens.0;
        port_names = l.listens.1;
        limits = l.limits;
      });
}

abbrev first_data : AppData → FirstFields
first_data a = record {
  exec = a.exec;
  user = a.user;
  group = a.group;
  supplementary_gids = a.supplementary_gids;
  event_handlers = a.event_handlers;
}

first_read : (at : List ℕ) (a : AppData) → IsApp a → first_fields at (object (written (app_fields a))) ≡ reads (first_data a)
unfolding first_fields
first_read at a is =
    let fields = app_fields a in
    then_reads _ _ _ _ (filled_again words string at (codes "exec") fields a.exec refl (λ path. words_again path a.exec is.words))
    (then_reads _ _ _ _ (required_again filled_text_again at (codes "user") fields a.user refl is.owner)
    (then_reads _ _ _ _ (required_again filled_text_again at (codes "group") fields a.group refl is.owner_group)
    (then_reads _ _ _ _ (list_of_again (whole_again 4294967295) at (codes "supplementaryGIDs") fields a.supplementary_gids refl is.groups)
    (then_reads _ _ _ _ (named_list_again BadHandler (λ h. kind_name h.kind) handler_again at (codes "eventHandlers") fields a.event_handlers
    refl (is.handlers, is.handler_kinds)) refl))))

last_read : (at : List ℕ) (a : AppData) → IsApp a → last_fields at (object (written (app_fields a))) ≡ reads (last_of a)
unfolding last_fields
last_read at a is =
    let fields = app_fields a in
    then_reads _ _ _ _ (optional_again place_field_again at (codes "workingDirectory") fields a.working_directory refl is.directory)
    (then_reads _ _ _ _ (list_of_again env_again at (codes "environment") fields a.environment refl is.variables)
    (then_reads _ _ _ _ (named_list_again NameTwice (λ m. m.name) mount_again at (codes "mountPoints") fields a.mount_points
    refl (is.mounts, is.mount_names))
    (then_reads _ _ _ _ (named_list_again NameTwice (λ p. p.name) port_again at (codes "ports") fields a.ports
    refl (is.listens, is.port_names))
    (then_reads _ _ _ _ (list_of_again isolator_again at (codes "isolators") fields a.isolators refl is.limits) refl))))

pub app_again : Rereads IsApp app app_object
unfolding app app_object
app_again = record {
  law = λ at a is. then_reads _ _ (first_data a) a (first_read at a is) (then_reads _ _ (last_of a) a (last_read at a is) refl);
  shown = λ a is. refl;
  whole = λ a is.
      let environment = filled_is_whole env_again a.environment is.variables in
      let handlers = filled_is_whole handler_again a.event_handlers is.handlers in
      let words = filled_is_whole text_again a.exec (λ k t within. tt) in
      let isolators = filled_is_whole isolator_again a.isolators is.limits in
      let mount_points = filled_is_whole mount_again a.mount_points is.mounts in
      let ports = filled_is_whole port_again a.ports is.listens in
      let gids = filled_is_whole (whole_again 4294967295) a.supplementary_gids is.groups in
      let directory = optional_is_whole place_field_again a.working_directory is.directory in
      members_are_whole (app_fields a)
      (environment, (handlers, (words, (refl, (isolators, (mount_points, (ports, (gids, (refl, (directory, tt))))))))));
}
