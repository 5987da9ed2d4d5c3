-- The elements of the section's lists: what their forms give, and that what is written for them is read again.
use Rattle.std.proofs.Common.{◌≡◌, ◌≢◌, ◌≤◌, ◌+◌, ℕ, zero, suc, Bool, true, false, List, [], ◌∷◌, ◌++◌, map, Option, Some, None, codes, nat_le, refl, ◌∙◌, ap, arith, IfSome}
use Rattle.std.specs.List.{All}
use Rattle.std.proofs.lemmas.Bool.{leb-true, le-leb}
use Rattle.std.proofs.lemmas.List.Elements.{All-nil, All-cons, All-head, All-tail}
use Rattle.serde_json.specs.Data.{Data, null, boolean, number, string, array, object}
use Rattle.serde_json.specs.Find.{get}
use Rattle.serde_json.specs.Written.{has_float}
use Rattle.ac_types.specs.FieldForms.{unless_null, required, required_at, optional_at, whole, each_after}
use Rattle.ac_types.specs.JsonPaths.{field_path, element_path}
use Rattle.ac_types.specs.Names.{IsAcName}
use Rattle.ac_types.specs.Outcomes.{reads}
use Rattle.app_section.specs.AppObject.{whole_data, env_fields, env_object, handler_fields, handler_object, mount_fields, mount_object, port_fields as port_list, port_object, isolator_fields, isolator_object}
use Rattle.app_section.specs.AppRules.{HasNoNul, IsProgram, IsExec, IsEnvVar, IsHandler, IsMountPoint, IsPortRange, IsIsolator}
use Rattle.app_section.specs.EnvForm.{env_var, env_name, env_value, is_env_name, if_good, unless_nul}
use Rattle.app_section.specs.ExecForm.{word, words, argument, some_words, filled_exec}
use Rattle.app_section.specs.HandlerForm.{handler, kind_name, kind_of, known_kind}
use Rattle.app_section.specs.IsolatorForm.{isolator, whole_json, unless_float}
use Rattle.app_section.specs.MountForm.{mount_point}
use Rattle.app_section.specs.Objects.{Field, written, list_data}
use Rattle.app_section.specs.Places.{has_nul, held, program_text}
use Rattle.app_section.specs.PortForm.{or_one, count_field, port_fields, if_within, port_range}
use Rattle.app_section.specs.declared.handler.HandlerKind.{HandlerKind}
use Rattle.app_section.specs.declared.handler.HandlerKind.TheVariants.{PreStart, PostStop}
use Rattle.app_section.specs.declared.port.Port.{Port}
use Rattle.app_section.proofs.Fields.{value_of, present_in, required_given, required_again, optional_given, any_flag, flag_again, list_given, list_reads, members_are_whole, flag_is_whole, list_is_whole}
use Rattle.app_section.proofs.PlacesAgain.{program_again}
use Rattle.app_section.proofs.Readings.{GivesOnly, Gives, Rereads, InTurn, gives, gives_none, gives_then, gives_behind, then_reads, split, more_given, each_given, each_again}
use Rattle.app_section.proofs.Texts.{IsFilled, text_given, text_again, filled_text_given, filled_text_again, name_given, name_again, filled_identifier_given, filled_identifier_again, held_given, filled_place_given, filled_place_again, whole_given, whole_again}

-- ---- environment variables

abbrev IsEnvName : List ℕ → Type 0
IsEnvName t = is_env_name t ≡ true

env_name_given : Gives IsEnvName env_name
env_name_given = record { law = λ at d. gives_then _ _ (filled_text_given.law at d) λ t u. by at t (is_env_name t) refl }
  where
    by : (at t : List ℕ) (good : Bool) → is_env_name t ≡ good → GivesOnly IsEnvName (if_good at good t)
    by at t true is = gives IsEnvName t is
    by at t false is = gives_none IsEnvName at _

env_name_again : Rereads IsEnvName env_name string
env_name_again = record { law = again; shown = λ t is. refl; whole = λ t is. refl }
  where
    again : (at t : List ℕ) → IsEnvName t → env_name at (string t) ≡ reads t
    again at [] is = let none : ⊥ = cc in absurd none
    again at (b ∷ bs) is = ap (λ good. if_good at good (b ∷ bs)) is

env_value_given : Gives HasNoNul env_value
env_value_given = record { law = λ at d. gives_then _ _ (text_given.law at d) λ t u. by at t (has_nul t) refl }
  where
    by : (at t : List ℕ) (has : Bool) → has_nul t ≡ has → GivesOnly HasNoNul (unless_nul at has t)
    by at t true is = gives_none HasNoNul at _
    by at t false is = gives HasNoNul t is

env_value_again : Rereads HasNoNul env_value string
env_value_again = record { law = λ at t is. ap (λ has. unless_nul at has t) is; shown = λ t is. refl; whole = λ t is. refl }

pub env_given : Gives IsEnvVar env_var
unfolding env_var
env_given = record {
  law = λ at d.
      gives_then _ _ (gives_behind _ _ (required_given env_name_given at (codes "name") d)) λ name n.
      gives_then _ _ (required_given env_value_given at (codes "value") d) λ value v.
      gives IsEnvVar _ (record { named = n; text = v });
}

pub env_again : Rereads IsEnvVar env_var env_object
unfolding env_var env_object
env_again = record {
  law = λ at v is.
      then_reads _ _ _ _ (required_again env_name_again at (codes "name") (env_fields v) v.name refl is.named)
      (then_reads _ _ _ _ (required_again env_value_again at (codes "value") (env_fields v) v.value refl is.text) refl);
  shown = λ v is. refl;
  whole = λ v is. refl;
}

-- ---- program words

-- the word is as it is asked for behind others
abbrev IsWord : List (List ℕ) → List ℕ → Type 0
IsWord [] t = IsProgram t
IsWord (w ∷ ws) t = HasNoNul t

word_given : (before : List (List ℕ)) (at : List ℕ) (d : Data) → GivesOnly (IsWord before) (word before at d)
word_given [] at d =
    gives_then _ _ (text_given.law at d) λ t u. held_given IsProgram at (program_text t) (λ p is. program_again t p is)
word_given (w ∷ ws) at d = gives_then _ _ (text_given.law at d) λ t u. by t (has_nul t) refl
  where
    by : (t : List ℕ) (has : Bool) → has_nul t ≡ has → GivesOnly HasNoNul (argument at has t)
    by t true is = gives_none HasNoNul at _
    by t false is = gives HasNoNul t is

word_again : (before : List (List ℕ)) (at t : List ℕ) → IsWord before t → word before at (string t) ≡ reads t
word_again [] at t is = ap (held at) is
word_again (w ∷ ws) at t is = ap (λ has. argument at has t) is

arguments_in_turn : (w : List ℕ) (ws more : List (List ℕ)) → InTurn IsWord (w ∷ ws) more → All HasNoNul more
arguments_in_turn w ws [] are = All-nil HasNoNul
arguments_in_turn w ws (m ∷ more) are = All-cons HasNoNul m more are.0 (arguments_in_turn w (ws ++ m ∷ []) more are.1)

turn_of_arguments : (w : List ℕ) (ws more : List (List ℕ)) → All HasNoNul more → InTurn IsWord (w ∷ ws) more
turn_of_arguments w ws [] are = tt
turn_of_arguments w ws (m ∷ more) are =
    (All-head HasNoNul m more are, turn_of_arguments w (ws ++ m ∷ []) more (All-tail HasNoNul m more are))

exec_in_turn : (ws : List (List ℕ)) → InTurn IsWord [] ws → IsExec ws
exec_in_turn [] are = tt
exec_in_turn (w ∷ ws) are = (are.0, arguments_in_turn w [] ws are.1)

turn_of_exec : (ws : List (List ℕ)) → IsExec ws → InTurn IsWord [] ws
turn_of_exec [] is = tt
turn_of_exec (w ∷ ws) is = (is.0, turn_of_arguments w [] ws is.1)

pub words_given : (at : List ℕ) (ds : List Data) → GivesOnly IsExec (words at ds)
unfolding words
words_given at ds ws h = exec_in_turn ws (each_given IsWord word word_given at ds ws h)

pub words_again : (at : List ℕ) (ws : List (List ℕ)) → IsExec ws → words at (map string ws) ≡ reads ws
unfolding words
words_again at ws is = each_again IsWord word string word_again at ws (turn_of_exec ws is)

-- a list of words holds texts alone
pub words_are_whole : (ws : List (List ℕ)) → has_float (list_data string ws) ≡ false
words_are_whole ws = list_is_whole text_again ws (λ k t within. tt)

abbrev IsFilledExec : List (List ℕ) → Type 0
IsFilledExec ws = IsExec ws × (ws ≢ [])

no_words : (at : List ℕ) (d : Data) (ds : List Data) (ws : List (List ℕ)) → words at (d ∷ ds) ≡ reads ws → ws ≢ []
unfolding words
no_words at d ds ws h = λ none.
    let first = split (word [] (element_path at 0) d) (λ w. each_after word at (w ∷ []) ds) ws h in
    let later = more_given IsWord word word_given at (first.0 ∷ []) ds ws first.2 in
    let some : ws ≡ first.0 ∷ later.0 = later.1 in
    cc

some_words_given : (at : List ℕ) (ds : List Data) → GivesOnly IsFilledExec (some_words at ds)
some_words_given at [] = gives_none IsFilledExec at _
some_words_given at (d ∷ ds) = λ ws h. (words_given at (d ∷ ds) ws h, no_words at d ds ws h)

some_words_again : (at : List ℕ) (ws : List (List ℕ)) → IsFilledExec ws → some_words at (map string ws) ≡ reads ws
some_words_again at [] is = absurd (is.1 refl)
some_words_again at (w ∷ ws) is = words_again at (w ∷ ws) is.0

filled_exec_given : Gives IsFilledExec filled_exec
filled_exec_given = list_given IsFilledExec some_words some_words_given

filled_exec_again : Rereads IsFilledExec filled_exec (list_data string)
filled_exec_again = record {
  law = λ at ws is. list_reads some_words string at ws (some_words_again at ws is);
  shown = λ ws is. refl;
  whole = λ ws is. words_are_whole ws;
}

-- ---- event handlers

kind_known : (at : List ℕ) (o : Option HandlerKind) → GivesOnly (λ kind. Unit {0}) (known_kind at o)
kind_known at o kind h = tt

kind_read : (at : List ℕ) (kind : HandlerKind) → known_kind at (kind_of (kind_name kind)) ≡ reads kind
kind_read at PreStart = refl
kind_read at PostStop = refl

kind_filled : (kind : HandlerKind) → IsFilled (kind_name kind)
kind_filled PreStart = λ none. cc
kind_filled PostStop = λ none. cc

pub handler_given : Gives IsHandler handler
unfolding handler
handler_given = record {
  law = λ at d.
      gives_then _ _ (gives_behind _ _ (required_given filled_text_given at (codes "name") d)) λ name n.
      gives_then _ _ (required_given filled_exec_given at (codes "exec") d) λ exec is.
      gives_then _ _ (kind_known (field_path at (codes "name")) (kind_of name)) λ kind k.
      gives IsHandler _ (record { words = is.0; some_word = is.1 });
}

pub handler_again : Rereads IsHandler handler handler_object
unfolding handler handler_object
handler_again = record {
  law = λ at h is.
      then_reads _ _ _ _ (required_again filled_text_again at (codes "name") (handler_fields h) (kind_name h.kind) refl (kind_filled h.kind))
      (then_reads _ _ _ _ (required_again filled_exec_again at (codes "exec") (handler_fields h) h.exec refl (is.words, is.some_word))
      (then_reads _ _ h.kind _ (kind_read (field_path at (codes "name")) h.kind) refl));
  shown = λ h is. refl;
  whole = λ h is. members_are_whole (handler_fields h) (words_are_whole h.exec, (refl, tt));
}

-- ---- mount points

pub mount_given : Gives IsMountPoint mount_point
unfolding mount_point
mount_given = record {
  law = λ at d.
      gives_then _ _ (gives_behind _ _ (required_given name_given at (codes "name") d)) λ name n.
      gives_then _ _ (required_given filled_place_given at (codes "path") d) λ path p.
      gives_then _ _ (any_flag at (codes "readOnly") d) λ read_only r.
      gives IsMountPoint _ (record { named = n; place = p });
}

pub mount_again : Rereads IsMountPoint mount_point mount_object
unfolding mount_point mount_object
mount_again = record {
  law = λ at m is.
      then_reads _ _ _ _ (required_again name_again at (codes "name") (mount_fields m) m.name refl is.named)
      (then_reads _ _ _ _ (required_again filled_place_again at (codes "path") (mount_fields m) m.path refl is.place)
      (then_reads _ _ _ _ (flag_again at (codes "readOnly") (mount_fields m) m.read_only refl) refl));
  shown = λ m is. refl;
  whole = λ m is. members_are_whole (mount_fields m) (refl, (refl, (flag_is_whole m.read_only, tt)));
}

-- ---- ports

abbrev IsCount : ℕ → Type 0
IsCount n = (1 ≤ n) × (n ≤ 65535)

one_at_least : (o : Option ℕ) → IfSome o (λ n. n ≤ 65535) → IsCount (or_one o)
one_at_least None is = (omega arith, omega arith)
one_at_least (Some zero) is = (omega arith, omega arith)
one_at_least (Some (suc n)) is = (omega arith, is)

count_given : (at : List ℕ) (d : Data) → GivesOnly IsCount (count_field at d)
count_given at d =
    gives_then _ _ (optional_given (whole_given 65535) at (codes "count") d) λ count is. gives IsCount (or_one count) (one_at_least count is)

-- a count that is written always
count_again : (at : List ℕ) (fields : List Field) (n : ℕ) → value_of (codes "count") fields ≡ Some (whole_data n) → IsCount n
    → count_field at (object (written fields)) ≡ reads n
count_again at fields zero there is = let none : ⊥ = omega (arith, is.0) in absurd none
count_again at fields (suc n) there is =
    let path = field_path at (codes "count") in
    then_reads _ _ (Some (suc n)) (suc n)
    (ap (optional_at (whole 65535) path) (present_in (codes "count") fields (Some (whole_data (suc n))) there)
    ∙ then_reads _ _ (suc n) (Some (suc n)) ((whole_again 65535).law path (suc n) is.1) refl)
    refl

-- a range, wherever it ends
record IsPort (p : Port) : Type 0 where
  named : IsAcName p.name
  spoken : p.protocol ≢ []
  first : p.port ≤ 65535
  counted : IsCount p.count

fields_given : Gives IsPort port_fields
unfolding port_fields
fields_given = record {
  law = λ at d.
      gives_then _ _ (gives_behind _ _ (required_given name_given at (codes "name") d)) λ name n.
      gives_then _ _ (required_given filled_text_given at (codes "protocol") d) λ protocol s.
      gives_then _ _ (required_given (whole_given 65535) at (codes "port") d) λ first f.
      gives_then _ _ (count_given at d) λ count c.
      gives_then _ _ (any_flag at (codes "socketActivated") d) λ activated a.
      gives IsPort _ (record { named = n; spoken = s; first = f; counted = c });
}

pub port_given : Gives IsPortRange port_range
unfolding port_range
port_given = record { law = λ at d. gives_then _ _ (fields_given.law at d) λ p is. by at p is (nat_le (p.port + p.count) 65536) refl }
  where
    by : (at : List ℕ) (p : Port) → IsPort p → (within : Bool) → nat_le (p.port + p.count) 65536 ≡ within
        → GivesOnly IsPortRange (if_within at within p)
    by at p is true ends = gives IsPortRange p (record {
      named = is.named;
      spoken = is.spoken;
      some_port = is.counted.0;
      counted = is.counted.1;
      within = leb-true (p.port + p.count) 65536 ends;
    })
    by at p is false ends = gives_none IsPortRange at _

pub port_again : Rereads IsPortRange port_range port_object
unfolding port_range port_fields port_object
port_again = record {
  law = λ at p is.
      let first : p.port ≤ 65535 = omega (arith, is.within, is.some_port) in
      then_reads _ _ p p
      (then_reads _ _ _ _ (required_again name_again at (codes "name") (port_list p) p.name refl is.named)
      (then_reads _ _ _ _ (required_again filled_text_again at (codes "protocol") (port_list p) p.protocol refl is.spoken)
      (then_reads _ _ _ _ (required_again (whole_again 65535) at (codes "port") (port_list p) p.port refl first)
      (then_reads _ _ _ _ (count_again at (port_list p) p.count refl (is.some_port, is.counted))
      (then_reads _ _ _ _ (flag_again at (codes "socketActivated") (port_list p) p.socket_activated refl) refl)))))
      (ap (λ within. if_within at within p) (le-leb (p.port + p.count) 65536 is.within));
  shown = λ p is. refl;
  whole = λ p is. members_are_whole (port_list p) (refl, (refl, (refl, (refl, (flag_is_whole p.socket_activated, tt)))));
}

-- ---- isolators

-- JSON that isn't null, with whole numbers alone
abbrev IsWholeJson : Data → Type 0
IsWholeJson d = (d ≢ null) × (has_float d ≡ false)

json_given : (at : List ℕ) (d : Data) → d ≢ null → GivesOnly IsWholeJson (whole_json at d)
json_given at d some = by (has_float d) refl
  where
    by : (has : Bool) → has_float d ≡ has → GivesOnly IsWholeJson (unless_float at has d)
    by true is = gives_none IsWholeJson at _
    by false is = gives IsWholeJson d (some, is)

value_at_given : (at : List ℕ) (o : Option Data) → GivesOnly IsWholeJson (required_at whole_json at (unless_null o))
value_at_given at None = gives_none IsWholeJson at _
value_at_given at (Some null) = gives_none IsWholeJson at _
value_at_given at (Some (boolean b)) = json_given at (boolean b) (λ none. cc)
value_at_given at (Some (number n)) = json_given at (number n) (λ none. cc)
value_at_given at (Some (string s)) = json_given at (string s) (λ none. cc)
value_at_given at (Some (array ds)) = json_given at (array ds) (λ none. cc)
value_at_given at (Some (object ms)) = json_given at (object ms) (λ none. cc)

value_given : (at : List ℕ) (d : Data) → GivesOnly IsWholeJson (required whole_json at (codes "value") d)
value_given at d = value_at_given (field_path at (codes "value")) (get (codes "value") d)

some_value : (d : Data) → d ≢ null → unless_null (Some d) ≡ Some d
some_value null some = absurd (some refl)
some_value (boolean b) some = refl
some_value (number n) some = refl
some_value (string s) some = refl
some_value (array ds) some = refl
some_value (object ms) some = refl

json_again : Rereads IsWholeJson whole_json (λ d. d)
json_again = record {
  law = λ at d is. ap (λ has. unless_float at has d) is.1;
  shown = λ d is. some_value d is.0;
  whole = λ d is. is.1;
}

pub isolator_given : Gives IsIsolator isolator
unfolding isolator
isolator_given = record {
  law = λ at d.
      gives_then _ _ (gives_behind _ _ (required_given filled_identifier_given at (codes "name") d)) λ name n.
      gives_then _ _ (value_given at d) λ value v.
      gives IsIsolator _ (record { named = n; valued = v.0; whole = v.1 });
}

pub isolator_again : Rereads IsIsolator isolator isolator_object
unfolding isolator isolator_object
isolator_again = record {
  law = λ at i is.
      then_reads _ _ _ _ (required_again filled_identifier_again at (codes "name") (isolator_fields i) i.name refl is.named)
      (then_reads _ _ _ _ (required_again json_again at (codes "value") (isolator_fields i) i.value refl (is.valued, is.whole)) refl);
  shown = λ i is. refl;
  whole = λ i is. members_are_whole (isolator_fields i) (refl, (is.whole, tt));
}
