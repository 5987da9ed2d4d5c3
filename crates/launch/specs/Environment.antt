-- The environment of an app's programs.
use Rattle.std.specs.Prelude.{ℕ, Bool, not, ◌||◌, bytes_eq, cond, Option, Some, None, unwrap_or, List, [], ◌∷◌, ◌++◌, map, filter, codes}
use Rattle.std.specs.List.{list_any}
use Rattle.app_section.specs.declared.env_var.EnvVar.{EnvVar}

-- the variable has this name
abbrev pub is_variable_named : EnvVar → List ℕ → Bool
is_variable_named v name = bytes_eq v.name name

abbrev pub has_variable : List ℕ → List EnvVar → Bool
has_variable name vs = list_any (λ v. is_variable_named v name) vs

-- the value of the last variable of this name
abbrev pub last_value : List ℕ → List EnvVar → Option (List ℕ)
last_value name [] = None
last_value name (v ∷ vs) = cond (has_variable name vs) (last_value name vs) (cond (is_variable_named v name) (Some v.value) None)

-- the variables whose names don't stand before
abbrev pub first_of_each_name : List EnvVar → List EnvVar
first_of_each_name [] = []
first_of_each_name (v ∷ vs) = v ∷ filter (λ w. not (is_variable_named w v.name)) (first_of_each_name vs)

-- the variable, with the value that its name has last
abbrev pub with_last : List EnvVar → EnvVar → EnvVar
with_last vs v = record { name = v.name; value = unwrap_or (last_value v.name vs) v.value }

-- the names of what is said of the app itself, and of where its programs are
abbrev pub app_name_variable : List ℕ
app_name_variable = codes "AC_APP_NAME"

abbrev pub metadata_url : List ℕ
metadata_url = codes "AC_METADATA_URL"

abbrev pub path_name : List ℕ
path_name = codes "PATH"

abbrev pub default_path : List ℕ
default_path = codes "/usr/local/sbin:/usr/local/bin:/usr/sbin:/usr/bin:/sbin:/bin"

-- its manifest can't say it
abbrev pub is_reserved_variable : List ℕ → Bool
is_reserved_variable name = bytes_eq name app_name_variable || bytes_eq name metadata_url

-- what the manifest gives: each name where it first stands, with its last value
abbrev pub variables_from_manifest : List EnvVar → List EnvVar
variables_from_manifest vs = filter (λ v. not (is_reserved_variable v.name)) (map (with_last vs) (first_of_each_name vs))

-- NAME=VALUE
abbrev pub variable : List ℕ → List ℕ → List ℕ
variable name value = name ++ 61 ∷ value

abbrev pub variable_of : EnvVar → List ℕ
variable_of v = variable v.name v.value

-- where programs are searched
abbrev pub search_path : List EnvVar → List ℕ
search_path vs = unwrap_or (last_value path_name vs) default_path

-- the usual places, where the manifest says none
abbrev pub default_path_if_unset : List EnvVar → List (List ℕ)
default_path_if_unset vs = cond (has_variable path_name vs) [] (variable path_name default_path ∷ [])

-- where the metadata service answers of the pod
abbrev pub metadata_address : List ℕ → List ℕ → List ℕ
metadata_address address token = codes "http://" ++ (address ++ 47 ∷ token)

-- all of it, for the app of this name
abbrev pub environment_of : List EnvVar → List ℕ → List ℕ → List ℕ → List (List ℕ)
environment_of vs app address token =
    map variable_of (variables_from_manifest vs) ++ (default_path_if_unset vs ++ variable app_name_variable app ∷ variable metadata_url (metadata_address address token) ∷ [])

-- the variable of a name, where it has a value and isn't reserved
abbrev pub variable_if_unreserved : List ℕ → Option (List ℕ) → List (List ℕ)
variable_if_unreserved name None = []
variable_if_unreserved name (Some value) = cond (is_reserved_variable name) [] (variable name value ∷ [])
