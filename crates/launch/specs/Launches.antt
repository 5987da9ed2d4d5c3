-- With what an app starts.
use Rattle.std.specs.Prelude.{◌≡◌, ℕ, Bool, true, false, Option, Some, None, unwrap_or, option_map, find, Result, Ok, Err, List, [], codes}
use Rattle.app_section.specs.declared.handler.HandlerKind.{HandlerKind}
use Rattle.app_section.specs.declared.handler.HandlerKind.TheVariants.{PreStart, PostStop}
use Rattle.app_section.specs.AppData.{AppData}
use Rattle.path_map.specs.Entries.{Tree}
use Rattle.launch.specs.declared.launch.AppLaunch.{AppLaunch}
use Rattle.launch.specs.Environment.{search_path, environment_of}
use Rattle.launch.specs.Programs.{argv_of}

-- both are one kind
abbrev pub is_handler_kind : HandlerKind → HandlerKind → Bool
is_handler_kind PreStart PreStart = true
is_handler_kind PostStop PostStop = true
is_handler_kind kind other = false

-- what runs before an app, or after it
abbrev pub handler_of : HandlerKind → AppData → Option (List (List ℕ))
handler_of kind app = option_map (λ h. h.exec) (find (λ h. is_handler_kind h.kind kind) app.event_handlers)

-- a handler's words, where there is one
abbrev pub words_if_any : Option (List (List ℕ)) → (List (List ℕ) → Result (List (List ℕ)) (List ℕ)) → Result (Option (List (List ℕ))) (List ℕ)
words_if_any None words_of = Ok None
words_if_any (Some exec) words_of = some_of (words_of exec)
  where
    some_of : Result (List (List ℕ)) (List ℕ) → Result (Option (List (List ℕ))) (List ℕ)
    some_of (Ok words) = Ok (Some words)
    some_of (Err word) = Err word

-- the words of an app's programs, by its environment's search path
abbrev pub words_in : AppData → Tree → List (List ℕ) → Result (List (List ℕ)) (List ℕ)
words_in app tree exec = argv_of exec (search_path app.environment) tree

abbrev pub handler_words : HandlerKind → AppData → Tree → Result (Option (List (List ℕ))) (List ℕ)
handler_words kind app tree = words_if_any (handler_of kind app) (words_in app tree)

-- it is what the app of this name starts with, in a pod with this token
pub record IsLaunch (app : AppData) (name address token : List ℕ) (tree : Tree) (launch : AppLaunch) : Type 0 where
  pub environment : launch.environment ≡ environment_of app.environment name address token
  pub directory : launch.directory ≡ unwrap_or app.working_directory (codes "/")
  pub pre_start : handler_words PreStart app tree ≡ Ok launch.pre_start
  pub main : words_in app tree app.exec ≡ Ok launch.main
  pub post_stop : handler_words PostStop app tree ≡ Ok launch.post_stop

-- the first program word, in the order in which they start, that names no program of the root
abbrev pub missing_or_later : {X : Type 0} → Result X (List ℕ) → Option (List ℕ) → Option (List ℕ)
missing_or_later (Err word) later = Some word
missing_or_later (Ok words) later = later

abbrev pub missing_word : Option AppData → Tree → Option (List ℕ)
missing_word None tree = Some []
missing_word (Some app) tree = missing_or_later (handler_words PreStart app tree) (missing_or_later (words_in app tree app.exec) (missing_or_later (handler_words PostStop app tree) None))
