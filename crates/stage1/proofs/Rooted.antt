-- The roots of the apps, read one after the other.
use Rattle.std.proofs.Common.{◌≡◌, ◌<◌, ◌+◌, ℕ, Bool, true, List, [], ◌∷◌, ◌++◌, length, take, get_or, sym, subst}
use Rattle.manifests.specs.declared.runtime_app.RuntimeApp.{RuntimeApp}
use Rattle.dir_model.specs.declared.pod.PodId.{PodId}
use Rattle.dir_trait.specs.DirCalls.{DirAt}
use Rattle.image_reading.proofs.Widths.{file_after, file_before}
use Rattle.stage1.specs.declared.root.Root.{Root}
use Rattle.pod_files.specs.Looks.{OnlyReadsPod}
use Rattle.pod_files.proofs.AppNames.{names, names_more}
use Rattle.stage1.specs.AppFiles.{ReadsRoot, AddsRoot, AreAppRoots}
use Rattle.stage1.specs.declared.start.AppStart.{AppStart}
use Rattle.stage1.specs.Starts.{FindsStarts}

module _ {observed : Bool} (t : observed ≡ true) (pod : PodId) where
  -- in a part of the time
  pub roots_before : (a : DirAt) (apps : List (List ℕ)) (roots : List Root) {b c : DirAt} → AreAppRoots pod apps roots a b → OnlyReadsPod observed pod b c → AreAppRoots pod apps roots a c
  roots_before a [] [] are bc = tt
  roots_before a [] (root ∷ roots) are bc = absurd are
  roots_before a (app ∷ apps) [] are bc = absurd are
  roots_before a (app ∷ apps) (root ∷ roots) are bc = (file_before t are.0 bc, roots_before a apps roots are.1 bc)

  pub roots_after : (apps : List (List ℕ)) (roots : List Root) {a b : DirAt} (c : DirAt) → OnlyReadsPod observed pod a b → AreAppRoots pod apps roots b c → AreAppRoots pod apps roots a c
  roots_after [] [] c ab are = tt
  roots_after [] (root ∷ roots) c ab are = absurd are
  roots_after (app ∷ apps) [] c ab are = absurd are
  roots_after (app ∷ apps) (root ∷ roots) c ab are = (file_after t ab are.0, roots_after apps roots c ab are.1)

  pub finds_after : (address : List ℕ) {token : List ℕ} {apps : List RuntimeApp} {starts : List AppStart} {a b : DirAt} (c : DirAt) → OnlyReadsPod observed pod a b → FindsStarts pod address token apps starts b c → FindsStarts pod address token apps starts a c
  finds_after address {apps = apps} c ab found = record { roots = found.roots; read = roots_after (names apps) found.roots c ab found.read; are = found.are }

  -- one more
  push_root : (a c : DirAt) (apps : List (List ℕ)) (roots : List Root) (app : List ℕ) (root : Root) → AreAppRoots pod apps roots a c → ReadsRoot pod app root a c → AreAppRoots pod (apps ++ app ∷ []) (roots ++ root ∷ []) a c
  push_root a c [] [] app root are read = (read, tt)
  push_root a c [] (r ∷ roots) app root are read = absurd are
  push_root a c (n ∷ apps) [] app root are read = absurd are
  push_root a c (n ∷ apps) (r ∷ roots) app root are read = (are.0, push_root a c apps roots app root are.1 read)

  pub one_root_more : (a c : DirAt) (apps : List (List ℕ)) (roots : List Root) (app : List ℕ) (root : Root) {b : DirAt} → OnlyReadsPod observed pod a b → AreAppRoots pod apps roots a b → OnlyReadsPod observed pod b c → ReadsRoot pod app root b c → AreAppRoots pod (apps ++ app ∷ []) (roots ++ root ∷ []) a c
  one_root_more a c apps roots app root ab are bc read = push_root a c apps roots app root (roots_before a apps roots are bc) (file_after t ab read)

  pub roots_next : (a c : DirAt) (apps : List RuntimeApp) (i : ℕ) (app : RuntimeApp) → i < length apps → app ≡ get_or apps i app → (before after : List Root) {b : DirAt} → OnlyReadsPod observed pod a b → AreAppRoots pod (names (take i apps)) before a b → OnlyReadsPod observed pod b c → AddsRoot pod app.name before after b c → AreAppRoots pod (names (take (i + 1) apps)) after a c
  roots_next a c apps i app h is before after ab are bc adds =
      subst (λ (ns : List (List ℕ)). AreAppRoots pod ns after a c) (sym (names_more apps i app h is))
      (subst (λ (rs : List Root). AreAppRoots pod (names (take i apps) ++ app.name ∷ []) rs a c) (sym adds.added) (one_root_more a c (names (take i apps)) before app.name adds.root ab are bc adds.read))

pub roots_none : (pod : PodId) (apps : List (List ℕ)) (roots : List Root) (d : DirAt) → apps ≡ [] → roots ≡ [] → AreAppRoots pod apps roots d d
roots_none pod apps roots d no_apps no_roots = rw (no_apps, no_roots) tt
