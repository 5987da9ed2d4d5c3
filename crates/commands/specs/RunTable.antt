-- With what the apps of a pod start, by what its folder holds; and why not.
use Rattle.std.specs.Prelude.{◌≡◌, ◌⊎◌, ℕ, cond, Option, Some, None, IfSome, List, [], ◌∷◌, map}
use Rattle.dir_model.specs.declared.event.Event.{Event}
use Rattle.dir_model.specs.declared.pod.PodId.{PodId}
use Rattle.dir_model.specs.Causes.{Rose}
use Rattle.dir_rules.specs.declared.seen.Entry.{Entry}
use Rattle.dir_rules.specs.Rules.{has_file_among}
use Rattle.folder_contents.specs.Entries.{file_bytes}
use Rattle.image_reading.specs.Files.{IsListingOf}
use Rattle.launch.specs.Launches.{IsLaunch, missing_word}
use Rattle.lifecycle.specs.Executions.{IsConforming}
use Rattle.manifests.specs.PodData.{PodData, RuntimeAppData}
use Rattle.path_map.specs.Entries.{Tree, entry_at}
use Rattle.pod_files.specs.Files.{IsManifestOf, IsTokenOf}
use Rattle.pod_files.specs.Places.{pod_manifest_name, token_name}
use Rattle.stage1.specs.declared.load_error.LoadError.{LoadError}
use Rattle.stage1.specs.declared.load_error.LoadError.TheVariants.{NoManifest, Damaged, NoProgram}
use Rattle.stage1.specs.declared.start.AppStart.{AppStart}
use Rattle.stage1.specs.AppPlaces.{tree_path, told_path, app_root_of}
use Rattle.stage1.specs.declared.end.AppEnd.{AppEnd}
use Rattle.stage1.specs.declared.error.RunError.{RunError}
use Rattle.stage1.specs.declared.error.RunError.TheVariants as run
use Rattle.stage1.specs.Asking.{Asks}
use Rattle.stage1.specs.Cutting.{IsCutShort}
use Rattle.stage1.specs.Runs.{end_of}
use Rattle.stage1.specs.Sequences.{Ending, launch_sequence, app_status_of}
use Rattle.tree_digest.specs.declared.line.ListingLine.{ListingLine}
use Rattle.tree_digest.specs.Listings.{entries_of, listing_text}
use Rattle.command_outcomes.specs.declared.refusal.Refusal.{Refusal}
use Rattle.command_outcomes.specs.Moments.{SpawnerSeen}
use Rattle.commands.specs.RunRefusals.{run_refusal}

-- the bytes of the file at a path of a folder that holds this, if one stands there
abbrev pub file_in : List Entry → List ℕ → Option (List ℕ)
file_in es path = cond (has_file_among path es) (Some (file_bytes path es)) None

-- a file stands there, and this is so of its bytes
pub record HoldsFile (es : List Entry) (path : List ℕ) (P : List ℕ → Type 0) : Type 0 where
  pub bytes : List ℕ
  pub there : file_in es path ≡ Some bytes
  pub so : P bytes

-- the pod's manifest, its token, and the listing of an app's root
abbrev pub HoldsManifest : List Entry → PodData → Type 0
HoldsManifest es manifest = HoldsFile es pod_manifest_name (IsManifestOf manifest)

abbrev pub HoldsToken : List Entry → List ℕ → Type 0
HoldsToken es token = HoldsFile es token_name (IsTokenOf token)

abbrev pub HoldsListing : List Entry → List ℕ → List ListingLine → Type 0
HoldsListing es app lines = HoldsFile es (tree_path app) (IsListingOf lines)

-- the listings of the apps, in their order
abbrev pub HoldsListings : List Entry → List RuntimeAppData → List (List ListingLine) → Type 0
HoldsListings es (app ∷ apps) (lines ∷ roots) = HoldsListing es app.name lines × HoldsListings es apps roots
HoldsListings es [] [] = Unit {0}
HoldsListings es _ _ = ⊥

-- what stands in a root with this listing
abbrev pub tree_of_lines : List ListingLine → Tree
tree_of_lines lines = entry_at (entries_of lines)

-- the app starts so in its root, of which this is the listing
pub record IsStartOfApp (pod : PodId) (address token : List ℕ) (app : RuntimeAppData) (lines : List ListingLine) (start : AppStart) : Type 0 where
  pub name : start.name ≡ app.name
  pub place : start.root ≡ app_root_of pod app.name
  pub listing : start.listing.items ≡ listing_text lines
  pub launch : IfSome app.app (λ section. IsLaunch section app.name address token (tree_of_lines lines) start.launch)
  pub found : missing_word app.app (tree_of_lines lines) ≡ None

abbrev pub AreStartsOfApps : PodId → List ℕ → List ℕ → List RuntimeAppData → List (List ListingLine) → List AppStart → Type 0
AreStartsOfApps pod address token (app ∷ apps) (lines ∷ roots) (start ∷ starts) = IsStartOfApp pod address token app lines start × AreStartsOfApps pod address token apps roots starts
AreStartsOfApps pod address token [] [] [] = Unit {0}
AreStartsOfApps pod address token _ _ _ = ⊥

-- so the apps of the folder's manifest start: in its order, with the folder's token, by the listings of their roots there
pub record AreStartsOf (pod : PodId) (address : List ℕ) (es : List Entry) (starts : List AppStart) : Type 0 where
  pub manifest : PodData
  pub told : HoldsManifest es manifest
  pub token : List ℕ
  pub token_told : HoldsToken es token
  pub roots : List (List ListingLine)
  pub listed : HoldsListings es manifest.apps roots
  pub start : AreStartsOfApps pod address token manifest.apps roots starts

-- no file stands there that is a manifest, a token, or a listing of the root of this app
abbrev pub EntriesLackManifest : List Entry → Type 0
EntriesLackManifest es = (manifest : PodData) → HoldsManifest es manifest → ⊥

abbrev pub EntriesLackToken : List Entry → Type 0
EntriesLackToken es = (token : List ℕ) → HoldsToken es token → ⊥

abbrev pub EntriesLackListing : List Entry → List ℕ → Type 0
EntriesLackListing es app = (lines : List ListingLine) → HoldsListing es app lines → ⊥

-- this is the first of the apps whose listing is lacking
abbrev pub FirstUnlisted : List Entry → List RuntimeAppData → List ℕ → Type 0
FirstUnlisted es (app ∷ apps) name = ((name ≡ app.name) × EntriesLackListing es app.name) ⊎ ((lines : List ListingLine) × HoldsListing es app.name lines × FirstUnlisted es apps name)
FirstUnlisted es [] name = ⊥

-- this is the first of the apps that has no program for a word, and its first such word
abbrev pub FirstMissing : List RuntimeAppData → List (List ListingLine) → List ℕ → List ℕ → Type 0
FirstMissing (app ∷ apps) (lines ∷ roots) name word =
    ((name ≡ app.name) × (missing_word app.app (tree_of_lines lines) ≡ Some word))
    ⊎ ((missing_word app.app (tree_of_lines lines) ≡ None) × FirstMissing apps roots name word)
FirstMissing _ _ name word = ⊥

-- there is a manifest and no token
pub record IsBareOfToken (pod : PodId) (es : List Entry) (path : List ℕ) : Type 0 where
  pub manifest : PodData
  pub told : HoldsManifest es manifest
  pub is : path ≡ told_path pod token_name
  pub lacks : EntriesLackToken es

-- there are both, and not every listing
pub record IsBareOfListing (pod : PodId) (es : List Entry) (path : List ℕ) : Type 0 where
  pub manifest : PodData
  pub told : HoldsManifest es manifest
  pub token : List ℕ
  pub token_told : HoldsToken es token
  pub app : List ℕ
  pub first : FirstUnlisted es manifest.apps app
  pub is : path ≡ told_path pod (tree_path app)

-- there are all, and a root lacks a program
pub record IsBareOfProgram (es : List Entry) (name word : List ℕ) : Type 0 where
  pub manifest : PodData
  pub told : HoldsManifest es manifest
  pub token : List ℕ
  pub token_told : HoldsToken es token
  pub roots : List (List ListingLine)
  pub listed : HoldsListings es manifest.apps roots
  pub first : FirstMissing manifest.apps roots name word

-- the first that is lacking, in this order: the manifest, the token, a listing, a program
abbrev pub HasNoStarts : PodId → List Entry → LoadError → Type 0
HasNoStarts pod es NoManifest = EntriesLackManifest es
HasNoStarts pod es (Damaged path) = IsBareOfToken pod es path ⊎ IsBareOfListing pod es path
HasNoStarts pod es (NoProgram name word) = IsBareOfProgram es name word
HasNoStarts pod es error = ⊥

-- what a spawner is told of both is the same
pub record SameStart (a b : AppStart) : Type 0 where
  pub name : a.name ≡ b.name
  pub root : a.root ≡ b.root
  pub listing : a.listing.items ≡ b.listing.items
  pub launch : a.launch ≡ b.launch

abbrev pub SameStarts : List AppStart → List AppStart → Type 0
SameStarts (a ∷ xs) (b ∷ ys) = SameStart a b × SameStarts xs ys
SameStarts [] [] = Unit {0}
SameStarts _ _ = ⊥

-- these are the starts of the folder, and there are no others; nothing is lacking
pub record AreTheStarts (pod : PodId) (address : List ℕ) (es : List Entry) (starts : List AppStart) : Type 0 where
  pub are : AreStartsOf pod address es starts
  pub only : (others : List AppStart) → AreStartsOf pod address es others → SameStarts others starts
  pub whole : (error : LoadError) → HasNoStarts pod es error → ⊥

-- this is lacking first, and nothing else; so there are no starts
pub record IsWhyNone (pod : PodId) (es : List Entry) (error : LoadError) : Type 0 where
  pub is : HasNoStarts pod es error
  pub only : (other : LoadError) → HasNoStarts pod es other → other ≡ error
  pub none : (address : List ℕ) (starts : List AppStart) → AreStartsOf pod address es starts → ⊥

-- the apps of the folder were run to their ends: these are the ends of its starts, in their order, each with the status that its programs
-- gave; and the spawner was asked for all of them and for nothing else
pub record RunsAll (pod : PodId) (address : List ℕ) (es : List Entry) (ends : List AppEnd) (old new : SpawnerSeen) : Type 0 where
  pub starts : List AppStart
  pub are : AreTheStarts pod address es starts
  pub endings : List Ending
  pub apps : map (λ e. e.begun.app) endings ≡ starts
  pub each : ends ≡ map (λ e. end_of e.begun.app (app_status_of e)) endings
  pub asked : Asks old.observed old.shown (launch_sequence endings) new.shown

-- this is lacking in the folder first, and nothing was asked of the spawner
pub record StartsNoApp (pod : PodId) (es : List Entry) (error : LoadError) (old new : SpawnerSeen) : Type 0 where
  pub lacks : IsWhyNone pod es error
  pub unasked : Asks old.observed old.shown [] new.shown

-- the spawner failed, and the calls for the folder's starts were cut short
pub record StopsStarting (pod : PodId) (address : List ℕ) (es : List Entry) (old new : SpawnerSeen) : Type 0 where
  pub rose : Rose old.shown.faults new.shown.faults
  pub starts : List AppStart
  pub are : (starts ≡ []) ⊎ AreTheStarts pod address es starts
  pub cut : IsCutShort old.observed starts old.shown new.shown

-- why a pod that its process runs isn't run to its end, by what its folder holds. No answer is stray
abbrev pub StoppedFor : PodId → List ℕ → List Entry → RunError → SpawnerSeen → SpawnerSeen → Type 0
StoppedFor pod address es run.NoManifest old new = StartsNoApp pod es NoManifest old new
StoppedFor pod address es (run.Damaged path) old new = StartsNoApp pod es (Damaged path) old new
StoppedFor pod address es (run.NoProgram app word) old new = StartsNoApp pod es (NoProgram app word) old new
StoppedFor pod address es run.SpawnFault old new = StopsStarting pod address es old new
StoppedFor pod address es run.Stray old new = ⊥
StoppedFor pod address es error old new = Unit {0}

-- the run of a pod was refused so, and where every process keeps the local rules this is why
pub record IsRefusedFor (pod : PodId) (refusal : Refusal) (new : List Event) (Why : RunError → Type 0) : Type 0 where
  pub error : RunError
  pub is : refusal ≡ run_refusal pod error
  pub why : IsConforming new → Why error
