-- What was read of a pod's files while its folder held the same: its starts by that, or why it has none.
use Rattle.std.proofs.Common.{arith, ◌≡◌, inl, inr, ◌<◌, ℕ, ◌==◌, true, false, cond, Option, Some, None, IfSome, option_map, List, [], ◌∷◌, ◌++◌, map, length, take, append-nil, append_assoc, refl, sym, ap, subst, ◌∙◌}
use Rattle.std.specs.List.{list_all}
use Rattle.std.proofs.lemmas.Bool.Decides.{nat_tests}
use Rattle.plain_laws.proofs.Fronts.{not_cut, within_take}
use Rattle.app_section.specs.AppData.{app_data}
use Rattle.app_section.specs.declared.app.App.{App}
use Rattle.dir_model.specs.declared.event.Event.{Event}
use Rattle.dir_model.specs.declared.item.Inner.{Inner}
use Rattle.dir_model.specs.declared.pod.PodId.{PodId}
use Rattle.dir_model.specs.Calls.{AtOwnStep}
use Rattle.dir_model.specs.Replies.{is_own_at}
use Rattle.dir_model.specs.State.{DirState, folder_at}
use Rattle.dir_model.specs.Trace.{state_after}
use Rattle.dir_model.specs.Trees.{content, is_apps_own}
use Rattle.dir_model.proofs.Lists.{and_left}
use Rattle.dir_model.proofs.Moments.{at_grown}
use Rattle.dir_files.specs.Reads.{AreTold, IsPiece, TellsFile, WasMissing, bytes_in, file_at}
use Rattle.dir_rules.specs.declared.seen.Entry.{Entry}
use Rattle.dir_rules.specs.Rules.{has_file_among}
use Rattle.dir_trait.specs.DirCalls.{DirAt}
use Rattle.folder_contents.specs.Entries.{entries_in}
use Rattle.folder_contents.proofs.Entries.{content_is}
use Rattle.folder_contents.proofs.Names.{file_of}
use Rattle.image_reading.specs.Files.{IsListingOf, IsNoListing, LacksFile, ReadsFile}
use Rattle.image_reading.proofs.Values.{no_tree_front, tree_front}
use Rattle.launch.specs.Launches.{IsLaunch, missing_word}
use Rattle.launch.specs.declared.launch.AppLaunch.{AppLaunch}
use Rattle.listing_laws.proofs.Faults.{a_listing_has_no_fault}
use Rattle.manifests.specs.declared.pod_manifest.PodManifest.{PodManifest}
use Rattle.manifests.specs.declared.runtime_app.RuntimeApp.{RuntimeApp}
use Rattle.manifests.specs.PodData.{PodData, pod_data, runtime_app_data}
use Rattle.path_map.specs.Entries.{Entries, entry_at}
use Rattle.pod_files.specs.Files.{IsManifestOf, IsNoManifest, IsNoToken, IsTokenOf, ReadsNoPodManifest as LacksManifestRead, ReadsNoToken as LacksTokenRead, ReadsPodManifest, ReadsToken, is_digit, is_token, most_of_token}
use Rattle.pod_files.specs.Places.{pod_manifest_name, pod_file, run_spot, token_name}
use Rattle.stage1.specs.declared.load_error.LoadError.{LoadError}
use Rattle.stage1.specs.declared.load_error.LoadError.TheVariants.{NoManifest, Damaged, NoProgram, DirFault, NoMemory}
use Rattle.stage1.specs.declared.start.AppStart.{AppStart}
use Rattle.stage1.specs.AppFiles.{AreAppRoots, IsAppRootOf, LacksRootListing, ReadsRoot}
use Rattle.stage1.specs.AppPlaces.{told_path, tree_path}
use Rattle.stage1.specs.LoadRefusals.{FirstLacks, InTurn, AppLacksListing as LacksListingRead, LacksProgram, LacksStarts, LoadCause}
use Rattle.stage1.specs.Starts.{AreStarts, IsAppStart, ReadsStarts}
use Rattle.pod_report.proofs.Reading.{same_reading}
use Rattle.standing_images.proofs.Pieces.{all_told, is_front, told_grown}
use Rattle.tree_digest.specs.declared.line.ListingLine.{ListingLine}
use Rattle.tree_digest.specs.Listings.{Fails, entries_of, listing_text}
use Rattle.commands.specs.RunTable.{AreStartsOf, FirstMissing, FirstUnlisted, HasNoStarts, HoldsFile, HoldsListing, HoldsListings, HoldsManifest, HoldsToken, EntriesLackListing, EntriesLackManifest, EntriesLackToken, AreStartsOfApps, IsStartOfApp, file_in, tree_of_lines}
use Rattle.commands.proofs.Parts.{Part, file_wider, lack_wider}
use Rattle.manifests.specs.ManifestSize.{most_of_manifest}
use Rattle.tree_digest.specs.ListingSize.{most_of_tree}

-- the pod's folder stands in run with this number and holds this, and nothing of it is a started app's own
pub record Holds (pod : PodId) (folder : ℕ) (es : List Entry) (s : DirState) : Type 0 where
  pub here : folder_at s.namespace (run_spot pod) ≡ Some folder
  pub holds : entries_in folder s.entries ≡ es
  pub unowned : (path : List ℕ) → is_apps_own s.apps folder path ≡ false

-- it does so after each step between two moments
abbrev pub HoldsOn : PodId → ℕ → List Entry → DirAt → DirAt → Type 0
HoldsOn pod folder es old new = (h rest : List Event) → (more : List Event) → h ≡ old.trace ++ more → new.trace ≡ h ++ rest → Holds pod folder es (state_after h)

-- bytes of a file
file_is : (pod : PodId) (folder : ℕ) (es : List Entry) (s : DirState) → Holds pod folder es s → (path : List ℕ) → file_at s (pod_file pod path) ≡ file_in es path
file_is pod folder es s x path =
    ap (bytes_in s.entries path) x.here
    ∙ (ap (λ b. cond b (Some (content s.entries folder path)) None) (file_of folder path s.entries)
    ∙ (ap (λ (l : List ℕ). cond (has_file_among path (entries_in folder s.entries)) (Some l) None) (content_is folder path s.entries)
    ∙ ap (λ (l : List Entry). file_in l path) x.holds))

-- a token's first bytes are all of it
token_short : (bytes : List ℕ) → is_token bytes ≡ true → length bytes ≡ 32
token_short bytes is = let h = and_left (length bytes == 32) (list_all is_digit bytes) is in grind (arith, nat_tests)

token_front : (file token : List ℕ) → IsTokenOf token (take 33 file) → IsTokenOf token file
token_front file token is =
    let e = token_short (take 33 file) is.1 in
    subst (λ (b : List ℕ). IsTokenOf token b) (not_cut 33 file (omega (arith, e))) is

no_token_front : (file token : List ℕ) → IsNoToken (take 33 file) → IsTokenOf token file → ⊥
no_token_front file token none is =
    let e = token_short file is.1 in
    let same = within_take 33 file (omega (arith, e)) in
    let clash : true ≡ false = sym is.1 ∙ (ap is_token (sym same) ∙ none) in
    cc

no_fault : (file : List ℕ) → IsNoListing file → (lines : List ListingLine) → IsListingOf lines file → ⊥
no_fault file none lines is = a_listing_has_no_fault lines none.0 is.kind (subst (λ (bytes : List ℕ). Fails bytes none.0) is.text none.1)

-- one reading goes before another
abbrev Between : DirAt → DirAt → Type 0
Between a b = (more : List Event) × (b.trace ≡ a.trace ++ more)

file_grown : {inner : Inner} {most : ℕ} {P : List ℕ → Type 0} (a b : DirAt) → ReadsFile inner most P a b → Between a b
file_grown {inner} a b r =
    let w = r.read in
    let t = told_grown w.first.process inner w.first.trace w.told.reads.pieces w.told.reads.told in
    (w.earlier ++ (t.0 ++ w.later), w.ends ∙ (ap (λ (h : List Event). h ++ w.later) (t.1 ∙ ap (λ (h : List Event). h ++ t.0) w.begins) ∙ simp append_assoc))

lack_grown : {inner : Inner} {most : ℕ} {P : List ℕ → Type 0} (a b : DirAt) → LacksFile inner most P a b → Between a b
lack_grown a b (inl missing) = at_grown missing
lack_grown a b (inr r) = file_grown a b r

turn_grown : {First Later : DirAt → DirAt → Type 0} (a b : DirAt) (t : InTurn First Later a b) → Between t.between b → Between a b
turn_grown a b t more = (t.earlier ++ more.0, more.1 ∙ (ap (λ (h : List Event). h ++ more.0) t.begins ∙ append_assoc a.trace t.earlier more.0))

first_part : {First Later : DirAt → DirAt → Type 0} {a b : DirAt} (t : InTurn First Later a b) → Between t.between b → Part a a t.between b
first_part {First} {Later} {a} {b} t more = record { earlier = []; later = more.0; same = refl; begins = sym (append-nil a.trace); ends = more.1 }

later_part : {First Later : DirAt → DirAt → Type 0} {a b : DirAt} (t : InTurn First Later a b) → Part a t.between b b
later_part {First} {Later} {a} {b} t = record { earlier = t.earlier; later = []; same = t.same; begins = t.begins; ends = sym (append-nil b.trace) }

part_in : {a b c d e f : DirAt} → Part a b e f → Part b c d e → Part a c d f
part_in {a} {b} {c} {d} {e} {f} p q = record {
  earlier = p.earlier ++ q.earlier;
  later = q.later ++ p.later;
  same = q.same ∙ p.same;
  begins = q.begins ∙ (ap (λ (h : List Event). h ++ q.earlier) p.begins ∙ append_assoc a.trace p.earlier q.earlier);
  ends = p.ends ∙ (ap (λ (h : List Event). h ++ p.later) q.ends ∙ append_assoc d.trace q.later p.later);
}

-- the section of an app by its data
section_is : (app : Option App) (name address token : List ℕ) (tree : _) (launch : AppLaunch) → IfSome app (λ section. IsLaunch (app_data section) name address token tree launch) → IfSome (option_map app_data app) (λ section. IsLaunch section name address token tree launch)
section_is None name address token tree launch is = is
section_is (Some app) name address token tree launch is = is

module _ (pod : PodId) (folder : ℕ) (es : List Entry) (old new : DirAt) (on : HoldsOn pod folder es old new) where
  told_at : (path : List ℕ) (P : Option (List ℕ) → Type 0) → AtOwnStep old.process old.trace new.trace (TellsFile (pod_file pod path) P) → P (file_in es path)
  told_at path P at =
      let h : List Event = at.before ++ at.step ∷ [] in
      let x : Holds pod folder es (state_after h) = on h at.rest (at.later ++ at.step ∷ []) (ap (λ (l : List Event). l ++ at.step ∷ []) at.begins ∙ append_assoc old.trace at.later (at.step ∷ [])) at.ends in
      subst P (file_is pod folder es (state_after h) x path) (at.holds (ap (λ (o : Option ℕ). is_own_at (state_after h) path o) x.here ∙ x.unowned path))

  missing : (path : List ℕ) → WasMissing (pod_file pod path) old new → file_in es path ≡ None
  missing path at = told_at path (λ file. file ≡ None) at

  front : (path : List ℕ) (most : ℕ) (P : List ℕ → Type 0) → 0 < most → ReadsFile (pod_file pod path) most P old new → (file : List ℕ) × (file_in es path ≡ Some file) × P (take most file)
  front path most P some r =
      let w = r.read in
      let reads = w.told.reads in
      let told = subst (λ (p : ℕ). AreTold p (pod_file pod path) w.first.trace reads.pieces w.last.trace) w.same reads.told in
      let f = is_front most r.bytes reads.pieces (file_in es path) some reads.whole r.few w.told.ended
      (all_told old.process (pod_file pod path) old.trace new.trace (file_in es path) (λ at room bytes step. told_at path (IsPiece at room bytes) step) w.first.trace w.earlier w.begins reads.pieces w.last.trace w.later w.ends told) in
      (f.file, f.is, subst P f.front r.holds)

  -- what is lacking
  lacking : (path : List ℕ) (most : ℕ) (P Q : List ℕ → Type 0) → 0 < most → ((file : List ℕ) → P (take most file) → Q file → ⊥) → LacksFile (pod_file pod path) most P old new → HoldsFile es path Q → ⊥
  lacking path most P Q some apart (inl none) x = let clash : Some x.bytes ≡ None = sym x.there ∙ missing path none in cc
  lacking path most P Q some apart (inr r) x =
      let f = front path most P some r in
      let same : Some f.0 ≡ Some x.bytes = sym f.1 ∙ x.there in
      apart f.0 f.2 (subst Q (let e : x.bytes ≡ f.0 = cc in e) x.so)

  module _ {a b : DirAt} (p : Part old a b new) where
    manifest_told : (manifest : PodData) → ReadsPodManifest pod manifest a b → HoldsManifest es manifest
    manifest_told manifest r =
        let f = front pod_manifest_name most_of_manifest (IsManifestOf manifest) (omega arith) (file_wider p r) in
        record { bytes = f.0; there = f.1; so = sym (same_reading f.0) ∙ f.2 }

    manifest_lacking : LacksManifestRead pod a b → EntriesLackManifest es
    manifest_lacking l manifest = lacking pod_manifest_name most_of_manifest IsNoManifest (IsManifestOf manifest) (omega arith) (λ file none is. none manifest (same_reading file ∙ is)) (lack_wider p (pod_file pod pod_manifest_name) most_of_manifest IsNoManifest l)

    token_told : (token : List ℕ) → ReadsToken pod token a b → HoldsToken es token
    token_told token r =
        let f = front token_name most_of_token (IsTokenOf token) (omega arith) (file_wider p r) in
        record { bytes = f.0; there = f.1; so = token_front f.0 token f.2 }

    token_lacking : LacksTokenRead pod a b → EntriesLackToken es
    token_lacking l token = lacking token_name most_of_token IsNoToken (IsTokenOf token) (omega arith) (λ file none is. no_token_front file token none is) (lack_wider p (pod_file pod token_name) most_of_token IsNoToken l)

    -- a root with these bytes and this tree has these lines
    record IsRead (app items : List ℕ) (tree : Entries) (lines : List ListingLine) : Type 0 where
      held : HoldsListing es app lines
      kept : items ≡ listing_text lines
      same : tree ≡ entries_of lines

    root_told : (app : List ℕ) (root : _) → ReadsRoot pod app root a b → (lines : List ListingLine) × IsRead app root.listing.items root.tree lines
    root_told app root r =
        let f = front (tree_path app) most_of_tree (λ bytes. IsAppRootOf bytes root) (omega arith) (file_wider p r) in
        let whole = tree_front f.0 f.2.lines f.2.listing in
        (f.2.lines, record { held = record { bytes = f.0; there = f.1; so = whole }; kept = f.2.kept ∙ f.2.listing.text; same = f.2.tree })

    root_lacking : (app : List ℕ) → LacksRootListing pod app a b → EntriesLackListing es app
    root_lacking app l lines =
        lacking (tree_path app) most_of_tree IsNoListing (IsListingOf lines) (omega arith) (λ file none is. no_fault file (no_tree_front file none) lines is) (lack_wider p (pod_file pod (tree_path app)) most_of_tree IsNoListing l)

    -- roots with theirs
    listed_told : (apps : List RuntimeApp) (roots : _) → AreAppRoots pod (map (λ x. x.name) apps) roots a b → (all : List (List ListingLine)) × HoldsListings es (map runtime_app_data apps) all
    listed_told [] [] are = ([], tt)
    listed_told [] (root ∷ roots) are = absurd are
    listed_told (app ∷ apps) [] are = absurd are
    listed_told (app ∷ apps) (root ∷ roots) are =
        let one = root_told app.name root are.0 in
        let more = listed_told apps roots are.1 in
        (one.0 ∷ more.0, (one.1.held, more.1))

    module _ (address token : List ℕ) where
      start_so : (app : RuntimeApp) (root : _) (lines : List ListingLine) (start : AppStart) → IsAppStart pod address token app root start → IsRead app.name root.listing.items root.tree lines → IsStartOfApp pod address token (runtime_app_data app) lines start
      start_so app root lines start s r = record {
        name = s.name;
        place = s.place;
        listing = ap (λ l. l.items) s.listing ∙ r.kept;
        launch = section_is app.app app.name address token (tree_of_lines lines) start.launch
            (subst (λ (m : Entries). IfSome app.app (λ section. IsLaunch (app_data section) app.name address token (entry_at m) start.launch)) r.same s.launch);
        found = subst (λ (m : Entries). missing_word (option_map app_data app.app) (entry_at m) ≡ None) r.same s.startable;
      }

      start_all : (apps : List RuntimeApp) (roots : _) (starts : List AppStart) → AreAppRoots pod (map (λ x. x.name) apps) roots a b → AreStarts pod address token apps roots starts →
          (all : List (List ListingLine)) × HoldsListings es (map runtime_app_data apps) all × AreStartsOfApps pod address token (map runtime_app_data apps) all starts
      start_all [] [] [] are s = ([], tt, tt)
      start_all [] [] (start ∷ starts) are s = absurd s
      start_all [] (root ∷ roots) starts are s = absurd are
      start_all (app ∷ apps) [] starts are s = absurd are
      start_all (app ∷ apps) (root ∷ roots) [] are s = absurd s
      start_all (app ∷ apps) (root ∷ roots) (start ∷ starts) are s =
          let one = root_told app.name root are.0 in
          let more = start_all apps roots starts are.1 s.1 in
          (one.0 ∷ more.0, (one.1.held, more.1), (start_so app root one.0 start s.0 one.1, more.2))

    -- the first app that lacks a program
    missing_told : (apps : List RuntimeApp) (roots : _) (name word : List ℕ) → AreAppRoots pod (map (λ x. x.name) apps) roots a b → FirstLacks apps roots name word →
        (all : List (List ListingLine)) × HoldsListings es (map runtime_app_data apps) all × FirstMissing (map runtime_app_data apps) all name word
    missing_told [] roots name word are lacks = absurd lacks
    missing_told (app ∷ apps) [] name word are lacks = absurd lacks
    missing_told (app ∷ apps) (root ∷ roots) name word are (inl l) =
        let one = root_told app.name root are.0 in
        let more = listed_told apps roots are.1 in
        (one.0 ∷ more.0, (one.1.held, more.1), inl (l.named, subst (λ (m : Entries). missing_word (option_map app_data app.app) (entry_at m) ≡ Some word) one.1.same l.missing))
    missing_told (app ∷ apps) (root ∷ roots) name word are (inr l) =
        let one = root_told app.name root are.0 in
        let more = missing_told apps roots name word are.1 l.1 in
        (one.0 ∷ more.0, (one.1.held, more.1), inr (subst (λ (m : Entries). missing_word (option_map app_data app.app) (entry_at m) ≡ None) one.1.same l.0, more.2))

  -- the starts
  pub starts_told : (address : List ℕ) (starts : List AppStart) → ReadsStarts pod address starts old new → AreStartsOf pod address es starts
  starts_told address starts r =
      let p : Part old old new new = whole_part in
      let read = start_all p address r.token r.manifest.apps r.found.roots starts r.found.read r.found.are in
      record {
        manifest = pod_data r.manifest;
        told = manifest_told p (pod_data r.manifest) r.manifest_read;
        token = r.token;
        token_told = token_told p r.token r.token_read;
        roots = read.0;
        listed = read.1;
        start = read.2;
      }
    where
      whole_part : Part old old new new
      whole_part = record { earlier = []; later = []; same = refl; begins = sym (append-nil old.trace); ends = sym (append-nil new.trace) }

  -- and why there are none
  first_unlisted : (before : List (List ℕ)) (app : List ℕ) (after : List (List ℕ)) (apps : List RuntimeApp) (roots : _) (a b : DirAt) (p : Part old a b new) → map (λ x. x.name) apps ≡ before ++ app ∷ after → AreAppRoots pod before roots a b → EntriesLackListing es app → FirstUnlisted es (map runtime_app_data apps) app
  first_unlisted before app after [] roots a b p is are lacks = absurd (never before is)
    where
      never : (xs : List (List ℕ)) → [] ≡ xs ++ app ∷ after → ⊥
      never [] e = cc
      never (x ∷ xs) e = cc
  first_unlisted [] app after (x ∷ apps) roots a b p is are lacks =
      let same : x.name ≡ app = cc in
      inl (sym same, subst (λ (n : List ℕ). EntriesLackListing es n) (sym same) lacks)
  first_unlisted (n ∷ before) app after (x ∷ apps) [] a b p is are lacks = absurd are
  first_unlisted (n ∷ before) app after (x ∷ apps) (root ∷ roots) a b p is are lacks =
      let same : n ≡ x.name = cc in
      let rest : map (λ y. y.name) apps ≡ before ++ app ∷ after = cc in
      let one = root_told p n root are.0 in
      inr (one.0, subst (λ (m : List ℕ). HoldsListing es m one.0) same one.1.held, first_unlisted before app after apps roots a b p rest are.1 lacks)

  listing_lacks : {a b : DirAt} (p : Part old a b new) (apps : List RuntimeApp) (path : List ℕ) → LacksListingRead pod (map (λ x. x.name) apps) path a b → (app : List ℕ) × FirstUnlisted es (map runtime_app_data apps) app × (path ≡ told_path pod (tree_path app))
  listing_lacks {a} {b} p apps path l =
      let t = l.lacks in
      let more = lack_grown t.between b t.later in (
        l.app,
        first_unlisted l.before l.app l.after apps l.roots a t.between (part_in p (first_part t more)) l.are t.first (root_lacking (part_in p (later_part t)) l.app t.later),
        l.stands,
      )

  -- and so the reasons: by its manifest and its token, which were read in turn
  abbrev InAll : LoadError → PodManifest → List ℕ → DirAt → DirAt → Type 0
  InAll e manifest token = InTurn (ReadsPodManifest pod (pod_data manifest)) (InTurn (ReadsToken pod token) (LacksStarts pod manifest.apps e))

  some_lacks : (e : LoadError) (manifest : PodManifest) (token : List ℕ) → ((a b : DirAt) → LacksStarts pod manifest.apps e a b → Between a b) → InAll e manifest token old new →
      HoldsManifest es (pod_data manifest) × HoldsToken es token × ((a : DirAt) × Part old a new new × LacksStarts pod manifest.apps e a new)
  some_lacks e manifest token grown t =
      let u = t.later in
      let last = grown u.between new u.later in
      let more = turn_grown t.between new u last in
      let p = first_part t more in
      let q = later_part t in
      (manifest_told p (pod_data manifest) t.first, token_told (part_in q (first_part u last)) token u.first, (u.between, part_in q (later_part u), u.later))

  listing_grown : (apps : List (List ℕ)) (path : List ℕ) (a b : DirAt) → LacksListingRead pod apps path a b → Between a b
  listing_grown apps path a b l = turn_grown a b l.lacks (lack_grown l.lacks.between b l.lacks.later)

  program_grown : (apps : List RuntimeApp) (name word : List ℕ) (a b : DirAt) → LacksProgram pod apps name word a b → Between a b
  program_grown apps name word a b l = by apps l.roots l.read l.lacks
    where
      by : (xs : List RuntimeApp) (roots : _) → AreAppRoots pod (map (λ x. x.name) xs) roots a b → FirstLacks xs roots name word → Between a b
      by [] roots read lacks = absurd lacks
      by (x ∷ xs) [] read lacks = absurd lacks
      by (x ∷ xs) (root ∷ roots) read lacks = file_grown a b read.0

  pub reason_told : (e : LoadError) → (e ≡ DirFault → ⊥) → (e ≡ NoMemory → ⊥) → LoadCause pod e old new → HasNoStarts pod es e
  reason_told NoManifest inside some cause = manifest_lacking whole_part cause
    where
      whole_part : Part old old new new
      whole_part = record { earlier = []; later = []; same = refl; begins = sym (append-nil old.trace); ends = sym (append-nil new.trace) }
  reason_told (Damaged path) inside some (inl x) =
      let t = x.lacks in
      inl (record {
        manifest = pod_data x.manifest;
        told = manifest_told (first_part t (lack_grown t.between new t.later)) (pod_data x.manifest) t.first;
        is = x.stands;
        lacks = token_lacking (later_part t) t.later;
      })
  reason_told (Damaged path) inside some (inr x) =
      let y = some_lacks (Damaged path) x.manifest x.token (λ a b l. listing_grown (map (λ m. m.name) x.manifest.apps) path a b l) x.lacks in
      let z = listing_lacks y.2.1 x.manifest.apps path y.2.2 in
      inr (record { manifest = pod_data x.manifest; told = y.0; token = x.token; token_told = y.1; app = z.0; first = z.1; is = z.2 })
  reason_told (NoProgram name word) inside some x =
      let y = some_lacks (NoProgram name word) x.manifest x.token (λ a b l. program_grown x.manifest.apps name word a b l) x.lacks in
      let l = y.2.2 in
      let read = missing_told y.2.1 x.manifest.apps l.roots name word l.read l.lacks in
      record {
        manifest = pod_data x.manifest;
        told = y.0;
        token = x.token;
        token_told = y.1;
        roots = read.0;
        listed = read.1;
        first = read.2;
      }
  reason_told DirFault inside some cause = absurd (inside refl)
  reason_told NoMemory inside some cause = absurd (some refl)
