-- What a folder holds gives its apps one list of starts, or one reason for none.
use Rattle.std.proofs.Common.{◌≡◌, inl, inr, ℕ, Option, Some, None, IfSome, List, [], ◌∷◌, Result, Ok, refl, sym, ap, subst, ◌∙◌}
use Rattle.plain_laws.proofs.Lists.{both_lists}
use Rattle.app_section.specs.AppData.{AppData}
use Rattle.ac_types.specs.Outcomes.{reads}
use Rattle.ac_types.specs.Outcomes as reading
use Rattle.dir_model.specs.declared.pod.PodId.{PodId}
use Rattle.dir_rules.specs.declared.seen.Entry.{Entry}
use Rattle.launch.specs.declared.launch.AppLaunch.{AppLaunch}
use Rattle.launch.specs.Launches.{IsLaunch, missing_word}
use Rattle.listing_laws.proofs.OneText.{no_two_listings_have_one_text}
use Rattle.manifests.specs.PodData.{PodData, RuntimeAppData}
use Rattle.manifests.specs.PodForm.{pod_manifest}
use Rattle.path_map.specs.Entries.{Tree}
use Rattle.stage1.specs.declared.load_error.LoadError.{LoadError}
use Rattle.stage1.specs.declared.load_error.LoadError.TheVariants.{NoManifest, Damaged, NoProgram, DirFault, NoMemory}
use Rattle.stage1.specs.declared.start.AppStart.{AppStart}
use Rattle.stage1.specs.AppPlaces.{tree_path, told_path}
use Rattle.tree_digest.specs.declared.line.ListingLine.{ListingLine}
use Rattle.commands.specs.RunTable.{HoldsFile, HoldsManifest, HoldsToken, HoldsListing, HoldsListings, IsStartOfApp, AreStartsOfApps, AreStartsOf, FirstUnlisted, FirstMissing, HasNoStarts, SameStart, SameStarts, AreTheStarts, IsWhyNone, tree_of_lines}

-- one file stands at a path
one_file : {es : List Entry} {path : List ℕ} {P Q : List ℕ → Type 0} (x : HoldsFile es path P) (y : HoldsFile es path Q) → x.bytes ≡ y.bytes
one_file x y = let same : Some x.bytes ≡ Some y.bytes = sym x.there ∙ y.there in cc

one_manifest : {es : List Entry} (a b : PodData) → HoldsManifest es a → HoldsManifest es b → a ≡ b
one_manifest a b x y =
    let same : ◌≡◌ {A = reading.Outcome PodData} (reads a) (reads b) = sym x.so ∙ (ap pod_manifest (one_file x y) ∙ y.so) in
    cc

one_token : {es : List Entry} (a b : List ℕ) → HoldsToken es a → HoldsToken es b → a ≡ b
one_token a b x y = x.so.0 ∙ (one_file x y ∙ sym y.so.0)

one_listing : {es : List Entry} (app : List ℕ) (a b : List ListingLine) → HoldsListing es app a → HoldsListing es app b → a ≡ b
one_listing app a b x y = no_two_listings_have_one_text a b x.so.kind.follow y.so.kind.follow (sym x.so.text ∙ (one_file x y ∙ y.so.text))

one_listings : (es : List Entry) (apps : List RuntimeAppData) (xs ys : List (List ListingLine)) → HoldsListings es apps xs → HoldsListings es apps ys → xs ≡ ys
one_listings es [] [] [] x y = refl
one_listings es [] (a ∷ xs) ys x y = absurd x
one_listings es [] [] (b ∷ ys) x y = absurd y
one_listings es (app ∷ apps) [] ys x y = absurd x
one_listings es (app ∷ apps) (a ∷ xs) [] x y = absurd y
one_listings es (app ∷ apps) (a ∷ xs) (b ∷ ys) x y = both_lists a b xs ys (one_listing app.name a b x.0 y.0) (one_listings es apps xs ys x.1 y.1)

-- a launch is given by what it is of
abbrev of : List (List ℕ) → List ℕ → Option (List (List ℕ)) → List (List ℕ) → Option (List (List ℕ)) → AppLaunch
of e d p m q = record { environment = e; directory = d; pre_start = p; main = m; post_stop = q }

one_launch : (app : AppData) (name address token : List ℕ) (tree : Tree) (a b : AppLaunch) → IsLaunch app name address token tree a → IsLaunch app name address token tree b → a ≡ b
one_launch app name address token tree a b x y =
    let e : a.environment ≡ b.environment = x.environment ∙ sym y.environment in
    let d : a.directory ≡ b.directory = x.directory ∙ sym y.directory in
    let p = sym x.pre_start ∙ y.pre_start in
    let m = sym x.main ∙ y.main in
    let q = sym x.post_stop ∙ y.post_stop in
    same a b e d (ok_same p) (ok_same m) (ok_same q)
  where
    ok_same : {X : Type 0} {u v : X} → ◌≡◌ {A = Result X (List ℕ)} (Ok u) (Ok v) → u ≡ v
    ok_same h = cc

    same : (u v : AppLaunch) → u.environment ≡ v.environment → u.directory ≡ v.directory → u.pre_start ≡ v.pre_start → u.main ≡ v.main → u.post_stop ≡ v.post_stop → u ≡ v
    same u v e d p m q =
        ap (λ x. of x u.directory u.pre_start u.main u.post_stop) e
        ∙ (ap (λ x. of v.environment x u.pre_start u.main u.post_stop) d
        ∙ (ap (λ x. of v.environment v.directory x u.main u.post_stop) p
        ∙ (ap (λ x. of v.environment v.directory v.pre_start x u.post_stop) m ∙ ap (λ x. of v.environment v.directory v.pre_start v.main x) q)))

-- two starts of one app
one_launch_of : (app : Option AppData) (name address token : List ℕ) (tree : Tree) (a b : AppLaunch) → missing_word app tree ≡ None → IfSome app (λ section. IsLaunch section name address token tree a) → IfSome app (λ section. IsLaunch section name address token tree b) → a ≡ b
one_launch_of None name address token tree a b found x y = let clash : Some [] ≡ None = found in cc
one_launch_of (Some app) name address token tree a b found x y = one_launch app name address token tree a b x y

module _ (pod : PodId) (address : List ℕ) where
  same_start : (token : List ℕ) (app : RuntimeAppData) (lines : List ListingLine) (a b : AppStart) → IsStartOfApp pod address token app lines a → IsStartOfApp pod address token app lines b → SameStart a b
  same_start token app lines a b x y = record {
    name = x.name ∙ sym y.name;
    root = x.place ∙ sym y.place;
    listing = x.listing ∙ sym y.listing;
    launch = one_launch_of app.app app.name address token (tree_of_lines lines) a.launch b.launch x.found x.launch y.launch;
  }

  same_starts : (token : List ℕ) (apps : List RuntimeAppData) (roots : List (List ListingLine)) (xs ys : List AppStart) → AreStartsOfApps pod address token apps roots xs → AreStartsOfApps pod address token apps roots ys → SameStarts xs ys
  same_starts token [] [] [] [] x y = tt
  same_starts token (app ∷ apps) (lines ∷ roots) (a ∷ xs) (b ∷ ys) x y = (same_start token app lines a b x.0 y.0, same_starts token apps roots xs ys x.1 y.1)
  same_starts token [] [] [] (b ∷ ys) x y = absurd y
  same_starts token [] [] (a ∷ xs) ys x y = absurd x
  same_starts token [] (lines ∷ roots) xs ys x y = absurd x
  same_starts token (app ∷ apps) [] xs ys x y = absurd x
  same_starts token (app ∷ apps) (lines ∷ roots) [] ys x y = absurd x
  same_starts token (app ∷ apps) (lines ∷ roots) (a ∷ xs) [] x y = absurd y

  pub one_start : {es : List Entry} (xs ys : List AppStart) → AreStartsOf pod address es xs → AreStartsOf pod address es ys → SameStarts xs ys
  one_start {es} xs ys x y =
      let m : x.manifest ≡ y.manifest = one_manifest x.manifest y.manifest x.told y.told in
      let t : x.token ≡ y.token = one_token x.token y.token x.token_told y.token_told in
      let r : x.roots ≡ y.roots = one_listings es y.manifest.apps x.roots y.roots (subst (λ (p : PodData). HoldsListings es p.apps x.roots) m x.listed) y.listed in
      same_starts y.token y.manifest.apps y.roots xs ys
      (subst (λ (l : List (List ListingLine)). AreStartsOfApps pod address y.token y.manifest.apps l xs) r
      (subst (λ (k : List ℕ). AreStartsOfApps pod address k y.manifest.apps x.roots xs) t
      (subst (λ (p : PodData). AreStartsOfApps pod address x.token p.apps x.roots xs) m x.start))) y.start

-- what is lacking isn't there
listed_first : (es : List Entry) (apps : List RuntimeAppData) (roots : List (List ListingLine)) (name : List ℕ) → HoldsListings es apps roots → FirstUnlisted es apps name → ⊥
listed_first es [] roots name listed first = first
listed_first es (app ∷ apps) [] name listed first = listed
listed_first es (app ∷ apps) (lines ∷ roots) name listed (inl x) = x.1 lines listed.0
listed_first es (app ∷ apps) (lines ∷ roots) name listed (inr x) = listed_first es apps roots name listed.1 x.2

first_once : (es : List Entry) (apps : List RuntimeAppData) (a b : List ℕ) → FirstUnlisted es apps a → FirstUnlisted es apps b → a ≡ b
first_once es [] a b x y = absurd x
first_once es (app ∷ apps) a b (inl x) (inl y) = x.0 ∙ sym y.0
first_once es (app ∷ apps) a b (inl x) (inr y) = absurd (x.1 y.0 y.1)
first_once es (app ∷ apps) a b (inr x) (inl y) = absurd (y.1 x.0 x.1)
first_once es (app ∷ apps) a b (inr x) (inr y) = first_once es apps a b x.2 y.2

never_both : {w : List ℕ} (o : Option (List ℕ)) → o ≡ Some w → o ≡ None → ⊥
never_both o x y = let clash = sym x ∙ y in cc

missing_once : (apps : List RuntimeAppData) (roots : List (List ListingLine)) (a v b w : List ℕ) → FirstMissing apps roots a v → FirstMissing apps roots b w → (a ≡ b) × (v ≡ w)
missing_once [] roots a v b w x y = absurd x
missing_once (app ∷ apps) [] a v b w x y = absurd x
missing_once (app ∷ apps) (lines ∷ roots) a v b w (inl x) (inl y) = (x.0 ∙ sym y.0, let same : Some v ≡ Some w = sym x.1 ∙ y.1 in cc)
missing_once (app ∷ apps) (lines ∷ roots) a v b w (inl x) (inr y) = absurd (never_both (missing_word app.app (tree_of_lines lines)) x.1 y.0)
missing_once (app ∷ apps) (lines ∷ roots) a v b w (inr x) (inl y) = absurd (never_both (missing_word app.app (tree_of_lines lines)) y.1 x.0)
missing_once (app ∷ apps) (lines ∷ roots) a v b w (inr x) (inr y) = missing_once apps roots a v b w x.1 y.1

started_first : (pod : PodId) (address token : List ℕ) (apps : List RuntimeAppData) (roots : List (List ListingLine)) (starts : List AppStart) (a v : List ℕ) → AreStartsOfApps pod address token apps roots starts → FirstMissing apps roots a v → ⊥
started_first pod address token [] roots starts a v so first = first
started_first pod address token (app ∷ apps) [] starts a v so first = first
started_first pod address token (app ∷ apps) (lines ∷ roots) [] a v so first = so
started_first pod address token (app ∷ apps) (lines ∷ roots) (start ∷ starts) a v so (inl x) = never_both (missing_word app.app (tree_of_lines lines)) x.1 so.0.found
started_first pod address token (app ∷ apps) (lines ∷ roots) (start ∷ starts) a v so (inr x) = started_first pod address token apps roots starts a v so.1 x.1

module _ (pod : PodId) (es : List Entry) where
  unlisted_there : (a b : PodData) (name : List ℕ) → HoldsManifest es a → HoldsManifest es b → FirstUnlisted es a.apps name → FirstUnlisted es b.apps name
  unlisted_there a b name x y first = subst (λ (p : PodData). FirstUnlisted es p.apps name) (one_manifest a b x y) first

  listed_there : (a b : PodData) (roots : List (List ListingLine)) → HoldsManifest es a → HoldsManifest es b → HoldsListings es a.apps roots → HoldsListings es b.apps roots
  listed_there a b roots x y listed = subst (λ (p : PodData). HoldsListings es p.apps roots) (one_manifest a b x y) listed

  pub one_reason : (a b : LoadError) → HasNoStarts pod es a → HasNoStarts pod es b → a ≡ b
  one_reason NoManifest NoManifest x y = refl
  one_reason NoManifest (Damaged path) x (inl y) = absurd (x y.manifest y.told)
  one_reason NoManifest (Damaged path) x (inr y) = absurd (x y.manifest y.told)
  one_reason NoManifest (NoProgram name word) x y = absurd (x y.manifest y.told)
  one_reason NoManifest DirFault x y = absurd y
  one_reason NoManifest NoMemory x y = absurd y
  one_reason (Damaged p) NoManifest (inl x) y = absurd (y x.manifest x.told)
  one_reason (Damaged p) NoManifest (inr x) y = absurd (y x.manifest x.told)
  one_reason (Damaged p) (Damaged q) (inl x) (inl y) = ap Damaged (x.is ∙ sym y.is)
  one_reason (Damaged p) (Damaged q) (inl x) (inr y) = absurd (x.lacks y.token y.token_told)
  one_reason (Damaged p) (Damaged q) (inr x) (inl y) = absurd (y.lacks x.token x.token_told)
  one_reason (Damaged p) (Damaged q) (inr x) (inr y) =
      ap Damaged (x.is ∙ (ap (λ (n : List ℕ). told_path pod (tree_path n)) (first_once es y.manifest.apps x.app y.app (unlisted_there x.manifest y.manifest x.app x.told y.told x.first) y.first) ∙ sym y.is))
  one_reason (Damaged p) (NoProgram name word) (inl x) y = absurd (x.lacks y.token y.token_told)
  one_reason (Damaged p) (NoProgram name word) (inr x) y = absurd (listed_first es y.manifest.apps y.roots x.app y.listed (unlisted_there x.manifest y.manifest x.app x.told y.told x.first))
  one_reason (Damaged p) DirFault x y = absurd y
  one_reason (Damaged p) NoMemory x y = absurd y
  one_reason (NoProgram a v) NoManifest x y = absurd (y x.manifest x.told)
  one_reason (NoProgram a v) (Damaged q) x (inl y) = absurd (y.lacks x.token x.token_told)
  one_reason (NoProgram a v) (Damaged q) x (inr y) = absurd (listed_first es x.manifest.apps x.roots y.app x.listed (unlisted_there y.manifest x.manifest y.app y.told x.told y.first))
  one_reason (NoProgram a v) (NoProgram b w) x y = by (missing_once y.manifest.apps y.roots a v b w there y.first)
    where
      m : x.manifest ≡ y.manifest
      m = one_manifest x.manifest y.manifest x.told y.told

      r : x.roots ≡ y.roots
      r = one_listings es y.manifest.apps x.roots y.roots (listed_there x.manifest y.manifest x.roots x.told y.told x.listed) y.listed

      there : FirstMissing y.manifest.apps y.roots a v
      there = subst (λ (l : List (List ListingLine)). FirstMissing y.manifest.apps l a v) r (subst (λ (p : PodData). FirstMissing p.apps x.roots a v) m x.first)

      by : (a ≡ b) × (v ≡ w) → ◌≡◌ {A = LoadError} (NoProgram a v) (NoProgram b w)
      by e = ap (λ (n : List ℕ). NoProgram n v) e.0 ∙ ap (NoProgram b) e.1
  one_reason (NoProgram a v) DirFault x y = absurd y
  one_reason (NoProgram a v) NoMemory x y = absurd y
  one_reason DirFault b x y = absurd x
  one_reason NoMemory b x y = absurd x

  -- and where there are starts there is none
  pub starts_or_none : (address : List ℕ) (starts : List AppStart) (e : LoadError) → AreStartsOf pod address es starts → HasNoStarts pod es e → ⊥
  starts_or_none address starts NoManifest are none = none are.manifest are.told
  starts_or_none address starts (Damaged path) are (inl none) = none.lacks are.token are.token_told
  starts_or_none address starts (Damaged path) are (inr none) = listed_first es are.manifest.apps are.roots none.app are.listed (unlisted_there none.manifest are.manifest none.app none.told are.told none.first)
  starts_or_none address starts (NoProgram name word) are none =
      let m = one_manifest none.manifest are.manifest none.told are.told in
      let r = one_listings es are.manifest.apps none.roots are.roots (listed_there none.manifest are.manifest none.roots none.told are.told none.listed) are.listed in
      started_first pod address are.token are.manifest.apps are.roots starts name word are.start
      (subst (λ (l : List (List ListingLine)). FirstMissing are.manifest.apps l name word) r (subst (λ (p : PodData). FirstMissing p.apps none.roots name word) m none.first))
  starts_or_none address starts DirFault are none = none
  starts_or_none address starts NoMemory are none = none

  pub the_starts : (address : List ℕ) (starts : List AppStart) → AreStartsOf pod address es starts → AreTheStarts pod address es starts
  the_starts address starts are = record {
    are = are;
    only = λ others also. one_start pod address others starts also are;
    whole = λ error none. starts_or_none address starts error are none;
  }

  pub the_reason : (error : LoadError) → HasNoStarts pod es error → IsWhyNone pod es error
  the_reason error none = record {
    is = none;
    only = λ other also. one_reason other error also none;
    none = λ address starts are. starts_or_none address starts error are none;
  }
