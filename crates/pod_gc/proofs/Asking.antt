-- What each part asks for is among a sweep's requests.
use Rattle.std.proofs.Common.{◌≡◌, ◌==◌, ◌&&◌, ◌||◌, ℕ, Bool, true, false, nat_le, bytes_eq, List, [], ◌∷◌, refl, sym, ap, ◌∙◌}
use Rattle.std.specs.List.{list_any}
use Rattle.std.proofs.lemmas.Bool.{eqb-true}
use Rattle.dir_model.specs.declared.area.Area.{Area}
use Rattle.dir_model.specs.declared.area.Area.TheVariants.{Embryo, Prepare, Prepared, Run, ExitedGarbage, Garbage}
use Rattle.dir_model.specs.declared.pod.PodId.{PodId}
use Rattle.dir_model.specs.declared.spot.Handle.{Handle}
use Rattle.dir_model.specs.declared.spot.Mode.TheVariants.{Exclusive}
use Rattle.dir_model.specs.declared.request.Request.{Request}
use Rattle.dir_model.specs.declared.request.Request.TheVariants.{ListArea, OpenArea, Open, TryLock, Close, MoveFolder, MakeFileIn, ListIn, RemoveFileIn, RemoveDirIn, RemoveFolder}
use Rattle.dir_model.specs.Areas.{rank, is_stage}
use Rattle.dir_model.specs.State.{spot_eq}
use Rattle.dir_model.proofs.Lists.{and_left, and_right, and_both, or_last}
use Rattle.dir_rules.specs.Rules.{root_of}
use Rattle.dir_rules.specs.Standing.{is_in}
use Rattle.folder_removal.specs.Removal.{asks_deletion_at}
use Rattle.dir_files.specs.AreaLocks.{is_taking_area, closes}
use Rattle.dir_model.specs.Spots.{pod_spot}
use Rattle.pod_gc.specs.Requests.{lists_pod_area, lists_marks, deals_with_pod, sweeps}
use Rattle.pod_gc.specs.Told.{pods_of, deals_with_pods}

cases : (b c d : Bool) → (b ≡ true → d ≡ true) → (c ≡ true → d ≡ true) → (b || c) ≡ true → d ≡ true
cases true c d f g h = f refl
cases false c d f g h = g h

stage_of : (a here : Area) → is_stage a ≡ true → (rank a == rank here) ≡ true → is_stage here ≡ true
stage_of a here stage is = ap (λ (n : ℕ). nat_le n 5) (sym (eqb-true (rank a) (rank here) is)) ∙ stage

stage_by : (a here : Area) → is_stage a ≡ true → (rank here == rank a) ≡ true → is_stage here ≡ true
stage_by a here stage is = ap (λ (n : ℕ). nat_le n 5) (eqb-true (rank here) (rank a) is) ∙ stage

aside_by : (a : Area) (x y : Bool) → ((is_in a ExitedGarbage && x) || (is_in a Garbage && y)) ≡ true → (is_in a ExitedGarbage || is_in a Garbage) ≡ true
aside_by a x y is =
    let e = is_in a ExitedGarbage in
    let g = is_in a Garbage in
    cases (e && x) (g && y) (e || g) (λ h. ap (λ b. b || g) (and_left e x h)) (λ h. or_last e g (and_left g y h)) is

abbrev Sweeps : Area → Area → Bool
Sweeps f t = is_stage f && ((is_in Run f && is_in ExitedGarbage t) || is_in Garbage t)

moved_by : (a f t : Area) (e y : Bool) → is_stage a ≡ true → ((is_in a f && e) && (is_in Garbage t && y)) ≡ true → Sweeps f t ≡ true
moved_by a f t e y stage is =
    and_both (is_stage f) ((is_in Run f && is_in ExitedGarbage t) || is_in Garbage t) (stage_of a f stage (and_left (is_in a f) e (and_left (is_in a f && e) (is_in Garbage t && y) is)))
    (or_last (is_in Run f && is_in ExitedGarbage t) (is_in Garbage t) (and_left (is_in Garbage t) y (and_right (is_in a f && e) (is_in Garbage t && y) is)))

marked_by : (f : Area) (t : Area) (e y : Bool) → ((is_in Run f && e) && (is_in ExitedGarbage t && y)) ≡ true → Sweeps f t ≡ true
marked_by f t e y is =
    let run = is_in Run f in
    let aside = is_in ExitedGarbage t in
    let here = and_left run e (and_left (run && e) (aside && y) is) in
    and_both (is_stage f) ((run && aside) || is_in Garbage t) (stage_of Run f refl here) (ap (λ b. b || is_in Garbage t) (and_both run aside here (and_left aside y (and_right (run && e) (aside && y) is))))

pub deals_sweep : (pod : PodId) (now : ℕ) (place : Area) → is_stage place ≡ true → (r : Request) → deals_with_pod pod now place r ≡ true → sweeps now r ≡ true
deals_sweep pod now place stage (Open spot which) is = and_left (is_stage spot.area) _ is
deals_sweep pod now place stage (TryLock handle mode) is = refl
deals_sweep pod now place stage (Close handle) is = refl
deals_sweep pod now place stage (MoveFolder from to) is =
    let f = from.area in
    let t = to.area in
    let named : Area → Bool = λ a. bytes_eq (pod_spot pod a).name from.name in
    let kept : Area → Bool = λ a. bytes_eq (pod_spot pod a).name to.name in
    let goal = Sweeps f t in
    cases _ _ goal (moved_by Embryo f t (named Embryo) (kept Garbage) refl)
    (cases _ _ goal (moved_by Prepare f t (named Prepare) (kept Garbage) refl) (cases _ _ goal (moved_by Prepared f t (named Prepared) (kept Garbage) refl) (marked_by f t (named Run) (kept ExitedGarbage)))) is
deals_sweep pod now place stage (MakeFileIn inner) is = and_both (is_in Run inner.spot.area) _ (and_left (is_in Run inner.spot.area) _ (and_left (spot_eq (pod_spot pod Run) inner.spot) _ is)) (and_right (spot_eq (pod_spot pod Run) inner.spot) _ is)
deals_sweep pod now place stage (ListIn inner) is =
    let here = inner.spot.area in
    let named : Area → Bool = λ a. bytes_eq (pod_spot pod a).name inner.spot.name in
    let kept : Area → Bool = λ a. bytes_eq inner.spot.name (pod_spot pod a).name in
    let root = bytes_eq (root_of (pod_spot pod place)).path inner.path in
    let old = asks_deletion_at (pod_spot pod ExitedGarbage) (ListIn inner) in
    let new = asks_deletion_at (pod_spot pod Garbage) (ListIn inner) in
    cases (lists_marks pod place (ListIn inner)) (old || new) (is_stage here) (λ h. stage_of place here stage (and_left (is_in place here) (named place) (and_left (spot_eq (pod_spot pod place) inner.spot) root h)))
    (cases old new (is_stage here) (λ h. stage_by ExitedGarbage here refl (and_left (is_in here ExitedGarbage) (kept ExitedGarbage) h)) (λ h. stage_by Garbage here refl (and_left (is_in here Garbage) (kept Garbage) h))) is
deals_sweep pod now place stage (RemoveFileIn inner) is = aside_by inner.spot.area _ _ is
deals_sweep pod now place stage (RemoveDirIn inner) is = aside_by inner.spot.area _ _ is
deals_sweep pod now place stage (RemoveFolder spot) is = aside_by spot.area _ _ is
deals_sweep pod now place stage _ is = cc

any_deals : (now : ℕ) (place : Area) → is_stage place ≡ true → (r : Request) (pods : List PodId) → list_any (λ (pod : PodId). deals_with_pod pod now place r) pods ≡ true → sweeps now r ≡ true
any_deals now place stage r [] is = cc
any_deals now place stage r (pod ∷ pods) is = cases (deals_with_pod pod now place r) _ (sweeps now r) (deals_sweep pod now place stage r) (any_deals now place stage r pods) is

pub some_sweep : (now : ℕ) (place : Area) (names : List (List ℕ)) → is_stage place ≡ true → (r : Request) → deals_with_pods now place names r ≡ true → sweeps now r ≡ true
some_sweep now place names stage r is = any_deals now place stage r (pods_of names) is

pub lists_sweep : (now : ℕ) (place : Area) → is_stage place ≡ true → (r : Request) → lists_pod_area place r ≡ true → sweeps now r ≡ true
lists_sweep now place stage (ListArea here) is = stage_of place here stage is
lists_sweep now place stage _ is = cc

pub takes_sweep : (now : ℕ) (r : Request) → is_taking_area Embryo Exclusive r ≡ true → sweeps now r ≡ true
takes_sweep now (OpenArea here) is = is
takes_sweep now (TryLock handle mode) is = refl
takes_sweep now (Close handle) is = refl
takes_sweep now _ is = cc

pub closes_sweep : (now : ℕ) (h : Handle) (r : Request) → closes h r ≡ true → sweeps now r ≡ true
closes_sweep now h (Close handle) is = refl
closes_sweep now h _ is = cc
