-- Where every process keeps the local rules, nothing is answered as what the locks keep doesn't explain.
use Rattle.std.proofs.Common.{◌≡◌, ℕ, Bool, true, false, not, ◌||◌, List, ◌∷◌, ◌++◌, append_assoc, Result, Ok, Err, IfErr, refl, sym, ap, subst, ◌∙◌}
use Rattle.std.specs.List.{AllByRecursion}
use Rattle.plain_laws.proofs.Booleans.{clash}
use Rattle.ac_types.specs.declared.store_key.StoreKey.{StoreKey}
use Rattle.dir_files.specs.declared.lock_error.LockError.{LockError}
use Rattle.dir_files.specs.declared.lock_error.LockError.TheVariants as lock
use Rattle.dir_model.specs.declared.area.Area.{Area}
use Rattle.dir_model.specs.declared.event.Event.{Event}
use Rattle.dir_model.specs.declared.pod.PodId.{PodId}
use Rattle.dir_model.specs.declared.spot.Spot.{Spot}
use Rattle.dir_model.specs.declared.spot.Which.TheVariants.{Own, Claim}
use Rattle.dir_model.specs.declared.request.DirError.{DirError}
use Rattle.dir_model.specs.declared.request.DirError.TheVariants.{Missing, Exists, NotEmpty, Locked, Failed}
use Rattle.dir_model.specs.declared.request.DirError.TheVariants as dir
use Rattle.dir_model.specs.declared.request.Request.{Request}
use Rattle.dir_model.specs.declared.request.Request.TheVariants.{Open, Close, ListIn, RemoveFileIn, RemoveDirIn, RemoveFolder, Kill}
use Rattle.dir_model.specs.declared.request.Reply.TheVariants.{Refused}
use Rattle.dir_model.specs.Areas.{is_run_or_later}
use Rattle.dir_model.specs.Calls.{Extends, AtOwnStep, event, is_foreign, is_kill}
use Rattle.dir_model.specs.Replies.{is_apps_request, is_look_at, is_any_spot, may_refuse}
use Rattle.dir_model.specs.State.{stands}
use Rattle.dir_model.specs.Trace.{state_after}
use Rattle.dir_model.proofs.Chains.{extends_wider}
use Rattle.dir_model.proofs.Lists.{all_right, or_second, same_rest, same_self}
use Rattle.dir_trait.specs.DirCalls.{DirAt, HeldBetween}
use Rattle.dir_trait.specs.Effects.{OnlyAsks}
use Rattle.lifecycle.specs.Executions.{IsConforming}
use Rattle.lifecycle.proofs.Draws.{conforming_left}
use Rattle.folder_contents.proofs.Spots.{one_location}
use Rattle.folder_removal.specs.declared.error.DeleteError.{DeleteError}
use Rattle.folder_removal.specs.declared.error.DeleteError.TheVariants as delete
use Rattle.folder_removal.specs.Known.{StrayKnowing}
use Rattle.folder_removal.specs.Removal.{asks_deletion_at, KeepsFolders, EndsWithStrayDeletion}
use Rattle.image_reading.specs.declared.error.StoreError.TheVariants.{Stray}
use Rattle.impossible_replies.specs.Replies.{AppWroteOn}
use Rattle.impossible_replies.proofs.Apps.{no_app}
use Rattle.impossible_replies.proofs.Calls.{never_meets}
use Rattle.impossible_replies.proofs.StrayDeletions.{app_wrote_on}
use Rattle.image_removal.specs.Requests.{removed_spot, puts_away, looks_at_folder}
use Rattle.image_removal.specs.Causes.{lock_refusal, lock_free, look_answer, delete_refusal, MetAnother}

-- which refusals can't be stray, or are so for one cause
pub lock_never : (area : Area) (e : LockError) → lock_refusal area e ≡ Stray → ⊥
lock_never area lock.Busy is = cc
lock_never area lock.DirFault is = cc
lock_never area lock.NoMemory is = cc

pub free_never : (e : LockError) → lock_free e ≡ Err Stray → ⊥
free_never lock.Busy is = cc
free_never lock.DirFault is = cc
free_never lock.NoMemory is = cc

pub look_never : (spot : Spot) (e : DirError) → may_refuse (Open spot Own) e ≡ true → look_answer e ≡ Err Stray → ⊥
look_never spot Missing may is = cc
look_never spot Failed may is = cc
look_never spot dir.NoMemory may is = cc
look_never spot Exists may is = cc
look_never spot NotEmpty may is = cc
look_never spot Locked may is = cc

pub look_finds_none : (e : DirError) → look_answer e ≡ Ok true → ⊥
look_finds_none Missing is = cc
look_finds_none Failed is = cc
look_finds_none dir.NoMemory is = cc
look_finds_none Exists is = cc
look_finds_none NotEmpty is = cc
look_finds_none Locked is = cc

pub delete_stray : (e : DeleteError) → delete_refusal e ≡ Stray → e ≡ delete.Stray
delete_stray delete.DirFault is = cc
delete_stray delete.Stray is = refl
delete_stray delete.NoMemory is = cc

pub of_error : {E : Type 0} (P : E → Type 0) (r : Result (Unit {0}) E) (e : E) → r ≡ Err e → IfErr r P → P e
of_error P r e is p = subst (λ x. IfErr x P) is p

-- a part of a conforming history conforms
pub conforming_part : {asks : Request → Bool} {me : ℕ} {old new : List Event} → Extends asks me old new → IsConforming new → IsConforming old
conforming_part {asks} {me} {old} {new} x conforming = conforming_left old x.more (subst IsConforming x.grown conforming)

-- nothing that is put away meets another folder
pub met_never : {me : ℕ} {old new : List Event} (key : StoreKey) (draw : PodId) → MetAnother key draw me old new → IsConforming new → ⊥
met_never key draw w conforming = never_meets (puts_away key draw) (Refused Exists 0) w.step (conforming_left w.after w.later (subst IsConforming w.ends conforming)) refl

-- nothing in removed is a started app's
pub no_app_away : (h : List Event) → IsConforming h → (name : List ℕ) (request : Request) → asks_deletion_at (removed_spot name) request ≡ true → is_apps_request (state_after h) request ≡ false
no_app_away h conforming name request about = by request about
  where
    early : (spot : Spot) → spot ≡ removed_spot name → is_run_or_later spot.area ≡ false
    early spot is = ap (λ (s : Spot). is_run_or_later s.area) is

    by : (request : Request) → asks_deletion_at (removed_spot name) request ≡ true → is_apps_request (state_after h) request ≡ false
    by (ListIn i) about = no_app h conforming i.spot i.path (early i.spot (one_location i.spot (removed_spot name) about))
    by (RemoveFileIn i) about = no_app h conforming i.spot i.path (early i.spot (one_location i.spot (removed_spot name) about))
    by (RemoveDirIn i) about = no_app h conforming i.spot i.path (early i.spot (one_location i.spot (removed_spot name) about))
    by (RemoveFolder spot) about = refl
    by request about = cc

abbrev Deleting : ℕ → List ℕ → Event → Type 0
Deleting me name e = (is_foreign me e || asks_deletion_at (removed_spot name) e.request) ≡ true

-- so no deletion there meets what one wrote
pub app_never : {me : ℕ} {mid new : List Event} (name : List ℕ) → Extends (asks_deletion_at (removed_spot name)) me mid new → IsConforming new → AppWroteOn me mid new → ⊥
app_never {me} {mid} {new} name x conforming w =
    clash (is_apps_request (state_after w.before) w.request) w.app
    (no_app_away w.before (conforming_left w.before (e ∷ w.later) (subst IsConforming w.ends conforming)) name w.request about)
  where
    e : Event
    e = event me w.request w.reply

    parts : x.more ≡ w.earlier ++ (e ∷ w.later)
    parts = same_rest mid x.more (w.earlier ++ (e ∷ w.later))
        (sym x.grown ∙ (w.ends ∙ (ap (λ (h : List Event). h ++ (e ∷ w.later)) w.begins ∙ append_assoc mid w.earlier (e ∷ w.later))))

    alive : (request : Request) → is_apps_request (state_after w.before) request ≡ true → is_kill request ≡ false
    alive Kill app = cc
    alive request app = refl

    own : is_foreign me e ≡ false
    own = ap (λ (b : Bool). not b || is_kill w.request) (same_self me) ∙ alive w.request w.app

    about : asks_deletion_at (removed_spot name) w.request ≡ true
    about = or_second (is_foreign me e) (asks_deletion_at (removed_spot name) w.request) (all_right (Deleting me name) w.earlier (e ∷ w.later) (subst (AllByRecursion (Deleting me name)) parts x.asked)).0 own

looks_any : (spot : Spot) (request : Request) → looks_at_folder spot request ≡ true → is_look_at is_any_spot request ≡ true
looks_any spot (Open here Own) on = refl
looks_any spot (Open here Claim) on = cc
looks_any spot (Close handle) on = refl
looks_any spot request on = cc

-- a folder that was found under the lock is deleted without such an answer
pub found_never : {observed : Bool} (name : List ℕ) (old mid new : DirAt) → observed ≡ true → OnlyAsks observed (looks_at_folder (removed_spot name)) old mid → HeldBetween old mid (λ s. stands s.namespace (removed_spot name) ≡ true)
    → OnlyAsks observed (asks_deletion_at (removed_spot name)) mid new → KeepsFolders mid new → EndsWithStrayDeletion (removed_spot name) mid new → StrayKnowing (removed_spot name) mid.process new.trace → IsConforming new.trace → ⊥
found_never {observed} name old mid new t looked there deleted kept stray knew conforming =
    app_never name (deleted.extends t) conforming
    (app_wrote_on (removed_spot name) refl is_any_spot
    (subst (λ (me : ℕ). AtOwnStep me old.trace mid.trace (λ s. stands s.namespace (removed_spot name) ≡ true)) (sym looked.same) there)
    (subst (λ (me : ℕ). Extends (is_look_at is_any_spot) me old.trace mid.trace) (sym looked.same) (extends_wider (looks_any (removed_spot name)) (looked.extends t)))
    kept stray knew conforming)
