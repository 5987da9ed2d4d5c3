-- The local rules on locks and places: what a process may ask for, by what it knows of them.
use Rattle.std.specs.Prelude.{ℕ, Bool, true, false, not, ◌&&◌, ◌||◌, cond, bytes_eq, Option, Some, None, is_some, List, [], ◌∷◌}
use Rattle.std.specs.List.{list_any}
use Rattle.dir_model.specs.declared.area.Area.{Area}
use Rattle.dir_model.specs.declared.area.Area.TheVariants as area
use Rattle.dir_model.specs.declared.intent.Kind.{Kind}
use Rattle.dir_model.specs.declared.spot.Mode.{Mode}
use Rattle.dir_model.specs.declared.spot.Mode.TheVariants.{Shared, Exclusive}
use Rattle.dir_model.specs.declared.spot.Spot.{Spot}
use Rattle.dir_model.specs.declared.spot.Handle.{Handle}
use Rattle.dir_model.specs.declared.spot.Which.{Which}
use Rattle.dir_model.specs.declared.spot.Which.TheVariants as which
use Rattle.dir_model.specs.declared.opening.Target.{Target}
use Rattle.dir_model.specs.declared.opening.Target.TheVariants.{Own, Claim, Gate}
use Rattle.dir_model.specs.declared.event.Event.{Event}
use Rattle.dir_model.specs.declared.request.Request.{Request}
use Rattle.dir_model.specs.declared.request.Request.TheVariants.{MakeFolder, MoveFolder, Open, TryLock, Close, RemoveFileIn, RemoveDirIn, RemoveFolder}
use Rattle.dir_model.specs.Areas.{is_stage}
use Rattle.dir_model.specs.Pods.{pod_text}
use Rattle.dir_model.specs.Locks.{is_exclusive}
use Rattle.dir_model.specs.Local.{is_own_of}
use Rattle.dir_model.specs.State.{spot_eq}
use Rattle.dir_model.specs.Calls.{is_foreign}
use Rattle.dir_rules.specs.declared.standing.Held.{Held}
use Rattle.dir_rules.specs.declared.standing.Standing.{Standing}
use Rattle.dir_rules.specs.Standing.{is_in, is_claim_of, is_gate_of, is_garbage, area_of, intends, draws, began_as, is_maker, is_remover, is_prepare, is_run, is_run_prepared, is_image_rm, is_image_remover, is_gc, is_gate_shared, is_own_held, holds_own, holds_claim, shares_area, excludes_area, is_name_among, has_place, last_move_of, is_handle_held, find_held, gives_up, nothing_standing, stood}

-- a pod is made once, by its maker, with the drawn name, under the gate
abbrev pub may_make : Standing → Spot → Bool
may_make s spot = (is_in area.Embryo spot.area && draws spot.name s) && ((not s.made && began_as is_maker s) && shares_area area.Embryo s)

-- the moves of pods, by where from and where to
abbrev pub locks_allow_move : Standing → List ℕ → Area → Area → Bool
locks_allow_move s u area.Embryo area.Prepare = (s.embryo_under_lock && draws u s) && holds_own u s
locks_allow_move s u area.Embryo area.Garbage = began_as is_gc s && excludes_area area.Embryo s
locks_allow_move s u area.Prepare area.Prepared = began_as is_prepare s && holds_own u s
locks_allow_move s u area.Prepare area.Run = began_as is_run s && holds_own u s
locks_allow_move s u area.Prepare area.Garbage = began_as is_remover s && has_place u area.Prepare s.seen_unowned
locks_allow_move s u area.Prepared area.Run = began_as is_run_prepared s && (holds_own u s && holds_claim u s)
locks_allow_move s u area.Prepared area.Garbage = began_as is_remover s && is_name_among u s.seen_unowned_under_claim
locks_allow_move s u area.Run area.ExitedGarbage = began_as is_remover s && has_place u area.Run s.seen_unowned
locks_allow_move s u _ _ = false

-- a pod keeps its name, and stays among the places of pods. The store's moves aren't judged here
abbrev pub may_move_by_locks : Standing → Spot → Spot → Bool
may_move_by_locks s from to = cond (is_stage from.area || is_stage to.area) (bytes_eq from.name to.name && locks_allow_move s from.name from.area to.area) true

-- the locks on Own, by where it was opened
abbrev pub may_lock_own : Standing → Bool → List ℕ → Area → Mode → Bool
may_lock_own s covered u area.Embryo Exclusive = s.embryo_under_lock && draws u s
may_lock_own s covered u area.Prepare Shared = true
may_lock_own s covered u area.Prepared Exclusive = began_as is_run_prepared s && covered
may_lock_own s covered u area.Prepared Shared = began_as is_remover s && covered
may_lock_own s covered u area.Run Shared = true
may_lock_own s covered u area.ExitedGarbage Shared = true
may_lock_own s covered u area.ExitedGarbage Exclusive = began_as is_remover s
may_lock_own s covered u area.Garbage Shared = true
may_lock_own s covered u area.Garbage Exclusive = began_as is_remover s
may_lock_own s covered u _ _ = false

-- which gate may be held exclusively, and by which command
abbrev pub may_exclude_area : Kind → Area → Bool
may_exclude_area kind area.Embryo = is_gc kind
may_exclude_area kind area.Images = is_image_rm kind
may_exclude_area kind area.Incoming = is_image_remover kind
may_exclude_area kind area.Removed = is_image_remover kind
may_exclude_area kind _ = false

-- which area's lock may be asked for in which mode
abbrev pub may_lock_gate : Standing → Area → Mode → Bool
may_lock_gate s area Shared = true
may_lock_gate s area Exclusive = began_as (λ k. may_exclude_area k area) s

-- which lock may be asked for, by what a handle was opened on
abbrev pub may_lock_target : Standing → Bool → Target → Mode → Bool
may_lock_target s covered (Own spot) mode = may_lock_own s covered spot.name spot.area mode
may_lock_target s covered (Claim spot) Exclusive = true
may_lock_target s covered (Claim spot) Shared = false
may_lock_target s covered (Gate area) mode = may_lock_gate s area mode

-- one lock: of one pod or area
abbrev pub is_same_target : Target → Target → Bool
is_same_target (Own spot) target = is_own_of spot.name target
is_same_target (Claim spot) target = is_claim_of spot.name target
is_same_target (Gate area) target = is_gate_of area target

-- some handle is open on that lock
abbrev pub is_open_on : Target → List Held → Bool
is_open_on target hs = list_any (λ h. is_same_target target h.target) hs

-- a second handle is open on the lock of the first
abbrev pub is_second : Held → Held → Bool
is_second h other = is_same_target h.target other.target && not (is_handle_held h.handle other)

-- no other handle of the process is on the same lock
abbrev pub is_alone : Held → List Held → Bool
is_alone h hs = not (list_any (is_second h) hs)

-- which lock may be asked for by a handle: it is open, holds none, and is alone
abbrev pub may_lock_by : Standing → Option Held → Mode → Bool
may_lock_by s None mode = false
may_lock_by s (Some h) mode = not (is_some h.lock) && (is_alone h s.holdings && may_lock_target s h.covered h.target mode)

-- Claim is opened only in prepared
abbrev pub may_open : Spot → Which → Bool
may_open spot which.Own = true
may_open spot which.Claim = is_in area.Prepared spot.area

-- the gate of a pod that it made isn't given up while it holds Own of it
abbrev pub may_close : Standing → Handle → Bool
may_close s handle = not ((gives_up (is_gate_shared area.Embryo) handle s.holdings && s.embryo_under_lock) && intends (λ i. holds_own (pod_text i.draw.bytes) s) s.intent)

-- the lock that a removal at this spot needs: Own by an open there, or the gate of removed
abbrev pub is_removal_target : Spot → Target → Bool
is_removal_target spot (Own here) = is_garbage spot.area && spot_eq here spot
is_removal_target spot (Claim here) = false
is_removal_target spot (Gate gate) = is_in area.Removed spot.area && is_in area.Removed gate

-- it holds the lock that a removal at this location needs
abbrev pub is_removal_held : Spot → Held → Bool
is_removal_held spot h = is_exclusive h.lock && is_removal_target spot h.target

-- some handle does
abbrev pub may_remove : Standing → Spot → Bool
may_remove s spot = list_any (is_removal_held spot) s.holdings

-- the local rules on outlines, and on locks
abbrev pub lock_rules_allow : Standing → Request → Bool
lock_rules_allow s (MakeFolder spot) = cond (is_stage spot.area) (may_make s spot) true
lock_rules_allow s (MoveFolder from to) = may_move_by_locks s from to
lock_rules_allow s (Open spot which) = may_open spot which
lock_rules_allow s (TryLock handle mode) = may_lock_by s (find_held handle s) mode
lock_rules_allow s (Close handle) = may_close s handle
lock_rules_allow s (RemoveFolder spot) = may_remove s spot
lock_rules_allow s (RemoveFileIn inner) = may_remove s inner.spot
lock_rules_allow s (RemoveDirIn inner) = may_remove s inner.spot
lock_rules_allow s _ = true

-- each request was allowed by what came before it
abbrev pub keeps_lock_rules_from : ℕ → Standing → List Event → Bool
keeps_lock_rules_from me s [] = true
keeps_lock_rules_from me s (e ∷ es) = (is_foreign me e || lock_rules_allow s e.request) && keeps_lock_rules_from me (stood me s e) es

-- all requests of a process in a trace keep the rules on locks and places
abbrev pub keeps_lock_rules : ℕ → List Event → Bool
keeps_lock_rules me history = keeps_lock_rules_from me nothing_standing history

-- a test of a location that may be none
abbrev pub on_spot : (Spot → Bool) → Option Spot → Bool
on_spot test None = false
on_spot test (Some spot) = test spot

-- its last move of the pod was to prepare or run
abbrev pub moved_in : List ℕ → Standing → Bool
moved_in u s = on_spot (λ spot. is_in area.Prepare spot.area || is_in area.Run spot.area) (last_move_of u s.moves)

-- it holds the pod by what it stood
abbrev pub holds_pod : List ℕ → Standing → Bool
holds_pod u s = list_any (λ h. is_own_held u h && (moved_in u s || is_garbage (area_of h.target))) s.holdings
