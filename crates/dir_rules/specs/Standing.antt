-- What one process knows of locks and places by its own answers.
use Rattle.std.specs.Prelude.{ℕ, Bool, true, false, not, ◌&&◌, ◌==◌, cond, bytes_eq, Option, Some, None, List, [], ◌∷◌, ◌++◌, map, filter, find}
use Rattle.std.specs.List.{list_any}
use Rattle.dir_model.specs.declared.area.Area.{Area}
use Rattle.dir_model.specs.declared.area.Area.TheVariants as area
use Rattle.dir_model.specs.declared.intent.Intent.{Intent}
use Rattle.dir_model.specs.declared.intent.Kind.{Kind}
use Rattle.dir_model.specs.declared.intent.Kind.TheVariants as kind
use Rattle.dir_model.specs.declared.spot.Mode.{Mode}
use Rattle.dir_model.specs.declared.spot.Mode.TheVariants.{Shared, Exclusive}
use Rattle.dir_model.specs.declared.spot.Spot.{Spot}
use Rattle.dir_model.specs.declared.spot.Handle.{Handle}
use Rattle.dir_model.specs.declared.spot.Which.{Which}
use Rattle.dir_model.specs.declared.spot.Which.TheVariants as which
use Rattle.dir_model.specs.declared.opening.Target.{Target}
use Rattle.dir_model.specs.declared.opening.Target.TheVariants.{Own, Claim, Gate}
use Rattle.dir_model.specs.declared.event.Event.{Event}
use Rattle.dir_model.specs.declared.request.Request.{Request}
use Rattle.dir_model.specs.declared.request.Request.TheVariants.{Begin, MakeFolder, MoveFolder, Open, OpenArea, TryLock, Close, Finish}
use Rattle.dir_model.specs.declared.request.Reply.{Reply}
use Rattle.dir_model.specs.declared.request.Reply.TheVariants.{Done, Opened, Refused}
use Rattle.dir_model.specs.Areas.{rank, is_stage}
use Rattle.dir_model.specs.Pods.{pod_text}
use Rattle.dir_model.specs.Locks.{is_exclusive, target_of}
use Rattle.dir_model.specs.Local.{is_own_of}
use Rattle.dir_model.specs.Calls.{is_foreign}
use Rattle.dir_rules.specs.declared.standing.Held.{Held}
use Rattle.dir_rules.specs.declared.standing.Standing.{Standing}

-- the two are one area
abbrev pub is_in : Area → Area → Bool
is_in area here = rank area == rank here

-- one of the two places in which pods are deleted
abbrev pub is_garbage : Area → Bool
is_garbage area.ExitedGarbage = true
is_garbage area.Garbage = true
is_garbage _ = false

-- a place of the pod with this name
abbrev pub is_spot_of_pod : List ℕ → Spot → Bool
is_spot_of_pod u spot = is_stage spot.area && bytes_eq spot.name u

-- what a handle was opened on
abbrev pub is_claim_of : List ℕ → Target → Bool
is_claim_of u (Claim spot) = is_spot_of_pod u spot
is_claim_of u _ = false

-- the handle was opened on the lock of this area
abbrev pub is_gate_of : Area → Target → Bool
is_gate_of area (Gate here) = is_in area here
is_gate_of area _ = false

-- where it was opened
abbrev pub area_of : Target → Area
area_of (Own spot) = spot.area
area_of (Claim spot) = spot.area
area_of (Gate area) = area

-- it has asked for nothing yet
abbrev pub nothing_standing : Standing
nothing_standing = record { intent = None; made = false; embryo_under_lock = false; holdings = []; moves = []; seen_unowned = []; seen_unowned_under_claim = [] }

-- the lock is held shared
abbrev pub is_shared : Option Mode → Bool
is_shared (Some Shared) = true
is_shared _ = false

-- a test of what it said when it began
abbrev pub intends : (Intent → Bool) → Option Intent → Bool
intends test None = false
intends test (Some intent) = test intent

-- what it said names this identity as the one that it draws
abbrev pub draws_by : List ℕ → Option Intent → Bool
draws_by u intent = intends (λ i. bytes_eq (pod_text i.draw.bytes) u) intent

-- the pod is the one that its intent would make
abbrev pub draws : List ℕ → Standing → Bool
draws u s = draws_by u s.intent

-- it has begun as a command of this kind
abbrev pub began_as : (Kind → Bool) → Standing → Bool
began_as test s = intends (λ i. test i.kind) s.intent

-- the command makes a pod
abbrev pub is_maker : Kind → Bool
is_maker kind.Prepare = true
is_maker kind.Run = true
is_maker _ = false

-- the command removes pods
abbrev pub is_remover : Kind → Bool
is_remover kind.Rm = true
is_remover kind.Gc = true
is_remover _ = false

-- the command prepares a pod
abbrev pub is_prepare : Kind → Bool
is_prepare kind.Prepare = true
is_prepare _ = false

-- the command makes a pod and runs it
abbrev pub is_run : Kind → Bool
is_run kind.Run = true
is_run _ = false

-- the command runs a prepared pod
abbrev pub is_run_prepared : Kind → Bool
is_run_prepared kind.RunPrepared = true
is_run_prepared _ = false

-- the command removes an image
abbrev pub is_image_rm : Kind → Bool
is_image_rm kind.ImageRm = true
is_image_rm _ = false

-- the command removes images, or what killed image commands left
abbrev pub is_image_remover : Kind → Bool
is_image_remover kind.ImageRm = true
is_image_remover kind.ImageGc = true
is_image_remover _ = false

-- the command sweeps pods
abbrev pub is_gc : Kind → Bool
is_gc kind.Gc = true
is_gc _ = false

-- what it holds
abbrev pub is_own_held : List ℕ → Held → Bool
is_own_held u h = is_own_of u h.target && is_exclusive h.lock

-- the handle holds the pod's activation lock
abbrev pub is_claim_held : List ℕ → Held → Bool
is_claim_held u h = is_claim_of u h.target && is_exclusive h.lock

-- the handle holds the area's lock shared
abbrev pub is_gate_shared : Area → Held → Bool
is_gate_shared area h = is_gate_of area h.target && is_shared h.lock

-- the handle holds the area's lock exclusively
abbrev pub is_gate_exclusive : Area → Held → Bool
is_gate_exclusive area h = is_gate_of area h.target && is_exclusive h.lock

-- it holds the pod's own lock exclusively
abbrev pub holds_own : List ℕ → Standing → Bool
holds_own u s = list_any (is_own_held u) s.holdings

-- it holds the pod's activation lock
abbrev pub holds_claim : List ℕ → Standing → Bool
holds_claim u s = list_any (is_claim_held u) s.holdings

-- it holds the area's lock shared
abbrev pub shares_area : Area → Standing → Bool
shares_area area s = list_any (is_gate_shared area) s.holdings

-- it holds the area's lock exclusively
abbrev pub excludes_area : Area → Standing → Bool
excludes_area area s = list_any (is_gate_exclusive area) s.holdings

-- the name is among these
abbrev pub is_name_among : List ℕ → List (List ℕ) → Bool
is_name_among u names = list_any (λ name. bytes_eq name u) names

-- a location in this area with this name is among these
abbrev pub has_place : List ℕ → Area → List Spot → Bool
has_place u area spots = list_any (λ spot. bytes_eq spot.name u && is_in area spot.area) spots

-- its last move of the pod, if any
abbrev pub last_move_of : List ℕ → List Spot → Option Spot
last_move_of u moves = find (is_spot_of_pod u) moves

-- the handle has this number
abbrev pub is_handle_held : Handle → Held → Bool
is_handle_held handle h = h.handle.number == handle.number

-- some open handle has this number
abbrev pub is_known : Handle → Standing → Bool
is_known handle s = list_any (is_handle_held handle) s.holdings

-- the open handle with this number
abbrev pub find_held : Handle → Standing → Option Held
find_held handle s = find (is_handle_held handle) s.holdings

-- the changes
abbrev pub held_with_mode : Handle → Mode → Held → Held
held_with_mode handle mode h = cond (is_handle_held handle h) (record h { lock = Some mode }) h

-- a handle after the pod was moved: it isn't under the activation lock any more
abbrev pub uncover : Spot → Held → Held
uncover from h = record h { covered = not (is_stage from.area && is_own_of from.name h.target) && h.covered }

-- a handle of that kind is given up with this number
abbrev pub gives_up : (Held → Bool) → Handle → List Held → Bool
gives_up test handle hs = list_any (λ h. test h && is_handle_held handle h) hs

-- with this handle the activation lock is given up under which the other was opened
abbrev pub gives_up_cover : Handle → List Held → Target → Bool
gives_up_cover handle hs (Own spot) = gives_up (is_claim_held spot.name) handle hs
gives_up_cover handle hs _ = false

-- a handle after another was closed: it is under the activation lock only while that is held
abbrev pub uncovered_by_close : Handle → List Held → Held → Held
uncovered_by_close handle hs h = record h { covered = not (gives_up_cover handle hs h.target) && h.covered }

-- a handle was given up, and what hung on it
abbrev pub given_up : Handle → Standing → Standing
given_up handle s = record s { embryo_under_lock = not (gives_up (is_gate_shared area.Embryo) handle s.holdings) && s.embryo_under_lock; holdings = map (uncovered_by_close handle s.holdings) (filter (λ h. not (is_handle_held handle h)) s.holdings); seen_unowned_under_claim = filter (λ u. not (gives_up (is_claim_held u) handle s.holdings)) s.seen_unowned_under_claim }

-- where a pod's own lock was opened, in a list
abbrev pub own_spot : Target → List Spot
own_spot (Own spot) = cond (is_stage spot.area) (spot ∷ []) []
own_spot _ = []

-- the pod whose own lock was opened in prepared, in a list
abbrev pub prepared_name : Target → List (List ℕ)
prepared_name (Own spot) = cond (is_in area.Prepared spot.area) (spot.name ∷ []) []
prepared_name _ = []

-- Own was had shared by this handle
abbrev pub looked_by : Option Held → Standing → Standing
looked_by None s = s
looked_by (Some h) s = record s { seen_unowned = own_spot h.target ++ s.seen_unowned; seen_unowned_under_claim = cond h.covered (prepared_name h.target) [] ++ s.seen_unowned_under_claim }

-- where a move of a pod led
abbrev pub and_move : Spot → List Spot → List Spot
and_move to moves = cond (is_stage to.area) (to ∷ moves) moves

-- it is a pod's own lock in prepared
abbrev pub is_own_in_prepared : Spot → Which → Bool
is_own_in_prepared spot which.Own = is_in area.Prepared spot.area
is_own_in_prepared spot which.Claim = false

-- after an answer Ok
abbrev pub standing_done : Standing → Request → Standing
standing_done s (Begin intent) = record s { intent = Some intent }
standing_done s (MakeFolder spot) = cond (is_stage spot.area) (record s { made = true; embryo_under_lock = shares_area area.Embryo s }) s
standing_done s (MoveFolder from to) = record s { embryo_under_lock = not (is_in area.Embryo from.area && draws from.name s) && s.embryo_under_lock; moves = and_move to s.moves; holdings = map (uncover from) s.holdings }
standing_done s (TryLock handle Shared) = looked_by (find_held handle s) (record s { holdings = map (held_with_mode handle Shared) s.holdings })
standing_done s (TryLock handle Exclusive) = record s { holdings = map (held_with_mode handle Exclusive) s.holdings }
standing_done s (Close handle) = given_up handle s
standing_done s Finish = record s { holdings = []; embryo_under_lock = false; seen_unowned_under_claim = [] }
standing_done s _ = s

-- after a handle was opened
abbrev pub standing_opened : Standing → Request → Handle → Standing
standing_opened s (Open spot which) handle = record s { holdings = record { handle = handle; target = target_of spot which; lock = None; covered = is_own_in_prepared spot which && holds_claim spot.name s } ∷ s.holdings }
standing_opened s (OpenArea area) handle = record s { holdings = record { handle = handle; target = Gate area; lock = None; covered = false } ∷ s.holdings }
standing_opened s _ handle = s

-- after a reply
abbrev pub standing_replied : Standing → Request → Reply → Standing
standing_replied s request Done = standing_done s request
standing_replied s request (Opened handle) = standing_opened s request handle
standing_replied s request (Refused error left) = s
standing_replied s request _ = s

-- after an event, of this process or of another
abbrev pub stood : ℕ → Standing → Event → Standing
stood me s e = cond (is_foreign me e) s (standing_replied s e.request e.reply)

-- after more events
abbrev pub standing_from : ℕ → Standing → List Event → Standing
standing_from me s [] = s
standing_from me s (e ∷ es) = standing_from me (stood me s e) es

-- by a whole trace
abbrev pub standing_of : ℕ → List Event → Standing
standing_of me history = standing_from me nothing_standing history
