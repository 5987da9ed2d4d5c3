-- What the maker of a pod knows after each of its calls.
use Rattle.std.proofs.Common.{◌≡◌, ℕ, Bool, true, false, not, ◌&&◌, ◌||◌, ◌==◌, cond, bytes_eq, Option, Some, None, List, [], ◌∷◌, map, filter, refl, ap, ◌∙◌}
use Rattle.std.specs.List.{list_any}
use Rattle.plain_laws.proofs.Texts.{same_bytes}
use Rattle.dir_model.specs.declared.area.Area.{Area}
use Rattle.dir_model.specs.declared.area.Area.TheVariants.{Embryo, Prepare, Prepared, Run, ExitedGarbage, Garbage, Incoming}
use Rattle.dir_model.specs.declared.intent.Intent.{Intent}
use Rattle.dir_model.specs.declared.intent.Kind.{Kind}
use Rattle.dir_model.specs.declared.intent.Kind.TheVariants as kind
use Rattle.dir_model.specs.declared.opening.Target.{Target}
use Rattle.dir_model.specs.declared.opening.Target.TheVariants.{Own, Claim, Gate}
use Rattle.dir_model.specs.declared.pod.PodId.{PodId}
use Rattle.dir_model.specs.declared.spot.Handle.{Handle}
use Rattle.dir_model.specs.declared.spot.Mode.{Mode}
use Rattle.dir_model.specs.declared.spot.Mode.TheVariants.{Shared, Exclusive}
use Rattle.dir_model.specs.declared.spot.Spot.{Spot}
use Rattle.dir_model.specs.declared.request.DirError.{DirError}
use Rattle.dir_model.specs.declared.request.Request.TheVariants.{MakeFolder, MoveFolder, TryLock, Close}
use Rattle.dir_model.specs.declared.request.Reply.TheVariants.{Done, Refused}
use Rattle.dir_model.specs.Areas.{rank, is_stage}
use Rattle.dir_model.specs.Locks.{is_exclusive}
use Rattle.dir_model.specs.Local.{is_own_of}
use Rattle.dir_model.specs.Pods.{pod_text}
use Rattle.dir_model.proofs.Lists.{and_false, same_self}
use Rattle.dir_rules.specs.declared.standing.Held.{Held}
use Rattle.dir_rules.specs.declared.seen.Entry.{Entry}
use Rattle.dir_rules.specs.declared.seen.Making.{Making}
use Rattle.dir_rules.specs.declared.seen.Seen.{Seen}
use Rattle.dir_rules.specs.Standing.{is_garbage, is_maker, is_handle_held, gives_up, gives_up_cover, uncovered_by_close, uncover, is_own_held, is_claim_held, is_gate_shared, holds_own}
use Rattle.dir_rules.specs.LockRules.{is_open_on, may_lock_by, may_lock_own}
use Rattle.dir_rules.specs.Rules.{allows, is_deleting, is_whole_pod}
use Rattle.dir_rules.specs.Seen.{moved_making}
use Rattle.dir_rules.specs.Conforms.{seen_replied}
use Rattle.dir_rules.proofs.Looks.{Fresh, Plain, none_given, map_same, closed_plain, newest_found, newest_locked, alone_newest, deletes_none}
use Rattle.dir_files.specs.AreaLocks.{on_gate}
use Rattle.folder_building.specs.declared.plan.PlanEntry.{PlanEntry}
use Rattle.dir_model.specs.Spots.{pod_spot}
use Rattle.pod_build.specs.Progress.{Progress, seen_making, holding, nothing_made, in_embryo, in_prepare, handed, own_held}
use Rattle.pod_build.specs.Work.{IsMaker, leads_to, MayMake, UnderMakingLocks}

-- who leads to an area is a maker
pub maker_of : (to : Area) (k : Kind) → leads_to to k ≡ true → is_maker k ≡ true
maker_of Prepared kind.Prepare is = refl
maker_of Prepared _ is = cc
maker_of Run kind.Run is = refl
maker_of Run _ is = cc
maker_of _ k is = cc

pub is_maker_of : {to : Area} {plan : List PlanEntry} {draw : PodId} {intent : Intent} → MayMake to plan draw intent → IsMaker draw intent
is_maker_of {to} {plan} {draw} {intent} m = record { kind = maker_of to intent.kind m.leads; drawn = m.drawn }

-- a handle that isn't on the pod's own lock stays covered
kept : (name : List ℕ) (from : Area) (h : Held) → is_own_of name h.target ≡ false → uncover (record { area = from; name = name }) h ≡ h
kept name from h off = ap (λ b. let r : Held = record h { covered = not b && h.covered } in r) (ap (λ b. is_stage from && b) off ∙ and_false (is_stage from))

pub still_held : (name : List ℕ) (at from : Area) (hs : List Held) → is_open_on (Own (record { area = at; name = name })) hs ≡ false → map (uncover (record { area = from; name = name })) hs ≡ hs
still_held name at from [] off = refl
still_held name at from (h ∷ hs) off = by (is_own_of name h.target) refl off (λ f. still_held name at from hs f)
  where
    by : (b : Bool) → is_own_of name h.target ≡ b → (b || is_open_on (Own (record { area = at; name = name })) hs) ≡ false
        → (is_open_on (Own (record { area = at; name = name })) hs ≡ false → map (uncover (record { area = from; name = name })) hs ≡ hs) → map (uncover (record { area = from; name = name })) (h ∷ hs) ≡ h ∷ hs
    by true is f go = cc
    by false is f go = ap (λ (x : Held). x ∷ map (uncover (record { area = from; name = name })) hs) (kept name from h is) ∙ ap (λ (l : List Held). h ∷ l) (go f)

-- without a handle on it, the pod's own lock isn't held
pub none_owned : (name : List ℕ) (at : Area) (hs : List Held) → is_open_on (Own (record { area = at; name = name })) hs ≡ false → list_any (is_own_held name) hs ≡ false
none_owned name at [] off = refl
none_owned name at (h ∷ hs) off = by (is_own_of name h.target) off (λ f. none_owned name at hs f)
  where
    by : (b : Bool) → (b || is_open_on (Own (record { area = at; name = name })) hs) ≡ false → (is_open_on (Own (record { area = at; name = name })) hs ≡ false → list_any (is_own_held name) hs ≡ false)
        → ((b && is_exclusive h.lock) || list_any (is_own_held name) hs) ≡ false
    by true f go = cc
    by false f go = go f

-- nothing is removed under a handle that was opened in embryo
no_removal : (area : Area) (b : Bool) → (is_garbage area && ((0 == rank area) && b)) ≡ false
no_removal ExitedGarbage b = refl
no_removal Garbage b = refl
no_removal area b = refl

plain_own : (draw : PodId) (h : Handle) (lock : Option Mode) → Plain (own_held draw h lock) h
plain_own draw h lock = record {
  number = refl;
  gate = refl;
  closes = λ a. refl;
  claim = λ u. refl;
  removal = λ spot. ap (λ b. is_exclusive lock && b) (no_removal spot.area (bytes_eq (pod_text draw.bytes) spot.name)) ∙ and_false (is_exclusive lock);
}

-- the pod's own lock is given up
pub own_given : (draw : PodId) (intent : Intent) (h : Handle) (lock : Option Mode) (hs : List Held) (p : Progress) → Fresh h hs → seen_replied (seen_making intent (own_held draw h lock ∷ hs) p) (Close h) Done ≡ seen_making intent hs p
own_given draw intent h lock hs p fresh = closed_plain (seen_making intent hs p) h (own_held draw h lock) [] (plain_own draw h lock) fresh

module _ (draw : PodId) (intent : Intent) (maker : IsMaker draw intent) where
  abbrev Name : List ℕ
  Name = pod_text draw.bytes

  abbrev Here : Spot
  Here = pod_spot draw Embryo

  abbrev There : Spot
  There = pod_spot draw Prepare

  drawn : bytes_eq (pod_text intent.draw.bytes) Name ≡ true
  drawn = ap (λ (d : PodId). bytes_eq (pod_text d.bytes) Name) maker.drawn ∙ same_bytes Name

  named : bytes_eq Name Name ≡ true
  named = same_bytes Name

  -- the folder is made
  module _ (hs : List Held) (under : UnderMakingLocks draw hs) where
    abbrev Free : Seen
    Free = seen_making intent hs nothing_made

    may_make : allows Free (MakeFolder Here) ≡ true
    may_make = rw (drawn, maker.kind, under.embryo) refl

    abbrev Made : Bool → Bool → Seen
    Made embryo_under_lock kept = record (seen_making intent hs (record (in_embryo draw) { embryo_under_lock = embryo_under_lock })) { kept = kept }

    pub made_seen : seen_replied Free (MakeFolder Here) Done ≡ seen_making intent hs (in_embryo draw)
    made_seen = ap (λ b. Made b (allows Free (MakeFolder Here) && true)) under.embryo ∙ ap (λ b. Made true (b && true)) may_make

    pub unmade_seen : (error : DirError) → seen_replied Free (MakeFolder Here) (Refused error 0) ≡ Free
    unmade_seen error = ap (λ b. let s : Seen = record Free { kept = b && true } in s) may_make

    -- its own lock is opened and taken
    module _ (h : Handle) (fresh : Fresh h hs) where
      abbrev Opening : Option Mode → Seen
      Opening lock = seen_making intent (own_held draw h lock ∷ hs) (in_embryo draw)

      may_lock : allows (Opening None) (TryLock h Exclusive) ≡ true
      may_lock =
          ap (λ (o : Option Held). may_lock_by (Opening None).standing o Exclusive && true) (newest_found (own_held draw h None) hs)
          ∙ (ap (λ b. (b && may_lock_own (Opening None).standing false Name Embryo Exclusive) && true) (alone_newest (own_held draw h None) hs under.apart)
          ∙ ap (λ b. b && true) drawn)

      abbrev Locked : List Held → Bool → Seen
      Locked held kept = record (seen_making intent held (in_embryo draw)) { kept = kept }

      pub locked_seen : seen_replied (Opening None) (TryLock h Exclusive) Done ≡ Opening (Some Exclusive)
      locked_seen =
          ap (λ (l : List Held). Locked l (allows (Opening None) (TryLock h Exclusive) && true)) (newest_locked (own_held draw h None) Exclusive hs fresh)
          ∙ ap (λ b. Locked (own_held draw h (Some Exclusive) ∷ hs) (b && true)) may_lock

      pub unlocked_seen : (error : DirError) → seen_replied (Opening None) (TryLock h Exclusive) (Refused error 0) ≡ Opening None
      unlocked_seen error = ap (λ b. let s : Seen = record (Opening None) { kept = b && true } in s) may_lock

  -- the folder is moved, under its own lock
  module _ (h : Handle) (hs : List Held) (apart : is_open_on (Own (pod_spot draw Embryo)) hs ≡ false) where
    abbrev Mine : List Held
    Mine = own_held draw h (Some Exclusive) ∷ hs

    spared : list_any (is_deleting Name) hs ≡ false
    spared = deletes_none Name hs apart

    still : (from : Area) → map (uncover (pod_spot draw from)) Mine ≡ Mine
    still from =
        ap (λ b. let r : Held = record (own_held draw h (Some Exclusive)) { covered = b } in r ∷ map (uncover (pod_spot draw from)) hs) (and_false (not (is_stage from && bytes_eq Name Name)))
        ∙ ap (λ (l : List Held). own_held draw h (Some Exclusive) ∷ l) (still_held Name Embryo from hs apart)

    may_leave : allows (seen_making intent Mine (in_embryo draw)) (MoveFolder Here There) ≡ true
    may_leave = rw (named, drawn, spared) refl

    abbrev Left : List Held → Bool → Option Making → Bool → Seen
    Left held embryo_under_lock making kept = record (seen_making intent held (record { made = true; embryo_under_lock = embryo_under_lock; moves = There ∷ []; making = making })) { kept = kept }

    pub left_seen : seen_replied (seen_making intent Mine (in_embryo draw)) (MoveFolder Here There) Done ≡ seen_making intent Mine (in_prepare draw [])
    left_seen =
        ap (λ (l : List Held). Left l (not (bytes_eq (pod_text intent.draw.bytes) Name) && true) (Some (moved_making Here There (holding Here []))) (allows (seen_making intent Mine (in_embryo draw)) (MoveFolder Here There) && true)) (still Embryo)
        ∙ (ap (λ b. Left Mine (not b && true) (Some (moved_making Here There (holding Here []))) (allows (seen_making intent Mine (in_embryo draw)) (MoveFolder Here There) && true)) drawn
        ∙ (ap (λ b. Left Mine false (Some (cond b (holding There []) (holding Here []))) (allows (seen_making intent Mine (in_embryo draw)) (MoveFolder Here There) && true)) named
        ∙ ap (λ b. Left Mine false (Some (holding There [])) (b && true)) may_leave))

    pub unleft_seen : (error : DirError) → seen_replied (seen_making intent Mine (in_embryo draw)) (MoveFolder Here There) (Refused error 0) ≡ seen_making intent Mine (in_embryo draw)
    unleft_seen error = ap (λ b. let s : Seen = record (seen_making intent Mine (in_embryo draw)) { kept = b && true } in s) may_leave

    -- and moved on
    module _ (entries : List Entry) (whole : is_whole_pod (holding There entries) ≡ true) where
      abbrev Filled : Seen
      Filled = seen_making intent Mine (in_prepare draw entries)

      pub may_hand : (to : Area) → leads_to to intent.kind ≡ true → allows Filled (MoveFolder There (pod_spot draw to)) ≡ true
      may_hand Prepared leads = rw (named, spared, leads, whole) refl
      may_hand Run leads = rw (named, spared, leads, whole) refl
      may_hand _ leads = cc

      abbrev Handed : Area → List Held → Making → Bool → Seen
      Handed to held making kept = record (seen_making intent held (record { made = true; embryo_under_lock = false; moves = pod_spot draw to ∷ There ∷ []; making = Some making })) { kept = kept }

      abbrev Allowed : Area → Bool
      Allowed to = allows Filled (MoveFolder There (pod_spot draw to)) && true

      pub handed_seen : (to : Area) → leads_to to intent.kind ≡ true → seen_replied Filled (MoveFolder There (pod_spot draw to)) Done ≡ seen_making intent Mine (handed draw to entries)
      handed_seen Prepared leads =
          ap (λ (l : List Held). Handed Prepared l (moved_making There (pod_spot draw Prepared) (holding There entries)) (Allowed Prepared)) (still Prepare)
          ∙ (ap (λ b. Handed Prepared Mine (cond b (holding (pod_spot draw Prepared) entries) (holding There entries)) (Allowed Prepared)) named
          ∙ ap (λ b. Handed Prepared Mine (holding (pod_spot draw Prepared) entries) (b && true)) (may_hand Prepared leads))
      handed_seen Run leads =
          ap (λ (l : List Held). Handed Run l (moved_making There (pod_spot draw Run) (holding There entries)) (Allowed Run)) (still Prepare)
          ∙ (ap (λ b. Handed Run Mine (cond b (holding (pod_spot draw Run) entries) (holding There entries)) (Allowed Run)) named
          ∙ ap (λ b. Handed Run Mine (holding (pod_spot draw Run) entries) (b && true)) (may_hand Run leads))
      handed_seen _ leads = cc

      pub unhanded_seen : (to : Area) → leads_to to intent.kind ≡ true → (error : DirError) → seen_replied Filled (MoveFolder There (pod_spot draw to)) (Refused error 0) ≡ Filled
      unhanded_seen to leads error = ap (λ b. let s : Seen = record Filled { kept = b && true } in s) (may_hand to leads)

-- the lock of an area is given back, with the pod's own lock held or not
module _ (intent : Intent) (g : Handle) (area : Area) (hs : List Held) (fresh : Fresh g hs) where
  abbrev Newest : Held
  Newest = on_gate g area (Some Shared)

  gives_own : (draw : PodId) (h : Handle) → (h.number == g.number) ≡ false → (test : Held → Bool) → gives_up test g (own_held draw h (Some Exclusive) ∷ Newest ∷ hs) ≡ test Newest
  gives_own draw h other test = rw (other, same_self g.number, none_given test g hs fresh) (by (test (own_held draw h (Some Exclusive))) (test Newest))
    where
      by : (a b : Bool) → ((a && false) || ((b && true) || false)) ≡ b
      by true true = refl
      by true false = refl
      by false true = refl
      by false false = refl

  gives_it : (test : Held → Bool) → gives_up test g (Newest ∷ hs) ≡ test Newest
  gives_it test = rw (same_self g.number, none_given test g hs fresh) (by (test Newest))
    where
      by : (b : Bool) → ((b && true) || false) ≡ b
      by true = refl
      by false = refl

  none_dropped : (l : List Held) → Fresh g l → filter (λ x. not (is_handle_held g x)) l ≡ l
  none_dropped [] f = refl
  none_dropped (x ∷ l) f = by (is_handle_held g x) f (λ r. none_dropped l r)
    where
      by : (b : Bool) → (b || list_any (is_handle_held g) l) ≡ false → (Fresh g l → filter (λ y. not (is_handle_held g y)) l ≡ l) → cond (not b) (x ∷ filter (λ y. not (is_handle_held g y)) l) (filter (λ y. not (is_handle_held g y)) l) ≡ x ∷ l
      by true f go = cc
      by false f go = ap (λ (r : List Held). x ∷ r) (go f)

  module _ (whole : List Held) (gives : (test : Held → Bool) → gives_up test g whole ≡ test Newest) where
    no_cover : (t : Target) → gives_up_cover g whole t ≡ false
    no_cover (Own spot) = gives (is_claim_held spot.name)
    no_cover (Claim spot) = refl
    no_cover (Gate a) = refl

    recovered : (l : List Held) → map (uncovered_by_close g whole) l ≡ l
    recovered l = map_same (uncovered_by_close g whole) l (λ x. ap (λ b. let r : Held = record { handle = x.handle; target = x.target; lock = x.lock; covered = not b && x.covered } in r) (no_cover x.target))

    module _ (left : List Held) (p : Progress) (filtered : filter (λ x. not (is_handle_held g x)) whole ≡ left) where
      abbrev Closes : Bool
      Closes = allows (seen_making intent whole p) (Close g)

      abbrev Given : List Held → Bool → Bool → Bool → Seen
      Given held embryo_under_lock image_under_lock kept = record (seen_making intent held (record p { embryo_under_lock = embryo_under_lock })) { image_under_lock = image_under_lock; kept = kept }

      gate_given : Closes ≡ true → (not (is_gate_shared Embryo Newest) && p.embryo_under_lock) ≡ false → seen_replied (seen_making intent whole p) (Close g) Done ≡ seen_making intent left (record p { embryo_under_lock = false })
      gate_given closes ungated =
          ap (λ (l : List Held). Given l (not (gives_up (is_gate_shared Embryo) g whole) && p.embryo_under_lock) (not (gives_up (is_gate_shared Incoming) g whole) && false) (Closes && true)) (ap (map (uncovered_by_close g whole)) filtered ∙ recovered left)
          ∙ (ap (λ b. Given left (not b && p.embryo_under_lock) (not (gives_up (is_gate_shared Incoming) g whole) && false) (Closes && true)) (gives (is_gate_shared Embryo))
          ∙ (ap (λ b. Given left b (not (gives_up (is_gate_shared Incoming) g whole) && false) (Closes && true)) ungated
          ∙ (ap (λ b. Given left false b (Closes && true)) (and_false (not (gives_up (is_gate_shared Incoming) g whole)))
          ∙ ap (λ b. Given left false false (b && true)) closes)))

  filter_newest : filter (λ x. not (is_handle_held g x)) (Newest ∷ hs) ≡ hs
  filter_newest = ap (λ b. cond (not b) (Newest ∷ filter (λ x. not (is_handle_held g x)) hs) (filter (λ x. not (is_handle_held g x)) hs)) (same_self g.number) ∙ none_dropped hs fresh

  -- while the pod's own lock is held, once the pod was moved on from embryo
  pub gate_given_after : (draw : PodId) (h : Handle) → (h.number == g.number) ≡ false → (p : Progress)
      → seen_replied (seen_making intent (own_held draw h (Some Exclusive) ∷ Newest ∷ hs) (record p { embryo_under_lock = false })) (Close g) Done ≡ seen_making intent (own_held draw h (Some Exclusive) ∷ hs) (record p { embryo_under_lock = false })
  gate_given_after draw h other p = gate_given Whole (gives_own draw h other) (Mine ∷ hs) (record p { embryo_under_lock = false })
      (ap (λ b. cond (not b) (Mine ∷ filter (λ x. not (is_handle_held g x)) (Newest ∷ hs)) (filter (λ x. not (is_handle_held g x)) (Newest ∷ hs))) other ∙ ap (λ (l : List Held). Mine ∷ l) filter_newest)
      (ap (λ b. not (b && holds_own (pod_text intent.draw.bytes) (seen_making intent Whole (record p { embryo_under_lock = false })).standing) && true) (and_false (gives_up (is_gate_shared Embryo) g Whole)))
      (and_false (not (is_gate_shared Embryo Newest)))
    where
      Mine : Held
      Mine = own_held draw h (Some Exclusive)

      Whole : List Held
      Whole = own_held draw h (Some Exclusive) ∷ Newest ∷ hs

-- the lock of embryo, once the pod's own lock was given up
module _ (intent : Intent) (g : Handle) (hs : List Held) (fresh : Fresh g hs) where
  abbrev Bare : List Held
  Bare = on_gate g Embryo (Some Shared) ∷ hs

  pub gate_given_back : (draw : PodId) → IsMaker draw intent → is_open_on (Own (pod_spot draw Embryo)) hs ≡ false → (p : Progress) → seen_replied (seen_making intent Bare p) (Close g) Done ≡ seen_making intent hs (record p { embryo_under_lock = false })
  gate_given_back draw maker apart p = gate_given intent g Embryo hs fresh Bare (gives_it intent g Embryo hs fresh) hs p (filter_newest intent g Embryo hs fresh)
      (ap (λ b. not ((gives_up (is_gate_shared Embryo) g Bare && p.embryo_under_lock) && b) && true) none ∙ ap (λ b. not b && true) (and_false (gives_up (is_gate_shared Embryo) g Bare && p.embryo_under_lock))) refl
    where
      none : list_any (is_own_held (pod_text intent.draw.bytes)) hs ≡ false
      none = ap (λ (d : PodId). list_any (is_own_held (pod_text d.bytes)) hs) maker.drawn ∙ none_owned (pod_text draw.bytes) Embryo hs apart
