-- What an event that a state allows says of that state, kind by kind.
use Rattle.std.proofs.Common.{◌≡◌, ℕ, Bool, true, false, not, ◌&&◌, cond, Option, Some, None, is_some, List, refl}
use Rattle.dir_model.specs.declared.intent.Intent.{Intent}
use Rattle.dir_model.specs.declared.spot.Handle.{Handle}
use Rattle.dir_model.specs.declared.spot.Mode.{Mode}
use Rattle.dir_model.specs.declared.spot.Spot.{Spot}
use Rattle.dir_model.specs.declared.spot.Which.{Which}
use Rattle.dir_model.specs.declared.request.DirError.TheVariants.{Missing, Exists, Locked}
use Rattle.dir_model.specs.declared.event.Event.{Event}
use Rattle.dir_model.specs.declared.request.Request.{Request}
use Rattle.dir_model.specs.declared.request.Request.TheVariants.{Begin, MakeFolder, MoveFolder, Open, TryLock}
use Rattle.dir_model.specs.declared.request.Reply.{Reply}
use Rattle.dir_model.specs.declared.request.Reply.TheVariants.{Done, Opened, Refused}
use Rattle.dir_model.specs.declared.spot.Which.TheVariants.{Own}
use Rattle.dir_model.specs.declared.request.DirError.{DirError}
use Rattle.dir_model.specs.declared.tree.TreeEntry.{TreeEntry}
use Rattle.dir_model.specs.State.{DirState, has_begun, lives, folder_at, stands, has_open}
use Rattle.dir_model.specs.Replies.{is_locked, refused_in, open_refusal, refusal, is_error, is_reply}
use Rattle.dir_model.specs.Calls.{is_allowed, may_step, lists_on, event}
use Rattle.dir_model.proofs.Lists.{and_left, and_right, not_true}

-- a process begins once
pub record BeginSays (s : DirState) (me : ℕ) : Type 0 where
  pub unborn : has_begun s.namespace me ≡ false

-- a folder was made where none stood
pub record MakeSays (s : DirState) (me : ℕ) (spot : Spot) : Type 0 where
  pub living : lives s.namespace me ≡ true
  pub free : stands s.namespace spot ≡ false

-- a folder was moved to where none stood
pub record MoveSays (s : DirState) (me : ℕ) (from to : Spot) : Type 0 where
  pub living : lives s.namespace me ≡ true
  pub there : stands s.namespace from ≡ true
  pub free : stands s.namespace to ≡ false

-- a lock of the folder that stood there was opened by a new handle
pub record OpenSays (s : DirState) (me : ℕ) (spot : Spot) (handle : Handle) : Type 0 where
  pub living : lives s.namespace me ≡ true
  pub there : stands s.namespace spot ≡ true
  pub unopened : has_open s.namespace me handle ≡ false

-- no folder stood there
pub record MissSays (s : DirState) (me : ℕ) (spot : Spot) : Type 0 where
  pub living : lives s.namespace me ≡ true
  pub absent : stands s.namespace spot ≡ false

-- a lock was asked for that was free, or not
pub record LockSays (s : DirState) (me : ℕ) (handle : Handle) (mode : Mode) (opposed : Bool) : Type 0 where
  pub living : lives s.namespace me ≡ true
  pub told : is_locked s.namespace me handle mode ≡ opposed

module _ (s : DirState) (me : ℕ) where
  -- who took the step might, and its reply was the state's
  pub allowed_reply : (request : Request) (reply : Reply) → is_allowed s (event me request reply) ≡ true → is_reply s me request reply ≡ true
  allowed_reply request reply allowed = and_right (lists_on s me request) (is_reply s me request reply) (and_right (may_step s me request) (lists_on s me request && is_reply s me request reply) allowed)

  pub allowed_step : (request : Request) (reply : Reply) → is_allowed s (event me request reply) ≡ true → may_step s me request ≡ true
  allowed_step request reply allowed = and_left (may_step s me request) (lists_on s me request && is_reply s me request reply) allowed

  -- it had ended its last call
  pub allowed_turn : (request : Request) (reply : Reply) → is_allowed s (event me request reply) ≡ true → lists_on s me request ≡ true
  allowed_turn request reply allowed = and_left (lists_on s me request) (is_reply s me request reply) (and_right (may_step s me request) (lists_on s me request && is_reply s me request reply) allowed)

  pub begin_says : (intent : Intent) → is_allowed s (event me (Begin intent) Done) ≡ true → BeginSays s me
  begin_says intent allowed = record { unborn = not_true (has_begun s.namespace me) (allowed_step (Begin intent) Done allowed) }

  none_refused : (b a : Bool) → (not b && a) ≡ true → b ≡ false
  none_refused true a h = cc
  none_refused false a h = refl

  free_by : (b a : Bool) → (not (is_some (cond b (Some Exists) None)) && a) ≡ true → b ≡ false
  free_by true a h = cc
  free_by false a h = refl

  pub make_says : (spot : Spot) → is_allowed s (event me (MakeFolder spot) Done) ≡ true → MakeSays s me spot
  make_says spot allowed = record {
    living = allowed_step (MakeFolder spot) Done allowed;
    free = free_by (stands s.namespace spot) true (allowed_reply (MakeFolder spot) Done allowed);
  }

  stood_by : (from to a : Bool) → (not (is_some (cond from (cond to (Some Exists) None) (Some Missing))) && a) ≡ true → (from ≡ true) × (to ≡ false)
  stood_by true true a h = cc
  stood_by true false a h = (refl, refl)
  stood_by false to a h = cc

  pub move_says : (from to : Spot) → is_allowed s (event me (MoveFolder from to) Done) ≡ true → MoveSays s me from to
  move_says from to allowed =
      let both = stood_by (stands s.namespace from) (stands s.namespace to) true (allowed_reply (MoveFolder from to) Done allowed) in
      record { living = allowed_step (MoveFolder from to) Done allowed; there = both.0; free = both.1 }

  there_by : (refuses : List TreeEntry → ℕ → Option DirError) (es : List TreeEntry) (o : Option ℕ) (a : Bool) → (not (is_some (refused_in refuses es o)) && a) ≡ true → is_some o ≡ true
  there_by refuses es (Some folder) a h = refl
  there_by refuses es None a h = cc

  pub open_says : (spot : Spot) (which : Which) (handle : Handle) → is_allowed s (event me (Open spot which) (Opened handle)) ≡ true → OpenSays s me spot handle
  open_says spot which handle allowed =
      let is = allowed_reply (Open spot which) (Opened handle) allowed in
      record {
        living = allowed_step (Open spot which) (Opened handle) allowed;
        there = there_by (open_refusal which) s.entries (folder_at s.namespace spot) (not (has_open s.namespace me handle)) is;
        unopened = not_true (has_open s.namespace me handle) (and_right (not (is_some (refusal s me (Open spot which)))) (not (has_open s.namespace me handle)) is);
      }

  absent_by : (es : List TreeEntry) (o : Option ℕ) → is_error Missing (refused_in (open_refusal Own) es o) ≡ true → is_some o ≡ false
  absent_by es (Some folder) h = cc
  absent_by es None h = refl

  -- of the activation lock this isn't so: the folder may stand without its file
  pub miss_says : (spot : Spot) → is_allowed s (event me (Open spot Own) (Refused Missing 0)) ≡ true → MissSays s me spot
  miss_says spot allowed = record {
    living = allowed_step (Open spot Own) (Refused Missing 0) allowed;
    absent = absent_by s.entries (folder_at s.namespace spot) (allowed_reply (Open spot Own) (Refused Missing 0) allowed);
  }

  unlocked_by : (b a : Bool) → (not (is_some (cond b (Some Locked) None)) && a) ≡ true → b ≡ false
  unlocked_by true a h = cc
  unlocked_by false a h = refl

  pub lock_says : (handle : Handle) (mode : Mode) → is_allowed s (event me (TryLock handle mode) Done) ≡ true → LockSays s me handle mode false
  lock_says handle mode allowed = record {
    living = allowed_step (TryLock handle mode) Done allowed;
    told = unlocked_by (is_locked s.namespace me handle mode) true (allowed_reply (TryLock handle mode) Done allowed);
  }

  locked_by : (b : Bool) → is_error Locked (cond b (Some Locked) None) ≡ true → b ≡ true
  locked_by true h = refl
  locked_by false h = cc

  pub held_says : (handle : Handle) (mode : Mode) → is_allowed s (event me (TryLock handle mode) (Refused Locked 0)) ≡ true → LockSays s me handle mode true
  held_says handle mode allowed = record {
    living = allowed_step (TryLock handle mode) (Refused Locked 0) allowed;
    told = locked_by (is_locked s.namespace me handle mode) (allowed_reply (TryLock handle mode) (Refused Locked 0) allowed);
  }

-- who took the step might, and its reply was the state's: of an event
pub allowed_parts : (s : DirState) (e : Event) → is_allowed s e ≡ true → (may_step s e.process e.request ≡ true) × (is_reply s e.process e.request e.reply ≡ true)
allowed_parts s e allowed = (allowed_step s e.process e.request e.reply allowed, allowed_reply s e.process e.request e.reply allowed)
