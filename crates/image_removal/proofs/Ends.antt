-- What the parts of a removal and of a sweep come to.
use Rattle.std.proofs.Common.{◌≡◌, inl, inr, ℕ, Bool, true, false, ◌||◌, List, Result, Ok, Err, refl, subst, ◌∙◌, arith}
use Rattle.ac_types.specs.declared.store_key.StoreKey.{StoreKey}
use Rattle.dir_model.specs.declared.area.Area.TheVariants.{Images, Removed}
use Rattle.dir_model.specs.declared.event.Event.{Event}
use Rattle.dir_model.specs.declared.opening.Target.TheVariants.{Own}
use Rattle.dir_model.specs.declared.pod.PodId.{PodId}
use Rattle.dir_model.specs.declared.spot.Handle.{Handle}
use Rattle.dir_model.specs.declared.spot.Mode.TheVariants.{Exclusive}
use Rattle.dir_model.specs.declared.spot.Spot.{Spot}
use Rattle.dir_model.specs.declared.spot.Which.TheVariants as which
use Rattle.dir_model.specs.declared.request.DirError.{DirError}
use Rattle.dir_model.specs.declared.request.Request.{Request}
use Rattle.dir_model.specs.declared.request.Request.TheVariants.{MoveFolder, Open, Close, RemoveFolder}
use Rattle.dir_model.specs.declared.request.Reply.TheVariants.{Done, Opened, Refused}
use Rattle.dir_model.specs.State.{DirState, spot_eq}
use Rattle.dir_model.specs.Local.{IsUnopened}
use Rattle.dir_model.specs.Replies.{done_reply}
use Rattle.dir_model.specs.Calls.{Extends}
use Rattle.dir_model.proofs.Chains.{nothing_yet, and_call}
use Rattle.dir_model.proofs.Holdings.{closed_by}
use Rattle.dir_model.proofs.Lists.{and_both, or_last}
use Rattle.dir_model.proofs.Moments.{at_after, at_before}
use Rattle.dir_model.proofs.Spots.{spot_self}
use Rattle.dir_trait.specs.DirCalls.{DirAt, DirCall}
use Rattle.dir_trait.specs.Effects.{OnlyAsks}
use Rattle.folder_building.specs.Work.{either}
use Rattle.folder_building.proofs.Working.{worked_call}
use Rattle.folder_removal.specs.Removal.{asks_deletion_at, EndsRemoved}
use Rattle.dir_files.specs.AreaLocks.{is_taking_area}
use Rattle.image_reading.specs.Places.{image_spot}
use Rattle.image_removal.specs.Requests.{away_spot, puts_away, locks_one, looks_at_folder, moves_folder, deletes_away, removes_at}
use Rattle.image_removal.specs.Calls.{WasCalled}
use Rattle.image_removal.specs.Removals.{IsGone, IsGoneUnless, IsRemovedBetween}
use Rattle.image_removal.proofs.Times.{called_self, called_after, called_before}
use Rattle.image_removal.proofs.Locked.{takes_first, takes_second}

-- a look
pub worked_look : {observed : Bool} {old mid new : DirAt} (spot : Spot) (h : Handle) → IsUnopened old.local h → DirCall observed old (Open spot which.Own) (Opened h) mid
    → DirCall observed mid (Close h) Done new → OnlyAsks observed (looks_at_folder spot) old new
worked_look {observed} {old} {mid} {new} spot h unopened x y = record {
  same = y.same ∙ x.same;
  faults = omega (arith, x.faults, y.faults);
  local = closed_by h (Own spot) unopened x.local y.local;
  extends = λ t. and_call (and_call nothing_yet refl (spot_self spot) (x.step t)) x.same refl (y.step t);
}

pub worked_miss : {observed : Bool} {old new : DirAt} (spot : Spot) (e : DirError) → DirCall observed old (Open spot which.Own) (Refused e 0) new → OnlyAsks observed (looks_at_folder spot) old new
worked_miss spot e x = worked_call (spot_self spot) refl x

-- a move
pub worked_move : {observed : Bool} {old new : DirAt} (from to : Spot) (answer : Result (Unit {0}) DirError) → DirCall observed old (MoveFolder from to) (done_reply answer) new
    → OnlyAsks observed (moves_folder from to) old new
worked_move from to (Ok done) c = worked_call (and_both (spot_eq from from) (spot_eq to to) (spot_self from) (spot_self to)) refl c
worked_move from to (Err error) c = worked_call (and_both (spot_eq from from) (spot_eq to to) (spot_self from) (spot_self to)) refl c

-- what each part asks for is among a removal's requests
module _ (key : StoreKey) (draw : PodId) where
  pub images_remove : (r : Request) → is_taking_area Images Exclusive r ≡ true → removes_at key draw r ≡ true
  images_remove r is = rw (takes_first Images Removed r is) refl

  pub moves_remove : (r : Request) → moves_folder (image_spot key) (away_spot draw) r ≡ true → removes_at key draw r ≡ true
  moves_remove r is = or_last (locks_one Images Removed r) (moves_folder (image_spot key) (away_spot draw) r || (looks_at_folder (away_spot draw) r || asks_deletion_at (away_spot draw) r)) (rw is refl)

  pub away_remove : (r : Request) → deletes_away draw r ≡ true → removes_at key draw r ≡ true
  away_remove r is = by (is_taking_area Removed Exclusive r) (looks_at_folder (away_spot draw) r || asks_deletion_at (away_spot draw) r) refl refl is
    where
      by : (b d : Bool) → is_taking_area Removed Exclusive r ≡ b → (looks_at_folder (away_spot draw) r || asks_deletion_at (away_spot draw) r) ≡ d → (b || d) ≡ true → removes_at key draw r ≡ true
      by true d lock work h = rw (takes_second Images Removed r lock) refl
      by false d lock work h = or_last (locks_one Images Removed r) (moves_folder (image_spot key) (away_spot draw) r || (looks_at_folder (away_spot draw) r || asks_deletion_at (away_spot draw) r))
          (or_last (moves_folder (image_spot key) (away_spot draw) r) (looks_at_folder (away_spot draw) r || asks_deletion_at (away_spot draw) r) (work ∙ h))

pub lock_away : (draw : PodId) (r : Request) → is_taking_area Removed Exclusive r ≡ true → deletes_away draw r ≡ true
lock_away draw r is = rw is refl

pub work_away : (draw : PodId) (r : Request) → either (looks_at_folder (away_spot draw)) (asks_deletion_at (away_spot draw)) r ≡ true → deletes_away draw r ≡ true
work_away draw r is = or_last (is_taking_area Removed Exclusive r) (looks_at_folder (away_spot draw) r || asks_deletion_at (away_spot draw) r) is

-- a deletion
pub was_deleted : (spot : Spot) (old new : DirAt) → EndsRemoved spot old new → WasCalled (RemoveFolder spot) Done old.process old.trace new.trace
was_deleted spot old new w = called_after w.first refl (called_self w.last)

-- where the folder is gone in a part of the time, it is in the whole
pub gone_after : {asks : Request → Bool} {spot : Spot} {me other : ℕ} {a b c : List Event} → Extends asks me a b → other ≡ me → IsGone spot other b c → IsGone spot me a c
gone_after ab same (inl called) = inl (called_after ab same called)
gone_after ab same (inr at) = inr (at_after ab same at)

pub gone_before : {asks : Request → Bool} {spot : Spot} {me other : ℕ} {a b c : List Event} → IsGone spot me a b → other ≡ me → Extends asks other b c → IsGone spot me a c
gone_before (inl called) same bc = inl (called_before called bc)
gone_before (inr at) same bc = inr (at_before at same bc)

-- the move, and then the deletion
pub is_removed : (key : StoreKey) (draw : PodId) (a b c : DirAt) (Busy : DirState → Type 0) → b.process ≡ a.process → WasCalled (puts_away key draw) Done a.process a.trace b.trace
    → IsGoneUnless Busy (away_spot draw) b.process b.trace c.trace → IsRemovedBetween Busy key draw a c
is_removed key draw a b c Busy same moved gone = record {
  between = b.trace;
  moved = moved;
  gone = subst (λ (me : ℕ). IsGoneUnless Busy (away_spot draw) me b.trace c.trace) same gone;
}
