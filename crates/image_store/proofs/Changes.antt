-- The make of the folder and its move: what they leave, and what their refusals rest on.
use Rattle.std.proofs.Common.{◌≡◌, ◌⊎◌, ℕ, Bool, true, false, ◌||◌, Some, None, Result, Ok, Err, IfErr, List, [], refl, sym, ap, subst, append-nil, inl, inr}
use Rattle.dir_model.specs.declared.event.Event.{Event}
use Rattle.dir_model.specs.declared.pod.PodId.{PodId}
use Rattle.dir_model.specs.declared.spot.Spot.{Spot}
use Rattle.dir_model.specs.declared.request.DirError.{DirError}
use Rattle.dir_model.specs.declared.request.DirError.TheVariants.{Missing, Exists, NotEmpty, Locked, Failed}
use Rattle.dir_model.specs.declared.request.DirError.TheVariants as dir
use Rattle.dir_model.specs.declared.request.Reply.{Reply}
use Rattle.dir_model.specs.declared.request.Reply.TheVariants.{Done, Refused}
use Rattle.dir_model.specs.declared.request.Request.{Request}
use Rattle.dir_model.specs.declared.request.Request.TheVariants.{MakeFolder, MoveFolder, MakeDirIn, MakeFileIn, AppendIn, SyncIn}
use Rattle.dir_model.specs.Causes.{Rose}
use Rattle.dir_model.specs.Calls.{TookPlace, LeftNothing, CallStep}
use Rattle.dir_model.specs.Replies.{may_refuse, done_reply}
use Rattle.dir_model.specs.State.{spot_eq}
use Rattle.dir_model.specs.declared.area.Area.TheVariants.{Incoming}
use Rattle.dir_model.proofs.Lists.{and_both}
use Rattle.dir_model.proofs.Spots.{spot_self}
use Rattle.dir_rules.specs.Standing.{is_in}
use Rattle.folder_contents.proofs.Spots.{one_location}
use Rattle.dir_rules.specs.declared.seen.Entry.{Entry}
use Rattle.dir_rules.specs.declared.seen.Seen.{Seen}
use Rattle.dir_rules.specs.Conforms.{IsTied}
use Rattle.dir_rules.proofs.Tied.{tied_meanwhile}
use Rattle.dir_trait.specs.DirCalls.{DirAt, DirCall}
use Rattle.dir_trait.specs.Knowledge.{Knows}
use Rattle.dir_trait.proofs.Knowing.{knows_call}
use Rattle.dir_trait.specs.Effects.{OnlyAsks}
use Rattle.ac_types.specs.declared.store_key.StoreKey.{StoreKey}
use Rattle.folder_building.specs.Work.{EndsWithStrayBuilding, either, builds_at, is_stray_building}
use Rattle.folder_building.proofs.Working.{worked_call}
use Rattle.image_reading.specs.declared.error.StoreError.TheVariants.{DirFault, Stray}
use Rattle.image_reading.specs.Places.{image_spot}
use Rattle.image_reading.specs.Within.{Within}
use Rattle.image_reading.proofs.Widths.{within_self}
use Rattle.image_store.specs.Refusals.{change_refusal, move_answer, is_change_refusal}
use Rattle.image_store.specs.Requests.{building_spot, imports_at, makes_image, is_of_incoming, is_stray_reply}
use Rattle.image_store.specs.Work.{seen_importing, UnderImportLocks, WhereImporting, WhereImportFilled, holding, HasImportFolder, HasMovedImage, IsImagePlaced, Unbrought}
use Rattle.image_store.specs.Causes.{WasLastAnswered, WasStrayImport, KeyWasTaken, ChangeCause}
use Rattle.image_store.proofs.Steps.{made_seen, unmade_seen, moved_seen, unmoved_seen}

asks_make : (spot : Spot) → makes_image spot (MakeFolder spot) ≡ true
asks_make spot = rw (spot_self spot) refl

asks_move : (spot : Spot) (key : StoreKey) → imports_at spot (MoveFolder spot (image_spot key)) ≡ true
asks_move spot key = rw (spot_self spot) refl

pub worked_make : {observed : Bool} {spot : Spot} {old new : DirAt} (answer : Result (Unit {0}) DirError) → DirCall observed old (MakeFolder spot) (done_reply answer) new → OnlyAsks observed (makes_image spot) old new
worked_make {observed} {spot} (Ok done) c = worked_call (asks_make spot) refl c
worked_make {observed} {spot} (Err error) c = worked_call (asks_make spot) refl c

pub worked_move : {observed : Bool} {spot : Spot} {old new : DirAt} (key : StoreKey) (answer : Result (Unit {0}) DirError) → DirCall observed old (MoveFolder spot (image_spot key)) (done_reply answer) new → OnlyAsks observed (imports_at spot) old new
worked_move {observed} {spot} key (Ok done) c = worked_call (asks_move spot key) refl c
worked_move {observed} {spot} key (Err error) c = worked_call (asks_move spot key) refl c

-- an answer that the folder doesn't explain
answered : {is : Request → Reply → Bool} {old new : DirAt} {request : Request} {reply : Reply} → is request reply ≡ true → CallStep old.process old.trace request reply new.trace → Within (WasLastAnswered is) old new
answered {is} {old} {new} {request} {reply} so step = within_self (record { request = request; reply = reply; so = so; step = step })

stray_more : (request : Request) (reply : Reply) → is_stray_building request reply ≡ true → is_stray_reply request reply ≡ true
stray_more (MakeFolder spot) reply is = cc
stray_more (MoveFolder from to) reply is = cc
stray_more request reply is = is

in_incoming : (draw : PodId) (spot : Spot) → spot_eq spot (building_spot draw) ≡ true → is_in Incoming spot.area ≡ true
in_incoming draw spot is = subst (λ (s : Spot). is_in Incoming s.area ≡ true) (sym (one_location spot (building_spot draw) is)) refl

-- of a request that changes the folder
builds_there : (draw : PodId) (request : Request) → either (builds_at (building_spot draw)) (λ r. false) request ≡ true → is_of_incoming request ≡ true
builds_there draw request is = by request (or_none_right (builds_at (building_spot draw) request) is)
  where
    or_none_right : (b : Bool) → (b || false) ≡ true → b ≡ true
    or_none_right true h = refl
    or_none_right false h = h

    by : (request : Request) → builds_at (building_spot draw) request ≡ true → is_of_incoming request ≡ true
    by (MakeDirIn inner) h = in_incoming draw inner.spot h
    by (MakeFileIn inner) h = in_incoming draw inner.spot h
    by (AppendIn inner piece) h = in_incoming draw inner.spot h
    by (SyncIn inner) h = in_incoming draw inner.spot h
    by request h = cc

pub was_stray : (draw : PodId) {spot : Spot} {old new : DirAt} → spot ≡ building_spot draw → EndsWithStrayBuilding (either (builds_at spot) (λ r. false)) old new → WasStrayImport old new
was_stray draw {spot} {old} {new} at e =
    let w = subst (λ (s : Spot). EndsWithStrayBuilding (either (builds_at s) (λ r. false)) old new) at e in record {
      first = record old { trace = w.before };
      last = new;
      earlier = w.first.more;
      later = [];
      same = refl;
      begins = w.first.grown;
      ends = sym (append-nil new.trace);
      told = record { request = w.request; reply = w.reply; so = and_both (is_of_incoming w.request) (is_stray_reply w.request w.reply) (builds_there draw w.request w.asked) (stray_more w.request w.reply w.stray); step = w.last };
    }

change_kind : (e : DirError) → is_change_refusal (change_refusal e) ≡ true
change_kind Failed = refl
change_kind dir.NoMemory = refl
change_kind e = refl

change_fault : (e : DirError) → change_refusal e ≡ DirFault → e ≡ Failed
change_fault Failed is = refl
change_fault dir.NoMemory is = cc
change_fault e is = cc

stray_make : (spot : Spot) (e : DirError) → may_refuse (MakeFolder spot) e ≡ true → change_refusal e ≡ Stray → is_stray_reply (MakeFolder spot) (Refused e 0) ≡ true
stray_make spot Exists may is = refl
stray_make spot Failed may is = cc
stray_make spot dir.NoMemory may is = cc
stray_make spot e may is = cc

pub make_cause : {observed : Bool} {spot : Spot} {old new : DirAt} → spot.area ≡ Incoming → (e : DirError) → may_refuse (MakeFolder spot) e ≡ true → (e ≡ Failed → Rose old.faults new.faults) → DirCall observed old (MakeFolder spot) (Refused e 0) new → ChangeCause observed (change_refusal e) old new
make_cause {observed} {spot} at e may fault c = record {
  kind = change_kind e;
  fault = λ is. fault (change_fault e is);
  stray = λ is t. answered (and_both (is_in Incoming spot.area) (is_stray_reply (MakeFolder spot) (Refused e 0)) (ap (is_in Incoming) at) (stray_make spot e may is)) (c.step t);
}

-- what is known of the folder once it was made, or not
pub knows_made : {observed : Bool} {draw : PodId} {old new : DirAt} → observed ≡ true → DirCall observed old (MakeFolder (building_spot draw)) Done new → WhereImporting draw UnderImportLocks false None old (λ intent hs. Knows new (seen_importing intent hs true (Some (holding (building_spot draw) []))))
knows_made {observed} {draw} {old} {new} t c intent hs imports under k = subst (λ (s : Seen). Knows new s) (made_seen draw intent hs imports under) (knows_call t k refl refl c)

pub knows_unmade : {observed : Bool} {draw : PodId} {old new : DirAt} (e : DirError) → observed ≡ true → DirCall observed old (MakeFolder (building_spot draw)) (Refused e 0) new → WhereImporting draw UnderImportLocks false None old (λ intent hs. HasImportFolder draw intent hs new)
knows_unmade {observed} {draw} {old} {new} e t c intent hs imports under k = record {
  image_under_lock = false;
  making = None;
  own = tt;
  knows = subst (λ (s : Seen). Knows new s) (unmade_seen draw intent hs imports under e) (knows_call t k refl refl c);
}

-- the move that was answered Ok
pub moved_by : {me : ℕ} {from to : Spot} {old new : List Event} {s : Seen} (entries : List Entry) → s.making ≡ Some (holding from entries) → IsTied me old s → CallStep me old (MoveFolder from to) Done new → HasMovedImage (λ es. es ≡ entries) me from to old new
moved_by {me} {from} {to} {old} {new} {s} entries making tied c = by c.own
  where
    by : TookPlace c.before me (MoveFolder from to) Done new ⊎ LeftNothing c.before me (MoveFolder from to) Done new → HasMovedImage (λ es. es ≡ entries) me from to old new
    by (inl t) = record { before = c.before; later = []; meanwhile = c.meanwhile.others; begins = c.meanwhile.grown; moved = t.grown; seen = s; entries = entries; making = making; knew = tied_meanwhile tied c.meanwhile; made = refl }
    by (inr l) = let late = l.late in cc

pub placed_by : {observed : Bool} {draw : PodId} {old new : DirAt} (key : StoreKey) → observed ≡ true → DirCall observed old (MoveFolder (building_spot draw) (image_spot key)) Done new → WhereImportFilled draw old (λ intent hs entries. IsImagePlaced draw (image_spot key) intent hs entries old new)
placed_by {observed} {draw} {old} {new} key t c intent hs entries imports under k = record {
  knows = subst (λ (s : Seen). Knows new s) (moved_seen draw intent hs imports under entries (image_spot key) refl) (knows_call t k refl refl c);
  moved = moved_by entries refl k.tied (c.step t);
}

pub unplaced_by : {observed : Bool} {draw : PodId} {old new : DirAt} (key : StoreKey) (e : DirError) → observed ≡ true → DirCall observed old (MoveFolder (building_spot draw) (image_spot key)) (Refused e 0) new → WhereImportFilled draw old (λ intent hs entries. Knows new (seen_importing intent hs true (Some (holding (building_spot draw) entries))))
unplaced_by {observed} {draw} {old} {new} key e t c intent hs entries imports under k = subst (λ (s : Seen). Knows new s) (unmoved_seen draw intent hs imports under entries (image_spot key) refl e) (knows_call t k refl refl c)

stray_move : (from to : Spot) (e : DirError) → may_refuse (MoveFolder from to) e ≡ true → (e ≡ Exists → ⊥) → change_refusal e ≡ Stray → is_stray_reply (MoveFolder from to) (Refused e 0) ≡ true
stray_move from to Missing may other is = refl
stray_move from to Exists may other is = absurd (other refl)
stray_move from to Failed may other is = cc
stray_move from to dir.NoMemory may other is = cc
stray_move from to e may other is = cc

move_error : {observed : Bool} {from to : Spot} {old new : DirAt} → is_of_incoming (MoveFolder from to) ≡ true → (e : DirError) → may_refuse (MoveFolder from to) e ≡ true → (e ≡ Exists → ⊥) → (e ≡ Failed → Rose old.faults new.faults) → DirCall observed old (MoveFolder from to) (Refused e 0) new → ChangeCause observed (change_refusal e) old new
move_error {observed} {from} {to} at e may other fault c = record {
  kind = change_kind e;
  fault = λ is. fault (change_fault e is);
  stray = λ is t. answered (and_both (is_of_incoming (MoveFolder from to)) (is_stray_reply (MoveFolder from to) (Refused e 0)) at (stray_move from to e may other is)) (c.step t);
}

module _ (observed : Bool) (draw : PodId) (old new : DirAt) (key : StoreKey) where
  abbrev Refusal : DirError → Type 0
  Refusal e = DirCall observed old (MoveFolder (building_spot draw) (image_spot key)) (Refused e 0) new

  pub move_cause : (e : DirError) → may_refuse (MoveFolder (building_spot draw) (image_spot key)) e ≡ true → (e ≡ Failed → Rose old.faults new.faults) → Refusal e → IfErr (move_answer e) (λ x. ChangeCause observed x old new)
  move_cause Exists may fault c = tt
  move_cause Missing may fault c = move_error refl Missing may (λ is. cc) fault c
  move_cause NotEmpty may fault c = cc
  move_cause Locked may fault c = cc
  move_cause Failed may fault c = move_error refl Failed may (λ is. cc) fault c
  move_cause dir.NoMemory may fault c = move_error refl dir.NoMemory may (λ is. cc) fault c

  pub move_taken : (e : DirError) → Refusal e → move_answer e ≡ Ok true → observed ≡ true → KeyWasTaken key old new
  move_taken Exists c is t = record { request = MoveFolder (building_spot draw) (image_spot key); reply = Refused Exists 0; so = spot_self (image_spot key); step = c.step t }
  move_taken e c is t = cc

  pub move_unplaced : (e : DirError) → move_answer e ≡ Ok false → ⊥
  move_unplaced Exists is = cc
  move_unplaced e is = cc

  pub move_left : (e : DirError) → Refusal e → Unbrought (move_answer e) (observed ≡ true → WhereImportFilled draw old (λ intent hs entries. Knows new (seen_importing intent hs true (Some (holding (building_spot draw) entries)))))
  move_left Exists c = λ t. unplaced_by key Exists t c
  move_left e c = λ t. unplaced_by key e t c
