-- What the refusals of the parts rest on.
use Rattle.std.proofs.Common.{◌≡◌, ◌≤◌, inl, inr, ℕ, Bool, true, false, cond, Option, Some, None, is_some, List, Ok, IfOk, IfErr, refl, sym, ap, subst, ◌∙◌}
use Rattle.ac_types.specs.declared.store_key.StoreKey.{StoreKey}
use Rattle.dir_model.specs.declared.area.Area.{Area}
use Rattle.dir_model.specs.declared.area.Area.TheVariants.{Images}
use Rattle.dir_model.specs.declared.event.Event.{Event}
use Rattle.dir_model.specs.declared.pod.PodId.{PodId}
use Rattle.dir_model.specs.declared.spot.Mode.TheVariants.{Exclusive}
use Rattle.dir_model.specs.declared.spot.Spot.{Spot}
use Rattle.dir_model.specs.declared.spot.Which.TheVariants as which
use Rattle.dir_model.specs.declared.request.DirError.{DirError}
use Rattle.dir_model.specs.declared.request.DirError.TheVariants.{Missing, Exists, NotEmpty, Locked, Failed}
use Rattle.dir_model.specs.declared.request.DirError.TheVariants as dir
use Rattle.dir_model.specs.declared.request.Request.{Request}
use Rattle.dir_model.specs.declared.request.Request.TheVariants.{MoveFolder, Open, ListArea}
use Rattle.dir_model.specs.declared.request.Reply.{Reply}
use Rattle.dir_model.specs.declared.request.Reply.TheVariants.{Done, Refused}
use Rattle.dir_model.specs.Causes.{Rose}
use Rattle.dir_model.specs.State.{folder_at, stands}
use Rattle.dir_model.specs.Replies.{may_refuse, is_error}
use Rattle.dir_model.specs.Calls.{CallStep, Extends}
use Rattle.dir_model.proofs.Allowed.{allowed_reply}
use Rattle.dir_model.proofs.Moments.{missed, step_at}
use Rattle.dir_laws.proofs.Rose.{rose_later, rose_still}
use Rattle.dir_trait.specs.DirCalls.{DirAt, DirCall, HeldBetween, ExtendsBy}
use Rattle.dir_files.specs.declared.lock_error.LockError.{LockError}
use Rattle.dir_files.specs.declared.lock_error.LockError.TheVariants as lock
use Rattle.dir_files.specs.AreaLocks.{is_taking_area, IsBusy, IsBusyElsewhere}
use Rattle.folder_building.proofs.Following.{Follows}
use Rattle.folder_removal.specs.declared.error.DeleteError.{DeleteError}
use Rattle.folder_removal.specs.declared.error.DeleteError.TheVariants as delete
use Rattle.folder_removal.specs.Removal.{is_stray_deletion, EndsWithStrayDeletion}
use Rattle.image_reading.specs.declared.error.StoreError.{StoreError}
use Rattle.image_reading.specs.declared.error.StoreError.TheVariants.{Busy, NoImage, DirFault, NoMemory, Stray}
use Rattle.image_reading.specs.Places.{image_spot, IsImageAbsent}
use Rattle.image_removal.specs.Requests.{incoming_spot, removed_spot, away_spot, puts_away, is_stray_removal}
use Rattle.image_removal.specs.Causes.{lock_refusal, lock_free, change_refusal, look_answer, move_refusal, delete_refusal, is_removal_work_refusal}
use Rattle.image_removal.specs.Causes.{is_fault_refusal, is_move_refusal, is_remove_refusal, WasStrayRemoval, RemovalWorkCause, WasTold, MoveCause, ImageRemovalCause, RemovalBusyElsewhere}
use Rattle.image_removal.specs.Calls.{WasCalled}
use Rattle.image_removal.proofs.Times.{called_self, called_after, called_before, due_of}

-- a lock that wasn't had
pub lock_removing : {observed : Bool} {key : StoreKey} {draw : PodId} {old new : DirAt} (e : LockError) → (e ≡ lock.DirFault → Rose old.faults new.faults)
    → (e ≡ lock.Busy → observed ≡ true → HeldBetween old new (IsBusy Images Exclusive)) → (observed ≡ true → ExtendsBy (is_taking_area Images Exclusive) old new)
    → ImageRemovalCause observed key draw (lock_refusal Images e) old new
lock_removing {observed} {key} {draw} {old} {new} lock.Busy fault busy only = record {
  kind = refl;
  fault = λ is. cc;
  busy = λ area is. (cc, λ t. record { busy = busy refl t; only = only t });
  absent = λ other is. cc;
  stray = λ is. cc;
}
lock_removing {observed} {key} {draw} {old} {new} lock.DirFault fault busy only = record { kind = refl; fault = λ is. fault refl; busy = λ area is. cc; absent = λ other is. cc; stray = λ is. cc }
lock_removing {observed} {key} {draw} {old} {new} lock.NoMemory fault busy only = record { kind = refl; fault = λ is. cc; busy = λ area is. cc; absent = λ other is. cc; stray = λ is. cc }

lock_is_busy : (area here : Area) (e : LockError) → lock_refusal area e ≡ Busy here → (e ≡ lock.Busy) × (area ≡ here)
lock_is_busy area here lock.Busy is = (refl, cc)
lock_is_busy area here lock.DirFault is = cc
lock_is_busy area here lock.NoMemory is = cc

pub lock_elsewhere : (old new : DirAt) (area : Area) (e : LockError) → (e ≡ lock.Busy → HeldBetween old new (IsBusyElsewhere old.process area Exclusive))
    → RemovalBusyElsewhere (lock_refusal area e) old new
lock_elsewhere old new area e busy here is = let b = lock_is_busy area here e is in subst (λ (a : Area). HeldBetween old new (IsBusyElsewhere old.process a Exclusive)) b.1 (busy b.0)

-- nothing but a lock is busy
pub move_never_busy : (old new : DirAt) (e : StoreError) → is_move_refusal e ≡ true → RemovalBusyElsewhere e old new
move_never_busy old new e kind area is = let clash : false ≡ true = sym (ap is_move_refusal is) ∙ kind in cc

pub work_never_busy : (old new : DirAt) (e : StoreError) → is_removal_work_refusal e ≡ true → RemovalBusyElsewhere e old new
work_never_busy old new e kind area is = let clash : false ≡ true = sym (ap is_removal_work_refusal is) ∙ kind in cc

-- where the lock of removed wasn't had
pub free_cause : (observed : Bool) (old new : DirAt) (e : LockError) → (e ≡ lock.DirFault → Rose old.faults new.faults) → IfErr (lock_free e) (λ x. RemovalWorkCause observed x old new)
free_cause observed old new lock.Busy fault = tt
free_cause observed old new lock.DirFault fault = record { kind = refl; fault = λ is. fault refl; stray = λ is. cc }
free_cause observed old new lock.NoMemory fault = record { kind = refl; fault = λ is. cc; stray = λ is. cc }

pub free_busy : (P : Type 0) (e : LockError) → (e ≡ lock.Busy → P) → IfOk (lock_free e) (λ done. P)
free_busy P lock.Busy busy = busy refl
free_busy P lock.DirFault busy = tt
free_busy P lock.NoMemory busy = tt

pub fault_cause : {observed : Bool} {old new : DirAt} (e : StoreError) → is_fault_refusal e ≡ true → (e ≡ DirFault → Rose old.faults new.faults) → RemovalWorkCause observed e old new
fault_cause DirFault kind fault = record { kind = refl; fault = fault; stray = λ is. cc }
fault_cause NoMemory kind fault = record { kind = refl; fault = λ is. cc; stray = λ is. cc }
fault_cause e kind fault = cc

-- a move that was refused
work_fault : (e : DirError) → change_refusal e ≡ DirFault → e ≡ Failed
work_fault Failed is = refl
work_fault dir.NoMemory is = cc
work_fault e is = cc

work_kind : (e : DirError) → is_removal_work_refusal (change_refusal e) ≡ true
work_kind Failed = refl
work_kind dir.NoMemory = refl
work_kind e = refl

module _ (name : List ℕ) where
  abbrev Sweeps : Request
  Sweeps = MoveFolder (incoming_spot name) (removed_spot name)

  sweep_stray : (e : DirError) → may_refuse Sweeps e ≡ true → change_refusal e ≡ Stray → is_stray_removal Sweeps (Refused e 0) ≡ true
  sweep_stray Missing may is = refl
  sweep_stray Exists may is = refl
  sweep_stray Failed may is = cc
  sweep_stray dir.NoMemory may is = cc
  sweep_stray e may is = cc

  pub sweep_cause : {observed : Bool} {old new : DirAt} (e : DirError) → may_refuse Sweeps e ≡ true → (e ≡ Failed → Rose old.faults new.faults)
      → DirCall observed old Sweeps (Refused e 0) new → RemovalWorkCause observed (change_refusal e) old new
  sweep_cause e may fault c = record {
    kind = work_kind e;
    fault = λ is. fault (work_fault e is);
    stray = λ is t. record { request = Sweeps; reply = Refused e 0; stray = sweep_stray e may is; due = tt; called = called_self (c.step t) };
  }

-- a listing of an area that was refused
pub listing_cause : {observed : Bool} {old new : DirAt} (area : Area) (e : DirError) → may_refuse (ListArea area) e ≡ true → (e ≡ Failed → Rose old.faults new.faults)
    → RemovalWorkCause observed (change_refusal e) old new
listing_cause area Failed may fault = record { kind = refl; fault = λ is. fault refl; stray = λ is. cc }
listing_cause area dir.NoMemory may fault = record { kind = refl; fault = λ is. cc; stray = λ is. cc }
listing_cause area Missing may fault = cc
listing_cause area Exists may fault = cc
listing_cause area NotEmpty may fault = cc
listing_cause area Locked may fault = cc

-- of an image
absent_by : (o : Option ℕ) (b : Bool) → is_error Missing (cond (is_some o) (cond b (Some Exists) None) (Some Missing)) ≡ true → o ≡ None
absent_by None b h = refl
absent_by (Some folder) true h = cc
absent_by (Some folder) false h = cc

module _ (key : StoreKey) (draw : PodId) where
  told_none : {me : ℕ} {old new : List Event} → CallStep me old (puts_away key draw) (Refused Missing 0) new → WasTold key draw me old new
  told_none {me} {old} {new} s = record {
    told = s;
    absent = step_at me old (puts_away key draw) (Refused Missing 0) new (IsImageAbsent key) refl refl
        (λ state allowed. absent_by (folder_at state.namespace (image_spot key)) (stands state.namespace (away_spot draw))
        (allowed_reply state me (puts_away key draw) (Refused Missing 0) allowed)) s;
  }

  move_kind : (e : DirError) → is_move_refusal (move_refusal key e) ≡ true
  move_kind Missing = refl
  move_kind Failed = refl
  move_kind dir.NoMemory = refl
  move_kind Exists = refl
  move_kind NotEmpty = refl
  move_kind Locked = refl

  move_fault : (e : DirError) → move_refusal key e ≡ DirFault → e ≡ Failed
  move_fault Failed is = refl
  move_fault Missing is = cc
  move_fault Exists is = cc
  move_fault NotEmpty is = cc
  move_fault Locked is = cc
  move_fault dir.NoMemory is = cc

  move_absent : (e : DirError) (other : StoreKey) → move_refusal key e ≡ NoImage other → (e ≡ Missing) × (other ≡ key)
  move_absent Missing other is = (refl, cc)
  move_absent Failed other is = cc
  move_absent Exists other is = cc
  move_absent NotEmpty other is = cc
  move_absent Locked other is = cc
  move_absent dir.NoMemory other is = cc

  move_stray : (e : DirError) → may_refuse (puts_away key draw) e ≡ true → move_refusal key e ≡ Stray → e ≡ Exists
  move_stray Exists may is = refl
  move_stray Missing may is = cc
  move_stray Failed may is = cc
  move_stray NotEmpty may is = cc
  move_stray Locked may is = cc
  move_stray dir.NoMemory may is = cc

  pub move_cause : {observed : Bool} {old new : DirAt} (e : DirError) → may_refuse (puts_away key draw) e ≡ true → (e ≡ Failed → Rose old.faults new.faults)
      → DirCall observed old (puts_away key draw) (Refused e 0) new → MoveCause observed key draw (move_refusal key e) old new
  move_cause {observed} {old} {new} e may fault c = record {
    kind = move_kind e;
    fault = λ is. fault (move_fault e is);
    absent = λ other is.
        let b = move_absent e other is in
        (b.1, λ t. told_none (subst (λ (x : DirError). CallStep old.process old.trace (puts_away key draw) (Refused x 0) new.trace) b.0 (c.step t)));
    stray = λ is t. called_self (subst (λ (x : DirError). CallStep old.process old.trace (puts_away key draw) (Refused x 0) new.trace) (move_stray e may is) (c.step t));
  }

  pub memory_cause : {observed : Bool} {old : DirAt} (e : StoreError) → e ≡ NoMemory → MoveCause observed key draw e old old
  memory_cause {observed} {old} e is = subst (λ (x : StoreError). MoveCause observed key draw x old old) (sym is)
      (record { kind = refl; fault = λ h. cc; absent = λ other h. cc; stray = λ h. cc })

  -- around it the lock was taken and given up
  pub move_removing : {observed : Bool} {a b c d : DirAt} (e : StoreError) → b.process ≡ a.process → a.faults ≤ b.faults
      → (observed ≡ true → ExtendsBy (is_taking_area Images Exclusive) a b) → c.process ≡ b.process
      → c.faults ≤ d.faults → (observed ≡ true → ExtendsBy (is_taking_area Images Exclusive) c d) → MoveCause observed key draw e b c → ImageRemovalCause observed key draw e a d
  move_removing {observed} {a} {b} {c} {d} e ab_same ab_faults ab bc_same cd_faults cd m = record {
    kind = kind e m.kind;
    fault = λ is. rose_later a.faults b.faults d.faults ab_faults (rose_still b.faults c.faults d.faults (m.fault is) cd_faults);
    busy = λ area is. let clash : false ≡ true = sym (ap is_move_refusal is) ∙ m.kind in cc;
    absent = λ other is. (
      (m.absent other is).0,
      λ t. record {
        before = b.trace;
        after = c.trace;
        first = ab t;
        told = subst (λ (me : ℕ). WasTold key draw me b.trace c.trace) ab_same ((m.absent other is).1 t);
        last = subst (λ (me : ℕ). Extends (is_taking_area Images Exclusive) me c.trace d.trace) (bc_same ∙ ab_same) (cd t);
      },
    );
    stray = λ is t. inl (called_after (ab t) ab_same (called_before (m.stray is t) (cd t)));
  }
    where
      kind : (e : StoreError) → is_move_refusal e ≡ true → is_remove_refusal e ≡ true
      kind (Busy area) h = refl
      kind (NoImage other) h = refl
      kind DirFault h = refl
      kind NoMemory h = refl
      kind Stray h = refl
      kind e h = cc

  -- what came after the move
  pub work_removing : {observed : Bool} {a b c : DirAt} (e : StoreError) → Follows observed a b → (observed ≡ true → WasCalled (puts_away key draw) Done a.process a.trace b.trace) → RemovalWorkCause observed e b c → ImageRemovalCause observed key draw e a c
  work_removing {observed} {a} {b} {c} e ab moved w = record {
    kind = kind e w.kind;
    fault = λ is. rose_later a.faults b.faults c.faults ab.faults (w.fault is);
    busy = λ area is. let clash : false ≡ true = sym (ap is_removal_work_refusal is) ∙ w.kind in cc;
    absent = λ other is. let clash : false ≡ true = sym (ap is_removal_work_refusal is) ∙ w.kind in cc;
    stray = λ is t. inr (record { between = b.trace; moved = moved t; stray = subst (λ (p : ℕ). WasStrayRemoval p b.trace c.trace) ab.same (w.stray is t) });
  }
    where
      kind : (e : StoreError) → is_removal_work_refusal e ≡ true → is_remove_refusal e ≡ true
      kind DirFault h = refl
      kind NoMemory h = refl
      kind Stray h = refl
      kind e h = cc

-- a deletion
stray_more : (request : Request) (reply : Reply) → is_stray_deletion request reply ≡ true → is_stray_removal request reply ≡ true
stray_more (MoveFolder from to) reply is = cc
stray_more request reply is = is

pub delete_cause : {observed : Bool} {old new : DirAt} (spot : Spot) (e : DeleteError) → (e ≡ delete.DirFault → Rose old.faults new.faults)
    → (e ≡ delete.Stray → observed ≡ true → EndsWithStrayDeletion spot old new) → RemovalWorkCause observed (delete_refusal e) old new
delete_cause {observed} {old} {new} spot delete.DirFault fault stray = record { kind = refl; fault = λ is. fault refl; stray = λ is. cc }
delete_cause {observed} {old} {new} spot delete.NoMemory fault stray = record { kind = refl; fault = λ is. cc; stray = λ is. cc }
delete_cause {observed} {old} {new} spot delete.Stray fault stray = record {
  kind = refl;
  fault = λ is. cc;
  stray = λ is t.
      let w = stray refl t in
      record { request = w.request; reply = w.reply; stray = stray_more w.request w.reply w.stray; due = due_of spot w.request w.reply old.process old.trace w.before new.trace w.last w.called; called = called_after w.first refl (called_self w.last) };
}

-- a look that found nothing
pub look_absent : {observed : Bool} {old new : DirAt} {spot : Spot} (e : DirError) → look_answer e ≡ Ok false → observed ≡ true
    → DirCall observed old (Open spot which.Own) (Refused e 0) new → HeldBetween old new (λ s. stands s.namespace spot ≡ false)
look_absent {observed} {old} {new} {spot} Missing is t c = missed old.process old.trace spot new.trace (c.step t)
look_absent Failed is t c = cc
look_absent dir.NoMemory is t c = cc
look_absent Exists is t c = cc
look_absent NotEmpty is t c = cc
look_absent Locked is t c = cc
