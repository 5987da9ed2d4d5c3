-- What the parts of the making leave open, one after the other.
use Rattle.std.proofs.Common.{◌≡◌, ◌≤◌, ◌==◌, Bool, true, false, IfOk, IfErr, IsErr, Result, Ok, Err, refl, ap, subst, ◌∙◌, arith}
use Rattle.dir_model.specs.declared.area.Area.{Area}
use Rattle.dir_model.specs.declared.area.Area.TheVariants.{Embryo}
use Rattle.dir_model.specs.declared.pod.PodId.{PodId}
use Rattle.dir_model.specs.declared.spot.Handle.{Handle}
use Rattle.dir_model.specs.declared.spot.Mode.TheVariants.{Shared, Exclusive}
use Rattle.dir_model.specs.declared.spot.Which.TheVariants as which
use Rattle.dir_model.specs.declared.opening.Target.TheVariants.{Own}
use Rattle.dir_model.specs.declared.request.DirError.{DirError}
use Rattle.dir_model.specs.declared.request.Reply.TheVariants.{Done, Opened, Refused}
use Rattle.dir_model.specs.declared.request.Request.{Request}
use Rattle.dir_model.specs.declared.request.Request.TheVariants.{OpenArea, Open, TryLock, Close}
use Rattle.dir_model.specs.Local.{Local, IsUnopened, without}
use Rattle.dir_model.proofs.Chains.{nothing_yet, and_call, and_more, extends_wider}
use Rattle.dir_model.proofs.Lists.{or_last}
use Rattle.dir_model.proofs.Holdings.{tried_by}
use Rattle.dir_model.proofs.Spots.{spot_self}
use Rattle.dir_trait.specs.DirCalls.{DirAt, DirCall, ExtendsBy}
use Rattle.dir_trait.specs.Effects.{OnlyAsks, LeavesOpen}
use Rattle.dir_files.specs.AreaLocks.{is_taking_area, closes, and_area_lock}
use Rattle.folder_building.proofs.Following.{Follows}
use Rattle.pod_build.specs.declared.make_error.MakeError.{MakeError}
use Rattle.dir_model.specs.Spots.{pod_spot}
use Rattle.pod_build.specs.MakingRequests.{begins_pod, fills_pod, hands_pod, finishes_pod, makes_pod}
use Rattle.pod_build.specs.Progress.{and_own, with_own}
use Rattle.pod_build.specs.Makings.{with_owned}
use Rattle.pod_locks.specs.declared.owned.Owned.{Owned}
use Rattle.pod_build.proofs.Locals.{locked_own, other_number, own_closed, gate_given_local}

-- the lock of embryo was had
pub record Shares (observed : Bool) (g : Handle) (old new : DirAt) : Type 0 where
  pub same : new.process ≡ old.process
  pub faults : old.faults ≤ new.faults
  pub held : new.local ≡ and_area_lock old.local g Embryo Shared
  pub unopened : IsUnopened old.local g
  pub extends : observed ≡ true → ExtendsBy (is_taking_area Embryo Shared) old new

-- and given back
pub record GivesBack (observed : Bool) (g : Handle) (old new : DirAt) : Type 0 where
  pub same : new.process ≡ old.process
  pub faultless : new.faults ≡ old.faults
  pub local : new.local ≡ without old.local g
  pub extends : observed ≡ true → ExtendsBy (closes g) old new

takes_begins : (draw : PodId) (request : Request) → is_taking_area Embryo Shared request ≡ true → begins_pod draw request ≡ true
takes_begins draw (OpenArea area) is = is
takes_begins draw (TryLock handle mode) is = refl
takes_begins draw (Close handle) is = refl
takes_begins draw request is = cc

closes_begins : (draw : PodId) (g : Handle) (request : Request) → closes g request ≡ true → begins_pod draw request ≡ true
closes_begins draw g (Close handle) is = refl
closes_begins draw g request is = cc

-- the lock of embryo was refused
pub went_refused : {observed : Bool} {a b : DirAt} (draw : PodId) → b.process ≡ a.process → a.faults ≤ b.faults → b.local ≡ a.local → (observed ≡ true → ExtendsBy (is_taking_area Embryo Shared) a b) → LeavesOpen observed (begins_pod draw) a.local a b
went_refused draw same faults local extends = record { same = same; faults = faults; local_is = local; extends = λ t. extends_wider (takes_begins draw) (extends t) }

-- work under that lock
pub went_under : {observed : Bool} {g : Handle} {a b c d : DirAt} (draw : PodId) (r : Result Handle MakeError) → Shares observed g a b → IfOk r (λ own. IsUnopened b.local own) → LeavesOpen observed (begins_pod draw) (with_own b.local draw r) b c → GivesBack observed g c d
    → LeavesOpen observed (begins_pod draw) (with_own a.local draw r) a d
went_under {observed} {g} {a} {b} {c} {d} draw r s fresh w back = record {
  same = back.same ∙ (w.same ∙ s.same);
  faults = omega (arith, s.faults, w.faults, back.faultless);
  local_is = gate_given_local a.local g draw r s.unopened (subst (λ (m : Local). IfOk r (λ own. IsUnopened m own)) s.held fresh) (w.local_is ∙ ap (λ (m : Local). with_own m draw r) s.held) back.local;
  extends = λ t. and_more (and_more (extends_wider (takes_begins draw) (s.extends t)) s.same (w.extends t)) (w.same ∙ s.same) (extends_wider (closes_begins draw g) (back.extends t));
}

pub held_is : {l : Local} (m : Local) (draw : PodId) (r : Result Handle MakeError) (h : Handle) → r ≡ Ok h → l ≡ with_own m draw r → l ≡ and_own m draw h
held_is m draw r h ok is = is ∙ ap (λ (q : Result Handle MakeError). with_own m draw q) ok

-- its own lock is given up
pub follows_close : {observed : Bool} {h : Handle} {a b : DirAt} → b.faults ≡ a.faults → DirCall observed a (Close h) Done b → Follows observed a b
follows_close faultless c = record { same = c.same; faults = c.faults; asks = λ r. true; extends = λ t. and_call nothing_yet refl refl (c.step t) }

pub went_closed : {observed : Bool} {h : Handle} {asks : Request → Bool} {l : Local} {a b c : DirAt} (draw : PodId) → asks (Close h) ≡ true → IsUnopened a.local h → LeavesOpen observed asks l a b → b.local ≡ and_own a.local draw h → DirCall observed b (Close h) Done c → LeavesOpen observed asks a.local a c
went_closed {observed} {h} {asks} {l} {a} {b} {c} draw asked unopened w held closing = record {
  same = closing.same ∙ w.same;
  faults = omega (arith, w.faults, closing.faults);
  local_is = own_closed a.local h draw unopened held closing.local;
  extends = λ t. and_call (w.extends t) w.same asked (closing.step t);
}

-- what is open after more work
pub went_worked : {observed : Bool} {asks : Request → Bool} {l : Local} {a b c : DirAt} → LeavesOpen observed asks l a b → OnlyAsks observed asks b c → LeavesOpen observed asks l a c
went_worked {observed} {asks} {l} {a} {b} {c} w x = record {
  same = x.same ∙ w.same;
  faults = omega (arith, w.faults, x.faults);
  local_is = x.local ∙ w.local_is;
  extends = λ t. and_more (w.extends t) w.same (x.extends t);
}

-- each part is among the whole
pub begins_makes : (draw : PodId) (to : Area) (r : Request) → begins_pod draw r ≡ true → makes_pod draw to r ≡ true
begins_makes draw to r is = rw is refl

pub finishes_makes : (draw : PodId) (to : Area) (r : Request) → finishes_pod draw to r ≡ true → makes_pod draw to r ≡ true
finishes_makes draw to r is = or_last (begins_pod draw r) (finishes_pod draw to r) is

pub fills_finishes : (draw : PodId) (to : Area) (r : Request) → fills_pod draw r ≡ true → finishes_pod draw to r ≡ true
fills_finishes draw to r is = or_last (hands_pod draw to r) (fills_pod draw r) is

pub hands_finishes : (draw : PodId) (to : Area) (r : Request) → hands_pod draw to r ≡ true → finishes_pod draw to r ≡ true
hands_finishes draw to r is = rw is refl

-- its own lock was opened and taken, or not
asks_open : (draw : PodId) → begins_pod draw (Open (pod_spot draw Embryo) which.Own) ≡ true
asks_open draw = spot_self (pod_spot draw Embryo)

module _ {observed : Bool} {old mid : DirAt} (draw : PodId) where
  pub went_locked : {new : DirAt} (h : Handle) → IsUnopened old.local h → DirCall observed old (Open (pod_spot draw Embryo) which.Own) (Opened h) mid → DirCall observed mid (TryLock h Exclusive) Done new → LeavesOpen observed (begins_pod draw) (and_own old.local draw h) old new
  went_locked {new} h unopened x y = record {
    same = y.same ∙ x.same;
    faults = omega (arith, x.faults, y.faults);
    local_is = locked_own old.local h draw unopened x.local y.local;
    extends = λ t. and_call (and_call nothing_yet refl (asks_open draw) (x.step t)) x.same refl (y.step t);
  }

  pub went_unlocked : {late new : DirAt} (h : Handle) (e : DirError) → IsUnopened old.local h → DirCall observed old (Open (pod_spot draw Embryo) which.Own) (Opened h) mid → DirCall observed mid (TryLock h Exclusive) (Refused e 0) late → DirCall observed late (Close h) Done new → LeavesOpen observed (begins_pod draw) old.local old new
  went_unlocked {late} {new} h e unopened x y z = record {
    same = z.same ∙ (y.same ∙ x.same);
    faults = omega (arith, x.faults, y.faults, z.faults);
    local_is = tried_by h (Own (pod_spot draw Embryo)) Exclusive (Err e) unopened x.local y.local z.local;
    extends = λ t. and_call (and_call (and_call nothing_yet refl (asks_open draw) (x.step t)) x.same refl (y.step t)) (y.same ∙ x.same) refl (z.step t);
  }

  pub went_unopened : (e : DirError) → DirCall observed old (Open (pod_spot draw Embryo) which.Own) (Refused e 0) mid → LeavesOpen observed (begins_pod draw) old.local old mid
  went_unopened e x = record { same = x.same; faults = x.faults; local_is = x.local; extends = λ t. and_call nothing_yet refl (asks_open draw) (x.step t) }

-- the same, by what the answer is
pub went_as : {observed : Bool} {asks : Request → Bool} {a b : DirAt} (m : Local) (draw : PodId) (r q : Result Handle MakeError) → r ≡ q → LeavesOpen observed asks (with_own m draw r) a b → LeavesOpen observed asks (with_own m draw q) a b
went_as {observed} {asks} {a} {b} m draw r q is w = subst (λ (x : Result Handle MakeError). LeavesOpen observed asks (with_own m draw x) a b) is w

pub apart_from : {b : Local} (a : Local) (g own : Handle) → b ≡ and_area_lock a g Embryo Shared → IsUnopened b own → (own.number == g.number) ≡ false
apart_from a g own is h = other_number a g own Embryo (subst (λ (m : Local). IsUnopened m own) is h)

-- the same error in another answer
pub err_with : {X E : Type 0} (P Q : E → Type 0) (r : Result X E) → ((e : E) → r ≡ Err e → P e → Q e) → IfErr r P → IfErr r Q
err_with P Q (Ok x) f p = p
err_with P Q (Err e) f p = f e refl p

-- a start that was refused
pub worked_residual : {observed : Bool} {asks : Request → Bool} {m : Local} {a b : DirAt} (draw : PodId) (r : Result Handle MakeError) (e : MakeError) → r ≡ Err e → LeavesOpen observed asks (with_own m draw r) a b → LeavesOpen observed asks m a b
worked_residual {observed} {asks} {m} {a} {b} draw r e is w = subst (λ (x : Result Handle MakeError). LeavesOpen observed asks (with_own m draw x) a b) is w

pub went_residual : {observed : Bool} {asks : Request → Bool} {a b : DirAt} (m : Local) (draw : PodId) (q : Result Owned MakeError) → IsErr q → LeavesOpen observed asks m a b → LeavesOpen observed asks (with_owned m draw q) a b
went_residual m draw (Ok owned) err w = cc
went_residual m draw (Err e) err w = w
