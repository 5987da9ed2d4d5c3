-- A pod that was claimed and then run: what the process knows and has open, from call to call.
use Rattle.std.proofs.Common.{◌≡◌, ℕ, ◌==◌, Bool, true, false, not, ◌||◌, cond, List, [], ◌∷◌, ◌++◌, filter, Ok, Err, Result, refl, sym, ap, subst, ◌∙◌, arith}
use Rattle.std.specs.List.{list_any}
use Rattle.plain_laws.proofs.Booleans.{never_both, never_deletes}
use Rattle.dir_model.specs.declared.area.Area.TheVariants.{Embryo}
use Rattle.dir_model.specs.declared.intent.Intent.{Intent}
use Rattle.dir_model.specs.declared.opening.Holding.{Holding}
use Rattle.dir_model.specs.declared.pod.PodId.{PodId}
use Rattle.dir_model.specs.declared.request.Request.{Request}
use Rattle.dir_model.specs.declared.request.Request.TheVariants.{Close}
use Rattle.dir_model.specs.declared.spot.Handle.{Handle}
use Rattle.dir_model.specs.declared.spot.Spot.{Spot}
use Rattle.dir_model.specs.declared.spot.Which.TheVariants.{Own}
use Rattle.dir_model.specs.Local.{Local, IsActive, IsOpen, is_handle_of, has_own_open, without}
use Rattle.dir_model.specs.Pods.{pod_text}
use Rattle.dir_model.proofs.Chains.{and_more, extends_wider}
use Rattle.dir_model.proofs.Lists.{same_self}
use Rattle.dir_rules.specs.declared.seen.Seen.{Seen}
use Rattle.dir_rules.specs.Conforms.{Looked}
use Rattle.dir_rules.specs.LockRules.{may_close}
use Rattle.dir_rules.specs.Standing.{is_run_prepared, is_gate_shared, gives_up, holds_own, intends}
use Rattle.dir_trait.specs.DirCalls.{DirAt, ExtendsBy}
use Rattle.dir_trait.specs.Knowledge.{Knows, LookedInto}
use Rattle.dir_trait.specs.Effects.{OnlyAsks, LeavesOpen}
use Rattle.pod_locks.specs.declared.owned.Owned.{Owned}
use Rattle.pod_locks.specs.Running.{IsOwned, RunsPod}
use Rattle.pod_locks.specs.ClaimRequests.{claims}
use Rattle.pod_locks.specs.ClaimHolding.{MayClaim, and_prepared_lock, with_pod}
use Rattle.pod_locks.specs.declared.claim_error.ClaimError.{ClaimError}
use Rattle.pod_locks.specs.Claims.{HasPod, and_owned}
use Rattle.pod_locks.specs.Work.{WhereObservedKnew}
use Rattle.pod_locks.specs.Work as claiming
use Rattle.pod_locks.proofs.ClaimSeen.{runs_pod}
use Rattle.stage1.specs.Keeping.{RunsWithoutNotes, KeepsToEnd}
use Rattle.stage1.specs.Runs.{closes, runs_and_closes}
use Rattle.stage1.specs.Runs as stage1
use Rattle.command_outcomes.specs.Conforming.{seen_at_begin, StaysConforming}
use Rattle.commands.specs.RunPrepared.{runs_prepared, CanClaim}

-- one handle more, and given up again
abbrev pub and_holding : Local → Holding → Local
and_holding m h = record m { holdings = m.holdings ++ h ∷ [] }

pub given_back : (m : Local) (h : Holding) (own : Handle) → m.holdings ≡ [] → h.handle ≡ own → without (and_holding m h) own ≡ m
given_back m h own none is =
    ap (λ (hs : List Holding). record m { holdings = filter (λ (x : Holding). not (is_handle_of own x)) (hs ++ h ∷ []) }) none
    ∙ (ap (λ (b : Bool). record m { holdings = cond (not b) (h ∷ []) [] }) (subst (λ (x : Handle). (x.number == own.number) ≡ true) (sym is) (same_self own.number))
    ∙ ap (λ (hs : List Holding). record m { holdings = hs }) (sym none))

pub is_open : (m : Local) (h : Holding) (own : Handle) → m.holdings ≡ [] → h.handle ≡ own → IsOpen (and_holding m h) own
is_open m h own none is =
    ap (λ (hs : List Holding). list_any (is_handle_of own) (hs ++ h ∷ [])) none
    ∙ ap (λ (b : Bool). b || false) (subst (λ (x : Handle). (x.number == own.number) ≡ true) (sym is) (same_self own.number))

pub still_active : (m : Local) (h : Holding) → IsActive m → IsActive (and_holding m h)
still_active m h active = record { begun = active.begun; unfinished = active.unfinished }

pub none_open : (m : Local) (name : List ℕ) → m.holdings ≡ [] → has_own_open m name ≡ false
none_open m name none = subst (λ (hs : List Holding). has_own_open (record m { holdings = hs }) name ≡ false) (sym none) refl

-- what is open after a claim
pub claimed_went : {observed : Bool} {a b : DirAt} (m : Local) (pod : PodId) (r : Result Owned ClaimError) (owned : Owned) → r ≡ Ok owned → claiming.WentClaiming observed 56 pod (and_owned m pod r) a b → claiming.WentClaiming observed 56 pod (and_prepared_lock m pod Own owned.own) a b
claimed_went {observed} {a} {b} m pod r owned is w = subst (λ (x : Result Owned ClaimError). claiming.WentClaiming observed 56 pod (and_owned m pod x) a b) is w

pub unclaimed_went : {observed : Bool} {a b : DirAt} (m : Local) (pod : PodId) (r : Result Owned ClaimError) (e : ClaimError) → r ≡ Err e → claiming.WentClaiming observed 56 pod (and_owned m pod r) a b → claiming.WentClaiming observed 56 pod m a b
unclaimed_went {observed} {a} {b} m pod r e is w = subst (λ (x : Result Owned ClaimError). claiming.WentClaiming observed 56 pod (and_owned m pod x) a b) is w

-- its requests
claims_in : (pod : PodId) (r : Request) → claims pod r ≡ true → runs_prepared pod r ≡ true
claims_in pod r is = ap (λ (b : Bool). b || stage1.runs_pod pod r) is

closes_claims : (pod : PodId) (own : Handle) (r : Request) → closes own r ≡ true → claims pod r ≡ true
closes_claims pod own (Close handle) is = refl
closes_claims pod own r is = let clash : false ≡ true = is in cc

runs_in : (pod : PodId) (own : Handle) (r : Request) → runs_and_closes pod own r ≡ true → runs_prepared pod r ≡ true
runs_in pod own r is = by (closes own r) (claims pod r) (closes_claims pod own r) is
  where
    by : (a b : Bool) → (a ≡ true → b ≡ true) → (a || stage1.runs_pod pod r) ≡ true → (b || stage1.runs_pod pod r) ≡ true
    by true b so h = ap (λ (x : Bool). x || stage1.runs_pod pod r) (so refl)
    by false true so h = refl
    by false false so h = h

pub claimed_worked : {observed : Bool} {a b c : DirAt} {m : Local} (pod : PodId) (owned : Owned) (h : Holding) → IsOwned pod m owned → h.handle ≡ owned.own → a.local.holdings ≡ [] → claiming.WentClaiming observed 56 pod (and_holding a.local h) a b →
    LeavesOpen observed (runs_and_closes owned.pod owned.own) (without b.local owned.own) b c → OnlyAsks observed (runs_prepared pod) a c
claimed_worked {observed} {a} {b} {c} pod owned h own is none w v = record {
  same = v.same ∙ w.same;
  faults = omega (arith, w.faults, v.faults);
  local = v.local_is ∙ (ap (λ (m : Local). without m owned.own) w.local_is ∙ given_back a.local h owned.own none is);
  extends = λ t. and_more (extends_wider (claims_in pod) (w.extends t)) w.same (extends_wider (runs_in pod owned.own) (subst (λ (p : PodId). ExtendsBy (runs_and_closes p owned.own) b c) own.is (v.extends t)));
}

pub unclaimed_worked : {observed : Bool} {a b : DirAt} (pod : PodId) → claiming.WentClaiming observed 56 pod a.local a b → OnlyAsks observed (runs_prepared pod) a b
unclaimed_worked pod w = record { same = w.same; faults = w.faults; local = w.local_is; extends = λ t. extends_wider (claims_in pod) (w.extends t) }

-- it keeps the local rules
abbrev looked_at : Intent → List Spot → Seen
looked_at intent free = record (seen_at_begin intent) { standing = record (seen_at_begin intent).standing { seen_unowned = free ++ (seen_at_begin intent).standing.seen_unowned } }

fresh_at : (pod : PodId) (own : Handle) (intent : Intent) (free : List Spot) → RunsWithoutNotes pod (with_pod pod own (looked_at intent free))
fresh_at pod own intent free = record { runs_it = runs_pod pod own (looked_at intent free); spares_it = never_deletes _; none = refl }

pub may_begin : (intent : Intent) → is_run_prepared intent.kind ≡ true → MayClaim (seen_at_begin intent)
may_begin intent is = record { began = is; apart = refl; seen_unowned_under_claim = refl }

module _ (pod : PodId) (own : Handle) (intent : Intent) (known : Seen) (looked : Looked (seen_at_begin intent) known) where
  fresh_claimed : RunsWithoutNotes pod (with_pod pod own known)
  fresh_claimed = subst (λ (s : Seen). RunsWithoutNotes pod (with_pod pod own s)) (sym looked.same) (fresh_at pod own intent looked.free)

  may_give : may_close (with_pod pod own known).standing own ≡ true
  may_give = subst (λ (s : Seen). may_close (with_pod pod own s).standing own ≡ true) (sym looked.same) (never_both (gives_up (is_gate_shared Embryo) own (with_pod pod own (looked_at intent looked.free)).standing.holdings) (intends (λ i. holds_own (pod_text i.draw.bytes) (with_pod pod own (looked_at intent looked.free)).standing) (with_pod pod own (looked_at intent looked.free)).standing.intent))

  was_kept : (with_pod pod own known).kept ≡ true
  was_kept = ap (λ (s : Seen). s.kept) looked.same

  ends_so : (observed : Bool) (a b c : DirAt) → Knows b (with_pod pod own known) → KeepsToEnd pod own b c → StaysConforming intent a c
  ends_so observed a b c knows keeps k =
      let x = keeps (with_pod pod own known) knows fresh_claimed may_give in
      record { known = x.known; knows = x.knows; kept = x.kept ∙ was_kept }

pub claimed_keeps : {observed : Bool} {m : Local} (pod : PodId) (owned : Owned) (intent : Intent) (a b c : DirAt) → IsOwned pod m owned → observed ≡ true → is_run_prepared intent.kind ≡ true → WhereObservedKnew observed MayClaim a (λ s. HasPod pod owned.own s b) →
    KeepsToEnd owned.pod owned.own b c → StaysConforming intent a c
claimed_keeps {observed} pod owned intent a b c own t is held keeps k =
    let h = held t (seen_at_begin intent) (may_begin intent is) k in
    ends_so pod owned.own intent h.known h.looked observed a b c h.knows (subst (λ (p : PodId). KeepsToEnd p owned.own b c) own.is keeps) k

pub unclaimed_keeps : {observed : Bool} (intent : Intent) (a b : DirAt) → observed ≡ true → is_run_prepared intent.kind ≡ true → WhereObservedKnew observed MayClaim a (λ s. LookedInto s b) → StaysConforming intent a b
unclaimed_keeps {observed} intent a b t is left k =
    let l = left t (seen_at_begin intent) (may_begin intent is) k in
    record { known = l.known; knows = l.knows; kept = ap (λ (s : Seen). s.kept) l.looked.same }

-- it runs the pod that it owns
pub owned_runs : {observed : Bool} {m : Local} (pod : PodId) (owned : Owned) (a b : DirAt) → IsOwned pod m owned → (observed ≡ true → CanClaim a) → WhereObservedKnew observed MayClaim a (λ s. RunsPod pod b) → observed ≡ true → RunsPod owned.pod b
owned_runs pod owned a b is can runs t = subst (λ (p : PodId). RunsPod p b) (sym is.is) (let x = can t in runs t x.0 x.2 x.1)
