-- The command `prepare`: from its calls to what is told of it.
use Rattle.std.proofs.Common.{◌≡◌, inl, inr, ℕ, Bool, true, false, ◌||◌, List, [], Ok, Err, Result, IfOk, IfErr, refl, sym, ap, subst, ◌∙◌, arith}
use Rattle.ac_types.specs.declared.image_ref.ImageRef.{ImageRef}
use Rattle.dir_model.specs.declared.area.Area.TheVariants.{Prepared}
use Rattle.dir_model.specs.declared.intent.Draw.{Draw}
use Rattle.dir_model.specs.declared.intent.Intent.{Intent}
use Rattle.dir_model.specs.declared.pod.PodId.{PodId}
use Rattle.dir_model.specs.declared.request.DirError.{DirError}
use Rattle.dir_model.specs.declared.request.DirError.TheVariants as dir
use Rattle.dir_model.specs.declared.request.Reply.{Reply}
use Rattle.dir_model.specs.declared.request.Reply.TheVariants.{Done, Refused}
use Rattle.dir_model.specs.declared.request.Request.{Request}
use Rattle.dir_model.specs.declared.request.Request.TheVariants.{MoveFolder, SyncArea}
use Rattle.dir_model.specs.Calls.{CallStep}
use Rattle.dir_model.specs.Local.{Local, local_replied}
use Rattle.dir_model.specs.Replies.{may_refuse}
use Rattle.dir_model.proofs.Chains.{and_more, extends_wider, step_extends}
use Rattle.dir_rules.specs.declared.seen.Seen.{Seen}
use Rattle.dir_rules.specs.Conforms.{seen_replied}
use Rattle.dir_trait.specs.DirCalls.{DirAt, DirCall, ExtendsBy}
use Rattle.dir_trait.specs.Knowledge.{Knows}
use Rattle.dir_trait.proofs.Knowing.{knows_call}
use Rattle.dir_trait.specs.Effects.{OnlyAsks, LeavesOpen}
use Rattle.lifecycle.specs.Executions.{IsConforming}
use Rattle.pod_build.specs.Progress.{seen_making, nothing_made, handed}
use Rattle.pod_build.specs.Work.{WhereMakingPod, HasMakerFolder}
use Rattle.pod_build.proofs.Handing.{HandsNothingOver}
use Rattle.pod_build.specs.declared.error.BuildError.{BuildError}
use Rattle.pod_build.specs.declared.built.Built.{Built}
use Rattle.pod_build.specs.declared.built.Built.TheVariants as built
use Rattle.pod_build.specs.Answers.{IsBuildAnswer, with_built, held_with}
use Rattle.pod_build.specs.Requests.{prepares}
use Rattle.pod_build.specs.Causes.{IsBuildRefused, AreaHeldElsewhere, IsMadeByPlan, FindsImagesFree}
use Rattle.pod_build.specs.Preparations.{Began, IsAlone, KnowsPrepared, IsPrepared}
use Rattle.command_outcomes.specs.declared.refusal.Refusal.{Refusal}
use Rattle.command_outcomes.specs.declared.refusal.Refusal.TheVariants.{DirFault, NoMemory}
use Rattle.command_outcomes.specs.Moments.{CommandOutcome}
use Rattle.command_outcomes.specs.Conforming.{seen_at_begin, StaysConforming}
use Rattle.commands.specs.References.{AreReferences}
use Rattle.commands.specs.PrepareRefusals.{prepare_refusal, IsSaidOfBuild}
use Rattle.commands.specs.Prepare.{pod_line, syncs, prepares_pod, prepared_sync_refusal, SyncSays, BringsAndSyncsPod, LeavesFolder, RefusesPod, IsHeldFromPrepare, PrepareSays}
use Rattle.commands.proofs.Sayings.{busy_of}
use Rattle.commands.specs.Wants.{Wants}

-- a sync of the area hands nothing over
pub syncs_hand_none : HandsNothingOver (syncs Prepared)
syncs_hand_none (MoveFolder from to) is = cc
syncs_hand_none request is = refl

-- by what is seen of the directory
pub at_begin : {a : DirAt} (intent : Intent) → Knows a (seen_at_begin intent) → Knows a (seen_making intent [] nothing_made)
at_begin intent k = record { tied = k.tied; handles = k.handles }

-- what it asks for, and what is open
prepare_in : (draw : PodId) (r : Request) → prepares draw Prepared r ≡ true → prepares_pod draw r ≡ true
prepare_in draw r is = ap (λ b. b || syncs Prepared r) is

sync_in : (draw : PodId) (r : Request) → syncs Prepared r ≡ true → prepares_pod draw r ≡ true
sync_in draw r is = by (prepares draw Prepared r) is
  where
    by : (b : Bool) → syncs Prepared r ≡ true → (b || syncs Prepared r) ≡ true
    by true h = refl
    by false h = h

local_kept : (m : Local) (draw : PodId) (r : Result Built BuildError) → IfOk r (IsBuildAnswer false draw m) → with_built m draw r ≡ m
local_kept m draw (Ok (built.Running owned)) answer = absurd answer
local_kept m draw (Ok (built.Prepared pod)) answer = refl
local_kept m draw (Err e) answer = refl

pub prepare_worked : {observed : Bool} {a b : DirAt} (draw : PodId) (r : Result Built BuildError) → IfOk r (IsBuildAnswer false draw a.local) → LeavesOpen observed (prepares draw Prepared) (with_built a.local draw r) a b → OnlyAsks observed (prepares_pod draw) a b
prepare_worked {observed} {a} {b} draw r answer w = record { same = w.same; faults = w.faults; local = w.local_is ∙ local_kept a.local draw r answer; extends = λ t. extends_wider (prepare_in draw) (w.extends t) }

pub sync_worked : {observed : Bool} {b c : DirAt} (reply : Reply) → local_replied b.local (SyncArea Prepared) reply ≡ b.local → DirCall observed b (SyncArea Prepared) reply c → OnlyAsks observed (syncs Prepared) b c
sync_worked {observed} {b} {c} reply still call = record { same = call.same; faults = call.faults; local = call.local ∙ still; extends = λ t. step_extends (syncs Prepared) b.process b.trace (SyncArea Prepared) reply c.trace refl (call.step t) }

pub both_worked : {observed : Bool} {a b c : DirAt} (draw : PodId) → OnlyAsks observed (prepares_pod draw) a b → OnlyAsks observed (syncs Prepared) b c → OnlyAsks observed (prepares_pod draw) a c
both_worked draw x y = record { same = y.same ∙ x.same; faults = omega (arith, x.faults, y.faults); local = y.local ∙ x.local; extends = λ t. and_more (x.extends t) x.same (extends_wider (sync_in draw) (y.extends t)) }

-- the sync of the area
pub sync_told : {observed : Bool} {b c : DirAt} (line : List ℕ) (e : DirError) → may_refuse (SyncArea Prepared) e ≡ true → DirCall observed b (SyncArea Prepared) (Refused e 0) c → SyncSays line observed b c (Err (prepared_sync_refusal e))
sync_told line dir.Failed may call = call
sync_told line dir.NoMemory may call = call
sync_told line e may call = let clash : false ≡ true = may in cc

pub sync_fault : (e : DirError) → prepared_sync_refusal e ≡ DirFault → e ≡ dir.Failed
sync_fault dir.Failed is = refl
sync_fault e is = cc

sync_call : {observed : Bool} {b c : DirAt} (line : List ℕ) (o : CommandOutcome) → SyncSays line observed b c o → (reply : Reply) × DirCall observed b (SyncArea Prepared) reply c
sync_call line (Ok text) x = (Done, x.1)
sync_call line (Err NoMemory) x = (Refused dir.NoMemory 0, x)
sync_call line (Err DirFault) x = (Refused dir.Failed 0, x)
sync_call line (Err r) x = absurd x

pub sync_allowed : (observed : Bool) (b c : DirAt) (line : List ℕ) (o : CommandOutcome) → SyncSays line observed b c o → IfErr o (λ r. prepare_refusal r ≡ true)
sync_allowed observed b c line (Ok text) x = tt
sync_allowed observed b c line (Err NoMemory) x = refl
sync_allowed observed b c line (Err DirFault) x = refl
sync_allowed observed b c line (Err r) x = absurd x

-- it knows the pod in prepared, and holds nothing
free_knows : {d : DirAt} (m : Local) (draw : PodId) (intent : Intent) (made : Built) → IsBuildAnswer false draw m made → KnowsPrepared draw Prepared intent (held_with draw made []) d → KnowsPrepared draw Prepared intent [] d
free_knows m draw intent (built.Running owned) answer k = absurd answer
free_knows m draw intent (built.Prepared pod) answer k = k

abbrev pub KnowsMade : Draw → ℕ → Built → DirAt → DirAt → Type 0
KnowsMade draw now made a b = WhereMakingPod (Began Prepared draw now) IsAlone nothing_made a (λ intent hs. KnowsPrepared draw.uuid Prepared intent (held_with draw.uuid made []) b)

abbrev pub LeftFolder : Draw → ℕ → DirAt → DirAt → Type 0
LeftFolder draw now a b = WhereMakingPod (Began Prepared draw now) IsAlone nothing_made a (λ intent hs. HasMakerFolder draw.uuid intent hs b)

-- it keeps the local rules
pub synced_keeps : (observed : Bool) (a b c : DirAt) (draw : Draw) (now : ℕ) (line : List ℕ) (made : Built) (o : CommandOutcome) → observed ≡ true → IsBuildAnswer false draw.uuid a.local made → KnowsMade draw now made a b → SyncSays line observed b c o
    → (intent : Intent) → Began Prepared draw now intent → StaysConforming intent a c
synced_keeps observed a b c draw now line made o t answer knows says intent began k =
    let x = free_knows a.local draw.uuid intent made answer (knows intent [] began refl (at_begin intent k)) in
    let y = sync_call line o says in
    let s : Seen = seen_replied (seen_making intent [] (handed draw.uuid Prepared x.0)) (SyncArea Prepared) y.0 in
    record { known = s; knows = knows_call t x.1 refl refl y.1; kept = refl }

pub refused_keeps : (observed : Bool) (a b : DirAt) (draw : Draw) (now : ℕ) → LeftFolder draw now a b → (intent : Intent) → Began Prepared draw now intent → StaysConforming intent a b
refused_keeps observed a b draw now left intent began k =
    let x = left intent [] began refl (at_begin intent k) in
    record { known = seen_making intent [] x.progress; knows = x.knows; kept = refl }

pub nothing_keeps : (observed : Bool) (a : DirAt) (intent : Intent) → StaysConforming intent a a
nothing_keeps observed a intent k = record { known = seen_at_begin intent; knows = k; kept = refl }

-- what it leaves
left_folder : (observed : Bool) (a b : DirAt) (draw : Draw) (now : ℕ) → (observed ≡ true → LeftFolder draw now a b) → LeavesFolder observed now draw a b
left_folder observed a b draw now left t intent began k =
    let x = left t intent [] began refl (at_begin intent k) in
    record { progress = x.progress; own = x.own; knows = x.knows }

pub nothing_says : (observed : Bool) (a : DirAt) (wants : Wants) (now : ℕ) (draw : Draw) → PrepareSays observed wants now draw a a (Err NoMemory)
nothing_says observed a wants now draw = inl (λ t intent began k. record { progress = nothing_made; own = tt; knows = at_begin {a = a} intent k })

-- what is told of a pod that was prepared, by what came of the sync
pub synced_says : (observed : Bool) (a b c : DirAt) (wants : Wants) (refs : List ImageRef) (now : ℕ) (draw : Draw) (line : List ℕ) (made : Built) (o : CommandOutcome) → b.process ≡ a.process → AreReferences wants.images refs → IsBuildAnswer false draw.uuid a.local made
    → FindsImagesFree observed a b → IsMadeByPlan observed refs wants.wishes draw now a b → (observed ≡ true → ExtendsBy (prepares draw.uuid Prepared) a b) → (observed ≡ true → KnowsMade draw now made a b)
    → (observed ≡ true → IsConforming b.trace → WhereMakingPod (Began Prepared draw now) IsAlone nothing_made a (λ intent hs. IsPrepared refs wants.wishes a.process draw.uuid Prepared a.trace b.trace))
    → line ≡ pod_line draw.uuid → SyncSays line observed b c o → PrepareSays observed wants now draw a c o
synced_says observed a b c wants refs now draw line made o same are answer free planned extends knows prepared line_is says = by o says
  where
    brings : (reply : Reply) → DirCall observed b (SyncArea Prepared) reply c → BringsAndSyncsPod observed wants now draw reply a c
    brings reply call = record {
      brought = b;
      same = same;
      free = free;
      planned = (refs, are, planned);
      extends = extends;
      knows = λ t intent began k. let x = free_knows a.local draw.uuid intent made answer (knows t intent [] began refl (at_begin intent k)) in (x.0, x.1);
      faithful = λ t conforming intent began k. (refs, are, prepared t conforming intent [] began refl (at_begin intent k));
      synced = λ t. subst (λ (me : ℕ). CallStep me b.trace (SyncArea Prepared) reply c.trace) same (call.step t);
    }

    by : (o : CommandOutcome) → SyncSays line observed b c o → PrepareSays observed wants now draw a c o
    by (Ok text) x = (x.0 ∙ line_is, brings Done x.1)
    by (Err NoMemory) x = inr (brings (Refused dir.NoMemory 0) x)
    by (Err DirFault) x = inr (brings (Refused dir.Failed 0) x)
    by (Err r) x = absurd x

-- and of one that wasn't
refusal_says : {observed : Bool} (old new : DirAt) (wants : Wants) (now : ℕ) (draw : Draw) (r : Refusal) → LeavesFolder observed now draw old new → RefusesPod observed wants now draw old new r × IsHeldFromPrepare observed now draw r old new → PrepareSays observed wants now draw old new (Err r)
refusal_says old new wants now draw NoMemory left x = inl left
refusal_says old new wants now draw DirFault left x = inl left
refusal_says old new wants now draw r left x = (left, x.0, x.1)

pub refused_says : (observed : Bool) (a b : DirAt) (wants : Wants) (refs : List ImageRef) (now : ℕ) (draw : Draw) (e : BuildError) (r : Refusal) → AreReferences wants.images refs → IsSaidOfBuild wants.images e r → IsBuildRefused observed refs wants.wishes draw now e a b
    → (observed ≡ true → WhereMakingPod (Began Prepared draw now) IsAlone nothing_made a (λ intent hs. AreaHeldElsewhere e a b)) → (observed ≡ true → LeftFolder draw now a b) → PrepareSays observed wants now draw a b (Err r)
refused_says observed a b wants refs now draw e r are (inr is) refused another left =
    subst (λ (x : Refusal). PrepareSays observed wants now draw a b (Err x)) (sym is) (inl (left_folder observed a b draw now left))
refused_says observed a b wants refs now draw e r are (inl is) refused another left = refusal_says a b wants now draw r (left_folder observed a b draw now left) (
  record { error = e; is = is; cause = (refs, are, refused) },
  λ area busy t intent began k. another t intent [] began refl (at_begin intent k) area (busy_of wants.images e area (sym is ∙ busy)),
)
