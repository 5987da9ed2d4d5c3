-- Which single steps at a pod aren't refused as stray, ever or while every process keeps the local rules.
use Rattle.std.proofs.Common.{◌≡◌, ◌||◌, ℕ, Bool, true, List, ap, subst}
use Rattle.dir_model.specs.declared.area.Area.{Area}
use Rattle.dir_model.specs.declared.area.Area.TheVariants.{Removed}
use Rattle.dir_model.specs.declared.event.Event.{Event}
use Rattle.dir_model.specs.declared.pod.PodId.{PodId}
use Rattle.dir_model.specs.declared.spot.Handle.{Handle}
use Rattle.dir_model.specs.declared.spot.Mode.{Mode}
use Rattle.dir_model.specs.declared.spot.Spot.{Spot}
use Rattle.dir_model.specs.declared.spot.Which.{Which}
use Rattle.dir_model.specs.declared.request.DirError.{DirError}
use Rattle.dir_model.specs.declared.request.DirError.TheVariants.{Missing, Exists, NotEmpty, Locked, Failed}
use Rattle.dir_model.specs.declared.request.DirError.TheVariants as dir
use Rattle.dir_model.specs.declared.request.Request.TheVariants.{Open, TryLock, MoveFolder}
use Rattle.dir_model.specs.declared.request.Reply.TheVariants.{Refused}
use Rattle.dir_model.specs.Areas.{is_stage}
use Rattle.dir_model.specs.Replies.{may_refuse}
use Rattle.dir_rules.specs.Standing.{is_in}
use Rattle.dir_rules.specs.declared.seen.Seen.{Seen}
use Rattle.dir_trait.specs.DirCalls.{DirAt, DirCall}
use Rattle.dir_trait.specs.Knowledge.{Knows}
use Rattle.dir_trait.specs.Effects.{Given}
use Rattle.impossible_replies.specs.Replies.{AppWroteOn}
use Rattle.impossible_replies.proofs.Calls.{never_meets}
use Rattle.impossible_replies.proofs.StrayDeletions.{wrote_within}
use Rattle.lifecycle.specs.Executions.{IsConforming}
use Rattle.lifecycle.proofs.Draws.{conforming_left}
use Rattle.dir_model.specs.Spots.{pod_spot}
use Rattle.pod_locks.specs.Work.{Grew}
use Rattle.pod_locks.specs.declared.setback.Setback.TheVariants.{Stray}
use Rattle.pod_locks.specs.Setbacks.{step_setback_of, step_lock_setback}
use Rattle.pod_locks.specs.Causes.{BreaksRules, ByApp, NeverStray}
use Rattle.pod_locks.proofs.Calls.{Follows}

pub lock_never : (which : Which) (h : Handle) (mode : Mode) (e : DirError) → may_refuse (TryLock h mode) e ≡ true → step_lock_setback which e ≡ Stray → ⊥
lock_never which h mode Locked may is = cc
lock_never which h mode Failed may is = cc
lock_never which h mode dir.NoMemory may is = cc
lock_never which h mode Missing may is = cc
lock_never which h mode Exists may is = cc
lock_never which h mode NotEmpty may is = cc

pub open_never : (spot : Spot) (which : Which) (e : DirError) → may_refuse (Open spot which) e ≡ true → step_setback_of e ≡ Stray → ⊥
open_never spot which Missing may is = cc
open_never spot which Failed may is = cc
open_never spot which dir.NoMemory may is = cc
open_never spot which Locked may is = cc
open_never spot which Exists may is = cc
open_never spot which NotEmpty may is = cc

-- no pod meets another folder
pub move_lawful : {observed : Bool} {old new : DirAt} (pod : PodId) (from to : Area) (e : DirError) → may_refuse (MoveFolder (pod_spot pod from) (pod_spot pod to)) e ≡ true
    → DirCall observed old (MoveFolder (pod_spot pod from) (pod_spot pod to)) (Refused e 0) new → is_stage from ≡ true → NeverStray observed (step_setback_of e) new
move_lawful pod from to Exists may x stage is t conforming =
    never_meets (MoveFolder (pod_spot pod from) (pod_spot pod to)) (Refused Exists 0) (x.step t) conforming (ap (λ b. b || is_in Removed to) stage)
move_lawful pod from to Missing may x stage is t conforming = cc
move_lawful pod from to Failed may x stage is t conforming = cc
move_lawful pod from to dir.NoMemory may x stage is t conforming = cc
move_lawful pod from to Locked may x stage is t conforming = cc
move_lawful pod from to NotEmpty may x stage is t conforming = cc

-- who breaks the rules in a part does so in the whole
pub breaks_part : {observed : Bool} {c d : DirAt} → Follows observed c d → BreaksRules observed c → BreaksRules observed d
breaks_part {observed} {c} {d} cd x t conforming = let g = cd.grown t in x t (conforming_left c.trace g.more (subst IsConforming g.grown conforming))

pub wrote_part : {me other : ℕ} {a b c d : List Event} → Grew a b → other ≡ me → Grew c d → AppWroteOn other b c → AppWroteOn me a d
wrote_part {me} {other} {a} {b} {c} {d} ab same cd w = wrote_within ab.more cd.more ab.grown cd.grown (subst (λ (p : ℕ). AppWroteOn p b c) same w)

-- and what a started app wrote in a part it wrote in the whole
pub by_app_part : {observed : Bool} {Before After : Seen → Type 0} {a b c d : DirAt} → Follows observed a b → Follows observed c d → (observed ≡ true → Given Before a (λ s. (z : Seen) × Knows b z × After z)) → ByApp observed After b c → ByApp observed Before a d
by_app_part {observed} {Before} {After} {a} {b} {c} {d} ab cd on x t s k may conforming =
    let z = on t s k may in
    let g = cd.grown t in
    wrote_part (ab.grown t) ab.same g (x t z.0 z.1 z.2 (conforming_left c.trace g.more (subst IsConforming g.grown conforming)))
