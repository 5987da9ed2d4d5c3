-- Why a run stopped, said of longer times too.
use Rattle.std.proofs.Common.{◌≡◌, ◌≤◌, ℕ, Bool, true, false, List, [], ◌++◌, refl, sym, ap, subst, ◌∙◌, append_assoc, append-nil}
use Rattle.dir_model.specs.declared.event.Event.{Event}
use Rattle.dir_model.specs.declared.request.DirError.{DirError}
use Rattle.dir_model.specs.declared.request.DirError.TheVariants as dir
use Rattle.dir_model.specs.declared.request.Reply.{Reply}
use Rattle.dir_model.specs.declared.request.Request.{Request}
use Rattle.dir_model.specs.declared.request.Reply.TheVariants.{Refused}
use Rattle.dir_model.specs.Calls.{CallStep, PartialStep}
use Rattle.dir_model.specs.Causes.{Rose}
use Rattle.dir_model.specs.Replies.{is_fault}
use Rattle.dir_laws.proofs.Rose.{rose_later, rose_still}
use Rattle.dir_trait.specs.DirCalls.{DirAt}
use Rattle.dir_trait.specs.Effects.{OnlyAsks}
use Rattle.folder_building.specs.Work.{is_stray_building}
use Rattle.spawner.specs.declared.call.SpawnError.{SpawnError}
use Rattle.spawner.specs.declared.call.SpawnError.TheVariants as spawn
use Rattle.spawner.specs.Calls.{SpawnerAt}
use Rattle.stage1.specs.declared.error.Fault.{Fault}
use Rattle.stage1.specs.declared.error.Fault.TheVariants.{Spawn, Dir, Stray, NoMemory}
use Rattle.stage1.specs.Refusals.{spawn_fault, change_fault, SpawnCause, WasStrayIn, NoteCause, RunCause}

-- one call
stray_now : (me : ℕ) (old new : List Event) (request : Request) (reply : Reply) → is_stray_building request reply ≡ true → CallStep me old request reply new → WasStrayIn me old new
stray_now me old new request reply stray step = record { before = old; after = new; earlier = []; later = []; request = request; reply = reply; stray = stray; begins = sym (append-nil old); step = step; ends = sym (append-nil new) }

pub note_cause : {observed : Bool} (old new : DirAt) (request : Request) (reply : Reply) (e : DirError) → (is_fault e ≡ false → is_stray_building request reply ≡ true) → (e ≡ dir.Failed → Rose old.faults new.faults) → (observed ≡ true → CallStep old.process old.trace request reply new.trace) → NoteCause observed (change_fault e) old new
note_cause old new request reply dir.Failed stray rose step = rose refl
note_cause old new request reply dir.NoMemory stray rose step = tt
note_cause old new request reply e stray rose step = λ t. stray_now old.process old.trace new.trace request reply (stray refl) (step t)

-- an append, with the bytes that it left
pub note_cause_at : {observed : Bool} (old new : DirAt) (request : Request) (e : DirError) → ((left : ℕ) → is_fault e ≡ false → is_stray_building request (Refused e left) ≡ true) → (e ≡ dir.Failed → Rose old.faults new.faults) → (observed ≡ true → PartialStep old.process old.trace request (λ left. Refused e left) new.trace) → NoteCause observed (change_fault e) old new
note_cause_at old new request dir.Failed stray rose step = rose refl
note_cause_at old new request dir.NoMemory stray rose step = tt
note_cause_at old new request e stray rose step = λ t. stray_now old.process old.trace new.trace request (Refused e (step t).left) (stray (step t).left refl) (step t).step

pub spawn_cause : (old new : SpawnerAt) (e : SpawnError) → (e ≡ spawn.Failed → Rose old.faults new.faults) → SpawnCause (spawn_fault e) old new
spawn_cause old new spawn.Failed rose = rose refl
spawn_cause old new spawn.NoMemory rose = tt

-- earlier and later events
pub stray_after : (me : ℕ) (old mid new more : List Event) → mid ≡ old ++ more → WasStrayIn me mid new → WasStrayIn me old new
stray_after me old mid new more grown w = record { before = w.before; after = w.after; earlier = more ++ w.earlier; later = w.later; request = w.request; reply = w.reply; stray = w.stray; begins = w.begins ∙ (ap (λ (h : List Event). h ++ w.earlier) grown ∙ append_assoc old more w.earlier); step = w.step; ends = w.ends }

pub stray_before : (me : ℕ) (old mid new more : List Event) → new ≡ mid ++ more → WasStrayIn me old mid → WasStrayIn me old new
stray_before me old mid new more grown w = record { before = w.before; after = w.after; earlier = w.earlier; later = w.later ++ more; request = w.request; reply = w.reply; stray = w.stray; begins = w.begins; step = w.step; ends = grown ∙ (ap (λ (h : List Event). h ++ more) w.ends ∙ append_assoc w.after w.later more) }

pub note_after : {observed : Bool} {asks : Request → Bool} (f : Fault) (a b c : DirAt) → OnlyAsks observed asks a b → NoteCause observed f b c → NoteCause observed f a c
note_after Spawn a b c ab is = is
note_after Dir a b c ab is = rose_later a.faults b.faults c.faults ab.faults is
note_after Stray a b c ab is = λ t. subst (λ (p : ℕ). WasStrayIn p a.trace c.trace) ab.same (stray_after b.process a.trace b.trace c.trace (ab.extends t).more (ab.extends t).grown (is t))
note_after NoMemory a b c ab is = tt

pub spawn_after : (f : Fault) (a b c : SpawnerAt) → a.faults ≤ b.faults → SpawnCause f b c → SpawnCause f a c
spawn_after Spawn a b c ab is = rose_later a.faults b.faults c.faults ab is
spawn_after Dir a b c ab is = is
spawn_after Stray a b c ab is = is
spawn_after NoMemory a b c ab is = tt

-- a cause of either kind
pub by_note : (observed : Bool) (f : Fault) (d d' : DirAt) (s s' : SpawnerAt) → NoteCause observed f d d' → RunCause observed f d d' s s'
by_note observed Spawn d d' s s' is = absurd is
by_note observed Dir d d' s s' is = is
by_note observed Stray d d' s s' is = is
by_note observed NoMemory d d' s s' is = tt

pub by_spawn : (observed : Bool) (f : Fault) (d d' : DirAt) (s s' : SpawnerAt) → SpawnCause f s s' → RunCause observed f d d' s s'
by_spawn observed Spawn d d' s s' is = is
by_spawn observed Dir d d' s s' is = absurd is
by_spawn observed Stray d d' s s' is = absurd is
by_spawn observed NoMemory d d' s s' is = tt

pub run_after : {observed : Bool} {asks : Request → Bool} (f : Fault) (a b c : DirAt) (x y z : SpawnerAt) → OnlyAsks observed asks a b → x.faults ≤ y.faults → RunCause observed f b c y z → RunCause observed f a c x z
run_after Spawn a b c x y z ab xy is = rose_later x.faults y.faults z.faults xy is
run_after Dir a b c x y z ab xy is = rose_later a.faults b.faults c.faults ab.faults is
run_after Stray a b c x y z ab xy is = λ t. subst (λ (p : ℕ). WasStrayIn p a.trace c.trace) ab.same (stray_after b.process a.trace b.trace c.trace (ab.extends t).more (ab.extends t).grown (is t))
run_after NoMemory a b c x y z ab xy is = tt

pub run_before : {observed : Bool} {asks : Request → Bool} (f : Fault) (a b c : DirAt) (x y z : SpawnerAt) → RunCause observed f a b x y → OnlyAsks observed asks b c → y.faults ≤ z.faults → RunCause observed f a c x z
run_before Spawn a b c x y z is bc yz = rose_still x.faults y.faults z.faults is yz
run_before Dir a b c x y z is bc yz = rose_still a.faults b.faults c.faults is bc.faults
run_before Stray a b c x y z is bc yz = λ t. stray_before a.process a.trace b.trace c.trace (bc.extends t).more (bc.extends t).grown (is t)
run_before NoMemory a b c x y z is bc yz = tt
