-- By what a pod's apps start, said of a longer time.
use Rattle.std.proofs.Common.{◌≡◌, ◌⊎◌, inl, inr, ℕ, Bool, true, List, [], refl, sym, ◌∙◌}
use Rattle.dir_model.specs.declared.pod.PodId.{PodId}
use Rattle.dir_model.specs.declared.request.Request.{Request}
use Rattle.dir_model.specs.declared.request.Request.TheVariants.{Close, ReadIn}
use Rattle.dir_model.specs.declared.spot.Handle.{Handle}
use Rattle.dir_model.proofs.Chains.{and_more, extends_wider}
use Rattle.dir_trait.specs.DirCalls.{DirAt, ExtendsBy}
use Rattle.stage1.specs.declared.start.AppStart.{AppStart}
use Rattle.pod_files.specs.Looks.{reads_pod, OnlyReadsPod}
use Rattle.stage1.specs.Starts.{ReadsStarts}
use Rattle.stage1.specs.Notes.{anything}
use Rattle.stage1.specs.Runs.{closes, reads_or_closes, LoadsStarts}

pub loads : {seen : Bool} (pod : PodId) (address : List ℕ) (starts : List AppStart) (d mid new : DirAt) → seen ≡ true → OnlyReadsPod seen pod d mid → ReadsStarts pod address starts d mid → ExtendsBy anything mid new → LoadsStarts pod address starts d new
loads pod address starts d mid new t o read more = record { loaded = mid; same = o.same; reads = o.extends t; found = read; then = more }

module _ {asks : Request → Bool} (a b c : DirAt) (same : b.process ≡ a.process) (more : ExtendsBy asks b c) where
  loads_later : (pod : PodId) (address : List ℕ) (starts : List AppStart) → LoadsStarts pod address starts a b → LoadsStarts pod address starts a c
  loads_later pod address starts l = record {
    loaded = l.loaded;
    same = l.same;
    reads = l.reads;
    found = l.found;
    then = and_more l.then (same ∙ sym l.same) (extends_wider {asks = asks} {asks' = anything} (λ r h. refl) more);
  }

  -- or there are none
  pub any_later : (pod : PodId) (address : List ℕ) (starts : List AppStart) → (starts ≡ []) ⊎ LoadsStarts pod address starts a b → (starts ≡ []) ⊎ LoadsStarts pod address starts a c
  any_later pod address starts (inl none) = inl none
  any_later pod address starts (inr l) = inr (loads_later pod address starts l)

-- reads, and a close
pub reads_pod_reads : (pod : PodId) (r : Request) → reads_pod pod r ≡ true → reads_or_closes r ≡ true
reads_pod_reads pod (ReadIn inner at room) h = refl
reads_pod_reads pod r h = cc

pub only_reads : {seen : Bool} (pod : PodId) {d new : DirAt} → OnlyReadsPod seen pod d new → seen ≡ true → ExtendsBy reads_or_closes d new
only_reads pod o t = extends_wider (reads_pod_reads pod) (o.extends t)

pub a_close : (own : Handle) (r : Request) → closes own r ≡ true → reads_or_closes r ≡ true
a_close own (Close handle) h = refl
a_close own r h = cc
