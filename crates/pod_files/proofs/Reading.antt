-- What reads of a pod's files tell.
use Rattle.std.proofs.Common.{arith, ◌≡◌, ◌≤◌, inr, ℕ, Bool, true, bytes_eq, List, length, refl, subst, ◌∙◌}
use Rattle.dir_model.specs.declared.item.Inner.{Inner}
use Rattle.dir_model.specs.declared.pod.PodId.{PodId}
use Rattle.dir_model.specs.declared.request.Request.{Request}
use Rattle.dir_model.specs.declared.request.Request.TheVariants.{ReadIn}
use Rattle.dir_model.specs.declared.spot.Spot.{Spot}
use Rattle.dir_model.specs.State.{spot_eq}
use Rattle.dir_model.proofs.Lists.{and_left}
use Rattle.dir_model.proofs.Chains.{nothing_yet, and_more, extends_wider}
use Rattle.dir_trait.specs.DirCalls.{DirAt}
use Rattle.dir_files.specs.Reads.{inner_at, OnlyReads, ReadsUp, reads_at}
use Rattle.image_reading.specs.Files.{ReadsFile, LacksFile}
use Rattle.image_reading.proofs.Widths.{within_self}
use Rattle.pod_files.specs.Places.{run_spot, pod_file}
use Rattle.pod_files.specs.Looks.{reads_pod, OnlyReadsPod}

pub reads_none : {observed : Bool} (pod : PodId) {d : DirAt} → OnlyReadsPod observed pod d d
reads_none pod = record { same = refl; faults = omega arith; local = refl; extends = λ t. nothing_yet; known = λ t s may k. k }

pub reads_more : {observed : Bool} (pod : PodId) {a b c : DirAt} → OnlyReadsPod observed pod a b → OnlyReadsPod observed pod b c → OnlyReadsPod observed pod a c
reads_more pod ab bc = record {
  same = bc.same ∙ ab.same;
  faults = omega (arith, ab.faults, bc.faults);
  local = bc.local ∙ ab.local;
  extends = λ t. and_more (ab.extends t) ab.same (bc.extends t);
  known = λ t s may k. bc.known t s may (ab.known t s may k);
}

part_asked : (pod : PodId) (path : List ℕ) (r : Request) → reads_at (pod_file pod path) r ≡ true → reads_pod pod r ≡ true
part_asked pod path (ReadIn inner at room) h = and_left (spot_eq inner.spot (run_spot pod)) (bytes_eq inner.path path) h
part_asked pod path r h = cc

reads_part : {observed : Bool} {old new : DirAt} (pod : PodId) (path : List ℕ) → OnlyReads observed (pod_file pod path) old new → OnlyReadsPod observed pod old new
reads_part pod path o = record { same = o.same; faults = o.faults; local = o.local; extends = λ t. extends_wider (part_asked pod path) (o.extends t); known = o.known }

-- by a location that is the pod's
pub reads_part_at : {observed : Bool} {old new : DirAt} (pod : PodId) (path : List ℕ) (spot : Spot) → spot ≡ run_spot pod → OnlyReads observed (inner_at spot path) old new → OnlyReadsPod observed pod old new
reads_part_at {observed} {old} {new} pod path spot same o = reads_part pod path (subst (λ (x : Spot). OnlyReads observed (inner_at x path) old new) same o)

-- some bytes were read, and this holds of them
module _ {observed : Bool} {old new : DirAt} (inner : Inner) (most : ℕ) (kept bytes : List ℕ) (same : bytes ≡ kept) (few : length kept ≤ most) (read : observed ≡ true → ReadsUp inner most old new kept) (P : List ℕ → Type 0) (holds : P bytes) where
  pub taken_so : observed ≡ true → ReadsFile inner most P old new
  taken_so t = record { bytes = kept; few = few; read = within_self (read t); holds = subst P same holds }

  pub not_taken : observed ≡ true → LacksFile inner most P old new
  not_taken t = inr (taken_so t)
