-- Where every process keeps the local rules no claim is refused as stray.
use Rattle.std.proofs.Common.{◌≡◌, ◌⊎◌, inl, inr, ℕ, Bool, true, false, Some, is_some, List, [], ◌∷◌, ◌++◌, refl, sym, ap, subst, ◌∙◌, arith}
use Rattle.dir_model.specs.declared.event.Event.{Event}
use Rattle.dir_model.specs.declared.pod.PodId.{PodId}
use Rattle.dir_model.specs.declared.request.DirError.TheVariants.{Exists}
use Rattle.dir_model.specs.declared.request.Request.TheVariants.{MoveFolder}
use Rattle.dir_model.specs.declared.request.Reply.TheVariants.{Refused}
use Rattle.dir_model.specs.Calls.{AtOwnStep}
use Rattle.dir_model.specs.State.{DirState, stands, folder_at}
use Rattle.dir_model.specs.Trace.{state_after}
use Rattle.dir_model.proofs.Moments.{at_grown, some_number}
use Rattle.dir_trait.specs.DirCalls.{DirAt}
use Rattle.lifecycle.specs.Executions.{IsConforming}
use Rattle.lifecycle.proofs.Draws.{conforming_left}
use Rattle.lifecycle.proofs.Stays.{stays_between}
use Rattle.impossible_replies.proofs.Calls.{never_meets}
use Rattle.pod_locks.specs.declared.claim_error.ClaimError.{ClaimError}
use Rattle.pod_locks.specs.declared.claim_error.ClaimError.TheVariants.{Stray}
use Rattle.pod_locks.specs.ClaimRequests.{in_prepared, in_run}
use Rattle.pod_locks.specs.Work.{Grew}
use Rattle.pod_locks.specs.ClaimCauses.{IsNotInPrepared, MissedTwice, WasBarred, ClaimCause}
use Rattle.pod_locks.proofs.Reading.{Moment, later_is, reading_grew}

pub conforms_before : {a b : List Event} → Grew a b → IsConforming b → IsConforming a
conforms_before {a} {b} g conforming = conforming_left a g.more (subst IsConforming g.grown conforming)

pub grew_at : {me : ℕ} {a b : List Event} {P : DirState → Type 0} → AtOwnStep me a b P → Grew a b
grew_at at = let g = at_grown at in record { more = g.0; grown = g.1 }

-- no pod that is moved meets another
never_barred : (pod : PodId) {me : ℕ} {old new : List Event} → WasBarred pod me old new → IsConforming new → ⊥
never_barred pod b conforming =
    let o = b.each in
    never_meets (MoveFolder (in_prepared pod) (in_run pod)) (Refused Exists 0) o.3 (conforms_before o.4 conforming) refl

-- a pod that was missing in prepared doesn't come back there
never_back : {me : ℕ} {a b c d : List Event} (pod : PodId) → AtOwnStep me a b (λ s. stands s.namespace (in_prepared pod) ≡ true) → AtOwnStep me b c (IsNotInPrepared pod)
    → AtOwnStep me c d (λ s. stands s.namespace (in_prepared pod) ≡ true) → IsConforming d → ⊥
never_back {me} {a} {b} {c} {d} pod x y z conforming =
    let k = some_number (folder_at (state_after (Moment x)).namespace (in_prepared pod)) x.holds in
    let p = x.rest ++ (y.later ++ y.step ∷ []) in
    let q = y.rest ++ (z.later ++ z.step ∷ []) in
    let yx : Moment y ≡ Moment x ++ p = later_is x y in
    let zx : Moment z ≡ (Moment x ++ p) ++ q = later_is y z ∙ ap (λ h. h ++ q) yx in
    let whole : d ≡ ((Moment x ++ p) ++ q) ++ z.rest = z.ends ∙ ap (λ h. h ++ z.rest) zx in
    let still = stays_between d conforming (in_prepared pod) k.0 (Moment x) p q z.rest (omega arith) whole k.1 (subst (λ (h : List Event). stands (state_after h).namespace (in_prepared pod) ≡ true) zx z.holds) in
    let there = subst (λ (h : List Event). folder_at (state_after h).namespace (in_prepared pod) ≡ Some k.0) (sym yx) still in
    let e : true ≡ false = sym (ap is_some there) ∙ y.holds in
    cc

never_missed : {pod : PodId} {me : ℕ} {old new : List Event} → MissedTwice pod me old new → IsConforming new → ⊥
never_missed {pod} m conforming =
    never_back pod (reading_grew pod m.first.read) m.first.missed (reading_grew pod m.second.read) (conforms_before (grew_at m.second.missed) conforming)

pub never_stray : {observed : Bool} {pod : PodId} {error : ClaimError} {a c : DirAt} → ClaimCause observed pod error a c → error ≡ Stray → observed ≡ true → IsConforming c.trace → ⊥
never_stray {observed} {pod} {error} {a} {c} x is t conforming = by (x.stray is t)
  where
    by : WasBarred pod a.process a.trace c.trace ⊎ MissedTwice pod a.process a.trace c.trace → ⊥
    by (inl b) = never_barred pod b conforming
    by (inr m) = never_missed m conforming
