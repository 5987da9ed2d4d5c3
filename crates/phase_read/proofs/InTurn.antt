-- Areas that were without a pod, one after the other.
use Rattle.std.proofs.Common.{◌≡◌, ℕ, Bool, List, [], ◌∷◌, ◌++◌, sym, ap, subst, ◌∙◌, append_assoc, append-nil, false}
use Rattle.dir_model.specs.declared.area.Area.{Area}
use Rattle.dir_model.specs.declared.event.Event.{Event}
use Rattle.dir_model.specs.declared.pod.PodId.{PodId}
use Rattle.dir_model.specs.declared.request.Request.{Request}
use Rattle.dir_model.specs.State.{stands}
use Rattle.dir_model.specs.Calls.{Extends, AtOwnStep}
use Rattle.dir_model.proofs.Moments.{at_before, at_grown}
use Rattle.dir_model.specs.Spots.{pod_spot}
use Rattle.phase_read.specs.Read.{LeftOut}

module _ (pod : PodId) where
  pub none_left_out : (me : ℕ) (h : List Event) → LeftOut me h h pod []
  none_left_out me h = ([], sym (append-nil h))

  -- one area more
  pub and_left_out : (me other : ℕ) (a b c : List Event) (area : Area) (earlier : List Area) → LeftOut me a b pod earlier → other ≡ me → AtOwnStep other b c (λ s. stands s.namespace (pod_spot pod area) ≡ false) → LeftOut me a c pod (area ∷ earlier)
  and_left_out me other a b c area earlier l same at = (b, l, subst (λ (p : ℕ). AtOwnStep p b c (λ s. stands s.namespace (pod_spot pod area) ≡ false)) same at)

  -- how far the trace has grown
  pub left_out_grown : (me : ℕ) (a b : List Event) (areas : List Area) → LeftOut me a b pod areas → (more : List Event) × (b ≡ a ++ more)
  left_out_grown me a b [] l = l
  left_out_grown me a b (area ∷ earlier) l =
      let first = left_out_grown me a l.0 earlier l.1 in
      let last = at_grown l.2 in
      (first.0 ++ last.0, last.1 ∙ (ap (λ h. h ++ last.0) first.1 ∙ append_assoc a first.0 last.0))

  -- after more calls, and before more
  pub left_out_after : {asks : Request → Bool} (me other : ℕ) (a b c : List Event) (areas : List Area) → Extends asks me a b → other ≡ me → LeftOut other b c pod areas → LeftOut me a c pod areas
  left_out_after {asks} me other a b c [] ab same l = (ab.more ++ l.0, l.1 ∙ (ap (λ h. h ++ l.0) ab.grown ∙ append_assoc a ab.more l.0))
  left_out_after {asks} me other a b c (area ∷ earlier) ab same l = (l.0, left_out_after me other a b l.0 earlier ab same l.1, subst (λ (p : ℕ). AtOwnStep p l.0 c (λ s. stands s.namespace (pod_spot pod area) ≡ false)) same l.2)

  pub left_out_before : {asks : Request → Bool} (me other : ℕ) (a b c : List Event) (areas : List Area) → LeftOut me a b pod areas → other ≡ me → Extends asks other b c → LeftOut me a c pod areas
  left_out_before {asks} me other a b c [] l same bc = (l.0 ++ bc.more, bc.grown ∙ (ap (λ h. h ++ bc.more) l.1 ∙ append_assoc a l.0 bc.more))
  left_out_before {asks} me other a b c (area ∷ earlier) l same bc = (l.0, l.1, at_before l.2 same bc)
