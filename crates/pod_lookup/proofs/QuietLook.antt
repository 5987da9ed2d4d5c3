-- Where nobody else steps, a look that only lists areas of pods keeps folders where they are.
use Rattle.std.proofs.Common.{◌≡◌, ℕ, true, ◌||◌, is_some, List, ◌++◌, Option, refl, sym, ap, subst, ◌∙◌, append_assoc}
use Rattle.std.specs.Prelude.{position}
use Rattle.std.specs.List.{AllByRecursion}
use Rattle.dir_model.specs.declared.event.Event.{Event}
use Rattle.dir_model.specs.declared.request.Request.{Request}
use Rattle.dir_model.specs.declared.request.Request.TheVariants.{ListArea}
use Rattle.dir_model.specs.declared.spot.Spot.{Spot}
use Rattle.dir_model.specs.Calls.{Extends, is_foreign}
use Rattle.dir_model.specs.Quiet.{Quiet, OwnsNothing, SameNamespace}
use Rattle.dir_model.specs.State.{is_at, empty_state}
use Rattle.dir_model.specs.Trace.{state_after, states_next}
use Rattle.dir_model.proofs.Chains.{states_next-append, extends_wider}
use Rattle.dir_model.proofs.Lists.{all_left, same_rest}
use Rattle.dir_model.proofs.Quiet.{is_harmless, listing_is_harmless, harmless_all}
use Rattle.pod_lookup.specs.Looks.{lists_stages}
use Rattle.pod_lookup.specs.Pods.{NoFolderMoves}

pub lists_harmless : (r : Request) → lists_stages r ≡ true → is_harmless r ≡ true
lists_harmless (ListArea area) h = listing_is_harmless (ListArea area) refl
lists_harmless _ h = cc

-- a stretch of harmless requests where nobody else steps keeps the folders
pub quiet_keeps : {me : ℕ} {old new : List Event} → Extends is_harmless me old new → Quiet me old new → OwnsNothing me (state_after old).namespace → NoFolderMoves old new
quiet_keeps {me} {old} {new} ext quiet idle later rest is spot =
    let whole : new ≡ old ++ (later ++ rest) = is ∙ append_assoc old later rest in
    let own = all_left _ later rest (subst (λ (l : List Event). AllByRecursion (λ e. e.process ≡ me) l) (same_rest old quiet.more (later ++ rest) (sym quiet.grown ∙ whole)) quiet.own) in
    let asked = all_left _ later rest (subst (λ (l : List Event). AllByRecursion (λ e. (is_foreign me e || is_harmless e.request) ≡ true) l) (same_rest old ext.more (later ++ rest) (sym ext.grown ∙ whole)) ext.asked) in
    let same : SameNamespace me (state_after old).namespace (states_next (state_after old) later).namespace = harmless_all me (state_after old) later own asked idle in
    ap (λ (folders : List (Option Spot)). is_some (position (is_at spot) folders)) (ap (λ s. s.namespace.folders) (states_next-append empty_state old later) ∙ same.folders)

pub listings_keep : {me : ℕ} {old new : List Event} → Extends lists_stages me old new → Quiet me old new → OwnsNothing me (state_after old).namespace → NoFolderMoves old new
listings_keep ext quiet idle = quiet_keeps (extends_wider lists_harmless ext) quiet idle
