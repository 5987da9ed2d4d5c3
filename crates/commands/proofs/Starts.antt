-- What a process asks for that begins, and may have to look for its pod.
use Rattle.std.proofs.Common.{◌≡◌, ◌||◌, ℕ, Bool, true, false, List, refl, sym, ap, subst}
use Rattle.dir_model.specs.declared.event.Event.{Event}
use Rattle.dir_model.specs.declared.intent.Intent.{Intent}
use Rattle.dir_model.specs.declared.request.Request.{Request}
use Rattle.dir_model.specs.declared.request.Request.TheVariants.{Begin}
use Rattle.dir_model.specs.declared.request.Reply.TheVariants.{Done}
use Rattle.dir_model.specs.Calls.{Extends, is_begin}
use Rattle.dir_model.proofs.Quiet.{is_harmless, begin_is_harmless}
use Rattle.dir_model.proofs.Chains.{and_more, extends_wider, nothing_yet, step_extends}
use Rattle.pod_lookup.specs.Looks.{lists_stages}
use Rattle.pod_lookup.proofs.QuietLook.{lists_harmless}
use Rattle.commands.specs.Opening.{Approach, directly, looking, Looks, Opens, looks_by, opens}

-- a look asks for listings at most
pub look_extends : (approach : Approach) {me : ℕ} {old new : List Event} → Looks approach me old new → Extends (looks_by approach) me old new
look_extends directly {me} {old} {new} same = subst (λ (h : List Event). Extends (looks_by directly) me old h) (sym same) nothing_yet
look_extends looking {me} {old} {new} ext = ext

pub look_lists : (approach : Approach) (r : Request) → looks_by approach r ≡ true → lists_stages r ≡ true
look_lists directly r h = cc
look_lists looking r h = h

-- what opens a process asks for
pub opening_extends : {asked : Request → Bool} {approach : Approach} {intent : Intent} {me : ℕ} {old new : List Event} → asked (Begin intent) ≡ true → ((r : Request) → looks_by approach r ≡ true → asked r ≡ true) → Opens approach intent me old new → Extends asked me old new
opening_extends {asked} {approach} {intent} {me} {old} {new} begins looks o =
    and_more (step_extends asked me old (Begin intent) Done o.first begins o.begins) refl (extends_wider looks (look_extends approach o.looks))

pub open_extends : {approach : Approach} {intent : Intent} {me : ℕ} {old new : List Event} → Opens approach intent me old new → Extends opens me old new
open_extends {approach} o = opening_extends refl (λ r h. ap (λ b. b || is_begin r) (look_lists approach r h)) o

pub open_is_harmless : (r : Request) → opens r ≡ true → is_harmless r ≡ true
open_is_harmless r h = by (lists_stages r) refl h
  where
    by : (b : Bool) → lists_stages r ≡ b → (b || is_begin r) ≡ true → is_harmless r ≡ true
    by true is k = lists_harmless r is
    by false is k = begin_is_harmless r k
