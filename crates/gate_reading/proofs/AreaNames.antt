-- The listing of the area of images under the gate.
use Rattle.std.proofs.Common.{◌≡◌, ℕ, Bool, true, false, ◌&&◌, ◌||◌, ◌==◌, cond, bytes_eq, Option, Some, None, is_some, List, [], ◌∷◌, refl, sym, ap, ◌∙◌}
use Rattle.std.specs.List.{list_any, cons_option}
use Rattle.std.proofs.lemmas.Iterator.Adapters.{position_from-zero}
use Rattle.plain_laws.proofs.Lists.{some_position}
use Rattle.dir_model.specs.declared.area.Area.TheVariants.{Images}
use Rattle.dir_model.specs.declared.event.Event.{Event}
use Rattle.dir_model.specs.declared.spot.Spot.{Spot}
use Rattle.dir_model.specs.declared.request.Request.TheVariants.{ListArea}
use Rattle.dir_model.specs.declared.request.Reply.TheVariants.{Names}
use Rattle.dir_model.specs.Areas.{rank}
use Rattle.dir_model.specs.State.{DirState, is_at, folder_at}
use Rattle.dir_model.specs.Trace.{states_next, state_after}
use Rattle.dir_model.specs.Trees.{names_in}
use Rattle.dir_model.specs.Listings.{has_name}
use Rattle.dir_model.proofs.Moments.{some_number}
use Rattle.dir_laws.specs.Stretches.{StandsInArea}
use Rattle.lifecycle.specs.Executions.{IsConforming}
use Rattle.gate_reading.specs.Areas.{is_image, AreasTell}
use Rattle.gate_reading.proofs.Listed.{throughout, sometime, stands_in, stands_then}

abbrev image : List ℕ → Spot
image name = record { area = Images; name = name }

named_at : (name : List ℕ) (places : List (Option Spot)) → has_name (names_in Images places) name ≡ list_any (is_at (image name)) places
named_at name [] = refl
named_at name (None ∷ places) = named_at name places
named_at name (Some here ∷ places) = by (rank here.area == rank Images) (named_at name places)
  where
    by : (b : Bool) → has_name (names_in Images places) name ≡ list_any (is_at (image name)) places →
        has_name (cons_option (cond b (Some here.name) None) (names_in Images places)) name ≡
        ((b && bytes_eq here.name name) || list_any (is_at (image name)) places)
    by true go = ap (λ c. bytes_eq here.name name || c) go
    by false go = go

-- a name of the area is that of an image that stands
pub image_named : (s : DirState) (name : List ℕ) → has_name (names_in Images s.namespace.folders) name ≡ is_image s name
image_named s name =
    named_at name s.namespace.folders
    ∙ (sym (some_position (is_at (image name)) 0 s.namespace.folders)
    ∙ sym (ap is_some (position_from-zero (is_at (image name)) s.namespace.folders)))

pub areas_tell : (trace : List Event) → IsConforming trace → AreasTell trace
areas_tell trace conforming p before x y later names whole gate shown = record {
  all = λ name there.
      let k = some_number (folder_at (state_after before).namespace (image name)) there in
      shown.all name (throughout (StandsInArea Images name) (state_after shown.stretch.begun) shown.stretch.others
      (λ a b is. image_named (states_next (state_after shown.stretch.begun) a) name
      ∙ ap is_some (stands_in trace conforming p before x y later (ListArea Images) (Names names) refl whole gate shown.stretch
      (image name) k.0 refl k.1 a b is).0));
  only = λ name there.
      let m = sometime (StandsInArea Images name) (state_after shown.stretch.begun) shown.stretch.others (shown.only name there) in
      let then : DirState = states_next (state_after shown.stretch.begun) m.earlier in
      let k = some_number (folder_at then.namespace (image name)) (sym (image_named then name) ∙ m.holds) in
      ap is_some (stands_then trace conforming p before x y later (ListArea Images) (Names names) refl whole gate shown.stretch
      (image name) k.0 refl m.earlier m.later m.split k.1);
}
