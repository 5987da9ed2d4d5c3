-- Where a stray answer comes from.
use Rattle.std.proofs.Common.{◌≡◌, ℕ, List, Bool, true, false, refl, subst}
use Rattle.dir_model.specs.declared.event.Event.{Event}
use Rattle.dir_model.specs.declared.item.Inner.{Inner}
use Rattle.dir_model.specs.declared.request.DirError.{DirError}
use Rattle.dir_model.specs.declared.request.DirError.TheVariants.{Missing, Exists}
use Rattle.dir_model.specs.declared.request.Request.{Request}
use Rattle.dir_model.specs.declared.request.Request.TheVariants.{MakeDirIn, MakeFileIn, AppendIn, SyncIn}
use Rattle.dir_model.specs.declared.request.Reply.{Reply}
use Rattle.dir_model.specs.declared.request.Reply.TheVariants.{Refused}
use Rattle.dir_model.specs.Calls.{CallStep}
use Rattle.dir_model.specs.Replies.{is_fault, may_refuse}
use Rattle.dir_model.proofs.Chains.{nothing_yet, and_more, extends_wider}
use Rattle.dir_trait.specs.DirCalls.{DirAt}
use Rattle.dir_trait.specs.Effects.{OnlyAsks}
use Rattle.folder_building.specs.Work.{EndsWithStrayBuilding, is_stray_building, WasStrayBuilding}

-- a refusal that is no fault
pub stray_dir : (inner : Inner) (e : DirError) → may_refuse (MakeDirIn inner) e ≡ true → is_fault e ≡ false → is_stray_building (MakeDirIn inner) (Refused e 0) ≡ true
stray_dir inner Missing may fault = refl
stray_dir inner Exists may fault = refl
stray_dir inner _ may fault = cc

pub stray_file : (inner : Inner) (e : DirError) → may_refuse (MakeFileIn inner) e ≡ true → is_fault e ≡ false → is_stray_building (MakeFileIn inner) (Refused e 0) ≡ true
stray_file inner Missing may fault = refl
stray_file inner Exists may fault = refl
stray_file inner _ may fault = cc

pub stray_append : (inner : Inner) (piece : List ℕ) (e : DirError) (left : ℕ) → may_refuse (AppendIn inner piece) e ≡ true → is_fault e ≡ false → is_stray_building (AppendIn inner piece) (Refused e left) ≡ true
stray_append inner piece Missing left may fault = refl
stray_append inner piece _ left may fault = cc

pub stray_sync : (inner : Inner) (e : DirError) → may_refuse (SyncIn inner) e ≡ true → is_fault e ≡ false → is_stray_building (SyncIn inner) (Refused e 0) ≡ true
stray_sync inner Missing may fault = refl
stray_sync inner _ may fault = cc

-- the call that was answered so
pub stray_call : (asks : Request → Bool) {me : ℕ} {old new : List Event} (request : Request) (reply : Reply) → asks request ≡ true → is_stray_building request reply ≡ true → CallStep me old request reply new → WasStrayBuilding asks me old new
stray_call asks {me} {old} {new} request reply asked stray s = record { before = old; request = request; reply = reply; first = nothing_yet; asked = asked; stray = stray; last = s }

-- after other calls
pub stray_after : {observed : Bool} {asks : Request → Bool} {a b : DirAt} (c : DirAt) → observed ≡ true → OnlyAsks observed asks a b → EndsWithStrayBuilding asks b c → EndsWithStrayBuilding asks a c
stray_after {observed} {asks} {a} {b} c t ab w =
    let v = subst (λ (p : ℕ). WasStrayBuilding asks p b.trace c.trace) ab.same w in
    record { before = v.before; request = v.request; reply = v.reply; first = and_more (ab.extends t) refl v.first; asked = v.asked; stray = v.stray; last = v.last }

pub stray_wider : (asks more : Request → Bool) (old new : DirAt) → ((r : Request) → asks r ≡ true → more r ≡ true) → EndsWithStrayBuilding asks old new → EndsWithStrayBuilding more old new
stray_wider asks more old new wider w = record { before = w.before; request = w.request; reply = w.reply; first = extends_wider wider w.first; asked = wider w.request w.asked; stray = w.stray; last = w.last }
