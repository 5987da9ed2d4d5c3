-- The command `image list`: its calls one after the other.
use Rattle.std.proofs.Common.{◌≡◌, ◌⊎◌, inl, inr, Bool, true, false, ◌&&◌, ◌==◌, List, Some, Result, Ok, Err, IfOk, IfErr, IsErrOf, refl, sym, ap, subst, ◌∙◌}
use Rattle.std.proofs.lemmas.Bool.{or_left}
use Rattle.dep_match.specs.declared.stored.Stored.{Stored}
use Rattle.dir_model.specs.declared.area.Area.TheVariants.{Images}
use Rattle.dir_model.specs.declared.opening.Target.TheVariants.{Gate}
use Rattle.dir_model.specs.declared.request.Request.{Request}
use Rattle.dir_model.specs.declared.request.Request.TheVariants.{Close}
use Rattle.dir_model.specs.declared.spot.Handle.{Handle}
use Rattle.dir_model.specs.declared.spot.Mode.TheVariants.{Shared}
use Rattle.dir_model.specs.Calls.{Extends}
use Rattle.dir_model.specs.Local.{Local, IsUnopened, IsOpen, without}
use Rattle.dir_model.proofs.Lists.{and_left, not_true, or_last, any_last, any_fewer, same_self}
use Rattle.dir_model.proofs.Chains.{and_more, extends_wider}
use Rattle.dir_model.proofs.Holdings.{closed_after_lock}
use Rattle.dir_rules.specs.declared.seen.Seen.{Seen}
use Rattle.dir_rules.specs.declared.seen.ShownArea.{ShownArea}
use Rattle.dir_rules.specs.Standing.{is_known, excludes_area, is_gate_exclusive, is_gate_of}
use Rattle.dir_rules.specs.LockRules.{is_same_target}
use Rattle.dir_trait.specs.DirCalls.{DirAt, ExtendsBy}
use Rattle.dir_trait.specs.Knowledge.{Knows}
use Rattle.dir_files.specs.AreaLocks.{is_taking_area, closes, and_area_lock, with_gate, is_free_of, shared_given}
use Rattle.dir_files.specs.declared.lock_error.LockError.{LockError}
use Rattle.dir_files.specs.declared.lock_error.LockError.TheVariants as lock_error
use Rattle.dir_files.proofs.Locking.{locked_by, locked_open}
use Rattle.image_reading.specs.declared.error.StoreError.{StoreError}
use Rattle.image_reading.specs.declared.error.StoreError.TheVariants.{Damaged, DirFault}
use Rattle.image_reading.specs.Looks.{reads_images, is_images_lock, HoldsImages, KnowsStillNamed}
use Rattle.image_reading.specs.Refusals.{IsReadRefusal}
use Rattle.image_reading.specs.Store.{ReadsStore, IsStorePath, LacksStore}
use Rattle.lifecycle.specs.Executions.{IsConforming}
use Rattle.standing_images.specs.Images.{StoodTogether}
use Rattle.command_outcomes.specs.declared.refusal.Refusal.{Refusal}
use Rattle.command_outcomes.specs.declared.refusal.Refusal.TheVariants as refusal
use Rattle.command_outcomes.specs.Moments.{CommandOutcome}
use Rattle.commands.specs.ImageList.{images_text, image_list_refusal, lists_images, images_lock_refusal, images_read_refusal, FindsFree, ImageListSays, WhereFree}
use Rattle.commands.proofs.Parts.{Part, store_wider, lacks_wider}

-- the lock that was had is open and held
pub holds_lock : {b : Local} (m : Local) (gate : Handle) → b ≡ and_area_lock m gate Images Shared → HoldsImages b gate
holds_lock m gate is = subst (λ (x : Local). HoldsImages x gate) (sym is) (any_last (is_images_lock gate) m.holdings _ (ap (λ b. b && true) (same_self gate.number)))

pub lock_open : {b c : Local} (m : Local) (gate : Handle) → b ≡ and_area_lock m gate Images Shared → c ≡ b → IsOpen c gate
lock_open m gate is same = subst (λ (x : Local). IsOpen x gate) (sym same) (locked_open m gate Images Shared is)

-- and what was open before is, once it is given back
pub given_back : {b c d : Local} (m : Local) (gate : Handle) → IsUnopened m gate → b ≡ and_area_lock m gate Images Shared → c ≡ b → d ≡ without c gate → d ≡ m
given_back m gate new had same gone =
    gone ∙ (ap (λ (x : Local). without x gate) (same ∙ (had ∙ sym (locked_by m gate Images Shared new refl refl))) ∙ closed_after_lock m gate (Gate Images) new Shared)

closes_lists : (gate : Handle) (r : Request) → closes gate r ≡ true → lists_images r ≡ true
closes_lists gate (Close given) h = refl
closes_lists gate r h = cc

pub takes_lists : (r : Request) → is_taking_area Images Shared r ≡ true → lists_images r ≡ true
takes_lists r h = or_left (is_taking_area Images Shared r) (reads_images r) h

module _ (a b c d : DirAt) (gate : Handle) (lock : ExtendsBy (is_taking_area Images Shared) a b) (mine : b.process ≡ a.process) (read : ExtendsBy reads_images b c)
    (same : c.process ≡ b.process) (gone : ExtendsBy (closes gate) c d) where
  pub list_extends : ExtendsBy lists_images a d
  list_extends =
      let first : Extends lists_images a.process a.trace b.trace = extends_wider takes_lists lock in
      let second : Extends lists_images b.process b.trace c.trace = extends_wider (λ r h. or_last (is_taking_area Images Shared r) (reads_images r) h) read in
      let third : Extends lists_images c.process c.trace d.trace = extends_wider (closes_lists gate) gone in
      and_more (and_more first mine second) (same ∙ mine) third

  pub list_part : Part a b c d
  list_part = record { earlier = lock.more; later = gone.more; same = mine; begins = lock.grown; ends = gone.grown }

-- whatever the process knew, it knows
pub list_known : {a b c d : DirAt} {s : Seen} (gate : Handle) → IsUnopened a.local gate → Knows a s → is_free_of Images s ≡ true →
    Knows b (with_gate s gate Images (Some Shared)) → KnowsStillNamed b c →
    (is_known gate s.standing ≡ false → Knows c (with_gate s gate Images (Some Shared)) → Knows d (shared_given Images s)) → Knows d s
list_known {a} {b} {c} {d} {s} gate new k free kb named given = given fresh kc
  where
    fresh : is_known gate s.standing ≡ false
    fresh = k.handles (λ h. h.handle.number == gate.number) ∙ new

    open_gate : Seen
    open_gate = with_gate s gate Images (Some Shared)

    unclosed : excludes_area Images (with_gate s gate Images (Some Shared)).standing ≡ false
    unclosed = any_fewer (is_gate_exclusive Images) (λ h. is_same_target (Gate Images) h.target) (λ h is. and_left (is_gate_of Images h.target) _ is) s.standing.holdings (not_true _ free)

    kc : Knows c (with_gate s gate Images (Some Shared))
    kc =
        let n = named (with_gate s gate Images (Some Shared)) kb in
        subst (λ (areas : List ShownArea). Knows c (record (with_gate s gate Images (Some Shared)) { areas = areas })) (n.shared unclosed) n.knows

-- what comes of the images that were read
module _ {V : Type 0} (items : V → List Stored) (observed : Bool) (a b c d : DirAt) (o : CommandOutcome) where
  abbrev Lists : Result V StoreError → Type 0
  Lists found = IfOk found (λ v. (o ≡ Ok (images_text (items v))) ⊎ (o ≡ Err refusal.NoMemory))

  abbrev Refuses : Result V StoreError → Type 0
  Refuses found = IfErr found (λ e. o ≡ Err (images_read_refusal e))

  abbrev Says : CommandOutcome → Type 0
  Says x = ImageListSays observed a d x

  pub list_says : (found : Result V StoreError) → Lists found → Refuses found → IfErr found (IsReadRefusal IsStorePath) → (observed ≡ true → Part a b c d) →
      IfOk found (λ v. observed ≡ true → ReadsStore (items v) b c) → IfErr found (λ e. observed ≡ true → LacksStore e b c) →
      ((images : List Stored) → (observed ≡ true → ReadsStore images b c) → WhereFree observed a (IsConforming d.trace → StoodTogether images a.process a.trace d.trace)) →
      (observed ≡ true → FindsFree a d) → Says o
  list_says (Ok v) (inl e) refuses at part read lacks stands free = subst Says (sym e) (
    record { images = items v; free = free; told = λ t. store_wider (part t) (items v) (read t); is = refl },
    λ t s k unheld conforming. record { images = items v; is = refl; stood = stands (items v) read t s k unheld conforming },
  )
  list_says (Ok v) (inr e) refuses at part read lacks stands free = subst Says (sym e) tt
  list_says (Err (Damaged path)) lists e at part read lacks stands free =
      subst Says (sym e) (record { place = at; free = free; told = λ t. lacks_wider (part t) path (lacks t tt) })
  list_says (Err error) lists e at part read lacks stands free = subst Says (sym e) tt

  pub list_refusals : (found : Result V StoreError) → Lists found → Refuses found → IfErr o (λ r. image_list_refusal r ≡ true)
  list_refusals (Ok v) (inl e) refuses = subst (λ (x : CommandOutcome). IfErr x (λ r. image_list_refusal r ≡ true)) (sym e) tt
  list_refusals (Ok v) (inr e) refuses = subst (λ (x : CommandOutcome). IfErr x (λ r. image_list_refusal r ≡ true)) (sym e) refl
  list_refusals (Err (Damaged path)) lists e = subst (λ (x : CommandOutcome). IfErr x (λ r. image_list_refusal r ≡ true)) (sym e) refl
  list_refusals (Err error) lists e = subst (λ (x : CommandOutcome). IfErr x (λ r. image_list_refusal r ≡ true)) (sym e) refl

  pub list_cause : (found : Result V StoreError) → Lists found → Refuses found → IsErrOf o refusal.DirFault → IsErrOf found DirFault
  list_cause (Ok v) (inl e) refuses is = cc
  list_cause (Ok v) (inr e) refuses is = let f : Err refusal.NoMemory ≡ Err refusal.DirFault = sym e ∙ is in cc
  list_cause (Err DirFault) lists e is = refl
  list_cause (Err error) lists e is = let f : Err (images_read_refusal error) ≡ Err refusal.DirFault = sym e ∙ is in cc

-- where the lock wasn't had
pub lock_cause : (e : LockError) (r : Refusal) → r ≡ images_lock_refusal e → r ≡ refusal.DirFault → e ≡ lock_error.DirFault
lock_cause lock_error.DirFault r same is = refl
lock_cause e r same is = let f : images_lock_refusal e ≡ refusal.DirFault = sym same ∙ is in cc
