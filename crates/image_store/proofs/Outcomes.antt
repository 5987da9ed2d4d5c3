-- What an import leaves, from step to step.
use Rattle.std.proofs.Common.{◌≡◌, ℕ, Bool, true, false, not, ◌&&◌, Some, None, Result, Ok, Err, List, ◌∷◌, ◌++◌, refl, sym, ap, subst, ◌∙◌, append_assoc}
use Rattle.std.specs.List.{list_any}
use Rattle.dir_model.specs.declared.area.Area.{Area}
use Rattle.dir_model.specs.declared.area.Area.TheVariants.{Incoming, Images}
use Rattle.dir_model.specs.declared.event.Event.{Event}
use Rattle.dir_model.specs.declared.intent.Intent.{Intent}
use Rattle.dir_model.specs.declared.pod.PodId.{PodId}
use Rattle.dir_model.specs.declared.spot.Handle.{Handle}
use Rattle.dir_model.specs.declared.spot.Mode.TheVariants.{Shared}
use Rattle.dir_model.specs.declared.spot.Spot.{Spot}
use Rattle.dir_model.specs.declared.request.Reply.TheVariants.{Done}
use Rattle.dir_model.specs.declared.request.Request.TheVariants.{MoveFolder}
use Rattle.dir_model.specs.Calls.{event}
use Rattle.dir_model.proofs.Lists.{and_false}
use Rattle.dir_rules.specs.declared.standing.Held.{Held}
use Rattle.dir_rules.specs.declared.seen.Entry.{Entry}
use Rattle.dir_rules.specs.declared.seen.Seen.{Seen}
use Rattle.dir_rules.specs.Standing.{is_in, is_handle_held, is_known}
use Rattle.dir_trait.specs.DirCalls.{DirAt, HeldBetween}
use Rattle.dir_trait.specs.Knowledge.{Knows}
use Rattle.lifecycle.specs.Executions.{IsConforming}
use Rattle.folder_contents.specs.Handing.{hands_over}
use Rattle.folder_contents.proofs.Handed.{processes_hand_over}
use Rattle.dir_files.specs.AreaLocks.{on_gate, with_gate, shared_given, IsBusyElsewhere}
use Rattle.folder_building.proofs.Following.{Follows, nothing_follows}
use Rattle.bundle_image.specs.declared.image.BundleImage.{BundleImage}
use Rattle.image_reading.specs.declared.error.StoreError.{StoreError}
use Rattle.image_reading.specs.Places.{image_spot}
use Rattle.image_store.specs.Requests.{building_spot}
use Rattle.image_store.specs.Work.{seen_importing, UnderImportLocks, WhereImporting, WhereImportFilled, holding, HasImportFolder, HasFilledImport, HasMovedImage, IsImagePlaced, Unbrought}
use Rattle.image_store.specs.Causes.{ImportBusyElsewhere}
use Rattle.image_store.specs.Imports.{key_of_image, IsOf, ImportLeaves, IsImported}
use Rattle.image_store.proofs.Widths.{held_after, held_before}

-- a move in a part of the time, and what it brought
moved_wider : (P Q : List Entry → Type 0) (me : ℕ) (from to : Spot) (a b c d more rest : List Event) → b ≡ a ++ more → d ≡ c ++ rest → ((es : List Entry) → P es → Q es) → HasMovedImage P me from to b c → HasMovedImage Q me from to a d
moved_wider P Q me from to a b c d more rest grown longer f x = record {
  before = x.before;
  later = x.later ++ rest;
  meanwhile = more ++ x.meanwhile;
  begins = x.begins ∙ (ap (λ h. h ++ x.meanwhile) grown ∙ append_assoc a more x.meanwhile);
  moved = longer ∙ (ap (λ h. h ++ rest) x.moved ∙ append_assoc x.before (event me (MoveFolder from to) Done ∷ x.later) rest);
  seen = x.seen;
  entries = x.entries;
  making = x.making;
  knew = x.knew;
  made = f x.entries x.made;
}

-- said of a longer time
pub moved_within : {observed : Bool} (P Q : List Entry → Type 0) (from to : Spot) (a b c d : DirAt) → observed ≡ true → Follows observed a b → Follows observed c d → ((es : List Entry) → P es → Q es) → HasMovedImage P b.process from to b.trace c.trace → HasMovedImage Q a.process from to a.trace d.trace
moved_within {observed} P Q from to a b c d t ab cd f x =
    let e = ab.extends t in
    let l = cd.extends t in
    moved_wider P Q a.process from to a.trace b.trace c.trace d.trace e.more l.more e.grown l.grown f (subst (λ (me : ℕ). HasMovedImage P me from to b.trace c.trace) ab.same x)

module _ (draw : PodId) (now : ℕ) (image : BundleImage) where
  -- after the folder was filled
  pub placed_leaves : {observed : Bool} {a b c : DirAt} (r : Result Bool StoreError) → observed ≡ true → Follows observed a b
      → (r ≡ Ok false → observed ≡ true → WhereImportFilled draw b (λ intent hs entries. IsImagePlaced draw (image_spot (key_of_image image)) intent hs entries b c))
      → Unbrought r (observed ≡ true → WhereImportFilled draw b (λ intent hs entries. Knows c (seen_importing intent hs true (Some (holding (building_spot draw) entries)))))
      → WhereImporting draw UnderImportLocks false None a (λ intent hs. HasFilledImport (IsOf image now) draw intent hs b)
      → WhereImporting draw UnderImportLocks false None a (λ intent hs. ImportLeaves draw now image intent hs r a c)
  placed_leaves {observed} {a} {b} {c} r t ab placed left filled intent hs imports under k = by r placed left
    where
      x : HasFilledImport (IsOf image now) draw intent hs b
      x = filled intent hs imports under k

      has : Knows c (seen_importing intent hs true (Some (holding (building_spot draw) x.entries))) → HasImportFolder draw intent hs c
      has knows = record { image_under_lock = true; making = Some (holding (building_spot draw) x.entries); own = refl; knows = knows }

      by : (r : Result Bool StoreError) → (r ≡ Ok false → observed ≡ true → WhereImportFilled draw b (λ intent hs entries. IsImagePlaced draw (image_spot (key_of_image image)) intent hs entries b c)) → Unbrought r (observed ≡ true → WhereImportFilled draw b (λ intent hs entries. Knows c (seen_importing intent hs true (Some (holding (building_spot draw) entries))))) → ImportLeaves draw now image intent hs r a c
      by (Ok false) placed left =
          let p = placed refl t intent hs x.entries imports under x.knows in
          record { entries = x.entries; made = x.made; knows = p.knows; moved = moved_within (λ es. es ≡ x.entries) (IsOf image now) (building_spot draw) (image_spot (key_of_image image)) a b c c t ab nothing_follows (λ es is. subst (IsOf image now) (sym is) x.made) p.moved }
      by (Ok true) placed left = has (left t intent hs x.entries imports under x.knows)
      by (Err e) placed left = has (left t intent hs x.entries imports under x.knows)

  -- once a lock is given back
  pub given_leaves : {observed : Bool} {a b c d : DirAt} (area : Area) (h : Handle) (r : Result Bool StoreError) → observed ≡ true → Follows observed a b → Follows observed c d
      → ((s : Seen) → is_known h s.standing ≡ false → Knows c (with_gate s h area (Some Shared)) → Knows d (shared_given area s))
      → (intent : Intent) (hs : List Held) → list_any (is_handle_held h) hs ≡ false → ImportLeaves draw now image intent (on_gate h area (Some Shared) ∷ hs) r b c → ImportLeaves draw now image intent hs r a d
  given_leaves {observed} {a} {b} {c} {d} area h (Ok false) t ab cd given intent hs new x = record {
    entries = x.entries;
    made = x.made;
    knows = subst (λ (s : Bool). Knows d (seen_importing intent hs s (Some (holding (image_spot (key_of_image image)) x.entries)))) (and_false (not (is_in Incoming area))) (given (seen_importing intent hs false (Some (holding (image_spot (key_of_image image)) x.entries))) new x.knows);
    moved = moved_within (IsOf image now) (IsOf image now) (building_spot draw) (image_spot (key_of_image image)) a b c d t ab cd (λ es is. is) x.moved;
  }
  given_leaves {observed} {a} {b} {c} {d} area h (Ok true) t ab cd given intent hs new x = record { image_under_lock = not (is_in Incoming area) && x.image_under_lock; making = x.making; own = x.own; knows = given (seen_importing intent hs x.image_under_lock x.making) new x.knows }
  given_leaves {observed} {a} {b} {c} {d} area h (Err e) t ab cd given intent hs new x = record { image_under_lock = not (is_in Incoming area) && x.image_under_lock; making = x.making; own = x.own; knows = given (seen_importing intent hs x.image_under_lock x.making) new x.knows }

  -- said of a longer time
  pub leaves_after : {observed : Bool} (intent : Intent) (hs : List Held) (a b c : DirAt) (r : Result Bool StoreError) → observed ≡ true → Follows observed a b → ImportLeaves draw now image intent hs r b c → ImportLeaves draw now image intent hs r a c
  leaves_after {observed} intent hs a b c (Ok false) t ab x = record { entries = x.entries; made = x.made; knows = x.knows; moved = moved_within (IsOf image now) (IsOf image now) (building_spot draw) (image_spot (key_of_image image)) a b c c t ab nothing_follows (λ es is. is) x.moved }
  leaves_after {observed} intent hs a b c (Ok true) t ab x = x
  leaves_after {observed} intent hs a b c (Err e) t ab x = x

-- nothing was made yet
pub has_nothing : {draw : PodId} {intent : Intent} {hs : List Held} {d : DirAt} → Knows d (seen_importing intent hs false None) → HasImportFolder draw intent hs d
has_nothing k = record { image_under_lock = false; making = None; own = tt; knows = k }

-- a lock that was held elsewhere, said of a longer time
pub elsewhere_after : {observed : Bool} {e : StoreError} (a b c : DirAt) → observed ≡ true → Follows observed a b → ImportBusyElsewhere e b c → ImportBusyElsewhere e a c
elsewhere_after {observed} {e} a b c t ab x area is = held_after a b c ab t (subst (λ (me : ℕ). HeldBetween b c (IsBusyElsewhere me area Shared)) ab.same (x area is))

pub elsewhere_before : {observed : Bool} {e : StoreError} (a b c : DirAt) → observed ≡ true → b.process ≡ a.process → ImportBusyElsewhere e a b → Follows observed b c → ImportBusyElsewhere e a c
elsewhere_before a b c t same x bc area is = held_before a b c same bc t (x area is)

-- where the execution conforms, what was brought stands there just after the move
pub imported_by : {P : List Entry → Type 0} {me : ℕ} (draw : PodId) {to : Spot} {old new : List Event} → to.area ≡ Images → IsConforming new → HasMovedImage P me (building_spot draw) to old new → IsImported me (building_spot draw) to P old new
imported_by {P} {me} draw {to} {old} {new} images conforms x =
    let h = processes_hand_over new conforms x.before me (building_spot draw) to x.later x.seen (holding (building_spot draw) x.entries) x.moved (ap (λ (area : Area). hands_over Incoming area) images) x.knew x.making refl in
    record { before = x.before; later = x.later; meanwhile = x.meanwhile; begins = x.begins; moved = x.moved; folder = h.0; stands = h.1.0; holds = subst P (sym h.1.1) x.made }
