-- The laws as a caller meets them, by what its own calls promised and what it knows.
use Rattle.std.proofs.Common.{◌≡◌, ℕ, Bool, true, false, Some, None, List, [], ◌∷◌, ◌++◌, append_assoc, append-nil, refl, sym, ap, subst, ◌∙◌}
use Rattle.dir_model.specs.declared.area.Area.TheVariants.{Images}
use Rattle.dir_model.specs.declared.event.Event.{Event}
use Rattle.dir_model.specs.declared.spot.Spot.{Spot}
use Rattle.dir_model.specs.declared.request.Request.{Request}
use Rattle.dir_model.specs.declared.request.Reply.{Reply}
use Rattle.dir_model.specs.State.{DirState, empty_state, lives, stands, folder_at}
use Rattle.dir_model.specs.Trace.{state_after}
use Rattle.dir_model.specs.Calls.{is_kill, event}
use Rattle.dir_model.proofs.Chains.{states_next-append}
use Rattle.dir_model.proofs.Lists.{same_rest, same_self}
use Rattle.dir_model.proofs.Moments.{some_number}
use Rattle.dir_rules.specs.declared.seen.Seen.{Seen}
use Rattle.dir_rules.specs.Standing.{is_in}
use Rattle.dir_trait.specs.DirCalls.{DirAt, ExtendsBy}
use Rattle.dir_files.specs.Reads.{inner_at, file_at, FileStaysBetween}
use Rattle.dir_model.specs.declared.item.Item.{Item}
use Rattle.dir_laws.proofs.Living.{lived_first}
use Rattle.dir_files.specs.Listed.{Stretch, ShowsArea, ShowsAreaBetween, ShowsDirectory, ShowsDirectoryBetween}
use Rattle.folder_contents.specs.Entries.{entries_in}
use Rattle.folder_contents.proofs.GateKept.{gate_is_kept}
use Rattle.folder_contents.proofs.UnderGate.{images_stay_shared}
use Rattle.gate_reading.proofs.ImageItems.{listings_tell}
use Rattle.gate_reading.proofs.AreaNames.{areas_tell}
use Rattle.gate_reading.specs.Listings.{ShowsEntries}
use Rattle.gate_reading.specs.Areas.{NamesImages}
use Rattle.gate_reading.specs.Gate.{HasGate, GoesOnUnderLock}
use Rattle.gate_reading.specs.Files.{is_outside_stage1, FindsFrom}
use Rattle.gate_reading.proofs.StoredFiles.{finds, files_stay, none_comes}
use Rattle.gate_reading.proofs.GoingOn.{begins_never, lived_at_first, has_gate, whole_trace}

module _ {asks : Request → Bool} {s : Seen} {old new : DirAt} (g : GoesOnUnderLock asks s old new) where
  -- a file that stands there stays
  pub file_stays : (spot : Spot) (path file : List ℕ) → is_in Images spot.area ≡ true → is_outside_stage1 path ≡ true →
      file_at (state_after old.trace) (inner_at spot path) ≡ Some file → FileStaysBetween (inner_at spot path) file old new
  file_stays spot path file is plain found x rest step split own =
      files_stay new.trace g.conforms old.process old.trace g.extends.more [] spot path file (whole_trace g) is plain
      (has_gate g (lived_at_first g x rest step split own)) found x rest step (sym g.extends.grown ∙ split) own

  -- in an image that stands, the file at a path stays, or stays missing
  pub file_found : (spot : Spot) (path : List ℕ) → is_in Images spot.area ≡ true → is_outside_stage1 path ≡ true →
      stands (state_after old.trace).namespace spot ≡ true →
      FindsFrom old.process (inner_at spot path) (file_at (state_after old.trace) (inner_at spot path)) old.trace new.trace
  file_found spot path is plain there x rest step split own =
      let k = some_number (folder_at (state_after old.trace).namespace spot) there in
      finds new.trace g.conforms old.process old.trace g.extends.more [] spot path k.0 (whole_trace g) is plain
      (has_gate g (lived_at_first g x rest step split own)) k.1 x rest step (sym g.extends.grown ∙ split) own

  -- where an image has none, none comes
  pub none_stays : (spot : Spot) (path : List ℕ) → is_in Images spot.area ≡ true → is_outside_stage1 path ≡ true →
      stands (state_after old.trace).namespace spot ≡ true → file_at (state_after old.trace) (inner_at spot path) ≡ None →
      FindsFrom old.process (inner_at spot path) None old.trace new.trace
  none_stays spot path is plain there none x rest step split own =
      none_comes new.trace g.conforms old.process old.trace g.extends.more [] spot path (whole_trace g) is plain
      (has_gate g (lived_at_first g x rest step split own)) there none x rest step (sym g.extends.grown ∙ split) own

  -- an image that stands there stays, up to a moment at which the process still lives
  pub image_stays : (spot : Spot) (folder : ℕ) → is_in Images spot.area ≡ true →
      folder_at (state_after old.trace).namespace spot ≡ Some folder → lives (state_after new.trace).namespace old.process ≡ true →
      (folder_at (state_after new.trace).namespace spot ≡ Some folder) ×
      (entries_in folder (state_after new.trace).entries ≡ entries_in folder (state_after old.trace).entries)
  image_stays spot folder is at living =
      let more : List Event = g.extends.more in
      let last : lives (state_after (old.trace ++ more)).namespace old.process ≡ true =
      subst (λ (h : List Event). lives (state_after h).namespace old.process ≡ true) g.extends.grown living in
      let first = lived_first old.process (state_after old.trace) more (begins_never g)
      (subst (λ (z : DirState). lives z.namespace old.process ≡ true) (states_next-append empty_state old.trace more) last) in
      let gate = has_gate g first in
      let knows = gate_is_kept new.trace g.conforms old.process old.trace more [] (whole_trace g) gate.shares last gate.keeps in
      let here = images_stay_shared new.trace g.conforms old.process old.trace more [] spot folder (whole_trace g) is knows at
      more [] (sym (append-nil more)) in
      subst (λ (h : List Event). (folder_at (state_after h).namespace spot ≡ Some folder) ×
      (entries_in folder (state_after h).entries ≡ entries_in folder (state_after old.trace).entries)) (sym g.extends.grown) here

  -- a listing that ends the stretch is an own step
  module _ {mid : List Event} {request : Request} {reply : Reply} (x : List Event) (begins : mid ≡ old.trace ++ x)
      (alive : is_kill request ≡ false) (st : Stretch old.process mid new.trace request reply) where
    abbrev last : Event
    last = event old.process request reply

    abbrev y : List Event
    y = st.earlier ++ (st.others ++ last ∷ [])

    ends : new.trace ≡ (old.trace ++ (x ++ (st.earlier ++ st.others))) ++ last ∷ []
    ends = st.ends
        ∙ (ap (λ (h : List Event). (h ++ st.others) ++ last ∷ []) (st.begins ∙ ap (λ (h : List Event). h ++ st.earlier) begins)
        ∙ simp append_assoc)

    in_parts : new.trace ≡ (old.trace ++ x) ++ y
    in_parts = ends ∙ simp append_assoc

    listed_gate : HasGate old.process old.trace (x ++ y)
    listed_gate =
        let living = lived_at_first g (x ++ (st.earlier ++ st.others)) [] last
        (ends ∙ sym (append-nil ((old.trace ++ (x ++ (st.earlier ++ st.others))) ++ last ∷ []))) (rw (same_self old.process) alive) in
        subst (λ (l : List Event). HasGate old.process old.trace l)
        (same_rest old.trace g.extends.more (x ++ y) (sym g.extends.grown ∙ (in_parts ∙ append_assoc old.trace x y)))
        (has_gate g living)

    listed_whole : new.trace ≡ ((old.trace ++ x) ++ y) ++ []
    listed_whole = in_parts ∙ sym (append-nil ((old.trace ++ x) ++ y))

    -- the same stretch, in parts
    as_parts : (P : List Event → List Event → Type 0) → P mid new.trace → P (old.trace ++ x) ((old.trace ++ x) ++ y)
    as_parts P d = subst (λ (h : List Event). P h ((old.trace ++ x) ++ y)) begins (subst (λ (h : List Event). P mid h) in_parts d)

  -- a listing of the area that ends the stretch
  pub area_listed : {first : Request → Bool} (mid : DirAt) (names : List (List ℕ)) → ExtendsBy first old mid → mid.process ≡ old.process →
      ShowsAreaBetween mid new Images names → NamesImages (state_after old.trace) (state_after new.trace) names
  area_listed {first} mid names e same d =
      let shown = subst (λ (q : ℕ). ShowsArea q mid.trace new.trace Images names) same d in
      let rest = y e.more e.grown refl shown.stretch in
      subst (λ (h : List Event). NamesImages (state_after old.trace) (state_after h) names)
      (sym (in_parts e.more e.grown refl shown.stretch))
      (areas_tell new.trace g.conforms old.process old.trace e.more rest [] names (listed_whole e.more e.grown refl shown.stretch)
      (listed_gate e.more e.grown refl shown.stretch)
      (as_parts e.more e.grown refl shown.stretch (λ a b. ShowsArea old.process a b Images names) shown))

  -- a listing of an image that ends the stretch
  pub image_listed : {first : Request → Bool} (mid : DirAt) (spot : Spot) (folder : ℕ) (items : List Item) → ExtendsBy first old mid →
      mid.process ≡ old.process → is_in Images spot.area ≡ true → folder_at (state_after old.trace).namespace spot ≡ Some folder →
      ShowsDirectoryBetween mid new (inner_at spot []) items → ShowsEntries (entries_in folder (state_after old.trace).entries) items
  image_listed {first} mid spot folder items e same is at d =
      let shown = subst (λ (q : ℕ). ShowsDirectory q mid.trace new.trace (inner_at spot []) items) same d in
      let rest = y e.more e.grown refl shown.stretch in
      listings_tell new.trace g.conforms old.process old.trace e.more rest [] spot folder items (listed_whole e.more e.grown refl shown.stretch)
      is (listed_gate e.more e.grown refl shown.stretch) at
      (as_parts e.more e.grown refl shown.stretch (λ a b. ShowsDirectory old.process a b (inner_at spot []) items) shown)
