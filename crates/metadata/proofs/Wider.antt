-- What is told of a part of a time is told of the whole.
use Rattle.std.proofs.Common.{◌≡◌, inl, inr, ℕ, Bool, None, List, [], ◌∷◌, ◌++◌, refl, sym, ap, subst, ◌∙◌, append_assoc, append-nil}
use Rattle.dir_model.specs.declared.event.Event.{Event}
use Rattle.dir_model.specs.declared.item.Inner.{Inner}
use Rattle.dir_model.specs.declared.pod.PodId.{PodId}
use Rattle.dir_model.specs.declared.request.Request.{Request}
use Rattle.dir_model.specs.Calls.{AtOwnStep}
use Rattle.dir_model.specs.State.{DirState}
use Rattle.dir_model.proofs.Moments.{at_within}
use Rattle.dir_trait.specs.DirCalls.{DirAt, ExtendsBy}
use Rattle.image_reading.specs.Files.{ReadsFile, LacksFile}
use Rattle.image_reading.specs.Within.{Within}
use Rattle.phase_read.specs.Exact.{AtOwnEvent}
use Rattle.phase_read.proofs.Exact.{event_within}
use Rattle.pod_lookup.proofs.Shown.{conforms}
use Rattle.metadata_reply.specs.Views.{ViewData}
use Rattle.metadata.specs.PodViews.{ReadsAppImages, LacksImageOf, HasFiles, LacksView, WasRunning, WasNotRunning, IsViewOf, HasNoView, TellsNamed}
use Rattle.metadata.specs.Finding.{NoneOf}

-- the second and the third moment lie between the others
pub record Wider (old first last new : DirAt) : Type 0 where
  pub same : first.process ≡ old.process
  pub earlier : List Event
  pub begins : first.trace ≡ old.trace ++ earlier
  pub later : List Event
  pub ends : new.trace ≡ last.trace ++ later

pub wider_after : {asks : Request → Bool} (a b c : DirAt) → b.process ≡ a.process → ExtendsBy asks a b → Wider a b c c
wider_after a b c same ab = record { same = same; earlier = ab.more; begins = ab.grown; later = []; ends = sym (append-nil c.trace) }

pub wider_before : {asks : Request → Bool} (a b c : DirAt) → ExtendsBy asks b c → Wider a a b c
wider_before a b c bc = record { same = refl; earlier = []; begins = sym (append-nil a.trace); later = bc.more; ends = bc.grown }

module _ {old first last new : DirAt} (w : Wider old first last new) where
  at_event : {P : List Event → Type 0} → AtOwnEvent first.process first.trace last.trace P → AtOwnEvent old.process old.trace new.trace P
  at_event {P} at = event_within w.earlier w.later w.begins w.ends (subst (λ (me : ℕ). AtOwnEvent me first.trace last.trace P) w.same at)

  at_step : {P : DirState → Type 0} → AtOwnStep first.process first.trace last.trace P → AtOwnStep old.process old.trace new.trace P
  at_step {P} at = at_within w.earlier w.later w.begins w.ends (subst (λ (me : ℕ). AtOwnStep me first.trace last.trace P) w.same at)

  pub within : {R : DirAt → DirAt → Type 0} → Within R first last → Within R old new
  within {R} x = record {
    first = x.first;
    last = x.last;
    earlier = w.earlier ++ x.earlier;
    later = x.later ++ w.later;
    same = x.same ∙ w.same;
    begins = x.begins ∙ (ap (λ h. h ++ x.earlier) w.begins ∙ append_assoc old.trace w.earlier x.earlier);
    ends = w.ends ∙ (ap (λ h. h ++ w.later) x.ends ∙ append_assoc x.last.trace x.later w.later);
    told = x.told;
  }

  pub reads_wider : {inner : Inner} {most : ℕ} {P : List ℕ → Type 0} → ReadsFile inner most P first last → ReadsFile inner most P old new
  reads_wider r = record { bytes = r.bytes; few = r.few; read = within r.read; holds = r.holds }

  pub lacks_wider : (inner : Inner) (most : ℕ) (P : List ℕ → Type 0) → LacksFile inner most P first last → LacksFile inner most P old new
  lacks_wider inner most P (inl missing) = inl (at_step missing)
  lacks_wider inner most P (inr read) = inr (reads_wider read)

  pub running_wider : (pod : PodId) → WasRunning pod first last → WasRunning pod old new
  running_wider pod was conforming = at_event (was (conforms last.trace new.trace w.later w.ends conforming))

  pub stopped_wider : (pod : PodId) → WasNotRunning pod first last → WasNotRunning pod old new
  stopped_wider pod was conforming = at_event (was (conforms last.trace new.trace w.later w.ends conforming))

  pub images_wider : (pod : PodId) (apps images : List (List ℕ)) → ReadsAppImages pod apps images first last → ReadsAppImages pod apps images old new
  images_wider pod [] [] are = tt
  images_wider pod [] (image ∷ images) are = absurd are
  images_wider pod (app ∷ apps) [] are = absurd are
  images_wider pod (app ∷ apps) (image ∷ images) are = (reads_wider are.0, images_wider pod apps images are.1)

  pub lacks_image_wider : (pod : PodId) (apps : List (List ℕ)) → LacksImageOf pod apps first last → LacksImageOf pod apps old new
  lacks_image_wider pod apps l = record { before = l.before; app = l.app; after = l.after; among = l.among; lacks = lacks_wider _ _ _ l.lacks }

  pub files_wider : (pod : PodId) (v : ViewData) → HasFiles pod v first last → HasFiles pod v old new
  files_wider pod v f = record { uuid = f.uuid; manifest = reads_wider f.manifest; images = images_wider pod _ v.images f.images }

  pub lacks_view_wider : (pod : PodId) → LacksView pod first last → LacksView pod old new
  lacks_view_wider pod (inl l) = inl (lacks_wider _ _ _ l)
  lacks_view_wider pod (inr l) = inr (record { manifest = l.manifest; read = reads_wider l.read; lacks = lacks_image_wider pod _ l.lacks })

  pub view_wider : (pod : PodId) (digits : List ℕ) (v : ViewData) → IsViewOf pod digits v first last → IsViewOf pod digits v old new
  view_wider pod digits v is = record { named = reads_wider is.named; running = running_wider pod is.running; files = files_wider pod v is.files }

  pub no_view_wider : (pod : PodId) (digits : List ℕ) → HasNoView pod digits first last → HasNoView pod digits old new
  no_view_wider pod digits (inl stopped) = inl (stopped_wider pod stopped)
  no_view_wider pod digits (inr (inl other)) = inr (inl (lacks_wider _ _ _ other))
  no_view_wider pod digits (inr (inr lacks)) = inr (inr (lacks_view_wider pod lacks))

  pub named_wider : (name digits : List ℕ) → TellsNamed name digits None first last → TellsNamed name digits None old new
  named_wider name digits none pod is = no_view_wider pod digits (none pod is)

  pub none_wider : (names : List (List ℕ)) (digits : List ℕ) → NoneOf names digits first last → NoneOf names digits old new
  none_wider [] digits none = tt
  none_wider (name ∷ names) digits none = (named_wider name digits none.0, none_wider names digits none.1)
