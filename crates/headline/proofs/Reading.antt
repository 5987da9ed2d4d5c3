-- What is read of a pod is what its maker made.
use Rattle.std.proofs.Common.{◌≡◌, ℕ, Bool, true, false, not, ◌&&◌, cond, bytes_eq, Option, Some, None, is_some, filter, List, [], ◌∷◌, ◌++◌, take, drop, refl, sym, ap, subst, ◌∙◌}
use Rattle.std.specs.List.{flat_map}
use Rattle.plain_laws.proofs.Texts.{same_text}
use Rattle.dir_model.specs.declared.event.Event.{Event}
use Rattle.dir_model.specs.declared.item.Inner.{Inner}
use Rattle.dir_model.specs.declared.tree.TreeEntry.{TreeEntry}
use Rattle.dir_model.specs.declared.request.Request.TheVariants.{ReadIn}
use Rattle.dir_model.specs.declared.request.Reply.TheVariants.{Read}
use Rattle.dir_model.specs.Calls.{event}
use Rattle.dir_model.specs.State.{DirState, folder_at}
use Rattle.dir_model.specs.Trace.{state_after}
use Rattle.dir_model.specs.Trees.{bytes_of}
use Rattle.dir_model.specs.Replies.{is_reply, is_state_reply, is_any_reply, is_read_answer, is_apps_request, refused_in, file_refusal}
use Rattle.dir_rules.specs.declared.seen.Entry.{Entry}
use Rattle.lifecycle.proofs.Deletions.{reply_at}
use Rattle.lifecycle.proofs.Draws.{conforming_left}
use Rattle.folder_contents.specs.Entries.{entries_in, file_bytes}
use Rattle.folder_contents.proofs.ReadFiles.{reads_tell_files}
use Rattle.folder_contents.specs.Filled.{is_note, lasting}
use Rattle.pod_build.specs.LegalExecutions.{IsLegal}
use Rattle.headline.specs.Roots.{PodsReadAsMade}
use Rattle.headline.proofs.Standing.{legal_before, pods_stand}

-- the file at a path that is no note is among what lasts
module _ (path : List ℕ) (lasts : is_note path ≡ false) where
  abbrev here : Entry → Bool
  here e = bytes_eq e.path path

  kept : (es : List Entry) → filter here (lasting es) ≡ filter here es
  kept [] = refl
  kept (e ∷ es) = by (is_note e.path) refl (here e) refl (kept es)
    where
      by : (b : Bool) → is_note e.path ≡ b → (c : Bool) → here e ≡ c → filter here (lasting es) ≡ filter here es →
          filter here (cond (not b) (e ∷ lasting es) (lasting es)) ≡ cond c (e ∷ filter here es) (filter here es)
      by true noted true same go = let clash : true ≡ false = sym noted ∙ (ap is_note (same_text e.path path same) ∙ lasts) in cc
      by true noted false apart go = go
      by false stays c is go = ap (λ d. cond d (e ∷ filter here (lasting es)) (filter here (lasting es))) is ∙ ap (λ (l : List Entry). cond c (e ∷ l) l) go

  pub lasting_bytes : (es : List Entry) → file_bytes path (lasting es) ≡ file_bytes path es
  lasting_bytes es = ap (λ (l : List Entry). flat_map (λ e. bytes_of e.node) l) (kept es)

-- a file is read only where a folder stands
read_by : (path : List ℕ) (es : List TreeEntry) (o : Option ℕ) (so : Bool) → (not (is_some (refused_in (file_refusal path) es o)) && so) ≡ true →
    (folder : ℕ) × (o ≡ Some folder)
read_by path es (Some folder) so is = (folder, refl)
read_by path es None so is = cc

read_where : (s : DirState) (p : ℕ) (inner : Inner) (at room : ℕ) (bytes : List ℕ) → is_apps_request s (ReadIn inner at room) ≡ false →
    is_reply s p (ReadIn inner at room) (Read bytes) ≡ true → (folder : ℕ) × (folder_at s.namespace inner.spot ≡ Some folder)
read_where s p inner at room bytes plain is =
    read_by inner.path s.entries (folder_at s.namespace inner.spot) (is_read_answer s (ReadIn inner at room) bytes)
    (sym (ap (λ b. cond b (is_any_reply s p (ReadIn inner at room) (Read bytes)) (is_state_reply s p (ReadIn inner at room) (Read bytes))) plain) ∙ is)

pub pods_read : (trace : List Event) → IsLegal trace → PodsReadAsMade trace
pods_read trace legal before later p inner at room bytes is filled lasts plain =
    let e : Event = event p (ReadIn inner at room) (Read bytes) in
    let whole : IsLegal (before ++ e ∷ later) = subst IsLegal is legal in
    let now = legal_before before (e ∷ later) (conforming_left before (e ∷ later) whole.conforms) whole in
    let found = read_where (state_after before) p inner at room bytes plain (reply_at before p (ReadIn inner at room) (Read bytes) later whole.conforms.run) in
    let pod = pods_stand before now inner.spot found.0 filled found.1 in
    record {
      pod = record { folder = found.0; there = found.1; filled = pod };
      part = reads_tell_files trace legal.conforms.run before p inner at room bytes later found.0 is plain found.1
          ∙ ap (λ (l : List ℕ). take room (drop at l)) (sym (lasting_bytes inner.path lasts (entries_in found.0 (state_after before).entries)) ∙ ap (file_bytes inner.path) pod.holds);
    }
