-- Stretches in which a process removed no folder.
use Rattle.std.proofs.Common.{◌≡◌, ◌⊎◌, inl, inr, ◌||◌, ℕ, Bool, true, false, not, List, [], ◌∷◌, ◌++◌, refl, ap, subst, ◌∙◌, append_assoc}
use Rattle.std.specs.List.{AllByRecursion}
use Rattle.plain_laws.proofs.Booleans.{own_kept}
use Rattle.dir_model.specs.declared.event.Event.{Event}
use Rattle.dir_model.specs.declared.request.Request.{Request}
use Rattle.dir_model.specs.declared.request.Request.TheVariants.{RemoveFolder}
use Rattle.dir_model.specs.declared.request.Reply.{Reply}
use Rattle.dir_model.specs.declared.item.ItemKind.{ItemKind}
use Rattle.dir_model.specs.declared.item.ItemKind.TheVariants as item
use Rattle.dir_model.specs.declared.spot.Spot.{Spot}
use Rattle.dir_model.specs.Calls.{CallStep, TookPlace, LeftNothing, Extends, is_foreign, event}
use Rattle.dir_model.proofs.Lists.{all_both, all_weaker, or_map}
use Rattle.folder_removal.specs.declared.task.Task.{Task}
use Rattle.folder_removal.specs.Removal.{spares_folders, removes_folder, KeptFolders, task_inner, removal_by, removal_of}

abbrev Kept : ℕ → Event → Type 0
Kept me e = (is_foreign me e || not (removes_folder e.request e.reply)) ≡ true

pub kept_more : {me other : ℕ} {a b c : List Event} → KeptFolders me a b → other ≡ me → KeptFolders other b c → KeptFolders me a c
kept_more {me} {other} {a} {b} {c} ab same bc =
    let next = subst (λ (p : ℕ). KeptFolders p b c) same bc in
    record {
      more = ab.more ++ next.more;
      grown = next.grown ∙ (ap (λ h. h ++ next.more) ab.grown ∙ append_assoc a ab.more next.more);
      kept = all_both (Kept me) ab.more next.more ab.kept next.kept;
    }

others_kept : (me : ℕ) (es : List Event) → AllByRecursion (λ e. is_foreign me e ≡ true) es → AllByRecursion (Kept me) es
others_kept me [] a = tt
others_kept me (e ∷ es) a = (rw a.0 refl, others_kept me es a.1)

-- a call that wasn't answered so
pub kept_call : {me : ℕ} {request : Request} {reply : Reply} {a b : List Event} → removes_folder request reply ≡ false → CallStep me a request reply b → KeptFolders me a b
kept_call {me} {request} {reply} {a} {b} kept s = from s.own
  where
    from : TookPlace s.before me request reply b ⊎ LeftNothing s.before me request reply b → KeptFolders me a b
    from (inl took) = record {
      more = s.meanwhile.others ++ event me request reply ∷ [];
      grown = took.grown ∙ (ap (λ h. h ++ event me request reply ∷ []) s.meanwhile.grown ∙ append_assoc a s.meanwhile.others (event me request reply ∷ []));
      kept = all_both (Kept me) s.meanwhile.others (event me request reply ∷ []) (others_kept me s.meanwhile.others s.meanwhile.foreign) (own_kept _ _ kept, tt);
    }
    from (inr late) = record { more = s.meanwhile.others; grown = late.same ∙ s.meanwhile.grown; kept = others_kept me s.meanwhile.others s.meanwhile.foreign }

-- requests that remove no folder, whatever they are answered
pub kept_by : {asks : Request → Bool} {me : ℕ} {a b : List Event} → ((r : Request) (y : Reply) → asks r ≡ true → not (removes_folder r y) ≡ true) → Extends asks me a b → KeptFolders me a b
kept_by {asks} {me} {a} {b} spares e = record { more = e.more; grown = e.grown; kept = all_weaker (λ x. (is_foreign me x || asks x.request) ≡ true) (Kept me) each e.more e.asked }
  where
    each : (x : Event) → (is_foreign me x || asks x.request) ≡ true → Kept me x
    each x = or_map (is_foreign me x) (asks x.request) (not (removes_folder x.request x.reply)) (spares x.request x.reply)

spared_kept : (r : Request) (y : Reply) → spares_folders r ≡ true → not (removes_folder r y) ≡ true
spared_kept (RemoveFolder spot) y is = cc
spared_kept r y is = refl

pub kept_spared : {me : ℕ} {a b : List Event} → Extends spares_folders me a b → KeptFolders me a b
kept_spared e = kept_by spared_kept e

-- an item's removal removes no folder
pub spares_removal : (spot : Spot) (t : Task) → spares_folders (removal_of spot t) ≡ true
spares_removal spot t = by t.kind
  where
    by : (kind : ItemKind) → spares_folders (removal_by kind (task_inner spot t)) ≡ true
    by item.Dir = refl
    by item.File = refl
    by item.Other = refl
