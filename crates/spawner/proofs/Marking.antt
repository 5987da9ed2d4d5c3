-- How a caller knows that an app's mark was made and synced.
use Rattle.std.proofs.Common.{◌≡◌, ℕ, Bool, true, false, List, [], ◌∷◌, ◌++◌, refl, sym, ap, subst, ◌∙◌, append_assoc}
use Rattle.dir_model.specs.declared.event.Event.{Event}
use Rattle.dir_model.specs.declared.item.Inner.{Inner}
use Rattle.dir_model.specs.declared.request.Request.{Request}
use Rattle.dir_model.specs.declared.request.Request.TheVariants.{MakeFileIn, SyncIn}
use Rattle.dir_model.specs.declared.request.Reply.TheVariants.{Done}
use Rattle.dir_model.specs.Calls.{CallStep, is_kill, event}
use Rattle.dir_model.proofs.Lists.{same_self}
use Rattle.dir_trait.specs.DirCalls.{DirAt, DirCall}
use Rattle.dir_trait.proofs.Calls.{took}
use Rattle.spawner.specs.declared.call.RootPlace.{RootPlace}
use Rattle.spawner.specs.Conditions.{makes_mark, syncs_folder, did, MarkSynced}

pub did_it : (me : ℕ) (asks : Request → Bool) (request : Request) → is_kill request ≡ false → asks request ≡ true → did me asks (event me request Done) ≡ true
did_it me asks request alive asked = rw (same_self me, alive, asked) refl

-- two events of a trace, one after the other
parted : (start others : List Event) (a b : Event) → ((start ++ a ∷ []) ++ others) ++ b ∷ [] ≡ start ++ a ∷ (others ++ b ∷ [])
parted start others a b = append_assoc (start ++ a ∷ []) others (b ∷ []) ∙ append_assoc start (a ∷ []) (others ++ b ∷ [])

synced_after : (me : ℕ) (t0 t1 t2 : List Event) (root : RootPlace) (mark folder : Inner) → CallStep me t0 (MakeFileIn mark) Done t1 → CallStep me t1 (SyncIn folder) Done t2 → makes_mark root (MakeFileIn mark) ≡ true → syncs_folder root (SyncIn folder) ≡ true → MarkSynced me t2 root
synced_after me t0 t1 t2 root mark folder made synced asks_mark asks_sync =
    let first = took refl made.own in
    let second = took refl synced.own in
    record {
      before = made.before;
      mark = event me (MakeFileIn mark) Done;
      between = synced.meanwhile.others;
      sync = event me (SyncIn folder) Done;
      after = [];
      told = second.grown ∙ ap (λ t. t ++ event me (SyncIn folder) Done ∷ []) (synced.meanwhile.grown ∙ ap (λ t. t ++ synced.meanwhile.others) first.grown) ∙ parted made.before synced.meanwhile.others (event me (MakeFileIn mark) Done) (event me (SyncIn folder) Done);
      made = did_it me (makes_mark root) (MakeFileIn mark) refl asks_mark;
      synced = did_it me (syncs_folder root) (SyncIn folder) refl asks_sync;
    }

-- the mark was made, and the next call synced the folder
pub mark_synced : {observed : Bool} {a b c : DirAt} (root : RootPlace) (mark folder : Inner) → observed ≡ true → DirCall observed a (MakeFileIn mark) Done b → DirCall observed b (SyncIn folder) Done c → makes_mark root (MakeFileIn mark) ≡ true → syncs_folder root (SyncIn folder) ≡ true → MarkSynced c.process c.trace root
mark_synced {a = a} {b = b} {c = c} root mark folder observes made synced asks_mark asks_sync =
    subst (λ me. MarkSynced me c.trace root) (sym synced.same)
    (synced_after b.process a.trace b.trace c.trace root mark folder (subst (λ me. CallStep me a.trace (MakeFileIn mark) Done b.trace) (sym made.same) (made.step observes)) (synced.step observes) asks_mark asks_sync)

-- whatever comes later
pub mark_kept : (me : ℕ) (trace more : List Event) (root : RootPlace) → MarkSynced me trace root → MarkSynced me (trace ++ more) root
mark_kept me trace more root m = record {
  before = m.before;
  mark = m.mark;
  between = m.between;
  sync = m.sync;
  after = m.after ++ more;
  told = ap (λ t. t ++ more) m.told ∙ append_assoc m.before (m.mark ∷ (m.between ++ m.sync ∷ m.after)) more ∙ ap (λ t. m.before ++ m.mark ∷ t) (append_assoc m.between (m.sync ∷ m.after) more);
  made = m.made;
  synced = m.synced;
}
