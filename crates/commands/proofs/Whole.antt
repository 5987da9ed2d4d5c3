-- What came about between a process's begin and its finish came about in the whole.
use Rattle.std.proofs.Common.{◌≡◌, inl, inr, ℕ, Bool, true, List, ◌∷◌, ◌++◌, ap, subst, ◌∙◌, append_assoc, refl}
use Rattle.ac_types.specs.declared.image_ref.ImageRef.{ImageRef}
use Rattle.dir_model.specs.declared.area.Area.{Area}
use Rattle.dir_model.specs.declared.area.Area.TheVariants.{Images, Prepare, Prepared}
use Rattle.dir_model.specs.declared.event.Event.{Event}
use Rattle.dir_model.specs.declared.intent.Draw.{Draw}
use Rattle.dir_model.specs.declared.pod.PodId.{PodId}
use Rattle.dir_model.specs.declared.request.Request.{Request}
use Rattle.dir_model.specs.declared.request.Request.TheVariants.{MoveFolder}
use Rattle.dir_model.specs.declared.request.Reply.TheVariants.{Done}
use Rattle.dir_model.specs.declared.spot.Mode.TheVariants.{Shared}
use Rattle.dir_model.specs.Calls.{event, Extends}
use Rattle.dir_model.proofs.Moments.{at_after, at_before}
use Rattle.dir_trait.specs.DirCalls.{DirAt, ExtendsBy, HeldBetween}
use Rattle.dir_files.specs.AreaLocks.{IsFreeElsewhere}
use Rattle.pod_manifest.specs.Wishes.{Wishes}
use Rattle.dir_model.specs.Spots.{pod_spot}
use Rattle.pod_build.specs.declared.error.BuildError.{BuildError}
use Rattle.pod_build.specs.Causes.{IsStretchWithin, IsBuildRefused, IsMadeByPlan, FindsImagesFree}
use Rattle.pod_build.specs.Preparations.{IsPrepared}
use Rattle.command_outcomes.specs.declared.refusal.Refusal.{Refusal}
use Rattle.commands.specs.Prepare.{IsFaithful, RefusesPod}
use Rattle.commands.specs.Wants.{Wants}
use Rattle.commands.proofs.Parts.{Part}

part_whole : {s e a b c d : DirAt} {early late : Request → Bool} → b.process ≡ a.process → ExtendsBy early a b → ExtendsBy late c d → IsStretchWithin s e b c → IsStretchWithin s e a d
part_whole {s} {e} {a} {b} {c} {d} same x y p = record {
  same = p.same ∙ same;
  before = x.more ++ p.before;
  begins = p.begins ∙ (ap (λ h. h ++ p.before) x.grown ∙ append_assoc a.trace x.more p.before);
  after = p.after ++ y.more;
  ends = y.grown ∙ (ap (λ h. h ++ y.more) p.ends ∙ append_assoc e.trace p.after y.more);
}

free_whole : {observed : Bool} {early late : Request → Bool} (a b c d : DirAt) → b.process ≡ a.process → c.process ≡ b.process → (observed ≡ true → ExtendsBy early a b) → (observed ≡ true → ExtendsBy late c d) → FindsImagesFree observed b c → FindsImagesFree observed a d
free_whole a b c d me same ab cd free t = at_before (at_after (ab t) me (subst (λ (p : ℕ). HeldBetween b c (IsFreeElsewhere p Images Shared)) me (free t))) (same ∙ me) (cd t)

pub refused_whole : {observed : Bool} {refs : List ImageRef} {options : Wishes} (draw : Draw) {now : ℕ} {e : BuildError} {a b c d : DirAt} {early late : Request → Bool} → b.process ≡ a.process → c.process ≡ b.process → (observed ≡ true → ExtendsBy early a b)
    → (observed ≡ true → ExtendsBy late c d) → IsBuildRefused observed refs options draw now e b c → IsBuildRefused observed refs options draw now e a d
refused_whole draw me same ab cd (inl x) = inl (x.0, x.1, λ is t. at_before (at_after (ab t) me (x.2 is t)) (same ∙ me) (cd t))
refused_whole draw {a = a} {b = b} {c = c} {d = d} me same ab cd (inr (free, inl x)) = inr (free_whole a b c d me same ab cd free, inl (x.0, x.1, λ t. part_whole me (ab t) (cd t) (x.2 t), x.3))
refused_whole draw {a = a} {b = b} {c = c} {d = d} me same ab cd (inr (free, inr x)) = inr (free_whole a b c d me same ab cd free, inr (x.0, (x.1.0, x.1.1, λ t. part_whole me (ab t) (cd t) (x.1.2 t), x.1.3), (x.2.0, x.2.1, λ t. part_whole me (ab t) (cd t) (x.2.2 t), x.2.3)))

-- that a pod was made by a plan
pub made_whole : {observed : Bool} {refs : List ImageRef} {options : Wishes} (draw : Draw) {now : ℕ} {a b c d : DirAt} → (observed ≡ true → Part a b c d) → IsMadeByPlan observed refs options draw now b c → IsMadeByPlan observed refs options draw now a d
made_whole {observed} draw {a = a} {b = b} {c = c} {d = d} within x = (x.0, (x.1.0, x.1.1, λ t. wider (within t) (x.1.2 t), x.1.3), (x.2.0, x.2.1, λ t. wider (within t) (x.2.2 t), x.2.3))
  where
    wider : {s e : DirAt} → Part a b c d → IsStretchWithin s e b c → IsStretchWithin s e a d
    wider {s} {e} q p = record {
      same = p.same ∙ q.same;
      before = q.earlier ++ p.before;
      begins = p.begins ∙ (ap (λ h. h ++ p.before) q.begins ∙ append_assoc a.trace q.earlier p.before);
      after = p.after ++ q.later;
      ends = q.ends ∙ (ap (λ h. h ++ q.later) p.ends ∙ append_assoc e.trace p.after q.later);
    }

-- why the pod wasn't prepared
pub refuses_whole : {observed : Bool} {wants : Wants} {now : ℕ} {draw : Draw} {r : Refusal} {a b c d : DirAt} (asks : Request → Bool) → b.process ≡ a.process → c.process ≡ b.process
    → (observed ≡ true → Extends asks a.process a.trace b.trace) → (observed ≡ true → Extends asks c.process c.trace d.trace)
    → RefusesPod observed wants now draw b c r → RefusesPod observed wants now draw a d r
refuses_whole {observed} {wants} {now} {draw} {r} {a} {b} {c} {d} asks ab same begins ends x = record {
  error = x.error;
  is = x.is;
  cause = (x.cause.0, x.cause.1, refused_whole draw ab same begins ends x.cause.2);
}

-- that the pod was prepared
pub prepared_wider : {refs : List ImageRef} {options : Wishes} {me : ℕ} {draw : PodId} {to : Area} {a b c d : List Event} (earlier rest : List Event) → b ≡ a ++ earlier → d ≡ c ++ rest → IsPrepared refs options me draw to b c → IsPrepared refs options me draw to a d
prepared_wider {refs} {options} {me} {draw} {to} {a} {b} {c} {d} earlier rest begins ends x = record {
  before = x.before;
  later = x.later ++ rest;
  meanwhile = earlier ++ x.meanwhile;
  begins = x.begins ∙ (ap (λ (h : List Event). h ++ x.meanwhile) begins ∙ append_assoc a earlier x.meanwhile);
  moved = ends ∙ (ap (λ (h : List Event). h ++ rest) x.moved ∙ append_assoc x.before (event me (MoveFolder (pod_spot draw Prepare) (pod_spot draw to)) Done ∷ x.later) rest);
  faithful = x.faithful;
  choice = x.choice;
  chosen = x.chosen;
  manifest = x.manifest;
  folder = x.folder;
  stands = x.stands;
  holds = x.holds;
}

-- by the same move
pub prepared_move : {refs : List ImageRef} {options : Wishes} {me : ℕ} {draw : PodId} {to : Area} (a b c d : List Event) (earlier rest : List Event) (begins : b ≡ a ++ earlier) (ends : d ≡ c ++ rest) (x : IsPrepared refs options me draw to b c) → (prepared_wider {a = a} {c = c} earlier rest begins ends x).before ≡ x.before
unfolding prepared_wider
prepared_move a b c d earlier rest begins ends x = refl

pub faithful_wider : (wants : Wants) (draw : PodId) (a b c d : DirAt) (earlier rest : List Event) → b.process ≡ a.process → b.trace ≡ a.trace ++ earlier → d.trace ≡ c.trace ++ rest → IsFaithful wants draw b c → IsFaithful wants draw a d
faithful_wider wants draw a b c d earlier rest same begins ends x =
    (x.0, x.1, prepared_wider earlier rest begins ends (subst (λ (me : ℕ). IsPrepared x.0 wants.wishes me draw Prepared b.trace c.trace) same x.2))
