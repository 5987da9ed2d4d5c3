-- What came about in a part of a call came about in the call.
use Rattle.std.proofs.Common.{◌≡◌, inl, inr, ℕ, Bool, true, List, [], ◌++◌, refl, sym, ap, ◌∙◌, append-nil, append_assoc}
use Rattle.ac_types.specs.declared.image_ref.ImageRef.{ImageRef}
use Rattle.dir_model.specs.declared.intent.Draw.{Draw}
use Rattle.dir_trait.specs.DirCalls.{DirAt}
use Rattle.folder_building.proofs.Following.{Follows}
use Rattle.pod_manifest.specs.Wishes.{Wishes}
use Rattle.pod_build.specs.declared.error.BuildError.{BuildError}
use Rattle.pod_build.specs.Causes.{IsStretchWithin, During, IsMadeByPlan, IsRefusedUnderLock}

-- a part of what lies in the whole
pub part_within : {observed : Bool} {s e a b c d : DirAt} → observed ≡ true → Follows observed a b → Follows observed c d → IsStretchWithin s e b c → IsStretchWithin s e a d
part_within {observed} {s} {e} {a} {b} {c} {d} t ab cd p =
    let x = ab.extends t in
    let y = cd.extends t in
    record {
      same = p.same ∙ ab.same;
      before = x.more ++ p.before;
      begins = p.begins ∙ (ap (λ h. h ++ p.before) x.grown ∙ append_assoc a.trace x.more p.before);
      after = p.after ++ y.more;
      ends = y.grown ∙ (ap (λ h. h ++ y.more) p.ends ∙ append_assoc e.trace p.after y.more);
    }

-- what comes first, and what comes last
pub first_part : {observed : Bool} {a b c : DirAt} → observed ≡ true → Follows observed b c → IsStretchWithin a b a c
first_part {observed} {a} {b} {c} t bc = record { same = refl; before = []; begins = sym (append-nil a.trace); after = (bc.extends t).more; ends = (bc.extends t).grown }

pub last_part : {observed : Bool} {a b c : DirAt} → observed ≡ true → Follows observed a b → IsStretchWithin b c a c
last_part {observed} {a} {b} {c} t ab = record { same = ab.same; before = (ab.extends t).more; begins = (ab.extends t).grown; after = []; ends = sym (append-nil c.trace) }

pub during_first : {observed : Bool} (P : DirAt → DirAt → Type 0) {a b c : DirAt} → Follows observed b c → P a b → During observed P a c
during_first P {a} {b} {c} bc p = (a, b, λ t. first_part t bc, p)

pub during_last : {observed : Bool} (P : DirAt → DirAt → Type 0) {a b c : DirAt} → Follows observed a b → P b c → During observed P a c
during_last P {a} {b} {c} ab p = (b, c, λ t. last_part t ab, p)

pub during_within : {observed : Bool} (P : DirAt → DirAt → Type 0) {a b c d : DirAt} → Follows observed a b → Follows observed c d → During observed P b c → During observed P a d
during_within P ab cd x = (x.0, x.1, λ t. part_within t ab cd (x.2 t), x.3)

-- a refusal under the lock
pub refused_within : {observed : Bool} {refs : List ImageRef} {options : Wishes} (draw : Draw) {now : ℕ} {e : BuildError} {a b c d : DirAt} → Follows observed a b → Follows observed c d
    → IsRefusedUnderLock observed refs options draw now e b c → IsRefusedUnderLock observed refs options draw now e a d
refused_within draw ab cd (inl x) = inl (x.0, x.1, λ t. part_within t ab cd (x.2 t), x.3)
refused_within draw ab cd (inr x) = inr (x.0, (x.1.0, x.1.1, λ t. part_within t ab cd (x.1.2 t), x.1.3), (x.2.0, x.2.1, λ t. part_within t ab cd (x.2.2 t), x.2.3))

-- and a making by a plan
pub made_within : {observed : Bool} {refs : List ImageRef} {options : Wishes} (draw : Draw) {now : ℕ} {a b c d : DirAt} → Follows observed a b → Follows observed c d → IsMadeByPlan observed refs options draw now b c
    → IsMadeByPlan observed refs options draw now a d
made_within draw ab cd x = (x.0, (x.1.0, x.1.1, λ t. part_within t ab cd (x.1.2 t), x.1.3), (x.2.0, x.2.1, λ t. part_within t ab cd (x.2.2 t), x.2.3))
