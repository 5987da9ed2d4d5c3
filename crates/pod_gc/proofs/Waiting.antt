-- A prepared pod whose time is over.
use Rattle.std.proofs.Common.{◌≡◌, ◌==◌, ◌&&◌, ◌-◌, ◌⊎◌, inl, inr, ℕ, Bool, true, false, bytes_eq, find, nat_le, codes, Option, Some, None, is_some, List, refl, sym, ap, subst, ◌∙◌, arith}
use Rattle.std.proofs.lemmas.Bool.{eqb-true}
use Rattle.dir_model.specs.declared.area.Area.{Area}
use Rattle.dir_model.specs.declared.area.Area.TheVariants.{Prepared}
use Rattle.dir_model.specs.declared.area.Phase.{Phase}
use Rattle.dir_model.specs.declared.area.Phase.TheVariants as phase
use Rattle.dir_model.specs.declared.intent.Intent.{Intent}
use Rattle.dir_model.specs.declared.intent.Kind.{Kind}
use Rattle.dir_model.specs.declared.intent.Kind.TheVariants as kind
use Rattle.dir_model.specs.declared.pod.PodId.{PodId}
use Rattle.dir_model.specs.declared.spot.Which.TheVariants.{Claim}
use Rattle.dir_model.specs.declared.tree.TreeEntry.{TreeEntry}
use Rattle.dir_model.specs.declared.request.DirError.TheVariants.{Missing}
use Rattle.dir_model.specs.Pods.{pod_text}
use Rattle.dir_model.specs.Replies.{refused_in, open_refusal}
use Rattle.dir_model.specs.State.{DirState, stands, folder_at}
use Rattle.dir_model.proofs.Lists.{and_left, and_right}
use Rattle.dir_model.proofs.Moments.{at_weaker, at_grown}
use Rattle.dir_rules.specs.declared.seen.Created.{Created}
use Rattle.dir_rules.specs.declared.seen.Seen.{Seen}
use Rattle.dir_rules.specs.Standing.{intends, is_gc}
use Rattle.dir_rules.specs.Rules.{asks_for, is_old}
use Rattle.dir_trait.specs.DirCalls.{DirAt, HeldBetween}
use Rattle.dir_trait.specs.Effects.{Given}
use Rattle.lifecycle.specs.Executions.{IsConforming}
use Rattle.dir_model.specs.Spots.{pod_spot}
use Rattle.phase_read.specs.Read.{HasPhase}
use Rattle.phase_read.specs.Exact.{AtOwnEvent, IsInPhase}
use Rattle.phase_read.proofs.Exact.{found_exactly}
use Rattle.phase_read.proofs.Stages.{has_phase}
use Rattle.pod_locks.proofs.Times.{at_part}
use Rattle.pod_locks.proofs.Traces.{grown_none}
use Rattle.pod_locks.specs.declared.setback.Setback.{Setback}
use Rattle.pod_locks.specs.Holding.{KeepsReady}
use Rattle.pod_locks.specs.Causes.{IsAbsentAt}
use Rattle.pod_locks.proofs.Calls.{Follows}
use Rattle.pod_gc.specs.RemovalCauses.{StoppedAlone}
use Rattle.pod_gc.specs.RemovalHolding.{MayRemove, MayDiscard}
use Rattle.pod_gc.proofs.Rounds.{may_kept}
use Rattle.pod_gc.specs.declared.ages.Times.{Times}
use Rattle.pod_gc.specs.declared.line.Deed.{Deed}
use Rattle.pod_gc.specs.declared.line.Deed.TheVariants.{Kept}
use Rattle.pod_gc.specs.Ages.{Showed, is_ripe}
use Rattle.pod_gc.specs.Deeds.{IsGoneFrom, DeedCause, WaitsBy, WaitedByAge, LeavesToAnother}
use Rattle.pod_gc.specs.Sweeping.{MaySweepPods, NotesMark, Ripens}
use Rattle.pod_gc.proofs.Steps.{SetBackAt, cause_kept, deed_later, showed_longer, left_after}

-- it may be discarded

old_by : (pod : PodId) (i : Intent) (created : List Created) (m now expire : ℕ) → (k : Kind) → is_gc k ≡ true → (i.expire == expire) ≡ true → (i.now == now) ≡ true → find (λ (c : Created). bytes_eq c.name (pod_text pod.bytes)) created ≡ Some (record { name = pod_text pod.bytes; moment = m })
    → nat_le expire (now - m) ≡ true → asks_for k i created (pod_text pod.bytes) ≡ true
old_by pod i created m now expire kind.Gc is at moment noted ripe =
    ap (λ (o : Option Created). is_old i o) noted ∙ (ap (λ (e : ℕ). nat_le e (i.now - m)) (eqb-true i.expire expire at) ∙ (ap (λ (n : ℕ). nat_le expire (n - m)) (eqb-true i.now now moment) ∙ ripe))
old_by pod i created m now expire _ is at moment noted ripe = cc

asked_by : (pod : PodId) (intent : Option Intent) (created : List Created) (m now expire : ℕ) → intends (λ i. is_gc i.kind && (i.expire == expire)) intent ≡ true → intends (λ i. i.now == now) intent ≡ true
    → find (λ (c : Created). bytes_eq c.name (pod_text pod.bytes)) created ≡ Some (record { name = pod_text pod.bytes; moment = m }) → nat_le expire (now - m) ≡ true → intends (λ i. asks_for i.kind i created (pod_text pod.bytes)) intent ≡ true
asked_by pod None created m now expire sweeps moment noted ripe = cc
asked_by pod (Some i) created m now expire sweeps moment noted ripe = old_by pod i created m now expire i.kind (and_left (is_gc i.kind) (i.expire == expire) sweeps) (and_right (is_gc i.kind) (i.expire == expire) sweeps) moment noted ripe

pub may_ripen : {s : Seen} (pod : PodId) (created : Option ℕ) (now expire : ℕ) → is_ripe now expire created ≡ true → Ripens pod created now expire s → MayDiscard pod now s
may_ripen pod None now expire ripe m = cc
may_ripen {s} pod (Some moment) now expire ripe m = record { may = m.sweeps.may; asked = asked_by pod s.standing.intent s.created moment now expire m.sweeps.sweeps m.sweeps.may.moment m.noted ripe }

pub ripens_noted : {now expire : ℕ} {s : Seen} {d : DirAt} (pod : PodId) (created : Option ℕ) → MaySweepPods now expire s → (x : NotesMark pod created s d) → Ripens pod created now expire x.known
ripens_noted {now} {expire} pod created m x = record {
  sweeps = record { may = may_kept x.keeps m.may; sweeps = ap (λ (o : Option Intent). intends (λ i. is_gc i.kind && (i.expire == expire)) o) x.keeps.intent ∙ m.sweeps };
  noted = x.noted;
}

-- why it wasn't moved

no_lock : (es : List TreeEntry) (o : Option ℕ) → is_some o ≡ false → refused_in (open_refusal Claim) es o ≡ Some Missing
no_lock es None is = refl
no_lock es (Some folder) is = cc

pub gone_waiting : (pod : PodId) (s : DirState) → IsAbsentAt pod Prepared s → IsGoneFrom pod Prepared s
gone_waiting pod s h = no_lock s.entries (folder_at s.namespace (pod_spot pod Prepared)) h

pub set_alone : {observed : Bool} {e : Setback} {old new : DirAt} (pod : PodId) → StoppedAlone observed pod e old new → SetBackAt observed pod Prepared e old new
set_alone pod x = record {
  fault = x.fault;
  gone = λ is t. at_weaker (IsGoneFrom pod Prepared) (gone_waiting pod) (x.missing is t);
  lacking = λ is t. let alone = x.manifest is t in let last = at_grown alone.there in at_part grown_none refl (record { more = last.0; grown = last.1 }) alone.closed;
  stray = x.stray;
}

-- by its age

pub waits_kept : {ripe : Bool} → ripe ≡ false → WaitsBy ripe (Kept phase.Prepared)
waits_kept is = record { waits = λ p e. is; goes = λ e. cc; left = λ e. cc }

pub waits_over : {ripe : Bool} (deed : Deed) → ripe ≡ true → ((p : Phase) → deed ≡ Kept p → ⊥) → WaitsBy ripe deed
waits_over deed is ends = record { waits = λ p e. absurd (ends p e); goes = λ e. is; left = λ e. is }

pub waited_so : {observed : Bool} {b c : DirAt} (times : Times) (pod : PodId) (a : DirAt) (m : Option ℕ) (deed : Deed) → observed ≡ true → Follows observed b c → Showed pod Prepared (codes "created-") m a.process a.trace b.trace → WaitsBy (is_ripe times.now times.expire m) deed
    → WaitedByAge times pod deed a.process a.trace c.trace
waited_so times pod a m deed t bc shows by = record {
  waits = λ p is. (m, showed_longer shows (bc.grown t), by.waits p is);
  ripe = λ is. (m, showed_longer shows (bc.grown t), by.goes is);
  left = λ is. inr (m, showed_longer shows (bc.grown t), by.left is);
}

-- it was there when its marks were listed
waits_there : {observed : Bool} {b : DirAt} (pod : PodId) (a c : DirAt) → observed ≡ true → Follows observed b c → HeldBetween a b (λ s. stands s.namespace (pod_spot pod Prepared) ≡ true) → IsConforming c.trace → AtOwnEvent a.process a.trace c.trace (IsInPhase pod phase.Prepared Prepared)
waits_there pod a c t bc there conforming =
    found_exactly pod phase.Prepared Prepared (omega arith) conforming
    (at_part grown_none refl (bc.grown t) (at_weaker (HasPhase (pod_spot pod Prepared) phase.Prepared) (has_phase (pod_spot pod Prepared) phase.Prepared (inr refl) refl) there))

pub waited_deed : {observed : Bool} {b : DirAt} (pod : PodId) (a c : DirAt) (deed : Deed) → observed ≡ true → Follows observed a b → Follows observed b c → HeldBetween a b (λ s. stands s.namespace (pod_spot pod Prepared) ≡ true)
    → (deed ≡ Kept phase.Prepared) ⊎ (observed ≡ true → DeedCause pod Prepared deed b.process b.trace c.trace) → DeedCause pod Prepared deed a.process a.trace c.trace
waited_deed pod a c deed t ab bc there (inl kept) = subst (λ (d : Deed). DeedCause pod Prepared d a.process a.trace c.trace) (sym kept) (cause_kept pod Prepared phase.Prepared refl (waits_there pod a c t bc there) (λ rest. cc))
waited_deed pod a c deed t ab bc there (inr x) = deed_later c t ab (x t)

-- what is known after both

pub ready_waited : {now expire : ℕ} {a b c : DirAt} (pod : PodId) (created : Option ℕ) → Given (MayRemove now) a (λ s. NotesMark pod created s b) → Given (Ripens pod created now expire) b (λ s. KeepsReady s c) → Given (MaySweepPods now expire) a (λ s. KeepsReady s c)
ready_waited pod created notes ready s k m =
    let x = notes s k m.may in
    let y = ready x.known x.knows (ripens_noted pod created m x) in
    record { known = y.known; keeps = record { intent = y.keeps.intent ∙ x.keeps.intent; holdings = y.keeps.holdings ∙ x.keeps.holdings; kept = y.keeps.kept ∙ x.keeps.kept; bare = y.keeps.bare }; knows = y.knows }

pub busy_waited : {observed : Bool} {now expire : ℕ} {place : Area} {a b : DirAt} (pod : PodId) (created : Option ℕ) (deed : Deed) (c : DirAt) → observed ≡ true → Follows observed a b → Given (MayRemove now) a (λ s. NotesMark pod created s b)
    → Given (Ripens pod created now expire) b (λ s. LeavesToAnother pod place deed b c) → Given (MaySweepPods now expire) a (λ s. LeavesToAnother pod place deed a c)
busy_waited pod created deed c t ab notes busy s k m =
    let x = notes s k m.may in
    left_after (ab.grown t) ab.same (busy x.known x.knows (ripens_noted pod created m x))
