-- The passes, one after the other.
use Rattle.std.proofs.Common.{◌≡◌, ℕ, suc, zero, Bool, true, not, get_or, List, [], ◌∷◌, ◌++◌, refl, sym, ap, subst, ◌∙◌, append_assoc, append-nil}
use Rattle.dir_model.specs.declared.area.Area.{Area}
use Rattle.dir_model.specs.declared.area.Area.TheVariants.{Embryo}
use Rattle.dir_model.specs.declared.event.Event.{Event}
use Rattle.std.specs.List.{AllByRecursion}
use Rattle.dir_model.specs.Areas.{is_stage}
use Rattle.dir_model.specs.declared.opening.Target.TheVariants.{Gate}
use Rattle.dir_rules.specs.declared.standing.Held.{Held}
use Rattle.dir_rules.specs.declared.seen.Seen.{Seen}
use Rattle.dir_rules.specs.LockRules.{is_open_on}
use Rattle.dir_trait.specs.DirCalls.{DirAt}
use Rattle.dir_trait.specs.Effects.{Given}
use Rattle.pod_locks.specs.Holding.{KeepsHoldings, KeepsReady}
use Rattle.pod_locks.proofs.Calls.{Follows}
use Rattle.pod_gc.specs.declared.ages.Times.{Times}
use Rattle.pod_gc.specs.declared.line.GcLine.{GcLine}
use Rattle.pod_gc.specs.Sweeping.{MaySweepAll}
use Rattle.pod_gc.specs.Told.{Knew, PassedOverPods, ArePassed, places, AddsPassed, AddsSwept, IsSweptBetween}
use Rattle.pod_gc.proofs.InTurn.{sweep_kept}
use Rattle.pod_gc.proofs.Telling.{knew_on}
use Rattle.pod_gc.proofs.Gates.{passed_by}

pub all_kept : {now expire : ℕ} {s z : Seen} → KeepsHoldings s z → MaySweepAll now expire s → MaySweepAll now expire z
all_kept k m = record { sweeps = sweep_kept k m.sweeps; free = ap (λ (hs : List Held). not (is_open_on (Gate Embryo) hs)) k.holdings ∙ m.free }

pub all_none : {now expire : ℕ} {d : DirAt} → Given (MaySweepAll now expire) d (λ s. KeepsReady s d)
all_none s k m = record { known = s; keeps = record { intent = refl; holdings = refl; kept = refl; bare = m.sweeps.may.bare }; knows = k }

pub all_more : {now expire : ℕ} {a b c : DirAt} → Given (MaySweepAll now expire) a (λ s. KeepsReady s b) → Given (MaySweepAll now expire) b (λ s. KeepsReady s c) → Given (MaySweepAll now expire) a (λ s. KeepsReady s c)
all_more ab bc s k m =
    let x = ab s k m in
    let y = bc x.known x.knows (all_kept x.keeps m) in
    record { known = y.known; keeps = record { intent = y.keeps.intent ∙ x.keeps.intent; holdings = y.keeps.holdings ∙ x.keeps.holdings; kept = y.keeps.kept ∙ x.keeps.kept; bare = y.keeps.bare }; knows = y.knows }

passed_push : (Can : Type 0) (me : ℕ) (a b c : List Event) (times : Times) (before : List Area) (here : Area) (ls ms : List GcLine) → ArePassed Can times before ls me a b → PassedOverPods Can times here ms me b c → ArePassed Can times (before ++ here ∷ []) (ls ++ ms) me a c
passed_push Can me a b c times [] here ls ms x y = record {
  between = c;
  own = ms;
  others = [];
  lines_are = ap (λ (l : List GcLine). l ++ ms) x.0 ∙ sym (append-nil ms);
  first = subst (λ (h : List Event). PassedOverPods Can times here ms me h c) x.1 y;
  rest = (refl, refl);
}
passed_push Can me a b c times (p ∷ ps) here ls ms x y = record {
  between = x.between;
  own = x.own;
  others = x.others ++ ms;
  lines_are = ap (λ (l : List GcLine). l ++ ms) x.lines_are ∙ append_assoc x.own x.others ms;
  first = x.first;
  rest = passed_push Can me x.between b c times ps here x.others ms x.rest y;
}

pub swept_none : (times : Times) (lines : List GcLine) (d : DirAt) → AddsSwept times [] d d lines lines
swept_none times lines d = ([], sym (append-nil lines), (refl, refl))

pub swept_more : {observed : Bool} (a b c : DirAt) (times : Times) (done : List Area) (here : Area) (before mid after : List GcLine) → Follows observed a b → Given (MaySweepAll times.now times.expire) a (λ s. KeepsReady s b)
    → AddsSwept times done a b before mid → AddsPassed times here b c mid after → AddsSwept times (done ++ here ∷ []) a c before after
swept_more a b c times done here before mid after ab ready x y = (
  x.0 ++ y.0,
  y.1 ∙ (ap (λ (l : List GcLine). l ++ y.0) x.1 ∙ append_assoc before x.0 y.0),
  passed_push (Knew (MaySweepAll times.now times.expire) a) a.process a.trace b.trace c.trace times done here x.0 y.0 x.2 (passed_by times here y.0 b.trace c.trace (knew_on (λ s z k m. all_kept k m) ready) ab.same y.2),
)

pub swept_all : (a b : DirAt) (times : Times) (before after : List GcLine) → before ≡ [] → AddsSwept times places a b before after → IsSweptBetween times a b after
swept_all a b times before after none x =
    subst (λ (l : List GcLine). IsSweptBetween times a b l) (sym (x.1 ∙ ap (λ (l : List GcLine). l ++ x.0) none)) x.2

-- each place of a pass is one of pods

stage_among : (xs : List Area) → AllByRecursion (λ (a : Area). is_stage a ≡ true) xs → (i : ℕ) → is_stage (get_or xs i Embryo) ≡ true
stage_among [] all i = refl
stage_among (x ∷ xs) all zero = all.0
stage_among (x ∷ xs) all (suc i) = stage_among xs all.1 i

pub stage_at : (i : ℕ) → is_stage (get_or places i Embryo) ≡ true
stage_at i = stage_among places (refl, (refl, (refl, (refl, (refl, (refl, tt)))))) i
