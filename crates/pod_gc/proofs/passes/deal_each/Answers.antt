use Rattle.std.proofs.Common.{rules, ◌≡◌, ◌+◌, ◌∷◌, ◌++◌, [], ℕ, List, true, take, drop, take-append-drop, append_assoc, ap, sym, subst, ◌∙◌}
use Rattle.std.proofs.lemmas.List.{take_more}
use Rattle.plain_laws.proofs.Results.{if_err, err_same}
use Rattle.folder_building.proofs.Working.{worked_none, worked_more, worked_wider}
use Rattle.pod_locks.proofs.Calls.{follows_work}
use Rattle.pod_gc.specs.Causes.{GcCause}
use Rattle.pod_gc.specs.Told.{deals_with_pods, AddsTold}
use Rattle.pod_gc.proofs.Steps.{cause_after}
use Rattle.pod_gc.proofs.InTurn.{pass_none, pass_more}
use Rattle.pod_gc.proofs.Telling.{adds_none, adds_more, some_among}
use Rattle.pod_gc.specs.Ended.{EndsAtPod, EndsAmongBetween}
use Rattle.pod_gc.proofs.Ending.{ends_among}
use Rattle.pod_gc.specs.Causes.{GcStrayByApp}
use Rattle.pod_gc.specs.Sweeping.{MayPassPods}
use Rattle.pod_gc.proofs.InTurn.{pass_kept}
use Rattle.pod_gc.proofs.Lawful.{by_app_later}
use Rattle.pod_gc.proofs.passes.deal_each.Goals as goal

pub names-init : goal.names-init
names-init g c = record { worked = worked_none; told = λ t. adds_none c.args.times c.args.place c.args.lines.now.items (g.D.Dir.shown c.args.dir.now); ready = λ t. pass_none }

pub names-preserved : goal.names-preserved
names-preserved g c =
    let D = g.D.Dir in
    let old = D.shown c.args.dir.now in
    let new = D.shown c.deal_next.new.dir in
    let times = c.args.times in
    let place = c.args.place in
    let names = c.args.names.now in
    let i = c.names.name-index in
    let name = c.name-item.result in
    let inv = c.names.invariant in
    let more : take (i + 1) names ≡ take i names ++ name ∷ [] = take_more names i name c.names-test.true ∙ ap (λ l. take i names ++ l ∷ []) (sym c.name-item.is) in
    let whole : (take i names ++ name ∷ []) ++ drop (i + 1) names ≡ names = ap (λ (l : List (List ℕ)). l ++ drop (i + 1) names) (sym more) ∙ take-append-drop (i + 1) names in
    record {
      worked = worked_more inv.worked
          (worked_wider (λ r is. subst (λ (l : List (List ℕ)). deals_with_pods times.now place l r ≡ true) whole (some_among times.now place (take i names) (drop (i + 1) names) name r is))
          c.deal_next.ensures.worked);
      told = λ t. subst (λ (l : List (List ℕ)). AddsTold times place l old new c.args.lines.now.items c.deal_next.new.lines.items) (sym more)
          (adds_more old (D.shown c.names.dir) new times place (take i names) (name ∷ []) c.args.lines.now.items c.names.lines.items c.deal_next.new.lines.items inv.worked.same (inv.ready t) (inv.told t) (c.in_ok-deal_next.ensures.answer_holds t));
      ready = λ t. pass_more (inv.ready t) (c.deal_next.ensures.ready t);
    }

pub returns-in_err-deal_next-clause-worked : goal.returns-in_err-deal_next-clause-worked
returns-in_err-deal_next-clause-worked g c =
    let times = c.args.times in
    let place = c.args.place in
    let names = c.args.names.now in
    let i = c.names.name-index in
    let name = c.name-item.result in
    let more : take (i + 1) names ≡ take i names ++ name ∷ [] = take_more names i name c.names-test.true ∙ ap (λ l. take i names ++ l ∷ []) (sym c.name-item.is) in
    let whole : (take i names ++ name ∷ []) ++ drop (i + 1) names ≡ names = ap (λ (l : List (List ℕ)). l ++ drop (i + 1) names) (sym more) ∙ take-append-drop (i + 1) names in
    worked_more c.names.invariant.worked
    (worked_wider (λ r is. subst (λ (l : List (List ℕ)). deals_with_pods times.now place l r ≡ true) whole (some_among times.now place (take i names) (drop (i + 1) names) name r is)) c.deal_next.ensures.worked)

pub returns-in_err-deal_next-clause-cause : goal.returns-in_err-deal_next-clause-cause
returns-in_err-deal_next-clause-cause g c =
    let D = g.D.Dir in
    let old = D.shown c.args.dir.now in
    let mid = D.shown c.names.dir in
    let new = D.shown c.deal_next.new.dir in
    err_same (λ e. GcCause D.observed e old new) c.deal_next.result c.from_residual.result
    (λ e h. search (rules, h, c.from_residual.ensures, c.in_err-deal_next.is))
    (if_err (λ e. GcCause D.observed e mid new) (λ e. GcCause D.observed e old new) c.deal_next.result (λ e x. cause_after (follows_work c.names.invariant.worked) x) c.deal_next.ensures.cause)

pub returns-in_err-deal_next-clause-ready : goal.returns-in_err-deal_next-clause-ready
returns-in_err-deal_next-clause-ready g c t = pass_more (c.names.invariant.ready t) (c.deal_next.ensures.ready t)

pub returns-in_err-deal_next-clause-ended : goal.returns-in_err-deal_next-clause-ended
returns-in_err-deal_next-clause-ended g c =
    let D = g.D.Dir in
    let old = D.shown c.args.dir.now in
    let mid = D.shown c.names.dir in
    let new = D.shown c.deal_next.new.dir in
    let times = c.args.times in
    let place = c.args.place in
    let names = c.args.names.now in
    let i = c.names.name-index in
    let name = c.name-item.result in
    let inv = c.names.invariant in
    let more : take (i + 1) names ≡ take i names ++ name ∷ [] = take_more names i name c.names-test.true ∙ ap (λ l. take i names ++ l ∷ []) (sym c.name-item.is) in
    let whole : (take i names ++ name ∷ []) ++ drop (i + 1) names ≡ names = ap (λ (l : List (List ℕ)). l ++ drop (i + 1) names) (sym more) ∙ take-append-drop (i + 1) names in
    err_same (λ e. D.observed ≡ true → EndsAmongBetween times place names old new) c.deal_next.result c.from_residual.result
    (λ e h. search (rules, h, c.from_residual.ensures, c.in_err-deal_next.is))
    (if_err (λ e. D.observed ≡ true → EndsAtPod times.now place name mid.process mid.trace new.trace) (λ e. D.observed ≡ true → EndsAmongBetween times place names old new) c.deal_next.result
    (λ e x t. ends_among old mid new times place names (take i names) (drop (i + 1) names) name c.args.lines.now.items c.names.lines.items (sym whole ∙ append_assoc (take i names) (name ∷ []) (drop (i + 1) names)) inv.worked.same (inv.told t) (x t))
    c.deal_next.ensures.ended)

pub returns-in_err-deal_next-clause-lawful : goal.returns-in_err-deal_next-clause-lawful
returns-in_err-deal_next-clause-lawful g c =
    let D = g.D.Dir in
    let old = D.shown c.args.dir.now in
    let mid = D.shown c.names.dir in
    let new = D.shown c.deal_next.new.dir in
    err_same (λ e. GcStrayByApp D.observed e (MayPassPods c.args.place c.args.times.now c.args.times.expire) old new) c.deal_next.result c.from_residual.result (λ e h. search (rules, h, c.from_residual.ensures, c.in_err-deal_next.is))
    (if_err (λ e. GcStrayByApp D.observed e (MayPassPods c.args.place c.args.times.now c.args.times.expire) mid new) (λ e. GcStrayByApp D.observed e (MayPassPods c.args.place c.args.times.now c.args.times.expire) old new) c.deal_next.result (λ e x is. by_app_later new (λ s z. pass_kept) (follows_work c.names.invariant.worked) c.names.invariant.ready (x is)) c.deal_next.ensures.lawful)
