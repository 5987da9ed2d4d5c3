use Rattle.std.proofs.Common.{rules, ◌≡◌, ◌+◌, ◌∷◌, ◌++◌, [], ℕ, List, true, take, drop, take-append-drop, ap, sym, subst, ◌∙◌, append_assoc}
use Rattle.std.proofs.lemmas.List.{take_more}
use Rattle.folder_building.proofs.Working.{worked_none, worked_more, worked_wider}
use Rattle.folder_building.proofs.Following.{follows_work}
use Rattle.image_removal.specs.Passes.{area_of_pass, deals_with_folders}
use Rattle.image_removal.specs.Causes.{RemovalWorkCause}
use Rattle.image_removal.specs.Sweeps.{AddsLines}
use Rattle.image_removal.specs.Work.{HoldsArea, KeepsStandingAndRules, Stays}
use Rattle.image_removal.proofs.Times.{work_after}
use Rattle.image_removal.proofs.Knowing.{stays_none, stays_more, stays_then}
use Rattle.image_removal.proofs.Names.{some_among, adds_none, adds_more}
use Rattle.dir_model.proofs.Chains.{nothing_yet, and_more, extends_wider}
use Rattle.dir_trait.specs.DirCalls.{ExtendsBy}
use Rattle.image_removal.specs.Ended.{EndsAt, EndsAtBetween, EndsAmongFoldersBetween}
use Rattle.image_removal.proofs.Names.{some_left, some_right}
use Rattle.std.specs.List.Sorted.{IsStrictlySortedBy}
use Rattle.std.specs.Ordering.{nat_cmp}
use Rattle.std.specs.Cmp.Lexicographic.{slice_cmp}
use Rattle.plain_laws.proofs.Results.{if_err, err_same}
use Rattle.dir_model.specs.Listings.{has_name}
use Rattle.image_removal.specs.Sweeps.{WasListed}
use Rattle.image_removal.proofs.Knowing.{holds_still}
use Rattle.image_removal.proofs.LawfulSweeps.{shown_among, apart_from}
use Rattle.image_removal.proofs.sweeping.sweep_each.Goals as goal

pub names-init : goal.names-init
names-init g c = record { worked = worked_none; so_far = λ t. nothing_yet; swept = adds_none c.args.pass c.args.lines.now.items; stays = λ t. stays_none }

pub names-preserved : goal.names-preserved
names-preserved g c =
    let D = g.D.Dir in
    let names = c.args.names.now in
    let pass = c.args.pass in
    let i = c.names.name-index in
    let name = c.name-item.result in
    let inv = c.names.invariant in
    let more : take (i + 1) names ≡ take i names ++ name ∷ [] = take_more names i name c.names-test.true ∙ ap (λ l. take i names ++ l ∷ []) (sym c.name-item.is) in
    let whole : (take i names ++ name ∷ []) ++ drop (i + 1) names ≡ names = ap (λ (l : List (List ℕ)). l ++ drop (i + 1) names) (sym more) ∙ take-append-drop (i + 1) names in
    record {
      worked = worked_more inv.worked
          (worked_wider (λ r is. subst (λ (l : List (List ℕ)). deals_with_folders pass l r ≡ true) whole (some_among pass (take i names) (drop (i + 1) names) name r is))
          c.sweep_next.ensures.worked);
      so_far = λ t. subst (λ (l : List (List ℕ)). ExtendsBy (deals_with_folders pass l) (D.shown c.args.dir.now) (D.shown c.sweep_next.new.dir)) (sym more)
          (and_more (extends_wider (some_left pass (take i names) (name ∷ [])) (inv.so_far t)) inv.worked.same (extends_wider (some_right pass (take i names) (name ∷ [])) (c.sweep_next.ensures.worked.extends t)));
      swept = subst (λ (l : List (List ℕ)). AddsLines D.observed pass l c.args.lines.now.items c.sweep_next.new.lines.items (D.shown c.args.dir.now) (D.shown c.sweep_next.new.dir)) (sym more)
          (adds_more pass (take i names) (name ∷ []) c.args.lines.now.items c.names.lines.items c.sweep_next.new.lines.items (follows_work inv.worked)
          (follows_work c.sweep_next.ensures.worked) inv.swept c.in_ok-sweep_next.ensures.swept);
      stays = λ t. stays_more (inv.stays t) (c.in_ok-sweep_next.ensures.stays t);
    }

pub returns-in_err-sweep_next-clause-worked : goal.returns-in_err-sweep_next-clause-worked
returns-in_err-sweep_next-clause-worked g c =
    let names = c.args.names.now in
    let pass = c.args.pass in
    let i = c.names.name-index in
    let name = c.name-item.result in
    let more : take (i + 1) names ≡ take i names ++ name ∷ [] = take_more names i name c.names-test.true ∙ ap (λ l. take i names ++ l ∷ []) (sym c.name-item.is) in
    let whole : (take i names ++ name ∷ []) ++ drop (i + 1) names ≡ names = ap (λ (l : List (List ℕ)). l ++ drop (i + 1) names) (sym more) ∙ take-append-drop (i + 1) names in
    worked_more c.names.invariant.worked
    (worked_wider (λ r is. subst (λ (l : List (List ℕ)). deals_with_folders pass l r ≡ true) whole (some_among pass (take i names) (drop (i + 1) names) name r is)) c.sweep_next.ensures.worked)

pub returns-in_err-sweep_next-clause-cause : goal.returns-in_err-sweep_next-clause-cause
returns-in_err-sweep_next-clause-cause g c =
    let D = g.D.Dir in
    let old = D.shown c.args.dir.now in
    let mid = D.shown c.names.dir in
    let new = D.shown c.sweep_next.new.dir in
    err_same (λ e. RemovalWorkCause D.observed e old new) c.sweep_next.result c.from_residual.result (λ e h. search (rules, h, c.from_residual.ensures, c.in_err-sweep_next.is))
    (if_err (λ e. RemovalWorkCause D.observed e mid new) (λ e. RemovalWorkCause D.observed e old new) c.sweep_next.result (λ e w. work_after (follows_work c.names.invariant.worked) w)
    c.sweep_next.ensures.cause)

pub returns-in_err-sweep_next-clause-left : goal.returns-in_err-sweep_next-clause-left
returns-in_err-sweep_next-clause-left g c =
    let D = g.D.Dir in
    let area = area_of_pass c.args.pass in
    let old = D.shown c.args.dir.now in
    let mid = D.shown c.names.dir in
    let new = D.shown c.sweep_next.new.dir in
    err_same (λ e. D.observed ≡ true → Stays (HoldsArea area) KeepsStandingAndRules old new) c.sweep_next.result c.from_residual.result
    (λ e h. search (rules, h, c.from_residual.ensures, c.in_err-sweep_next.is))
    (if_err (λ e. D.observed ≡ true → Stays (HoldsArea area) KeepsStandingAndRules mid new) (λ e. D.observed ≡ true → Stays (HoldsArea area) KeepsStandingAndRules old new) c.sweep_next.result
    (λ e left t. stays_then (c.names.invariant.stays t) (left t)) c.sweep_next.ensures.left)

pub returns-in_err-sweep_next-clause-ended : goal.returns-in_err-sweep_next-clause-ended
returns-in_err-sweep_next-clause-ended g c =
    let D = g.D.Dir in
    let names = c.args.names.now in
    let pass = c.args.pass in
    let i = c.names.name-index in
    let name = c.name-item.result in
    let old = D.shown c.args.dir.now in
    let mid = D.shown c.names.dir in
    let new = D.shown c.sweep_next.new.dir in
    let inv = c.names.invariant in
    let more : take (i + 1) names ≡ take i names ++ name ∷ [] = take_more names i name c.names-test.true ∙ ap (λ l. take i names ++ l ∷ []) (sym c.name-item.is) in
    let whole : (take i names ++ name ∷ []) ++ drop (i + 1) names ≡ names = ap (λ (l : List (List ℕ)). l ++ drop (i + 1) names) (sym more) ∙ take-append-drop (i + 1) names in
    err_same (λ e. D.observed ≡ true → EndsAmongFoldersBetween pass names old new) c.sweep_next.result c.from_residual.result
    (λ e h. search (rules, h, c.from_residual.ensures, c.in_err-sweep_next.is))
    (if_err (λ e. D.observed ≡ true → EndsAtBetween pass name mid new) (λ e. D.observed ≡ true → EndsAmongFoldersBetween pass names old new) c.sweep_next.result
    (λ e ends t. record {
      earlier = take i names;
      name = name;
      later = drop (i + 1) names;
      names_are = sym whole ∙ append_assoc (take i names) (name ∷ []) (drop (i + 1) names);
      from = mid.trace;
      dealt = record { only = inv.so_far t; each = inv.swept.each t };
      ends = subst (λ (me : ℕ). EndsAt pass name me mid.trace new.trace) inv.worked.same (ends t);
    })
    c.sweep_next.ensures.ended)

pub returns-in_err-sweep_next-clause-lawful : goal.returns-in_err-sweep_next-clause-lawful
returns-in_err-sweep_next-clause-lawful g c is t s k may listed conforming =
    let D = g.D.Dir in
    let names = c.args.names.now in
    let i = c.names.name-index in
    let name = c.name-item.result in
    let old = D.shown c.args.dir.now in
    let mid = D.shown c.names.dir in
    let inv = c.names.invariant in
    let more : take (i + 1) names ≡ take i names ++ name ∷ [] = take_more names i name c.names-test.true ∙ ap (λ l. take i names ++ l ∷ []) (sym c.name-item.is) in
    let parts : take i names ++ name ∷ drop (i + 1) names ≡ names =
    sym (append_assoc (take i names) (name ∷ []) (drop (i + 1) names)) ∙ (ap (λ (l : List (List ℕ)). l ++ drop (i + 1) names) (sym more) ∙ take-append-drop (i + 1) names) in
    let x = inv.stays t s k may in
    let shown : WasListed c.args.pass name old.process mid.trace = record {
      names = names;
      others = take i names;
      then = old.trace;
      listed = listed;
      shown = subst (λ (l : List (List ℕ)). has_name l name ≡ true) parts (shown_among (take i names) (drop (i + 1) names) name);
      apart = apart_from (take i names) (drop (i + 1) names) name (subst (IsStrictlySortedBy (slice_cmp nat_cmp)) (sym parts) listed.rise);
      since = inv.so_far t;
    } in
    c.sweep_next.ensures.lawful (search (rules, is, c.from_residual.ensures, c.in_err-sweep_next.is)) t x.known x.knows (holds_still may x) (subst (λ (me : ℕ). WasListed c.args.pass name me mid.trace) (sym inv.worked.same) shown) conforming
