use Rattle.std.proofs.Common.{◌∙◌, ◌≡◌, ℕ, List, true, inl, inr, Ok, Err, ap, sym, subst}
use Rattle.plain_laws.proofs.Results.{if_ok, if_err, any_err}
use Rattle.dir_model.specs.declared.area.Area.{Area}
use Rattle.dir_model.specs.declared.request.Request.TheVariants.{ListArea}
use Rattle.dir_model.specs.declared.request.Reply.TheVariants.{Names, Refused}
use Rattle.dir_trait.specs.DirCalls.{ListCall}
use Rattle.dir_trait.specs.Effects.{OnlyAsks}
use Rattle.dir_files.specs.Listed.{ShowsAreaBetween}
use Rattle.folder_building.proofs.Working.{worked_more, worked_wider}
use Rattle.folder_building.proofs.Following.{follows_work}
use Rattle.image_reading.specs.declared.error.StoreError.{StoreError}
use Rattle.image_removal.specs.Passes.{area_of_pass, deals_with_folders}
use Rattle.image_removal.specs.Causes.{RemovalWorkCause}
use Rattle.image_removal.specs.Sweeps.{AddsSweepLines, AddsLines, SweepsBetween, TriesBetween}
use Rattle.image_removal.specs.Work.{HoldsArea, KeepsStandingAndRules, StaysBare, Stays}
use Rattle.image_removal.proofs.Times.{work_after}
use Rattle.image_removal.proofs.Causes.{listing_cause}
use Rattle.image_removal.proofs.Knowing.{stays_more, stays_then, stays_conform}
use Rattle.image_removal.proofs.Listings.{list_stays, only_lists, worked_list}
use Rattle.image_removal.proofs.Names.{lists_sweep, some_sweep}
use Rattle.image_removal.proofs.Passing.{works_at_shown, adds_swept}
use Rattle.image_removal.specs.Ended.{EndsAmongFolders, EndsAmongFoldersBetween, EndsStoreListingBetween}
use Rattle.image_reading.specs.declared.error.StoreError.TheVariants.{Stray}
use Rattle.image_removal.specs.Sweeps.{HasListed}
use Rattle.image_removal.proofs.Knowing.{holds_still}
use Rattle.image_removal.proofs.LawfulSweeps.{list_never}
use Rattle.image_removal.proofs.sweeping.sweep_listed.Goals as goal

pub returns-in-Ok-clause-worked : goal.returns-in-Ok-clause-worked
returns-in-Ok-clause-worked g c =
    let D = g.D.Dir in
    let pass = c.args.pass in
    let names = c.in-Ok.names in
    let old = D.shown c.args.dir.now in
    let mid = D.shown c.names_of.new.dir in
    let new = D.shown c.sweep_each.new.dir in
    let listing = subst (λ (a : Area). ListCall D.observed old (ListArea a) (Names names) mid) c.area.ensures c.in-Ok.ensures.called in
    let works = subst (λ (ns : List (List ℕ)). OnlyAsks D.observed (deals_with_folders pass ns) mid new) c.as_slice.ensures c.sweep_each.ensures.worked in
    worked_more (worked_wider (lists_sweep pass) (worked_list (area_of_pass pass) (Ok names) listing)) (worked_wider (some_sweep pass names) works)

pub returns-in-Ok-clause-cause : goal.returns-in-Ok-clause-cause
returns-in-Ok-clause-cause g c =
    let D = g.D.Dir in
    let names = c.in-Ok.names in
    let old = D.shown c.args.dir.now in
    let mid = D.shown c.names_of.new.dir in
    let new = D.shown c.sweep_each.new.dir in
    if_err (λ e. RemovalWorkCause D.observed e mid new) (λ e. RemovalWorkCause D.observed e old new) c.sweep_each.result
    (λ e w. work_after (follows_work (worked_list c.area.result (Ok names) c.in-Ok.ensures.called)) w) c.sweep_each.ensures.cause

pub returns-in-Ok-clause-swept : goal.returns-in-Ok-clause-swept
returns-in-Ok-clause-swept g c =
    let D = g.D.Dir in
    let pass = c.args.pass in
    let names = c.in-Ok.names in
    let shown = c.as_slice.result.now in
    let old = D.shown c.args.dir.now in
    let mid = D.shown c.names_of.new.dir in
    let new = D.shown c.sweep_each.new.dir in
    let before = c.args.lines.now.items in
    let after = c.sweep_each.new.lines.items in
    let listing = subst (λ (a : Area). ListCall D.observed old (ListArea a) (Names names) mid) c.area.ensures c.in-Ok.ensures.called in
    let works = subst (λ (ns : List (List ℕ)). OnlyAsks D.observed (deals_with_folders pass ns) mid new) c.as_slice.ensures c.sweep_each.ensures.worked in
    if_ok (λ done. AddsLines D.observed pass shown before after mid new) (λ done. D.observed ≡ true → AddsSweepLines (SweepsBetween pass old new) before after) c.sweep_each.result
    (λ done adds t. adds_swept pass names old mid new t listing (subst (λ (a : Area). ShowsAreaBetween old mid a names) c.area.ensures (c.in-Ok.ensures.shows t)) works c.in-Ok.ensures.ordered before after
    (subst (λ (ns : List (List ℕ)). AddsLines D.observed pass ns before after mid new) c.as_slice.ensures adds)) c.sweep_each.ensures.swept

pub returns-in-Ok-clause-tried : goal.returns-in-Ok-clause-tried
returns-in-Ok-clause-tried g c =
    let D = g.D.Dir in
    let pass = c.args.pass in
    let names = c.in-Ok.names in
    let old = D.shown c.args.dir.now in
    let mid = D.shown c.names_of.new.dir in
    let new = D.shown c.sweep_each.new.dir in
    let listing = subst (λ (a : Area). ListCall D.observed old (ListArea a) (Names names) mid) c.area.ensures c.in-Ok.ensures.called in
    let works = subst (λ (ns : List (List ℕ)). OnlyAsks D.observed (deals_with_folders pass ns) mid new) c.as_slice.ensures c.sweep_each.ensures.worked in
    any_err (D.observed ≡ true → TriesBetween pass old new) c.sweep_each.result
    (λ t. inr (names, works_at_shown pass names old mid new t listing (subst (λ (a : Area). ShowsAreaBetween old mid a names) c.area.ensures (c.in-Ok.ensures.shows t)) works))

pub returns-in-Ok-clause-stays : goal.returns-in-Ok-clause-stays
returns-in-Ok-clause-stays g c =
    let D = g.D.Dir in
    let pass = c.args.pass in
    let names = c.in-Ok.names in
    let old = D.shown c.args.dir.now in
    let mid = D.shown c.names_of.new.dir in
    let new = D.shown c.sweep_each.new.dir in
    let listing = subst (λ (a : Area). ListCall D.observed old (ListArea a) (Names names) mid) c.area.ensures c.in-Ok.ensures.called in
    if_ok (λ done. D.observed ≡ true → Stays (HoldsArea (area_of_pass pass)) StaysBare mid new) (λ done. D.observed ≡ true → Stays (HoldsArea (area_of_pass pass)) StaysBare old new)
    c.sweep_each.result
    (λ done stays t. stays_more (list_stays pass (Ok names) t listing) (stays t)) c.sweep_each.ensures.stays

pub returns-in-Ok-clause-left : goal.returns-in-Ok-clause-left
returns-in-Ok-clause-left g c =
    let D = g.D.Dir in
    let pass = c.args.pass in
    let names = c.in-Ok.names in
    let old = D.shown c.args.dir.now in
    let mid = D.shown c.names_of.new.dir in
    let new = D.shown c.sweep_each.new.dir in
    let listing = subst (λ (a : Area). ListCall D.observed old (ListArea a) (Names names) mid) c.area.ensures c.in-Ok.ensures.called in
    if_err (λ e. D.observed ≡ true → Stays (HoldsArea (area_of_pass pass)) KeepsStandingAndRules mid new) (λ e. D.observed ≡ true → Stays (HoldsArea (area_of_pass pass)) KeepsStandingAndRules old new)
    c.sweep_each.result
    (λ e left t. stays_then (list_stays pass (Ok names) t listing) (left t)) c.sweep_each.ensures.left

pub returns-in-Err-clause-worked : goal.returns-in-Err-clause-worked
returns-in-Err-clause-worked g c =
    let D = g.D.Dir in
    let listing = subst (λ (a : Area). ListCall D.observed (D.shown c.args.dir.now) (ListArea a) (Refused c.in-Err.error 0) (D.shown c.names_of.new.dir)) c.area.ensures c.in-Err.ensures.called in
    worked_wider (lists_sweep c.args.pass) (worked_list (area_of_pass c.args.pass) (Err c.in-Err.error) listing)

pub returns-in-Err-clause-cause : goal.returns-in-Err-clause-cause
returns-in-Err-clause-cause g c =
    let D = g.D.Dir in
    subst (λ (e : StoreError). RemovalWorkCause D.observed e (D.shown c.args.dir.now) (D.shown c.names_of.new.dir)) (sym c.change_refusal.ensures)
    (listing_cause c.area.result c.in-Err.error c.in-Err.ensures.refusals (λ is. c.in-Err.ensures.cause (ap Err is)))

pub returns-in-Err-clause-tried : goal.returns-in-Err-clause-tried
returns-in-Err-clause-tried g c t =
    let D = g.D.Dir in
    let listing = subst (λ (a : Area). ListCall D.observed (D.shown c.args.dir.now) (ListArea a) (Refused c.in-Err.error 0) (D.shown c.names_of.new.dir)) c.area.ensures c.in-Err.ensures.called in
    inl (only_lists (area_of_pass c.args.pass) (listing.step t))

pub returns-in-Err-clause-left : goal.returns-in-Err-clause-left
returns-in-Err-clause-left g c t =
    let D = g.D.Dir in
    let listing = subst (λ (a : Area). ListCall D.observed (D.shown c.args.dir.now) (ListArea a) (Refused c.in-Err.error 0) (D.shown c.names_of.new.dir)) c.area.ensures c.in-Err.ensures.called in
    stays_conform (list_stays c.args.pass (Err c.in-Err.error) t listing)

pub returns-in-Ok-clause-ended : goal.returns-in-Ok-clause-ended
returns-in-Ok-clause-ended g c =
    let D = g.D.Dir in
    let pass = c.args.pass in
    let names = c.in-Ok.names in
    let old = D.shown c.args.dir.now in
    let mid = D.shown c.names_of.new.dir in
    let new = D.shown c.sweep_each.new.dir in
    let listing = subst (λ (a : Area). ListCall D.observed old (ListArea a) (Names names) mid) c.area.ensures c.in-Ok.ensures.called in
    let shown = λ (t : D.observed ≡ true). subst (λ (a : Area). ShowsAreaBetween old mid a names) c.area.ensures (c.in-Ok.ensures.shows t) in
    if_err (λ e. D.observed ≡ true → EndsAmongFoldersBetween pass c.as_slice.result.now mid new) (λ e. D.observed ≡ true → EndsStoreListingBetween pass old new) c.sweep_each.result
    (λ e ends t. inl (record {
      names = names;
      listed = mid.trace;
      only_lists = only_lists (area_of_pass pass) (listing.step t);
      shows = shown t;
      ends = subst (λ (me : ℕ). EndsAmongFolders pass names me mid.trace new.trace) listing.same (subst (λ (ns : List (List ℕ)). EndsAmongFoldersBetween pass ns mid new) c.as_slice.ensures (ends t));
    }))
    c.sweep_each.ensures.ended

pub returns-in-Err-clause-ended : goal.returns-in-Err-clause-ended
returns-in-Err-clause-ended g c t =
    let D = g.D.Dir in
    let listing = subst (λ (a : Area). ListCall D.observed (D.shown c.args.dir.now) (ListArea a) (Refused c.in-Err.error 0) (D.shown c.names_of.new.dir)) c.area.ensures c.in-Err.ensures.called in
    inr (only_lists (area_of_pass c.args.pass) (listing.step t))

pub returns-in-Ok-clause-lawful : goal.returns-in-Ok-clause-lawful
returns-in-Ok-clause-lawful g c is t s k may conforming =
    let D = g.D.Dir in
    let pass = c.args.pass in
    let names = c.in-Ok.names in
    let old = D.shown c.args.dir.now in
    let mid = D.shown c.names_of.new.dir in
    let listing = subst (λ (a : Area). ListCall D.observed old (ListArea a) (Names names) mid) c.area.ensures c.in-Ok.ensures.called in
    let x = list_stays pass (Ok names) t listing s k may in
    let listed : HasListed pass names old.process mid.trace = record {
      before = old.trace;
      listing = listing.step t;
      shows = subst (λ (a : Area). ShowsAreaBetween old mid a names) c.area.ensures (c.in-Ok.ensures.shows t);
      rise = c.in-Ok.ensures.ordered;
    } in
    c.sweep_each.ensures.lawful is t x.known x.knows (holds_still may x)
    (subst (λ (ns : List (List ℕ)). HasListed pass ns mid.process mid.trace) (sym c.as_slice.ensures) (subst (λ (me : ℕ). HasListed pass names me mid.trace) (sym listing.same) listed)) conforming

pub returns-in-Err-clause-lawful : goal.returns-in-Err-clause-lawful
returns-in-Err-clause-lawful g c is t s k may conforming =
    let same : c.change_refusal.result ≡ Stray = cc in
    list_never c.area.result c.in-Err.error c.in-Err.ensures.refusals (sym c.change_refusal.ensures ∙ same)
