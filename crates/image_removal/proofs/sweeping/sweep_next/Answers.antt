use Rattle.std.proofs.Common.{◌≡◌, true, rules, sym, ◌∙◌}
use Rattle.plain_laws.proofs.Results.{err_same, any_ok, any_err}
use Rattle.folder_building.proofs.Working.{worked_wider}
use Rattle.image_removal.specs.Passes.{area_of_pass}
use Rattle.image_removal.specs.Work.{HoldsArea, KeepsStandingAndRules, StaysBare, Stays}
use Rattle.image_removal.proofs.Knowing.{stays_conform}
use Rattle.image_removal.proofs.Names.{alone_uuid}
use Rattle.image_removal.specs.Ended.{EndsAtBetween}
use Rattle.image_reading.specs.declared.error.StoreError.TheVariants.{Stray, NoMemory}
use Rattle.image_removal.proofs.Lawful.{of_error}
use Rattle.image_removal.proofs.sweeping.sweep_next.Goals as goal

pub returns-in_err-deal-clause-worked : goal.returns-in_err-deal-clause-worked
returns-in_err-deal-clause-worked g c = worked_wider (alone_uuid c.args.pass c.args.name.now (sym c.is_uuid.ensures ∙ c.if-is_uuid.true)) c.deal.ensures.worked

pub returns-in_err-deal-clause-left : goal.returns-in_err-deal-clause-left
returns-in_err-deal-clause-left g c =
    let D = g.D.Dir in
    err_same (λ e. D.observed ≡ true → Stays (HoldsArea (area_of_pass c.args.pass)) KeepsStandingAndRules (D.shown c.args.dir.now) (D.shown c.deal.new.dir)) c.deal.result c.from_residual.result
    (λ e h. search (rules, h, c.from_residual.ensures, c.in_err-deal.is)) c.deal.ensures.left

pub returns-in_ok-deal-clause-worked : goal.returns-in_ok-deal-clause-worked
returns-in_ok-deal-clause-worked g c = worked_wider (alone_uuid c.args.pass c.args.name.now (sym c.is_uuid.ensures ∙ c.if-is_uuid.true)) c.deal.ensures.worked

pub returns-in_ok-deal-clause-stays : goal.returns-in_ok-deal-clause-stays
returns-in_ok-deal-clause-stays g c =
    let D = g.D.Dir in
    any_ok (D.observed ≡ true → Stays (HoldsArea (area_of_pass c.args.pass)) StaysBare (D.shown c.args.dir.now) (D.shown c.deal.new.dir)) c.push.result c.in_ok-deal.ensures.stays

pub returns-in_ok-deal-clause-left : goal.returns-in_ok-deal-clause-left
returns-in_ok-deal-clause-left g c =
    let D = g.D.Dir in
    any_err (D.observed ≡ true → Stays (HoldsArea (area_of_pass c.args.pass)) KeepsStandingAndRules (D.shown c.args.dir.now) (D.shown c.deal.new.dir)) c.push.result
    (λ t. stays_conform (c.in_ok-deal.ensures.stays t))

pub returns-in_err-deal-clause-ended : goal.returns-in_err-deal-clause-ended
returns-in_err-deal-clause-ended g c =
    let D = g.D.Dir in
    any_err (D.observed ≡ true → EndsAtBetween c.args.pass c.args.name.now (D.shown c.args.dir.now) (D.shown c.deal.new.dir)) c.from_residual.result
    (λ t. record { uuid = sym c.is_uuid.ensures ∙ c.if-is_uuid.true; turn = c.deal.ensures.worked.extends t })

pub returns-in_ok-deal-clause-ended : goal.returns-in_ok-deal-clause-ended
returns-in_ok-deal-clause-ended g c =
    let D = g.D.Dir in
    any_err (D.observed ≡ true → EndsAtBetween c.args.pass c.args.name.now (D.shown c.args.dir.now) (D.shown c.deal.new.dir)) c.push.result
    (λ t. record { uuid = sym c.is_uuid.ensures ∙ c.if-is_uuid.true; turn = c.deal.ensures.worked.extends t })

pub returns-in_err-deal-clause-lawful : goal.returns-in_err-deal-clause-lawful
returns-in_err-deal-clause-lawful g c is t s k may shown conforming = c.deal.ensures.lawful (search (rules, is, c.from_residual.ensures, c.in_err-deal.is)) t s k may shown conforming

pub returns-in_ok-deal-clause-lawful : goal.returns-in_ok-deal-clause-lawful
returns-in_ok-deal-clause-lawful g c is t s k may shown conforming =
    let e : Stray ≡ NoMemory = of_error (λ e. e ≡ NoMemory) c.push.result Stray is c.push.ensures.memory in
    cc
