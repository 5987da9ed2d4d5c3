use Rattle.std.proofs.Common.{inr, ◌≡◌, take, codes, sym, subst, IsSomeAnd, ℕ, List}
use Rattle.plain_laws.proofs.Results.{if_ok, if_err}
use Rattle.bundle_image.specs.Heads.{bundle_file_at}
use Rattle.bundle_image.proofs.Heads.{id_read, id_failed}
use Rattle.bundle_image.proofs.Results.{of_ok, of_err}
use Rattle.bundle_image.proofs.head.read_id.Goals as goal

pub returns-in-Ok-clause-ok : goal.returns-in-Ok-clause-ok
returns-in-Ok-clause-ok g c =
    if_ok _ _ c.id_of.result
    (λ id is t. id_read (bundle_file_at (g.B.Bundle.shown c.args.bundle.now).tree c.args.path.now (codes "id")) c.deref.result.now id.bytes (subst (λ (b : List ℕ). IsSomeAnd (bundle_file_at (g.B.Bundle.shown c.args.bundle.now).tree c.args.path.now (codes "id")) (λ f. b ≡ take 137 f)) (sym c.deref.ensures.value) (c.in-Ok.ensures.read t)) is)
    (of_ok _ _ c.id_of.result c.id_of.ensures)

pub returns-in-Ok-clause-fault : goal.returns-in-Ok-clause-fault
returns-in-Ok-clause-fault g c =
    if_err _ _ c.id_of.result
    (λ r is t. inr (inr (id_failed (bundle_file_at (g.B.Bundle.shown c.args.bundle.now).tree c.args.path.now (codes "id")) c.deref.result.now r (subst (λ (b : List ℕ). IsSomeAnd (bundle_file_at (g.B.Bundle.shown c.args.bundle.now).tree c.args.path.now (codes "id")) (λ f. b ≡ take 137 f)) (sym c.deref.ensures.value) (c.in-Ok.ensures.read t)) is)))
    (of_err _ _ c.id_of.result c.id_of.ensures)
