use Rattle.std.proofs.Common.{◌≡◌, true}
use Rattle.stage1.specs.declared.load_error.LoadError.TheVariants.{DirFault}
use Rattle.stage1.specs.Starts.{IsPlacedIn, AreStarts, FindsStarts}
use Rattle.stage1.specs.LoadRefusals.{IsMissingAmong, LacksStarts}
use Rattle.stage1.proofs.Lacking.{roots_cause, programs_cause}
use Rattle.std.specs.List.{AllByRecursion}
use Rattle.plain_laws.proofs.Results.{if_ok, if_err, never}
use Rattle.stage1.proofs.Found.{all_placed}
use Rattle.stage1.proofs.launches.starts_with.Goals as goal

pub returns-in-Ok-clause-cause : goal.returns-in-Ok-clause-cause
returns-in-Ok-clause-cause g c is = absurd (never (IsMissingAmong c.args.apps.now c.in-Ok.roots.items) DirFault c.app_starts.result (λ h. h) c.app_starts.ensures.missing is)

pub returns-in-Ok-clause-found : goal.returns-in-Ok-clause-found
returns-in-Ok-clause-found g c =
    let D = g.D.Dir in
    let old = D.shown c.args.dir.now in
    let new = D.shown c.read_roots.new.dir in
    if_ok (λ starts. AreStarts c.args.pod c.args.address.now c.args.token.now c.args.apps.now c.in-Ok.roots.items starts.items) (λ starts. D.observed ≡ true → FindsStarts c.args.pod c.args.address.now c.args.token.now c.args.apps.now starts.items old new) c.app_starts.result
    (λ starts are t. record { roots = c.in-Ok.roots.items; read = c.in-Ok.ensures.read t; are = are }) c.app_starts.ensures.starts

pub returns-in-Ok-clause-lacks : goal.returns-in-Ok-clause-lacks
returns-in-Ok-clause-lacks g c =
    let D = g.D.Dir in
    let old = D.shown c.args.dir.now in
    let new = D.shown c.read_roots.new.dir in
    if_err (IsMissingAmong c.args.apps.now c.in-Ok.roots.items) (λ e. D.observed ≡ true → LacksStarts c.args.pod c.args.apps.now e old new) c.app_starts.result
    (λ e is t. programs_cause c.args.pod c.args.apps.now c.in-Ok.roots.items old new e (c.in-Ok.ensures.read t) is) c.app_starts.ensures.missing

pub returns-in-Err-clause-lacks : goal.returns-in-Err-clause-lacks
returns-in-Err-clause-lacks g c t =
    let D = g.D.Dir in
    roots_cause c.args.pod c.args.apps.now (D.shown c.args.dir.now) (D.shown c.read_roots.new.dir) c.in-Err.error (c.in-Err.ensures.lacks t)

pub returns-in-Ok-clause-placed : goal.returns-in-Ok-clause-placed
returns-in-Ok-clause-placed g c =
    if_ok (λ starts. AreStarts c.args.pod c.args.address.now c.args.token.now c.args.apps.now c.in-Ok.roots.items starts.items) (λ starts. AllByRecursion (IsPlacedIn c.args.pod) starts.items) c.app_starts.result
    (λ starts are. all_placed c.args.pod c.args.address.now c.args.token.now c.args.apps.now c.in-Ok.roots.items starts.items are) c.app_starts.ensures.starts
