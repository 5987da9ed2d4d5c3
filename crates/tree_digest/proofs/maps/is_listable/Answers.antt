use Rattle.std.proofs.Common.{IsUtf8, subst, sym}
use Rattle.tree_digest.specs.Fields.{IsTarget}
use Rattle.tree_digest.proofs.maps.is_listable.Goals as goal

pub returns-then-meta-lt4096-2 : goal.returns-then-meta-lt4096-2
returns-then-meta-lt4096-2 c =
    rw c.in-Link.is (
      λ t. let good = subst IsTarget c.as_str.ensures (c.is_target.ensures.0 t) in (c.if-meta-lt4096-2.true, good.some, good.short, good.no_nul),
      λ l. c.is_target.ensures.1 (subst IsTarget (sym c.as_str.ensures) (record { text = subst IsUtf8 c.as_str.ensures c.as_str.utf8; some = l.1; short = l.2; no_nul = l.3 })),
    )
