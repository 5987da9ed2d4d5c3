-- A process that has just begun as a sweep may sweep.
use Rattle.std.proofs.Common.{◌≡◌, ◌==◌, true, refl}
use Rattle.dir_model.specs.declared.intent.Intent.{Intent}
use Rattle.dir_model.specs.declared.intent.Kind.{Kind}
use Rattle.dir_model.specs.declared.intent.Kind.TheVariants as kind
use Rattle.dir_model.specs.declared.request.Request.TheVariants.{Begin}
use Rattle.dir_model.specs.declared.request.Reply.TheVariants.{Done}
use Rattle.dir_model.proofs.Lists.{and_both, same_self}
use Rattle.dir_rules.specs.Standing.{is_gc, is_remover}
use Rattle.dir_rules.specs.Conforms.{nothing_seen, seen_replied}
use Rattle.pod_gc.specs.Sweeping.{MaySweepAll}

sweep_removes : (k : Kind) → is_gc k ≡ true → is_remover k ≡ true
sweep_removes kind.Gc is = refl
sweep_removes _ is = cc

pub begun_sweeps : (intent : Intent) → is_gc intent.kind ≡ true → MaySweepAll intent.now intent.expire (seen_replied nothing_seen (Begin intent) Done)
begun_sweeps intent is = record {
  sweeps = record {
    may = record { began = sweep_removes intent.kind is; moment = same_self intent.now; apart = refl; bare = refl };
    sweeps = and_both (is_gc intent.kind) (intent.expire == intent.expire) is (same_self intent.expire);
  };
  free = refl;
}
