-- Whether a pod's removal is asked for, by the greatest moment that was shown.
use Rattle.std.specs.Prelude.{ℕ, Bool, false, nat_le, Option, Some, List}
use Rattle.dir_model.specs.declared.intent.Intent.{Intent}
use Rattle.dir_model.specs.declared.intent.Kind.{Kind}
use Rattle.dir_model.specs.declared.intent.Kind.TheVariants as kind
use Rattle.dir_rules.specs.Marks.{begins}
use Rattle.dir_rules.specs.Rules.{mark_age}

abbrev pub asks_at : Kind → Intent → Option ℕ → List ℕ → Bool
asks_at kind.Rm intent moment name = begins intent.word name
asks_at kind.Gc intent (Some moment) name = nat_le intent.expire (mark_age intent.now moment)
asks_at _ intent moment name = false
