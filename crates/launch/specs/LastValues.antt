-- What the table of last values has.
use Rattle.std.specs.Prelude.{◌≡◌, ℕ, Option, None, List, bytes_eq, cond, false}
use Rattle.std.specs.BTreeMap.{get_by_text}
use Rattle.launch.specs.declared.last_values.LastValues.{LastValues}
use Rattle.launch.specs.Environment.{is_reserved_variable}

-- the value at a name
abbrev pub kept_value_at : LastValues → List ℕ → Option (List ℕ)
kept_value_at t name = get_by_text t.values name

-- the name has no value any more, every other that isn't reserved has its own
abbrev pub TakesValueOut : List ℕ → LastValues → LastValues → Type 0
TakesValueOut name old new = (other : List ℕ) → is_reserved_variable other ≡ false
    → kept_value_at new other ≡ cond (bytes_eq name other) None (kept_value_at old other)
