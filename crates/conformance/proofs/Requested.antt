-- Whether a removal is asked for, by what is found among the marks.
use Rattle.std.proofs.Common.{◌≡◌, ℕ, Bool, true, false, cond, bytes_eq, Option, Some, None, option_map, find, List, [], ◌∷◌, map, refl, sym, ap, ◌∙◌}
use Rattle.dir_model.specs.declared.intent.Intent.{Intent}
use Rattle.dir_model.specs.declared.intent.Kind.{Kind}
use Rattle.dir_model.specs.declared.intent.Kind.TheVariants as kind
use Rattle.dir_rules.specs.declared.seen.Created.{Created}
use Rattle.dir_rules.specs.Standing.{intends}
use Rattle.dir_rules.specs.Rules.{asks_for, is_old}
use Rattle.conformance.specs.declared.table.CreatedMark.{CreatedMark}
use Rattle.conformance.specs.Tables.{created_of}
use Rattle.conformance.specs.Asked.{asks_at}

-- the newest mark of the pod
abbrev pub newest : List ℕ → List Created → Option Created
newest name created = find (λ c. bytes_eq c.name name) created

abbrev pub newest_mark : List ℕ → List CreatedMark → Option CreatedMark
newest_mark name created = find (λ c. bytes_eq c.name name) created

asked_by : (k : Kind) (i : Intent) (name : List ℕ) (created : List Created) (o : Option Created) → newest name created ≡ o → asks_at k i (option_map (λ c. c.moment) o) name ≡ asks_for k i created name
asked_by kind.Rm i name created o e = refl
asked_by kind.Gc i name created o e = by o ∙ ap (is_old i) (sym e)
  where
    by : (p : Option Created) → asks_at kind.Gc i (option_map (λ c. c.moment) p) name ≡ is_old i p
    by None = refl
    by (Some c) = refl
asked_by _ i name created o e = refl

pub asked : (intent : Option Intent) (name : List ℕ) (created : List Created) (o : Option Created) → newest name created ≡ o → intends (λ i. asks_at i.kind i (option_map (λ c. c.moment) o) name) intent ≡ intends (λ i. asks_for i.kind i created name) intent
asked None name created o e = refl
asked (Some i) name created o e = asked_by i.kind i name created o e

pub newest_of : (name : List ℕ) (created : List CreatedMark) → newest name (map created_of created) ≡ option_map created_of (newest_mark name created)
newest_of name [] = refl
newest_of name (c ∷ created) = by (bytes_eq c.name name) (newest_of name created)
  where
    by : (t : Bool) → newest name (map created_of created) ≡ option_map created_of (newest_mark name created) → cond t (Some (created_of c)) (newest name (map created_of created)) ≡ option_map created_of (cond t (Some c) (newest_mark name created))
    by true more = refl
    by false more = more
