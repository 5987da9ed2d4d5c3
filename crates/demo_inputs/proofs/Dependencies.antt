-- The text of a dependency, put together piece by piece.
use Rattle.std.proofs.Common.{arith, ◌≡◌, ℕ, zero, suc, ◌-◌, ◌/◌, ◌≢◌, refl, codes, List, ◌++◌, append_assoc, Result, Ok, Err, OnOk, sym, ap, ◌∙◌}
use Rattle.demo_inputs.specs.Bundles.{dependencies_text}
use Rattle.demo_line.specs.Names.{demo_name}

abbrev pub before : List ℕ
before = codes ",\"dependencies\":[{\"imageName\":\""

abbrev pub behind : List ℕ
behind = codes "\"}]"

joined : (text name first second last : List ℕ) → first ≡ text ++ before → second ≡ first ++ name → last ≡ second ++ behind → last ≡ text ++ (before ++ (name ++ behind))
joined text name first second last a b c =
    c ∙ ap (λ (l : List ℕ). l ++ behind) (b ∙ ap (λ (l : List ℕ). l ++ name) a) ∙ append_assoc (text ++ before) name behind ∙ append_assoc text before (name ++ behind)

half : (i : ℕ) → i ≢ 0 → dependencies_text i ≡ before ++ (demo_name ((i - 1) / 2) ++ behind)
half zero h = absurd (h refl)
half (suc i) h = let e : i ≡ suc i - 1 = omega arith in ap (λ (j : ℕ). before ++ (demo_name (j / 2) ++ behind)) e

pub pushed : {E : Type 0} (i : ℕ) (text first second last : List ℕ) (r : Result (Unit {0}) E) → i ≢ 0 → first ≡ text ++ before → second ≡ first ++ demo_name ((i - 1) / 2) → OnOk r (last ≡ second ++ behind) → OnOk r (last ≡ text ++ dependencies_text i)
pushed i text first second last (Ok done) h a b c = joined text (demo_name ((i - 1) / 2)) first second last a b c ∙ ap (λ (l : List ℕ). text ++ l) (sym (half i h))
pushed i text first second last (Err e) h a b c = tt
