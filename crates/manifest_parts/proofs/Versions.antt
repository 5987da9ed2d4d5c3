-- A text that is read as a version is one, and a version is read.
use Rattle.std.proofs.Common.{◌≡◌, ◌≢◌, ℕ, List, [], ◌∷◌, Result, Ok, Err, IsOk, refl, subst}
use Rattle.semver.specs.Parse.{Parts, version_parts}
use Rattle.semver.specs.declared.error.Error.{Error}
use Rattle.ac_types.specs.Outcomes.{reads}
use Rattle.manifest_parts.specs.HeadForms.{version_text, if_version}
use Rattle.manifest_parts.specs.PartRules.{IsVersion}

pub version_given : (at t a : List ℕ) → version_text at t ≡ reads a → IsVersion a
unfolding version_text
version_given at t a h = by (version_parts t) refl h
  where
    by : (r : Result Parts Error) → version_parts t ≡ r → if_version at r t ≡ reads a → IsVersion a
    by (Ok parts) is k =
        let same : t ≡ a = cc in
        let good : IsVersion t = rw is refl in
        subst IsVersion same good
    by (Err e) is k = let none : ⊥ = cc in absurd none

pub version_again : (at t : List ℕ) → IsVersion t → version_text at t ≡ reads t
unfolding version_text
version_again at t is = by (version_parts t) is
  where
    by : (r : Result Parts Error) → IsOk r → if_version at r t ≡ reads t
    by (Ok parts) good = refl
    by (Err e) good = let none : ⊥ = cc in absurd none

pub version_filled : (t : List ℕ) → IsVersion t → t ≢ []
version_filled [] is = let none : ⊥ = cc in absurd none
version_filled (b ∷ bs) is = λ none. cc
