-- The names that are made are names.
use Rattle.std.proofs.Common.{◌≡◌, ℕ, ◌≤◌, ◌<◌, true, List, [], ◌∷◌, ◌++◌, ◌-◌, length, take, min, arith, sym, ◌∙◌, ap, append_assoc, inl, inr, true≢false}
use Rattle.std.specs.List.{slice_range}
use Rattle.std.proofs.lemmas.List.{take_min}
use Rattle.ac_types.specs.Names.{are_words, is_hyphen, IsAcName, IsAcIdentifier, IsBadByteAt, IsNameFault}
use Rattle.ac_types.specs.declared.name_error.NameError.TheVariants.{Empty, BadByte}
use Rattle.pod_manifest.specs.AppNames.{app_name, last_words, own_volume, shortened, without_hyphen}
use Rattle.pod_manifest.proofs.LastWords.{last_words_are}
use Rattle.pod_manifest.proofs.Words.{cut_words, cut_short, joined_words, no_words}

pub shortened_good : (t : List ℕ) → are_words is_hyphen t ≡ true → IsAcName (shortened t)
unfolding shortened
shortened_good t h = (cut_words 200 t (omega arith) h, cut_short 200 t)

pub app_name_good : (image : List ℕ) → IsAcIdentifier image → IsAcName (app_name image)
app_name_good image h = shortened_good (last_words image) (last_words_are image h.0)

pub own_volume_good : (app point : List ℕ) → IsAcName app → IsAcName point → IsAcName (own_volume app point)
own_volume_good app point a p = shortened_good (app ++ 45 ∷ point) (joined_words app point a.0 p.0)

-- a name has no fault but want of memory
pub never_empty : (t : List ℕ) → IsNameFault is_hyphen 200 t Empty → IsAcName t → ⊥
never_empty t fault good = no_words is_hyphen (ap (are_words is_hyphen) (sym fault) ∙ good.0)

pub never_bad : (t : List ℕ) (place : ℕ) → IsNameFault is_hyphen 200 t (BadByte place) → IsAcName t → ⊥
never_bad t place fault good = by fault.1
  where
    by : IsBadByteAt is_hyphen 200 t place → ⊥
    by (inl e) = true≢false (sym good.0 ∙ e.0)
    by (inr e) = let long : 200 < length t = e.1 in let short : length t ≤ 200 = good.1 in omega arith

-- what is cut to the first 200 bytes by its length
pub shortened_is : (words front text : List ℕ) (n : ℕ) → n ≡ min (length words) 200 → front ≡ slice_range words 0 n → text ≡ without_hyphen front
    → text ≡ shortened words
unfolding shortened
shortened_is words front text n n_is front_is text_is =
    let turned : n - 0 ≡ min 200 (length words) = omega arith in
    text_is ∙ ap without_hyphen (front_is ∙ ap (λ (k : ℕ). take k words) turned ∙ take_min 200 words)

-- what is put together of two names
pub together : (app point one two three : List ℕ) → one ≡ app → two ≡ one ++ 45 ∷ [] → three ≡ two ++ point
    → three ≡ app ++ 45 ∷ point
together app point one two three first second third =
    third ∙ ap (λ (t : List ℕ). t ++ point) (second ∙ ap (λ (t : List ℕ). t ++ 45 ∷ []) first) ∙ append_assoc app (45 ∷ []) point
