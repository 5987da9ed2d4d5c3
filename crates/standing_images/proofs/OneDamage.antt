-- At one state one path is of the first damage, and where there is one the store isn't whole.
use Rattle.std.proofs.Common.{◌≡◌, ◌⊎◌, inl, inr, ℕ, Less, Some, List, [], ◌∷◌, refl, sym, ap, subst, ◌∙◌}
use Rattle.std.specs.Prelude.{Contains}
use Rattle.std.specs.Ordering.{nat_cmp, ordering_reverse, is_eq}
use Rattle.std.specs.declared.cmp.Ordering.{Ordering}
use Rattle.std.specs.declared.cmp.Ordering.TheVariants.{Equal, Greater}
use Rattle.std.specs.Cmp.Lexicographic.{slice_cmp, nat_list_cmp_total}
use Rattle.std.proofs.lemmas.Map.Text.{is_eq-slice_cmp}
use Rattle.std.proofs.lemmas.Slice.Eq.{bytes_eq-Decides}
use Rattle.ac_types.specs.declared.store_key.StoreKey.{StoreKey}
use Rattle.ac_types.specs.Ids.{AreBytes, id_text, id_read}
use Rattle.ac_types.proofs.IdTexts.{text_read}
use Rattle.dep_match.specs.declared.stored.Stored.{Stored}
use Rattle.manifests.specs.ImageData.{image_data}
use Rattle.dir_model.specs.State.{DirState}
use Rattle.image_reading.specs.Places.{mark_name}
use Rattle.image_reading.specs.Store.{keys}
use Rattle.standing_images.specs.Images.{StandsWithItsFiles, StandTogether, AreStore}
use Rattle.standing_images.specs.Damage.{HasMoment, IsWholeImage, LacksPart, IsBefore, IsFirstDamage}
use Rattle.standing_images.proofs.Members.{contains_none, contains_cases}

-- an image that stands so is whole
pub stands_whole : (s : DirState) (image : Stored) → StandsWithItsFiles image s → IsWholeImage image.key s
stands_whole s image x = record {
  manifest = record { bytes = x.manifest.bytes; there = x.manifest.there; holds = (image_data image.manifest, x.manifest.holds) };
  id = record { bytes = x.id.bytes; there = x.id.there; holds = (image.id, x.id.holds) };
  moment = record { folder = x.folder; here = x.here; moment = image.moment; mark = x.mark };
}

pub store_whole : (s : DirState) (images : List Stored) (key : StoreKey) → StandTogether images s → Contains (keys images) key → IsWholeImage key s
store_whole s [] key all there = absurd (contains_none key there)
store_whole s (x ∷ xs) key all there = by (contains_cases x.key (keys xs) key there) (λ t. store_whole s xs key all.1 t)
  where
    by : (x.key ≡ key) ⊎ Contains (keys xs) key → (Contains (keys xs) key → IsWholeImage key s) → IsWholeImage key s
    by (inl same) go = subst (λ (k : StoreKey). IsWholeImage k s) same (stands_whole s x all.0)
    by (inr later) go = go later

-- a whole image lacks nothing
pub lacks_none : (s : DirState) (key : StoreKey) (path : List ℕ) → IsWholeImage key s → LacksPart key mark_name (HasMoment key s) path s → ⊥
lacks_none s key path x (inl l) = l.1 x.manifest
lacks_none s key path x (inr (inl l)) = l.2 x.id
lacks_none s key path x (inr (inr l)) = l.3 x.moment

-- one part is the first that an image lacks
pub one_part : (s : DirState) (key : StoreKey) (third : List ℕ) (HasThird : Type 0) (p q : List ℕ) → LacksPart key third HasThird p s →
    LacksPart key third HasThird q s → p ≡ q
one_part s key third HasThird p q (inl x) (inl y) = x.0 ∙ sym y.0
one_part s key third HasThird p q (inl x) (inr (inl y)) = absurd (x.1 y.1)
one_part s key third HasThird p q (inl x) (inr (inr y)) = absurd (x.1 y.1)
one_part s key third HasThird p q (inr (inl x)) (inl y) = absurd (y.1 x.1)
one_part s key third HasThird p q (inr (inl x)) (inr (inl y)) = x.0 ∙ sym y.0
one_part s key third HasThird p q (inr (inl x)) (inr (inr y)) = absurd (x.2 y.2)
one_part s key third HasThird p q (inr (inr x)) (inl y) = absurd (y.1 x.1)
one_part s key third HasThird p q (inr (inr x)) (inr (inl y)) = absurd (y.2 x.2)
one_part s key third HasThird p q (inr (inr x)) (inr (inr y)) = x.0 ∙ sym y.0

-- keys whose texts are neither before the other are one
pub same_key : (k j : StoreKey) → AreBytes 32 k.bytes → AreBytes 32 j.bytes → id_text k.bytes ≡ id_text j.bytes → k ≡ j
same_key k j x y texts =
    let read : Some k.bytes ≡ Some j.bytes = sym (text_read 32 k.bytes x) ∙ (ap (id_read 32) texts ∙ text_read 32 j.bytes y) in
    let same : k.bytes ≡ j.bytes = cc in
    ap (λ (l : List ℕ). let key : StoreKey = record { bytes = l } in key) same

pub one_damage : (s : DirState) (p q : List ℕ) → IsFirstDamage p s → IsFirstDamage q s → p ≡ q
one_damage s p q x y = by (slice_cmp nat_cmp (id_text x.key.bytes) (id_text y.key.bytes)) refl
  where
    one : x.key ≡ y.key → p ≡ q
    one same = one_part s y.key mark_name (HasMoment y.key s) p q (subst (λ (k : StoreKey). LacksPart k mark_name (HasMoment k s) p s) same x.lacks) y.lacks

    by : (o : Ordering) → slice_cmp nat_cmp (id_text x.key.bytes) (id_text y.key.bytes) ≡ o → p ≡ q
    by Less is = absurd (lacks_none s x.key p (y.earlier x.key x.kind x.stands is) x.lacks)
    by Equal is = one (same_key x.key y.key x.kind y.kind
        ((bytes_eq-Decides (id_text x.key.bytes) (id_text y.key.bytes)).0 (sym (is_eq-slice_cmp (id_text x.key.bytes) (id_text y.key.bytes)) ∙ ap is_eq is)))
    by Greater is =
        let less : IsBefore y.key x.key = nat_list_cmp_total.antisymm (id_text y.key.bytes) (id_text x.key.bytes) ∙ ap ordering_reverse is in
        absurd (lacks_none s y.key q (x.earlier y.key y.kind y.stands less) y.lacks)

-- the store isn't whole
pub not_whole : (s : DirState) (path : List ℕ) (images : List Stored) → IsFirstDamage path s → AreStore images s → ⊥
not_whole s path images x are = lacks_none s x.key path (store_whole s images x.key are.together (are.all x.key x.kind x.stands)) x.lacks
