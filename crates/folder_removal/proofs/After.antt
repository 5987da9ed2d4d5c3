-- What a deletion leaves for the next one.
use Rattle.std.proofs.Common.{◌≡◌, Bool, true, false, not, cond, List, [], ◌∷◌, filter, refl, ap, ◌∙◌}
use Rattle.std.specs.List.{list_any}
use Rattle.plain_laws.proofs.Lists.{none_of_filter}
use Rattle.dir_model.specs.declared.spot.Spot.{Spot}
use Rattle.dir_model.specs.declared.item.Inner.{Inner}
use Rattle.dir_model.specs.State.{spot_eq}
use Rattle.dir_model.proofs.Lists.{or_none}
use Rattle.dir_rules.specs.declared.seen.Seen.{Seen}
use Rattle.dir_rules.specs.LockRules.{may_remove}
use Rattle.folder_removal.specs.Known.{is_there, MayDelete, OnlyThere, ForgetsFolder}

none_that_fail : {X : Type 0} (q : X → Bool) (xs : List X) → list_any q (filter (λ x. not (q x)) xs) ≡ false
none_that_fail q [] = refl
none_that_fail {X} q (x ∷ xs) = by (q x) refl (none_that_fail q xs)
  where
    by : (b : Bool) → q x ≡ b → list_any q (filter (λ y. not (q y)) xs) ≡ false → list_any q (cond (not b) (x ∷ filter (λ y. not (q y)) xs) (filter (λ y. not (q y)) xs)) ≡ false
    by true is rest = rest
    by false is rest = or_none (q x) (list_any q (filter (λ y. not (q y)) xs)) is rest

-- nothing is known of the folder any more
pub no_items : {spot : Spot} {old new : Seen} → ForgetsFolder spot old new → list_any (is_there spot) new.items ≡ false
no_items {spot} {old} {new} d = ap (λ (s : Seen). list_any (is_there spot) s.items) d.same ∙ none_that_fail (is_there spot) old.items

pub no_listing : {spot : Spot} {old new : Seen} → ForgetsFolder spot old new → list_any (λ inner. spot_eq inner.spot spot) new.listed ≡ false
no_listing {spot} {old} {new} d = ap (λ (s : Seen). list_any (λ inner. spot_eq inner.spot spot) s.listed) d.same ∙ none_that_fail (λ (inner : Inner). spot_eq inner.spot spot) old.listed

-- a folder that might be deleted before may be after
pub next_may : {spot other : Spot} {old new : Seen} → ForgetsFolder spot old new → MayDelete other old → MayDelete other new
next_may {spot} {other} {old} {new} d m = record {
  lock = ap (λ (s : Seen). may_remove s.standing other) d.same ∙ m.lock;
  bare = ap (λ (s : Seen). list_any (is_there other) s.items) d.same ∙ none_of_filter (is_there other) (λ i. not (spot_eq i.inner.spot spot)) old.items m.bare;
}

-- each request was allowed, if those before were
pub deleted_kept : {spot : Spot} {old new : Seen} → ForgetsFolder spot old new → new.kept ≡ old.kept
deleted_kept {spot} {old} {new} d = ap (λ (s : Seen). s.kept) d.same

pub only_kept : {spot : Spot} {old new : Seen} → OnlyThere spot old new → new.kept ≡ old.kept
only_kept {spot} {old} {new} o = ap (λ (s : Seen). s.kept) o.same
