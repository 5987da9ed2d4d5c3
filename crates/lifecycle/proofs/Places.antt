-- Which folder stands at a location after a make, a move or a removal.
use Rattle.std.proofs.Common.{arith, ◌≡◌, ◌⊎◌, inl, inr, ◌+◌, ℕ, Bool, true, false, ◌&&◌, ◌==◌, cond, bytes_eq, Option, Some, None, List, [], ◌∷◌, ◌++◌, length, map, refl, sym, ap, ◌∙◌}
use Rattle.std.specs.List.{position_from}
use Rattle.std.proofs.lemmas.Slice.Eq.{bytes_eq-Decides}
use Rattle.std.proofs.lemmas.Iterator.Adapters.{position_from-zero}
use Rattle.std.proofs.lemmas.Bool.{and_parts}
use Rattle.plain_laws.proofs.Texts.{same_text}
use Rattle.plain_laws.proofs.Numbers.{no_number}
use Rattle.dir_model.specs.declared.spot.Spot.{Spot}
use Rattle.dir_model.specs.Areas.{rank}
use Rattle.dir_model.specs.State.{spot_eq, Namespace, folder_at, stands, is_at}
use Rattle.dir_model.specs.Trace.{moved, removed}
use Rattle.lifecycle.proofs.Lists.{In}
use Rattle.dir_model.proofs.Spots.{spot_self}
use Rattle.dir_model.proofs.Lists.{same_number}

push_none : {X : Type 0} (t : X → Bool) (i : ℕ) (xs : List X) (y : X) → position_from t i xs ≡ None → t y ≡ true →
    position_from t i (xs ++ y ∷ []) ≡ Some (i + length xs)
push_none t i [] y none at = rw at (ap Some (plus i))
  where
    plus : (k : ℕ) → k ≡ k + 0
    plus k = omega arith
push_none t i (x ∷ xs) y none at = by (t x) none (λ k. push_none t (i + 1) xs y k at)
  where
    plus : (i + 1) + length xs ≡ i + length (x ∷ xs)
    plus = omega arith

    by : (b : Bool) → cond b (Some i) (position_from t (i + 1) xs) ≡ None →
        (position_from t (i + 1) xs ≡ None → position_from t (i + 1) (xs ++ y ∷ []) ≡ Some ((i + 1) + length xs)) →
        cond b (Some i) (position_from t (i + 1) (xs ++ y ∷ [])) ≡ Some (i + length (x ∷ xs))
    by true k go = cc
    by false k go = go k ∙ ap Some plus

push_other : {X : Type 0} (t : X → Bool) (i : ℕ) (xs : List X) (y : X) → t y ≡ false →
    position_from t i (xs ++ y ∷ []) ≡ position_from t i xs
push_other t i [] y off = rw off refl
push_other t i (x ∷ xs) y off = ap (cond (t x) (Some i)) (push_other t (i + 1) xs y off)

map_place : {X : Type 0} (t u : X → Bool) (f : X → X) (i : ℕ) (xs : List X) → ((x : X) → In x xs → t (f x) ≡ u x) →
    position_from t i (map f xs) ≡ position_from u i xs
map_place t u f i [] same = refl
map_place t u f i (x ∷ xs) same = rw (same x (inl refl), map_place t u f (i + 1) xs (λ z k. same z (inr k))) refl

none_all : {X : Type 0} (t : X → Bool) (i : ℕ) (xs : List X) → position_from t i xs ≡ None → (x : X) → In x xs → t x ≡ false
none_all t i [] none x there = absurd there
none_all t i (z ∷ zs) none x there = by (t z) refl none there (λ k. none_all t (i + 1) zs k)
  where
    by : (b : Bool) → t z ≡ b → cond b (Some i) (position_from t (i + 1) zs) ≡ None → (x ≡ z) ⊎ In x zs →
        (position_from t (i + 1) zs ≡ None → (y : _) → In y zs → t y ≡ false) → t x ≡ false
    by true e k there go = cc
    by false e k (inl is) go = ap t is ∙ e
    by false e k (inr later) go = go k x later

all_none : {X : Type 0} (t : X → Bool) (i : ℕ) (xs : List X) → ((x : X) → In x xs → t x ≡ false) → position_from t i xs ≡ None
all_none t i [] off = refl
all_none t i (x ∷ xs) off = rw (off x (inl refl), all_none t (i + 1) xs (λ z k. off z (inr k))) refl

-- two equal locations are equal to the same
pub area_same : (a b : Spot) → spot_eq a b ≡ true → rank a.area ≡ rank b.area
area_same a b h = same_number (rank a.area) (rank b.area) (and_parts (rank a.area == rank b.area) (bytes_eq a.name b.name) h).0

pub same_name : (a b : List ℕ) → a ≡ b → bytes_eq a b ≡ true
same_name a b h = (bytes_eq-Decides a b).1 h

pub spot_name : (a b : Spot) → spot_eq a b ≡ true → a.name ≡ b.name
spot_name a b h = same_text a.name b.name (and_parts (rank a.area == rank b.area) (bytes_eq a.name b.name) h).1

pub spot_right : (a b c : Spot) → spot_eq b c ≡ true → spot_eq a b ≡ spot_eq a c
spot_right a b c h = ap (λ k. (rank a.area == k) && bytes_eq a.name b.name) (area_same b c h)
    ∙ ap (λ (k : List ℕ). (rank a.area == rank c.area) && bytes_eq a.name k) (spot_name b c h)

pub spot_left : (a b c : Spot) → spot_eq a b ≡ true → spot_eq a c ≡ spot_eq b c
spot_left a b c h = ap (λ k. (k == rank c.area) && bytes_eq a.name c.name) (area_same a b h)
    ∙ ap (λ (k : List ℕ). (rank b.area == rank c.area) && bytes_eq k c.name) (spot_name a b h)

pub spot_turn : (a b : Spot) → spot_eq a b ≡ true → spot_eq b a ≡ true
spot_turn a b h = sym (spot_left a b a h) ∙ spot_self a

abbrev place : Namespace → Spot → Option ℕ
place n spot = position_from (is_at spot) 0 n.folders

placed : (n : Namespace) (spot : Spot) → folder_at n spot ≡ place n spot
placed n spot = position_from-zero (is_at spot) n.folders

pub none_stands : (n : Namespace) (spot : Spot) → stands n spot ≡ false → folder_at n spot ≡ None
none_stands n spot h = no_number (folder_at n spot) h

pub none_at : (n : Namespace) (spot : Spot) → stands n spot ≡ false → (x : Option Spot) → In x n.folders → is_at spot x ≡ false
none_at n spot h = none_all (is_at spot) 0 n.folders (sym (placed n spot) ∙ none_stands n spot h)

abbrev pub with_folders : Namespace → List (Option Spot) → Namespace
with_folders n fs = record n { folders = fs }

zero_more : (k : ℕ) → 0 + k ≡ k
zero_more k = omega arith

pub made_there : (n : Namespace) (spot new : Spot) → folder_at n new ≡ None → spot_eq new spot ≡ true →
    folder_at (with_folders n (n.folders ++ Some new ∷ [])) spot ≡ Some (length n.folders)
made_there n spot new none is =
    placed (with_folders n (n.folders ++ Some new ∷ [])) spot ∙ push_none (is_at spot) 0 n.folders (Some new)
    (all_none (is_at spot) 0 n.folders off) is ∙ ap Some (zero_more (length n.folders))
  where
    like : (x : Option Spot) → is_at new x ≡ false → is_at spot x ≡ false
    like None h = refl
    like (Some here) h = sym (spot_right here new spot is) ∙ h

    off : (x : Option Spot) → In x n.folders → is_at spot x ≡ false
    off x there = like x (none_all (is_at new) 0 n.folders (sym (placed n new) ∙ none) x there)

pub made_elsewhere : (n : Namespace) (spot new : Spot) → spot_eq new spot ≡ false →
    folder_at (with_folders n (n.folders ++ Some new ∷ [])) spot ≡ folder_at n spot
made_elsewhere n spot new off =
    placed (with_folders n (n.folders ++ Some new ∷ [])) spot
    ∙ (push_other (is_at spot) 0 n.folders (Some new) off ∙ sym (placed n spot))

pub moved_there : (n : Namespace) (spot from to : Spot) → folder_at n to ≡ None → spot_eq to spot ≡ true →
    folder_at (with_folders n (map (moved from to) n.folders)) spot ≡ folder_at n from
moved_there n spot from to none is =
    placed (with_folders n (map (moved from to) n.folders)) spot
    ∙ (map_place (is_at spot) (is_at from) (moved from to) 0 n.folders one ∙ sym (placed n from))
  where
    like : (x : Option Spot) → is_at to x ≡ false → is_at spot x ≡ false
    like None h = refl
    like (Some here) h = sym (spot_right here to spot is) ∙ h

    by : (b : Bool) (x : Option Spot) → is_at from x ≡ b → is_at spot x ≡ false → is_at spot (cond b (Some to) x) ≡ b
    by true x e off = is
    by false x e off = off

    one : (x : Option Spot) → In x n.folders → is_at spot (moved from to x) ≡ is_at from x
    one x there = by (is_at from x) x refl (like x (none_all (is_at to) 0 n.folders (sym (placed n to) ∙ none) x there))

pub moved_away : (n : Namespace) (spot from to : Spot) → spot_eq to spot ≡ false → spot_eq from spot ≡ true →
    folder_at (with_folders n (map (moved from to) n.folders)) spot ≡ None
moved_away n spot from to off is =
    placed (with_folders n (map (moved from to) n.folders)) spot
    ∙ (map_place (is_at spot) (λ x. false) (moved from to) 0 n.folders (λ x there. one x)
    ∙ all_none (λ x. false) 0 n.folders (λ x there. refl))
  where
    like : (x : Option Spot) → is_at from x ≡ false → is_at spot x ≡ false
    like None h = refl
    like (Some here) h = sym (spot_right here from spot is) ∙ h

    by : (b : Bool) (x : Option Spot) → is_at from x ≡ b → is_at spot (cond b (Some to) x) ≡ false
    by true x e = off
    by false x e = like x e

    one : (x : Option Spot) → is_at spot (moved from to x) ≡ false
    one x = by (is_at from x) x refl

pub moved_elsewhere : (n : Namespace) (spot from to : Spot) → spot_eq to spot ≡ false → spot_eq from spot ≡ false →
    folder_at (with_folders n (map (moved from to) n.folders)) spot ≡ folder_at n spot
moved_elsewhere n spot from to off apart =
    placed (with_folders n (map (moved from to) n.folders)) spot
    ∙ (map_place (is_at spot) (is_at spot) (moved from to) 0 n.folders (λ x there. one x) ∙ sym (placed n spot))
  where
    unlike : (x : Option Spot) → is_at from x ≡ true → is_at spot x ≡ false
    unlike None h = cc
    unlike (Some here) h = spot_left here from spot h ∙ apart

    by : (b : Bool) (x : Option Spot) → is_at from x ≡ b → is_at spot (cond b (Some to) x) ≡ is_at spot x
    by true x e = off ∙ sym (unlike x e)
    by false x e = refl

    one : (x : Option Spot) → is_at spot (moved from to x) ≡ is_at spot x
    one x = by (is_at from x) x refl

pub removed_there : (n : Namespace) (spot gone : Spot) → spot_eq gone spot ≡ true →
    folder_at (with_folders n (map (removed gone) n.folders)) spot ≡ None
removed_there n spot gone is =
    placed (with_folders n (map (removed gone) n.folders)) spot
    ∙ (map_place (is_at spot) (λ x. false) (removed gone) 0 n.folders (λ x there. one x)
    ∙ all_none (λ x. false) 0 n.folders (λ x there. refl))
  where
    like : (x : Option Spot) → is_at gone x ≡ false → is_at spot x ≡ false
    like None h = refl
    like (Some here) h = sym (spot_right here gone spot is) ∙ h

    by : (b : Bool) (x : Option Spot) → is_at gone x ≡ b → is_at spot (cond b None x) ≡ false
    by true x e = refl
    by false x e = like x e

    one : (x : Option Spot) → is_at spot (removed gone x) ≡ false
    one x = by (is_at gone x) x refl

pub removed_elsewhere : (n : Namespace) (spot gone : Spot) → spot_eq gone spot ≡ false →
    folder_at (with_folders n (map (removed gone) n.folders)) spot ≡ folder_at n spot
removed_elsewhere n spot gone apart =
    placed (with_folders n (map (removed gone) n.folders)) spot
    ∙ (map_place (is_at spot) (is_at spot) (removed gone) 0 n.folders (λ x there. one x) ∙ sym (placed n spot))
  where
    unlike : (x : Option Spot) → is_at gone x ≡ true → is_at spot x ≡ false
    unlike None h = cc
    unlike (Some here) h = spot_left here gone spot h ∙ apart

    by : (b : Bool) (x : Option Spot) → is_at gone x ≡ b → is_at spot (cond b None x) ≡ is_at spot x
    by true x e = sym (unlike x e)
    by false x e = refl

    one : (x : Option Spot) → is_at spot (removed gone x) ≡ is_at spot x
    one x = by (is_at gone x) x refl

-- equal locations have one folder
pub folder_like : (n : Namespace) (a b : Spot) → spot_eq a b ≡ true → folder_at n a ≡ None → folder_at n b ≡ None
folder_like n a b same none = placed n b ∙ all_none (is_at b) 0 n.folders
    (λ x there. like x (none_all (is_at a) 0 n.folders (sym (placed n a) ∙ none) x there))
  where
    like : (x : Option Spot) → is_at a x ≡ false → is_at b x ≡ false
    like None h = refl
    like (Some here) h = sym (spot_right here a b same) ∙ h
