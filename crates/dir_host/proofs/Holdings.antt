-- The list of holdings, of the folders that are open.
use Rattle.std.proofs.Common.{◌≡◌, ℕ, ◌+◌, inl, inr, arith, subst, Bool, true, false, not, ◌||◌, cond, Some, None, List, [], ◌∷◌, map, filter, find, refl, sym, ◌∙◌, ap}
use Rattle.std.specs.List.{list_any}
use Rattle.dir_model.specs.declared.spot.Handle.{Handle}
use Rattle.dir_model.specs.declared.spot.Mode.{Mode}
use Rattle.dir_model.specs.Local.{is_handle_of, is_open_among, held_in}
use Rattle.dir_model.proofs.Lists.{any_of_map}
use Rattle.dir_host.specs.declared.open_folders.OpenFolder.{OpenFolder}
use Rattle.std.proofs.lemmas.Bool.{cases_lt}
use Rattle.dir_host.specs.OpenFolders.{holdings_of, AreOpenBelow}

pub holdings_any : (handle : Handle) (folders : List OpenFolder) → is_open_among handle (holdings_of folders) ≡ list_any (λ f. is_handle_of handle f.holding) folders
holdings_any handle folders = any_of_map (λ f. f.holding) (is_handle_of handle) folders

-- a folder whose holding changed
abbrev pub locked_folder : Handle → Mode → OpenFolder → OpenFolder
locked_folder handle mode f = record f { holding = held_in handle mode f.holding }

pub holdings_locked : (handle : Handle) (mode : Mode) (folders : List OpenFolder) → holdings_of (map (locked_folder handle mode) folders) ≡ map (held_in handle mode) (holdings_of folders)
holdings_locked handle mode [] = refl
holdings_locked handle mode (f ∷ fs) = ap (λ l. held_in handle mode f.holding ∷ l) (holdings_locked handle mode fs)

-- closing a folder takes its holding away
pub holdings_closed : (handle : Handle) (folders : List OpenFolder) → holdings_of (filter (λ f. not (is_handle_of handle f.holding)) folders) ≡ filter (λ h. not (is_handle_of handle h)) (holdings_of folders)
holdings_closed handle [] = refl
holdings_closed handle (f ∷ fs) = by (is_handle_of handle f.holding) (holdings_closed handle fs)
  where
    by : (b : Bool) → holdings_of (filter (λ g. not (is_handle_of handle g.holding)) fs) ≡ filter (λ h. not (is_handle_of handle h)) (holdings_of fs) → holdings_of (cond (not b) (f ∷ filter (λ g. not (is_handle_of handle g.holding)) fs) (filter (λ g. not (is_handle_of handle g.holding)) fs)) ≡ cond (not b) (f.holding ∷ filter (λ h. not (is_handle_of handle h)) (holdings_of fs)) (filter (λ h. not (is_handle_of handle h)) (holdings_of fs))
    by true rest = rest
    by false rest = ap (λ l. f.holding ∷ l) rest

-- where a test passes somewhere, a search finds a place, and there it passes
pub found_somewhere : {X : Type 0} (t : X → Bool) (xs : List X) → list_any t xs ≡ true → find t xs ≡ None → ⊥
found_somewhere t [] any none = cc
found_somewhere t (x ∷ xs) any none = by (t x) any none (λ a n. found_somewhere t xs a n)
  where
    by : (b : Bool) → (b || list_any t xs) ≡ true → cond b (Some x) (find t xs) ≡ None → (list_any t xs ≡ true → find t xs ≡ None → ⊥) → ⊥
    by true any none later = cc
    by false any none later = later any none

pub found_passes : {X : Type 0} (t : X → Bool) (xs : List X) (y : X) → find t xs ≡ Some y → t y ≡ true
found_passes t [] y is = cc
found_passes t (x ∷ xs) y is = by (t x) refl is (λ later. found_passes t xs y later)
  where
    by : (b : Bool) → t x ≡ b → cond b (Some x) (find t xs) ≡ Some y → (find t xs ≡ Some y → t y ≡ true) → t y ≡ true
    by true passes is later = let same : x ≡ y = cc in ap t (sym same) ∙ passes
    by false passes is later = later is

-- one handle more is open
pub open_below_more : (k : ℕ) (folders : List OpenFolder) → AreOpenBelow k folders → is_open_among (record { number = k }) (holdings_of folders) ≡ true → AreOpenBelow (k + 1) folders
open_below_more k folders below is n lt = elim (cases_lt n k) [ inl less ↦ below n less | inr more ↦ let same : k ≡ n = omega (arith, lt, more) in subst (λ (m : ℕ). is_open_among (record { number = m }) (holdings_of folders) ≡ true) same is ]
