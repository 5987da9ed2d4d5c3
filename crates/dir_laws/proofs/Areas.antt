-- What the names tell that end the listing of an area.
use Rattle.std.proofs.Common.{◌≡◌, ◌⊎◌, ℕ, true, false, ◌&&◌, ◌==◌, bytes_eq, Some, List, [], ◌++◌, find, refl, sym, ap, ◌∙◌}
use Rattle.std.specs.List.{list_all, AllByRecursion}
use Rattle.dir_model.specs.declared.area.Area.{Area}
use Rattle.dir_model.specs.declared.event.Event.{Event}
use Rattle.dir_model.specs.declared.tree.Listed.TheVariants as listed
use Rattle.dir_model.specs.declared.request.Request.TheVariants.{ListArea}
use Rattle.dir_model.specs.declared.request.Reply.TheVariants.{Begun}
use Rattle.dir_model.specs.State.{DirState}
use Rattle.dir_model.specs.Trace.{listings_replied, states_next}
use Rattle.dir_model.specs.Listings.{is_listing_of, is_listing, listing_of, has_name, shows_names, shows_area, ascend}
use Rattle.dir_model.proofs.Lists.{and_left, and_right, same_self}
use Rattle.dir_model.specs.Trees.{names_in}
use Rattle.dir_laws.specs.Stretches.{Throughout, Sometime, StandsInArea}
use Rattle.dir_laws.proofs.Ends.{all_called, noted_along, end_holds, end_only}
use Rattle.dir_laws.proofs.Open.{is_change, open_along, find_own}

abbrev itself : List ℕ → List ℕ
itself name = name

abbrev area_now : Area → DirState → List (List ℕ)
area_now area s = names_in area s.namespace.folders

-- a listing begins with the names that stand, and knows no other
pub area_begins : (s : DirState) (me : ℕ) (area : Area) → is_listing s me ≡ false → find (is_listing_of me) (listings_replied s me (ListArea area) Begun) ≡ Some (record { process = me; listed = listed.Area area (names_in area s.namespace.folders) [] })
area_begins s me area none = find_own me s.listings _ none (same_self me)

-- what the names of an end say of an area, where the listing began with these
module _ (s : DirState) (es : List Event) (me q : ℕ) (area : Area) (l : List (List ℕ) × List (List ℕ)) (names : List (List ℕ)) (others : AllByRecursion (λ e. (e.process == me) ≡ false) es) (open_now : find (is_listing_of me) s.listings ≡ Some (record { process = q; listed = listed.Area area l.0 l.1 })) (shown : shows_area area names (listing_of (states_next s es) me) ≡ true) where
  abbrev last : List (List ℕ) × List (List ℕ)
  last = noted_along itself (area_now area) s es is_change l

  ended : shows_names last.0 last.1 names ≡ true
  ended = and_right _ _ (sym (ap (shows_area area names) (open_along itself (area_now area) (listed.Area area) (λ s through ever. refl) s es me q l others open_now)) ∙ shown)

  shows : (list_all (has_name names) last.0 && list_all (has_name (last.0 ++ last.1)) names) ≡ true
  shows = and_right (ascend names) (list_all (has_name names) last.0 && list_all (has_name (last.0 ++ last.1)) names) ended

  -- each name that stood when the listing began and throughout is shown
  pub shows_throughout : (name : List ℕ) → has_name l.0 name ≡ true → Throughout (StandsInArea area name) s es → has_name names name ≡ true
  shows_throughout name at_first there = all_called itself (has_name names) last.0 name (and_left (list_all (has_name names) last.0) (list_all (has_name (last.0 ++ last.1)) names) shows) (end_holds itself (area_now area) name s es is_change l at_first there)

  -- and each that is shown was known when it began, or stood at some moment since
  pub shows_only : (name : List ℕ) → has_name names name ≡ true → (has_name (l.0 ++ l.1) name ≡ true) ⊎ Sometime (StandsInArea area name) s es
  shows_only name there = end_only itself (area_now area) (λ n. bytes_eq n name) s es is_change l (all_called itself (has_name (last.0 ++ last.1)) names name (and_right (list_all (has_name names) last.0) (list_all (has_name (last.0 ++ last.1)) names) shows) there)
