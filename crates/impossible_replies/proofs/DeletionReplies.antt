-- What it means that a deletion meets an answer which its lock doesn't explain: a started app writes on.
use Rattle.std.proofs.Common.{arith, ◌≡◌, ℕ, Bool, true, false, not, ◌&&◌, ◌||◌, nat_le, nat_lt, length, bytes_eq, List, [], ◌∷◌, ◌++◌, refl, sym, ap, subst, ◌∙◌}
use Rattle.std.specs.List.{list_any}
use Rattle.std.proofs.lemmas.Bool.Decides.{nat_tests}
use Rattle.std.proofs.lemmas.Grind.{common_steps}
use Rattle.std.proofs.lemmas.Slice.Eq.{bytes_eq-Decides}
use Rattle.std.proofs.lemmas.Bool.{and_parts}
use Rattle.plain_laws.proofs.Booleans.{clash}
use Rattle.dir_model.specs.declared.area.Area.{Area}
use Rattle.dir_model.specs.declared.area.Area.TheVariants as area
use Rattle.dir_model.specs.declared.event.Event.{Event}
use Rattle.dir_model.specs.declared.item.Inner.{Inner}
use Rattle.dir_model.specs.declared.item.Item.{Item}
use Rattle.dir_model.specs.declared.opening.Target.{Target}
use Rattle.dir_model.specs.declared.opening.Target.TheVariants.{Own, Gate, Claim}
use Rattle.dir_model.specs.declared.spot.Spot.{Spot}
use Rattle.dir_model.specs.declared.request.DirError.TheVariants.{Missing}
use Rattle.dir_model.specs.declared.request.Request.TheVariants.{ListIn}
use Rattle.dir_model.specs.declared.request.Reply.TheVariants.{Items, Refused}
use Rattle.dir_model.specs.Areas.{is_run_or_later, is_stage}
use Rattle.dir_model.specs.Local.{is_own_of}
use Rattle.dir_model.specs.Locks.{is_exclusive}
use Rattle.dir_model.specs.State.{DirState, spot_eq}
use Rattle.dir_model.specs.Trace.{state_after}
use Rattle.dir_model.specs.Replies.{is_apps_request}
use Rattle.dir_model.specs.Calls.{event}
use Rattle.dir_model.proofs.Lists.{and_left, and_both}
use Rattle.dir_rules.specs.declared.seen.Seen.{Seen}
use Rattle.dir_rules.specs.declared.seen.ShownItem.{ShownItem}
use Rattle.dir_rules.specs.Anomalies.{most_path, loses_directory, is_foreign_write}
use Rattle.dir_rules.specs.Conforms.{seen_of}
use Rattle.dir_rules.specs.LockRules.{may_remove, is_removal_held, is_removal_target}
use Rattle.dir_rules.specs.Marks.{path_in}
use Rattle.dir_rules.specs.Rules.{deletes, is_deleting, is_file_item, is_item_shown}
use Rattle.dir_rules.specs.Seen.{is_item_at}
use Rattle.dir_rules.specs.Standing.{is_in, is_own_held, is_garbage, area_of}
use Rattle.lifecycle.specs.Executions.{IsConforming}
use Rattle.lifecycle.proofs.Lists.{any_in, in_any}
use Rattle.folder_contents.proofs.Spots.{one_location}
use Rattle.impossible_replies.proofs.Alongside.{Steps, steps}
use Rattle.impossible_replies.proofs.Apps.{no_app}
use Rattle.impossible_replies.proofs.Deletions.{all_told, at_parts}
use Rattle.impossible_replies.proofs.Removals.{directory_found}
use Rattle.impossible_replies.proofs.Removers.{under_lock}

-- a directory that a listing had shown is missing
pub listing_at_app : (h : List Event) (p : ℕ) (inner : Inner) (left : ℕ) → IsConforming (h ++ event p (ListIn inner) (Refused Missing left) ∷ []) →
    is_item_shown (λ k. not (is_file_item k)) inner (seen_of p h).items ≡ true → is_foreign_write (state_after h) (seen_of p h) (ListIn inner) (Refused Missing left) ≡ true
listing_at_app h p inner left c shown = by (is_apps_request (state_after h) (ListIn inner)) refl
  where
    x : Steps h p (ListIn inner) (Refused Missing left)
    x = steps h (event p (ListIn inner) (Refused Missing left)) c refl refl

    lock : may_remove (seen_of p h).standing inner.spot ≡ true
    lock =
        let z = any_in (λ (i : ShownItem). is_item_at inner i && not (is_file_item i.kind)) (seen_of p h).items shown in
        let same = at_parts inner z.0 (and_left (is_item_at inner z.0) (not (is_file_item z.0.kind)) z.1.1) in
        subst (λ (spot : Spot). may_remove (seen_of p h).standing spot ≡ true) same.0 ((under_lock h x.conforming p).items z.0 z.1.0)

    later : is_apps_request (state_after h) (ListIn inner) ≡ true → is_run_or_later inner.spot.area ≡ true
    later app = at (is_run_or_later inner.spot.area) refl
      where
        at : (b : Bool) → is_run_or_later inner.spot.area ≡ b → b ≡ true
        at true e = refl
        at false e = clash (is_apps_request (state_after h) (ListIn inner)) app (no_app h x.conforming inner.spot inner.path e)

    -- the lock that a removal in a garbage place needs is the pod's own
    owned : (t : Target) (a : Area) → a ≡ inner.spot.area → is_run_or_later a ≡ true → is_removal_target inner.spot t ≡ true → (is_own_of inner.spot.name t ≡ true) × (is_garbage (area_of t) ≡ true)
    owned (Own here) a same on h =
        let y = and_parts (is_garbage inner.spot.area) (spot_eq here inner.spot) h in
        let is : here ≡ inner.spot = one_location here inner.spot y.1 in (
          and_both (is_stage here.area) (bytes_eq here.name inner.spot.name) (ap (λ (s : Spot). is_stage s.area) is ∙ staged inner.spot.area y.0) ((bytes_eq-Decides here.name inner.spot.name).1 (ap (λ (s : Spot). s.name) is)),
          ap (λ (s : Spot). is_garbage s.area) is ∙ y.0,
        )
      where
        staged : (a : Area) → is_garbage a ≡ true → is_stage a ≡ true
        staged area.ExitedGarbage g = refl
        staged area.Garbage g = refl
        staged a g = cc
    owned (Claim here) a same on h = cc
    owned (Gate gate) a same on h = absurd (apart a on (ap (is_in area.Removed) same ∙ and_left (is_in area.Removed inner.spot.area) (is_in area.Removed gate) h))
      where
        apart : (a : Area) → is_run_or_later a ≡ true → is_in area.Removed a ≡ true → ⊥
        apart area.Run on removed = cc
        apart area.ExitedGarbage on removed = cc
        apart area.Garbage on removed = cc
        apart a on removed = cc

    deleting : is_run_or_later inner.spot.area ≡ true → deletes (seen_of p h) inner.spot.name ≡ true
    deleting on =
        let e = any_in (is_removal_held inner.spot) (seen_of p h).standing.holdings lock in
        let y = and_parts (is_exclusive e.0.lock) (is_removal_target inner.spot e.0.target) e.1.1 in
        let o = owned e.0.target inner.spot.area refl on y.1 in
        in_any (is_deleting inner.spot.name) e.0 (seen_of p h).standing.holdings e.1.0
        (and_both (is_own_held inner.spot.name e.0) (is_garbage (area_of e.0.target)) (and_both (is_own_of inner.spot.name e.0.target) (is_exclusive e.0.lock) o.0 y.0) o.1)

    by : (b : Bool) → is_apps_request (state_after h) (ListIn inner) ≡ b → is_foreign_write (state_after h) (seen_of p h) (ListIn inner) (Refused Missing left) ≡ true
    by false plain = absurd (directory_found h p (all_told h x.conforming p x.living) x.conforming inner left plain x.is shown)
    by true app = foreign (and_both (deletes (seen_of p h) inner.spot.name) (is_item_shown (λ k. not (is_file_item k)) inner (seen_of p h).items) (deleting (later app)) shown)
      where
        foreign : loses_directory (seen_of p h) (ListIn inner) (Refused Missing left) ≡ true → is_foreign_write (state_after h) (seen_of p h) (ListIn inner) (Refused Missing left) ≡ true
        foreign l = ap (λ (b : Bool). (true && false) || (b || false)) l

-- a path that is longer than any that a maker makes
pub long_at_app : (st : DirState) (s : Seen) (inner : Inner) (items : List Item) → list_any (λ (i : Item). not (nat_le (length (path_in inner.path i.name)) most_path)) items ≡ true →
    is_foreign_write st s (ListIn inner) (Items items) ≡ true
long_at_app st s inner items long = longer items long
  where
    over : (n : ℕ) → not (nat_le n most_path) ≡ nat_lt most_path n
    over n = grind (arith, nat_tests, common_steps)

    either : (a b c d : Bool) → a ≡ c → (a || b) ≡ true → (b ≡ true → d ≡ true) → (c || d) ≡ true
    either true b c d same h more = ap (λ x. x || d) (sym same)
    either false b c d same h more = ap (λ x. x || d) (sym same) ∙ more h

    longer : (is : List Item) → list_any (λ (i : Item). not (nat_le (length (path_in inner.path i.name)) most_path)) is ≡ true → list_any (λ (i : Item). nat_lt most_path (length (path_in inner.path i.name))) is ≡ true
    longer [] h = h
    longer (i ∷ is) h = either (not (nat_le (length (path_in inner.path i.name)) most_path)) (list_any (λ (i : Item). not (nat_le (length (path_in inner.path i.name)) most_path)) is)
        (nat_lt most_path (length (path_in inner.path i.name))) (list_any (λ (i : Item). nat_lt most_path (length (path_in inner.path i.name))) is)
        (over (length (path_in inner.path i.name))) h (λ rest. longer is rest)
