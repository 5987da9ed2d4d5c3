-- The names that a listing shows, and the requests and lines for them.
use Rattle.std.proofs.Common.{◌≡◌, ℕ, Bool, true, false, ◌&&◌, ◌||◌, cond, List, [], ◌∷◌, ◌++◌, map, refl, sym, ap, subst, ◌∙◌, append_assoc, append-nil}
use Rattle.std.specs.List.{list_any, AllByRecursion}
use Rattle.plain_laws.proofs.Lists.{any_left, any_right, map_both}
use Rattle.dir_model.specs.declared.area.Area.TheVariants.{Incoming, Removed}
use Rattle.dir_model.specs.declared.spot.Mode.TheVariants.{Exclusive}
use Rattle.dir_model.specs.declared.request.Request.{Request}
use Rattle.dir_model.specs.declared.request.Request.TheVariants.{OpenArea, TryLock, Close, MoveFolder, ListArea, ListIn, RemoveFileIn, RemoveDirIn, RemoveFolder}
use Rattle.dir_model.specs.declared.request.Reply.TheVariants.{Done}
use Rattle.dir_model.proofs.Lists.{and_left, or_last, all_both, all_weaker}
use Rattle.dir_rules.specs.Standing.{is_in}
use Rattle.dir_trait.specs.DirCalls.{DirAt}
use Rattle.dir_files.specs.AreaLocks.{is_taking_area}
use Rattle.folder_building.proofs.Following.{Follows}
use Rattle.image_removal.specs.declared.pass.Pass.{Pass}
use Rattle.image_removal.specs.declared.pass.Pass.TheVariants.{PutAway, Delete}
use Rattle.image_removal.specs.declared.pass.SweepLine.{SweepLine}
use Rattle.image_removal.specs.Requests.{lists_store_area, locks_one, sweeps_store}
use Rattle.image_removal.specs.Passes.{area_of_pass, line_of, pass_request_of, deals_with_folder, is_uuid, uuids, deals_with_folders}
use Rattle.image_removal.specs.Calls.{WasCalled}
use Rattle.image_removal.specs.Sweeps.{AddsLines}
use Rattle.image_removal.proofs.Times.{called_after, called_before}
use Rattle.image_removal.proofs.Locked.{takes_first, takes_second}

-- what each part asks for is among a sweep's requests
locks_sweep : (request : Request) → locks_one Incoming Removed request ≡ true → sweeps_store request ≡ true
locks_sweep (OpenArea area) is = is
locks_sweep (TryLock handle mode) is = is
locks_sweep (Close handle) is = refl
locks_sweep request is = cc

pub takes_sweep : (pass : Pass) (request : Request) → is_taking_area (area_of_pass pass) Exclusive request ≡ true → sweeps_store request ≡ true
takes_sweep PutAway request is = locks_sweep request (takes_first Incoming Removed request is)
takes_sweep Delete request is = locks_sweep request (takes_second Incoming Removed request is)

pub lists_sweep : (pass : Pass) (request : Request) → lists_store_area (area_of_pass pass) request ≡ true → sweeps_store request ≡ true
lists_sweep PutAway (ListArea area) is = rw is refl
lists_sweep Delete (ListArea area) is = or_last (is_in area Incoming) (is_in area Removed) is
lists_sweep pass request is = cc

in_area : (a b c d : Bool) → ((a && b) && (c && d)) ≡ true → (a && c) ≡ true
in_area true true c d is = and_left c d is
in_area true false c d is = cc
in_area false b c d is = cc

deals_sweep : (pass : Pass) (name : List ℕ) (request : Request) → deals_with_folder pass name request ≡ true → sweeps_store request ≡ true
deals_sweep PutAway name (MoveFolder from to) is = in_area (is_in from.area Incoming) _ (is_in to.area Removed) _ is
deals_sweep PutAway name request is = cc
deals_sweep Delete name (ListIn inner) is = and_left (is_in inner.spot.area Removed) _ is
deals_sweep Delete name (RemoveFileIn inner) is = and_left (is_in inner.spot.area Removed) _ is
deals_sweep Delete name (RemoveDirIn inner) is = and_left (is_in inner.spot.area Removed) _ is
deals_sweep Delete name (RemoveFolder spot) is = and_left (is_in spot.area Removed) _ is
deals_sweep Delete name request is = cc

any_holds : {X : Type 0} (t : X → Bool) (b : Bool) → ((x : X) → t x ≡ true → b ≡ true) → (xs : List X) → list_any t xs ≡ true → b ≡ true
any_holds t b only [] h = cc
any_holds {X} t b only (x ∷ xs) h = by (t x) (only x) h (any_holds t b only xs)
  where
    by : (a : Bool) → (a ≡ true → b ≡ true) → (a || list_any t xs) ≡ true → (list_any t xs ≡ true → b ≡ true) → b ≡ true
    by true f h rest = f refl
    by false f h rest = rest h

pub some_sweep : (pass : Pass) (names : List (List ℕ)) (request : Request) → deals_with_folders pass names request ≡ true → sweeps_store request ≡ true
some_sweep pass names request is = any_holds (λ name. deals_with_folder pass name request) (sweeps_store request) (λ name. deals_sweep pass name request) (uuids names) is

-- names in order
pub uuids_append : (xs ys : List (List ℕ)) → uuids (xs ++ ys) ≡ uuids xs ++ uuids ys
uuids_append [] ys = refl
uuids_append (x ∷ xs) ys = by (is_uuid x) (uuids_append xs ys)
  where
    by : (b : Bool) → uuids (xs ++ ys) ≡ uuids xs ++ uuids ys → cond b (x ∷ uuids (xs ++ ys)) (uuids (xs ++ ys)) ≡ cond b (x ∷ uuids xs) (uuids xs) ++ uuids ys
    by true rest = ap (λ (l : List (List ℕ)). x ∷ l) rest
    by false rest = rest

-- a name among others
pub some_among : (pass : Pass) (before rest : List (List ℕ)) (name : List ℕ) (request : Request) → deals_with_folders pass (name ∷ []) request ≡ true
    → deals_with_folders pass ((before ++ name ∷ []) ++ rest) request ≡ true
some_among pass before rest name request is =
    let t : List ℕ → Bool = λ n. deals_with_folder pass n request in
    ap (list_any t) (uuids_append (before ++ name ∷ []) rest ∙ ap (λ (l : List (List ℕ)). l ++ uuids rest) (uuids_append before (name ∷ [])))
    ∙ any_left t (uuids before ++ uuids (name ∷ [])) (uuids rest) (any_right t (uuids before) (uuids (name ∷ [])) is)

pub some_left : (pass : Pass) (before rest : List (List ℕ)) (request : Request) → deals_with_folders pass before request ≡ true → deals_with_folders pass (before ++ rest) request ≡ true
some_left pass before rest request is =
    let t : List ℕ → Bool = λ n. deals_with_folder pass n request in
    ap (list_any t) (uuids_append before rest) ∙ any_left t (uuids before) (uuids rest) is

pub some_right : (pass : Pass) (before rest : List (List ℕ)) (request : Request) → deals_with_folders pass rest request ≡ true → deals_with_folders pass (before ++ rest) request ≡ true
some_right pass before rest request is =
    let t : List ℕ → Bool = λ n. deals_with_folder pass n request in
    ap (list_any t) (uuids_append before rest) ∙ any_right t (uuids before) (uuids rest) is

-- one name
pub alone_uuid : (pass : Pass) (name : List ℕ) → is_uuid name ≡ true → (request : Request) → deals_with_folder pass name request ≡ true → deals_with_folders pass (name ∷ []) request ≡ true
alone_uuid pass name uuid request is = ap (λ b. list_any (λ n. deals_with_folder pass n request) (cond b (name ∷ []) [])) uuid ∙ ap (λ b. b || false) is

-- its line
pub adds_uuid : {observed : Bool} {old new : DirAt} (pass : Pass) (name : List ℕ) (before after : List SweepLine) → is_uuid name ≡ true → after ≡ before ++ line_of pass name ∷ []
    → (observed ≡ true → WasCalled (pass_request_of pass name) Done old.process old.trace new.trace) → AddsLines observed pass (name ∷ []) before after old new
adds_uuid {observed} {old} {new} pass name before after uuid is done =
    let own : uuids (name ∷ []) ≡ name ∷ [] = ap (λ b. cond b (name ∷ []) []) uuid in
    record {
      lines = is ∙ ap (λ (l : List (List ℕ)). before ++ map (line_of pass) l) (sym own);
      each = λ t. subst (λ (l : List (List ℕ)). AllByRecursion (λ n. WasCalled (pass_request_of pass n) Done old.process old.trace new.trace) l) (sym own) (done t, tt);
    }

pub adds_other : {observed : Bool} {d : DirAt} (pass : Pass) (name : List ℕ) (lines : List SweepLine) → is_uuid name ≡ false → AddsLines observed pass (name ∷ []) lines lines d d
adds_other {observed} {d} pass name lines other =
    let none : uuids (name ∷ []) ≡ [] = ap (λ b. cond b (name ∷ []) []) other in
    record {
      lines = sym (append-nil lines) ∙ ap (λ (l : List (List ℕ)). lines ++ map (line_of pass) l) (sym none);
      each = λ t. subst (λ (l : List (List ℕ)). AllByRecursion (λ n. WasCalled (pass_request_of pass n) Done d.process d.trace d.trace) l) (sym none) tt;
    }

pub adds_none : {observed : Bool} {d : DirAt} (pass : Pass) (lines : List SweepLine) → AddsLines observed pass [] lines lines d d
adds_none {observed} {d} pass lines = record { lines = sym (append-nil lines); each = λ t. tt }

-- and more lines
pub adds_more : {observed : Bool} {a b c : DirAt} (pass : Pass) (xs ys : List (List ℕ)) (before mid after : List SweepLine) → Follows observed a b → Follows observed b c
    → AddsLines observed pass xs before mid a b → AddsLines observed pass ys mid after b c → AddsLines observed pass (xs ++ ys) before after a c
adds_more {observed} {a} {b} {c} pass xs ys before mid after ab bc x y = record {
  lines = y.lines ∙ (ap (λ (l : List SweepLine). l ++ map (line_of pass) (uuids ys)) x.lines
      ∙ (append_assoc before (map (line_of pass) (uuids xs)) (map (line_of pass) (uuids ys))
      ∙ ap (λ (l : List SweepLine). before ++ l) (sym (map_both (line_of pass) (uuids xs) (uuids ys)))
      ∙ ap (λ (l : List (List ℕ)). before ++ map (line_of pass) l) (sym (uuids_append xs ys))));
  each = λ t. subst (λ (l : List (List ℕ)). AllByRecursion (λ n. WasCalled (pass_request_of pass n) Done a.process a.trace c.trace) l) (sym (uuids_append xs ys))
      (all_both _ (uuids xs) (uuids ys)
      (all_weaker _ _ (λ n called. called_before called (bc.extends t)) (uuids xs) (x.each t))
      (all_weaker _ _ (λ n called. called_after (ab.extends t) ab.same called) (uuids ys) (y.each t)));
}
