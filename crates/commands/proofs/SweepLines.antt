-- Where nobody else steps, the lines of a sweep of the store are those of the state before.
use Rattle.std.proofs.Common.{◌≡◌, inl, inr, ℕ, Bool, true, false, not, ◌&&◌, ◌||◌, ◌==◌, cond, bytes_eq, is_some, Less, Option, Some, None, List, [], ◌∷◌, ◌++◌, map, refl, sym, ap, subst, ◌∙◌, append_assoc, ◌+◌}
use Rattle.std.specs.List.{list_any, position_from, AllByRecursion}
use Rattle.std.proofs.lemmas.Iterator.Adapters.{position_from-zero}
use Rattle.std.specs.List.Sorted.{IsStrictlySortedBy}
use Rattle.std.specs.Ordering.{nat_cmp}
use Rattle.std.specs.Cmp.Lexicographic.{slice_cmp}
use Rattle.std.proofs.lemmas.Slice.Eq.{bytes_eq-Decides}
use Rattle.plain_laws.proofs.Texts.{same_bytes, none_below}
use Rattle.plain_laws.proofs.Booleans.{same_test}
use Rattle.dir_model.specs.declared.area.Area.{Area}
use Rattle.dir_model.specs.declared.area.Area.TheVariants.{Incoming, Removed}
use Rattle.dir_model.specs.declared.event.Event.{Event}
use Rattle.dir_model.specs.declared.spot.Mode.TheVariants.{Exclusive}
use Rattle.dir_model.specs.declared.spot.Spot.{Spot}
use Rattle.dir_model.specs.declared.request.Request.{Request}
use Rattle.dir_model.specs.declared.request.Request.TheVariants.{MakeFolder, MoveFolder, ListArea, RemoveFolder}
use Rattle.dir_model.specs.declared.request.Reply.{Reply}
use Rattle.dir_model.specs.declared.request.Reply.TheVariants.{Done, Names}
use Rattle.dir_model.specs.State.{Namespace, DirState, empty_state, spot_eq, is_at, stands}
use Rattle.dir_model.specs.Trace.{state_after, state_next, moved, namespace_replied}
use Rattle.dir_model.specs.Trees.{names_in}
use Rattle.dir_model.specs.Listings.{has_name}
use Rattle.dir_model.specs.Calls.{event, is_begin, is_foreign, is_kill, Extends, AtOwnStep}
use Rattle.dir_model.specs.Quiet.{Quiet}
use Rattle.dir_model.proofs.Lists.{all_left, all_right, same_rest, same_self, or_last, and_false}
use Rattle.dir_model.proofs.Chains.{states_next-append, and_more, extends_wider}
use Rattle.dir_model.proofs.Moments.{at_within}
use Rattle.dir_laws.specs.Stretches.{Sometime, StandsInArea}
use Rattle.dir_files.specs.Listed.{ShowsArea}
use Rattle.dir_files.specs.AreaLocks.{is_taking_area, is_against, IsBusyElsewhere, IsFreeElsewhere}
use Rattle.folder_contents.proofs.Spots.{one_location}
use Rattle.image_removal.specs.declared.pass.Pass.{Pass}
use Rattle.image_removal.specs.declared.pass.Pass.TheVariants.{PutAway, Delete}
use Rattle.image_removal.specs.declared.pass.SweepLine.{SweepLine}
use Rattle.image_removal.specs.Passes.{area_of_pass, line_of, is_close, is_uuid, uuids}
use Rattle.image_removal.specs.Requests.{incoming_spot, removed_spot, lists_store_area, sweeps_store}
use Rattle.image_removal.specs.Sweeps.{SweepsUnder, UnderLock, WasLocked}
use Rattle.command_outcomes.specs.Meanwhile.{Meanwhile}
use Rattle.commands.specs.ImageGc.{SweepsImages, PrintsSweepOfState, sweep_texts}
use Rattle.commands.specs.SweepTable.{is_barred, meets, AreImagePassLines, BarredOr, IsImagePassOf, AreSweepLines}
use Rattle.commands.proofs.OwnSteps.{in_process, same_folders}
use Rattle.commands.proofs.Openings.{free_before}
use Rattle.commands.proofs.RemovalQuiet.{held_before}
use Rattle.commands.proofs.RemovalEnds.{NoneAt, after_move, Upto, upto_more, kept_between}
use Rattle.commands.proofs.SweepEnds.{place_in, putting, Dealt, named_at, none_of, throughout_same, nothing_more, none_left, moves_elsewhere, puts, never, upto_passed, first_pass, to_between, from_between}
use Rattle.commands.proofs.GcQuiet.{Leaves, leaves_same}
use Rattle.commands.proofs.GcTurn.{later_all}

-- names

cond_named : (u : Bool) (n : List ℕ) (ns : List (List ℕ)) (name : List ℕ) → has_name (cond u (n ∷ ns) ns) name ≡ cond u (bytes_eq n name || has_name ns name) (has_name ns name)
cond_named true n ns name = refl
cond_named false n ns name = refl

one_named : (u b v c d : Bool) → (b ≡ true → v ≡ u) → c ≡ (v && d) → cond u (b || c) c ≡ (v && (b || d))
one_named true true v c d same rest = ap (λ w. w && true) (sym (same refl))
one_named true false v c d same rest = rest
one_named false true v c d same rest = rest ∙ (ap (λ w. w && d) (same refl) ∙ ap (λ w. w && true) (sym (same refl)))
one_named false false v c d same rest = rest

named_uuids : (ns : List (List ℕ)) (name : List ℕ) → has_name (uuids ns) name ≡ (is_uuid name && has_name ns name)
named_uuids [] name = sym (and_false (is_uuid name))
named_uuids (n ∷ ns) name =
    cond_named (is_uuid n) n (uuids ns) name
    ∙ one_named (is_uuid n) (bytes_eq n name) (is_uuid name) (has_name (uuids ns) name) (has_name ns name) (λ is. ap is_uuid (sym ((bytes_eq-Decides n name).0 is))) (named_uuids ns name)

all_uuids : (P : List ℕ → Type 0) (ns : List (List ℕ)) → AllByRecursion P ns → AllByRecursion P (uuids ns)
all_uuids P [] all = tt
all_uuids P (n ∷ ns) all = by (is_uuid n) (all_uuids P ns all.1)
  where
    by : (u : Bool) → AllByRecursion P (uuids ns) → AllByRecursion P (cond u (n ∷ uuids ns) (uuids ns))
    by true rest = (all.0, rest)
    by false rest = rest

uuids_rise : (ns : List (List ℕ)) → IsStrictlySortedBy (slice_cmp nat_cmp) ns → IsStrictlySortedBy (slice_cmp nat_cmp) (uuids ns)
unfolding IsStrictlySortedBy
uuids_rise [] rise = tt
uuids_rise (n ∷ ns) rise = by (is_uuid n) (uuids_rise ns rise.1)
  where
    by : (u : Bool) → IsStrictlySortedBy (slice_cmp nat_cmp) (uuids ns) → IsStrictlySortedBy (slice_cmp nat_cmp) (cond u (n ∷ uuids ns) (uuids ns))
    by true rest = (all_uuids (λ (y : List ℕ). slice_cmp nat_cmp n y ≡ Less) ns rise.0, rest)
    by false rest = rest

-- names that rise are one list by what is among them

below_all : (n z : List ℕ) (ns : List (List ℕ)) → AllByRecursion (λ (y : List ℕ). slice_cmp nat_cmp n y ≡ Less) ns → has_name ns z ≡ true → slice_cmp nat_cmp n z ≡ Less
below_all n z [] all there = cc
below_all n z (y ∷ ys) all there = by (bytes_eq y z) refl there (λ rest. below_all n z ys all.1 rest)
  where
    by : (b : Bool) → bytes_eq y z ≡ b → (b || has_name ys z) ≡ true → (has_name ys z ≡ true → slice_cmp nat_cmp n z ≡ Less) → slice_cmp nat_cmp n z ≡ Less
    by true is there rest = subst (λ (x : List ℕ). slice_cmp nat_cmp n x ≡ Less) ((bytes_eq-Decides y z).0 is) all.0
    by false is there rest = rest there

abbrev SameNames : List (List ℕ) → List (List ℕ) → Type 0
SameNames xs ys = (name : List ℕ) → has_name xs name ≡ has_name ys name

heads_same : (x y : List ℕ) (xs ys : List (List ℕ)) → AllByRecursion (λ (z : List ℕ). slice_cmp nat_cmp x z ≡ Less) xs → AllByRecursion (λ (z : List ℕ). slice_cmp nat_cmp y z ≡ Less) ys → SameNames (x ∷ xs) (y ∷ ys) → x ≡ y
heads_same x y xs ys above beyond same = by (bytes_eq y x) refl (bytes_eq x y) refl
    (sym (same x) ∙ ap (λ b. b || has_name xs x) (same_bytes x)) (same y ∙ ap (λ b. b || has_name ys y) (same_bytes y))
  where
    by : (b : Bool) → bytes_eq y x ≡ b → (c : Bool) → bytes_eq x y ≡ c → (bytes_eq y x || has_name ys x) ≡ true → (bytes_eq x y || has_name xs y) ≡ true → x ≡ y
    by true is c other first second = sym ((bytes_eq-Decides y x).0 is)
    by false is true other first second = (bytes_eq-Decides x y).0 other
    by false is false other first second =
        absurd (none_below x y (below_all x y xs above (sym (ap (λ b. b || has_name xs y) other) ∙ second)) (below_all y x ys beyond (sym (ap (λ b. b || has_name ys x) is) ∙ first)))

one_list : (xs ys : List (List ℕ)) → IsStrictlySortedBy (slice_cmp nat_cmp) xs → IsStrictlySortedBy (slice_cmp nat_cmp) ys → SameNames xs ys → xs ≡ ys
unfolding IsStrictlySortedBy
one_list [] [] first second same = refl
one_list [] (y ∷ ys) first second same = let e : false ≡ true = same y ∙ ap (λ b. b || has_name ys y) (same_bytes y) in cc
one_list (x ∷ xs) [] first second same = let e : true ≡ false = sym (ap (λ b. b || has_name xs x) (same_bytes x)) ∙ same x in cc
one_list (x ∷ xs) (y ∷ ys) first second same =
    let head = heads_same x y xs ys first.0 second.0 same in
    ap (λ (n : List ℕ). n ∷ xs) head ∙ ap (λ (l : List (List ℕ)). y ∷ l) (one_list xs ys first.1 second.1 (λ name. rest name head))
  where
    rest : (name : List ℕ) → x ≡ y → has_name xs name ≡ has_name ys name
    rest name head = by (bytes_eq x name) refl
      where
        by : (b : Bool) → bytes_eq x name ≡ b → has_name xs name ≡ has_name ys name
        by true is =
            let one = (bytes_eq-Decides x name).0 is in
            subst (λ (n : List ℕ). has_name xs n ≡ false) one (later_all x xs first.0)
            ∙ sym (subst (λ (n : List ℕ). has_name ys n ≡ false) (sym head ∙ one) (later_all y ys second.0))
        by false is =
            ap (λ c. c || has_name xs name) (sym is) ∙ (same name ∙ ap (λ c. c || has_name ys name) (ap (λ (n : List ℕ). bytes_eq n name) (sym head) ∙ is))

-- the lines of one state are one list

pass_once : (pass : Pass) (meeting : List ℕ → Bool) (xs ys : List SweepLine) → AreImagePassLines pass meeting xs → AreImagePassLines pass meeting ys → xs ≡ ys
pass_once pass meeting xs ys x y = x.are ∙ (ap (map (line_of pass)) (one_list x.names y.names x.rise y.rise (λ name. x.each name ∙ sym (y.each name))) ∙ sym y.are)

barred_once : (b : Bool) (pass : Pass) (meeting : List ℕ → Bool) (xs ys : List SweepLine) → BarredOr b pass xs (AreImagePassLines pass meeting xs) → BarredOr b pass ys (AreImagePassLines pass meeting ys) → xs ≡ ys
barred_once true pass meeting xs ys x y = x ∙ sym y
barred_once false pass meeting xs ys x y = pass_once pass meeting xs ys x y

pub lines_once : (me : ℕ) (s : DirState) (xs ys : List SweepLine) → AreSweepLines me s xs → AreSweepLines me s ys → xs ≡ ys
lines_once me s xs ys x y =
    x.are
    ∙ (ap (λ (l : List SweepLine). l ++ x.deleted) (barred_once (is_barred me PutAway s) PutAway (meets me PutAway s) x.moved y.moved x.put_away y.put_away)
    ∙ (ap (λ (l : List SweepLine). y.moved ++ l) (barred_once (is_barred me Delete s) Delete (meets me Delete s) x.deleted y.deleted x.delete y.delete) ∙ sym y.are))

-- where folders stand

any_position : (p : Option Spot → Bool) (i : ℕ) (xs : List (Option Spot)) → is_some (position_from p i xs) ≡ list_any p xs
any_position p i [] = refl
any_position p i (x ∷ xs) = by (p x) (any_position p (i + 1) xs)
  where
    by : (b : Bool) → is_some (position_from p (i + 1) xs) ≡ list_any p xs → is_some (cond b (Some i) (position_from p (i + 1) xs)) ≡ (b || list_any p xs)
    by true rest = refl
    by false rest = rest

abbrev has_place : Spot → List (Option Spot) → Bool
has_place spot folders = list_any (is_at spot) folders

stands_there : (n : Namespace) (spot : Spot) → stands n spot ≡ has_place spot n.folders
stands_there n spot = ap is_some (position_from-zero (is_at spot) n.folders) ∙ any_position (is_at spot) 0 n.folders

none_there : (spot : Spot) (xs : List (Option Spot)) → NoneAt spot xs → has_place spot xs ≡ false
none_there spot [] none = refl
none_there spot (x ∷ xs) none = ap (λ b. b || has_place spot xs) none.0 ∙ none_there spot xs none.1

-- a listing where no folder moves shows what stands there

sometime_same : (area : Area) (name : List ℕ) (s : DirState) (es : List Event) → AllByRecursion Leaves es → Sometime (StandsInArea area name) s es → StandsInArea area name s
sometime_same area name s [] leave at = at
sometime_same area name s (e ∷ es) leave (inl at) = at
sometime_same area name s (e ∷ es) leave (inr later) = subst (λ (fs : List (Option Spot)). has_name (names_in area fs) name ≡ true) (leave.0 e.process s.namespace) (sometime_same area name (state_next s e) es leave.1 later)

listed_exactly : {me : ℕ} {a b : List Event} {area : Area} {names : List (List ℕ)} (more : List Event) → b ≡ a ++ more → ShowsArea me a b area names → AllByRecursion Leaves more → (name : List ℕ) → has_name names name ≡ has_place (place_in area name) (state_after a).namespace.folders
listed_exactly {me} {a} {b} {area} {names} more grown shows leave name =
    let t = shows.stretch in
    let last = event me (ListArea area) (Names names) in
    let parted : more ≡ t.earlier ++ (t.others ++ last ∷ []) = same_rest a more (t.earlier ++ (t.others ++ last ∷ []))
    (sym grown ∙ (t.ends ∙ (ap (λ (h : List Event). (h ++ t.others) ++ last ∷ []) t.begins ∙ simp append_assoc))) in
    let each : AllByRecursion Leaves (t.earlier ++ (t.others ++ last ∷ [])) = subst (λ (l : List Event). AllByRecursion Leaves l) parted leave in
    let others : AllByRecursion Leaves t.others = all_left Leaves t.others (last ∷ []) (all_right Leaves t.earlier (t.others ++ last ∷ []) each) in
    let same : (state_after t.begun).namespace.folders ≡ (state_after a).namespace.folders =
    ap (λ (s : DirState). s.namespace.folders) (ap state_after t.begins ∙ states_next-append empty_state a t.earlier) ∙ leaves_same (state_after a) t.earlier (all_left Leaves t.earlier (t.others ++ last ∷ []) each) in
    same_test (has_name names name) (has_name (names_in area (state_after t.begun).namespace.folders) name)
    (λ h. sometime_same area name (state_after t.begun) t.others others (shows.only name h)) (λ h. shows.all name (throughout_same area name (state_after t.begun) t.others others h))
    ∙ (ap (λ (fs : List (Option Spot)). has_name (names_in area fs) name) same ∙ named_at area name (state_after a).namespace.folders)

-- requests that move no folder

abbrev is_idle : Request → Bool
is_idle (MakeFolder here) = false
is_idle (MoveFolder from to) = false
is_idle (RemoveFolder gone) = false
is_idle request = true

idle_leaves : (request : Request) (reply : Reply) → (is_kill request || is_idle request) ≡ true → (p : ℕ) (w : Namespace) → (namespace_replied w p request reply).folders ≡ w.folders
idle_leaves (MakeFolder here) reply h p w = cc
idle_leaves (MoveFolder a b) reply h p w = cc
idle_leaves (RemoveFolder gone) reply h p w = cc
idle_leaves request reply h p w = same_folders p w request reply refl (λ handle. refl)

begin_idle : (r : Request) → is_begin r ≡ true → is_idle r ≡ true
begin_idle (MakeFolder here) h = cc
begin_idle (MoveFolder a b) h = cc
begin_idle (RemoveFolder gone) h = cc
begin_idle r h = refl

takes_idle : (area : Area) (r : Request) → is_taking_area area Exclusive r ≡ true → is_idle r ≡ true
takes_idle area (MakeFolder here) h = cc
takes_idle area (MoveFolder a b) h = cc
takes_idle area (RemoveFolder gone) h = cc
takes_idle area r h = refl

lists_idle : (area : Area) (r : Request) → lists_store_area area r ≡ true → is_idle r ≡ true
lists_idle area (MakeFolder here) h = cc
lists_idle area (MoveFolder a b) h = cc
lists_idle area (RemoveFolder gone) h = cc
lists_idle area r h = refl

close_idle : (r : Request) → is_close r ≡ true → is_idle r ≡ true
close_idle (MakeFolder here) h = cc
close_idle (MoveFolder a b) h = cc
close_idle (RemoveFolder gone) h = cc
close_idle r h = refl

idle_all : (me : ℕ) (es : List Event) → AllByRecursion (λ e. e.process ≡ me) es → AllByRecursion (λ e. (is_foreign me e || is_idle e.request) ≡ true) es → AllByRecursion Leaves es
idle_all me [] own asked = tt
idle_all me (e ∷ es) own asked = (λ p w. idle_leaves e.request e.reply mine p w, idle_all me es own.1 asked.1)
  where
    mine : (is_kill e.request || is_idle e.request) ≡ true
    mine =
        ap (λ b. (not b || is_kill e.request) || is_idle e.request) (sym (same_self me))
        ∙ (ap (λ (q : ℕ). (not (q == me) || is_kill e.request) || is_idle e.request) (sym own.0) ∙ asked.0)

-- a part of a quiet time
quiet_within : {me : ℕ} (old a b new : List Event) → Quiet me old new → Upto old a → (y : Upto a b) → Upto b new → Quiet me a b
quiet_within {me} old a b new quiet x y z =
    record {
      more = y.0;
      grown = y.1;
      own = all_left (λ e. e.process ≡ me) y.0 z.0 (all_right (λ e. e.process ≡ me) x.0 (y.0 ++ z.0)
          (subst (λ (l : List Event). AllByRecursion (λ e. e.process ≡ me) l) (same_rest old quiet.more (x.0 ++ (y.0 ++ z.0)) (sym quiet.grown ∙ whole)) quiet.own));
    }
  where
    whole : new ≡ old ++ (x.0 ++ (y.0 ++ z.0))
    whole = z.1 ∙ (ap (λ (h : List Event). h ++ z.0) (y.1 ∙ ap (λ (h : List Event). h ++ y.0) x.1) ∙ simp append_assoc)

idle_folders : {me : ℕ} (a b : List Event) → Extends is_idle me a b → Quiet me a b → (state_after b).namespace.folders ≡ (state_after a).namespace.folders
idle_folders a b ext quiet =
    kept_between (λ (fs : List (Option Spot)). fs ≡ (state_after a).namespace.folders) is_idle (λ p w request reply h same. idle_leaves request reply h p w ∙ same) a a b b ext quiet (nothing_more a) (ext.more, ext.grown) (nothing_more b) refl

idle_leave : {me : ℕ} {a b : List Event} (ext : Extends is_idle me a b) → Quiet me a b → AllByRecursion Leaves ext.more
idle_leave {me} {a} {b} ext quiet =
    idle_all me ext.more (subst (λ (l : List Event). AllByRecursion (λ e. e.process ≡ me) l) (same_rest a quiet.more ext.more (sym quiet.grown ∙ ext.grown)) quiet.own) ext.asked

-- the first pass moves folders to the same name in removed

abbrev put : List ℕ → Option Spot → Option Spot
put n place = moved (incoming_spot n) (removed_spot n) place

abbrev is_either : List ℕ → Option Spot → Bool
is_either name place = is_at (incoming_spot name) place || is_at (removed_spot name) place

putting_is : (ns : List (List ℕ)) (a b : Spot) → list_any (λ (n : List ℕ). spot_eq a (incoming_spot n) && spot_eq b (removed_spot n)) ns ≡ true → (n : List ℕ) × (a ≡ incoming_spot n) × (b ≡ removed_spot n)
putting_is [] a b h = cc
putting_is (n ∷ ns) a b h = by (spot_eq a (incoming_spot n)) (spot_eq b (removed_spot n)) refl refl h (λ rest. putting_is ns a b rest)
  where
    by : (x y : Bool) → spot_eq a (incoming_spot n) ≡ x → spot_eq b (removed_spot n) ≡ y → ((x && y) || list_any (λ (k : List ℕ). spot_eq a (incoming_spot k) && spot_eq b (removed_spot k)) ns) ≡ true →
        (list_any (λ (k : List ℕ). spot_eq a (incoming_spot k) && spot_eq b (removed_spot k)) ns ≡ true → (k : List ℕ) × (a ≡ incoming_spot k) × (b ≡ removed_spot k)) → (k : List ℕ) × (a ≡ incoming_spot k) × (b ≡ removed_spot k)
    by true true is to h rest = (n, one_location a (incoming_spot n) is, one_location b (removed_spot n) to)
    by true false is to h rest = rest h
    by false y is to h rest = rest h

abbrev puts_or_closes : List (List ℕ) → Request → Bool
puts_or_closes names r = putting names r || is_close r

-- what is kept by each such move is kept by the pass
module _ (Q : List (Option Spot) → Type 0) (kept : (n : List ℕ) (folders : List (Option Spot)) → Q folders → Q (map (moved (incoming_spot n) (removed_spot n)) folders)) (names : List (List ℕ)) where
  or_close : (r : Bool) → (false || (r || false)) ≡ true → r ≡ true
  or_close true h = refl
  or_close false h = h

  none_put : (b : Bool) → b ≡ list_any (λ (n : List ℕ). false) (uuids names) → (false || (b || false)) ≡ true → ⊥
  none_put b is h = let e : false ≡ true = sym (never (uuids names)) ∙ (sym is ∙ or_close b h) in cc

  putting_keeps : (p : ℕ) (w : Namespace) (request : Request) (reply : Reply) → (is_kill request || puts_or_closes names request) ≡ true → Q w.folders → Q (namespace_replied w p request reply).folders
  putting_keeps p w (MakeFolder here) reply h q = absurd (none_put (putting names (MakeFolder here)) refl h)
  putting_keeps p w (MoveFolder a b) Done h q =
      let m = putting_is (uuids names) a b (or_close (putting names (MoveFolder a b)) h) in
      subst (λ (x : Spot). Q (map (moved x b) w.folders)) (sym m.1) (subst (λ (y : Spot). Q (map (moved (incoming_spot m.0) y) w.folders)) (sym m.2) (kept m.0 w.folders q))
  putting_keeps p w (MoveFolder a b) reply h q = q
  putting_keeps p w (RemoveFolder gone) reply h q = absurd (none_put (putting names (RemoveFolder gone)) refl h)
  putting_keeps p w request reply h q = subst Q (sym (same_folders p w request reply refl (λ handle. refl))) q

-- a folder that stands in removed stays there
place_kept : (name n : List ℕ) (folders : List (Option Spot)) → has_place (removed_spot name) folders ≡ true → has_place (removed_spot name) (map (moved (incoming_spot n) (removed_spot n)) folders) ≡ true
place_kept name n [] at = at
place_kept name n (x ∷ xs) at = by x (is_at (removed_spot name) x) refl at (λ h. place_kept name n xs h)
  where
    stays : (y : Option Spot) → is_at (removed_spot name) y ≡ true → is_at (removed_spot name) (put n y) ≡ true
    stays None h = cc
    stays (Some here) h = subst (λ (z : Spot). is_at (removed_spot name) (put n (Some z)) ≡ true) (sym (one_location here (removed_spot name) h)) (same_bytes name)

    by : (y : Option Spot) (b : Bool) → is_at (removed_spot name) y ≡ b → (b || has_place (removed_spot name) xs) ≡ true → (has_place (removed_spot name) xs ≡ true → has_place (removed_spot name) (map (moved (incoming_spot n) (removed_spot n)) xs) ≡ true) →
        (is_at (removed_spot name) (put n y) || has_place (removed_spot name) (map (moved (incoming_spot n) (removed_spot n)) xs)) ≡ true
    by y true is at rest = ap (λ c. c || has_place (removed_spot name) (map (moved (incoming_spot n) (removed_spot n)) xs)) (stays y is)
    by y false is at rest = or_right (is_at (removed_spot name) (put n y)) _ (rest at)
      where
        or_right : (a b : Bool) → b ≡ true → (a || b) ≡ true
        or_right true b h = refl
        or_right false b h = h

-- one that stands in incoming is there or in removed
abbrev IsEither : List ℕ → List (Option Spot) → Type 0
IsEither name folders = list_any (is_either name) folders ≡ true

either_kept : (name n : List ℕ) (folders : List (Option Spot)) → IsEither name folders → IsEither name (map (moved (incoming_spot n) (removed_spot n)) folders)
either_kept name n [] at = at
either_kept name n (x ∷ xs) at = by x (is_at (incoming_spot name) x) refl (is_at (removed_spot name) x) refl at (λ h. either_kept name n xs h)
  where
    or_second : (a b : Bool) → b ≡ true → (a || b) ≡ true
    or_second true b h = refl
    or_second false b h = h

    in_removed : (y : Option Spot) → is_at (removed_spot name) y ≡ true → is_either name (put n y) ≡ true
    in_removed None h = cc
    in_removed (Some here) h = subst (λ (z : Spot). is_either name (put n (Some z)) ≡ true) (sym (one_location here (removed_spot name) h)) (same_bytes name)

    in_incoming : (y : Option Spot) → is_at (incoming_spot name) y ≡ true → is_either name (put n y) ≡ true
    in_incoming None h = cc
    in_incoming (Some here) h = subst (λ (z : Spot). is_either name (put n (Some z)) ≡ true) (sym (one_location here (incoming_spot name) h)) (went (bytes_eq name n) refl)
      where
        went : (b : Bool) → bytes_eq name n ≡ b → is_either name (cond b (Some (removed_spot n)) (Some (incoming_spot name))) ≡ true
        went true is = ap (λ (k : List ℕ). bytes_eq k name) (sym ((bytes_eq-Decides name n).0 is)) ∙ same_bytes name
        went false is = ap (λ c. c || false) (same_bytes name)

    by : (y : Option Spot) (b : Bool) → is_at (incoming_spot name) y ≡ b → (c : Bool) → is_at (removed_spot name) y ≡ c → ((b || c) || list_any (is_either name) xs) ≡ true → (IsEither name xs → IsEither name (map (moved (incoming_spot n) (removed_spot n)) xs)) →
        (is_either name (put n y) || list_any (is_either name) (map (moved (incoming_spot n) (removed_spot n)) xs)) ≡ true
    by y true is c other at rest = ap (λ d. d || list_any (is_either name) (map (moved (incoming_spot n) (removed_spot n)) xs)) (in_incoming y is)
    by y false is true other at rest = ap (λ d. d || list_any (is_either name) (map (moved (incoming_spot n) (removed_spot n)) xs)) (in_removed y other)
    by y false is false other at rest = or_second (is_either name (put n y)) _ (rest at)

either_parts : (name : List ℕ) (folders : List (Option Spot)) → list_any (is_either name) folders ≡ (has_place (incoming_spot name) folders || has_place (removed_spot name) folders)
either_parts name [] = refl
either_parts name (x ∷ xs) = by (is_at (incoming_spot name) x) (is_at (removed_spot name) x) (has_place (incoming_spot name) xs) (has_place (removed_spot name) xs) _ (either_parts name xs)
  where
    by : (a b c d e : Bool) → e ≡ (c || d) → ((a || b) || e) ≡ ((a || c) || (b || d))
    by true b c d e h = refl
    by false true true d e h = refl
    by false true false d e h = refl
    by false false c d e h = h

-- and where neither stands none comes
abbrev IsNeither : List ℕ → List (Option Spot) → Type 0
IsNeither name folders = NoneAt (incoming_spot name) folders × NoneAt (removed_spot name) folders

neither_kept : (name n : List ℕ) (folders : List (Option Spot)) → IsNeither name folders → IsNeither name (map (moved (incoming_spot n) (removed_spot n)) folders)
neither_kept name n [] none = none
neither_kept name n (x ∷ xs) none =
    let rest = neither_kept name n xs (none.0.1, none.1.1) in
    let here = by x none.0.0 none.1.0 in
    ((here.0, rest.0), (here.1, rest.1))
  where
    by : (y : Option Spot) → is_at (incoming_spot name) y ≡ false → is_at (removed_spot name) y ≡ false → (is_at (incoming_spot name) (put n y) ≡ false) × (is_at (removed_spot name) (put n y) ≡ false)
    by None p q = (refl, refl)
    by (Some here) p q = went (is_at (incoming_spot n) (Some here)) refl
      where
        went : (b : Bool) → is_at (incoming_spot n) (Some here) ≡ b → (is_at (incoming_spot name) (cond b (Some (removed_spot n)) (Some here)) ≡ false) × (is_at (removed_spot name) (cond b (Some (removed_spot n)) (Some here)) ≡ false)
        went false is = (p, q)
        went true is =
            let at = one_location here (incoming_spot n) is in
            let apart : bytes_eq n name ≡ false = sym (ap (λ (z : Spot). is_at (incoming_spot name) (Some z)) at) ∙ p in
            (refl, apart)

-- of a uuid, what is met
met : (u x r i free : Bool) → (u ≡ true → x ≡ (r || (free && i))) → (u && x) ≡ ((u && r) || (free && (u && i)))
met true x r i free is = is refl
met false x r i free is = sym (and_false free)

module _ {me : ℕ} {old new : List Event} {lines : List SweepLine} (ext : Extends (in_process sweeps_store) me old new) (quiet : Quiet me old new) (m : Meanwhile (SweepsImages lines) me old new) where
  abbrev s : DirState
  s = state_after old

  abbrev before : List (Option Spot)
  before = s.namespace.folders

  abbrev between : List Event
  between = m.so.between

  to_begun : Upto old m.begun
  to_begun = (m.begins.more, m.begins.grown)

  to_end : Upto m.ended new
  to_end = (m.finishes.more, m.finishes.grown)

  free_then : (area : Area) {a b : List Event} → AtOwnStep me a b (IsFreeElsewhere me area Exclusive) → Upto old a → Upto b new → list_any (λ o. not (o.process == me) && is_against area Exclusive o) s.namespace.openings ≡ false
  free_then area at x z = free_before (is_against area Exclusive) (at_within {P = IsFreeElsewhere me area Exclusive} x.0 z.0 x.1 z.1 at) ext quiet

  held_then : (area : Area) {a b : List Event} → AtOwnStep me a b (IsBusyElsewhere me area Exclusive) → Upto old a → Upto b new → list_any (λ o. not (o.process == me) && is_against area Exclusive o) s.namespace.openings ≡ true
  held_then area at x z = held_before (is_against area Exclusive) (at_within {P = IsBusyElsewhere me area Exclusive} x.0 z.0 x.1 z.1 at) quiet

  -- what a pass lists is what stood there when it began, and it knows that nobody else had the lock
  module _ (pass : Pass) (own : List SweepLine) (a b : List Event) (u : UnderLock (area_of_pass pass) (SweepsUnder pass own) me a b) (to_a : Upto old a) (to_new : Upto b new) where
    abbrev names : List (List ℕ)
    names = u.under.names

    abbrev listed : List Event
    listed = u.under.works.listed

    a_locked : Upto a u.locked
    a_locked = (u.takes_lock.more, u.takes_lock.grown)

    locked_listed : Upto u.locked listed
    locked_listed = (u.under.works.only_lists.more, u.under.works.only_lists.grown)

    listed_done : Upto listed u.done
    listed_done = (u.under.works.only.more, u.under.works.only.grown)

    pub done_b : Upto u.done b
    done_b = (u.gives_back.more, u.gives_back.grown)

    pub to_locked : Upto old u.locked
    to_locked = upto_more old a u.locked to_a a_locked

    pub to_listed : Upto old listed
    to_listed = upto_more old u.locked listed to_locked locked_listed

    pub listed_b : Upto listed b
    listed_b = upto_more listed u.done b listed_done done_b

    pub locked_b : Upto u.locked b
    locked_b = upto_more u.locked listed b locked_listed listed_b

    locked_new : Upto u.locked new
    locked_new = upto_more u.locked b new locked_b to_new

    pub a_b : Upto a b
    a_b = upto_more a u.locked b a_locked locked_b

    idle_list : Extends is_idle me u.locked listed
    idle_list = extends_wider (lists_idle (area_of_pass pass)) u.under.works.only_lists

    quiet_list : Quiet me u.locked listed
    quiet_list = quiet_within old u.locked listed new quiet to_locked locked_listed (upto_more listed b new listed_b to_new)

    idle_lock : Extends is_idle me a u.locked
    idle_lock = extends_wider (takes_idle (area_of_pass pass)) u.takes_lock

    same_locked : (state_after u.locked).namespace.folders ≡ (state_after a).namespace.folders
    same_locked = idle_folders a u.locked idle_lock (quiet_within old a u.locked new quiet to_a a_locked locked_new)

    pub same_listed : (state_after listed).namespace.folders ≡ (state_after a).namespace.folders
    same_listed = idle_folders u.locked listed idle_list quiet_list ∙ same_locked

    pub is_shown : (name : List ℕ) → has_name names name ≡ has_place (place_in (area_of_pass pass) name) (state_after a).namespace.folders
    is_shown name =
        listed_exactly idle_list.more idle_list.grown u.under.works.shows (idle_leave idle_list quiet_list) name
        ∙ ap (has_place (place_in (area_of_pass pass) name)) same_locked

    pub unbarred : is_barred me pass s ≡ false
    unbarred = free_then (area_of_pass pass) u.free to_a locked_new

    pub pass_lines : (meeting : List ℕ → Bool) → ((name : List ℕ) → (is_uuid name && has_place (place_in (area_of_pass pass) name) (state_after a).namespace.folders) ≡ meeting name) → AreImagePassLines pass meeting own
    pass_lines meeting is = record {
      names = uuids names;
      are = u.under.lines_are;
      rise = uuids_rise names u.under.rise;
      each = λ name. named_uuids names name ∙ (ap (λ b. is_uuid name && b) (is_shown name) ∙ is name);
    }

  -- the first pass

  begun_between : Upto m.begun between
  begun_between = upto_passed Incoming puts putting m.so.moved m.begun between (first_pass ext quiet m)

  begun_new : Upto m.begun new
  begun_new = upto_more m.begun between new begun_between (from_between ext quiet m)

  same_begun : (state_after m.begun).namespace.folders ≡ before
  same_begun = idle_folders old m.begun (extends_wider begin_idle m.begins) (quiet_within old old m.begun new quiet (nothing_more old) to_begun begun_new)

  abbrev First : Type 0
  First = UnderLock Incoming (SweepsUnder PutAway m.so.moved) me m.begun between

  first_lines : First → AreImagePassLines PutAway (meets me PutAway s) m.so.moved
  first_lines u = pass_lines PutAway m.so.moved m.begun between u to_begun (from_between ext quiet m) (meets me PutAway s)
      (λ name. ap (λ b. is_uuid name && b) (ap (has_place (incoming_spot name)) same_begun ∙ sym (stands_there s.namespace (incoming_spot name))))

  module _ (u : First) where
    abbrev seen : List Event
    seen = u.under.works.listed

    abbrev shown : List (List ℕ)
    shown = u.under.names

    abbrev rest : Upto between new
    rest = from_between ext quiet m

    to_end_of_pass : Upto seen between
    to_end_of_pass = listed_b PutAway m.so.moved m.begun between u to_begun rest

    work : Extends (puts_or_closes shown) me seen between
    work = and_more (extends_wider (λ r h. ap (λ b. b || is_close r) h) u.under.works.only) refl (extends_wider (λ r h. or_last (putting shown r) (is_close r) h) u.gives_back)

    quiet_work : Quiet me seen between
    quiet_work = quiet_within old seen between new quiet (to_listed PutAway m.so.moved m.begun between u to_begun rest) to_end_of_pass rest

    later : (Q : List (Option Spot) → Type 0) → ((n : List ℕ) (folders : List (Option Spot)) → Q folders → Q (map (moved (incoming_spot n) (removed_spot n)) folders)) → Q before → Q (state_after between).namespace.folders
    later Q kept q =
        kept_between Q (puts_or_closes shown) (putting_keeps Q kept shown) seen seen between between work quiet_work (nothing_more seen) to_end_of_pass (nothing_more between)
        (subst Q (sym (same_listed PutAway m.so.moved m.begun between u to_begun rest ∙ same_begun)) q)

    dealt : Dealt Incoming puts putting me m.begun between
    dealt = record {
      locked = u.locked;
      listed = seen;
      done = u.done;
      names = shown;
      takes_lock = u.takes_lock;
      only_lists = u.under.works.only_lists;
      shows = u.under.works.shows;
      each = u.under.each;
      only = u.under.works.only;
      gives_back = u.gives_back;
    }

    none_incoming : (name : List ℕ) → is_uuid name ≡ true → NoneAt (incoming_spot name) (state_after between).namespace.folders
    unfolding dealt
    none_incoming name uuid =
        none_left name uuid m.begun between between dealt
        (quiet_within old u.locked between new quiet (to_locked PutAway m.so.moved m.begun between u to_begun rest) (locked_b PutAway m.so.moved m.begun between u to_begun rest) rest)
        (done_b PutAway m.so.moved m.begun between u to_begun rest) (puts_or_closes shown) work
        (putting_keeps (NoneAt (incoming_spot name)) (λ n folders none. moves_elsewhere name (incoming_spot n) (removed_spot n) refl folders none) shown)
        (λ b a step. after_move (incoming_spot name) (removed_spot name) refl step)

    removed_then : (name : List ℕ) → is_uuid name ≡ true → has_place (removed_spot name) (state_after between).namespace.folders ≡ (has_place (removed_spot name) before || has_place (incoming_spot name) before)
    removed_then name uuid = by (has_place (removed_spot name) before) (has_place (incoming_spot name) before) refl refl
      where
        by : (r i : Bool) → has_place (removed_spot name) before ≡ r → has_place (incoming_spot name) before ≡ i → has_place (removed_spot name) (state_after between).namespace.folders ≡ (r || i)
        by true i there coming = later (λ fs. has_place (removed_spot name) fs ≡ true) (λ n folders at. place_kept name n folders at) there
        by false true none coming =
            let start : IsEither name before = either_parts name before ∙ ap (λ b. b || has_place (removed_spot name) before) coming in
            let end : IsEither name (state_after between).namespace.folders = later (IsEither name) (λ n folders at. either_kept name n folders at) start in
            sym (ap (λ b. b || has_place (removed_spot name) (state_after between).namespace.folders) (none_there (incoming_spot name) _ (none_incoming name uuid)))
            ∙ (sym (either_parts name (state_after between).namespace.folders) ∙ end)
        by false false none absent =
            none_there (removed_spot name) _ (later (IsNeither name) (λ n folders at. neither_kept name n folders at) (none_of (is_at (incoming_spot name)) before absent, none_of (is_at (removed_spot name)) before none)).1

  -- the first pass was barred
  barred_then : (w : WasLocked (IsBusyElsewhere me Incoming Exclusive) Incoming m.so.moved me m.begun between) → (state_after between).namespace.folders ≡ before
  barred_then w =
      idle_folders m.begun between (extends_wider (takes_idle Incoming) w.only) (quiet_within old m.begun between new quiet to_begun begun_between (from_between ext quiet m)) ∙ same_begun

  barred : (w : WasLocked (IsBusyElsewhere me Incoming Exclusive) Incoming m.so.moved me m.begun between) → is_barred me PutAway s ≡ true
  barred w = held_then Incoming w.busy to_begun (from_between ext quiet m)

  open_then : First → is_barred me PutAway s ≡ false
  open_then u = unbarred PutAway m.so.moved m.begun between u to_begun (from_between ext quiet m)

  put_away : IsImagePassOf me s PutAway m.so.moved
  put_away = elim m.so.puts_away [
    | inl u ↦ subst (λ (b : Bool). BarredOr b PutAway m.so.moved (AreImagePassLines PutAway (meets me PutAway s) m.so.moved)) (sym (open_then u)) (first_lines u)
    | inr w ↦ subst (λ (b : Bool). BarredOr b PutAway m.so.moved (AreImagePassLines PutAway (meets me PutAway s) m.so.moved)) (sym (barred w)) w.line_is
  ]

  -- what stands in removed then
  stands_then : (name : List ℕ) → is_uuid name ≡ true → has_place (removed_spot name) (state_after between).namespace.folders ≡ (stands s.namespace (removed_spot name) || (not (is_barred me PutAway s) && stands s.namespace (incoming_spot name)))
  stands_then name uuid = elim m.so.puts_away [
    | inl u ↦ removed_then u name uuid ∙ as_before (is_barred me PutAway s) (open_then u)
    | inr w ↦ ap (has_place (removed_spot name)) (barred_then w) ∙ as_it_was (is_barred me PutAway s) (barred w)
  ]
    where
      as_before : (b : Bool) → b ≡ false → (has_place (removed_spot name) before || has_place (incoming_spot name) before) ≡ (stands s.namespace (removed_spot name) || (not b && stands s.namespace (incoming_spot name)))
      as_before true free = cc
      as_before false free = rw (stands_there s.namespace (removed_spot name), stands_there s.namespace (incoming_spot name)) refl

      as_it_was : (b : Bool) → b ≡ true → has_place (removed_spot name) before ≡ (stands s.namespace (removed_spot name) || (not b && stands s.namespace (incoming_spot name)))
      as_it_was true closed = sym (stands_there s.namespace (removed_spot name)) ∙ or_none (stands s.namespace (removed_spot name))
        where
          or_none : (b : Bool) → b ≡ (b || false)
          or_none true = refl
          or_none false = refl
      as_it_was false closed = cc

  delete : IsImagePassOf me s Delete m.so.deleted
  delete = elim m.so.deletes [
    | inl u ↦ subst (λ (b : Bool). BarredOr b Delete m.so.deleted (AreImagePassLines Delete (meets me Delete s) m.so.deleted))
        (sym (unbarred Delete m.so.deleted between m.ended u (to_between ext quiet m) to_end))
        (pass_lines Delete m.so.deleted between m.ended u (to_between ext quiet m) to_end (meets me Delete s)
        (λ name. met (is_uuid name) (has_place (removed_spot name) (state_after between).namespace.folders) (stands s.namespace (removed_spot name)) (stands s.namespace (incoming_spot name)) (not (is_barred me PutAway s)) (λ uuid. stands_then name uuid)))
    | inr w ↦ subst (λ (b : Bool). BarredOr b Delete m.so.deleted (AreImagePassLines Delete (meets me Delete s) m.so.deleted)) (sym (held_then Removed w.busy (to_between ext quiet m) to_end)) w.line_is
  ]

  pub sweep_lines : AreSweepLines me s lines
  sweep_lines = record { moved = m.so.moved; deleted = m.so.deleted; are = m.so.lines_are; put_away = put_away; delete = delete }

  pub prints_lines : (text : List ℕ) → text ≡ sweep_texts lines → PrintsSweepOfState me s text
  prints_lines text is = record { lines = lines; is = is; are = sweep_lines; only = λ others are. lines_once me s others lines are sweep_lines }
