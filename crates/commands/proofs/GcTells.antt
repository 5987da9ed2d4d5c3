-- Where nobody else steps, a sweep has a line of each pod that stood in an area before.
use Rattle.std.proofs.Common.{◌≡◌, ◌⊎◌, inl, inr, ◌+◌, ℕ, Bool, true, false, ◌||◌, ◌==◌, cond, bytes_eq, map, Option, Some, None, is_some, List, [], ◌∷◌, ◌++◌, append_assoc, refl, sym, ap, subst, ◌∙◌}
use Rattle.std.specs.List.{list_any, position_from, AllByRecursion}
use Rattle.std.proofs.lemmas.Iterator.Adapters.{position_from-zero}
use Rattle.plain_laws.proofs.Texts.{same_bytes, same_text}
use Rattle.dir_model.specs.declared.area.Area.{Area}
use Rattle.dir_model.specs.declared.area.Area.TheVariants as area
use Rattle.dir_model.specs.declared.event.Event.{Event}
use Rattle.dir_model.specs.declared.pod.PodId.{PodId}
use Rattle.dir_model.specs.declared.spot.Handle.{Handle}
use Rattle.dir_model.specs.declared.spot.Mode.TheVariants.{Exclusive}
use Rattle.dir_model.specs.declared.spot.Spot.{Spot}
use Rattle.dir_model.specs.declared.request.Request.{Request}
use Rattle.dir_model.specs.declared.request.Request.TheVariants.{MakeFolder, MoveFolder, RemoveFolder, ListArea}
use Rattle.dir_model.specs.declared.request.Reply.{Reply}
use Rattle.dir_model.specs.declared.request.Reply.TheVariants.{Done, Names}
use Rattle.dir_model.specs.Areas.{rank, is_stage}
use Rattle.dir_model.specs.Calls.{event, is_begin, is_kill, Extends}
use Rattle.dir_model.specs.Listings.{has_name}
use Rattle.dir_model.specs.Pods.{pod_text, pod_of_text}
use Rattle.dir_model.specs.Quiet.{Quiet}
use Rattle.dir_model.specs.State.{DirState, empty_state, is_at, spot_eq, stands}
use Rattle.dir_model.specs.Trace.{state_after, state_next, states_next, namespace_replied}
use Rattle.dir_model.specs.Trees.{names_in}
use Rattle.dir_model.proofs.Chains.{states_next-append}
use Rattle.dir_model.proofs.Lists.{and_left, and_right, or_last, all_right, same_rest}
use Rattle.dir_laws.specs.Stretches.{Sometime, StandsInArea}
use Rattle.dir_files.specs.Listed.{ShowsArea}
use Rattle.dir_files.specs.AreaLocks.{is_taking_area, closes, is_against, IsBusyElsewhere}
use Rattle.lifecycle.specs.Executions.{IsConforming}
use Rattle.lifecycle.proofs.Draws.{conforming_left}
use Rattle.lifecycle.proofs.Places.{moved_elsewhere, removed_elsewhere}
use Rattle.lifecycle.proofs.Stays.{one_folder}
use Rattle.dir_model.specs.Spots.{pod_spot}
use Rattle.pod_locks.specs.Work.{Grew}
use Rattle.pod_locks.proofs.Times.{at_part}
use Rattle.pod_locks.proofs.Traces.{grown_none, grown_more, grown_by}
use Rattle.pod_locks.specs.Requests.{moves_pod}
use Rattle.pod_gc.specs.declared.ages.Times.{Times}
use Rattle.pod_gc.specs.declared.line.GcLine.{GcLine}
use Rattle.pod_gc.specs.Requests.{lists_pod_area, deals_with_pod, sweeps}
use Rattle.pod_gc.specs.Sweeping.{MaySweepAll}
use Rattle.pod_gc.specs.Told.{Knew, and_pod, pods_of, deals_with_pods, IsLineOfTurn, TellsShown, WasGated, PassedOverPods, ArePassed, places}
use Rattle.pod_gc.proofs.Asking.{some_sweep}
use Rattle.command_outcomes.specs.Meanwhile.{Meanwhile}
use Rattle.commands.specs.Gc.{SweepsByPasses}
use Rattle.commands.specs.GcLines.{HasLine}
use Rattle.commands.proofs.OwnSteps.{in_process, quiet_part, own_first, forward, same_folders, held_before}
use Rattle.commands.proofs.LateTurns.{or_either}
use Rattle.commands.proofs.GcQuiet.{named_at, Leaves, lists_leave, leaves_same, shown_in, shown_grown, passed_grown, passes_grown}
use Rattle.pod_lookup.proofs.Names.{text_back}

-- where a folder of this name is at an area, one stands there

pub found_from : (t : Option Spot → Bool) (i : ℕ) (xs : List (Option Spot)) → list_any t xs ≡ true → is_some (position_from t i xs) ≡ true
found_from t i [] any = cc
found_from t i (x ∷ xs) any = by (t x) any (λ h. found_from t (i + 1) xs h)
  where
    by : (b : Bool) → (b || list_any t xs) ≡ true → (list_any t xs ≡ true → is_some (position_from t (i + 1) xs) ≡ true) → is_some (cond b (Some i) (position_from t (i + 1) xs)) ≡ true
    by true h go = refl
    by false h go = go h

pub any_from : (t : Option Spot → Bool) (i : ℕ) (xs : List (Option Spot)) → is_some (position_from t i xs) ≡ true → list_any t xs ≡ true
any_from t i [] found = cc
any_from t i (x ∷ xs) found = by (t x) found (λ h. any_from t (i + 1) xs h)
  where
    by : (b : Bool) → is_some (cond b (Some i) (position_from t (i + 1) xs)) ≡ true → (is_some (position_from t (i + 1) xs) ≡ true → list_any t xs ≡ true) → (b || list_any t xs) ≡ true
    by true h go = refl
    by false h go = go h

pub stands_named : (s : DirState) (a : Area) (name : List ℕ) → StandsInArea a name s → stands s.namespace (record { area = a; name = name }) ≡ true
stands_named s a name at =
    let spot : Spot = record { area = a; name = name } in
    ap (λ (o : Option ℕ). is_some o) (position_from-zero (is_at spot) s.namespace.folders) ∙ found_from (is_at spot) 0 s.namespace.folders (sym (named_at a name s.namespace.folders) ∙ at)

named_stands : (s : DirState) (a : Area) (name : List ℕ) → stands s.namespace (record { area = a; name = name }) ≡ true → StandsInArea a name s
named_stands s a name there =
    let spot : Spot = record { area = a; name = name } in
    named_at a name s.namespace.folders ∙ any_from (is_at spot) 0 s.namespace.folders (sym (ap (λ (o : Option ℕ). is_some o) (position_from-zero (is_at spot) s.namespace.folders)) ∙ there)

-- the folders that a pass deals with have names that its listing showed

named_by : (n name : List ℕ) (p : PodId) (ns : List (List ℕ)) → pod_of_text n ≡ Some p → pod_text p.bytes ≡ name → has_name (n ∷ ns) name ≡ true
named_by n name p ns is same = ap (λ b. b || has_name ns name) (subst (λ (x : List ℕ). bytes_eq n x ≡ true) (sym (text_back n p is) ∙ same) (same_bytes n))

moves_named : (p : PodId) (a b : Area) (from to : Spot) → moves_pod p a b (MoveFolder from to) ≡ true → (pod_text p.bytes ≡ from.name) × (pod_text p.bytes ≡ to.name)
moves_named p a b from to is =
    let f = spot_eq (pod_spot p a) from in
    let t = spot_eq (pod_spot p b) to in (
      same_text (pod_text p.bytes) from.name (and_right (rank a == rank from.area) (bytes_eq (pod_text p.bytes) from.name) (and_left f t is)),
      same_text (pod_text p.bytes) to.name (and_right (rank b == rank to.area) (bytes_eq (pod_text p.bytes) to.name) (and_right f t is)),
    )

pub deals_moves : (p : PodId) (now : ℕ) (here : Area) (from to : Spot) → deals_with_pod p now here (MoveFolder from to) ≡ true → (pod_text p.bytes ≡ from.name) × (pod_text p.bytes ≡ to.name)
deals_moves p now here from to is = elim (or_either (moves_pod p area.Embryo area.Garbage (MoveFolder from to)) _ is) [
  | inl x ↦ moves_named p area.Embryo area.Garbage from to x
  | inr y ↦ elim (or_either (moves_pod p area.Prepare area.Garbage (MoveFolder from to)) _ y) [
    | inl x ↦ moves_named p area.Prepare area.Garbage from to x
    | inr z ↦ elim (or_either (moves_pod p area.Prepared area.Garbage (MoveFolder from to)) _ z) [ inl x ↦ moves_named p area.Prepared area.Garbage from to x | inr x ↦ moves_named p area.Run area.ExitedGarbage from to x ]
  ]
]

pub deals_removes : (p : PodId) (now : ℕ) (here : Area) (gone : Spot) → deals_with_pod p now here (RemoveFolder gone) ≡ true → pod_text p.bytes ≡ gone.name
deals_removes p now here gone is =
    let text = pod_text p.bytes in
    elim (or_either (spot_eq gone (pod_spot p area.ExitedGarbage)) _ is) [
      | inl x ↦ sym (same_text gone.name text (and_right (rank gone.area == rank area.ExitedGarbage) (bytes_eq gone.name text) x))
      | inr x ↦ sym (same_text gone.name text (and_right (rank gone.area == rank area.Garbage) (bytes_eq gone.name text) x))
    ]

pub among : (now : ℕ) (here : Area) (r : Request) (name : List ℕ) → ((p : PodId) → deals_with_pod p now here r ≡ true → pod_text p.bytes ≡ name) → (names : List (List ℕ)) → deals_with_pods now here names r ≡ true → has_name names name ≡ true
among now here r name only [] is = cc
among now here r name only (n ∷ ns) is = by (pod_of_text n) refl is (λ h. among now here r name only ns h)
  where
    by : (o : Option PodId) → pod_of_text n ≡ o → list_any (λ (p : PodId). deals_with_pod p now here r) (and_pod o (pods_of ns)) ≡ true → (deals_with_pods now here ns r ≡ true → has_name ns name ≡ true) → has_name (n ∷ ns) name ≡ true
    by None that h go = or_last (bytes_eq n name) (has_name ns name) (go h)
    by (Some p) that h go = elim (or_either (deals_with_pod p now here r) _ h) [ inl x ↦ named_by n name p ns that (only p x) | inr x ↦ or_last (bytes_eq n name) (has_name ns name) (go x) ]

-- a folder whose name wasn't shown stays
module _ (now : ℕ) (here : Area) (stage : is_stage here ≡ true) (names : List (List ℕ)) (spot : Spot) (unshown : has_name names spot.name ≡ false) (me : ℕ) where
  abbrev asks : Request → Bool
  asks = deals_with_pods now here names

  pub apart : (other : Spot) → has_name names other.name ≡ true → spot_eq other spot ≡ false
  apart other shown = by (spot_eq other spot) refl
    where
      by : (b : Bool) → spot_eq other spot ≡ b → b ≡ false
      by false is = refl
      by true is =
          let same = same_text other.name spot.name (and_right (rank other.area == rank spot.area) (bytes_eq other.name spot.name) is) in
          let clash : true ≡ false = sym shown ∙ (ap (has_name names) same ∙ unshown) in cc

  pub stays : (s : DirState) (request : Request) (reply : Reply) → (is_kill request || asks request) ≡ true → stands s.namespace spot ≡ true → stands (namespace_replied s.namespace me request reply) spot ≡ true
  stays s (MakeFolder new) reply h there = let clash : false ≡ true = some_sweep now here names stage (MakeFolder new) h in cc
  stays s (MoveFolder from to) Done h there =
      let f = apart from (among now here (MoveFolder from to) from.name (λ p is. (deals_moves p now here from to is).0) names h) in
      let t = apart to (among now here (MoveFolder from to) to.name (λ p is. (deals_moves p now here from to is).1) names h) in
      ap (λ (o : Option ℕ). is_some o) (moved_elsewhere s.namespace spot from to t f) ∙ there
  stays s (MoveFolder from to) reply h there = there
  stays s (RemoveFolder gone) Done h there =
      let g = apart gone (among now here (RemoveFolder gone) gone.name (λ p is. deals_removes p now here gone is) names h) in
      ap (λ (o : Option ℕ). is_some o) (removed_elsewhere s.namespace spot gone g) ∙ there
  stays s (RemoveFolder gone) reply h there = there
  stays s request reply h there = ap (λ (fs : List (Option Spot)). stands (record s.namespace { folders = fs }) spot) (same_folders me s.namespace request reply refl (λ handle. refl)) ∙ there

-- locks of areas change no folder

takes_leave : (spot : Spot) (me : ℕ) (s : DirState) (request : Request) (reply : Reply) → (is_kill request || is_taking_area area.Embryo Exclusive request) ≡ true → stands s.namespace spot ≡ true → stands (namespace_replied s.namespace me request reply) spot ≡ true
takes_leave spot me s (MakeFolder new) reply h there = cc
takes_leave spot me s (MoveFolder from to) reply h there = cc
takes_leave spot me s (RemoveFolder gone) reply h there = cc
takes_leave spot me s request reply h there = ap (λ (fs : List (Option Spot)). stands (record s.namespace { folders = fs }) spot) (same_folders me s.namespace request reply refl (λ handle. refl)) ∙ there

closes_leave : (handle : Handle) (spot : Spot) (me : ℕ) (s : DirState) (request : Request) (reply : Reply) → (is_kill request || closes handle request) ≡ true → stands s.namespace spot ≡ true → stands (namespace_replied s.namespace me request reply) spot ≡ true
closes_leave handle spot me s (MakeFolder new) reply h there = cc
closes_leave handle spot me s (MoveFolder from to) reply h there = cc
closes_leave handle spot me s (RemoveFolder gone) reply h there = cc
closes_leave handle spot me s request reply h there = ap (λ (fs : List (Option Spot)). stands (record s.namespace { folders = fs }) spot) (same_folders me s.namespace request reply refl (λ handle. refl)) ∙ there

-- what stands while an area is listed, stands before and after
sometime_same : (a : Area) (name : List ℕ) (s : DirState) (es rest : List Event) → AllByRecursion Leaves (es ++ rest) → Sometime (StandsInArea a name) s es → StandsInArea a name s
sometime_same a name s [] rest leave at = at
sometime_same a name s (e ∷ es) rest leave (inl at) = at
sometime_same a name s (e ∷ es) rest leave (inr at) =
    subst (λ (fs : List (Option Spot)). has_name (names_in a fs) name ≡ true) (leave.0 e.process s.namespace) (sometime_same a name (state_next s e) es rest leave.1 at)

pub shown_stands : (me : ℕ) (a : Area) (name : List ℕ) (names : List (List ℕ)) (old new : List Event) (x : Extends (lists_pod_area a) me old new) → AllByRecursion (λ e. e.process ≡ me) x.more → ShowsArea me old new a names → has_name names name ≡ true → StandsInArea a name (state_after new)
shown_stands me a name names old new x own shows shown =
    let t = shows.stretch in
    let last = event me (ListArea a) (Names names) in
    let parted : x.more ≡ t.earlier ++ (t.others ++ last ∷ []) = same_rest old x.more (t.earlier ++ (t.others ++ last ∷ [])) (sym x.grown ∙ (t.ends ∙ (ap (λ (h : List Event). (h ++ t.others) ++ last ∷ []) t.begins ∙ simp append_assoc))) in
    let later : AllByRecursion Leaves (t.others ++ last ∷ []) = all_right Leaves t.earlier (t.others ++ last ∷ []) (subst (λ (l : List Event). AllByRecursion Leaves l) parted (lists_leave me a x.more own x.asked)) in
    let here : state_after new ≡ states_next (state_after t.begun) (t.others ++ last ∷ []) = ap state_after (t.ends ∙ append_assoc t.begun t.others (last ∷ [])) ∙ states_next-append empty_state t.begun (t.others ++ last ∷ []) in
    let same : (state_after new).namespace.folders ≡ (state_after t.begun).namespace.folders = ap (λ (s : DirState). s.namespace.folders) here ∙ leaves_same (state_after t.begun) (t.others ++ last ∷ []) later in
    subst (λ (fs : List (Option Spot)). has_name (names_in a fs) name ≡ true) (sym same) (sometime_same a name (state_after t.begun) t.others (last ∷ []) later (shows.only name shown))

-- the line of a pod whose name was shown

more_before : (place : Area) (pod : PodId) (l : GcLine) (ls : List GcLine) → HasLine place pod ls → HasLine place pod (l ∷ ls)
more_before place pod l ls x = record { before = l ∷ x.before; line = x.line; after = x.after; are = ap (λ (y : List GcLine). l ∷ y) x.are; place_is = x.place_is; pod_is = x.pod_is }

pub and_after : (place : Area) (pod : PodId) (ls ms : List GcLine) → HasLine place pod ls → HasLine place pod (ls ++ ms)
and_after place pod ls ms x = record {
  before = x.before;
  line = x.line;
  after = x.after ++ ms;
  are = ap (λ (y : List GcLine). y ++ ms) x.are ∙ append_assoc x.before (x.line ∷ x.after) ms;
  place_is = x.place_is;
  pod_is = x.pod_is;
}

pub and_before : (place : Area) (pod : PodId) (ls ms : List GcLine) → HasLine place pod ms → HasLine place pod (ls ++ ms)
and_before place pod [] ms x = x
and_before place pod (l ∷ ls) ms x = more_before place pod l (ls ++ ms) (and_before place pod ls ms x)

module _ (Can : Type 0) (times : Times) (place : Area) (whole : List (List ℕ)) (me : ℕ) (a b : List Event) (name : List ℕ) (pod : PodId) (its : pod_of_text name ≡ Some pod) where
  abbrev Told : GcLine → Type 0
  Told l = IsLineOfTurn Can times place whole l me a b

  line_among : (names : List (List ℕ)) (lines : List GcLine) → map (λ (l : GcLine). l.pod) lines ≡ map (λ (p : PodId). Some p) (pods_of names) → AllByRecursion Told lines → has_name names name ≡ true → HasLine place pod lines
  line_among [] lines are all shown = cc
  line_among (n ∷ ns) lines are all shown = by (bytes_eq n name) refl (pod_of_text n) refl lines are all shown (λ ls x y h. line_among ns ls x y h)
    where
      Rest : Type 0
      Rest = (ls : List GcLine) → map (λ (l : GcLine). l.pod) ls ≡ map (λ (p : PodId). Some p) (pods_of ns) → AllByRecursion Told ls → has_name ns name ≡ true → HasLine place pod ls

      by : (c : Bool) → bytes_eq n name ≡ c → (o : Option PodId) → pod_of_text n ≡ o → (ls : List GcLine) → map (λ (l : GcLine). l.pod) ls ≡ map (λ (p : PodId). Some p) (and_pod o (pods_of ns)) → AllByRecursion Told ls → (c || has_name ns name) ≡ true → Rest → HasLine place pod ls
      by true same None no_pod ls are all shown rest = let clash : Some pod ≡ None = sym its ∙ (ap pod_of_text (sym (same_text n name same)) ∙ no_pod) in cc
      by true same (Some q) that [] are all shown rest = cc
      by true same (Some q) that (l ∷ ls) are all shown rest =
          let first : l.pod ≡ Some q = cc in
          record { before = []; line = l; after = ls; are = refl; place_is = all.0.place_is; pod_is = first ∙ (sym that ∙ (ap pod_of_text (same_text n name same) ∙ its)) }
      by false apart None that ls are all shown rest = rest ls are all shown
      by false apart (Some q) that [] are all shown rest = cc
      by false apart (Some q) that (l ∷ ls) are all shown rest =
          let tail : map (λ (l : GcLine). l.pod) ls ≡ map (λ (p : PodId). Some p) (pods_of ns) = cc in
          more_before place pod l ls (rest ls tail all.1 shown)

-- one pass, where nobody else steps
module _ (Can : Type 0) (times : Times) (me : ℕ) (old new : List Event) (quiet : Quiet me old new) (conforming : IsConforming new) (name : List ℕ) (pod : PodId) (its : pod_of_text name ≡ Some pod) (place : Area) (stage : is_stage place ≡ true) where
  abbrev spot : Spot
  spot = record { area = place; name = name }

  abbrev Stood : List Event → Type 0
  Stood h = stands (state_after h).namespace spot ≡ true

  part : (a b : List Event) → Grew old a → (x : Grew a b) → Grew b new → Quiet me a b
  part a b to_a x rest = record { more = x.more; grown = x.grown; own = own_first (quiet_part quiet to_a (grown_more x rest)) x rest }

  own_listed : (here : Area) (a b : List Event) (x : Extends (lists_pod_area here) me a b) → Grew old a → Grew b new → AllByRecursion (λ e. e.process ≡ me) x.more
  own_listed here a b x to_a rest = let g : Grew a b = record { more = x.more; grown = x.grown } in own_first (quiet_part quiet to_a (grown_more g rest)) (record { more = x.more; grown = x.grown }) rest

  listed_same : (here : Area) (a b : List Event) (x : Extends (lists_pod_area here) me a b) → Grew old a → Grew b new → Stood a → Stood b
  listed_same here a b x to_a rest there =
      let same : (state_after b).namespace.folders ≡ (state_after a).namespace.folders = ap (λ (h : List Event). (state_after h).namespace.folders) x.grown
      ∙ (ap (λ (s : DirState). s.namespace.folders) (states_next-append empty_state a x.more) ∙ leaves_same (state_after a) x.more (lists_leave me here x.more (own_listed here a b x to_a rest) x.asked)) in
      ap (λ (fs : List (Option Spot)). stands (record (state_after b).namespace { folders = fs }) spot) same ∙ there

  before_new : (b : List Event) → Grew b new → IsConforming b
  before_new b more = conforming_left b more.more (subst IsConforming more.grown conforming)

  -- over another area it isn't touched
  stays_over : {here : Area} {ls : List GcLine} (a b : List Event) → is_stage here ≡ true → (rank place == rank here) ≡ false → TellsShown Can times here ls me a b → Grew old a → Grew b new → Stood a → Stood b
  stays_over {here} a b here_stage apart t to_a rest there =
      let to_listed = grown_by t.only_lists in
      let to_end = grown_by t.tells.only in
      let listed = listed_same here a t.listed t.only_lists to_a (grown_more to_end rest) there in
      let unshown : has_name t.names name ≡ false = by (has_name t.names name) refl listed in
      forward (λ s. stands s.namespace spot ≡ true) (deals_with_pods times.now here t.names) me (λ s request reply h q. stays times.now here here_stage t.names spot unshown me s request reply h q) t.listed
      grown_none to_end t.tells.only (part t.listed b (grown_more to_a to_listed) to_end rest) listed
    where
      by : (c : Bool) → has_name t.names name ≡ c → Stood t.listed → c ≡ false
      by false is listed = refl
      by true is listed =
          let more = grown_more (grown_by t.tells.only) rest in
          let at = shown_stands me here name t.names a t.listed t.only_lists (own_listed here a t.listed t.only_lists to_a more) t.shows is in
          let one = one_folder t.listed spot (record { area = here; name = name }) (before_new t.listed more) stage here_stage refl listed (stands_named (state_after t.listed) here name at) in
          let clash : true ≡ false = sym (and_left (rank place == rank here) (bytes_eq name name) one) ∙ apart in cc

  -- over its own it has a line
  pub told_in : {ls : List GcLine} (a b : List Event) → TellsShown Can times place ls me a b → Grew old a → Grew b new → Stood a → HasLine place pod ls
  told_in {ls} a b t to_a rest there =
      let more = grown_more (grown_by t.tells.only) rest in
      let listed = listed_same place a t.listed t.only_lists to_a more there in
      let shown = shown_in me place name t.names a t.listed t.only_lists (own_listed place a t.listed t.only_lists to_a more) t.shows (named_stands (state_after t.listed) place name listed) in
      line_among Can times place t.names me t.listed b name pod its t.names ls t.tells.pods_are t.tells.each shown

  pub taken : (a b : List Event) → Extends (is_taking_area area.Embryo Exclusive) me a b → Grew old a → Grew b new → Stood a → Stood b
  taken a b x to_a rest there = forward (λ s. stands s.namespace spot ≡ true) (is_taking_area area.Embryo Exclusive) me (λ s request reply h q. takes_leave spot me s request reply h q) a grown_none (grown_by x) x (part a b to_a (grown_by x) rest) there

  pub closed : (handle : Handle) (a b : List Event) → Extends (closes handle) me a b → Grew old a → Grew b new → Stood a → Stood b
  closed handle a b x to_a rest there = forward (λ s. stands s.namespace spot ≡ true) (closes handle) me (λ s request reply h q. closes_leave handle spot me s request reply h q) a grown_none (grown_by x) x (part a b to_a (grown_by x) rest) there

  pub passes_over : (here : Area) (ls : List GcLine) (a b : List Event) → is_stage here ≡ true → (rank place == rank here) ≡ false → PassedOverPods Can times here ls me a b → Grew old a → Grew b new → Stood a → Stood b
  passes_over area.Embryo ls a b here_stage apart (inl g) to_a rest there =
      let last = grown_more (grown_by g.gives_back) rest in
      let first = grown_more to_a (grown_by g.takes_gate) in
      let one = taken a g.locked g.takes_gate to_a (grown_more (shown_grown g.tells) last) there in
      let two = stays_over g.locked g.done here_stage apart g.tells first last one in
      closed g.gate g.done b g.gives_back (grown_more first (shown_grown g.tells)) rest two
  passes_over area.Embryo ls a b here_stage apart (inr w) to_a rest there = taken a b w.only to_a rest there
  passes_over here ls a b here_stage apart t to_a rest there = stays_over a b here_stage apart t to_a rest there

  told_or : (ls : List GcLine) (a b : List Event) → PassedOverPods Can times place ls me a b → Grew old a → Grew b new → Stood a → HasLine place pod ls ⊎ ((place ≡ area.Embryo) × WasGated Can ls me a b)
  told_or ls a b x to_a rest there = by place refl x
    where
      by : (p : Area) → place ≡ p → PassedOverPods Can times p ls me a b → HasLine place pod ls ⊎ ((place ≡ area.Embryo) × WasGated Can ls me a b)
      by area.Embryo is (inl g) =
          let last = grown_more (grown_by g.gives_back) rest in
          let one = taken a g.locked g.takes_gate to_a (grown_more (shown_grown g.tells) last) there in
          inl (told_in g.locked g.done (subst (λ (p : Area). TellsShown Can times p ls me g.locked g.done) (sym is) g.tells) (grown_more to_a (grown_by g.takes_gate)) last one)
      by area.Embryo is (inr w) = inr (is, w)
      by p is t = inl (told_in a b (subst (λ (q : Area). TellsShown Can times q ls me a b) (sym is) t) to_a rest there)

  -- after those before it
  abbrev pub Tells : List GcLine → List Event → Type 0
  Tells ls b = HasLine place pod ls ⊎ ((place ≡ area.Embryo) × ((a : List Event) × (c : List Event) × (ms : List GcLine) × Grew old a × WasGated Can ms me a c × Grew c b))

  pub tells_after : (skipped rest : List Area) (ls : List GcLine) (a b : List Event) → AllByRecursion (λ y. (is_stage y ≡ true) × ((rank place == rank y) ≡ false)) skipped → ArePassed Can times (skipped ++ place ∷ rest) ls me a b → Grew old a → Grew b new → Stood a → Tells ls b
  tells_after [] rest ls a b apart x to_a last there =
      let more = passes_grown Can times rest x.others me x.between b x.rest in
      elim (told_or x.own a x.between x.first to_a (grown_more more last) there) [
        | inl y ↦ inl (subst (λ (l : List GcLine). HasLine place pod l) (sym x.lines_are) (and_after place pod x.own x.others y))
        | inr y ↦ inr (y.0, (a, x.between, x.own, to_a, y.1, more))
      ]
  tells_after (here ∷ skipped) rest ls a b apart x to_a last there =
      let more = passes_grown Can times (skipped ++ place ∷ rest) x.others me x.between b x.rest in
      let first = passed_grown Can times here x.own me a x.between x.first in
      let then = passes_over here x.own a x.between apart.0.0 apart.0.1 x.first to_a (grown_more more last) there in
      elim (tells_after skipped rest x.others x.between b apart.1 x.rest (grown_more to_a first) last then) [
        | inl y ↦ inl (subst (λ (l : List GcLine). HasLine place pod l) (sym x.lines_are) (and_before place pod x.own x.others y))
        | inr y ↦ inr y
      ]

-- of a whole process

begin_leaves : (spot : Spot) (me : ℕ) (s : DirState) (request : Request) (reply : Reply) → (is_kill request || is_begin request) ≡ true → stands s.namespace spot ≡ true → stands (namespace_replied s.namespace me request reply) spot ≡ true
begin_leaves spot me s (MakeFolder new) reply h there = cc
begin_leaves spot me s (MoveFolder from to) reply h there = cc
begin_leaves spot me s (RemoveFolder gone) reply h there = cc
begin_leaves spot me s request reply h there = ap (λ (fs : List (Option Spot)). stands (record s.namespace { folders = fs }) spot) (same_folders me s.namespace request reply refl (λ handle. refl)) ∙ there

module _ (times : Times) (lines : List GcLine) {me : ℕ} {old new : List Event} (ext : Extends (in_process (sweeps times.now)) me old new) (quiet : Quiet me old new) (m : Meanwhile (SweepsByPasses times lines) me old new) (conforming : IsConforming new) where
  abbrev May : Type 0
  May = Knew (MaySweepAll times.now times.expire) m.so.from

  start : Grew old m.begun
  start = record { more = m.begins.more; grown = m.begins.grown }

  finish : Grew m.ended new
  finish = record { more = m.finishes.more; grown = m.finishes.grown }

  swept_grown : Grew m.begun m.ended
  swept_grown = passes_grown May times places lines me m.begun m.ended m.so.swept

  first_quiet : Quiet me old m.begun
  first_quiet =
      let g : Grew old m.begun = record { more = m.begins.more; grown = m.begins.grown } in
      record { more = m.begins.more; grown = m.begins.grown; own = own_first quiet (record { more = m.begins.more; grown = m.begins.grown }) (grown_more swept_grown finish) }

  pub begun_stands : (spot : Spot) → stands (state_after old).namespace spot ≡ true → stands (state_after m.begun).namespace spot ≡ true
  begun_stands spot there = forward (λ s. stands s.namespace spot ≡ true) is_begin me (λ s request reply h q. begin_leaves spot me s request reply h q) old grown_none start m.begins first_quiet there

  module _ (name : List ℕ) (pod : PodId) (its : pod_of_text name ≡ Some pod) where
    abbrev Says : Area → Type 0
    Says place = (stage : is_stage place ≡ true) → stands (state_after m.begun).namespace (record { area = place; name = name }) ≡ true → Tells May times me old new quiet conforming name pod its place stage lines m.ended

    says : (place : Area) → Says place
    says area.Embryo stage there =
        tells_after May times me old new quiet conforming name pod its area.Embryo stage [] (area.Prepare ∷ area.Prepared ∷ area.Run ∷ area.ExitedGarbage ∷ area.Garbage ∷ []) lines m.begun m.ended tt m.so.swept start finish there
    says area.Prepare stage there =
        tells_after May times me old new quiet conforming name pod its area.Prepare stage (area.Embryo ∷ []) (area.Prepared ∷ area.Run ∷ area.ExitedGarbage ∷ area.Garbage ∷ []) lines m.begun m.ended ((refl, refl), tt) m.so.swept start finish there
    says area.Prepared stage there =
        tells_after May times me old new quiet conforming name pod its area.Prepared stage (area.Embryo ∷ area.Prepare ∷ []) (area.Run ∷ area.ExitedGarbage ∷ area.Garbage ∷ []) lines m.begun m.ended ((refl, refl), ((refl, refl), tt)) m.so.swept start finish there
    says area.Run stage there =
        tells_after May times me old new quiet conforming name pod its area.Run stage (area.Embryo ∷ area.Prepare ∷ area.Prepared ∷ []) (area.ExitedGarbage ∷ area.Garbage ∷ []) lines m.begun m.ended ((refl, refl), ((refl, refl), ((refl, refl), tt))) m.so.swept start finish there
    says area.ExitedGarbage stage there =
        tells_after May times me old new quiet conforming name pod its area.ExitedGarbage stage (area.Embryo ∷ area.Prepare ∷ area.Prepared ∷ area.Run ∷ []) (area.Garbage ∷ []) lines m.begun m.ended ((refl, refl), ((refl, refl), ((refl, refl), ((refl, refl), tt)))) m.so.swept start finish there
    says area.Garbage stage there =
        tells_after May times me old new quiet conforming name pod its area.Garbage stage (area.Embryo ∷ area.Prepare ∷ area.Prepared ∷ area.Run ∷ area.ExitedGarbage ∷ []) [] lines m.begun m.ended ((refl, refl), ((refl, refl), ((refl, refl), ((refl, refl), ((refl, refl), tt))))) m.so.swept start finish there
    says place stage there = cc

  pub gc_tells : (name : List ℕ) (pod : PodId) (place : Area) → pod_of_text name ≡ Some pod → is_stage place ≡ true → stands (state_after old).namespace (pod_spot pod place) ≡ true →
      HasLine place pod lines ⊎ ((place ≡ area.Embryo) × IsBusyElsewhere me area.Embryo Exclusive (state_after old))
  gc_tells name pod place its stage there =
      let here : stands (state_after old).namespace (record { area = place; name = name }) ≡ true =
      subst (λ (n : List ℕ). stands (state_after old).namespace (record { area = place; name = n }) ≡ true) (text_back name pod its) there in
      elim (says name pod its place stage (begun_stands (record { area = place; name = name }) here)) [
        | inl x ↦ inl x
        | inr y ↦ inr (y.0, held_before (is_against area.Embryo Exclusive) (at_part y.1.3 refl (grown_more y.1.5 finish) (y.1.4.another m.so.can)) ext quiet)
      ]
