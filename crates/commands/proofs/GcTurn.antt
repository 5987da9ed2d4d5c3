-- Where nobody else steps, a pod that a pass listed stands at its place until its turn.
use Rattle.std.proofs.Common.{◌≡◌, ◌||◌, ℕ, Bool, true, false, not, bytes_eq, Less, List, [], ◌∷◌, ◌++◌, append_assoc, append-nil, refl, sym, ap, subst, ◌∙◌}
use Rattle.std.specs.List.{AllByRecursion}
use Rattle.std.specs.List.Sorted.{IsStrictlySortedBy}
use Rattle.std.specs.Ordering.{nat_cmp, is_eq}
use Rattle.std.specs.Cmp.Lexicographic.{slice_cmp}
use Rattle.std.proofs.lemmas.Map.Text.{is_eq-slice_cmp}
use Rattle.plain_laws.proofs.Texts.{same_bytes, same_text}
use Rattle.plain_laws.proofs.Booleans.{or_nothing}
use Rattle.dir_model.specs.declared.area.Area.{Area}
use Rattle.dir_model.specs.declared.event.Event.{Event}
use Rattle.dir_model.specs.declared.request.Request.{Request}
use Rattle.dir_model.specs.declared.request.Request.TheVariants.{MakeFolder, MoveFolder, RemoveFolder}
use Rattle.dir_model.specs.declared.request.Reply.{Reply}
use Rattle.dir_model.specs.declared.request.Reply.TheVariants.{Done}
use Rattle.dir_model.specs.declared.spot.Spot.{Spot}
use Rattle.dir_model.specs.Areas.{is_stage}
use Rattle.dir_model.specs.Calls.{is_foreign, is_kill, Extends, AtOwnStep}
use Rattle.dir_model.specs.Listings.{has_name}
use Rattle.dir_model.specs.Quiet.{Quiet}
use Rattle.dir_model.specs.State.{DirState, empty_state, stands}
use Rattle.dir_model.specs.Trace.{state_after, state_next, states_next, namespace_replied}
use Rattle.dir_model.proofs.Chains.{states_next-append}
use Rattle.dir_model.proofs.Lists.{or_last, all_left, all_right, same_rest}
use Rattle.dir_model.specs.Spots.{pod_spot}
use Rattle.pod_locks.specs.Work.{Grew}
use Rattle.pod_locks.proofs.Traces.{grown_none, grown_more, grown_by}
use Rattle.pod_locks.specs.Taking.{takes_away, TookNothing}
use Rattle.pod_locks.proofs.Taking.{Untaken}
use Rattle.pod_gc.specs.declared.ages.Times.{Times}
use Rattle.pod_gc.specs.declared.line.GcLine.{GcLine}
use Rattle.pod_gc.specs.Told.{deals_with_pods, IsLineOfTurn, TellsShown}
use Rattle.commands.proofs.OwnSteps.{in_process, own_asked, own_part, asked_part, own_first, quiet_part, forward, same_folders}
use Rattle.commands.proofs.LateTurns.{Late}
use Rattle.pod_lookup.proofs.Names.{text_back}
use Rattle.commands.proofs.GcTells.{stands_named, shown_stands, stays}

-- a part of a quiet time
pub quiet_between : {me : ℕ} {old a b new : List Event} → Quiet me old new → Grew old a → (x : Grew a b) → Grew b new → Quiet me a b
quiet_between quiet to_a x rest = record { more = x.more; grown = x.grown; own = own_first (quiet_part quiet to_a (grown_more x rest)) x rest }

-- names that ascend are different

pub named_in : (earlier : List (List ℕ)) (name : List ℕ) (later : List (List ℕ)) → has_name (earlier ++ name ∷ later) name ≡ true
named_in [] name later = ap (λ b. b || has_name later name) (same_bytes name)
named_in (n ∷ ns) name later = or_last (bytes_eq n name) (has_name (ns ++ name ∷ later) name) (named_in ns name later)

less_apart : (n name : List ℕ) → slice_cmp nat_cmp n name ≡ Less → bytes_eq n name ≡ false
less_apart n name less = sym (is_eq-slice_cmp n name) ∙ ap is_eq less

pub earlier_apart : (earlier : List (List ℕ)) (name : List ℕ) (later : List (List ℕ)) → IsStrictlySortedBy (slice_cmp nat_cmp) (earlier ++ name ∷ later) → has_name earlier name ≡ false
unfolding IsStrictlySortedBy
earlier_apart [] name later sorted = refl
earlier_apart (n ∷ ns) name later sorted =
    let above : AllByRecursion (λ (z : List ℕ). slice_cmp nat_cmp n z ≡ Less) (name ∷ later) = all_right (λ (z : List ℕ). slice_cmp nat_cmp n z ≡ Less) ns (name ∷ later) sorted.0 in
    ap (λ b. b || has_name ns name) (less_apart n name above.0) ∙ earlier_apart ns name later sorted.1

pub later_all : (name : List ℕ) (later : List (List ℕ)) → AllByRecursion (λ (z : List ℕ). slice_cmp nat_cmp name z ≡ Less) later → has_name later name ≡ false
later_all name [] less = refl
later_all name (z ∷ zs) less = by (bytes_eq z name) refl (later_all name zs less.1)
  where
    by : (b : Bool) → bytes_eq z name ≡ b → has_name zs name ≡ false → (b || has_name zs name) ≡ false
    by false is rest = rest
    by true is rest =
        let same : z ≡ name = same_text z name is in
        let clash : true ≡ false = sym (same_bytes name) ∙ subst (λ (y : List ℕ). bytes_eq name y ≡ false) same (less_apart name z less.0) in cc

pub later_apart : (earlier : List (List ℕ)) (name : List ℕ) (later : List (List ℕ)) → IsStrictlySortedBy (slice_cmp nat_cmp) (earlier ++ name ∷ later) → has_name later name ≡ false
unfolding IsStrictlySortedBy
later_apart [] name later sorted = later_all name later sorted.0
later_apart (n ∷ ns) name later sorted = later_apart ns name later sorted.1

-- where nothing is moved or removed, what stands stays

module _ (asks : Request → Bool) (l : Late asks) (spot : Spot) (me : ℕ) where
  untaken_stays : (s : DirState) (request : Request) (reply : Reply) → (is_kill request || in_process asks request) ≡ true → (is_kill request || not (takes_away request reply)) ≡ true → stands s.namespace spot ≡ true → stands (namespace_replied s.namespace me request reply) spot ≡ true
  untaken_stays s (MakeFolder new) reply h still there = absurd (l.makes new (or_nothing (asks (MakeFolder new)) h))
  untaken_stays s (MoveFolder from to) Done h still there = cc
  untaken_stays s (MoveFolder from to) reply h still there = there
  untaken_stays s (RemoveFolder gone) Done h still there = cc
  untaken_stays s (RemoveFolder gone) reply h still there = there
  untaken_stays s request reply h still there = ap (λ (fs : List _). stands (record s.namespace { folders = fs }) spot) (same_folders me s.namespace request reply refl (λ handle. refl)) ∙ there

  untaken_all : (s : DirState) (es : List Event) → AllByRecursion (λ e. e.process ≡ me) es → AllByRecursion (λ e. (is_foreign me e || in_process asks e.request) ≡ true) es → AllByRecursion (Untaken me) es → stands s.namespace spot ≡ true
      → stands (states_next s es).namespace spot ≡ true
  untaken_all s [] own asked still there = there
  untaken_all s (e ∷ es) own asked still there =
      let next = untaken_stays s e.request e.reply (own_asked (in_process asks) me e own.0 asked.0) (own_asked (λ r. not (takes_away r e.reply)) me e own.0 still.0) there in
      untaken_all (state_next s e) es own.1 asked.1 still.1 (subst (λ (p : ℕ). stands (namespace_replied s.namespace p e.request e.reply) spot ≡ true) (sym own.0) next)

  -- over the beginning of a stretch
  untaken_part : {old from upto new : List Event} → Extends (in_process asks) me old new → Quiet me old new → Grew old from → Grew upto new → TookNothing me from upto → (es rest : List Event) → upto ≡ from ++ (es ++ rest)
      → stands (state_after from).namespace spot ≡ true → stands (states_next (state_after from) es).namespace spot ≡ true
  untaken_part {old} {from} {upto} {new} ext quiet first last took es rest part there =
      let whole : new ≡ old ++ ((first.more ++ es) ++ (rest ++ last.more)) = last.grown ∙ (ap (λ (h : List Event). h ++ last.more) (part ∙ ap (λ (h : List Event). h ++ (es ++ rest)) first.grown) ∙ simp append_assoc) in
      let own = all_right (λ (e : Event). e.process ≡ me) first.more es (own_part (in_process asks) me old new ext quiet (first.more ++ es) (rest ++ last.more) whole) in
      let asked = all_right (λ (e : Event). (is_foreign me e || in_process asks e.request) ≡ true) first.more es (asked_part (in_process asks) me old new ext quiet (first.more ++ es) (rest ++ last.more) whole) in
      let still = all_left (Untaken me) es rest (subst (λ (l : List Event). AllByRecursion (Untaken me) l) (same_rest from took.more (es ++ rest) (sym took.grown ∙ part)) took.still) in
      untaken_all (state_after from) es own asked still there

  -- up to an own step of it, and to its end
  pub untaken_at : {P : DirState → Type 0} {old from upto new : List Event} → Extends (in_process asks) me old new → Quiet me old new → Grew old from → Grew upto new → TookNothing me from upto → (at : AtOwnStep me from upto P)
      → stands (state_after from).namespace spot ≡ true → stands (state_after (at.before ++ at.step ∷ [])).namespace spot ≡ true
  untaken_at {P} {old} {from} {upto} {new} ext quiet first last took at there =
      let es = at.later ++ at.step ∷ [] in
      let part : upto ≡ from ++ (es ++ at.rest) = at.ends ∙ (ap (λ (h : List Event). (h ++ at.step ∷ []) ++ at.rest) at.begins ∙ simp append_assoc) in
      let here : state_after (at.before ++ at.step ∷ []) ≡ states_next (state_after from) es = ap (λ (h : List Event). state_after (h ++ at.step ∷ [])) at.begins
      ∙ (ap state_after (append_assoc from at.later (at.step ∷ [])) ∙ states_next-append empty_state from es) in
      subst (λ (s : DirState). stands s.namespace spot ≡ true) (sym here) (untaken_part ext quiet first last took es at.rest part there)

  pub untaken_through : {old from upto new : List Event} → Extends (in_process asks) me old new → Quiet me old new → Grew old from → Grew upto new → TookNothing me from upto → stands (state_after from).namespace spot ≡ true → stands (state_after upto).namespace spot ≡ true
  untaken_through {old} {from} {upto} {new} ext quiet first last took there =
      subst (λ (s : DirState). stands s.namespace spot ≡ true) (sym (ap state_after took.grown ∙ states_next-append empty_state from took.more))
      (untaken_part ext quiet first last took took.more [] (took.grown ∙ ap (λ (l : List Event). from ++ l) (sym (append-nil took.more))) there)

-- a pod that was listed
module _ {Can : Type 0} {times : Times} {here : Area} {ls : List GcLine} {me : ℕ} {old a b new : List Event} (stage : is_stage here ≡ true) (quiet : Quiet me old new) (to_a : Grew old a) (from_b : Grew b new) (t : TellsShown Can times here ls me a b) {line : GcLine} (x : IsLineOfTurn Can times here t.names line me t.listed b) where
  abbrev its_spot : Spot
  its_spot = pod_spot x.shown here

  to_listed : Grew a t.listed
  to_listed = grown_by t.only_lists

  from_listed : Grew t.listed new
  from_listed = grown_more (grown_by t.tells.only) from_b

  pub turn_after : Grew old x.from
  turn_after = grown_more (grown_more to_a to_listed) (grown_by x.first)

  pub turn_before : Grew x.upto new
  turn_before = grown_more (grown_by x.last) from_b

  at_name : (s : DirState) → stands s.namespace (record { area = here; name = x.name }) ≡ true → stands s.namespace its_spot ≡ true
  at_name s there = subst (λ (n : List ℕ). stands s.namespace (record { area = here; name = n }) ≡ true) (sym (text_back x.name x.shown x.name_is)) there

  pub stood_listed : stands (state_after t.listed).namespace its_spot ≡ true
  stood_listed =
      let shown = subst (λ (ns : List (List ℕ)). has_name ns x.name ≡ true) (sym x.names_are) (named_in x.earlier x.name x.later) in
      let listing : Grew a t.listed = record { more = t.only_lists.more; grown = t.only_lists.grown } in
      let own = own_first (quiet_part quiet to_a (grown_more listing from_listed)) (record { more = t.only_lists.more; grown = t.only_lists.grown }) from_listed in
      at_name (state_after t.listed) (stands_named (state_after t.listed) here x.name (shown_stands me here x.name t.names a t.listed t.only_lists own t.shows shown))

  pub stood_until : Grew x.from new → stands (state_after x.from).namespace its_spot ≡ true
  stood_until rest =
      let sorted = subst (λ (ns : List (List ℕ)). IsStrictlySortedBy (slice_cmp nat_cmp) ns) x.names_are t.ordered in
      let unshown = subst (λ (n : List ℕ). has_name x.earlier n ≡ false) (sym (text_back x.name x.shown x.name_is)) (earlier_apart x.earlier x.name x.later sorted) in
      forward (λ s. stands s.namespace its_spot ≡ true) (deals_with_pods times.now here x.earlier) me (λ s request reply h q. stays times.now here stage x.earlier its_spot unshown me s request reply h q) t.listed
      grown_none (grown_by x.first) x.first (quiet_between quiet (grown_more to_a to_listed) (grown_by x.first) rest) stood_listed

  -- from its turn on to the end of the pass
  pub stood_since : Grew x.from x.upto → stands (state_after x.upto).namespace its_spot ≡ true → stands (state_after b).namespace its_spot ≡ true
  stood_since turn there =
      let sorted = subst (λ (ns : List (List ℕ)). IsStrictlySortedBy (slice_cmp nat_cmp) ns) x.names_are t.ordered in
      let unshown = subst (λ (n : List ℕ). has_name x.later n ≡ false) (sym (text_back x.name x.shown x.name_is)) (later_apart x.earlier x.name x.later sorted) in
      forward (λ s. stands s.namespace its_spot ≡ true) (deals_with_pods times.now here x.later) me (λ s request reply h q. stays times.now here stage x.later its_spot unshown me s request reply h q) x.upto
      grown_none (grown_by x.last) x.last (quiet_between quiet (grown_more turn_after turn) (grown_by x.last) from_b) there
