-- A folder that is found twice in prepared or in run.
use Rattle.std.proofs.Common.{arith, ◌≡◌, ◌⊎◌, inl, inr, ◌<◌, ℕ, Bool, true, false, cond, Option, Some, None, option_map, unwrap_or, List, [], ◌∷◌, ◌++◌, slice_get, append_assoc, append-nil, refl, sym, ap, subst, ◌∙◌}
use Rattle.std.specs.Prelude.{nat_lt}
use Rattle.std.proofs.lemmas.Option.{slice_get-map}
use Rattle.plain_laws.proofs.Booleans.{clash}
use Rattle.dir_model.specs.declared.area.Area.{Area}
use Rattle.dir_model.specs.declared.area.Area.TheVariants.{Prepared, Run}
use Rattle.dir_model.specs.declared.event.Event.{Event}
use Rattle.dir_model.specs.declared.spot.Spot.{Spot}
use Rattle.dir_model.specs.declared.request.Request.{Request}
use Rattle.dir_model.specs.declared.request.Request.TheVariants.{MoveFolder, RemoveFolder}
use Rattle.dir_model.specs.declared.request.Reply.{Reply}
use Rattle.dir_model.specs.declared.request.Reply.TheVariants.{Done, Refused}
use Rattle.dir_model.specs.Areas.{rank}
use Rattle.dir_model.specs.State.{Namespace, DirState, folder_at, spot_eq}
use Rattle.dir_model.specs.Trace.{state_after, namespace_replied, moved}
use Rattle.dir_model.specs.Replies.{is_reply}
use Rattle.dir_model.specs.Calls.{is_kill, event}
use Rattle.dir_model.proofs.Chains.{state_after-push}
use Rattle.dir_model.proofs.Lists.{and_left}
use Rattle.dir_model.proofs.Spots.{spot_self}
use Rattle.dir_rules.specs.LockRules.{lock_rules_allow}
use Rattle.dir_rules.specs.Rules.{allows, content_rules_allow}
use Rattle.dir_rules.specs.Conforms.{seen_of}
use Rattle.lifecycle.specs.Executions.{IsConforming}
use Rattle.lifecycle.proofs.Draws.{conforming_left}
use Rattle.lifecycle.proofs.Places.{area_same, moved_there, none_stands}
use Rattle.lifecycle.proofs.Step.{stands_from}
use Rattle.folder_contents.specs.Handing.{then_moved}
use Rattle.folder_contents.specs.UnderGate.{is_taken_from}
use Rattle.folder_contents.proofs.Along.{Happens, happens, each_beginning, conforming_to}
use Rattle.folder_contents.proofs.Handed.{brought}
use Rattle.folder_contents.proofs.Places.{located, stands_there, untaken}
use Rattle.folder_contents.proofs.Spots.{one_location}
use Rattle.folder_contents.proofs.Unmoved.{further}
use Rattle.folder_contents.specs.Filled.{is_after_handover, lasting_after, KeepsItsContents}
use Rattle.folder_contents.proofs.Notes.{no_removal}
use Rattle.folder_contents.proofs.FilledSteps.{lasts, is_late, IsLate, late_next, goes_on}

-- a folder goes from a location: it is moved from there, or removed
abbrev pub Taking : Spot → Request → Reply → Type 0
Taking spot request reply =
    ((from : Spot) × ((to : Spot) × ((request ≡ MoveFolder from to) × ((reply ≡ Done) × (from ≡ spot))))) ⊎
    ((gone : Spot) × ((request ≡ RemoveFolder gone) × (gone ≡ spot)))

pub taking : (spot : Spot) (request : Request) (reply : Reply) → is_taken_from spot request reply ≡ true → Taking spot request reply
taking spot (MoveFolder from to) Done h = inl (from, (to, (refl, (refl, one_location from spot h))))
taking spot (RemoveFolder gone) Done h = inr (gone, (refl, one_location gone spot h))
taking spot (MoveFolder from to) reply h = cc
taking spot (RemoveFolder gone) reply h = cc
taking spot request reply h = cc

module _ (before : List Event) (folder : ℕ) where
  -- it stands in prepared or in run, and what lasts there is what lasted
  pub record Here (h : List Event) : Type 0 where
    pub spot : Spot
    pub filled : is_after_handover spot.area ≡ true
    pub there : folder_at (state_after h).namespace spot ≡ Some folder
    pub same : lasting_after folder h ≡ lasting_after folder before

  abbrev pub Late : List Event → Type 0
  Late h = IsLate (state_after h).namespace folder

  late_step : (h : List Event) (e : Event) → Happens h e → Late h → Late (h ++ e ∷ [])
  late_step h e x late =
      let n = late_next (state_after h).namespace e.process (seen_of e.process h) e.request e.reply folder late.0 x.may late.1.0 late.1.1 in
      (n.0, (ap (λ (z : DirState). slice_get z.namespace.folders folder) (state_after-push h e) ∙ n.1.0, n.1.1))

  -- it is moved from there: to run, or further
  pub moved_on : (h : List Event) (p : ℕ) (from to : Spot) → Happens h (event p (MoveFolder from to) Done) → is_after_handover from.area ≡ true →
      folder_at (state_after h).namespace from ≡ Some folder → lasting_after folder h ≡ lasting_after folder before →
      Here (then_moved h p from to) ⊎ Late (then_moved h p from to)
  moved_on h p from to x filled at same = by (goes_on from.area to.area filled (further (seen_of p h) from to from.area to.area (brought (seen_of p h) from to (x.may refl))))
    where
      e : Event
      e = event p (MoveFolder from to) Done

      n : Namespace
      n = (state_after h).namespace

      by : (is_after_handover to.area ≡ true) ⊎ (nat_lt 3 (rank to.area) ≡ true) → Here (then_moved h p from to) ⊎ Late (then_moved h p from to)
      by (inl reached) = inl (record {
        spot = to;
        filled = reached;
        there = ap (λ (z : DirState). folder_at z.namespace to) (state_after-push h e)
            ∙ (moved_there n to from to (none_stands n to (stands_from (state_after h) p from to x.is).1) (spot_self to) ∙ at);
        same = lasts h e x from folder filled at ∙ same;
      })
      by (inr late) =
          let l = located n from folder at in
          inr (
            Some to,
            (
              ap (λ (z : DirState). slice_get z.namespace.folders folder) (state_after-push h e)
                  ∙ (slice_get-map (moved from to) n.folders folder
                  ∙ (ap (option_map (moved from to)) l.1.0 ∙ ap (λ b. Some (cond b (Some to) (Some l.0))) l.1.1)),
              late,
            ),
          )

  next : (h : List Event) (e : Event) → Happens h e → Here h ⊎ Late h → Here (h ++ e ∷ []) ⊎ Late (h ++ e ∷ [])
  next h e x (inr late) = inr (late_step h e x late)
  next h e x (inl here) = by (is_taken_from here.spot e.request e.reply) refl
    where
      went : Taking here.spot e.request e.reply → Here (h ++ e ∷ []) ⊎ Late (h ++ e ∷ [])
      went (inl m) =
          let from = m.0 in
          let to = m.1.0 in
          let is : e ≡ event e.process (MoveFolder from to) Done =
          ap (λ (q : Request). event e.process q e.reply) m.1.1.0 ∙ ap (λ (y : Reply). event e.process (MoveFolder from to) y) m.1.1.1.0 in
          subst (λ (z : Event). Here (h ++ z ∷ []) ⊎ Late (h ++ z ∷ [])) (sym is)
          (moved_on h e.process from to (subst (λ (z : Event). Happens h z) is x)
          (subst (λ (s : Spot). is_after_handover s.area ≡ true) (sym m.1.1.1.1) here.filled)
          (subst (λ (s : Spot). folder_at (state_after h).namespace s ≡ Some folder) (sym m.1.1.1.1) here.there) here.same)
      went (inr r) =
          let may : allows (seen_of e.process h) (RemoveFolder r.0) ≡ true =
          ap (λ (q : Request). allows (seen_of e.process h) q) (sym r.1.0) ∙ x.may (ap is_kill r.1.0) in
          clash (is_after_handover here.spot.area) here.filled
          (subst (λ (s : Spot). is_after_handover s.area ≡ false) r.1.1
          (no_removal (seen_of e.process h).standing r.0 (and_left (lock_rules_allow (seen_of e.process h).standing (RemoveFolder r.0)) (content_rules_allow (seen_of e.process h) (RemoveFolder r.0)) may)))

      by : (b : Bool) → is_taken_from here.spot e.request e.reply ≡ b → Here (h ++ e ∷ []) ⊎ Late (h ++ e ∷ [])
      by true taken = went (taking here.spot e.request e.reply taken)
      by false off = inl (record {
        spot = here.spot;
        filled = here.filled;
        there = ap (λ (z : DirState). folder_at z.namespace here.spot) (state_after-push h e)
            ∙ (untaken (state_after h) e.process e.request e.reply here.spot x.is (stands_there (state_after h).namespace here.spot folder here.there) off ∙ here.there);
        same = lasts h e x here.spot folder here.filled here.there ∙ here.same;
      })

  pub here_or_late : (more : List Event) → IsConforming (before ++ more) → Here before → Here (before ++ more) ⊎ Late (before ++ more)
  here_or_late more conforming here =
      each_beginning (λ x. Here (before ++ x) ⊎ Late (before ++ x)) more step
      (subst (λ (h : List Event). Here h ⊎ Late h) (sym (append-nil before)) (inl here)) more [] (sym (append-nil more))
    where
      step : (x : List Event) (e : Event) (y : List Event) → more ≡ x ++ e ∷ y → Here (before ++ x) ⊎ Late (before ++ x) →
          Here (before ++ (x ++ e ∷ [])) ⊎ Late (before ++ (x ++ e ∷ []))
      step x e y is q =
          let whole : before ++ more ≡ (before ++ x) ++ e ∷ y =
          ap (λ (l : List Event). before ++ l) is ∙ sym (append_assoc before x (e ∷ y)) in
          subst (λ (h : List Event). Here h ⊎ Late h) (append_assoc before x (e ∷ []))
          (next (before ++ x) e (happens (before ++ x) e (conforming_to (before ++ more) (before ++ x) e y conforming whole)) q)

never_late : (a : Area) → is_after_handover a ≡ true → nat_lt 3 (rank a) ≡ false
never_late Prepared f = refl
never_late Run f = refl
never_late a f = cc

pub stays_filled : (trace : List Event) → IsConforming trace → KeepsItsContents trace
stays_filled trace conforming before more later a b folder is a_filled b_filled at again =
    by (here_or_late before folder more (conforming_left (before ++ more) later (subst (λ (h : List Event). IsConforming h) is conforming))
    (record { spot = a; filled = a_filled; there = at; same = refl }))
  where
    by : Here before folder (before ++ more) ⊎ Late before folder (before ++ more) → lasting_after folder (before ++ more) ≡ lasting_after folder before
    by (inl here) = here.same
    by (inr late) =
        let l = located (state_after (before ++ more)).namespace b folder again in
        let place : late.0 ≡ Some l.0 = one (sym late.1.0 ∙ l.1.0) in
        let r : rank l.0.area ≡ rank b.area = area_same l.0 b l.1.1 in
        clash (is_late late.0) late.1.1 (ap is_late place ∙ (ap (λ n. nat_lt 3 n) r ∙ never_late b.area b_filled))
      where
        one : {X : Type 0} {x y : X} → Some x ≡ Some y → x ≡ y
        one {X} {x} {y} e = ap (λ o. unwrap_or o x) e
