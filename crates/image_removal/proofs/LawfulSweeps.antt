-- Where every process keeps the local rules, no folder that a pass of a sweep listed is lost before its turn.
use Rattle.std.proofs.Common.{◌≡◌, ◌⊎◌, inl, inr, ℕ, Bool, true, false, Less, Some, not, ◌&&◌, ◌||◌, cond, bytes_eq, List, [], ◌∷◌, ◌++◌, map, filter, append_assoc, refl, sym, ap, subst, ◌∙◌}
use Rattle.std.specs.List.{list_any, AllByRecursion}
use Rattle.std.specs.List.Sorted.{IsStrictlySortedBy}
use Rattle.std.specs.Ordering.{nat_cmp, is_eq}
use Rattle.std.specs.Cmp.Lexicographic.{slice_cmp}
use Rattle.std.proofs.lemmas.Map.Text.{is_eq-slice_cmp}
use Rattle.std.proofs.lemmas.Bool.{and_parts, or_left}
use Rattle.plain_laws.proofs.Texts.{same_bytes, same_text}
use Rattle.plain_laws.proofs.Booleans.{clash}
use Rattle.dir_model.specs.declared.area.Area.{Area}
use Rattle.dir_model.specs.declared.area.Area.TheVariants.{Incoming}
use Rattle.dir_model.specs.declared.event.Event.{Event}
use Rattle.dir_model.specs.declared.item.Inner.{Inner}
use Rattle.dir_model.specs.declared.spot.Spot.{Spot}
use Rattle.dir_model.specs.declared.request.DirError.{DirError}
use Rattle.dir_model.specs.declared.request.DirError.TheVariants.{Missing, Exists, NotEmpty, Locked, Failed}
use Rattle.dir_model.specs.declared.request.DirError.TheVariants as dir
use Rattle.dir_model.specs.declared.request.Request.{Request}
use Rattle.dir_model.specs.declared.request.Request.TheVariants.{MoveFolder, ListArea, ListIn, RemoveFileIn, RemoveDirIn, RemoveFolder}
use Rattle.dir_model.specs.declared.request.Reply.{Reply}
use Rattle.dir_model.specs.declared.request.Reply.TheVariants.{Done, Begun, Names, Items, Opened, Refused}
use Rattle.dir_model.specs.Calls.{CallStep, ListStep, TookPlace, LeftNothing, event, is_foreign}
use Rattle.dir_model.specs.Listings.{has_name}
use Rattle.dir_model.specs.Replies.{is_reply, is_late_reply, is_apps_request, may_refuse}
use Rattle.dir_model.specs.State.{lives, spot_eq}
use Rattle.dir_model.specs.Trace.{state_after}
use Rattle.dir_model.proofs.Lists.{all_both, all_left, all_right, all_weaker, and_left, and_both, or_last, or_map, same_rest}
use Rattle.dir_rules.specs.declared.seen.Seen.{Seen}
use Rattle.dir_rules.specs.declared.seen.ShownArea.{ShownArea}
use Rattle.dir_rules.specs.Standing.{is_in, is_garbage, is_gate_exclusive, excludes_area, uncover, standing_replied}
use Rattle.dir_rules.specs.Seen.{makes_at, moved_away, with_names}
use Rattle.dir_rules.specs.declared.standing.Standing.{Standing}
use Rattle.dir_rules.specs.Anomalies.{is_foreign_write, is_its_folder, knows_folder, owns_at}
use Rattle.dir_rules.specs.Conforms.{nothing_seen, seen_after_event, seen_after, seen_of, seen_replied, IsTied}
use Rattle.dir_rules.specs.LockRules.{may_remove}
use Rattle.dir_rules.specs.Rules.{root_of, is_item_shown, is_file_item}
use Rattle.dir_rules.proofs.Tied.{meanwhile_unseen, lived_meanwhile, own_seen, seen_after-append, tied_call}
use Rattle.dir_trait.specs.DirCalls.{DirAt, DirCall}
use Rattle.lifecycle.specs.Executions.{IsConforming}
use Rattle.lifecycle.proofs.Draws.{conforming_left}
use Rattle.lifecycle.proofs.Closes.{any_mapped}
use Rattle.lifecycle.proofs.Lists.{In, any_in, in_any, in_filter, filter_in, map_in}
use Rattle.folder_contents.proofs.Spots.{one_location}
use Rattle.folder_removal.specs.Known.{HasAsked, IsListingDue, StrayKnowing}
use Rattle.folder_removal.specs.Removal.{asks_deletion_at, is_stray_deletion, removes_folder, KeptFolders, WasStrayDeletion}
use Rattle.impossible_replies.proofs.Alongside.{Steps, steps}
use Rattle.impossible_replies.proofs.Calls.{never_lost_own, never_meets, removal_lost}
use Rattle.impossible_replies.proofs.Citing.{is_lost, too_late}
use Rattle.impossible_replies.proofs.DeletionReplies.{listing_at_app, long_at_app}
use Rattle.impossible_replies.proofs.Impossible.{foreign_is_apps}
use Rattle.impossible_replies.proofs.KeptFolders.{KeptAt, root_found}
use Rattle.impossible_replies.proofs.Removals.{is_removal_request}
use Rattle.image_reading.specs.declared.error.StoreError.TheVariants.{Stray}
use Rattle.image_removal.specs.declared.pass.Pass.TheVariants.{PutAway, Delete}
use Rattle.image_removal.specs.Requests.{incoming_spot, removed_spot}
use Rattle.image_removal.specs.Causes.{change_refusal}
use Rattle.image_removal.specs.Passes.{is_uuid, uuids, deals_with_folder, deals_with_folders}
use Rattle.image_removal.specs.Sweeps.{WasListed}
use Rattle.impossible_replies.proofs.StrayDeletions.{listing_knew, same_front, stray_step}
use Rattle.image_removal.proofs.Lawful.{no_app_away}
use Rattle.image_removal.proofs.Shown.{leaves_there, LeavesIt, shown_stands}

-- names in strict order are apart
pub shown_among : (before later : List (List ℕ)) (name : List ℕ) → has_name (before ++ name ∷ later) name ≡ true
shown_among [] later name = ap (λ b. b || has_name later name) (same_bytes name)
shown_among (x ∷ before) later name = or_last (bytes_eq x name) (has_name (before ++ name ∷ later) name) (shown_among before later name)

pub apart_from : (before later : List (List ℕ)) (name : List ℕ) → IsStrictlySortedBy (slice_cmp nat_cmp) (before ++ name ∷ later) → has_name before name ≡ false
unfolding IsStrictlySortedBy
apart_from [] later name rise = refl
apart_from (x ∷ before) later name rise =
    let less = (all_right (λ y. slice_cmp nat_cmp x y ≡ Less) before (name ∷ later) rise.0).0 in
    ap (λ b. b || has_name before name) (sym (is_eq-slice_cmp x name) ∙ ap is_eq less) ∙ apart_from before later name rise.1

-- what deals with others leaves the folder
deals_leave : (others : List (List ℕ)) (name : List ℕ) (request : Request) (reply : Reply) → has_name others name ≡ false → deals_with_folders Delete others request ≡ true → leaves_there (removed_spot name) request reply ≡ true
deals_leave others name request reply apart on =
    let x = any_in (λ n. deals_with_folder Delete n request) (uuids others) on in
    by x.0 (in_filter is_uuid x.0 others x.1.0).0 request reply x.1.1
  where
    other : (n : List ℕ) → In n others → (gone : Spot) → spot_eq gone (removed_spot n) ≡ true → (b : Bool) → spot_eq gone (removed_spot name) ≡ b → not b ≡ true
    other n i gone at false e = refl
    other n i gone at true e =
        let same : removed_spot n ≡ removed_spot name = sym (one_location gone (removed_spot n) at) ∙ one_location gone (removed_spot name) e in
        clash (has_name others name) (in_any (λ k. bytes_eq k name) n others i (ap (λ (s : Spot). bytes_eq s.name name) same ∙ same_bytes name)) apart

    by : (n : List ℕ) → In n others → (request : Request) (reply : Reply) → deals_with_folder Delete n request ≡ true → leaves_there (removed_spot name) request reply ≡ true
    by n i (ListIn inner) reply at = refl
    by n i (RemoveFileIn inner) reply at = refl
    by n i (RemoveDirIn inner) reply at = refl
    by n i (RemoveFolder gone) Done at = other n i gone at (spot_eq gone (removed_spot name)) refl
    by n i (RemoveFolder gone) reply at = refl
    by n i request reply at = cc

deletion_leaves : (spot : Spot) (request : Request) (reply : Reply) → asks_deletion_at spot request ≡ true → not (removes_folder request reply) ≡ true → leaves_there spot request reply ≡ true
deletion_leaves spot (ListIn inner) reply on keeps = refl
deletion_leaves spot (RemoveFileIn inner) reply on keeps = refl
deletion_leaves spot (RemoveDirIn inner) reply on keeps = refl
deletion_leaves spot (RemoveFolder gone) Done on keeps = cc
deletion_leaves spot (RemoveFolder gone) reply on keeps = refl
deletion_leaves spot request reply on keeps = cc

module _ {me : ℕ} {from new : List Event} (name : List ℕ) (shown : WasListed Delete name me from) (kept : KeptFolders me from new) (w : WasStrayDeletion (removed_spot name) me from new) (k : StrayKnowing (removed_spot name) me new) (conforming : IsConforming new) where
  abbrev spot : Spot
  spot = removed_spot name

  abbrev h : List Event
  h = k.last.before

  abbrev last : Event
  last = event me k.request k.reply

  grown : new ≡ h ++ last ∷ []
  grown = stray_step k.request k.reply k.stray k.last

  abbrev deleted : List Event
  deleted = w.first.more ++ w.last.meanwhile.others

  begins : h ≡ from ++ deleted
  begins = same_front h w.last.before last (event me w.request w.reply) (sym grown ∙ stray_step w.request w.reply w.stray w.last)
      ∙ (w.last.meanwhile.grown ∙ (ap (λ l. l ++ w.last.meanwhile.others) w.first.grown ∙ append_assoc from w.first.more w.last.meanwhile.others))

  abbrev since : List Event
  since = shown.since.more ++ deleted

  whole : h ≡ shown.then ++ since
  whole = begins ∙ (ap (λ l. l ++ deleted) shown.since.grown ∙ append_assoc shown.then shown.since.more deleted)

  keeps : AllByRecursion (λ e. (is_foreign me e || not (removes_folder e.request e.reply)) ≡ true) deleted
  keeps = all_left (λ e. (is_foreign me e || not (removes_folder e.request e.reply)) ≡ true) deleted (last ∷ [])
      (subst (AllByRecursion (λ e. (is_foreign me e || not (removes_folder e.request e.reply)) ≡ true))
      (same_rest from kept.more (deleted ++ last ∷ []) (sym kept.grown ∙ (grown ∙ (ap (λ l. l ++ last ∷ []) begins ∙ append_assoc from deleted (last ∷ []))))) kept.kept)

  asked : AllByRecursion (λ e. (is_foreign me e || asks_deletion_at spot e.request) ≡ true) deleted
  asked = all_both (λ e. (is_foreign me e || asks_deletion_at spot e.request) ≡ true) w.first.more w.last.meanwhile.others w.first.asked
      (all_weaker (λ e. is_foreign me e ≡ true) (λ e. (is_foreign me e || asks_deletion_at spot e.request) ≡ true) (λ e f. ap (λ b. b || asks_deletion_at spot e.request) f) w.last.meanwhile.others w.last.meanwhile.foreign)

  leaving : (es : List Event) → AllByRecursion (λ e. (is_foreign me e || asks_deletion_at spot e.request) ≡ true) es → AllByRecursion (λ e. (is_foreign me e || not (removes_folder e.request e.reply)) ≡ true) es → AllByRecursion (LeavesIt me name) es
  leaving [] a b = tt
  leaving (e ∷ es) a b = (by (is_foreign me e) a.0 b.0, leaving es a.1 b.1)
    where
      by : (c : Bool) → (c || asks_deletion_at spot e.request) ≡ true → (c || not (removes_folder e.request e.reply)) ≡ true → (c || leaves_there spot e.request e.reply) ≡ true
      by true x y = refl
      by false x y = deletion_leaves spot e.request e.reply x y

  leaves : AllByRecursion (LeavesIt me name) since
  leaves = all_both (LeavesIt me name) shown.since.more deleted
      (all_weaker (λ e. (is_foreign me e || deals_with_folders Delete shown.others e.request) ≡ true) (LeavesIt me name)
      (λ e. or_map (is_foreign me e) (deals_with_folders Delete shown.others e.request) (leaves_there spot e.request e.reply) (deals_leave shown.others name e.request e.reply shown.apart)) shown.since.more shown.since.asked)
      (leaving deleted asked keeps)

  app_wrote : (request : Request) (reply : Reply) → new ≡ h ++ event me request reply ∷ [] → asks_deletion_at spot request ≡ true → is_foreign_write (state_after h) (seen_of me h) request reply ≡ true → ⊥
  app_wrote request reply ends about foreign =
      let law = subst IsConforming ends conforming in
      clash (is_apps_request (state_after h) request) (foreign_is_apps h (event me request reply) law foreign) (no_app_away h (conforming_left h (event me request reply ∷ []) law) name request about)

  removed : (request : Request) (reply : Reply) → CallStep me k.before request reply new → asks_deletion_at spot request ≡ true → is_removal_request request ≡ true → is_lost request reply ≡ true → ⊥
  removed request reply c about on lost =
      let x = removal_lost request reply c conforming on lost in
      clash (is_apps_request (state_after x.before) request) x.apps (no_app_away x.before (conforming_left x.before (event me request reply ∷ []) (subst IsConforming x.grown conforming)) name request about)

  missing : (inner : Inner) (left : ℕ) → new ≡ h ++ event me (ListIn inner) (Refused Missing left) ∷ [] → asks_deletion_at spot (ListIn inner) ≡ true → IsListingDue k.seen (ListIn inner) → HasAsked (ListIn inner) me k.asked k.before → ⊥
  missing inner left ends about due has = by due
    where
      e : Event
      e = event me (ListIn inner) (Refused Missing left)

      law : IsConforming (h ++ e ∷ [])
      law = subst IsConforming ends conforming

      x : Steps h me (ListIn inner) (Refused Missing left)
      x = steps h e law refl refl

      knew : ((seen_of me h).items ≡ k.seen.items) × ((seen_of me h).standing ≡ k.seen.standing)
      knew = listing_knew inner k.seen k.knew has k.last.meanwhile x.living

      there : (f : ℕ) × KeptAt me spot f h
      there =
          let y = shown_stands me name since shown.listed.listing shown.listed.shows shown.shown leaves (subst IsConforming whole x.conforming) (subst (λ l. lives (state_after l).namespace me ≡ true) whole x.living)
          (subst (λ l. may_remove (seen_of me l).standing spot ≡ true) whole (ap (λ (z : Standing). may_remove z spot) knew.1 ∙ k.lock)) in
          (y.0, subst (KeptAt me spot y.0) (sym whole) y.1)

      by : IsListingDue k.seen (ListIn inner) → ⊥
      by (inl root) =
          let is : inner ≡ root_of spot = root ∙ ap root_of (one_location inner.spot spot about) in
          root_found me spot refl h there.0 left there.1 (subst (λ (i : Inner). is_reply (state_after h) me (ListIn i) (Refused Missing left) ≡ true) is x.is)
      by (inr dir) = app_wrote (ListIn inner) (Refused Missing left) ends about (listing_at_app h me inner left law (ap (is_item_shown (λ k. not (is_file_item k)) inner) knew.0 ∙ dir))

  -- a folder that was listed in removed is deleted without a stray answer
  pub deleted_never : ⊥
  deleted_never = by k.request k.reply k.last k.about k.stray k.due k.begun grown
    where
      by : (request : Request) (reply : Reply) → CallStep me k.before request reply new → asks_deletion_at spot request ≡ true → is_stray_deletion request reply ≡ true → IsListingDue k.seen request → HasAsked request me k.asked k.before → new ≡ h ++ event me request reply ∷ [] → ⊥
      by (ListIn inner) (Refused Missing left) c about stray due has ends = missing inner left ends about due has
      by (ListIn inner) (Items items) c about stray due has ends = app_wrote (ListIn inner) (Items items) ends about (long_at_app (state_after h) (seen_of me h) inner items stray)
      by (RemoveFileIn i) (Refused Missing left) c about stray due has ends = removed (RemoveFileIn i) (Refused Missing left) c about refl refl
      by (RemoveDirIn i) (Refused Missing left) c about stray due has ends = removed (RemoveDirIn i) (Refused Missing left) c about refl refl
      by (RemoveDirIn i) (Refused NotEmpty left) c about stray due has ends = removed (RemoveDirIn i) (Refused NotEmpty left) c about refl refl
      by (RemoveFolder s) (Refused Missing left) c about stray due has ends = removed (RemoveFolder s) (Refused Missing left) c about refl refl
      by (RemoveFolder s) (Refused NotEmpty left) c about stray due has ends = removed (RemoveFolder s) (Refused NotEmpty left) c about refl refl
      by request reply c about stray due has ends = cc

-- what is moved out of incoming under its lock, after others of the same listing, was shown there
module _ {me : ℕ} {from new : List Event} (name : List ℕ) (shown : WasListed PutAway name me from) (c : CallStep me from (MoveFolder (incoming_spot name) (removed_spot name)) (Refused Missing 0) new) (conforming : IsConforming new) where
  abbrev moved : Request
  moved = MoveFolder (incoming_spot name) (removed_spot name)

  -- an area's listing shows the name still
  abbrev names_it : Seen → Bool
  names_it s = list_any (λ a. is_in Incoming a.area && has_name a.names name) s.areas

  still : (others : List (List ℕ)) → has_name others name ≡ false → (s : Seen) (request : Request) (reply : Reply) → deals_with_folders PutAway others request ≡ true → names_it s ≡ true → names_it (seen_replied s request reply) ≡ true
  still others apart s request reply on had =
      let x = any_in (λ n. deals_with_folder PutAway n request) (uuids others) on in
      by x.0 (in_filter is_uuid x.0 others x.1.0).0 request reply x.1.1
    where
      away : (n : List ℕ) → In n others → (here : Spot) → here ≡ incoming_spot n → (areas : List ShownArea) → list_any (λ a. is_in Incoming a.area && has_name a.names name) areas ≡ true
          → list_any (λ a. is_in Incoming a.area && has_name a.names name) (map (moved_away here) areas) ≡ true
      away n i here at areas had =
          let y = any_in (λ a. is_in Incoming a.area && has_name a.names name) areas had in
          let z = and_parts (is_in Incoming y.0.area) (has_name y.0.names name) y.1.1 in
          in_any (λ a. is_in Incoming a.area && has_name a.names name) (moved_away here y.0) (map (moved_away here) areas) (map_in (moved_away here) y.0 areas y.1.0)
          (kept (is_in here.area y.0.area) y.0 z.0 z.1)
        where
          differs : (k : List ℕ) → bytes_eq k name ≡ true → (b : Bool) → bytes_eq k here.name ≡ b → not b ≡ true
          differs k is false e = refl
          differs k is true e =
              let same : n ≡ name = sym (same_text k n (ap (λ (s : Spot). bytes_eq k s.name) (sym at) ∙ e)) ∙ same_text k name is in
              clash (has_name others name) (in_any (λ l. bytes_eq l name) n others i (ap (λ l. bytes_eq l name) same ∙ same_bytes name)) apart

          filtered : (ns : List (List ℕ)) → has_name ns name ≡ true → has_name (filter (λ l. not (bytes_eq l here.name)) ns) name ≡ true
          filtered ns had =
              let y = any_in (λ l. bytes_eq l name) ns had in
              in_any (λ l. bytes_eq l name) y.0 (filter (λ l. not (bytes_eq l here.name)) ns) (filter_in (λ l. not (bytes_eq l here.name)) y.0 ns y.1.0 (differs y.0 y.1.1 (bytes_eq y.0 here.name) refl)) y.1.1

          kept : (b : Bool) (a : ShownArea) → is_in Incoming a.area ≡ true → has_name a.names name ≡ true
              → (is_in Incoming (cond b (record a { names = filter (λ l. not (bytes_eq l here.name)) a.names }) a).area && has_name (cond b (record a { names = filter (λ l. not (bytes_eq l here.name)) a.names }) a).names name) ≡ true
          kept true a area has = and_both (is_in Incoming a.area) _ area (filtered a.names has)
          kept false a area has = and_both (is_in Incoming a.area) (has_name a.names name) area has

      by : (n : List ℕ) → In n others → (request : Request) (reply : Reply) → deals_with_folder PutAway n request ≡ true → names_it (seen_replied s request reply) ≡ true
      by n i (MoveFolder here there) Done on = away n i here (one_location here (incoming_spot n) (and_parts (spot_eq here (incoming_spot n)) (spot_eq there (removed_spot n)) on).0) s.areas had
      by n i (MoveFolder here there) (Refused e left) on = had
      by n i (MoveFolder here there) (Names ns) on = had
      by n i (MoveFolder here there) (Items items) on = had
      by n i (MoveFolder here there) reply on = had
      by n i request reply on = cc

  same_gate : (others : List (List ℕ)) (k : Standing) (request : Request) (reply : Reply) → deals_with_folders PutAway others request ≡ true → excludes_area Incoming (standing_replied k request reply) ≡ excludes_area Incoming k
  same_gate others k request reply on =
      let x = any_in (λ n. deals_with_folder PutAway n request) (uuids others) on in
      by x.0 request reply x.1.1
    where
      by : (n : List ℕ) (request : Request) (reply : Reply) → deals_with_folder PutAway n request ≡ true → excludes_area Incoming (standing_replied k request reply) ≡ excludes_area Incoming k
      by n (MoveFolder here there) Done on = any_mapped (is_gate_exclusive Incoming) (uncover here) k.holdings (λ y. refl)
      by n (MoveFolder here there) (Opened h) on = refl
      by n (MoveFolder here there) (Refused e left) on = refl
      by n (MoveFolder here there) reply on = refl
      by n request reply on = cc

  abbrev Moving : List (List ℕ) → Event → Type 0
  Moving others e = (is_foreign me e || deals_with_folders PutAway others e.request) ≡ true

  still_after : (others : List (List ℕ)) → has_name others name ≡ false → (es : List Event) → AllByRecursion (Moving others) es → (s : Seen) → names_it s ≡ true → names_it (seen_after me s es) ≡ true
  still_after others apart [] all s had = had
  still_after others apart (e ∷ es) all s had = still_after others apart es all.1 (seen_after_event me s e) (by (is_foreign me e) refl all.0)
    where
      by : (b : Bool) → is_foreign me e ≡ b → (b || deals_with_folders PutAway others e.request) ≡ true → names_it (seen_after_event me s e) ≡ true
      by true f on = ap (λ b. names_it (cond b s (seen_replied s e.request e.reply))) f ∙ had
      by false f on = ap (λ b. names_it (cond b s (seen_replied s e.request e.reply))) f ∙ still others apart s e.request e.reply on had

  gate_after : (others : List (List ℕ)) (es : List Event) → AllByRecursion (Moving others) es → (s : Seen) → excludes_area Incoming (seen_after me s es).standing ≡ excludes_area Incoming s.standing
  gate_after others [] all s = refl
  gate_after others (e ∷ es) all s = gate_after others es all.1 (seen_after_event me s e) ∙ by (is_foreign me e) refl all.0
    where
      by : (b : Bool) → is_foreign me e ≡ b → (b || deals_with_folders PutAway others e.request) ≡ true → excludes_area Incoming (seen_after_event me s e).standing ≡ excludes_area Incoming s.standing
      by true f on = ap (λ b. excludes_area Incoming (cond b s (seen_replied s e.request e.reply)).standing) f
      by false f on = ap (λ b. excludes_area Incoming (cond b s (seen_replied s e.request e.reply)).standing) f ∙ same_gate others s.standing e.request e.reply on

  seen_from : seen_of me from ≡ seen_after me (seen_of me shown.then) shown.since.more
  seen_from = ap (seen_of me) shown.since.grown ∙ seen_after-append me nothing_seen shown.then shown.since.more

  held : excludes_area Incoming (seen_of me from).standing ≡ true
  held = by c.own
    where
      by : TookPlace c.before me moved (Refused Missing 0) new ⊎ LeftNothing c.before me moved (Refused Missing 0) new → excludes_area Incoming (seen_of me from).standing ≡ true
      by (inl t) =
          let x = steps c.before (event me moved (Refused Missing 0)) (subst IsConforming t.grown conforming) refl refl in
          subst (λ (s : Seen). excludes_area Incoming s.standing ≡ true) (meanwhile_unseen c.meanwhile) (and_left (excludes_area Incoming (seen_of me c.before).standing) _ x.may)
      by (inr left) = absurd (too_late moved (Refused Missing 0) refl left.late)

  listed_names : names_it (seen_of me shown.then) ≡ true
  listed_names = by shown.listed.listing
    where
      closed : excludes_area Incoming (seen_of me shown.then).standing ≡ true
      closed = sym (ap (λ (s : Seen). excludes_area Incoming s.standing) seen_from ∙ gate_after shown.others shown.since.more shown.since.asked (seen_of me shown.then)) ∙ held

      at_end : (h : List Event) → shown.then ≡ h ++ event me (ListArea Incoming) (Names shown.names) ∷ [] → names_it (seen_of me shown.then) ≡ true
      at_end h grown =
          let same : seen_of me shown.then ≡ seen_replied (seen_of me h) (ListArea Incoming) (Names shown.names) = ap (seen_of me) grown ∙ own_seen me h (ListArea Incoming) (Names shown.names) refl in
          ap names_it same ∙ listed_now (seen_of me h) (sym (ap (λ (s : Seen). excludes_area Incoming s.standing) same) ∙ closed)
        where
          listed_now : (s : Seen) → excludes_area Incoming s.standing ≡ true → names_it (seen_replied s (ListArea Incoming) (Names shown.names)) ≡ true
          listed_now s gate =
              ap (λ b. list_any (λ a. is_in Incoming a.area && has_name a.names name) (cond b (with_names Incoming shown.names s.areas) s.areas)) gate
              ∙ or_left (has_name shown.names name) _ shown.shown

      by : ListStep me shown.listed.before (ListArea Incoming) (Names shown.names) shown.then → names_it (seen_of me shown.then) ≡ true
      by (inl l) = ended l.ends.own
        where
          ended : TookPlace l.ends.before me (ListArea Incoming) (Names shown.names) shown.then ⊎ LeftNothing l.ends.before me (ListArea Incoming) (Names shown.names) shown.then → names_it (seen_of me shown.then) ≡ true
          ended (inl t) = at_end l.ends.before t.grown
          ended (inr left) = let e : false ≡ true = left.late in cc
      by (inr u) = let e : false ≡ true = u.late.late in cc

  its : is_its_folder (seen_of me from) (Some (incoming_spot name)) ≡ true
  its =
      let s = seen_of me from in
      let named : names_it s ≡ true = ap names_it seen_from ∙ still_after shown.others shown.apart shown.since.more shown.since.asked (seen_of me shown.then) listed_names in
      let knows : knows_folder s (incoming_spot name) ≡ true = or_last (list_any (λ inner. spot_eq inner.spot (incoming_spot name)) s.listed) _ (or_left (names_it s) _ named) in
      or_last (makes_at s.making (incoming_spot name)) _ (or_last (not (is_garbage Incoming) && owns_at s.standing (incoming_spot name)) _ (and_both (knows_folder s (incoming_spot name)) _ knows held))

  pub moved_never : ⊥
  moved_never = never_lost_own moved (Refused Missing 0) c conforming refl its refl

-- an area's listing is refused by faults alone
pub list_never : (area : Area) (e : DirError) → may_refuse (ListArea area) e ≡ true → change_refusal e ≡ Stray → ⊥
list_never area Missing may is = cc
list_never area Exists may is = cc
list_never area NotEmpty may is = cc
list_never area Locked may is = cc
list_never area Failed may is = cc
list_never area dir.NoMemory may is = cc

-- what is put away under the lock of incoming, as it was listed there, is not refused so
pub put_away_never : {observed : Bool} {old new : DirAt} (name : List ℕ) (e : DirError) → may_refuse (MoveFolder (incoming_spot name) (removed_spot name)) e ≡ true → change_refusal e ≡ Stray → observed ≡ true
    → DirCall observed old (MoveFolder (incoming_spot name) (removed_spot name)) (Refused e 0) new → WasListed PutAway name old.process old.trace → IsConforming new.trace → ⊥
put_away_never name Missing may is t c shown conforming = moved_never name shown (c.step t) conforming
put_away_never name Exists may is t c shown conforming = never_meets (MoveFolder (incoming_spot name) (removed_spot name)) (Refused Exists 0) (c.step t) conforming refl
put_away_never name NotEmpty may is t c shown conforming = cc
put_away_never name Locked may is t c shown conforming = cc
put_away_never name Failed may is t c shown conforming = cc
put_away_never name dir.NoMemory may is t c shown conforming = cc
