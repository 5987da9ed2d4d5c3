-- A deletion of a folder that stood there meets no answer that its lock doesn't explain but by what a started app wrote.
use Rattle.std.proofs.Common.{◌≡◌, ◌⊎◌, inl, inr, ℕ, Bool, true, false, not, ◌||◌, ◌==◌, Some, List, [], ◌∷◌, ◌++◌, append_assoc, refl, sym, ap, subst, ◌∙◌}
use Rattle.std.specs.List.{AllByRecursion}
use Rattle.std.proofs.lemmas.List.{append_cancel_left}
use Rattle.plain_laws.proofs.Booleans.{clash, no_more}
use Rattle.dir_model.specs.declared.event.Event.{Event}
use Rattle.dir_model.specs.declared.item.Inner.{Inner}
use Rattle.dir_model.specs.declared.spot.Mode.TheVariants.{Shared}
use Rattle.dir_model.specs.declared.spot.Spot.{Spot}
use Rattle.dir_model.specs.declared.tree.OpenListing.{OpenListing}
use Rattle.dir_model.specs.declared.request.DirError.TheVariants.{Missing, NotEmpty}
use Rattle.dir_model.specs.declared.request.Request.{Request}
use Rattle.dir_model.specs.declared.request.Request.TheVariants.{Open, TryLock, Close, ListIn, RemoveFileIn, RemoveDirIn, RemoveFolder}
use Rattle.dir_model.specs.declared.request.Reply.{Reply}
use Rattle.dir_model.specs.declared.request.Reply.TheVariants.{Done, Begun, Items, Refused}
use Rattle.dir_model.specs.Calls.{CallStep, TookPlace, LeftNothing, Extends, AtOwnStep, Interference, event, is_kill, is_foreign}
use Rattle.dir_model.specs.Listings.{is_listing_of, is_listing, is_listing_request, noted_by, listing_begun}
use Rattle.dir_model.specs.Replies.{is_reply, is_late_reply, is_look_at}
use Rattle.dir_model.specs.State.{DirState, folder_at, lives, spot_eq, stands}
use Rattle.dir_model.specs.Trace.{state_after}
use Rattle.dir_model.proofs.Chains.{state_after-push}
use Rattle.dir_model.proofs.Lists.{all_both, all_left, all_right, all_weaker, or_map, or_second, same_self, same_number as nat_same}
use Rattle.dir_model.proofs.Moments.{some_number}
use Rattle.dir_rules.specs.declared.seen.Seen.{Seen}
use Rattle.dir_rules.specs.declared.standing.Standing.{Standing}
use Rattle.dir_rules.specs.Anomalies.{is_foreign_write}
use Rattle.dir_rules.specs.Conforms.{seen_of, seen_replied, IsTied}
use Rattle.dir_rules.specs.LockRules.{may_remove}
use Rattle.dir_rules.specs.Rules.{root_of, is_item_shown, is_file_item}
use Rattle.dir_rules.proofs.Tied.{meanwhile_unseen, lived_meanwhile, tied_call}
use Rattle.lifecycle.specs.Executions.{IsConforming}
use Rattle.lifecycle.proofs.Draws.{conforming_left}
use Rattle.lifecycle.proofs.Lists.{In, in_any}
use Rattle.folder_contents.proofs.Spots.{one_location}
use Rattle.folder_removal.specs.Known.{HasAsked, IsListingDue, StrayKnowing}
use Rattle.folder_removal.specs.Removal.{asks_deletion_at, is_stray_deletion, removes_folder, KeptFolders, WasStrayDeletion}
use Rattle.impossible_replies.specs.Replies.{AppWroteOn}
use Rattle.impossible_replies.proofs.Alongside.{Steps, steps}
use Rattle.impossible_replies.proofs.Calls.{removal_lost}
use Rattle.impossible_replies.proofs.Citing.{is_lost}
use Rattle.impossible_replies.proofs.DeletionReplies.{listing_at_app, long_at_app}
use Rattle.impossible_replies.proofs.Impossible.{foreign_is_apps}
use Rattle.impossible_replies.proofs.KeptFolders.{leaves_folders, IsQuiet, KeptAt, folder_kept, root_found}
use Rattle.impossible_replies.proofs.Removals.{is_removal_request}
use Rattle.impossible_replies.proofs.Removers.{is_removing}
use Rattle.impossible_replies.proofs.Told.{listing_from}
use Rattle.impossible_replies.proofs.Turns.{lists_at_once}

-- wider
pub wrote_within : {me : ℕ} {a b c d : List Event} (more rest : List Event) → b ≡ a ++ more → d ≡ c ++ rest → AppWroteOn me b c → AppWroteOn me a d
wrote_within {me} {a} {b} {c} {d} more rest later earlier w = record {
  before = w.before;
  request = w.request;
  reply = w.reply;
  earlier = more ++ w.earlier;
  later = w.later ++ rest;
  begins = w.begins ∙ (ap (λ h. h ++ w.earlier) later ∙ append_assoc a more w.earlier);
  ends = earlier ∙ (ap (λ h. h ++ rest) w.ends ∙ append_assoc w.before (event me w.request w.reply ∷ w.later) rest);
  foreign = w.foreign;
  app = w.app;
}

-- such an answer is told by a step
pub stray_told : (request : Request) (reply : Reply) → is_stray_deletion request reply ≡ true → is_late_reply request reply ≡ true → ⊥
stray_told (ListIn i) (Refused Missing left) stray late = no_more (left == 0) late
stray_told (RemoveFileIn i) (Refused Missing left) stray late = no_more (left == 0) late
stray_told (RemoveDirIn i) (Refused Missing left) stray late = no_more (left == 0) late
stray_told (RemoveDirIn i) (Refused NotEmpty left) stray late = no_more (left == 0) late
stray_told (RemoveFolder s) (Refused Missing left) stray late = no_more (left == 0) late
stray_told (RemoveFolder s) (Refused NotEmpty left) stray late = no_more (left == 0) late
stray_told (ListIn i) (Items items) stray late = cc
stray_told request reply stray late = cc

pub stray_step : {me : ℕ} {old new : List Event} (request : Request) (reply : Reply) → is_stray_deletion request reply ≡ true → (c : CallStep me old request reply new) → new ≡ c.before ++ event me request reply ∷ []
stray_step {me} {old} {new} request reply stray c = by c.own
  where
    by : TookPlace c.before me request reply new ⊎ LeftNothing c.before me request reply new → new ≡ c.before ++ event me request reply ∷ []
    by (inl took) = took.grown
    by (inr left) = absurd (stray_told request reply stray left.late)

pub same_front : {X : Type 0} (xs ys : List X) (x y : X) → xs ++ x ∷ [] ≡ ys ++ y ∷ [] → xs ≡ ys
same_front [] [] x y e = refl
same_front [] (b ∷ []) x y e = cc
same_front [] (b ∷ c ∷ ys) x y e = cc
same_front (a ∷ []) [] x y e = cc
same_front (a ∷ b ∷ xs) [] x y e = cc
same_front (a ∷ xs) (b ∷ ys) x y e =
    let heads : a ≡ b = cc in
    let tails : xs ++ x ∷ [] ≡ ys ++ y ∷ [] = cc in
    ap (λ l. a ∷ l) (same_front xs ys x y tails) ∙ ap (λ z. z ∷ ys) heads

all_two : {X : Type 0} (P Q R : X → Type 0) → ((x : X) → P x → Q x → R x) → (xs : List X) → AllByRecursion P xs → AllByRecursion Q xs → AllByRecursion R xs
all_two P Q R f [] ps qs = tt
all_two P Q R f (x ∷ xs) ps qs = (f x ps.0 qs.0, all_two P Q R f xs ps.1 qs.1)

-- what was known when a listing was asked for is what the events before its end say
pub listing_knew : {me : ℕ} {asked before h : List Event} (inner : Inner) (s : Seen) → IsTied me asked s → HasAsked (ListIn inner) me asked before → Interference me before h → lives (state_after h).namespace me ≡ true →
    ((seen_of me h).items ≡ s.items) × ((seen_of me h).standing ≡ s.standing)
listing_knew {me} {asked} {before} {h} inner s tied has m living = by has
  where
    unseen : seen_of me h ≡ seen_of me before
    unseen = meanwhile_unseen m

    was : lives (state_after before).namespace me ≡ true
    was = lived_meanwhile m living

    by : HasAsked (ListIn inner) me asked before → ((seen_of me h).items ≡ s.items) × ((seen_of me h).standing ≡ s.standing)
    by (inl same) =
        let t : IsTied me before s = subst (λ (l : List Event). IsTied me l s) (sym same) tied in
        let a = t.living was in
        (ap (λ (z : Seen). z.items) unseen ∙ sym (ap (λ (z : Seen). z.items) a.same), ap (λ (z : Seen). z.standing) unseen ∙ sym (ap (λ (z : Seen). z.standing) a.same))
    by (inr c) =
        let t : IsTied me before (seen_replied s (ListIn inner) Begun) = tied_call tied refl refl refl c in
        let a = t.living was in
        (ap (λ (z : Seen). z.items) unseen ∙ sym (ap (λ (z : Seen). z.items) a.same), ap (λ (z : Seen). z.standing) unseen ∙ sym (ap (λ (z : Seen). z.standing) a.same))

-- requests
look_leaves : (test : Spot → Bool) (request : Request) (reply : Reply) → is_look_at test request ≡ true → leaves_folders request reply ≡ true
look_leaves test (Open spot which) reply on = refl
look_leaves test (TryLock handle Shared) reply on = refl
look_leaves test (Close handle) reply on = refl
look_leaves test request reply on = cc

deletion_leaves : (spot : Spot) (request : Request) (reply : Reply) → asks_deletion_at spot request ≡ true → not (removes_folder request reply) ≡ true → leaves_folders request reply ≡ true
deletion_leaves spot (ListIn inner) reply on keeps = refl
deletion_leaves spot (RemoveFileIn inner) reply on keeps = refl
deletion_leaves spot (RemoveDirIn inner) reply on keeps = refl
deletion_leaves spot (RemoveFolder gone) Done on keeps = cc
deletion_leaves spot (RemoveFolder gone) reply on keeps = refl
deletion_leaves spot request reply on keeps = cc

or_both : (a b c d : Bool) → (a || b) ≡ true → (a || c) ≡ true → (b ≡ true → c ≡ true → d ≡ true) → (a || d) ≡ true
or_both true b c d x y f = refl
or_both false b c d x y f = f x y

same_number : (a b : ℕ) → a ≡ b → (a == b) ≡ true
same_number a b e = subst (λ (c : ℕ). (a == c) ≡ true) e (same_self a)

-- after an own look no listing of this process is open
none_open : (me : ℕ) (test : Spot → Bool) (h : List Event) (e : Event) → IsConforming (h ++ e ∷ []) → is_foreign me e ≡ false → is_look_at test e.request ≡ true →
    (l : OpenListing) → In l (state_after (h ++ e ∷ [])).listings → l.process ≡ me → ⊥
none_open me test h e c own looks l i mine =
    by (listing_from st e.process e.request e.reply l (subst (λ (s : DirState). In l s.listings) (state_after-push h e) i))
  where
    st : DirState
    st = state_after h

    same : e.process ≡ me
    same = own_process (e.process == me) refl own
      where
        own_process : (b : Bool) → (e.process == me) ≡ b → (not b || is_kill e.request) ≡ false → e.process ≡ me
        own_process true is x = nat_same e.process me is
        own_process false is x = cc

    quiet : (request : Request) → is_look_at test request ≡ true → (is_kill request ≡ false) × (is_listing_request request ≡ false)
    quiet (Open spot which) on = (refl, refl)
    quiet (TryLock handle Shared) on = (refl, refl)
    quiet (Close handle) on = (refl, refl)
    quiet request on = cc

    none : is_listing st me ≡ false
    none = subst (λ (p : ℕ). is_listing st p ≡ false) same (closed (is_listing st e.process) refl)
      where
        closed : (b : Bool) → is_listing st e.process ≡ b → b ≡ false
        closed false is = refl
        closed true is = clash (is_listing_request e.request) (lists_at_once h e c is (quiet e.request looks).0) (quiet e.request looks).1

    begins : (request : Request) → is_look_at test request ≡ true → listing_begun st e.process request ≡ Some l → ⊥
    begins (Open spot which) on b = cc
    begins (TryLock handle Shared) on b = cc
    begins (Close handle) on b = cc
    begins request on b = cc

    by : (In l st.listings ⊎ ((l0 : OpenListing) × (In l0 st.listings × (l ≡ noted_by st l0)))) ⊎ ((e.reply ≡ Begun) × (listing_begun st e.process e.request ≡ Some l)) → ⊥
    by (inl (inl j)) = clash (is_listing st me) (in_any (is_listing_of me) l st.listings j (same_number l.process me mine)) none
    by (inl (inr x)) = clash (is_listing st me) (in_any (is_listing_of me) x.0 st.listings x.1.0 (same_number x.0.process me (sym (ap (λ (z : OpenListing). z.process) x.1.1) ∙ mine))) none
    by (inr x) = begins e.request looks x.1

-- what stood at an own look, and this process deletes since, isn't missing when it is listed
module _ {me : ℕ} {old mid new : List Event} (spot : Spot) (on : is_removing spot.area ≡ true) (test : Spot → Bool) (at : AtOwnStep me old mid (λ s. stands s.namespace spot ≡ true)) (looks : Extends (is_look_at test) me old mid)
    (kept : KeptFolders me mid new) (conforming : IsConforming new) where
  abbrev moment : List Event
  moment = at.before ++ at.step ∷ []

  since : looks.more ≡ at.later ++ at.step ∷ at.rest
  since = append_cancel_left old looks.more (at.later ++ at.step ∷ at.rest)
      (sym looks.grown ∙ (at.ends ∙ (append_assoc at.before (at.step ∷ []) at.rest ∙ (ap (λ h. h ++ at.step ∷ at.rest) at.begins ∙ append_assoc old at.later (at.step ∷ at.rest)))))

  looked : AllByRecursion (λ e. (is_foreign me e || is_look_at test e.request) ≡ true) (at.step ∷ at.rest)
  looked = all_right (λ e. (is_foreign me e || is_look_at test e.request) ≡ true) at.later (at.step ∷ at.rest) (subst (AllByRecursion (λ e. (is_foreign me e || is_look_at test e.request) ≡ true)) since looks.asked)

  whole : new ≡ moment ++ (at.rest ++ kept.more)
  whole = kept.grown ∙ (ap (λ h. h ++ kept.more) at.ends ∙ append_assoc moment at.rest kept.more)

  stood : (f : ℕ) → folder_at (state_after moment).namespace spot ≡ Some f → KeptAt me spot f moment
  stood f is = record {
    at = is;
    found = λ l i mine. absurd (none_open me test at.before at.step (conforming_left moment (at.rest ++ kept.more) (subst IsConforming whole conforming)) at.own (or_second (is_foreign me at.step) (is_look_at test at.step.request) looked.0 at.own) l i mine);
  }

  never_missing : (h deleted : List Event) (e : Event) (left : ℕ) → new ≡ h ++ e ∷ [] → h ≡ mid ++ deleted → AllByRecursion (λ e. (is_foreign me e || asks_deletion_at spot e.request) ≡ true) deleted →
      IsConforming h → lives (state_after h).namespace me ≡ true → may_remove (seen_of me h).standing spot ≡ true → is_reply (state_after h) me (ListIn (root_of spot)) (Refused Missing left) ≡ true → ⊥
  never_missing h deleted e left grown is asked law living lock reply = by (some_number (folder_at (state_after moment).namespace spot) at.holds)
    where
      kept_is : kept.more ≡ deleted ++ e ∷ []
      kept_is = append_cancel_left mid kept.more (deleted ++ e ∷ []) (sym kept.grown ∙ (grown ∙ (ap (λ l. l ++ e ∷ []) is ∙ append_assoc mid deleted (e ∷ []))))

      keeps : AllByRecursion (λ e. (is_foreign me e || not (removes_folder e.request e.reply)) ≡ true) deleted
      keeps = all_left (λ e. (is_foreign me e || not (removes_folder e.request e.reply)) ≡ true) deleted (e ∷ []) (subst (AllByRecursion (λ e. (is_foreign me e || not (removes_folder e.request e.reply)) ≡ true)) kept_is kept.kept)

      quiet : AllByRecursion (IsQuiet me spot on) (at.rest ++ deleted)
      quiet = all_both (IsQuiet me spot on) at.rest deleted
          (all_weaker (λ e. (is_foreign me e || is_look_at test e.request) ≡ true) (IsQuiet me spot on) (λ e. or_map (is_foreign me e) (is_look_at test e.request) (leaves_folders e.request e.reply) (look_leaves test e.request e.reply)) at.rest looked.1)
          (all_two (λ e. (is_foreign me e || asks_deletion_at spot e.request) ≡ true) (λ e. (is_foreign me e || not (removes_folder e.request e.reply)) ≡ true) (IsQuiet me spot on)
          (λ e a k. or_both (is_foreign me e) (asks_deletion_at spot e.request) (not (removes_folder e.request e.reply)) (leaves_folders e.request e.reply) a k (deletion_leaves spot e.request e.reply)) deleted asked keeps)

      same : h ≡ moment ++ (at.rest ++ deleted)
      same = is ∙ (ap (λ l. l ++ deleted) at.ends ∙ append_assoc moment at.rest deleted)

      by : (f : ℕ) × (folder_at (state_after moment).namespace spot ≡ Some f) → ⊥
      by (f, there) =
          root_found me spot on h f left
          (subst (KeptAt me spot f) (sym same)
          (folder_kept me spot on (at.rest ++ deleted) moment f (subst IsConforming same law) quiet (subst (λ l. lives (state_after l).namespace me ≡ true) same living)
          (subst (λ l. may_remove (seen_of me l).standing spot ≡ true) same lock) (stood f there))) reply

-- a deletion of what stood at an own look was answered so by what a started app wrote
pub app_wrote_on : {me : ℕ} {old mid new : List Event} (spot : Spot) → is_removing spot.area ≡ true → (test : Spot → Bool) → AtOwnStep me old mid (λ s. stands s.namespace spot ≡ true) → Extends (is_look_at test) me old mid →
    KeptFolders me mid new → WasStrayDeletion spot me mid new → StrayKnowing spot me new → IsConforming new → AppWroteOn me mid new
app_wrote_on {me} {old} {mid} {new} spot on test at looks kept w k conforming = by k.request k.reply k.last k.about k.stray k.due k.begun grown
  where
    h : List Event
    h = k.last.before

    grown : new ≡ h ++ event me k.request k.reply ∷ []
    grown = stray_step k.request k.reply k.stray k.last

    deleted : List Event
    deleted = w.first.more ++ w.last.meanwhile.others

    begins : h ≡ mid ++ deleted
    begins = same_front h w.last.before (event me k.request k.reply) (event me w.request w.reply) (sym grown ∙ stray_step w.request w.reply w.stray w.last)
        ∙ (w.last.meanwhile.grown ∙ (ap (λ l. l ++ w.last.meanwhile.others) w.first.grown ∙ append_assoc mid w.first.more w.last.meanwhile.others))

    asked : AllByRecursion (λ e. (is_foreign me e || asks_deletion_at spot e.request) ≡ true) deleted
    asked = all_both (λ e. (is_foreign me e || asks_deletion_at spot e.request) ≡ true) w.first.more w.last.meanwhile.others w.first.asked
        (all_weaker (λ e. is_foreign me e ≡ true) (λ e. (is_foreign me e || asks_deletion_at spot e.request) ≡ true) (λ e f. ap (λ b. b || asks_deletion_at spot e.request) f) w.last.meanwhile.others w.last.meanwhile.foreign)

    wrote : (request : Request) (reply : Reply) → new ≡ h ++ event me request reply ∷ [] → is_foreign_write (state_after h) (seen_of me h) request reply ≡ true → AppWroteOn me mid new
    wrote request reply ends foreign = record {
      before = h;
      request = request;
      reply = reply;
      earlier = deleted;
      later = [];
      begins = begins;
      ends = ends;
      foreign = foreign;
      app = foreign_is_apps h (event me request reply) (subst IsConforming ends conforming) foreign;
    }

    removed : (request : Request) (reply : Reply) → CallStep me k.before request reply new → is_removal_request request ≡ true → is_lost request reply ≡ true → AppWroteOn me mid new
    removed request reply c on lost =
        let x = removal_lost request reply c conforming on lost in
        let front : x.before ≡ h = same_front x.before h (event me request reply) (event me k.request k.reply) (sym x.grown ∙ grown) in
        let ends : new ≡ h ++ event me request reply ∷ [] = x.grown ∙ ap (λ l. l ++ event me request reply ∷ []) front in
        wrote request reply ends (subst (λ l. is_foreign_write (state_after l) (seen_of me l) request reply ≡ true) front x.foreign)

    listed : (inner : Inner) (left : ℕ) → spot_eq inner.spot spot ≡ true → IsListingDue k.seen (ListIn inner) → HasAsked (ListIn inner) me k.asked k.before → new ≡ h ++ event me (ListIn inner) (Refused Missing left) ∷ [] → AppWroteOn me mid new
    listed inner left here due has ends = came due
      where
        law : IsConforming (h ++ event me (ListIn inner) (Refused Missing left) ∷ [])
        law = subst IsConforming ends conforming

        x : Steps h me (ListIn inner) (Refused Missing left)
        x = steps h (event me (ListIn inner) (Refused Missing left)) law refl refl

        knew : ((seen_of me h).items ≡ k.seen.items) × ((seen_of me h).standing ≡ k.seen.standing)
        knew = listing_knew inner k.seen k.knew has k.last.meanwhile x.living

        came : IsListingDue k.seen (ListIn inner) → AppWroteOn me mid new
        came (inl root) =
            let is : inner ≡ root_of spot = root ∙ ap root_of (one_location inner.spot spot here) in
            absurd (never_missing spot on test at looks kept conforming h deleted (event me (ListIn inner) (Refused Missing left)) left ends begins asked x.conforming x.living
            (ap (λ (z : Standing). may_remove z spot) knew.1 ∙ k.lock)
            (subst (λ (i : Inner). is_reply (state_after h) me (ListIn i) (Refused Missing left) ≡ true) is x.is))
        came (inr shown) =
            wrote (ListIn inner) (Refused Missing left) ends
            (listing_at_app h me inner left law (ap (is_item_shown (λ k. not (is_file_item k)) inner) knew.0 ∙ shown))

    by : (request : Request) (reply : Reply) → CallStep me k.before request reply new → asks_deletion_at spot request ≡ true → is_stray_deletion request reply ≡ true → IsListingDue k.seen request → HasAsked request me k.asked k.before → new ≡ h ++ event me request reply ∷ [] → AppWroteOn me mid new
    by (ListIn inner) (Refused Missing left) c about stray due has ends = listed inner left about due has ends
    by (ListIn inner) (Items items) c about stray due has ends = wrote (ListIn inner) (Items items) ends (long_at_app (state_after h) (seen_of me h) inner items stray)
    by (RemoveFileIn i) (Refused Missing left) c about stray due has ends = removed (RemoveFileIn i) (Refused Missing left) c refl refl
    by (RemoveDirIn i) (Refused Missing left) c about stray due has ends = removed (RemoveDirIn i) (Refused Missing left) c refl refl
    by (RemoveDirIn i) (Refused NotEmpty left) c about stray due has ends = removed (RemoveDirIn i) (Refused NotEmpty left) c refl refl
    by (RemoveFolder s) (Refused Missing left) c about stray due has ends = removed (RemoveFolder s) (Refused Missing left) c refl refl
    by (RemoveFolder s) (Refused NotEmpty left) c about stray due has ends = removed (RemoveFolder s) (Refused NotEmpty left) c refl refl
    by request reply c about stray due has ends = cc
