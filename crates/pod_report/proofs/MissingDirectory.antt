-- Where a listing tells that no directory was at the path, none was in the folder that stood there when it began.
use Rattle.std.proofs.Common.{◌≡◌, inl, inr, ℕ, Bool, true, false, ◌==◌, cond, Some, List, [], ◌∷◌, ◌++◌, find, append-nil, append_assoc, refl, sym, ap, subst, ◌∙◌}
use Rattle.std.specs.List.{AllByRecursion}
use Rattle.dir_model.specs.declared.event.Event.{Event}
use Rattle.dir_model.specs.declared.item.Inner.{Inner}
use Rattle.dir_model.specs.declared.tree.Listed.TheVariants as listed
use Rattle.dir_model.specs.declared.tree.TreeEntry.{TreeEntry}
use Rattle.dir_model.specs.declared.request.DirError.TheVariants.{Missing}
use Rattle.dir_model.specs.declared.request.Request.TheVariants.{ListIn}
use Rattle.dir_model.specs.declared.request.Reply.{Reply}
use Rattle.dir_model.specs.declared.request.Reply.TheVariants.{Begun, Refused}
use Rattle.dir_model.specs.Calls.{TookPlace, Listing, ListStep, AtOwnStep, IsRun, event}
use Rattle.dir_model.specs.Listings.{is_listing_of, is_listing, listing_of, shows_missing}
use Rattle.dir_model.specs.Paths.{is_well_formed}
use Rattle.dir_model.specs.Replies.{is_apps_inner, is_any_reply, is_reply, is_state_reply}
use Rattle.dir_model.specs.State.{DirState, empty_state, folder_at, lives}
use Rattle.dir_model.specs.Trace.{state_next, states_next, state_after}
use Rattle.dir_model.specs.Trees.{has_dir, items_in}
use Rattle.dir_model.proofs.Allowed.{allowed_step, allowed_reply}
use Rattle.dir_model.proofs.Chains.{states_next-append, state_after-push, run-left, run_from-right}
use Rattle.dir_model.proofs.Lists.{and_right, not_true, same_self}
use Rattle.dir_laws.proofs.Directories.{item_name, inside_now, inside_begins}
use Rattle.dir_laws.proofs.Open.{open_along}
use Rattle.dir_laws.proofs.Living.{apart}
use Rattle.dir_trait.specs.DirCalls.{DirAt, ListCall, HeldBetween}
use Rattle.dir_trait.proofs.Calls.{took}

-- the folder there, if one stands there, has no directory at the path
abbrev pub LacksDirectory : Inner → DirState → Type 0
LacksDirectory inner s = (folder : ℕ) → folder_at s.namespace inner.spot ≡ Some folder → has_dir s.entries folder inner.path ≡ false

module _ {me : ℕ} {old new : List Event} (inner : Inner) (own : (h : List Event) → is_apps_inner (state_after h) (Some inner) ≡ false) (l : Listing me old (ListIn inner) (Refused Missing 0) new) where
  abbrev Before : DirState
  Before = state_after l.begins.before

  abbrev Now : DirState
  Now = state_after l.between

  abbrev Meanwhile : List Event
  Meanwhile = l.ends.meanwhile.others

  began : TookPlace l.begins.before me (ListIn inner) Begun l.between
  began = took refl l.begins.own

  ended : TookPlace l.ends.before me (ListIn inner) (Refused Missing 0) new
  ended = took refl l.ends.own

  -- the replies are the state's
  by_state : (h : List Event) (r : Reply) → is_reply (state_after h) me (ListIn inner) r ≡ true → is_state_reply (state_after h) me (ListIn inner) r ≡ true
  by_state h r allowed = by (is_apps_inner (state_after h) (Some inner)) (own h) allowed
    where
      by : (b : Bool) → b ≡ false → cond b (is_any_reply (state_after h) me (ListIn inner) r) (is_state_reply (state_after h) me (ListIn inner) r) ≡ true → is_state_reply (state_after h) me (ListIn inner) r ≡ true
      by true off a = cc
      by false off a = a

  now_is : Now ≡ state_next Before (event me (ListIn inner) Begun)
  now_is = ap state_after began.grown ∙ state_after-push l.begins.before (event me (ListIn inner) Begun)

  last_is : state_after l.ends.before ≡ states_next Now Meanwhile
  last_is = ap state_after l.ends.meanwhile.grown ∙ states_next-append empty_state l.between Meanwhile

  alive : lives (states_next Now Meanwhile).namespace me ≡ true
  alive = subst (λ (s : DirState). lives s.namespace me ≡ true) last_is (and_right (is_well_formed (ListIn inner)) (lives (state_after l.ends.before).namespace me) (allowed_step (state_after l.ends.before) me (ListIn inner) (Refused Missing 0) ended.allowed))

  of_others : AllByRecursion (λ e. (e.process == me) ≡ false) Meanwhile
  of_others =
      let whole : IsRun (l.between ++ Meanwhile) = subst IsRun l.ends.meanwhile.grown (run-left l.ends.before (event me (ListIn inner) (Refused Missing 0) ∷ []) (subst IsRun ended.grown l.ends.run)) in
      apart me Now Meanwhile (run_from-right empty_state l.between Meanwhile whole) l.ends.meanwhile.foreign alive

  none_listing : is_listing Before me ≡ false
  none_listing = not_true (is_listing Before me) (by_state l.begins.before Begun (allowed_reply Before me (ListIn inner) Begun began.allowed))

  says : shows_missing inner (listing_of (states_next Now Meanwhile) me) ≡ true
  says = subst (λ (s : DirState). is_state_reply s me (ListIn inner) (Refused Missing 0) ≡ true) last_is (by_state l.ends.before (Refused Missing 0) (allowed_reply (state_after l.ends.before) me (ListIn inner) (Refused Missing 0) ended.allowed))

  -- else the listing would be one of that directory to its end
  lacked : (folder : ℕ) → folder_at Before.namespace inner.spot ≡ Some folder → (b : Bool) → has_dir Before.entries folder inner.path ≡ b → b ≡ false
  lacked folder at false is = refl
  lacked folder at true is =
      let open_now = ap (λ (s : DirState). find (is_listing_of me) s.listings) now_is ∙ inside_begins Before me folder inner none_listing at is in
      let inside = open_along item_name (inside_now folder inner.path) (λ through ever. listed.Inside inner folder through ever) (λ s through ever. refl) Now Meanwhile me me (items_in folder inner.path Before.entries, []) of_others open_now in
      let e : false ≡ true = sym (ap (shows_missing inner) inside) ∙ says in
      cc

  lacked_now : LacksDirectory inner (state_next Before (event me (ListIn inner) Begun))
  lacked_now folder at = ap (λ (es : List TreeEntry). has_dir es folder inner.path) (append-nil Before.entries) ∙ lacked folder at (has_dir Before.entries folder inner.path) refl

  lists_lacking : AtOwnStep me old new (LacksDirectory inner)
  lists_lacking = record {
    before = l.begins.before;
    step = event me (ListIn inner) Begun;
    later = l.begins.meanwhile.others;
    rest = Meanwhile ++ event me (ListIn inner) (Refused Missing 0) ∷ [];
    begins = l.begins.meanwhile.grown;
    ends = ended.grown ∙ (ap (λ h. h ++ event me (ListIn inner) (Refused Missing 0) ∷ []) (l.ends.meanwhile.grown ∙ ap (λ h. h ++ Meanwhile) began.grown) ∙ append_assoc (l.begins.before ++ event me (ListIn inner) Begun ∷ []) Meanwhile (event me (ListIn inner) (Refused Missing 0) ∷ []));
    own = rw (same_self me) refl;
    holds = subst (LacksDirectory inner) (sym (state_after-push l.begins.before (event me (ListIn inner) Begun))) lacked_now;
  }

pub tells_lacking : {observed : Bool} {old new : DirAt} (inner : Inner) → ((h : List Event) → is_apps_inner (state_after h) (Some inner) ≡ false) → observed ≡ true → ListCall observed old (ListIn inner) (Refused Missing 0) new → HeldBetween old new (LacksDirectory inner)
tells_lacking {observed} {old} {new} inner own t c = by (c.step t)
  where
    by : ListStep old.process old.trace (ListIn inner) (Refused Missing 0) new.trace → HeldBetween old new (LacksDirectory inner)
    by (inl l) = lists_lacking inner own l
    by (inr u) = let e : false ≡ true = u.late.late in cc
