-- A listing that has begun is open, and what it shows if it ends at once.
use Rattle.std.proofs.Common.{◌≡◌, ℕ, Bool, true, false, cond, Option, Some, None, List, [], ◌∷◌, ◌++◌, find, option_map, option_to_list, refl, sym, ap, ◌∙◌, append-nil, append_assoc}
use Rattle.std.proofs.lemmas.Slice.Eq.{bytes_eq-Decides}
use Rattle.dir_model.specs.declared.event.Event.{Event}
use Rattle.dir_model.specs.declared.item.Inner.{Inner}
use Rattle.dir_model.specs.declared.tree.Listed.{Listed}
use Rattle.dir_model.specs.declared.tree.Listed.TheVariants as listed
use Rattle.dir_model.specs.declared.tree.OpenListing.{OpenListing}
use Rattle.dir_model.specs.declared.tree.TreeEntry.{TreeEntry}
use Rattle.dir_model.specs.declared.tree.StartedApp.{StartedApp}
use Rattle.dir_model.specs.declared.request.Request.{Request}
use Rattle.dir_model.specs.declared.request.Request.TheVariants.{ListArea, ListIn}
use Rattle.dir_model.specs.declared.request.Reply.{Reply}
use Rattle.dir_model.specs.declared.request.Reply.TheVariants.{Begun}
use Rattle.dir_model.specs.Areas.{rank}
use Rattle.dir_model.specs.Trees.{has_dir, items_in}
use Rattle.dir_model.specs.State.{Namespace, DirState, folder_at}
use Rattle.dir_model.specs.Trace.{state_next, state_after}
use Rattle.dir_model.specs.Listings.{is_listing_request, is_listing_of, is_listing, listing_noted, noted_by, listing_begun, begun_at, listing_of, is_inner, is_about, is_open_listing}
use Rattle.dir_model.specs.Calls.{may_step, is_allowed, event}
use Rattle.dir_model.proofs.Lists.{and_both, same_self}
use Rattle.dir_model.proofs.Spots.{spot_self}
use Rattle.dir_model.proofs.Chains.{state_after-push}
use Rattle.dir_laws.proofs.Open.{noted_found, find_own}
use Rattle.dir_state.specs.Answers.{shown_or_refused, listing_answer, step_of}
use Rattle.dir_state.proofs.Ending.{end_allowed}

-- what stands is noted by the folders and the entries alone
same_noted : (n : Namespace) (es fs : List TreeEntry) (apps more : List StartedApp) (ls ks : List OpenListing) → es ≡ fs → (x : Listed) → listing_noted (record { namespace = n; entries = es; apps = apps; listings = ls }) x ≡ listing_noted (record { namespace = n; entries = fs; apps = more; listings = ks }) x
same_noted n es fs apps more ls ks same (listed.Area area through ever) = refl
same_noted n es fs apps more ls ks same (listed.Missing inner) = refl
same_noted n es fs apps more ls ks same (listed.Inside inner folder through ever) = ap (λ (l : List TreeEntry). listing_noted (record { namespace = n; entries = l; apps = more; listings = ks }) (listed.Inside inner folder through ever)) same

after_begun : (s : DirState) (p : ℕ) (request : Request) (x : Listed) → is_listing_request request ≡ true → listing_noted (state_next s (event p request Begun)) x ≡ listing_noted s x
after_begun s p (ListArea area) x asks = same_noted s.namespace (s.entries ++ []) s.entries (s.apps ++ []) s.apps (s.listings ++ option_to_list (listing_begun s p (ListArea area))) s.listings (append-nil s.entries) x
after_begun s p (ListIn inner) x asks = same_noted s.namespace (s.entries ++ []) s.entries (s.apps ++ []) s.apps (s.listings ++ option_to_list (listing_begun s p (ListIn inner))) s.listings (append-nil s.entries) x
after_begun s p _ x asks = cc

module _ (s : DirState) (p : ℕ) (none : is_listing s p ≡ false) where
  listing_by : (request : Request) (x : Listed) → is_listing_request request ≡ true → listing_begun s p request ≡ Some (record { process = p; listed = x }) → listing_of (state_next s (event p request Begun)) p ≡ Some (record { process = p; listed = listing_noted s x })
  listing_by request x asks is =
      let next : DirState = state_next s (event p request Begun) in
      let l : OpenListing = record { process = p; listed = x } in
      let open_now : find (is_listing_of p) (s.listings ++ option_to_list (listing_begun s p request)) ≡ Some l = ap (λ (o : Option OpenListing). find (is_listing_of p) (s.listings ++ option_to_list o)) is ∙ find_own p s.listings l none (same_self p) in
      noted_found next p next.listings
      ∙ (ap (option_map (noted_by next)) open_now
      ∙ ap (λ (y : Listed). Some (record { process = p; listed = y })) (after_begun s p request x asks))

  answer_by : (request : Request) (x : Listed) → is_listing_request request ≡ true → listing_begun s p request ≡ Some (record { process = p; listed = x }) → listing_answer (state_next s (event p request Begun)) p ≡ shown_or_refused (option_map (noted_by s) (listing_begun s p request))
  answer_by request x asks is = ap shown_or_refused (listing_by request x asks is) ∙ sym (ap (λ (o : Option OpenListing). shown_or_refused (option_map (noted_by s) o)) is)

  -- what it shows if it ends at once
  pub whole_answer_is : (request : Request) → is_listing_request request ≡ true → listing_answer (state_next s (event p request Begun)) p ≡ shown_or_refused (option_map (noted_by s) (listing_begun s p request))
  whole_answer_is (ListArea area) asks = answer_by (ListArea area) _ refl refl
  whole_answer_is (ListIn inner) asks = answer_by (ListIn inner) _ refl refl
  whole_answer_is _ asks = cc

  about_by : (request : Request) (x : Listed) → is_listing_request request ≡ true → listing_begun s p request ≡ Some (record { process = p; listed = x }) → is_about request (listing_noted s x) ≡ true → is_open_listing request (listing_of (state_next s (event p request Begun)) p) ≡ true
  about_by request x asks is about = ap (is_open_listing request) (listing_by request x asks is) ∙ about

  inner_self : (inner : Inner) → is_inner inner inner ≡ true
  inner_self inner = and_both _ _ (spot_self inner.spot) ((bytes_eq-Decides inner.path inner.path).1 refl)

  about_inner : (inner : Inner) (o : Option ℕ) → is_about (ListIn inner) (listing_noted s (begun_at s inner o)) ≡ true
  about_inner inner None = inner_self inner
  about_inner inner (Some folder) = by (has_dir s.entries folder inner.path)
    where
      by : (b : Bool) → is_about (ListIn inner) (listing_noted s (cond b (listed.Inside inner folder (items_in folder inner.path s.entries) []) (listed.Missing inner))) ≡ true
      by true = inner_self inner
      by false = inner_self inner

  -- it is open, and about what was asked for
  pub begun_open : (request : Request) → is_listing_request request ≡ true → is_open_listing request (listing_of (state_next s (event p request Begun)) p) ≡ true
  begun_open (ListArea area) asks = about_by (ListArea area) _ refl refl (same_self (rank area))
  begun_open (ListIn inner) asks = about_by (ListIn inner) _ refl refl (about_inner inner (folder_at s.namespace inner.spot))
  begun_open _ asks = cc

-- who may begin may end
pub may_end : (s : DirState) (p : ℕ) (request : Request) → is_listing_request request ≡ true → may_step s p request ≡ true → may_step (state_next s (event p request Begun)) p request ≡ true
may_end s p (ListArea area) asks may = may
may_end s p (ListIn inner) asks may = may
may_end s p _ asks may = cc

pub step_listing : (s : DirState) (p : ℕ) (request : Request) → is_listing_request request ≡ true → step_of s p request ≡ event p request Begun ∷ event p request (listing_answer (state_next s (event p request Begun)) p) ∷ []
step_listing s p request asks = rw asks refl

-- the two events of a whole listing, by copies of the request
module _ (h : List Event) (p : ℕ) (request : Request) (asks : is_listing_request request ≡ true) (none : is_listing (state_after h) p ≡ false) where
  pub whole_allowed : (mid : List Event) (first second : Request) (end : Reply) → first ≡ request → second ≡ request → mid ≡ h ++ event p first Begun ∷ [] → end ≡ shown_or_refused (option_map (noted_by (state_after h)) (listing_begun (state_after h) p request)) → may_step (state_after h) p request ≡ true → is_allowed (state_after mid) (event p second end) ≡ true
  whole_allowed mid first second end one two grown is may =
      let s : DirState = state_after h in
      let next : state_after mid ≡ state_next s (event p request Begun) = ap state_after grown ∙ (state_after-push h (event p first Begun) ∙ ap (λ (r : Request). state_next s (event p r Begun)) one) in
      let answered : end ≡ listing_answer (state_next s (event p request Begun)) p = is ∙ sym (whole_answer_is s p none request asks) in
      rw (next, two, answered) (end_allowed (state_next s (event p request Begun)) p request (may_end s p request asks may) (begun_open s p none request asks))

  pub whole_grown : (mid new : List Event) (first second : Request) (end : Reply) → first ≡ request → second ≡ request → mid ≡ h ++ event p first Begun ∷ [] → end ≡ shown_or_refused (option_map (noted_by (state_after h)) (listing_begun (state_after h) p request)) → new ≡ mid ++ event p second end ∷ [] → new ≡ h ++ step_of (state_after h) p request
  whole_grown mid new first second end one two grown is more =
      let s : DirState = state_after h in
      let answered : end ≡ listing_answer (state_next s (event p request Begun)) p = is ∙ sym (whole_answer_is s p none request asks) in
      more ∙ (ap (λ l. l ++ event p second end ∷ []) grown
      ∙ (append_assoc h (event p first Begun ∷ []) (event p second end ∷ [])
      ∙ (rw (one, two, answered) refl ∙ sym (ap (λ l. h ++ l) (step_listing s p request asks)))))
