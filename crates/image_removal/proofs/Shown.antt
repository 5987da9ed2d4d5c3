-- A folder of removed that a listing of the area showed under its lock stands there until this process deletes it.
use Rattle.std.proofs.Common.{◌≡◌, ◌⊎◌, inl, inr, ℕ, Bool, true, false, not, ◌&&◌, ◌||◌, ◌==◌, cond, bytes_eq, Option, Some, None, List, [], ◌∷◌, ◌++◌, append-nil, append_assoc, refl, sym, ap, subst, ◌∙◌}
use Rattle.std.specs.List.{AllByRecursion}
use Rattle.plain_laws.proofs.Booleans.{clash}
use Rattle.dir_model.specs.declared.area.Area.TheVariants.{Removed}
use Rattle.dir_model.specs.declared.event.Event.{Event}
use Rattle.dir_model.specs.declared.item.Inner.{Inner}
use Rattle.dir_model.specs.declared.spot.Spot.{Spot}
use Rattle.dir_model.specs.declared.tree.Listed.{Listed}
use Rattle.dir_model.specs.declared.tree.Listed.TheVariants as listed
use Rattle.dir_model.specs.declared.tree.OpenListing.{OpenListing}
use Rattle.dir_model.specs.declared.request.Request.{Request}
use Rattle.dir_model.specs.declared.request.Request.TheVariants.{Begin, ListArea, ListIn, RemoveFileIn, RemoveDirIn, RemoveFolder}
use Rattle.dir_model.specs.declared.request.Reply.{Reply}
use Rattle.dir_model.specs.declared.request.Reply.TheVariants.{Done, Begun, Names, Opened, Refused}
use Rattle.dir_model.specs.Areas.{rank}
use Rattle.dir_model.specs.Calls.{is_begin, is_foreign, event, Listing, ListStep, TookPlace, LeftNothing}
use Rattle.dir_model.specs.Listings.{has_name, is_listing_of, is_listing, listing_noted, noted_by, listing_begun}
use Rattle.dir_model.specs.State.{DirState, lives, folder_at, spot_eq, stands}
use Rattle.dir_model.specs.Trace.{state_after}
use Rattle.dir_model.specs.Trees.{name_in, names_in}
use Rattle.dir_model.proofs.Chains.{state_after-push}
use Rattle.dir_model.proofs.Lists.{all_right, not_true, or_last, or_map, all_weaker, same_rest, same_self}
use Rattle.dir_model.proofs.Moments.{some_number}
use Rattle.dir_rules.specs.declared.seen.Seen.{Seen}
use Rattle.dir_rules.specs.declared.standing.Standing.{Standing}
use Rattle.dir_rules.specs.Conforms.{nothing_seen, seen_after_event, seen_after, seen_of, seen_replied}
use Rattle.dir_rules.specs.LockRules.{may_remove}
use Rattle.dir_rules.specs.Rules.{root_of}
use Rattle.dir_rules.specs.Standing.{standing_replied}
use Rattle.dir_rules.proofs.Tied.{own_seen, seen_after-append}
use Rattle.dir_model.proofs.Chains.{states_next-append}
use Rattle.dir_model.specs.State.{empty_state}
use Rattle.dir_files.specs.Listed.{ShowsArea}
use Rattle.dir_laws.specs.Stretches.{Sometime, StandsInArea}
use Rattle.dir_laws.proofs.Living.{lived_first}
use Rattle.lifecycle.specs.Executions.{IsConforming}
use Rattle.lifecycle.proofs.Draws.{conforming_left}
use Rattle.lifecycle.proofs.Lists.{In, any_in, in_any}
use Rattle.lifecycle.proofs.Places.{none_at}
use Rattle.folder_contents.proofs.Along.{happens}
use Rattle.folder_contents.proofs.Places.{untaken, stands_there}
use Rattle.impossible_replies.proofs.Alongside.{Steps, steps}
use Rattle.impossible_replies.proofs.KeptFolders.{leaves_folders, IsQuiet, KeptAt, folder_kept, noted_missing, some_same}
use Rattle.impossible_replies.proofs.LongItems.{in_filter_map}
use Rattle.impossible_replies.proofs.Removals.{missing_by}
use Rattle.impossible_replies.proofs.StrayDeletions.{same_front}
use Rattle.impossible_replies.proofs.Told.{listing_from}
use Rattle.impossible_replies.proofs.Deletions.{begun_by}
use Rattle.image_removal.specs.Requests.{removed_spot}

-- a name among an area's names is that of a folder that stands there
named_stands : (s : DirState) (name : List ℕ) → StandsInArea Removed name s → stands s.namespace (removed_spot name) ≡ true
named_stands s name named = by (stands s.namespace (removed_spot name)) refl
  where
    y : (n : List ℕ) × (In n (names_in Removed s.namespace.folders) × (bytes_eq n name ≡ true))
    y = any_in (λ n. bytes_eq n name) (names_in Removed s.namespace.folders) named

    hit : (here : Spot) (b : Bool) → (rank here.area == rank Removed) ≡ b → cond b (Some here.name) None ≡ Some y.0 → spot_eq here (removed_spot name) ≡ true
    hit here true e is =
        let same : here.name ≡ y.0 = cc in
        ap (λ b. b && bytes_eq here.name name) e ∙ (ap (λ n. bytes_eq n name) same ∙ y.1.1)
    hit here false e is = cc

    by : (b : Bool) → stands s.namespace (removed_spot name) ≡ b → b ≡ true
    by true e = refl
    by false e = at (in_filter_map (name_in Removed) y.0 s.namespace.folders y.1.0)
      where
        at : (o : Option Spot) × (In o s.namespace.folders × (name_in Removed o ≡ Some y.0)) → false ≡ true
        at (Some here, (i, is)) = clash (spot_eq here (removed_spot name)) (hit here (rank here.area == rank Removed) refl is) (none_at s.namespace (removed_spot name) e (Some here) i)
        at (None, (i, is)) = cc

-- steps of others alone
abbrev pub Others : ℕ → List Event → Type 0
Others me es = AllByRecursion (λ e. is_foreign me e ≡ true) es

-- after the one own step come those of others
after_own : (me : ℕ) (xs ys us vs : List Event) (a b : Event) → is_foreign me a ≡ false → Others me us → Others me vs → xs ++ a ∷ ys ≡ us ++ b ∷ vs → Others me ys
after_own me [] ys [] vs a b own fus fvs is =
    let tails : ys ≡ vs = cc in
    subst (Others me) (sym tails) fvs
after_own me [] ys (u ∷ us) vs a b own fus fvs is =
    let heads : a ≡ u = cc in
    clash (is_foreign me u) fus.0 (subst (λ e. is_foreign me e ≡ false) heads own)
after_own me (x ∷ xs) ys [] vs a b own fus fvs is =
    let tails : xs ++ a ∷ ys ≡ vs = cc in
    clash (is_foreign me a) (all_right (λ e. is_foreign me e ≡ true) xs (a ∷ ys) (subst (Others me) (sym tails) fvs)).0 own
after_own me (x ∷ xs) ys (u ∷ us) vs a b own fus fvs is =
    let tails : xs ++ a ∷ ys ≡ us ++ b ∷ vs = cc in
    after_own me xs ys us vs a b own fus.1 fvs tails

-- it lists in a folder, or removes what isn't this folder whole
abbrev pub leaves_there : Spot → Request → Reply → Bool
leaves_there spot (ListIn inner) reply = true
leaves_there spot (RemoveFileIn inner) reply = true
leaves_there spot (RemoveDirIn inner) reply = true
leaves_there spot (RemoveFolder gone) Done = not (spot_eq gone spot)
leaves_there spot (RemoveFolder gone) reply = true
leaves_there spot request reply = false

same_standing : (spot : Spot) (k : Standing) (request : Request) (reply : Reply) → leaves_there spot request reply ≡ true → standing_replied k request reply ≡ k
same_standing spot k (ListIn inner) Done on = refl
same_standing spot k (RemoveFileIn inner) Done on = refl
same_standing spot k (RemoveDirIn inner) Done on = refl
same_standing spot k (RemoveFolder gone) Done on = refl
same_standing spot k (ListIn inner) (Opened h) on = refl
same_standing spot k (RemoveFileIn inner) (Opened h) on = refl
same_standing spot k (RemoveDirIn inner) (Opened h) on = refl
same_standing spot k (RemoveFolder gone) (Opened h) on = refl
same_standing spot k request (Refused e left) on = refl
same_standing spot k (ListIn inner) reply on = refl
same_standing spot k (RemoveFileIn inner) reply on = refl
same_standing spot k (RemoveDirIn inner) reply on = refl
same_standing spot k (RemoveFolder gone) reply on = refl
same_standing spot k request reply on = cc

never_begins : (spot : Spot) (request : Request) (reply : Reply) → leaves_there spot request reply ≡ true → not (is_begin request) ≡ true
never_begins spot (Begin intent) reply on = cc
never_begins spot request reply on = refl

module _ (me : ℕ) (name : List ℕ) where
  abbrev spot : Spot
  spot = removed_spot name

  abbrev pub LeavesIt : Event → Type 0
  LeavesIt e = (is_foreign me e || leaves_there spot e.request e.reply) ≡ true

  abbrev Lives : List Event → Type 0
  Lives h = lives (state_after h).namespace me ≡ true

  abbrev HasLock : List Event → Type 0
  HasLock h = may_remove (seen_of me h).standing spot ≡ true

  -- no open listing of this process missed it
  abbrev Found : List Event → Type 0
  Found h = (l : OpenListing) → In l (state_after h).listings → l.process ≡ me → missing_by (root_of spot) l.listed ≡ false

  found_on : (h : List Event) (e : Event) → ((l : OpenListing) → e.reply ≡ Begun → listing_begun (state_after h) e.process e.request ≡ Some l → l.process ≡ me → missing_by (root_of spot) l.listed ≡ false) → Found h → Found (h ++ e ∷ [])
  found_on h e begins was l i mine = by (listing_from st e.process e.request e.reply l (subst (λ (s : DirState). In l s.listings) (state_after-push h e) i))
    where
      st : DirState
      st = state_after h

      by : (In l st.listings ⊎ ((l0 : OpenListing) × (In l0 st.listings × (l ≡ noted_by st l0)))) ⊎ ((e.reply ≡ Begun) × (listing_begun st e.process e.request ≡ Some l)) → missing_by (root_of spot) l.listed ≡ false
      by (inl (inl j)) = was l j mine
      by (inl (inr x)) =
          ap (λ (z : OpenListing). missing_by (root_of spot) z.listed) x.1.1 ∙ (noted_missing st (root_of spot) x.0.listed
          ∙ was x.0 x.1.0 (sym (ap (λ (z : OpenListing). z.process) x.1.1) ∙ mine))
      by (inr x) = begins l x.0 x.1 mine

  found_foreign : (h : List Event) (e : Event) → is_foreign me e ≡ true → Found h → Found (h ++ e ∷ [])
  found_foreign h e foreign was = found_on h e begins was
    where
      begins : (l : OpenListing) → e.reply ≡ Begun → listing_begun (state_after h) e.process e.request ≡ Some l → l.process ≡ me → missing_by (root_of spot) l.listed ≡ false
      begins l is b mine =
          let x = begun_by (state_after h) e.process e.request l b in
          let own : e.process ≡ me = sym x.0 ∙ mine in
          clash (is_foreign me e) foreign (ap (λ k. not (e.process == me) || k) x.1 ∙ ap (λ c. not c || false) (ap (λ p. p == me) own ∙ same_self me))

  -- a folder that stood in the area at some moment stands there at the end
  stood_now : (es h : List Event) → IsConforming (h ++ es) → Others me es → Lives (h ++ es) → HasLock (h ++ es) → Found h → StandsInArea Removed name (state_after h) → (f : ℕ) × KeptAt me spot f (h ++ es)
  stood_now es h law foreign living lock was there =
      let x = some_number (folder_at (state_after h).namespace spot) (named_stands (state_after h) name there) in (
        x.0,
        folder_kept me spot refl es h x.0 law
            (all_weaker (λ e. is_foreign me e ≡ true) (IsQuiet me spot refl) (λ e f. ap (λ b. b || leaves_folders e.request e.reply) f) es foreign) living lock (record { at = x.1; found = was }),
      )

  stood : (es h : List Event) → IsConforming (h ++ es) → Others me es → Lives (h ++ es) → HasLock (h ++ es) → Found h → Sometime (StandsInArea Removed name) (state_after h) es → (f : ℕ) × KeptAt me spot f (h ++ es)
  stood [] h law foreign living lock was here = stood_now [] h law foreign living lock was here
  stood (e ∷ es) h law foreign living lock was (inl here) = stood_now (e ∷ es) h law foreign living lock was here
  stood (e ∷ es) h law foreign living lock was (inr later) =
      let same : (h ++ e ∷ []) ++ es ≡ h ++ e ∷ es = append_assoc h (e ∷ []) es in
      let x = stood es (h ++ e ∷ []) (subst IsConforming (sym same) law) foreign.1 (subst Lives (sym same) living) (subst HasLock (sym same) lock) (found_foreign h e foreign.0 was)
      (subst (λ (s : DirState). Sometime (StandsInArea Removed name) s es) (sym (state_after-push h e)) later) in
      (x.0, subst (KeptAt me spot x.0) same x.1)

  -- so each that the listing showed
  listed_there : {start listed : List Event} {names : List (List ℕ)} → Listing me start (ListArea Removed) (Names names) listed → ShowsArea me start listed Removed names → has_name names name ≡ true → IsConforming listed → Lives listed → HasLock listed
      → (f : ℕ) × KeptAt me spot f listed
  listed_there {start} {listed} {names} l x shown law living lock = (y.0, subst (KeptAt me spot y.0) (sym grown) (ends y.0 y.1))
    where
      b : Event
      b = event me (ListArea Removed) Begun

      n : Event
      n = event me (ListArea Removed) (Names names)

      g : List Event
      g = x.stretch.begun

      h : List Event
      h = g ++ x.stretch.others

      front : List Event
      front = start ++ x.stretch.before

      grown : listed ≡ h ++ n ∷ []
      grown = x.stretch.ends

      first : l.between ≡ l.begins.before ++ b ∷ []
      first = by l.begins.own
        where
          by : TookPlace l.begins.before me (ListArea Removed) Begun l.between ⊎ LeftNothing l.begins.before me (ListArea Removed) Begun l.between → l.between ≡ l.begins.before ++ b ∷ []
          by (inl took) = took.grown
          by (inr left) = let e : false ≡ true = left.late in cc

      last : listed ≡ l.ends.before ++ n ∷ []
      last = by l.ends.own
        where
          by : TookPlace l.ends.before me (ListArea Removed) (Names names) listed ⊎ LeftNothing l.ends.before me (ListArea Removed) (Names names) listed → listed ≡ l.ends.before ++ n ∷ []
          by (inl took) = took.grown
          by (inr left) = let e : false ≡ true = left.late in cc

      by_stretch : h ≡ start ++ (x.stretch.before ++ b ∷ x.stretch.others)
      by_stretch = ap (λ z. z ++ x.stretch.others) x.stretch.opens ∙ (append_assoc front (b ∷ []) x.stretch.others ∙ append_assoc start x.stretch.before (b ∷ x.stretch.others))

      by_calls : h ≡ start ++ (l.begins.meanwhile.others ++ b ∷ l.ends.meanwhile.others)
      by_calls = same_front h l.ends.before n n (sym grown ∙ last)
          ∙ (l.ends.meanwhile.grown ∙ (ap (λ z. z ++ l.ends.meanwhile.others) (first ∙ ap (λ z. z ++ b ∷ []) l.begins.meanwhile.grown)
          ∙ (append_assoc (start ++ l.begins.meanwhile.others) (b ∷ []) l.ends.meanwhile.others ∙ append_assoc start l.begins.meanwhile.others (b ∷ l.ends.meanwhile.others))))

      foreign : Others me x.stretch.others
      foreign = after_own me x.stretch.before x.stretch.others l.begins.meanwhile.others l.ends.meanwhile.others b b (ap (λ c. not c || false) (same_self me))
          l.begins.meanwhile.foreign l.ends.meanwhile.foreign (same_rest start _ _ (sym by_stretch ∙ by_calls))

      shown_law : IsConforming (h ++ n ∷ [])
      shown_law = subst IsConforming grown law

      begun_law : IsConforming (front ++ b ∷ [])
      begun_law = subst IsConforming x.stretch.opens (conforming_left g (x.stretch.others ++ n ∷ []) (subst IsConforming (append_assoc g x.stretch.others (n ∷ [])) shown_law))

      s : Steps front me (ListArea Removed) Begun
      s = steps front b begun_law refl refl

      none : Found front
      none z i mine = clash (is_listing (state_after front) me) (in_any (is_listing_of me) z (state_after front).listings i (ap (λ p. p == me) mine ∙ same_self me)) (not_true (is_listing (state_after front) me) s.is)

      begins : (z : OpenListing) → b.reply ≡ Begun → listing_begun (state_after front) me (ListArea Removed) ≡ Some z → z.process ≡ me → missing_by (root_of spot) z.listed ≡ false
      begins z is q mine = subst (λ (w : OpenListing). missing_by (root_of spot) w.listed ≡ false) (some_same q) refl

      was : Found g
      was = subst Found (sym x.stretch.opens) (found_on front b begins none)

      y : (f : ℕ) × KeptAt me spot f h
      y = stood x.stretch.others g (conforming_left h (n ∷ []) shown_law) foreign
          (subst (λ (st : DirState). lives st.namespace me ≡ true) (state_after-push h n) (subst Lives grown living))
          (subst (λ (z : Seen). may_remove z.standing spot ≡ true) (own_seen me h (ListArea Removed) (Names names) refl) (subst HasLock grown lock))
          was (x.only name shown)

      ends : (f : ℕ) → KeptAt me spot f h → KeptAt me spot f (h ++ n ∷ [])
      ends f k = record {
        at = subst (λ (st : DirState). folder_at st.namespace spot ≡ Some f) (sym (state_after-push h n)) k.at;
        found = found_on h n (λ z is q mine. let e : Names names ≡ Begun = is in cc) k.found;
      }

  -- another folder was removed
  removed_other : (h : List Event) (p : ℕ) (request : Request) (reply : Reply) (f : ℕ) → IsConforming (h ++ event p request reply ∷ []) → leaves_there spot request reply ≡ true → leaves_folders request reply ≡ false
      → KeptAt me spot f h → KeptAt me spot f (h ++ event p request reply ∷ [])
  removed_other h p (RemoveFolder gone) Done f law on off k = record {
    at = subst (λ (st : DirState). folder_at st.namespace spot ≡ Some f) (sym (state_after-push h (event p (RemoveFolder gone) Done)))
        (untaken (state_after h) p (RemoveFolder gone) Done spot (happens h (event p (RemoveFolder gone) Done) law).is (stands_there (state_after h).namespace spot f k.at) (not_true (spot_eq gone spot) on) ∙ k.at);
    found = found_on h (event p (RemoveFolder gone) Done) (λ z is q mine. let e : Done ≡ Begun = is in cc) k.found;
  }
  removed_other h p (RemoveFolder gone) reply f law on off k = cc
  removed_other h p (ListIn inner) reply f law on off k = cc
  removed_other h p (RemoveFileIn inner) reply f law on off k = cc
  removed_other h p (RemoveDirIn inner) reply f law on off k = cc
  removed_other h p request reply f law on off k = cc

  same_after : (s : Seen) (es : List Event) → AllByRecursion LeavesIt es → (seen_after me s es).standing ≡ s.standing
  same_after s [] all = refl
  same_after s (e ∷ es) all = same_after (seen_after_event me s e) es all.1 ∙ by (is_foreign me e) refl all.0
    where
      by : (b : Bool) → is_foreign me e ≡ b → (b || leaves_there spot e.request e.reply) ≡ true → (seen_after_event me s e).standing ≡ s.standing
      by true f q = ap (λ b. (cond b s (seen_replied s e.request e.reply)).standing) f
      by false f q = ap (λ b. (cond b s (seen_replied s e.request e.reply)).standing) f ∙ same_standing spot s.standing e.request e.reply q

  lock_back : (h es : List Event) → AllByRecursion LeavesIt es → HasLock (h ++ es) → HasLock h
  lock_back h es all lock = ap (λ (z : Standing). may_remove z spot) (sym (ap (λ (s : Seen). s.standing) (seen_after-append me nothing_seen h es) ∙ same_after (seen_of me h) es all)) ∙ lock

  lives_back : (h es : List Event) → AllByRecursion LeavesIt es → Lives (h ++ es) → Lives h
  lives_back h es all living =
      lived_first me (state_after h) es
      (all_weaker LeavesIt (λ e. (is_foreign me e || not (is_begin e.request)) ≡ true)
      (λ e. or_map (is_foreign me e) (leaves_there spot e.request e.reply) (not (is_begin e.request)) (never_begins spot e.request e.reply)) es all)
      (subst (λ (s : DirState). lives s.namespace me ≡ true) (states_next-append empty_state h es) living)

  -- it stands on while this process deletes others
  kept_along : (es h : List Event) (f : ℕ) → IsConforming (h ++ es) → AllByRecursion LeavesIt es → Lives (h ++ es) → HasLock (h ++ es) → KeptAt me spot f h → KeptAt me spot f (h ++ es)
  kept_along [] h f law leaves living lock k = subst (KeptAt me spot f) (sym (append-nil h)) k
  kept_along (e ∷ es) h f law leaves living lock k =
      subst (KeptAt me spot f) same
      (kept_along es (h ++ e ∷ []) f back leaves.1 (subst Lives (sym same) living) (subst HasLock (sym same) lock) (step (leaves_folders e.request e.reply) refl))
    where
      same : (h ++ e ∷ []) ++ es ≡ h ++ e ∷ es
      same = append_assoc h (e ∷ []) es

      back : IsConforming ((h ++ e ∷ []) ++ es)
      back = subst IsConforming (sym same) law

      here : IsConforming (h ++ e ∷ [])
      here = conforming_left (h ++ e ∷ []) es back

      quiet : (is_foreign me e || leaves_folders e.request e.reply) ≡ true → KeptAt me spot f (h ++ e ∷ [])
      quiet q = folder_kept me spot refl (e ∷ []) h f here (q, tt) (lives_back (h ++ e ∷ []) es leaves.1 (subst Lives (sym same) living)) (lock_back (h ++ e ∷ []) es leaves.1 (subst HasLock (sym same) lock)) k

      step : (b : Bool) → leaves_folders e.request e.reply ≡ b → KeptAt me spot f (h ++ e ∷ [])
      step true q = quiet (or_last (is_foreign me e) (leaves_folders e.request e.reply) q)
      step false q = by (is_foreign me e) refl leaves.0
        where
          by : (b : Bool) → is_foreign me e ≡ b → (b || leaves_there spot e.request e.reply) ≡ true → KeptAt me spot f (h ++ e ∷ [])
          by true foreign on = quiet (ap (λ b. b || leaves_folders e.request e.reply) foreign)
          by false own on = removed_other h e.process e.request e.reply f here on q k

  pub shown_stands : {start listed : List Event} {names : List (List ℕ)} (es : List Event) → ListStep me start (ListArea Removed) (Names names) listed → ShowsArea me start listed Removed names → has_name names name ≡ true → AllByRecursion LeavesIt es
      → IsConforming (listed ++ es) → Lives (listed ++ es) → HasLock (listed ++ es) → (f : ℕ) × KeptAt me spot f (listed ++ es)
  shown_stands {start} {listed} {names} es (inr u) shows shown leaves law living lock = let e : false ≡ true = u.late.late in cc
  shown_stands {start} {listed} {names} es (inl l) shows shown leaves law living lock =
      let x = listed_there l shows shown (conforming_left listed es law) (lives_back listed es leaves living) (lock_back listed es leaves lock) in
      (x.0, kept_along es listed x.0 law leaves living lock x.1)
