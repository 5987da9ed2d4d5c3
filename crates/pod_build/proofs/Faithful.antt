-- A pod that was prepared was made faithfully, whatever others did; and in a conforming execution it stands there as it was made.
use Rattle.std.proofs.Common.{◌≡◌, ℕ, Bool, true, false, not, ◌||◌, cond, Option, Some, None, List, [], ◌∷◌, ◌++◌, unwrap_or, refl, sym, ap, subst, ◌∙◌, append-nil, append_assoc, arith}
use Rattle.std.specs.List.{AllByRecursion}
use Rattle.plain_laws.proofs.Booleans.{clash}
use Rattle.ac_types.specs.declared.image_ref.ImageRef.{ImageRef}
use Rattle.dir_model.specs.declared.area.Area.{Area}
use Rattle.dir_model.specs.declared.area.Area.TheVariants.{Prepare}
use Rattle.dir_model.specs.declared.event.Event.{Event}
use Rattle.dir_model.specs.declared.intent.Draw.{Draw}
use Rattle.dir_model.specs.declared.intent.Intent.{Intent}
use Rattle.dir_model.specs.declared.pod.PodId.{PodId}
use Rattle.dir_model.specs.declared.request.Request.{Request}
use Rattle.dir_model.specs.declared.request.Request.TheVariants.{Begin, ListArea, ListIn, ReadIn, MoveFolder}
use Rattle.dir_model.specs.declared.request.Reply.{Reply}
use Rattle.dir_model.specs.declared.request.Reply.TheVariants.{Done, Opened, Refused}
use Rattle.dir_model.specs.declared.spot.Spot.{Spot}
use Rattle.dir_model.specs.Calls.{Extends, IsRun, event, is_allowed, is_begin, is_foreign, may_step}
use Rattle.dir_model.specs.Paths.{is_well_formed}
use Rattle.dir_model.specs.State.{DirState, empty_state, has_begun, lives}
use Rattle.dir_model.specs.declared.area.Area.TheVariants as area
use Rattle.dir_model.specs.Trace.{state_after}
use Rattle.dir_model.proofs.Chains.{run_from-right, states_next-append, and_more, extends_wider}
use Rattle.dir_model.proofs.Lists.{all_right, all_weaker, and_left, and_right, or_map}
use Rattle.dir_rules.specs.declared.standing.Held.{Held}
use Rattle.dir_rules.specs.declared.standing.Standing.{Standing}
use Rattle.dir_rules.specs.declared.seen.Making.{Making}
use Rattle.dir_rules.specs.declared.seen.Seen.{Seen}
use Rattle.dir_rules.specs.Seen.{spoilt}
use Rattle.dir_rules.specs.Standing.{shares_area}
use Rattle.dir_rules.specs.Conforms.{IsTied, lost, seen_of, seen_replied}
use Rattle.dir_laws.proofs.Living.{lived_first}
use Rattle.dir_trait.specs.DirCalls.{DirAt}
use Rattle.dir_trait.specs.Knowledge.{Knows}
use Rattle.folder_building.proofs.Following.{Follows}
use Rattle.lifecycle.specs.Executions.{IsConforming}
use Rattle.folder_contents.specs.Handing.{hands_over}
use Rattle.folder_contents.specs.UnderGate.{KnowsAlong, shares_images}
use Rattle.folder_contents.proofs.Along.{each_beginning, foreign_same, one_of, own_next}
use Rattle.folder_contents.proofs.Handed.{moves_hand_over}
use Rattle.lifecycle.proofs.Handles.{is_due}
use Rattle.gate_reading.proofs.GoingOn.{knows_standing, knows_gate}
use Rattle.image_reading.specs.Looks.{reads_images}
use Rattle.manifests.specs.PodData.{pod_data}
use Rattle.pod_manifest.specs.Wishes.{Wishes}
use Rattle.pod_plan.specs.FaithfulPods.{IsPodOf, read_between}
use Rattle.dir_model.specs.Spots.{pod_spot}
use Rattle.pod_build.specs.MakingRequests.{makes_pod}
use Rattle.pod_build.specs.Progress.{seen_making, holding, nothing_made}
use Rattle.pod_build.specs.Makings.{HasMovedPod}
use Rattle.pod_build.specs.Handovers.{BeforeHandingOver, KnewMade}
use Rattle.pod_build.proofs.Handing.{until_step}
use Rattle.pod_build.specs.Preparations.{Began, HasPrepared, ReadsThenMakes, IsHandedOver, IsPrepared}
use Rattle.pod_build.specs.FaithfulBuild.{HasImagesBetween, IsFaithfulBuild, HandsOverFaithfully}

-- none of these requests begins a process
reads_begin_none : (request : Request) → reads_images request ≡ true → not (is_begin request) ≡ true
reads_begin_none (Begin intent) a = cc
reads_begin_none request a = refl

making_begins_none : (draw : PodId) (to : Area) (request : Request) → makes_pod draw to request ≡ true → not (is_begin request) ≡ true
making_begins_none draw to (Begin intent) a = cc
making_begins_none draw to request a = refl

begins_none : {asks : Request → Bool} {me : ℕ} {old new : List Event} → ((request : Request) → asks request ≡ true → not (is_begin request) ≡ true) → (e : Extends asks me old new)
    → AllByRecursion (λ x. (is_foreign me x || not (is_begin x.request)) ≡ true) e.more
begins_none {asks} {me} f e =
    all_weaker (λ x. (is_foreign me x || asks x.request) ≡ true) (λ x. (is_foreign me x || not (is_begin x.request)) ≡ true)
    (λ x. or_map (is_foreign me x) (asks x.request) (not (is_begin x.request)) (f x.request)) e.more e.asked

-- who lives after such requests lived before them
lived_before : (me : ℕ) (before more : List Event) → AllByRecursion (λ x. (is_foreign me x || not (is_begin x.request)) ≡ true) more → lives (state_after (before ++ more)).namespace me ≡ true → lives (state_after before).namespace me ≡ true
lived_before me before more each living = lived_first me (state_after before) more each (subst (λ (s : DirState). lives s.namespace me ≡ true) (states_next-append empty_state before more) living)

-- work after work
follows_then : {observed : Bool} {a b c : DirAt} → Follows observed a b → Follows observed b c → Follows observed a c
follows_then {observed} {a} {b} {c} ab bc = record {
  same = bc.same ∙ ab.same;
  faults = omega (arith, ab.faults, bc.faults);
  asks = λ request. true;
  extends = λ t. and_more (extends_wider (λ request is. refl) (ab.extends t)) ab.same (extends_wider (λ request is. refl) (bc.extends t));
}

-- in a run, who takes a step that begins nothing lives
alive_in_run : (h : List Event) (e : Event) (later : List Event) → IsRun (h ++ e ∷ later) → is_begin e.request ≡ false → lives (state_after h).namespace e.process ≡ true
alive_in_run h e later run on =
    ap (λ c. cond c (not (has_begun (state_after h).namespace e.process)) (lives (state_after h).namespace e.process)) (sym on) ∙ due
  where
    steps : may_step (state_after h) e.process e.request ≡ true
    steps = and_left (may_step (state_after h) e.process e.request) _ (and_left (is_allowed (state_after h) e) _ (run_from-right empty_state h (e ∷ later) run))

    due : is_due (state_after h).namespace e.process e.request ≡ true
    due = and_right (is_well_formed e.request) (is_due (state_after h).namespace e.process e.request) steps

-- reads of images leave what a process knows of locks as it is
reads_stand : (s : Seen) (request : Request) (reply : Reply) → reads_images request ≡ true → (seen_replied s request reply).standing ≡ s.standing
reads_stand s (ReadIn inner at room) Done a = refl
reads_stand s (ReadIn inner at room) (Opened handle) a = refl
reads_stand s (ReadIn inner at room) (Refused error left) a = refl
reads_stand s (ReadIn inner at room) reply a = refl
reads_stand s (ListIn inner) Done a = refl
reads_stand s (ListIn inner) (Opened handle) a = refl
reads_stand s (ListIn inner) (Refused error left) a = refl
reads_stand s (ListIn inner) reply a = refl
reads_stand s (ListArea area) Done a = refl
reads_stand s (ListArea area) (Opened handle) a = refl
reads_stand s (ListArea area) (Refused error left) a = refl
reads_stand s (ListArea area) reply a = refl
reads_stand s request reply a = cc

-- so a process that only reads images has their lock all along
holds_on : (p : ℕ) (before more : List Event) → AllByRecursion (λ e. (is_foreign p e || reads_images e.request) ≡ true) more →
    lives (state_after (before ++ more)).namespace p ≡ true → shares_images (seen_of p before) ≡ true → KnowsAlong shares_images p before more
holds_on p before more asked living held x y is = (
  lived_before p (before ++ x) y (all_weaker _ _ (λ e. or_map (is_foreign p e) (reads_images e.request) (not (is_begin e.request)) (reads_begin_none e.request)) y (all_right _ x y (subst Asked is asked)))
      (subst (λ (h : List Event). lives (state_after h).namespace p ≡ true) (ap (λ (l : List Event). before ++ l) is ∙ sym (append_assoc before x y)) living),
  ap (shares_area area.Images) (each_beginning Same more step (ap (λ (h : List Event). (seen_of p h).standing) (append-nil before)) x y is) ∙ held,
)
  where
    Asked : List Event → Type 0
    Asked l = AllByRecursion (λ e. (is_foreign p e || reads_images e.request) ≡ true) l

    Same : List Event → Type 0
    Same z = (seen_of p (before ++ z)).standing ≡ (seen_of p before).standing

    step : (z : List Event) (e : Event) (w : List Event) → more ≡ z ++ e ∷ w → Same z → Same (z ++ e ∷ [])
    step z e w split same =
        subst (λ (h : List Event). (seen_of p h).standing ≡ (seen_of p before).standing) (append_assoc before z (e ∷ []))
        (by (is_foreign p e) refl (one_of (λ a. (is_foreign p a || reads_images a.request) ≡ true) z e w (subst Asked split asked)) ∙ same)
      where
        by : (f : Bool) → is_foreign p e ≡ f → (is_foreign p e || reads_images e.request) ≡ true →
            (seen_of p ((before ++ z) ++ e ∷ [])).standing ≡ (seen_of p (before ++ z)).standing
        by true f a = ap (λ (s : Seen). s.standing) (foreign_same p (before ++ z) e f)
        by false f a =
            ap (λ (s : Seen). s.standing) (own_next p (before ++ z) e f)
            ∙ reads_stand (seen_of p (before ++ z)) e.request e.reply (sym (ap (λ b. b || reads_images e.request) f) ∙ a)

-- what a process knows to be clean is what its events say
clean_known : (spoils : Bool) (o : Option Making) (m : Making) → lost spoils o ≡ Some m → m.clean ≡ true → o ≡ Some m
clean_known false o m same clean = same
clean_known true None m same clean = cc
clean_known true (Some y) m same clean =
    let is : spoilt y ≡ m = ap (λ (z : Option Making). unwrap_or z m) same in
    clash m.clean clean (ap (λ (z : Making). z.clean) (sym is))

-- whoever lives when it has read and made all, has made it faithfully
module _ {refs : List ImageRef} {options : Wishes} {draw : Draw} {now : ℕ} {to : Area} {intent : Intent} {under : List Held} {b : DirAt} {before : List Event} (me : ℕ) (is_me : b.process ≡ me) (began : Began to draw now intent)
    (gate : shares_images (seen_making intent under nothing_made) ≡ true) (knows : Knows b (seen_making intent under nothing_made)) (x : ReadsThenMakes refs options draw now to intent b before)
    (living : lives (state_after before).namespace me ≡ true) where
  abbrev c : DirAt
  c = x.mid

  read : Extends reads_images b.process b.trace c.trace
  read = x.reads.extends refl

  lives_c : lives (state_after c.trace).namespace c.process ≡ true
  lives_c = lived_before c.process c.trace x.makes.more (begins_none (making_begins_none draw.uuid to) x.makes)
      (subst (λ (h : List Event). lives (state_after h).namespace c.process ≡ true) x.makes.grown (subst (λ (p : ℕ). lives (state_after before).namespace p ≡ true) (sym (x.reads.same ∙ is_me)) living))

  lives_read : lives (state_after (b.trace ++ read.more)).namespace b.process ≡ true
  lives_read = subst (λ (h : List Event). lives (state_after h).namespace b.process ≡ true) read.grown
      (subst (λ (p : ℕ). lives (state_after c.trace).namespace p ≡ true) x.reads.same lives_c)

  lives_b : lives (state_after b.trace).namespace b.process ≡ true
  lives_b = lived_before b.process b.trace read.more (begins_none reads_begin_none read) lives_read

  -- it had the lock of images while it read
  under_lock : HasImagesBetween me before b c
  under_lock = record {
    before = is_me;
    after = x.reads.same ∙ is_me;
    stretch = read.more;
    later = x.makes.more;
    goes_on = read.grown;
    ends = x.makes.grown;
    held = subst (λ (p : ℕ). KnowsAlong shares_images p b.trace read.more) is_me (holds_on b.process b.trace read.more read.asked lives_read (knows_gate knows.tied lives_b gate));
  }

  knew : IsTied me before x.knew.seen
  knew = subst (λ (p : ℕ). IsTied p before x.knew.seen) (x.reads.same ∙ is_me) x.knew.knew

  -- what it knew of its folder is what its events say
  making_is : (seen_of me before).making ≡ Some (holding (pod_spot draw.uuid Prepare) x.knew.entries)
  making_is =
      let g = knew.living living in
      clean_known g.spoils (seen_of me before).making (holding (pod_spot draw.uuid Prepare) x.knew.entries) (sym (ap (λ (s : Seen). s.making) g.same) ∙ x.knew.making) refl

  abbrev Pod : ℕ → List ℕ → Type 0
  Pod n token = IsPodOf (read_between x.planned.images b c) (pod_data x.planned.choice.manifest) n token x.knew.entries

  pod : Pod intent.now intent.token
  pod = subst (λ (n : ℕ). Pod n intent.token) (sym began.moment) (subst (λ (token : List ℕ). Pod now token) (sym began.token) (x.planned.makes x.knew.entries x.knew.made))

  abbrev faithful_build : IsFaithfulBuild me before
  faithful_build = record {
    old = b;
    new = c;
    under_lock = under_lock;
    images = x.planned.images;
    listed = x.planned.listed;
    manifest = pod_data x.planned.choice.manifest;
    built = record {
      intent = intent;
      began = ap (λ (s : Standing). s.intent) (sym (knows_standing knew living)) ∙ x.knew.began;
      making = holding (pod_spot draw.uuid Prepare) x.knew.entries;
      made = making_is;
      pod = pod;
    };
  }

-- so each move out of prepare was
pub hands_faithfully : {refs : List ImageRef} {options : Wishes} {draw : Draw} {now : ℕ} {to : Area} {intent : Intent} {under : List Held} {b : DirAt} {trace : List Event} → IsRun trace → Began to draw now intent →
    shares_images (seen_making intent under nothing_made) ≡ true → Knows b (seen_making intent under nothing_made) → BeforeHandingOver (ReadsThenMakes refs options draw now to intent b) b.process b.trace trace →
    HandsOverFaithfully b.process b.trace trace
hands_faithfully {b = b} run began gate knows x = record {
  so = λ before meanwhile later from there begins moved out.
      faithful_build b.process refl began gate knows (x.so before meanwhile later from there begins moved out)
      (alive_in_run before (event b.process (MoveFolder from there) Done) later (subst IsRun moved run) refl);
}

module _ {observed : Bool} {refs : List ImageRef} {options : Wishes} {draw : Draw} {now : ℕ} {to : Area} {intent : Intent} {hs under : List Held} {a b d e : DirAt}
    (t : observed ≡ true) (run : IsRun e.trace) (began : Began to draw now intent) (ab : Follows observed a b) (de : Follows observed d e)
    (gate : shares_images (seen_making intent under nothing_made) ≡ true) (knows : Knows b (seen_making intent under nothing_made)) (x : HasPrepared refs options draw now to intent hs b d) where
  abbrev from : Spot
  from = pod_spot draw.uuid Prepare

  abbrev there : Spot
  there = pod_spot draw.uuid to

  -- the move
  abbrev m : HasMovedPod x.mid.process from there x.made.entries intent x.mid.trace d.trace
  m = x.made.moved

  abbrev step : Event
  step = event a.process (MoveFolder from there) Done

  same : x.mid.process ≡ a.process
  same = x.reads.same ∙ ab.same

  abbrev later : List Event
  later = m.later ++ (de.extends t).more

  moved : e.trace ≡ m.before ++ step ∷ later
  moved = (de.extends t).grown ∙ (ap (λ h. h ++ (de.extends t).more) (subst (λ (p : ℕ). d.trace ≡ m.before ++ event p (MoveFolder from there) Done ∷ m.later) same m.moved)
      ∙ append_assoc m.before (step ∷ m.later) (de.extends t).more)

  -- until then it had read and made
  abbrev made : ReadsThenMakes refs options draw now to intent b m.before
  made =
      let knew : KnewMade x.mid.process draw.uuid x.plan intent m.before = record { entries = x.made.entries; made = x.made.made; seen = m.seen; began = m.began; making = m.making; knew = m.knew } in
      record { mid = x.mid; reads = x.reads; plan = x.plan; planned = x.planned; makes = until_step m.before m.meanwhile m.later (event x.mid.process (MoveFolder from there) Done) x.works m.begins m.moved; knew = knew }

  bc : Follows observed b x.mid
  bc = record { same = x.reads.same; faults = x.reads.faults; asks = reads_images; extends = λ u. x.reads.extends refl }

  abbrev earlier : List Event
  earlier = ((follows_then ab bc).extends t).more ++ m.meanwhile

  begins : m.before ≡ a.trace ++ earlier
  begins = m.begins ∙ (ap (λ h. h ++ m.meanwhile) ((follows_then ab bc).extends t).grown ∙ append_assoc a.trace ((follows_then ab bc).extends t).more m.meanwhile)

  abbrev living : lives (state_after m.before).namespace a.process ≡ true
  living = alive_in_run m.before step later (subst IsRun moved run) refl

  abbrev faithful : IsFaithfulBuild a.process m.before
  faithful = faithful_build a.process ab.same began gate knows made living

  pub is_handed_over : IsHandedOver a.process draw.uuid to a.trace e.trace
  is_handed_over = record { before = m.before; later = later; meanwhile = earlier; begins = begins; moved = moved; faithful = faithful }

  -- and in a conforming execution it stands there so
  pub is_prepared : IsConforming e.trace → hands_over Prepare to ≡ true → IsPrepared refs options a.process draw.uuid to a.trace e.trace
  is_prepared conforms hands =
      let left = moves_hand_over e.trace conforms m.before a.process from there later moved hands in
      let same : left.1.making ≡ holding from x.made.entries = one_making (sym left.1.knew ∙ making_is a.process ab.same began gate knows made living) in
      record {
        before = m.before;
        later = later;
        meanwhile = earlier;
        begins = begins;
        moved = moved;
        faithful = faithful;
        choice = x.planned.choice;
        chosen = x.planned.chosen;
        manifest = refl;
        folder = left.0;
        stands = left.1.stands;
        holds = left.1.same ∙ ap (λ (y : Making). y.entries) same;
      }
    where
      one_making : {y z : Making} → Some y ≡ Some z → y ≡ z
      one_making {y} {z} is = ap (λ o. unwrap_or o y) is
